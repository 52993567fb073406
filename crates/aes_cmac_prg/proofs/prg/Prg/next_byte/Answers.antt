use Rattle.std.proofs.Common.{◌≡◌, ◌≢◌, ℕ, List, ◌+◌, ◌/◌, ◌%◌, slice_index, sym, ap, ◌∙◌, arith}
use Rattle.aes_block.specs.Cipher.{encrypt}
use Rattle.aes_cmac_prg.specs.Stream.{Reading, stream_block, byte_at}
use Rattle.aes_cmac_prg.specs.declared.prg.Prg.TheInside.{Inside}
use Rattle.aes_cmac_prg.proofs.prg.Prg.next_byte.Goals as goal
use Rattle.aes_cmac_prg.proofs.prg.Prg.next_byte.Goals.{then-used-eq0, else-used-eq0}

-- the fields after the running block was made where it was needed
record IsCurrent (before after : Inside) : Type 0 where
  block : after.block ≡ stream_block before.key (before.place / 16)
  place : after.place ≡ before.place
  key : after.key ≡ before.key

fresh : (before after : Inside) (block : List ℕ) → after ≡ record before { block = block } → block ≡ stream_block before.key (before.place / 16) → IsCurrent before after
fresh before after block is e = record {
  block = ap (λ (r : Inside). r.block) is ∙ e;
  place = ap (λ (r : Inside). r.place) is;
  key = ap (λ (r : Inside). r.key) is;
}

kept : (before after : Inside) → after ≡ before → before.block ≡ stream_block before.key (before.place / 16) → IsCurrent before after
kept before after is e = fresh before after before.block is e

still : (before after : Inside) → IsCurrent before after → (after.place + 1) % 16 ≢ 0 → after.block ≡ stream_block after.key ((after.place + 1) / 16)
still before after now ne =
    let same : before.place / 16 ≡ (after.place + 1) / 16 = omega (arith, now.place) in
    now.block ∙ (λ i. stream_block (sym now.key i) (same i))

pub invariant_of-self : goal.invariant_of-self
unfolding stream_block
invariant_of-self c =
    let before = c.self.inside in
    let after = c.if-used-eq0.self-inside in
    elim c.if-used-eq0.branch [
      | then-used-eq0 w ↦ still before after (fresh before after w.encrypt-block.result w.self-inside-is (w.encrypt-block.ensures ∙ ap (encrypt before.key) w.to_be_bytes.ensures))
      | else-used-eq0 w ↦ still before after (kept before after w.self-inside-is (c.self.invariant w.if-used-eq0.false))
    ]

at_place : (before after : Inside) (reading : Reading) → record { key = before.key; place = before.place } ≡ reading → IsCurrent before after
    → slice_index after.block (before.place % 16) ≡ byte_at reading.key reading.place
unfolding byte_at
at_place before after reading view now =
    ap (λ block. slice_index block (before.place % 16)) now.block ∙ ap (λ (r : Reading). byte_at r.key r.place) view

pub returns-clause-byte : goal.returns-clause-byte
unfolding stream_block
returns-clause-byte c =
    let before = c.self.inside in
    let after = c.if-used-eq0.self-inside in
    elim c.if-used-eq0.branch [
      | then-used-eq0 w ↦ at_place before after c.args.self.now c.self.view_is (fresh before after w.encrypt-block.result w.self-inside-is (w.encrypt-block.ensures ∙ ap (encrypt before.key) w.to_be_bytes.ensures))
      | else-used-eq0 w ↦ at_place before after c.args.self.now c.self.view_is (kept before after w.self-inside-is (c.self.invariant w.if-used-eq0.false))
    ]
