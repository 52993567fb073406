use Rattle.std.proofs.Common.{◌≡◌, ℕ, ◌++◌, ◌∷◌, [], List, Vec, length, take, drop, sym, ◌∙◌, ap, subst, arith, append_assoc, length-drop}
use Rattle.std.proofs.lemmas.List.{drop_all}
use Rattle.std.specs.Int.{to_be_bytes, w64}
use Rattle.std.specs.declared.alloc.Global.{Global}
use Rattle.report_journal.specs.Journal.{block, blocks}
use Rattle.report_journal.specs.Log.{contents}
use Rattle.journal_checkpoint.proofs.Packs.{PacksBefore, blocks_push, packs_end, packs_next}
use Rattle.journal_checkpoint.proofs.packing.packed_bytes.Goals as goal

pub loop-at-preserved : goal.loop-at-preserved
loop-at-preserved c =
    let inv = c.loop-at.invariant in
    let xs = c.args.records.now in
    let at = c.loop-at.at in
    let rest = c.records_from-rest.result.now in
    let n = c.fitting-n.result in
    let fits = c.fitting-n.ensures in
    let number = to_be_bytes w64 c.args.generation in
    let part = contents (take n rest) in
    record {
      within = (let size = ap length c.records_from-rest.ensures in let left = length-drop at xs in omega (arith, fits.within, size, left, inv.within));
      parts = inv.parts ++ part ∷ [];
      packs = packs_next xs rest at n inv.parts c.records_from-rest.ensures inv.packs fits.some fits.within fits.size fits.full;
      bytes = c.in_ok-put_block.ensures.ok ∙ ap (λ (l : List ℕ). l ++ block part) inv.bytes ∙ append_assoc number (blocks inv.parts) (block part) ∙ ap (λ (l : List ℕ). number ++ l) (sym (blocks_push inv.parts part));
    }

pub returns : goal.returns
returns c =
    let inv = c.loop-at.invariant in
    let xs = c.args.records.now in
    let number = to_be_bytes w64 c.args.generation in
    let none : drop c.loop-at.at xs ≡ [] = drop_all c.loop-at.at xs (omega (arith, c.loop-at-test.false)) in (
      inv.parts,
      packs_end (contents xs) inv.parts (subst (λ (l : List (Vec ℕ Global)). PacksBefore (contents xs) inv.parts (contents l)) none inv.packs),
      c.in_ok-put_u8.ensures.ok ∙ ap (λ (l : List ℕ). l ++ 0 ∷ []) inv.bytes ∙ append_assoc number (blocks inv.parts) (0 ∷ []),
    )
