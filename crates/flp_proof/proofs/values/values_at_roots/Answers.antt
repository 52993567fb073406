use Rattle.std.proofs.Common.{◌≡◌, ℕ, ◌+◌, ◌*◌, ◌%◌, ◌^◌, ◌++◌, ◌∷◌, [], ap, ◌∙◌, sym, arith, get_or, length, map}
use Rattle.std.proofs.lemmas.Nat.{one_shl}
use Rattle.std.specs.List.{range_with_len}
use Rattle.std.proofs.lemmas.List.FromFn.{map-range_with_len_more, length-map-range_with_len}
use Rattle.poly_ntt.specs.Transform.{values_at_powers}
use Rattle.flp_proof.proofs.Folded.{values-folded, written}
use Rattle.flp_proof.proofs.values.values_at_roots.Goals as goal

pub loop-i-init : goal.loop-i-init
loop-i-init g c = c.new-values.ensures.items

pub loop-i-preserved : goal.loop-i-preserved
loop-i-preserved g c =
    let ring = g.F.Field.ring in
    let p = c.args.p.now in
    let i : ℕ = c.loop-i.i in
    let n : ℕ = 2 ^ c.args.log in
    let entry : ℕ → g.row.F.Denot = λ i. ring.add (get_or p i ring.nought) (get_or p (n + i) ring.nought) in
    let order : (1 * 2 ^ c.args.log) % 2 ^ 64 ≡ n = one_shl c.args.log 64 (omega (arith, c.requires.few)) in
    c.in_ok-push.ensures.items ∙ ap (λ l. l ++ (c.add.result ∷ [])) c.loop-i.invariant
    ∙ ap (λ x. map entry (range_with_len 0 i) ++ (x ∷ []))
    (c.add.ensures ∙ ap (λ a. ring.add a c.entry_at-in-loop-i.result) c.entry_at.ensures ∙ ap (ring.add (get_or p i ring.nought)) (c.entry_at-in-loop-i.ensures ∙ ap (λ m. get_or p (m + i) ring.nought) order))
    ∙ sym (map-range_with_len_more entry 0 i i (omega arith))

pub ntt-requires : goal.ntt-requires
ntt-requires g c =
    let ring = g.F.Field.ring in
    let p = c.args.p.now in
    let log : ℕ = c.args.log in
    let whole : c.loop-i.i ≡ 2 ^ log = omega (arith, one_shl log 64 (omega (arith, c.requires.few)), c.loop-i-test.false, c.loop-i.auto.i-end) in
    (log, c.requires.few, ap length (c.deref_mut.ensures.value ∙ c.loop-i.invariant) ∙ length-map-range_with_len (λ i. ring.add (get_or p i ring.nought) (get_or p (2 ^ log + i) ring.nought)) 0 c.loop-i.i ∙ whole)

pub returns : goal.returns
returns g c =
    let F = g.F.Field in
    let ring = F.ring in
    let met = g.met.F.Field in
    let p = c.args.p.now in
    let log : ℕ = c.args.log in
    let entry : ℕ → g.row.F.Denot = λ i. ring.add (get_or p i ring.nought) (get_or p (2 ^ log + i) ring.nought) in
    let whole : c.loop-i.i ≡ 2 ^ log = omega (arith, one_shl log 64 (omega (arith, c.requires.few)), c.loop-i-test.false, c.loop-i.auto.i-end) in
    let items : c.deref_mut.result.now ≡ map entry (range_with_len 0 (2 ^ log)) = c.deref_mut.ensures.value ∙ c.loop-i.invariant ∙ ap (λ n. map entry (range_with_len 0 n)) whole in
    let size : length c.deref_mut.result.now ≡ 2 ^ log = ap length items ∙ length-map-range_with_len entry 0 (2 ^ log) in
    let kept : length c.ntt.new.p ≡ c.loop-i.values.len = c.ntt.auto.p ∙ ap length c.deref_mut.ensures.value ∙ sym c.loop-i.values.ok.0 in
    written c.ntt.new.p c.loop-i.values.items c.loop-i.values.len kept
    ∙ c.ntt.ensures log size
    ∙ ap (values_at_powers ring (F.root_of log) (2 ^ log)) items
    ∙ values-folded met.laws F.half_of F.root_of log p met.halves met.roots (omega (arith, c.requires.few)) c.requires.short
