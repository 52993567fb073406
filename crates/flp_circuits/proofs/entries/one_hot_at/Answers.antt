use Rattle.std.proofs.Common.{ℕ, ◌++◌, ◌∷◌, [], ap, ◌∙◌, sym, arith, map}
use Rattle.std.specs.Prelude.{nat_eq}
use Rattle.std.specs.List.{range_with_len}
use Rattle.std.proofs.lemmas.List.FromFn.{map-range_with_len_more}
use Rattle.flp_circuits.specs.Kinds.{bit}
use Rattle.flp_circuits.proofs.entries.one_hot_at.Goals as goal

pub loop-i-init : goal.loop-i-init
loop-i-init g c = c.new-entries.ensures.items

pub loop-i-preserved : goal.loop-i-preserved
loop-i-preserved g c =
    let ring = g.F.Field.ring in
    let i : ℕ = c.loop-i.i in
    let place : ℕ = c.args.place in
    c.in_ok-push.ensures.items ∙ ap (λ l. l ++ (c.bit_of.result ∷ [])) c.loop-i.invariant
    ∙ ap (λ x. map (λ i. bit ring (nat_eq i place)) (range_with_len 0 i) ++ (x ∷ [])) c.bit_of.ensures
    ∙ sym (map-range_with_len_more (λ i. bit ring (nat_eq i place)) 0 i i (omega arith))
