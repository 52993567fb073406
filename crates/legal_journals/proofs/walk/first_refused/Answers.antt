use Rattle.std.proofs.Common.{◌≡◌, ◌<◌, ◌+◌, true, false, List, ◌∷◌, [], ◌++◌, length, take, sym, ap, subst, ◌∙◌, arith}
use Rattle.std.proofs.lemmas.Grind.{common_steps}
use Rattle.std.proofs.lemmas.List.{take_more}
use Rattle.lane_records.specs.declared.record.Record.{Record}
use Rattle.legal_journals.specs.LegalTests.{may}
use Rattle.legal_journals.proofs.Walks.{legal_more, first_refused}
use Rattle.legal_journals.proofs.walk.first_refused.Goals as goal

pub returns-then-not-may : goal.returns-then-not-may
returns-then-not-may g c =
    let node = g.I.PartIndex.node in
    let part = g.I.PartIndex.part c.args.lane in
    let refused : may node part c.index-records-place.result (take c.loop-place.place c.args.records.now) ≡ false = grind (arith, common_steps) in
    let lt : c.loop-place.place < length c.args.records.now = omega arith in
    first_refused node part c.args.records.now c.loop-place.place c.index-records-place.result lt c.index-records-place.is c.loop-place.invariant.0 refused

pub loop-place-preserved : goal.loop-place-preserved
loop-place-preserved g c =
    let node = g.I.PartIndex.node in
    let part = g.I.PartIndex.part c.args.lane in
    let passed : may node part c.index-records-place.result (take c.loop-place.place c.args.records.now) ≡ true = grind (arith, common_steps) in
    let lt : c.loop-place.place < length c.args.records.now = omega arith in
    let x = c.index-records-place-in-loop-place.result in
    let longer : take c.loop-place.place c.args.records.now ++ x ∷ [] ≡ take (c.loop-place.place + 1) c.args.records.now =
    ap (λ (y : Record). take c.loop-place.place c.args.records.now ++ y ∷ []) c.index-records-place-in-loop-place.is ∙ sym (take_more c.args.records.now c.loop-place.place x lt) in (
      legal_more node part c.args.records.now c.loop-place.place c.index-records-place.result lt c.index-records-place.is c.loop-place.invariant.0 passed,
      subst (λ (ys : List Record). g.I.PartIndex.indexes c.add.new.self ys) longer (c.in_ok-add.ensures (take c.loop-place.place c.args.records.now) c.loop-place.invariant.1),
    )
