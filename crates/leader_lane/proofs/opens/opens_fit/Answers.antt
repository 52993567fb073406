use Rattle.std.proofs.Common.{List, take, refl, sym, subst, ◌∙◌}
use Rattle.std.proofs.lemmas.Bool.{false≢true}
use Rattle.std.proofs.lemmas.List.{take_all}
use Rattle.lane_records.specs.declared.record.Record.{Record}
use Rattle.legal_journals.specs.History.{Mem}
use Rattle.legal_journals.proofs.Firsts.{Mem-get}
use Rattle.leader_lane.specs.Sound.{OpensAre}
use Rattle.leader_lane.proofs.SoundLaws.{opens_more}
use Rattle.leader_lane.proofs.CatalogLaws.{take_next}
use Rattle.leader_lane.proofs.opens.opens_fit.Goals as goal

pub loop-x-init : goal.loop-x-init
loop-x-init c = λ x n m e. absurd m

pub loop-x-preserved : goal.loop-x-preserved
loop-x-preserved c =
    subst (λ (l : List Record). OpensAre c.args.place l) (take_next c.args.records.now c.loop-x.x-index c.x-item.result c.x-item.is c.loop-x-test.true)
    (opens_more c.args.place (take c.loop-x.x-index c.args.records.now) c.x-item.result c.loop-x.invariant (c.is_of_place.ensures.0 c.if-not-is_of_place.false))

pub returns-then-not-is_of_place : goal.returns-then-not-is_of_place
returns-then-not-is_of_place c =
    let among : Mem c.x-item.result c.args.records.now = subst (λ (x : Record). Mem x c.args.records.now) (sym c.x-item.is) (Mem-get c.args.records.now c.loop-x.x-index c.x-item.result c.loop-x-test.true) in
    ((λ h. absurd (cc h)), (λ all. absurd (false≢true (sym c.if-not-is_of_place.true ∙ c.is_of_place.ensures.1 (λ n e. all c.x-item.result n among e)))))

pub returns : goal.returns
returns c = ((λ h. subst (λ (l : List Record). OpensAre c.args.place l) (take_all c.loop-x.x-index c.args.records.now c.loop-x-test.false) c.loop-x.invariant), (λ all. refl))
