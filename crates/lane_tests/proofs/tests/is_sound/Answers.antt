use Rattle.std.proofs.Common.{◌≡◌, List, Option, ℕ, sym, subst, ◌∙◌}
use Rattle.dap_bytes.specs.declared.node.Node.TheVariants.{Leader}
use Rattle.dap_bytes.specs.declared.part.Part.TheVariants.{Lane}
use Rattle.lane_records.specs.declared.record.Record.{Record}
use Rattle.legal_journals.specs.Legal.{IsLegalJournal, IsFirstRefused}
use Rattle.leader_lane.specs.Sound.{OpensAre}
use Rattle.lane_tests.proofs.tests.is_sound.Goals as goal

pub returns : goal.returns
returns g c = λ h. (
  c.in-Ok.records.items,
  (
    sym c.records.ensures.records ∙ c.in-Ok.ensures.read_as_spelled.1,
    record {
      legal = subst (λ (l : List Record). IsLegalJournal Leader (Lane c.args.place.lane) l) c.deref.ensures.value
          (subst (λ (o : Option ℕ). IsFirstRefused Leader (Lane c.args.place.lane) c.deref.result.now o) c.in-None.is c.in_ok-legal.ensures);
      lanes = subst (λ (l : List Record). OpensAre c.args.place l) c.deref-in-None.ensures.value (c.opens_fit.ensures.0 h);
    },
  ),
)
