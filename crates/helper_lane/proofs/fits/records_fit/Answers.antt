use Rattle.std.proofs.Common.{sym, ◌∙◌}
use Rattle.helper_lane.specs.Refusals.{env_of}
use Rattle.helper_lane.proofs.Suited.{suits_all}
use Rattle.helper_lane.proofs.fits.records_fit.Goals as goal

pub returns : goal.returns
returns g c =
    let s = suits_all (env_of g.V.Vdaf.of_kind c.args.place c.args.tasks.now) c.args.records.now in
    ((λ h. s.0 (sym c.all_suit.ensures ∙ h)), (λ both. c.all_suit.ensures ∙ s.1 both))
