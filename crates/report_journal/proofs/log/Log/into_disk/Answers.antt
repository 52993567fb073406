use Rattle.std.proofs.Common.{◌≡◌, inl, ℕ, List, Some, IsTrue, subst}
use Rattle.report_journal.specs.Journal.{Stands}
use Rattle.report_journal.specs.Log.{LogView}
use Rattle.report_journal.proofs.log.Log.into_disk.Goals as goal

pub returns-clause-held : goal.returns-clause-held
returns-clause-held g c =
    subst (λ (v : LogView g.row.D.Denot). IsTrue v.up → (f : List ℕ) → g.D.Disk.holds v.disk ≡ Some f → Stands v.records f) c.self.view_is
    (λ up f is. inl (c.self.inside.gate, (c.self.invariant.standing up).held f is))
