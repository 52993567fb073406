use Rattle.std.proofs.Common.{◌≡◌, ◌≤◌, ◌<◌, ◌-◌}
use Rattle.dap_bytes.specs.Causes.{CountsTries}
use Rattle.dap_disk.specs.Disk.{LeavesOnly}
use Rattle.report_journal.specs.Retry.{WithOrWithout}
use Rattle.report_journal.proofs.log.Log.restart_through.Given as goal

abbrev pub invariant-tries : goal.invariant-tries
invariant-tries g l = record {
  some : 0 < l.left;
  left : l.left ≤ l.initial.left;
  downs : CountsTries (l.initial.left - l.left) (g.D.Disk.downs l.initial.self.disk) (g.D.Disk.downs l.self.disk);
  deads : g.D.Disk.deads l.self.disk ≡ g.D.Disk.deads l.initial.self.disk;
  records : l.self.records ≡ l.initial.self.records;
  coming : l.self.coming ≡ l.initial.self.coming;
  goes : (w : g.row.D.Denot) → LeavesOnly g.D.Disk.moment g.D.Disk.left_since l.self.disk w (WithOrWithout l.initial.self.records l.initial.self.coming)
      → LeavesOnly g.D.Disk.moment g.D.Disk.left_since l.initial.self.disk w (WithOrWithout l.initial.self.records l.initial.self.coming);
}

abbrev pub decreases-tries : goal.decreases-tries
decreases-tries g l = l.left
