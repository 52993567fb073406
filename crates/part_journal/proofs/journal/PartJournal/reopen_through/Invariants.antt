use Rattle.std.proofs.Common.{◌≡◌, ◌≢◌, ◌<◌, None, [], false}
use Rattle.std.specs.Prelude.{IsTrue, ◌↔◌}
use Rattle.part_journal.specs.Counts.{CountsStops}
use Rattle.part_journal.specs.Part.{SameOpening}
use Rattle.part_journal.proofs.Again.{Tried}
use Rattle.part_journal.proofs.journal.PartJournal.reopen_through.Given as goal

abbrev pub invariant-tries : goal.invariant-tries
invariant-tries g l = record {
  pages : Tried l.initial.self.opener l.initial.self.pages l.self.pages;
  down : l.self.up ≡ false;
  woken : IsTrue l.self.woken;
  block : l.self.pages.block ≡ [];
  fate : l.self.pages.fate ≢ None;
  some : 0 < l.self.left;
  dead : IsTrue l.self.dead ↔ IsTrue l.initial.self.dead;
  same : SameOpening l.initial.self l.self;
  counts : CountsStops g.D.Disk.downs g.D.Disk.deads ⊥ l.initial.self.left l.self.left l.initial.self.disk l.self.disk;
}

abbrev pub decreases-tries : goal.decreases-tries
decreases-tries g l = l.self.left
