use Rattle.std.proofs.Common.{◌≡◌, ◌≤◌, length, drop, vec_capacity}
use Rattle.dap_disk.specs.History.{changes_of, puts}
use Rattle.dap_disk.specs.Images.{greatest}
use Rattle.dap_disk.proofs.place.put_events.Given as goal

abbrev pub invariant-loop-event : goal.invariant-loop-event
invariant-loop-event l = record {
  bytes : puts l.image (changes_of (drop l.event-index l.events)) l.file.items ≡ puts l.image (changes_of l.events) l.initial.file.items;
  room : greatest (length l.file.items) (changes_of (drop l.event-index l.events)) ≤ vec_capacity l.file;
  capacity : vec_capacity l.initial.file ≤ vec_capacity l.file;
}
