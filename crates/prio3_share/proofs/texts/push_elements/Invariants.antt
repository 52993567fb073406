use Rattle.std.proofs.Common.{◌≡◌, ◌++◌, ◌≤◌, length, take}
use Rattle.prio3_share.specs.Texts.{bytes_of}
use Rattle.prio3_share.proofs.Fields.{base}
use Rattle.prio3_share.proofs.texts.push_elements.Given as goal

abbrev pub invariant-loop-x : goal.invariant-loop-x
invariant-loop-x g l = record {
  within : l.x-index ≤ length l.xs;
  written : l.out.items ≡ l.fn.out.items ++ bytes_of (base g.F.Field) (take l.x-index l.xs);
}
