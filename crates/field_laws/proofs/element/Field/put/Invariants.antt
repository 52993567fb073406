use Rattle.std.proofs.Common.{◌≡◌, ◌++◌, ◌+◌, ◌-◌, ◌≤◌, vec_len, vec_capacity}
use Rattle.field_laws.specs.Bytes.{low_bytes}
use Rattle.field_laws.proofs.element.Field.put.Given as goal

abbrev pub invariant-loop-i : goal.invariant-loop-i
invariant-loop-i g l = record {
  bytes : l.out.items ++ low_bytes (g.Self.Field.WIDTH - l._i) l.rest ≡ l.initial.out.items ++ low_bytes g.Self.Field.WIDTH (g.Self.Field.number l.fn.self);
  room : vec_len l.out + (g.Self.Field.WIDTH - l._i) ≤ vec_capacity l.out;
  capacity : vec_capacity l.initial.out ≤ vec_capacity l.out;
}
