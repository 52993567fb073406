use Rattle.std.proofs.Common.{◌≡◌, ◌≤◌, ◌-◌, ◌*◌, length, map}
use Rattle.vdaf_api.specs.Vectors.{vector_of}
use Rattle.prio3_prep.proofs.Vectors.{behind}
use Rattle.prio3_prep.proofs.reading.read_elements.Given as goal

abbrev pub invariant-loop-i : goal.invariant-loop-i
invariant-loop-i g l = record {
  within : l.i ≤ l.n;
  count : length l.elements.items ≡ l.i;
  left : length l.rest ≡ (l.n - l.i) * g.F.Field.WIDTH;
  value : vector_of g.F.Field.MODULUS g.F.Field.WIDTH l.n l.bytes ≡ behind (map g.F.Field.number l.elements.items) (vector_of g.F.Field.MODULUS g.F.Field.WIDTH (l.n - l.i) l.rest);
}
