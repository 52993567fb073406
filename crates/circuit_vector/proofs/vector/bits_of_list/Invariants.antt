use Rattle.std.proofs.Common.{◌≡◌, take}
use Rattle.field128.specs.Element.{ring_of}
use Rattle.circuit_vector.specs.Vector.{bits_of_list}
use Rattle.circuit_vector.proofs.vector.bits_of_list.Given as goal

abbrev pub invariant-loop-number : goal.invariant-loop-number
invariant-loop-number l = l.x.items ≡ bits_of_list ring_of l.bits (take l.number-index l.m)
