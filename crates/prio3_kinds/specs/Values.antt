-- The function that a value of Prio3 is.
use Rattle.vdaf_api.specs.declared.kind.Kind.{Kind}
use Rattle.vdaf_api.specs.declared.kind.Kind.TheVariants as kind
use Rattle.vdaf_api.specs.Functions.{Functions}
use Rattle.prio3_kinds.specs.declared.prio3.Prio3.{Prio3}
use Rattle.prio3_kinds.specs.declared.prio3.Prio3.TheVariants.{Count, Sum, Histogram, Vector}
use Rattle.prio3_kinds.specs.Kinds.{functions_of_kind}

-- the kind that a value is made of
abbrev pub kind_of : Prio3 → Kind
kind_of (Count c) = kind.Count
kind_of (Sum c) = kind.Sum c.bits
kind_of (Histogram c) = kind.Histogram c.bounds.items
kind_of (Vector c) = kind.Vector c.len c.bits

-- what a value of Prio3 computes: the function of its kind
abbrev pub functions_of_value : Prio3 → Functions
functions_of_value v = functions_of_kind (kind_of v)
