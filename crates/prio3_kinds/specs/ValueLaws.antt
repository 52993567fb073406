-- Lemmas: a value's kind is within its ranges, and its function keeps the laws.
use Rattle.vdaf_api.specs.Kind.{IsKind}
use Rattle.vdaf_api.specs.Promises.{FunctionLaws}
use Rattle.prio3_kinds.specs.declared.prio3.Prio3.{Prio3}
use Rattle.prio3_kinds.specs.declared.prio3.Prio3.TheVariants.{Count, Sum, Histogram, Vector}
use Rattle.prio3_kinds.specs.Values.{kind_of, functions_of_value}
use Rattle.prio3_kinds.specs.KindLaws.{kind_laws}

kind_is : (v : Prio3) → IsKind (kind_of v)
kind_is (Count c) = tt
kind_is (Sum c) = (c.some_bits, c.few_bits)
kind_is (Histogram c) = record { some = c.some_bound; few = c.few_bounds; ascending = c.ascending }
kind_is (Vector c) = record {
  some_numbers = c.sizes.some_numbers;
  few_numbers = c.sizes.few_numbers;
  some_bits = c.sizes.some_bits;
  few_bits = c.sizes.few_bits;
  short_input = c.sizes.short_input;
}

pub value_laws : (v : Prio3) → FunctionLaws (functions_of_value v)
value_laws v = kind_laws (kind_of v) (kind_is v)
