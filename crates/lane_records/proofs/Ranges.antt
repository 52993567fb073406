-- The numbers of a task that has a spelling are within their ranges.
use Rattle.std.proofs.Common.{◌≡◌, ℕ, ◌*◌, Bool, true, ◌&&◌, List, [], ◌∷◌, length, Option, Some, None, refl, sym, ◌∙◌}
use Rattle.std.specs.Prelude.{nat_le, nat_lt}
use Rattle.std.proofs.lemmas.Bool.{leb-true}
use Rattle.vdaf_api.specs.declared.kind.Kind.{Kind}
use Rattle.vdaf_api.specs.declared.kind.Kind.TheVariants.{Count, Sum, Histogram, Vector}
use Rattle.vdaf_api.specs.Kind.{ascends_from, ascends, IsKind}
use Rattle.vdaf_api.proofs.Ranges.{increasing-ascends}
use Rattle.vdaf_api.specs.declared.kind.TheConstants.{MOST_BITS, MOST_INPUT, MOST_NUMBER_BITS, MOST_NUMBERS}
use Rattle.dap_bytes.specs.declared.limits.TheConstants.{GREATEST_MINIMUM, GREATEST_PRECISION, LATEST_TIME}
use Rattle.dap_messages.specs.Grammar.{is_between, name}
use Rattle.dap_messages.specs.Laws.{and_parts, both_true}
use Rattle.dap_messages.specs.Forms.{any_u64}
use Rattle.vdaf_api.specs.TaskNumbers.{AreTaskNumbers, IsExpiry}
use Rattle.lane_records.specs.declared.stored.StoredTask.{StoredTask}
use Rattle.lane_records.specs.declared.format.Format.{Format}
use Rattle.lane_records.specs.declared.format.Format.TheVariants.{One, Two}
use Rattle.lane_records.specs.StoredLaws.{fields_allowed}
use Rattle.lane_records.specs.Bounds.{bound, bound_count, allowed_bounds}
use Rattle.lane_records.specs.BoundsLaws.{few_bounds, some_bounds}
use Rattle.lane_records.specs.Stored.{kind, expiry, key, keys, task_fields, fields_of, stored}

between : (low high n : ℕ) → is_between low high n ≡ true → (nat_le low n ≡ true) × (nat_le n high ≡ true)
between low high n a = and_parts (nat_le low n) (nat_le n high) a

bounds_from : (last : ℕ) (xs : List ℕ) → allowed_bounds (Some last) xs ≡ true → ascends_from last xs ≡ true
bounds_from last [] a = refl
bounds_from last (x ∷ xs) a =
    let parts = and_parts ((bound (Some last)).allowed x) (allowed_bounds (Some x) xs) a in
    let over = and_parts (any_u64.allowed x) (nat_lt last x) parts.0 in
    both_true (nat_lt last x) (ascends_from x xs) over.1 (bounds_from x xs parts.1)

bounds_ascend : (xs : List ℕ) → allowed_bounds None xs ≡ true → ascends xs ≡ true
bounds_ascend [] a = refl
bounds_ascend (x ∷ xs) a = bounds_from x xs (and_parts ((bound None).allowed x) (allowed_bounds (Some x) xs) a).1

pub kind_ranges : (f : Format) (k : Kind) → (kind f).allowed k ≡ true → IsKind k
kind_ranges f Count a = tt
kind_ranges f (Sum bits) a =
    let ends = between 1 MOST_BITS bits a in
    (leb-true 1 bits ends.0, leb-true bits MOST_BITS ends.1)
kind_ranges f (Histogram bs) a =
    let parts = and_parts ((bound_count f).allowed (length bs)) (allowed_bounds None bs) a in
    record {
      some = some_bounds f (length bs) parts.0;
      few = few_bounds f (length bs) parts.0;
      ascending = increasing-ascends bs (bounds_ascend bs parts.1);
    }
kind_ranges One (Vector len bits) a = absurd cc
kind_ranges Two (Vector len bits) a =
    let parts = and_parts (is_between 1 MOST_NUMBERS len) (is_between 1 MOST_NUMBER_BITS bits && nat_le (len * bits) MOST_INPUT) a in
    let more = and_parts (is_between 1 MOST_NUMBER_BITS bits) (nat_le (len * bits) MOST_INPUT) parts.1 in
    let numbers = between 1 MOST_NUMBERS len parts.0 in
    let ends = between 1 MOST_NUMBER_BITS bits more.0 in
    record {
      some_numbers = leb-true 1 len numbers.0;
      few_numbers = leb-true len MOST_NUMBERS numbers.1;
      some_bits = leb-true 1 bits ends.0;
      few_bits = leb-true bits MOST_NUMBER_BITS ends.1;
      short_input = leb-true (len * bits) MOST_INPUT more.1;
    }

-- the fields of a task are within its ranges
fields_numbers : (f : Format) (t : StoredTask) → (task_fields f).allowed (fields_of t) ≡ true → AreTaskNumbers t.kind t.min t.precision
fields_numbers f t a =
    let min : Bool = is_between 1 GREATEST_MINIMUM t.min in
    let precision : Bool = is_between 1 GREATEST_PRECISION t.precision in
    let last : Bool = (expiry f).allowed t.expires && (key.allowed t.verify && keys.allowed t.keys) in
    let a1 = and_parts (name.allowed t.name) ((kind f).allowed t.kind && (min && (precision && last))) a in
    let a2 = and_parts ((kind f).allowed t.kind) (min && (precision && last)) a1.1 in
    let a3 = and_parts min (precision && last) a2.1 in
    let a4 = and_parts precision last a3.1 in
    let m = between 1 GREATEST_MINIMUM t.min a3.0 in
    let p = between 1 GREATEST_PRECISION t.precision a4.0 in
    record {
      kind_ranges = kind_ranges f t.kind a2.0;
      some_reports = leb-true 1 t.min m.0;
      few_reports = leb-true t.min GREATEST_MINIMUM m.1;
      some_time = leb-true 1 t.precision p.0;
      little_time = leb-true t.precision GREATEST_PRECISION p.1;
    }

expiry_range : (f : Format) (e : Option ℕ) → (expiry f).allowed e ≡ true → IsExpiry e
expiry_range f None a = tt
expiry_range One (Some t) a = absurd cc
expiry_range Two (Some t) a = leb-true t LATEST_TIME (between 0 LATEST_TIME t a).1

-- the expiry among a task's fields
pub expiry_allowed : (f : Format) (t : StoredTask) → (task_fields f).allowed (fields_of t) ≡ true → (expiry f).allowed t.expires ≡ true
expiry_allowed f t a =
    let min : Bool = is_between 1 GREATEST_MINIMUM t.min in
    let precision : Bool = is_between 1 GREATEST_PRECISION t.precision in
    let last : Bool = (expiry f).allowed t.expires && (key.allowed t.verify && keys.allowed t.keys) in
    let a1 = and_parts (name.allowed t.name) ((kind f).allowed t.kind && (min && (precision && last))) a in
    let a2 = and_parts ((kind f).allowed t.kind) (min && (precision && last)) a1.1 in
    let a3 = and_parts min (precision && last) a2.1 in
    let a4 = and_parts precision last a3.1 in
    (and_parts ((expiry f).allowed t.expires) (key.allowed t.verify && keys.allowed t.keys) a4.1).0

pub task_expiry : (t : StoredTask) → (stored t.format).allowed t ≡ true → IsExpiry t.expires
task_expiry t a = expiry_range t.format t.expires (expiry_allowed t.format t (sym (fields_allowed t) ∙ a))

pub task_numbers : (t : StoredTask) → (stored t.format).allowed t ≡ true → AreTaskNumbers t.kind t.min t.precision
task_numbers t a = fields_numbers t.format t (sym (fields_allowed t) ∙ a)
