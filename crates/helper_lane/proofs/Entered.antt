-- How far records were entered into an index.
use Rattle.std.proofs.Common.{◌≡◌, ℕ, ◌+◌, ◌≤◌, ◌<◌, List, [], ◌∷◌, ◌++◌, length, get_or, take, sym, ap, subst, ◌∙◌, arith, length-append}
use Rattle.std.proofs.lemmas.List.{take-append-le, take_more, take_all}
use mathlib.Core.List.{IsPrefix}
use Rattle.lane_records.specs.declared.record.Record.{Record}
use Rattle.legal_journals.specs.declared.helper_index.HelperIndex.{HelperIndex}
use Rattle.legal_journals.specs.HelperIndexed.{HelperIndexes}
use Rattle.helper_lane.specs.declared.known.Known.{Known}
use Rattle.helper_lane.specs.Known.{IsKnown, KnowsAll}

-- of more records as many are entered
pub known_further : (k : Known) (xs ys : List Record) → IsPrefix xs ys → IsKnown k xs → IsKnown k ys
known_further k xs ys (t, e) is =
    let long : length (xs ++ t) ≡ length xs + length t = length-append xs t in
    let within = is.within in
    subst (λ (l : List Record). IsKnown k l) e (record {
      within = omega (arith, long, within);
      indexes = subst (λ (l : List Record). HelperIndexes k.index l) (sym (take-append-le k.count xs t within)) is.indexes;
    })

-- one record more is entered
pub known_more : (k : Known) (index : HelperIndex) (count : ℕ) (xs : List Record) (x : Record) → k.count < length xs → x ≡ get_or xs k.count x → count ≡ k.count + 1
    → HelperIndexes index (take k.count xs ++ x ∷ []) → IsKnown (record { index = index; count = count }) xs
known_more k index count xs x lt here next more =
    let longer : take k.count xs ++ x ∷ [] ≡ take (k.count + 1) xs = ap (λ (y : Record). take k.count xs ++ y ∷ []) here ∙ sym (take_more xs k.count x lt) in
    record {
      within = omega (arith, lt, next);
      indexes = subst (λ (n : ℕ). HelperIndexes index (take n xs)) (sym next) (subst (λ (l : List Record). HelperIndexes index l) longer more);
    }

-- all are entered
pub known_all : (k : Known) (xs : List Record) → length xs ≤ k.count → IsKnown k xs → KnowsAll k xs
known_all k xs le is =
    let within = is.within in
    let same : k.count ≡ length xs = omega (arith, le, within) in
    record {
      count = same;
      indexes = subst (λ (l : List Record). HelperIndexes k.index l) (take_all k.count xs le) is.indexes;
    }
