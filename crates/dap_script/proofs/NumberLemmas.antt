-- What std reads as a number, and what the script does.
use Rattle.std.proofs.Common.{◌≡◌, ◌≢◌, ℕ, ◌^◌, ◌<◌, List, [], ◌∷◌, Bool, true, false, ◌&&◌, if◌then◌else◌, nat_le, nat_lt, length, get_or, Result, Ok, Err, Some, None, arith}
use Rattle.std.proofs.lemmas.Bool.Decides.{nat_tests}
use Rattle.std.proofs.lemmas.Str.Parse.{IsNumeralModel, numerals_by_value, tells_all_ascii_digits, parse_plain}
use Rattle.std.specs.Result.{OkIff, result_ok}
use Rattle.std.specs.Str.{all_ascii_digits}
use Rattle.std.specs.Str.Parse.{digits_value, ParsesUnsigned}
use Rattle.dap_script.specs.Fields.{is_plain_text, number_of}

pub own : IsNumeralModel (λ ds. all_ascii_digits ds ≡ true) (digits_value 10)
own = numerals_by_value _ tells_all_ascii_digits

no_plus : (bs : List ℕ) → is_plain_text bs ≡ true → get_or bs 0 0 ≢ 43
no_plus [] h = grind arith
no_plus (c ∷ cs) h = grind (arith, nat_tests)

some_number : (plain digits : Bool) (len value : ℕ) → plain ≡ true → digits ≡ true → 0 < len → value < 2 ^ 64
    → Some value ≡ (if plain && digits && nat_le 1 len && nat_lt value (2 ^ 64) then Some value else None)
some_number plain digits len value p d l v = grind (arith, nat_tests)

no_number : (plain digits : Bool) (len value : ℕ) → ((digits ≡ true) × (0 < len) × (value < 2 ^ 64) → ⊥)
    → None ≡ (if plain && digits && nat_le 1 len && nat_lt value (2 ^ 64) then Some value else None)
no_number plain digits len value h = grind (arith, nat_tests)

by_result : {E : Type 0} (bs : List ℕ) (r : Result ℕ E) → is_plain_text bs ≡ true
    → OkIff r ((all_ascii_digits bs ≡ true) × (0 < length bs) × (digits_value 10 bs < 2 ^ 64)) (digits_value 10 bs) → result_ok r ≡ number_of bs
by_result bs (Ok x) h p = rw p.1 (some_number (is_plain_text bs) (all_ascii_digits bs) (length bs) (digits_value 10 bs) h p.0.0 p.0.1 p.0.2)
by_result bs (Err e) h p = no_number (is_plain_text bs) (all_ascii_digits bs) (length bs) (digits_value 10 bs) p

pub result_ok-parse : {E : Type 0} (bs : List ℕ) (r : Result ℕ E) → is_plain_text bs ≡ true → ParsesUnsigned 64 10 bs r → result_ok r ≡ number_of bs
result_ok-parse bs r h p = by_result bs r h (parse_plain own 64 bs r p (no_plus bs h))

pub number_of_not_plain : (bs : List ℕ) → is_plain_text bs ≡ false → number_of bs ≡ None
number_of_not_plain bs h = grind (arith, nat_tests)
