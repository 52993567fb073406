-- A number has one spelling.
use Rattle.std.proofs.Common.{◌≡◌, ℕ, ◌^◌, ◌<◌, ◌≤◌, List, [], ◌∷◌, map, true, ◌&&◌, nat_le, nat_lt, length, get_or, Some, refl, sym, ap, subst, ◌∙◌, suc, zero, lit<, arith}
use Rattle.std.proofs.lemmas.Bool.Decides.{nat_tests}
use Rattle.std.proofs.lemmas.Bool.{and_parts, leb-true, le-leb, lt-ltb, ltb-true}
use Rattle.std.proofs.lemmas.List.Elements.{All-cons, All-head, All-nil, All-tail}
use Rattle.std.proofs.lemmas.Option.{cond_some, option_and_then_some, same_Some}
use Rattle.std.specs.List.{All}
use Rattle.std.proofs.lemmas.Fmt.{decimal-digits_value, digits_decimal, digits_value-decimal, decimal_nonempty, first_decimal, decimal_digit}
use Rattle.std.specs.Fmt.{decimal}
use Rattle.std.specs.Str.{all_ascii_digits}
use Rattle.std.specs.Str.Parse.{digits_value}
use Rattle.dap_script.proofs.NumberLemmas.{own}
use Rattle.dap_script.specs.Fields.{is_numeral, is_plain_text, number_of, numbers_of, bounded_of}

lone_zero : (bs : List ℕ) → is_plain_text bs ≡ true → get_or bs 0 0 ≡ 48 → length bs ≡ 1
lone_zero [] h e = absurd (omega arith)
lone_zero (c ∷ cs) h e = grind (arith, nat_tests)

-- what is read is spelled so
pub number_spelled : (text : List ℕ) (n : ℕ) → number_of text ≡ Some n → (text ≡ decimal n) × (n < 2 ^ 64)
number_spelled text n h =
    let p = cond_some (is_numeral text && nat_lt (digits_value 10 text) (2 ^ 64)) (digits_value 10 text) n h in
    let small = and_parts (is_numeral text) (nat_lt (digits_value 10 text) (2 ^ 64)) p.0 in
    let some = and_parts (is_plain_text text && all_ascii_digits text) (nat_le 1 (length text)) small.0 in
    let plain = and_parts (is_plain_text text) (all_ascii_digits text) some.0 in
    let below : digits_value 10 text < 2 ^ 64 = ltb-true _ _ small.1 in
    (sym (decimal-digits_value own text plain.1 (leb-true 1 (length text) some.1) (lone_zero text plain.0) below) ∙ ap decimal p.1, rw (← p.1) below)

plain_digits : (bs : List ℕ) → 48 < get_or bs 0 0 → is_plain_text bs ≡ true
plain_digits [] h = refl
plain_digits (c ∷ cs) h = grind (arith, nat_tests)

plain_decimal : (n : ℕ) → n < 2 ^ 64 → is_plain_text (decimal n) ≡ true
plain_decimal zero h = ap is_plain_text (decimal_digit 0 (lit< tt))
plain_decimal (suc n) h = plain_digits (decimal (suc n)) (first_decimal (suc n) (omega arith) h)

-- what is spelled so is read
pub number_of-decimal : (n : ℕ) → n < 2 ^ 64 → number_of (decimal n) ≡ Some n
number_of-decimal n h =
    rw (plain_decimal n h, digits_decimal own n h, le-leb 1 (length (decimal n)) (decimal_nonempty n h), digits_value-decimal own n h, lt-ltb n (2 ^ 64) h) refl

-- a number in its range
pub bounded_spelled : (least greatest : ℕ) (text : List ℕ) (n : ℕ) → bounded_of least greatest text ≡ Some n
    → (text ≡ decimal n) × (least ≤ n) × (n ≤ greatest) × (n < 2 ^ 64)
bounded_spelled least greatest text n h = option_and_then_some _ (number_of text) n h (λ m e k.
    let p = cond_some (nat_le least m && nat_le m greatest) m n k in
    let b = and_parts (nat_le least m) (nat_le m greatest) p.0 in
    let s = number_spelled text m e in
    let low : least ≤ m = leb-true least m b.0 in
    let high : m ≤ greatest = leb-true m greatest b.1 in
    (s.0 ∙ ap decimal p.1, rw (← p.1) low, rw (← p.1) high, rw (← p.1) s.1))

pub bounded_of-decimal : (least greatest n : ℕ) → least ≤ n → n ≤ greatest → n < 2 ^ 64 → bounded_of least greatest (decimal n) ≡ Some n
bounded_of-decimal least greatest n l g h = rw (number_of-decimal n h, le-leb least n l, le-leb n greatest g) refl

-- several numbers
pub numbers_spelled : (words : List (List ℕ)) (numbers : List ℕ) → numbers_of words ≡ Some numbers → (words ≡ map decimal numbers) × All (λ n. n < 2 ^ 64) numbers
numbers_spelled [] numbers h =
    let none : [] ≡ numbers = same_Some [] numbers h in
    rw (← none) (refl, All-nil (λ n. n < 2 ^ 64))
numbers_spelled (word ∷ words) numbers h =
    option_and_then_some _ (number_of word) numbers h (λ n e h1.
    option_and_then_some _ (numbers_of words) numbers h1 (λ ns es h2.
    let first = number_spelled word n e in
    let rest = numbers_spelled words ns es in
    subst (λ all. (word ∷ words ≡ map decimal all) × All (λ m. m < 2 ^ 64) all) (same_Some (n ∷ ns) numbers h2)
    (cc (first.0, rest.0), All-cons (λ m. m < 2 ^ 64) n ns first.1 rest.1)))

pub numbers_of-decimal : (numbers : List ℕ) → All (λ n. n < 2 ^ 64) numbers → numbers_of (map decimal numbers) ≡ Some numbers
numbers_of-decimal [] h = refl
numbers_of-decimal (n ∷ ns) h =
    rw (number_of-decimal n (All-head (λ m. m < 2 ^ 64) n ns h), numbers_of-decimal ns (All-tail (λ m. m < 2 ^ 64) n ns h)) refl
