-- A list of numbers has one spelling, in visible characters.
use Rattle.std.proofs.Common.{◌≡◌, ℕ, ◌<◌, ◌≤◌, ◌^◌, List, map, true, false, nat_eq, nat_le, length, if◌then◌else◌, Some, None, sym, ap, subst, ◌∙◌, refl, arith}
use Rattle.std.proofs.lemmas.Bool.Decides.{nat_tests}
use Rattle.std.proofs.lemmas.Bool.{le-leb, leb-true}
use Rattle.std.proofs.lemmas.List.Elements.{All-map, All-weaker}
use Rattle.std.proofs.lemmas.List.Splits.{join_with_byte-slice_split, length-slice_split}
use Rattle.std.proofs.lemmas.List.{length-map}
use Rattle.std.proofs.lemmas.Option.{cond_some, option_and_then_some}
use Rattle.std.specs.Char.{is_ascii_digit}
use Rattle.std.specs.Fmt.{decimal}
use Rattle.std.specs.List.{All, join_with_byte, slice_split}
use Rattle.vdaf_api.specs.declared.kind.TheConstants.{MOST_NUMBERS}
use Rattle.dap_script.proofs.NumberLaws.{numbers_of-decimal, numbers_spelled}
use Rattle.dap_script.proofs.SplitLaws.{All-join_with_byte, Lacks, slice_split-join_with_byte}
use Rattle.dap_script.proofs.Visible.{IsVisible, digits_of-decimal, visible_decimal}
use Rattle.dap_script.specs.Fields.{◌>>=◌, list_of, measurement_of, numbers_of}
use Rattle.dap_script.specs.Spelling.{AreWords, IsMeasurement, list_text}
use Rattle.dap_script.specs.Words.{is_comma}

-- ---- what is read is spelled so

-- the text spells the numbers, at least one, each of which fits 64 bits
abbrev pub SpellsList : List ℕ → List ℕ → Type 0
SpellsList text numbers = (text ≡ list_text numbers) × AreWords numbers × (1 ≤ length numbers)

pub list_spelled : (text numbers : List ℕ) → list_of text ≡ Some numbers → SpellsList text numbers
list_spelled text numbers h =
    let n = numbers_spelled (slice_split is_comma text) numbers h in
    let joined : text ≡ list_text numbers = sym (join_with_byte-slice_split 44 text) ∙ ap (join_with_byte 44) n.0 in
    (joined, n.1, omega (arith, ap length n.0, length-map numbers decimal, length-slice_split is_comma text))

pub measurement_spelled : (text numbers : List ℕ) → measurement_of text ≡ Some numbers → (text ≡ list_text numbers) × IsMeasurement numbers
measurement_spelled text numbers h = option_and_then_some _ (list_of text) numbers h (λ read e k.
    let p = cond_some (nat_le (length read) MOST_NUMBERS) read numbers k in
    let l = list_spelled text read e in
    subst (λ ns. (text ≡ list_text ns) × IsMeasurement ns) p.1
    (l.0, record { some = l.2; few = leb-true (length read) MOST_NUMBERS p.0; words = l.1 }))

-- ---- what is spelled so is read

digit_is_no_comma : (c : ℕ) → is_ascii_digit c ≡ true → nat_eq c 44 ≡ false
digit_is_no_comma c h = grind (arith, nat_tests)

lacks_comma : (n : ℕ) → n < 2 ^ 64 → Lacks 44 (decimal n)
lacks_comma n h = All-weaker (λ c. is_ascii_digit c ≡ true) (λ c. nat_eq c 44 ≡ false) digit_is_no_comma (decimal n) (digits_of-decimal n h)

slice_split-list : (numbers : List ℕ) → 1 ≤ length numbers → AreWords numbers → slice_split is_comma (list_text numbers) ≡ map decimal numbers
slice_split-list numbers some h =
    slice_split-join_with_byte 44 (map decimal numbers) (omega (arith, length-map numbers decimal))
    (All-map (Lacks 44) decimal numbers (All-weaker (λ number. number < 2 ^ 64) (λ number. Lacks 44 (decimal number)) lacks_comma numbers h))

pub list_of-text : (numbers : List ℕ) → 1 ≤ length numbers → AreWords numbers → list_of (list_text numbers) ≡ Some numbers
list_of-text numbers some h = ap numbers_of (slice_split-list numbers some h) ∙ numbers_of-decimal numbers h

pub measurement_of-text : (numbers : List ℕ) → IsMeasurement numbers → measurement_of (list_text numbers) ≡ Some numbers
measurement_of-text numbers is =
    ap (λ o. o >>= λ read. if nat_le (length read) MOST_NUMBERS then Some read else None) (list_of-text numbers is.some is.words)
    ∙ rw (le-leb (length numbers) MOST_NUMBERS is.few) refl

pub visible_list : (numbers : List ℕ) → AreWords numbers → All IsVisible (list_text numbers)
visible_list numbers h =
    let each = All-map (All IsVisible) decimal numbers (All-weaker (λ number. number < 2 ^ 64) (λ number. All IsVisible (decimal number)) visible_decimal numbers h) in
    All-join_with_byte IsVisible 44 (map decimal numbers) refl each
