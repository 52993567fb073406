-- Bytes have one spelling in hex digits of lower case.
use Rattle.std.proofs.Common.{◌≡◌, ℕ, ◌+◌, ◌-◌, ◌*◌, ◌/◌, ◌%◌, ◌<◌, List, [], ◌∷◌, true, nat_le, if◌then◌else◌, length, slice_index, Some, Ok, refl, sym, ap, ◌∙◌, inl, inr, arith}
use Rattle.std.proofs.lemmas.Bool.Decides.{nat_tests}
use Rattle.std.proofs.lemmas.Bool.{cases_lt}
use Rattle.std.proofs.lemmas.List.Elements.{All-cons, All-get_or, All-head, All-nil, All-tail}
use Rattle.std.proofs.lemmas.List.Sums.{AllPass-from_list_all, list_all-from_AllPass}
use Rattle.std.proofs.lemmas.List.{get_or_past}
use Rattle.std.specs.List.{All, list_all}
use Rattle.std.specs.Result.{result_ok}
use Rattle.hex.proofs.HexLemmas.{IsDigits-lower_digits, decode_sized-encode_lower, decode_sized-ok, length-encode_with}
use Rattle.hex.specs.Hex.{IsBytes, decode_sized, encode_lower, encode_with, hex_digit_value, lower_digits}
use Rattle.dap_script.specs.OptionLaws.{guarded, ok_some}
use Rattle.dap_script.specs.Fields.{is_lower_hex_digit, octets_of}
use Rattle.dap_script.specs.Spelling.{IsOctets}

abbrev IsByte : ℕ → Type 0
IsByte byte = byte < 256

abbrev pub IsLowerDigit : ℕ → Type 0
IsLowerDigit c = is_lower_hex_digit c ≡ true

-- the value of a digit of lower case
abbrev value_of : ℕ → ℕ
value_of c = if nat_le 97 c then c - 87 else c - 48

digit_of : (v : ℕ) → v < 16 → IsLowerDigit (slice_index lower_digits v)
digit_of v h = AllPass-from_list_all is_lower_hex_digit lower_digits refl v 0 h

value_is : (c : ℕ) → IsLowerDigit c → (hex_digit_value c ≡ Some (value_of c)) × (value_of c < 16)
value_is c h = (grind (arith, nat_tests), grind (arith, nat_tests))

same_digit : (c d v : ℕ) → IsLowerDigit c → IsLowerDigit d → hex_digit_value c ≡ Some v → hex_digit_value d ≡ Some v → d ≡ c
same_digit c d v hc hd ec ed = grind (arith, nat_tests)

digit_of_value : (c : ℕ) → IsLowerDigit c → slice_index lower_digits (value_of c) ≡ c
digit_of_value c h =
    let v = value_is c h in
    same_digit c (slice_index lower_digits (value_of c)) (value_of c) h (digit_of (value_of c) v.1) v.0 (IsDigits-lower_digits (value_of c) v.1)

IsBytes-from_All : (bytes : List ℕ) → All IsByte bytes → IsBytes bytes
IsBytes-from_All bytes h i = elim (cases_lt i (length bytes)) [
  | inl lt ↦ All-get_or IsByte bytes i 0 lt h
  | inr ge ↦ rw (get_or_past bytes i 0 ge) (omega arith)
]

encode_pair : (a b v w : ℕ) (rest : List ℕ) → v < 16 → w < 16 → slice_index lower_digits v ≡ a → slice_index lower_digits w ≡ b
    → encode_lower ((v * 16 + w) ∷ rest) ≡ a ∷ b ∷ encode_lower rest
unfolding encode_with
encode_pair a b v w rest lv lw ea eb =
    let high : (v * 16 + w) / 16 ≡ v = omega arith in
    let low : (v * 16 + w) % 16 ≡ w = omega arith in
    rw (high, low, ea, eb) refl

-- an even number of digits spells bytes
encoded : (text : List ℕ) → length text % 2 ≡ 0 → All IsLowerDigit text
    → (bytes : List ℕ) × (All IsByte bytes) × (encode_lower bytes ≡ text)
unfolding encode_with
encoded [] e h = ([], All-nil IsByte, refl)
encoded (a ∷ []) e h = absurd (omega arith)
encoded (a ∷ b ∷ rest) e h =
    let tail = All-tail IsLowerDigit a (b ∷ rest) h in
    let ha = All-head IsLowerDigit a (b ∷ rest) h in
    let hb = All-head IsLowerDigit b rest tail in
    let la : value_of a < 16 = (value_is a ha).1 in
    let lb : value_of b < 16 = (value_is b hb).1 in
    let more = encoded rest (omega arith) (All-tail IsLowerDigit b rest tail) in (
      (value_of a * 16 + value_of b) ∷ more.0,
      All-cons IsByte _ more.0 (omega arith) more.1,
      encode_pair a b (value_of a) (value_of b) more.0 la lb (digit_of_value a ha) (digit_of_value b hb) ∙ ap (λ (t : List ℕ). a ∷ b ∷ t) more.2,
    )

pub octets_spelled : (text bytes : List ℕ) → octets_of text ≡ Some bytes → (text ≡ encode_lower bytes) × IsOctets bytes
octets_spelled text bytes h =
    let g = guarded (list_all is_lower_hex_digit text) (result_ok (decode_sized text 16)) bytes h in
    let read : decode_sized text 16 ≡ Ok bytes = ok_some (decode_sized text 16) bytes g.1 in
    let len : length text ≡ 2 * 16 = decode_sized-ok text 16 bytes read in
    let s = encoded text (omega arith) (AllPass-from_list_all is_lower_hex_digit text g.0) in
    let count : length s.0 ≡ 16 = omega (arith, length-encode_with lower_digits s.0, ap length s.2) in
    let same : s.0 ≡ bytes = cc (decode_sized-encode_lower s.0 16 count (IsBytes-from_All s.0 s.1), ap (λ (t : List ℕ). decode_sized t 16) s.2) in
    (rw (← same) (sym s.2), rw (← same) (count, s.1))

-- a spelling's digits
pub All-digits : (bytes : List ℕ) → All IsByte bytes → All IsLowerDigit (encode_lower bytes)
unfolding encode_with
All-digits [] h = All-nil IsLowerDigit
All-digits (b ∷ rest) h =
    let byte : b < 256 = All-head IsByte b rest h in
    let high : IsLowerDigit (slice_index lower_digits (b / 16)) = digit_of (b / 16) (omega arith) in
    let low : IsLowerDigit (slice_index lower_digits (b % 16)) = digit_of (b % 16) (omega arith) in
    All-cons IsLowerDigit (slice_index lower_digits (b / 16)) (slice_index lower_digits (b % 16) ∷ encode_lower rest) high
    (All-cons IsLowerDigit (slice_index lower_digits (b % 16)) (encode_lower rest) low (All-digits rest (All-tail IsByte b rest h)))

pub octets_of-encode_lower : (bytes : List ℕ) → IsOctets bytes → octets_of (encode_lower bytes) ≡ Some bytes
octets_of-encode_lower bytes h =
    rw (list_all-from_AllPass is_lower_hex_digit (encode_lower bytes) (All-digits bytes h.1), decode_sized-encode_lower bytes 16 h.0 (IsBytes-from_All bytes h.1)) refl
