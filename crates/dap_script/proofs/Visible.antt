-- The visible characters: ASCII without the space and what lies below it.
use Rattle.std.proofs.Common.{◌≡◌, ℕ, ◌<◌, ◌^◌, List, Bool, true, ◌&&◌, nat_le, nat_lt, length, refl, arith}
use Rattle.std.proofs.lemmas.Bool.Decides.{Decides-by_and, nat_tests}
use Rattle.std.proofs.lemmas.Bool.{and_parts}
use Rattle.std.proofs.lemmas.Fmt.{digits_decimal}
use Rattle.std.proofs.lemmas.List.Elements.{All-weaker}
use Rattle.std.proofs.lemmas.List.Sums.{AllPass-from_list_all}
use Rattle.std.specs.Char.{is_ascii_digit}
use Rattle.std.specs.Fmt.{decimal}
use Rattle.std.specs.List.{All, list_all}
use Rattle.std.specs.Str.{all_ascii_digits}
use Rattle.hex.specs.Hex.{encode_lower}
use Rattle.dap_bytes.specs.Name.{IsName, is_name_char}
use Rattle.dap_script.proofs.HexLaws.{All-digits, IsLowerDigit}
use Rattle.dap_script.proofs.NumberLemmas.{own}
use Rattle.dap_script.specs.Spelling.{IsOctets}

abbrev pub is_visible : ℕ → Bool
is_visible c = nat_lt 32 c && nat_lt c 127

abbrev pub IsVisible : ℕ → Type 0
IsVisible c = is_visible c ≡ true

visible_name_char : (c : ℕ) → is_name_char c ≡ true → IsVisible c
visible_name_char c h = grind (arith, nat_tests)

visible_digit : (c : ℕ) → is_ascii_digit c ≡ true → IsVisible c
visible_digit c h = grind (arith, nat_tests)

visible_hex_digit : (c : ℕ) → IsLowerDigit c → IsVisible c
visible_hex_digit c h = grind (arith, nat_tests)

pub visible_name : (name : List ℕ) → IsName name → All IsVisible name
visible_name name h =
    All-weaker (λ c. is_name_char c ≡ true) IsVisible visible_name_char name
    (AllPass-from_list_all is_name_char name (and_parts (nat_le 1 (length name) && nat_le (length name) 32) (list_all is_name_char name) h).1)

pub digits_of-decimal : (n : ℕ) → n < 2 ^ 64 → All (λ c. is_ascii_digit c ≡ true) (decimal n)
digits_of-decimal n h = (Decides-by_and is_ascii_digit (λ c. is_ascii_digit c ≡ true) all_ascii_digits (λ c. (λ d. d, λ d. d)) refl (λ c cs. refl) (decimal n)).0 (digits_decimal own n h)

pub visible_decimal : (n : ℕ) → n < 2 ^ 64 → All IsVisible (decimal n)
visible_decimal n h = All-weaker (λ c. is_ascii_digit c ≡ true) IsVisible visible_digit (decimal n) (digits_of-decimal n h)

pub visible_hex : (bytes : List ℕ) → IsOctets bytes → All IsVisible (encode_lower bytes)
visible_hex bytes h = All-weaker IsLowerDigit IsVisible visible_hex_digit (encode_lower bytes) (All-digits bytes h.1)
