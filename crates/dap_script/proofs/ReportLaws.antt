-- Bytes have one spelling in base64, of visible characters.
use Rattle.std.proofs.Common.{◌≡◌, ℕ, ◌+◌, ◌*◌, ◌/◌, ◌%◌, ◌<◌, List, [], ◌∷◌, true, ◌&&◌, nat_lt, length, replicate, slice_index, Some, Ok, refl, ◌∙◌, inl, inr, arith}
use Rattle.std.proofs.lemmas.Bool.Decides.{nat_tests}
use Rattle.std.proofs.lemmas.Bool.{and_parts, cases_lt, ltb-true}
use Rattle.std.proofs.lemmas.List.Elements.{All-append, All-from_recursion, All-get_or, All-head, All-nil, All-replicate, All-tail}
use Rattle.std.proofs.lemmas.List.Sums.{AllPass-from_list_all, list_all-from_AllPass}
use Rattle.std.proofs.lemmas.List.{get_or_past}
use Rattle.std.proofs.lemmas.Option.{option_and_then_some}
use Rattle.std.specs.List.{All, list_all}
use Rattle.base64.proofs.EngineFacts.{decode_of-encode_of, decode_of_strict}
use Rattle.base64.specs.Engines.{standard}
use Rattle.base64.specs.GeneralPurpose.{IsBytes, decode_of, decoded_of, encode_of, engine_symbols}
use Rattle.base64.specs.Rfc4648.{encode_group, encode_one, encode_symbols, encode_two, padding_len}
use Rattle.dap_script.specs.OptionLaws.{guarded, ok_some}
use Rattle.dap_script.proofs.ReportLemmas.{report_of-decoded}
use Rattle.dap_script.proofs.Visible.{IsVisible, is_visible}
use Rattle.dap_script.specs.Fields.{is_byte, report_of, some_bytes}
use Rattle.dap_script.specs.Spelling.{AreBytes}

IsBytes-from_AreBytes : (bytes : List ℕ) → AreBytes bytes → IsBytes bytes
IsBytes-from_AreBytes bytes h i = elim (cases_lt i (length bytes)) [
  | inl lt ↦ All-get_or (λ byte. byte < 256) bytes i 0 lt h
  | inr ge ↦ rw (get_or_past bytes i 0 ge) (omega arith)
]

AreBytes-from_list_all : (bytes : List ℕ) → list_all is_byte bytes ≡ true → AreBytes bytes
AreBytes-from_list_all bytes h k d lt = ltb-true _ 256 (AllPass-from_list_all is_byte bytes h k d lt)

-- ---- what is read is spelled so

decoded_is : (text bytes : List ℕ) → decoded_of standard text ≡ Some bytes → decode_of standard text ≡ Ok bytes
unfolding decoded_of
decoded_is text bytes h = ok_some (decode_of standard text) bytes h

pub report_spelled : (text bytes : List ℕ) → IsBytes text → report_of text ≡ Some bytes → (text ≡ encode_of standard bytes) × (0 < length bytes) × AreBytes bytes
report_spelled text bytes t h = option_and_then_some some_bytes (decoded_of standard text) bytes h (λ all e k.
    let g = guarded (nat_lt 0 (length all) && list_all is_byte all) (Some all) bytes k in
    let same : all ≡ bytes = cc g.1 in
    let tests = and_parts (nat_lt 0 (length all)) (list_all is_byte all) g.0 in
    rw (← same) (decode_of_strict standard text all (refl, refl) t (decoded_is text all e), ltb-true 0 (length all) tests.0, AreBytes-from_list_all all tests.1))

-- ---- what is spelled so is read

pub report_of-encode_of : (bytes : List ℕ) → 0 < length bytes → AreBytes bytes → report_of (encode_of standard bytes) ≡ Some bytes
report_of-encode_of bytes some h =
    let full : nat_lt 0 (length bytes) ≡ true = grind (arith, nat_tests) in
    let all : list_all is_byte bytes ≡ true = list_all-from_AllPass is_byte bytes (λ k d lt. (let small : _ = h k d lt in grind (arith, nat_tests))) in
    report_of-decoded (encode_of standard bytes) bytes (decode_of-encode_of standard bytes refl (IsBytes-from_AreBytes bytes h)) ∙ rw (full, all) refl

-- the 64 symbols
abbrev symbols : List ℕ
symbols = engine_symbols standard

visible_symbol : (i : ℕ) → i < 64 → IsVisible (slice_index symbols i)
visible_symbol i h = AllPass-from_list_all is_visible symbols refl i 0 h

All-encode_symbols : (bytes : List ℕ) → AreBytes bytes → All IsVisible (encode_symbols symbols bytes)
unfolding encode_symbols
All-encode_symbols [] h = All-nil IsVisible
All-encode_symbols (a ∷ []) h =
    let la : a < 256 = All-head (λ byte. byte < 256) a [] h in
    All-from_recursion IsVisible (encode_one symbols a) (visible_symbol (a / 4) (omega arith), (visible_symbol (a % 4 * 16) (omega arith), tt))
All-encode_symbols (a ∷ b ∷ []) h =
    let la : a < 256 = All-head (λ byte. byte < 256) a (b ∷ []) h in
    let lb : b < 256 = All-head (λ byte. byte < 256) b [] (All-tail (λ byte. byte < 256) a (b ∷ []) h) in
    All-from_recursion IsVisible (encode_two symbols a b)
    (visible_symbol (a / 4) (omega arith), (visible_symbol (a % 4 * 16 + b / 16) (omega arith), (visible_symbol (b % 16 * 4) (omega arith), tt)))
All-encode_symbols (a ∷ b ∷ c ∷ rest) h =
    let tail = All-tail (λ byte. byte < 256) a (b ∷ c ∷ rest) h in
    let more = All-tail (λ byte. byte < 256) b (c ∷ rest) tail in
    let la : a < 256 = All-head (λ byte. byte < 256) a (b ∷ c ∷ rest) h in
    let lb : b < 256 = All-head (λ byte. byte < 256) b (c ∷ rest) tail in
    let lc : c < 256 = All-head (λ byte. byte < 256) c rest more in
    let group = All-from_recursion IsVisible (encode_group symbols a b c) (
      visible_symbol (a / 4) (omega arith),
      (
        visible_symbol (a % 4 * 16 + b / 16) (omega arith),
        (
          visible_symbol (b % 16 * 4 + c / 64) (omega arith),
          (visible_symbol (c % 64) (omega arith), tt),
        ),
      ),
    ) in
    All-append IsVisible (encode_group symbols a b c) (encode_symbols symbols rest) group (All-encode_symbols rest (All-tail (λ byte. byte < 256) c rest more))

pub visible_report : (bytes : List ℕ) → AreBytes bytes → All IsVisible (encode_of standard bytes)
visible_report bytes h =
    All-append IsVisible (encode_symbols symbols bytes) (replicate (padding_len (length bytes)) 61) (All-encode_symbols bytes h)
    (All-replicate IsVisible (padding_len (length bytes)) 61 refl)
