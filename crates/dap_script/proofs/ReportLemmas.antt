-- What base64 is read as.
use Rattle.std.proofs.Common.{◌≡◌, ℕ, ◌<◌, List, [], ◌∷◌, length, true, false, nat_lt, Bool, ◌&&◌, Some, None, Ok, Err, refl, sym, ap, ◌∙◌, suc, arith}
use Rattle.std.proofs.lemmas.Bool.Decides.{nat_tests}
use Rattle.std.specs.List.{list_all}
use Rattle.std.specs.Option.{option_and_then}
use Rattle.std.specs.Result.{result_ok}
use Rattle.base64.proofs.Streams.{decoded_of-ok}
use Rattle.base64.specs.Engines.{standard}
use Rattle.base64.specs.GeneralPurpose.{IsBytes, decode_of, decoded_of}
use Rattle.base64.specs.declared.decode.DecodeError.{DecodeError}
use Rattle.dap_script.specs.Fields.{is_byte, report_of, some_bytes}

pub report_of-decoded : (text bytes : List ℕ) → decode_of standard text ≡ Ok bytes → report_of text ≡ some_bytes bytes
report_of-decoded text bytes h = ap (option_and_then some_bytes) (decoded_of-ok standard text bytes h)

byte_in_front : (c : ℕ) (rest : Bool) → c < 256 → rest ≡ true → (is_byte c && rest) ≡ true
byte_in_front c rest h e = grind (arith, nat_tests)

pub list_all-from_IsBytes : (bytes : List ℕ) → IsBytes bytes → list_all is_byte bytes ≡ true
list_all-from_IsBytes [] h = refl
list_all-from_IsBytes (c ∷ cs) h = byte_in_front c (list_all is_byte cs) (h 0) (list_all-from_IsBytes cs (λ i. h (suc i)))

pub none_from_empty : (text bytes : List ℕ) → decode_of standard text ≡ Ok bytes → length bytes ≡ 0 → None ≡ report_of text
none_from_empty text bytes h none =
    let empty : nat_lt 0 (length bytes) ≡ false = grind (arith, nat_tests) in
    sym (report_of-decoded text bytes h ∙ rw empty refl)

pub some_from_bytes : (text bytes : List ℕ) → decode_of standard text ≡ Ok bytes → IsBytes bytes → 0 < length bytes → Some bytes ≡ report_of text
some_from_bytes text bytes h all some =
    let full : nat_lt 0 (length bytes) ≡ true = grind (arith, nat_tests) in
    sym (report_of-decoded text bytes h ∙ rw (full, list_all-from_IsBytes bytes all) refl)

pub none_from_fault : (text : List ℕ) (fault : DecodeError) → decode_of standard text ≡ Err fault → None ≡ report_of text
unfolding decoded_of
none_from_fault text fault h = sym (ap (λ r. option_and_then some_bytes (result_ok r)) h)
