-- The document of a file that isn't too long, and its tables.
use Rattle.std.proofs.Common.{◌≡◌, ℕ, ◌≤◌, true, false, List, length, nat_eq, nat_le, if◌then◌else◌, Some, None, String, Global, IsUtf8, codes, refl, arith}
use Rattle.std.proofs.lemmas.Bool.Decides.{nat_tests}
use Rattle.std.proofs.lemmas.Str.{is_utf8-from_IsUtf8, IsUtf8-from_is_utf8}
use Rattle.std.specs.Option.{option_and_then}
use Rattle.std.specs.Str.{is_utf8}
use Rattle.toml.specs.Data.{Members, as_array, get_member}
use Rattle.toml.specs.Parse.{parse_document}
use Rattle.toml.specs.View.{members_view}
use Rattle.toml.specs.declared.value.Value.{Value}
use Rattle.dap_tasks.specs.File.{document_of, tables_in, tables_under_task}
use Rattle.dap_tasks.proofs.OtherLemmas.{length-table_keys}

short_file : (bytes : List ℕ) → length bytes ≤ 1048576 → nat_le (length bytes) 1048576 ≡ true
short_file bytes short = grind (arith, nat_tests)

pub read_as : (bytes : List ℕ) (document : Members) → length bytes ≤ 1048576 → IsUtf8 bytes → parse_document bytes ≡ Some document → document_of bytes ≡ Some document
read_as bytes document short utf8 parsed = rw (short_file bytes short, is_utf8-from_IsUtf8 bytes utf8) parsed

pub not_read : (bytes : List ℕ) → length bytes ≤ 1048576 → (IsUtf8 bytes → parse_document bytes ≡ None) → document_of bytes ≡ None
not_read bytes short parsed =
    rw (short_file bytes short)
    (elim (is_utf8 bytes) as (λ b. is_utf8 bytes ≡ b → (if b then parse_document bytes else None) ≡ None) [
      | true ↦ λ e. parsed (IsUtf8-from_is_utf8 bytes e)
      | false ↦ λ e. refl
    ] refl)

-- the tables under the one key, if it is `task`
pub tables_under-one : (es : List (String Global × Value)) → nat_eq (length es) 1 ≡ true
    → tables_under_task (members_view es) ≡ option_and_then tables_in (option_and_then as_array (get_member (codes "task") (members_view es)))
tables_under-one es one = rw (length-table_keys es, one)

-- no tables where there isn't one key
pub tables_under-others : (es : List (String Global × Value)) → nat_eq (length es) 1 ≡ false → tables_under_task (members_view es) ≡ None
tables_under-others es others = rw (length-table_keys es, others)
