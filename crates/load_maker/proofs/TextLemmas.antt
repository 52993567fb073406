-- The text of a load, as it grows.
use Rattle.std.proofs.Common.{◌≡◌, ℕ, ◌+◌, ◌/◌, ◌%◌, List, [], slice_index, ◌∷◌, ◌++◌, map, codes, refl, sym, ap, ◌∙◌, arith}
use Rattle.std.proofs.lemmas.Grind.{flat_map-append}
use Rattle.std.proofs.lemmas.List.FromFn.{map-range_with_len_more}
use Rattle.std.proofs.lemmas.List.{append_assoc, flat_map_more}
use Rattle.std.specs.Fmt.{digits}
use Rattle.std.specs.List.{flat_map, range_with_len}
use Rattle.hex.specs.Hex.{encode_with}
use Rattle.dap_script.specs.Spelling.{ended}
use Rattle.dap_script.specs.declared.line.Line.{Line}
use Rattle.load_maker.specs.Load.{collections, load_task, load_text, measurement}

-- the digits of bytes behind others
pub encode_with-append : (digits a b : List ℕ) → encode_with digits (a ++ b) ≡ encode_with digits a ++ encode_with digits b
unfolding encode_with
encode_with-append digits [] b = refl
encode_with-append digits (x ∷ a) b = ap (λ (t : List ℕ). slice_index digits (x / 16) ∷ slice_index digits (x % 16) ∷ t) (encode_with-append digits a b)

-- one measurement more
pub text-more : (seed n : ℕ) (before after : List ℕ)
    → before ≡ ended load_task ++ flat_map ended (map (measurement seed) (range_with_len 0 n)) → after ≡ before ++ ended (measurement seed n)
    → after ≡ ended load_task ++ flat_map ended (map (measurement seed) (range_with_len 0 (n + 1)))
text-more seed n before after e f =
    let lines : List Line = map (measurement seed) (range_with_len 0 n) in
    f ∙ ap (λ (t : List ℕ). t ++ ended (measurement seed n)) e ∙ flat_map_more ended (ended load_task) lines (measurement seed n)
    ∙ ap (λ (ls : List Line). ended load_task ++ flat_map ended ls) (sym (map-range_with_len_more (measurement seed) 0 n n (omega arith)))

-- the collections at the end
pub text-whole : (seed n : ℕ) (before after : List ℕ)
    → before ≡ ended load_task ++ flat_map ended (map (measurement seed) (range_with_len 0 n)) → after ≡ before ++ codes "collect load 0\ncollect load 3600\n"
    → after ≡ load_text n seed
unfolding digits
text-whole seed n before after e f =
    let lines : List Line = map (measurement seed) (range_with_len 0 n) in
    f ∙ ap (λ (t : List ℕ). t ++ flat_map ended collections) e ∙ append_assoc (ended load_task) (flat_map ended lines) (flat_map ended collections)
    ∙ ap (λ (t : List ℕ). ended load_task ++ t) (sym (flat_map-append ended lines collections))

-- the task alone
pub text-first : (seed : ℕ) (first : List ℕ) → first ≡ codes "task load sum 16 1 3600\n"
    → first ≡ ended load_task ++ flat_map ended (map (measurement seed) (range_with_len 0 0))
unfolding digits
text-first seed first e = e
