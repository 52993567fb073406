-- The words of a task line: its name first, its minimum and its precision last, and the kind's between them.
use Rattle.std.proofs.Common.{◌≡◌, ℕ, ◌-◌, ◌≤◌, List, [], take, drop, length, true, nat_le, get_or, Option, Some, None, Bor, refl, ap, ◌∙◌, arith}
use Rattle.std.proofs.lemmas.Bool.Decides.{nat_tests}
use Rattle.std.proofs.lemmas.List.{length-map, take-map, drop-map}
use Rattle.std.proofs.Math.ListN.{get_or-map}
use Rattle.vdaf_api.specs.declared.kind.Kind.{Kind}
use Rattle.dap_script.specs.Fields.{kind_of}
use Rattle.dap_script.specs.Line.{task_until, task_with}
use Rattle.dap_script.specs.Words.{texts, word}

length-texts : (words : List (Bor (List ℕ))) → length (texts words) ≡ length words
length-texts words = length-map words (λ (w : Bor (List ℕ)). w.now)

word-texts : (words : List (Bor (List ℕ))) (i : ℕ) → word (texts words) i ≡ (get_or words i (record { ref_ptr = (0, 0); now = [] })).now
word-texts words i = get_or-map (λ (w : Bor (List ℕ)). w.now) words i (record { ref_ptr = (0, 0); now = [] })

middle : (fields : List (Bor (List ℕ))) (n : ℕ) → take n (drop 1 (texts fields)) ≡ texts (take n (drop 1 fields))
middle fields n = rw (drop-map (λ (w : Bor (List ℕ)). w.now) 1 fields, take-map (λ (w : Bor (List ℕ)). w.now) n (drop 1 fields)) refl

kind_of-middle : (fields : List (Bor (List ℕ))) (kind : Option Kind) → kind_of (texts (take (length fields - 2 - 1) (drop 1 fields))) ≡ kind
    → kind_of (take (length fields - 3) (drop 1 (texts fields))) ≡ kind
kind_of-middle fields kind e =
    let same : length fields - 2 - 1 ≡ length fields - 3 = omega arith in
    ap kind_of (middle fields (length fields - 3)) ∙ rw same at e

pub task_stops : (expires : Option ℕ) (fields : List (Bor (List ℕ))) → 3 ≤ length fields → kind_of (texts (take (length fields - 2 - 1) (drop 1 fields))) ≡ None → None ≡ task_until expires (texts fields)
task_stops expires fields h e =
    let long : nat_le 3 (length fields) ≡ true = grind (arith, nat_tests) in
    rw (length-texts fields, long, kind_of-middle fields None e) refl

pub task_goes : (expires : Option ℕ) (fields : List (Bor (List ℕ))) (kind : Kind) → 3 ≤ length fields → kind_of (texts (take (length fields - 2 - 1) (drop 1 fields))) ≡ Some kind
    → task_with (get_or fields 0 (record { ref_ptr = (0, 0); now = [] })).now kind (get_or fields (length fields - 2) (record { ref_ptr = (0, 0); now = [] })).now
    (get_or fields (length fields - 1) (record { ref_ptr = (0, 0); now = [] })).now expires ≡ task_until expires (texts fields)
task_goes expires fields kind h e =
    let long : nat_le 3 (length fields) ≡ true = grind (arith, nat_tests) in
    rw (← word-texts fields 0, ← word-texts fields (length fields - 2), ← word-texts fields (length fields - 1), length-texts fields, long, kind_of-middle fields (Some kind) e) refl
