-- How a task line is printed, part by part.
use Rattle.std.proofs.Common.{◌≡◌, ℕ, ◌-◌, ◌≤◌, List, [], ◌∷◌, ◌++◌, take, drop, length, get_or, codes, Option, Some, None, refl, sym, ap, ◌∙◌, arith}
use Rattle.std.proofs.lemmas.List.{append-nil, append_assoc, drop_all, take_all}
use Rattle.std.specs.Fmt.{decimal}
use Rattle.std.specs.List.{flat_map, join_with_byte}
use Rattle.vdaf_api.specs.declared.kind.Kind.{Kind}
use Rattle.vdaf_api.specs.declared.kind.Kind.TheVariants.{Count, Histogram, Sum, Vector}
use Rattle.dap_script.specs.Spelling.{expiry_text, kind_words, list_text, spelling}
use Rattle.dap_script.specs.declared.line.Line.TheVariants.{Task}

-- numbers in decimal, each after a comma
abbrev pub after_commas : List ℕ → List ℕ
after_commas numbers = flat_map (λ n. 44 ∷ decimal n) numbers

pub join_with_byte-commas : (n : ℕ) (numbers : List ℕ) → list_text (n ∷ numbers) ≡ decimal n ++ after_commas numbers
join_with_byte-commas n [] = sym (append-nil (decimal n))
join_with_byte-commas n (m ∷ numbers) = ap (λ (rest : List ℕ). decimal n ++ 44 ∷ rest) (join_with_byte-commas m numbers)

-- the words of a task line, one after another
pub spelling-task : (name : List ℕ) (kind : Kind) (min precision : ℕ)
    → spelling (Task name kind min precision None)
    ≡ codes "task " ++ (name ++ (32 ∷ (join_with_byte 32 (kind_words kind) ++ (32 ∷ (decimal min ++ 32 ∷ decimal precision)))))
spelling-task name Count min precision = refl
spelling-task name (Sum bits) min precision = refl
spelling-task name (Histogram bounds) min precision = refl
spelling-task name (Vector len bits) min precision =
    ap (λ (words : List ℕ). codes "task " ++ (name ++ (32 ∷ (codes "vector " ++ words))))
    (sym (append_assoc (decimal len) (32 ∷ decimal bits) (32 ∷ (decimal min ++ 32 ∷ decimal precision))))

-- the same behind what stands there, as it grows
pub task-written : (old name : List ℕ) (kind : Kind) (min precision : ℕ)
    → (((((((old ++ codes "task ") ++ name) ++ 32 ∷ []) ++ join_with_byte 32 (kind_words kind)) ++ 32 ∷ []) ++ decimal min) ++ 32 ∷ []) ++ decimal precision
    ≡ old ++ spelling (Task name kind min precision None)
task-written old name kind min precision = rw (spelling-task name kind min precision) (simp append_assoc)

-- the expiry behind the other words
pub spelling-expiry : (name : List ℕ) (kind : Kind) (min precision : ℕ) (expires : Option ℕ)
    → spelling (Task name kind min precision None) ++ expiry_text expires ≡ spelling (Task name kind min precision expires)
spelling-expiry name kind min precision None = append-nil (spelling (Task name kind min precision None))
spelling-expiry name Count min precision (Some t) = simp (append_assoc, append-nil)
spelling-expiry name (Sum bits) min precision (Some t) = simp (append_assoc, append-nil)
spelling-expiry name (Histogram bounds) min precision (Some t) = simp (append_assoc, append-nil)
spelling-expiry name (Vector len bits) min precision (Some t) = simp (append_assoc, append-nil)

first_others : (xs : List ℕ) → 1 ≤ length xs → xs ≡ get_or xs 0 0 ∷ take (length xs - 1) (drop 1 xs)
first_others [] h = absurd (omega arith)
first_others (x ∷ xs) h = ap (λ (others : List ℕ). x ∷ others) (sym (take_all (length (x ∷ xs) - 1) xs (omega arith)))

pub bounds-written : (bounds old out written : List ℕ) (i : ℕ) → 1 ≤ length bounds → length (take (length bounds - 1) (drop 1 bounds)) ≤ i
    → written ≡ old ++ decimal (get_or bounds 0 0)
    → out ++ after_commas (drop i (take (length bounds - 1) (drop 1 bounds))) ≡ written ++ after_commas (take (length bounds - 1) (drop 1 bounds))
    → out ≡ old ++ list_text bounds
bounds-written bounds old out written i some last first e =
    let others : List ℕ = take (length bounds - 1) (drop 1 bounds) in
    let n : ℕ = get_or bounds 0 0 in
    sym (append-nil out) ∙ ap (λ (rest : List ℕ). out ++ after_commas rest) (sym (drop_all i others last)) ∙ e
    ∙ ap (λ (w : List ℕ). w ++ after_commas others) first ∙ append_assoc old (decimal n) (after_commas others)
    ∙ ap (λ (text : List ℕ). old ++ text) (sym (join_with_byte-commas n others))
    ∙ ap (λ (bs : List ℕ). old ++ list_text bs) (sym (first_others bounds some))
