-- No name stands in two task lines, and none of the names in one, exactly where each line may follow those before it.
use Rattle.std.proofs.Common.{◌≡◌, ℕ, List, [], ◌∷◌, ◌++◌, Bool, true, false, ◌&&◌, ◌||◌, not, refl, sym, ap, subst, ◌∙◌}
use Rattle.std.proofs.lemmas.Bool.{and_parts, or_from, or_parts}
use Rattle.std.proofs.lemmas.List.Folds.{list_any-append}
use Rattle.std.proofs.lemmas.List.Elements.{All-append, All-cons, All-head, All-nil}
use Rattle.std.proofs.lemmas.List.{append-nil, append_assoc}
use Rattle.std.specs.List.{All, AllByRecursion, IsDistinct, list_any}
use Rattle.std.specs.Str.{bytes_eq}
use Rattle.dap_script.proofs.WordLaws.{All-left, All-right}
use Rattle.dap_script.specs.Script.{follows, is_among, is_new, names_task, task_name, task_names}
use Rattle.dap_script.specs.declared.line.Line.TheVariants.{Blank, Collect, Measure, Now, Restart, Task, Upload}
use Rattle.dap_script.specs.declared.line.Line.{Line}

-- no two of the names are the same
abbrev AreDistinct : List (List ℕ) → Type 0
AreDistinct names = IsDistinct bytes_eq names

-- the name differs from each of these
abbrev Differs : List ℕ → List (List ℕ) → Type 0
Differs name names = AllByRecursion (λ y. bytes_eq name y ≡ false) names

-- ---- lists of names

Differs-push : (x name : List ℕ) (xs : List (List ℕ)) → Differs x xs → bytes_eq x name ≡ false → Differs x (xs ++ name ∷ [])
Differs-push x name [] h e = (e, tt)
Differs-push x name (y ∷ xs) h e = (h.0, Differs-push x name xs h.1 e)

Differs-front : (x : List ℕ) (xs ys : List (List ℕ)) → Differs x (xs ++ ys) → Differs x xs
Differs-front x [] ys h = tt
Differs-front x (y ∷ xs) ys h = (h.0, Differs-front x xs ys h.1)

Differs-at : (x name : List ℕ) (xs ys : List (List ℕ)) → Differs x (xs ++ name ∷ ys) → bytes_eq x name ≡ false
Differs-at x name [] ys h = h.0
Differs-at x name (y ∷ xs) ys h = Differs-at x name xs ys h.1

neither : (b c : Bool) → (b || c) ≡ false → (b ≡ false) × (c ≡ false)
neither true c h = cc h
neither false c h = (refl, h)

distinct-push : (xs : List (List ℕ)) (name : List ℕ) → AreDistinct xs → list_any (λ x. bytes_eq x name) xs ≡ false → AreDistinct (xs ++ name ∷ [])
unfolding IsDistinct
distinct-push [] name h e = (tt, tt)
distinct-push (x ∷ xs) name h e =
    let n = neither (bytes_eq x name) (list_any (λ y. bytes_eq y name) xs) e in
    (Differs-push x name xs h.0 n.0, distinct-push xs name h.1 n.1)

distinct-front : (xs ys : List (List ℕ)) → AreDistinct (xs ++ ys) → AreDistinct xs
unfolding IsDistinct
distinct-front [] ys h = tt
distinct-front (x ∷ xs) ys h = (Differs-front x xs ys h.0, distinct-front xs ys h.1)

none_before : (xs : List (List ℕ)) (name : List ℕ) (ys : List (List ℕ)) → AreDistinct (xs ++ name ∷ ys) → list_any (λ x. bytes_eq x name) xs ≡ false
unfolding IsDistinct
none_before [] name ys h = refl
none_before (x ∷ xs) name ys h = rw (Differs-at x name xs ys h.0) (none_before xs name ys h.1)

-- ---- lines

task_names-append : (before after : List Line) → task_names (before ++ after) ≡ task_names before ++ task_names after
task_names-append [] after = refl
task_names-append (line ∷ before) after =
    ap (λ (names : List (List ℕ)). task_name line ++ names) (task_names-append before after) ∙ sym (append_assoc (task_name line) (task_names before) (task_names after))

-- one of the lines is a task line of this name exactly where their names have it
any_names : (name : List ℕ) (lines : List Line) → list_any (names_task name) lines ≡ is_among (task_names lines) name
any_names name [] = refl
any_names name (line ∷ lines) =
    ap (λ b. names_task name line || b) (any_names name lines)
    ∙ sym (list_any-append (λ x. bytes_eq x name) (task_name line) (task_names lines))

negated : (b : Bool) → not b ≡ true → b ≡ false
negated true h = cc h
negated false h = refl

-- lines whose tasks have different names, and none of these
pub record AreFree (names : List (List ℕ)) (lines : List Line) : Type 0 where
  pub distinct : AreDistinct (task_names lines)
  pub others : All (λ name. is_among names name ≡ false) (task_names lines)

pub free_none : (names : List (List ℕ)) → AreFree names []
unfolding IsDistinct
free_none names = record { distinct = tt; others = All-nil (λ name. is_among names name ≡ false) }

no_new_name : (names : List (List ℕ)) (before : List Line) → AreFree names before → (line : Line) → task_names (line ∷ []) ≡ [] → AreFree names (before ++ line ∷ [])
no_new_name names before h line none =
    let same : task_names (before ++ line ∷ []) ≡ task_names before =
    task_names-append before (line ∷ []) ∙ ap (λ (new : List (List ℕ)). task_names before ++ new) none ∙ append-nil (task_names before) in
    record {
      distinct = subst AreDistinct (sym same) h.distinct;
      others = subst (All (λ name. is_among names name ≡ false)) (sym same) h.others;
    }

-- one more line
pub free_next : (names : List (List ℕ)) (before : List Line) (line : Line) → AreFree names before → follows names before line ≡ true → AreFree names (before ++ line ∷ [])
free_next names before (Task name kind min precision expires) h f =
    let new = or_parts (is_among names name) (list_any (names_task name) before) (negated _ (and_parts (is_new names before name) true f).0) in
    let all : task_names (before ++ Task name kind min precision expires ∷ []) ≡ task_names before ++ name ∷ [] = task_names-append before (Task name kind min precision expires ∷ []) in
    let Other : List ℕ → Type 0 = λ x. is_among names x ≡ false in
    record {
      distinct = subst AreDistinct (sym all) (distinct-push (task_names before) name h.distinct (sym (any_names name before) ∙ new.1));
      others = subst (All Other) (sym all) (All-append Other (task_names before) (name ∷ []) h.others (All-cons Other name [] new.0 (All-nil Other)));
    }
free_next names before Blank h f = no_new_name names before h Blank refl
free_next names before (Now t) h f = no_new_name names before h (Now t) refl
free_next names before (Measure name id time value seed) h f = no_new_name names before h (Measure name id time value seed) refl
free_next names before (Upload report) h f = no_new_name names before h (Upload report) refl
free_next names before (Collect name span) h f = no_new_name names before h (Collect name span) refl
free_next names before (Restart node) h f = no_new_name names before h (Restart node) refl

-- a line among others
pub follows_others : (names : List (List ℕ)) (before : List Line) (line : Line) (after : List Line) → AreFree names (before ++ line ∷ after) → follows names before line ≡ true
follows_others names before (Task name kind min precision expires) after h =
    let all : task_names (before ++ Task name kind min precision expires ∷ after) ≡ task_names before ++ name ∷ task_names after =
    task_names-append before (Task name kind min precision expires ∷ after) in
    let Other : List ℕ → Type 0 = λ x. is_among names x ≡ false in
    let new : Other name =
    All-head Other name (task_names after) (All-right Other (task_names before) (name ∷ task_names after) (subst (All Other) all h.others)) in
    ap (λ b. not b && true)
    (or_from _ _ new (any_names name before ∙ none_before (task_names before) name (task_names after) (subst AreDistinct all h.distinct)))
follows_others names before Blank after h = refl
follows_others names before (Now t) after h = refl
follows_others names before (Measure name id time value seed) after h = refl
follows_others names before (Upload report) after h = refl
follows_others names before (Collect name span) after h = refl
follows_others names before (Restart node) after h = refl

pub free_before : (names : List (List ℕ)) (before after : List Line) → AreFree names (before ++ after) → AreFree names before
free_before names before after h = record {
  distinct = distinct-front (task_names before) (task_names after) (subst AreDistinct (task_names-append before after) h.distinct);
  others = All-left (λ name. is_among names name ≡ false) (task_names before) (task_names after)
      (subst (All (λ name. is_among names name ≡ false)) (task_names-append before after) h.others);
}
