-- How many tasks are known, by their names.
use Rattle.std.proofs.Common.{◌≡◌, ℕ, zero, suc, ◌+◌, ◌<◌, ◌≤◌, List, [], ◌∷◌, ◌++◌, length, take, Bool, cond, true, false, nat_lt, Option, Some, None, refl, sym, ap, subst, ◌∙◌, zero-add, arith, append-nil, append_assoc}
use Rattle.std.proofs.Math.Seq.{take-length}
use Rattle.std.proofs.lemmas.Bool.{le-ltb, ltb-false, ltb-true, or_from}
use Rattle.std.proofs.lemmas.List.{length-append}
use Rattle.std.proofs.lemmas.List.Folds.{find-append}
use Rattle.std.proofs.lemmas.Map.Keys.{IsDistinct-head, IsDistinct-tail}
use Rattle.std.specs.List.{AllByRecursion, IsDistinct, find}
use Rattle.std.specs.Option.{option_or}
use Rattle.std.specs.Str.{bytes_eq}
use Rattle.dap_tasks.specs.Task.{PlainTask, has_name}
use Rattle.dap_script.specs.Script.{is_among, task_name, task_names}
use Rattle.dap_script.specs.declared.line.Line.{Line}
use Rattle.dap_model.specs.Limits.{count_names, count_new, full_from, full_line_of}
use Rattle.dap_model.specs.Passes.{IsFull, IsFullExact, names_by}
use Rattle.dap_model.specs.Run.{opening_of, tasks_of}
use Rattle.dap_model.specs.State.{State, names_of, task_named}

-- ---- counting

count_new-append : (known a b : List (List ℕ)) → count_new known (a ++ b) ≡ count_new known a + count_new (known ++ a) b
count_new-append known [] b = ap (λ (k : List (List ℕ)). count_new k b) (sym (append-nil known)) ∙ sym (zero-add (count_new (known ++ []) b))
count_new-append known (name ∷ more) b =
    let own : ℕ = cond (is_among known name) 0 1 in
    ap (λ (n : ℕ). own + n) (count_new-append (known ++ name ∷ []) more b
    ∙ ap (λ (k : List (List ℕ)). count_new (known ++ name ∷ []) more + count_new k b) (append_assoc known (name ∷ []) more))
    ∙ (let e : own + (count_new (known ++ name ∷ []) more + count_new (known ++ name ∷ more) b)
    ≡ own + count_new (known ++ name ∷ []) more + count_new (known ++ name ∷ more) b = omega arith in e)

-- a name counts where it is none of those before it
pub count-once : (names : List (List ℕ)) (name : List ℕ) → count_names (names ++ name ∷ []) ≡ count_names names + cond (is_among names name) 0 1
count-once names name =
    let own : ℕ = cond (is_among names name) 0 1 in
    let e : own + 0 ≡ own = omega arith in
    count_new-append [] names (name ∷ []) ∙ ap (λ (n : ℕ). count_names names + n) e

-- more names are no fewer
count_names-front : (a b : List (List ℕ)) → count_names a ≤ count_names (a ++ b)
count_names-front a b = omega (arith, count_new-append [] a b)

-- what stands behind names that all differ is none of them
among-none : (known : List (List ℕ)) (name : List ℕ) (more : List (List ℕ)) → IsDistinct bytes_eq (known ++ name ∷ more) → is_among known name ≡ false
among-none [] name more d = refl
among-none (k ∷ known) name more d =
    or_from _ _ (behind known (IsDistinct-head bytes_eq k (known ++ name ∷ more) d)) (among-none known name more (IsDistinct-tail bytes_eq k (known ++ name ∷ more) d))
  where
    behind : (names : List (List ℕ)) → AllByRecursion (λ y. bytes_eq k y ≡ false) (names ++ name ∷ more) → bytes_eq k name ≡ false
    behind [] h = h.0
    behind (n ∷ names) h = behind names h.1

pub distinct-front : (a b : List (List ℕ)) → IsDistinct bytes_eq (a ++ b) → IsDistinct bytes_eq a
unfolding IsDistinct
distinct-front [] b d = tt
distinct-front (x ∷ a) b d = (front a d.0, distinct-front a b d.1)
  where
    front : (names : List (List ℕ)) → AllByRecursion (λ y. bytes_eq x y ≡ false) (names ++ b) → AllByRecursion (λ y. bytes_eq x y ≡ false) names
    front [] h = tt
    front (n ∷ names) h = (h.0, front names h.1)

new-distinct : (known names : List (List ℕ)) → IsDistinct bytes_eq (known ++ names) → count_new known names ≡ length names
new-distinct known [] d = refl
new-distinct known (name ∷ more) d =
    let rest : count_new (known ++ name ∷ []) more ≡ length more =
    new-distinct (known ++ name ∷ []) more (subst (IsDistinct bytes_eq) (sym (append_assoc known (name ∷ []) more)) d) in
    ap (λ b. cond b 0 1 + count_new (known ++ name ∷ []) more) (among-none known name more d)
    ∙ (let e : 1 + count_new (known ++ name ∷ []) more ≡ suc (length more) = omega (arith, rest) in e)

pub count-distinct : (names : List (List ℕ)) → IsDistinct bytes_eq names → count_names names ≡ length names
count-distinct names d = new-distinct [] names d

-- ---- line by line

module _ (most : ℕ) where
  -- so many names are known with these and those of the first lines
  abbrev known : List (List ℕ) → List Line → ℕ → ℕ
  known names lines n = count_names (names ++ task_names (take n lines))

  next : (names : List (List ℕ)) (l : Line) (lines : List Line) (n : ℕ) → known names (l ∷ lines) (suc n) ≡ known (names ++ task_name l) lines n
  next names l lines n = ap (λ (k : List (List ℕ)). count_names k) (sym (append_assoc names (task_name l) (task_names (take n lines))))

  here : (names : List (List ℕ)) (lines : List Line) → known names lines 0 ≡ count_names names
  here names lines = ap (λ (k : List (List ℕ)). count_names k) (append-nil names)

  -- so many lines on, too many are known, and not before
  record At (names : List (List ℕ)) (n : ℕ) (lines : List Line) (line : ℕ) : Type 0 where
    at : ℕ
    number : line ≡ n + at
    within : at ≤ length lines
    before : (j : ℕ) → j < at → known names lines j ≤ most
    full : most < known names lines at

  at-once : (names : List (List ℕ)) (n : ℕ) (lines : List Line) (line : ℕ) → nat_lt most (count_names names) ≡ true → Some n ≡ Some line → At names n lines line
  at-once names n lines line many e =
      let same : n ≡ line = cc in
      record {
        at = 0;
        number = omega (arith, same);
        within = omega arith;
        before = λ j lt. absurd (omega (arith, lt));
        full = omega (arith, here names lines, ltb-true most (count_names names) many);
      }

  later : (names : List (List ℕ)) (n : ℕ) (l : Line) (lines : List Line) (line : ℕ) → nat_lt most (count_names names) ≡ false
      → At (names ++ task_name l) (n + 1) lines line → At names n (l ∷ lines) line
  later names n l lines line few r = record {
    at = suc r.at;
    number = omega (arith, r.number);
    within = omega (arith, r.within);
    before = earlier;
    full = omega (arith, r.full, next names l lines r.at);
  }
    where
      earlier : (j : ℕ) → j < suc r.at → known names (l ∷ lines) j ≤ most
      earlier zero lt = omega (arith, here names (l ∷ lines), ltb-false most (count_names names) few)
      earlier (suc j) lt = omega (arith, r.before j (omega (arith, lt)), next names l lines j)

  full-at : (names : List (List ℕ)) (n : ℕ) (lines : List Line) (line : ℕ) → full_from most names n lines ≡ Some line → At names n lines line
  full-at names n [] line e = go (nat_lt most (count_names names)) refl e
    where
      go : (b : Bool) → nat_lt most (count_names names) ≡ b → cond b (Some n) None ≡ Some line → At names n [] line
      go true is h = at-once names n [] line is h
      go false is h = absurd cc
  full-at names n (l ∷ lines) line e = go (λ h. full-at (names ++ task_name l) (n + 1) lines line h) (nat_lt most (count_names names)) refl e
    where
      go : (full_from most (names ++ task_name l) (n + 1) lines ≡ Some line → At (names ++ task_name l) (n + 1) lines line)
          → (b : Bool) → nat_lt most (count_names names) ≡ b → cond b (Some n) (full_from most (names ++ task_name l) (n + 1) lines) ≡ Some line → At names n (l ∷ lines) line
      go more true is h = at-once names n (l ∷ lines) line is h
      go more false is h = later names n l lines line is (more h)

  few-all : (names : List (List ℕ)) (n : ℕ) (lines : List Line) → full_from most names n lines ≡ None → count_names (names ++ task_names lines) ≤ most
  few-all names n [] e = go (nat_lt most (count_names names)) refl e
    where
      go : (b : Bool) → nat_lt most (count_names names) ≡ b → (let o : Option ℕ = cond b (Some n) None in o) ≡ None → count_names (names ++ []) ≤ most
      go true is h = absurd cc
      go false is h = omega (arith, here names [], ltb-false most (count_names names) is)
  few-all names n (l ∷ lines) e = go (λ h. few-all (names ++ task_name l) (n + 1) lines h) (nat_lt most (count_names names)) refl e
    where
      go : (full_from most (names ++ task_name l) (n + 1) lines ≡ None → count_names ((names ++ task_name l) ++ task_names lines) ≤ most)
          → (b : Bool) → nat_lt most (count_names names) ≡ b → cond b (Some n) (full_from most (names ++ task_name l) (n + 1) lines) ≡ None
          → count_names (names ++ (task_name l ++ task_names lines)) ≤ most
      go more true is h = absurd cc
      go more false is h = subst (λ (k : List (List ℕ)). count_names k ≤ most) (append_assoc names (task_name l) (task_names lines)) (more h)

  none-full : (names : List (List ℕ)) (n : ℕ) (lines : List Line) → count_names (names ++ task_names lines) ≤ most → full_from most names n lines ≡ None
  none-full names n [] few = ap (λ b. cond b (Some n) None) (le-ltb most (count_names names) (omega (arith, few, here names [])))
  none-full names n (l ∷ lines) few =
      ap (λ b. cond b (Some n) (full_from most (names ++ task_name l) (n + 1) lines))
      (le-ltb most (count_names names) (omega (arith, few, count_names-front names (task_names (l ∷ lines)))))
      ∙ none-full (names ++ task_name l) (n + 1) lines (subst (λ (k : List (List ℕ)). count_names k ≤ most) (sym (append_assoc names (task_name l) (task_names lines))) few)

pub full-exact : (most : ℕ) (opened : State) (lines : List Line) → IsFullExact most opened lines
full-exact most opened lines =
    let names : List (List ℕ) = names_of opened.tasks in
    let all : names_by opened lines (length lines) ≡ count_names (names ++ task_names lines) =
    ap (λ (l : List Line). count_names (names ++ task_names l)) (take-length lines) in
    record {
      none = λ e. omega (arith, all, few-all most names 0 lines e);
      within = λ few. none-full most names 0 lines (omega (arith, all, few));
      first = λ line e.
          let r = full-at most names 0 lines line e in
          let same : r.at ≡ line = omega (arith, r.number) in
          record {
            in_script = omega (arith, r.within, same);
            before = λ n lt. r.before n (omega (arith, lt, same));
            full = subst (λ (n : ℕ). most < names_by opened lines n) same r.full;
          };
    }

-- ---- tasks by name

pub stays-known : (opened : State) (lines : List Line) (name : List ℕ) (task : PlainTask)
    → task_named opened.tasks name ≡ Some task → task_named (opening_of opened lines).tasks name ≡ Some task
stays-known opened lines name task known =
    find-append (has_name name) opened.tasks (tasks_of lines) ∙ ap (λ (o : Option PlainTask). option_or o (find (has_name name) (tasks_of lines))) known

pub own-task : (opened : State) (lines : List Line) (name : List ℕ)
    → task_named opened.tasks name ≡ None → task_named (opening_of opened lines).tasks name ≡ task_named (tasks_of lines) name
own-task opened lines name unknown =
    find-append (has_name name) opened.tasks (tasks_of lines) ∙ ap (λ (o : Option PlainTask). option_or o (find (has_name name) (tasks_of lines))) unknown
