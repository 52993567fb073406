-- The tasks of a file and those of the script beside it have different names; and the limits of a run.
use Rattle.std.proofs.Common.{◌≡◌, ◌⊎◌, ℕ, List, [], ◌∷◌, ◌++◌, Bool, true, false, if◌then◌else◌, Some, None, ◌∙◌, inl, inr}
use Rattle.std.proofs.lemmas.Bool.{or_parts}
use Rattle.std.proofs.lemmas.List.Elements.{All-cons, All-head, All-nil, All-tail}
use Rattle.std.specs.List.{All, AllByRecursion, IsDistinct, list_any}
use Rattle.std.specs.Str.{bytes_eq}
use Rattle.prio3_kinds.specs.Kinds.{functions_of_kind}
use Rattle.dap_tasks.specs.DistinctLaws.{bytes_eq-turned}
use Rattle.dap_tasks.specs.Task.{PlainTask, has_name}
use Rattle.dap_tasks.specs.Tasks.{AreDistinct}
use Rattle.dap_script.specs.OptionLaws.{map_or_cases}
use Rattle.dap_script.specs.Script.{is_among}
use Rattle.dap_script.specs.declared.line.Line.{Line}
use Rattle.dap_model.specs.Limits.{Passed, limit_passed, passed_after, reports_offered}
use Rattle.dap_program.specs.Headline.{run_limits}
use Rattle.dap_model.specs.State.{names_of}

-- ---- names

-- the name differs from each of these
abbrev Differs : List ℕ → List (List ℕ) → Type 0
Differs name names = AllByRecursion (λ y. bytes_eq name y ≡ false) names

differs_both : (name : List ℕ) (xs ys : List (List ℕ)) → Differs name xs → Differs name ys → Differs name (xs ++ ys)
differs_both name [] ys a b = b
differs_both name (x ∷ xs) ys a b = (a.0, differs_both name xs ys a.1 b)

differs_tasks : (name : List ℕ) (tasks : List PlainTask) → list_any (has_name name) tasks ≡ false → Differs name (names_of tasks)
differs_tasks name [] h = tt
differs_tasks name (task ∷ tasks) h =
    let p = or_parts (has_name name task) (list_any (has_name name) tasks) h in
    (bytes_eq-turned name task.name ∙ p.0, differs_tasks name tasks p.1)

-- what is none of these names is not the first, and none of the others
first_differs : (name : List ℕ) (names others : List (List ℕ)) → All (λ other. is_among (name ∷ names) other ≡ false) others → Differs name others
first_differs name names [] h = tt
first_differs name names (other ∷ others) h =
    let Is : List ℕ → Type 0 = λ o. is_among (name ∷ names) o ≡ false in
    ((or_parts (bytes_eq name other) (is_among names other) (All-head Is other others h)).0, first_differs name names others (All-tail Is other others h))

none_of_rest : (name : List ℕ) (names others : List (List ℕ)) → All (λ other. is_among (name ∷ names) other ≡ false) others
    → All (λ other. is_among names other ≡ false) others
none_of_rest name names [] h = All-nil (λ other. is_among names other ≡ false)
none_of_rest name names (other ∷ others) h =
    let Is : List ℕ → Type 0 = λ o. is_among (name ∷ names) o ≡ false in
    All-cons (λ o. is_among names o ≡ false) other others (or_parts (bytes_eq name other) (is_among names other) (All-head Is other others h)).1
    (none_of_rest name names others (All-tail Is other others h))

pub distinct_beside : (given : List PlainTask) (others : List (List ℕ)) → AreDistinct given → All (λ other. is_among (names_of given) other ≡ false) others
    → IsDistinct bytes_eq others → IsDistinct bytes_eq (names_of given ++ others)
unfolding IsDistinct
distinct_beside [] others d h o = o
distinct_beside (task ∷ given) others d h o = (
  differs_both task.name (names_of given) others (differs_tasks task.name given d.0) (first_differs task.name (names_of given) others h),
  distinct_beside given others d.1 (none_of_rest task.name (names_of given) others h) o,
)

-- ---- limits

two_or_three : (b c : Bool) (limit : ℕ) → (if b then Some 2 else (if c then Some 3 else None)) ≡ Some limit → (limit ≡ 2) ⊎ (limit ≡ 3)
two_or_three true c limit h = inl (cc h)
two_or_three false true limit h = inr (cc h)
two_or_three false false limit h = cc h

-- while lines are run, limits 2 and 3 are passed
pub passed_two_or_three : (tasks : List PlainTask) (done lines : List Line) (passed : Passed)
    → passed_after functions_of_kind run_limits tasks done lines ≡ Some passed → (passed.limit ≡ 2) ⊎ (passed.limit ≡ 3)
passed_two_or_three tasks done [] passed h = cc h
passed_two_or_three tasks done (l ∷ more) passed h =
    map_or_cases _ (limit_passed run_limits (reports_offered functions_of_kind tasks (done ++ l ∷ []))) (passed_after functions_of_kind run_limits tasks (done ++ l ∷ []) more)
    (Some passed) h (λ none later. passed_two_or_three tasks (done ++ l ∷ []) more passed later)
    (λ limit here same. let is : limit ≡ passed.limit = cc same in rw (← is) (two_or_three _ _ limit here))
