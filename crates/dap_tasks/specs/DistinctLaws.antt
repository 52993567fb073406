-- Names that are told apart.
use Rattle.std.proofs.Common.{◌≡◌, ℕ, List, [], ◌∷◌, ◌++◌, true, false, refl, sym, ap, ◌∙◌}
use Rattle.std.proofs.lemmas.Bool.{or_from, or_parts}
use Rattle.std.proofs.lemmas.List.Folds.{list_any-append}
use Rattle.std.proofs.lemmas.Slice.Eq.{bytes_eq-Decides}
use Rattle.std.specs.List.{list_any}
use Rattle.std.specs.Str.{bytes_eq}
use Rattle.dap_tasks.specs.Task.{PlainTask, has_name}
use Rattle.dap_tasks.specs.Tasks.{AreDistinct}

pub bytes_eq-turned : (xs ys : List ℕ) → bytes_eq xs ys ≡ bytes_eq ys xs
bytes_eq-turned xs ys =
    elim (bytes_eq xs ys) as (λ b. bytes_eq xs ys ≡ b → b ≡ bytes_eq ys xs) [
      | true ↦ λ e. sym (ap (λ (zs : List ℕ). bytes_eq zs xs) (sym ((bytes_eq-Decides xs ys).0 e)) ∙ ap (λ (zs : List ℕ). bytes_eq xs zs) ((bytes_eq-Decides xs ys).0 e) ∙ e)
      | false ↦ λ e. elim (bytes_eq ys xs) as (λ b. bytes_eq ys xs ≡ b → false ≡ b) [
        | true ↦ λ f. sym e ∙ ap (λ (zs : List ℕ). bytes_eq xs zs) ((bytes_eq-Decides ys xs).0 f) ∙ sym (ap (λ (zs : List ℕ). bytes_eq zs xs) ((bytes_eq-Decides ys xs).0 f)) ∙ f
        | false ↦ λ f. refl
      ] refl
    ] refl

-- a task of a new name keeps the names apart
pub AreDistinct-push : (tasks : List PlainTask) (task : PlainTask) → AreDistinct tasks → list_any (has_name task.name) tasks ≡ false → AreDistinct (tasks ++ task ∷ [])
AreDistinct-push [] task distinct new = (refl, tt)
AreDistinct-push (first ∷ more) task distinct new =
    let parts = or_parts (has_name task.name first) (list_any (has_name task.name) more) new in (
      list_any-append (has_name first.name) more (task ∷ []) ∙ or_from _ _ distinct.0 (or_from _ _ (bytes_eq-turned task.name first.name ∙ parts.0) refl),
      AreDistinct-push more task distinct.1 parts.1,
    )
