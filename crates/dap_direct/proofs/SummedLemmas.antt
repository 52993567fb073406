-- The sums of the known tasks.
use Rattle.std.proofs.Common.{◌≡◌, ℕ, List, [], ◌∷◌, Bool, cond, true, false, Some, Vec, refl, sym, ap, subst, ◌∙◌}
use Rattle.std.proofs.lemmas.Slice.Eq.{bytes_eq-Decides}
use Rattle.std.specs.List.{find}
use Rattle.std.specs.declared.alloc.Global.{Global}
use Rattle.std.specs.Str.{bytes_eq}
use Rattle.vdaf_api.specs.Functions.{Functions}
use Rattle.vdaf_api.specs.declared.kind.Kind.{Kind}
use Rattle.dap_tasks.specs.Task.{PlainTask, has_name}
use Rattle.dap_direct.specs.Direct.{AreSummed, HasSums, KeepsSums}
use Rattle.dap_direct.specs.Sums.{IsSummed}
use Rattle.dap_direct.specs.declared.state.Direct.{Direct}
use Rattle.dap_messages.specs.declared.report.Report.{Report}
use Rattle.dap_direct.specs.declared.sums.Sums.{Sums}

-- a task that is found by a name has it
pub found_name : (name : List ℕ) (tasks : List PlainTask) (t : PlainTask) → find (has_name name) tasks ≡ Some t → t.name ≡ name
found_name name [] t e = cc e
found_name name (first ∷ more) t e = go (has_name name first) refl e (λ h. found_name name more t h)
  where
    go : (b : Bool) → has_name name first ≡ b → cond b (Some first) (find (has_name name) more) ≡ Some t → (find (has_name name) more ≡ Some t → t.name ≡ name) → t.name ≡ name
    go true own e rest = let same : first ≡ t = cc in ap (λ (t : PlainTask). t.name) (sym same) ∙ (bytes_eq-Decides first.name name).0 own
    go false own e rest = rest e

pub found_own : (name : List ℕ) (tasks : List PlainTask) (t : PlainTask) → find (has_name name) tasks ≡ Some t → find (has_name t.name) tasks ≡ Some t
found_own name tasks t e = ap (λ (n : List ℕ). find (has_name n) tasks) (found_name name tasks t e) ∙ e

-- where a known task's batches have their sums and those of others are kept, all have them
pub keeps_all : (f : Kind → Functions) (tasks : List PlainTask) (task : PlainTask) (old new : Direct) → find (has_name task.name) tasks ≡ Some task
    → AreSummed f tasks old → KeepsSums f task old new → AreSummed f tasks new
keeps_all f tasks task old new known summed keeps = λ t is. go t is (bytes_eq t.name task.name) refl
  where
    go : (t : PlainTask) → find (has_name t.name) tasks ≡ Some t → (b : Bool) → bytes_eq t.name task.name ≡ b → HasSums f t new
    go t is true e =
        let named : t.name ≡ task.name = (bytes_eq-Decides t.name task.name).0 e in
        let both : Some task ≡ Some t = sym known ∙ ap (λ (n : List ℕ). find (has_name n) tasks) (sym named) ∙ is in
        let same : task ≡ t = cc in
        subst (λ (t : PlainTask). HasSums f t new) same keeps.own
    go t is false e = keeps.others t e (summed t is)

-- the reports and the sums alone matter
pub same_sums : (f : Kind → Functions) (tasks : List PlainTask) (old new : Direct) → new.accepted ≡ old.accepted → new.sums ≡ old.sums → AreSummed f tasks old → AreSummed f tasks new
same_sums f tasks old new accepted sums summed = λ t known.
    subst (λ (l : Vec Sums Global). IsSummed f t new.accepted l.items) (sym sums)
    (subst (λ (l : List Report). IsSummed f t l old.sums.items) (sym accepted) (summed t known))
