-- A script in which honest reports are uploaded prints the same.
use Rattle.std.proofs.Common.{◌≡◌, ℕ, ◌+◌, List, [], ◌∷◌, ◌++◌, refl, sym, ap, subst, ◌∙◌, inl, inr}
use Rattle.std.specs.List.{AllZip}
use Rattle.vdaf_api.specs.Functions.{Functions}
use Rattle.vdaf_api.specs.Kind.{IsKind}
use Rattle.vdaf_api.specs.Promises.{FunctionLaws}
use Rattle.vdaf_api.specs.declared.kind.Kind.{Kind}
use Rattle.dap_tasks.specs.Task.{PlainTask}
use Rattle.dap_script.specs.declared.line.Line.{Line}
use Rattle.dap_script.specs.declared.line.Line.TheVariants as line
use Rattle.dap_model.proofs.ChangeLaws.{changes_named}
use Rattle.dap_model.proofs.UploadLaws.{upload-honest}
use Rattle.dap_model.specs.Changes.{ChangesNamed}
use Rattle.dap_model.specs.Printed.{text_of}
use Rattle.dap_model.specs.Run.{model_text, opening_of, printed_from, task_in, tasks_of}
use Rattle.dap_model.specs.State.{State, with_tasks}
use Rattle.dap_model.specs.Step.{Outcome, step}
use Rattle.dap_model.specs.Uploaded.{IsOrUploads}
use Rattle.dap_model.specs.Uploads.{IsHonest}

-- no line changes the tasks
pub tasks_kept : (s after : State) (l : Line) → ChangesNamed s after l → after.tasks ≡ s.tasks
tasks_kept s after line.Blank h = ap (λ (x : State). x.tasks) h
tasks_kept s after (line.Task name kind min precision expires) h = ap (λ (x : State). x.tasks) h
tasks_kept s after (line.Now t) h = ap (λ (x : State). x.tasks) h
tasks_kept s after (line.Measure name id time value seed) (inl same) = ap (λ (x : State). x.tasks) same
tasks_kept s after (line.Measure name id time value seed) (inr adds) = ap (λ (x : State). x.tasks) adds.grown
tasks_kept s after (line.Upload bytes) (inl same) = ap (λ (x : State). x.tasks) same
tasks_kept s after (line.Upload bytes) (inr adds) = ap (λ (x : State). x.tasks) adds.grown
tasks_kept s after (line.Collect name span) (inl same) = ap (λ (x : State). x.tasks) same
tasks_kept s after (line.Collect name span) (inr adds) = ap (λ (x : State). x.tasks) adds
tasks_kept s after (line.Restart node) h = ap (λ (x : State). x.tasks) h

module _ (f : Kind → Functions) (tasks : List PlainTask) (laws : (k : Kind) → IsKind k → FunctionLaws (f k)) where
  same_task : (first second : Line) → IsOrUploads f tasks first second → task_in second ≡ task_in first
  same_task first second (inl same) = ap task_in same
  same_task first second (inr u) = ap task_in u.uploaded ∙ sym (ap task_in u.measured)

  same_tasks : (lines others : List Line) → AllZip (IsOrUploads f tasks) lines others → tasks_of others ≡ tasks_of lines
  same_tasks [] [] h = refl
  same_tasks [] (y ∷ ys) h = absurd h
  same_tasks (x ∷ xs) [] h = absurd h
  same_tasks (x ∷ xs) (y ∷ ys) h = ap (λ t. t ++ tasks_of ys) (same_task x y h.0) ∙ ap (λ t. task_in x ++ t) (same_tasks xs ys h.1)

  same_step : (s : State) (k : ℕ) (first second : Line) → s.tasks ≡ tasks → IsOrUploads f tasks first second → step f s k second ≡ step f s k first
  same_step s k first second known (inl same) = ap (step f s k) same
  same_step s k first second known (inr u) =
      let honest : IsHonest f s.tasks u.name u.id u.time u.value u.seed u.made = subst (λ (t : List PlainTask). IsHonest f t u.name u.id u.time u.value u.seed u.made) (sym known) u.honest in
      ap (step f s k) u.uploaded ∙ upload-honest f laws s k u.name u.id u.time u.value u.seed u.made honest ∙ sym (ap (step f s k) u.measured)

  same_printed : (s : State) (k : ℕ) (lines others : List Line) → s.tasks ≡ tasks → AllZip (IsOrUploads f tasks) lines others → printed_from f s k others ≡ printed_from f s k lines
  same_printed s k [] [] known h = refl
  same_printed s k [] (y ∷ ys) known h = absurd h
  same_printed s k (x ∷ xs) [] known h = absurd h
  same_printed s k (x ∷ xs) (y ∷ ys) known h =
      let after : State = (step f s k x).0 in
      ap (λ (o : Outcome). o.1 ++ printed_from f o.0 (k + 1) ys) (same_step s k x y known h.0)
      ∙ ap (λ p. (step f s k x).1 ++ p) (same_printed after (k + 1) xs ys (tasks_kept s after x (changes_named f s k x) ∙ known) h.1)

pub uploaded-same : (f : Kind → Functions) → ((k : Kind) → IsKind k → FunctionLaws (f k)) → (opened : State) (lines others : List Line)
    → AllZip (IsOrUploads f (opening_of opened lines).tasks) lines others → model_text f opened others ≡ model_text f opened lines
uploaded-same f laws opened lines others h =
    let tasks : List PlainTask = (opening_of opened lines).tasks in
    ap (λ (t : List PlainTask). text_of (printed_from f (with_tasks opened t) 1 others)) (same_tasks f tasks laws lines others h)
    ∙ ap text_of (same_printed f tasks laws (opening_of opened lines) 1 lines others refl h)
