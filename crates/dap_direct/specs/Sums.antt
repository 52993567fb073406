-- The sums of buckets, and of batches.
use Rattle.std.specs.Prelude.{◌≡◌, ◌⊎◌, ℕ, ◌+◌, ◌<◌, List, [], ◌∷◌, ◌++◌, length, Bool, ◌&&◌, nat_eq, Option, Some, None}
use Rattle.std.specs.List.{find, position_or_len}
use Rattle.std.specs.Str.{bytes_eq}
use Rattle.dap_bytes.specs.declared.span.Span.{Span}
use Rattle.vdaf_api.specs.Functions.{Functions}
use Rattle.vdaf_api.specs.Totals.{total_numbers}
use Rattle.vdaf_api.specs.Vectors.{IsOut, numbers, plus}
use Rattle.vdaf_api.specs.declared.answer.Answer.{Answer}
use Rattle.vdaf_api.specs.declared.kind.Kind.{Kind}
use Rattle.dap_tasks.specs.Task.{PlainTask}
use Rattle.dap_messages.specs.declared.report.Report.{Report}
use Rattle.dap_model.specs.State.{batch_contents, batch_rejected, contents_in, rejected_in}
use Rattle.dap_model.specs.declared.printed.Printed.{Printed}
use Rattle.dap_model.specs.declared.printed.Printed.TheVariants.{Collected}
use Rattle.dap_direct.specs.declared.prepared.OutShares.{OutShares}
use Rattle.dap_direct.specs.declared.sums.Sums.{Sums}

-- the sums are those of this task's bucket that starts there
abbrev pub is_of : List ℕ → ℕ → Sums → Bool
is_of name start s = bytes_eq s.task name && nat_eq s.start start

-- two sums of out shares that add to the sum of these contents, whose number is counted, beside so many rejected reports
pub record AreSums (g : Functions) (contents : List (List ℕ)) (rejected : ℕ) (s : Sums) : Type 0 where
  pub leader : IsOut g.space s.leader.items
  pub helper : IsOut g.space s.helper.items
  pub sum : numbers g.space (plus g.space s.leader.items s.helper.items) ≡ total_numbers g.space contents
  pub counted : s.reports ≡ length contents
  pub barred : s.rejected ≡ rejected

-- the sums of a bucket, which there need not be as long as it has no report
abbrev pub AreSumsOf : Functions → List (List ℕ) → ℕ → Option Sums → Type 0
AreSumsOf g contents rejected None = (contents ≡ []) × (rejected ≡ 0)
AreSumsOf g contents rejected (Some s) = AreSums g contents rejected s

-- each bucket of the task has its sums
abbrev pub IsSummed : (Kind → Functions) → PlainTask → List Report → List Sums → Type 0
IsSummed f task accepted sums =
    (start : ℕ)
    → AreSumsOf (f task.kind) (contents_in f task start accepted) (rejected_in f task start accepted)
    (find (is_of task.name start) sums)

-- each is a sum of out shares
abbrev pub AreOuts : Functions → Sums → Type 0
AreOuts g s = IsOut g.space s.leader.items × IsOut g.space s.helper.items

-- the sums are those of the task's batch, among these reports
abbrev pub AreSumsOver : (Kind → Functions) → PlainTask → Span → List Report → Sums → Type 0
AreSumsOver f task span accepted s =
    AreSums (f task.kind) (batch_contents f task span accepted) (batch_rejected f task span accepted) s

-- the answer of the two sums
abbrev pub answer_of : Functions → Sums → Answer
answer_of g s = g.answer (numbers g.space (plus g.space s.leader.items s.helper.items))

-- the printed line of a batch of these sums
abbrev pub line_of : Functions → List ℕ → Span → Sums → Printed
line_of g name span s =
    Collected name span (record { reports = s.reports; rejected = s.rejected; answer = answer_of g s })

-- ---- what the calls do

-- the content of a report with these out shares, and none where its verdict is failed
abbrev pub content_with : Functions → Option OutShares → Option (List ℕ)
content_with g None = None
content_with g (Some outs) = Some (numbers g.space (plus g.space outs.leader.items outs.helper.items))

-- both are out shares
abbrev pub AreOutShares : Functions → Option OutShares → Type 0
AreOutShares g None = Unit {0}
AreOutShares g (Some outs) = IsOut g.space outs.leader.items × IsOut g.space outs.helper.items

-- a report's out shares are added
pub record AddsOuts (g : Functions) (outs : OutShares) (old new : Sums) : Type 0 where
  pub task : new.task ≡ old.task
  pub start : new.start ≡ old.start
  pub leader : new.leader.items ≡ plus g.space old.leader.items outs.leader.items
  pub helper : new.helper.items ≡ plus g.space old.helper.items outs.helper.items
  pub reports : new.reports ≡ old.reports + 1
  pub rejected : new.rejected ≡ old.rejected

-- a report is counted, with its out shares or as a rejected one
abbrev pub Counts : Functions → Option OutShares → Sums → Sums → Type 0
Counts g None old new = new ≡ record old { rejected = old.rejected + 1 }
Counts g (Some outs) old new = AddsOuts g outs old new

-- another bucket's sums are added
pub record AddsSums (g : Functions) (other old new : Sums) : Type 0 where
  pub leader : new.leader.items ≡ plus g.space old.leader.items other.leader.items
  pub helper : new.helper.items ≡ plus g.space old.helper.items other.helper.items
  pub reports : new.reports ≡ old.reports + other.reports
  pub rejected : new.rejected ≡ old.rejected + other.rejected

-- The task's bucket that starts there is added to the sums of these contents and so many rejected reports.
abbrev pub JoinsBucket : (Kind → Functions) → PlainTask → ℕ → List Report → Sums → Sums → Type 0
JoinsBucket f task start accepted old new =
    (contents : List (List ℕ)) (rejected : ℕ) → AreSums (f task.kind) contents rejected old
    → AreSums (f task.kind) (contents ++ contents_in f task start accepted)
    (rejected + rejected_in f task start accepted) new

-- sums of no report stand behind the others, among which the bucket has none
pub record AddsNone (g : Functions) (name : List ℕ) (start : ℕ) (old new : List Sums) : Type 0 where
  pub added : Sums
  pub grown : new ≡ old ++ added ∷ []
  pub missing : position_or_len (is_of name start) old ≡ length old
  pub of_task : added.task ≡ name
  pub of_start : added.start ≡ start
  pub sums : AreSums g [] 0 added

-- the bucket's sums stand at this place, where they stood before or were added
pub record IsReady (g : Functions) (name : List ℕ) (start : ℕ) (old new : List Sums) (place : ℕ) : Type 0 where
  pub within : place < length new
  pub at : position_or_len (is_of name start) new ≡ place
  pub kept : (new ≡ old) ⊎ AddsNone g name start old new
