-- A file that is too long is refused, whether it is read whole or up to the byte that shows it.
use Rattle.std.proofs.Common.{◌≡◌, ℕ, ◌<◌, List, [], length, take, codes, false, nat_le, Option, Some, None, Result, Ok, Err, Vec, IfSome, refl, sym, ap, subst, ◌∙◌, inl, inr, arith}
use Rattle.std.proofs.lemmas.Bool.Decides.{nat_tests}
use Rattle.std.proofs.lemmas.Bool.{cases_lt}
use Rattle.std.proofs.lemmas.List.{length-take-le, take_all}
use Rattle.std.specs.Option.{ok_or}
use Rattle.std.specs.Result.{IsErr, IsErrAnd}
use Rattle.std.specs.declared.alloc.Global.{Global}
use Rattle.dap_tasks.specs.File.{◌>>=◌, Refusal, tables_of, tasks_after, tasks_of}
use Rattle.dap_tasks.specs.Reads.{Fails}
use Rattle.dap_tasks.specs.Task.{PlainTask}
use Rattle.dap_tasks.specs.declared.fault.TasksFault.{TasksFault}
use Rattle.dap_tasks.specs.declared.fault.TasksFault.TheVariants.{Refused, NoMemory}
use Rattle.dap_program.specs.Runs.{Gives}
use Rattle.dap_program.specs.Status.{after_tasks}
use Rattle.dap_program.specs.declared.status.Status.{Status}

too_long : (bytes : List ℕ) → 1048576 < length bytes → tables_of bytes ≡ None
too_long bytes h =
    let long : nat_le (length bytes) 1048576 ≡ false = grind (arith, nat_tests) in
    rw long refl

none_same : (a b : List ℕ) → tables_of a ≡ None → tables_of b ≡ None → tasks_of a ≡ tasks_of b
none_same a b ha hb = ap (λ tables. ok_or tables (record { task = 0; field = codes "file" }) >>= tasks_after []) (ha ∙ sym hb)

pub tasks_of-front : (bytes : List ℕ) → tasks_of (take 1048577 bytes) ≡ tasks_of bytes
tasks_of-front bytes = elim (cases_lt (length bytes) 1048578) [
  | inl lt ↦ ap tasks_of (take_all 1048577 bytes (omega arith))
  | inr ge ↦ none_same (take 1048577 bytes) bytes (too_long (take 1048577 bytes) (omega (arith, length-take-le 1048577 bytes (omega arith)))) (too_long bytes (omega arith))
]

-- what is said of the tasks of the bytes that were read holds of those of the file
pub of_file : (P : Result (List PlainTask) Refusal → Type 0) (held : Option (List ℕ)) (read : List ℕ) → IfSome held (λ file. read ≡ take 1048577 file) → P (tasks_of read)
    → IfSome held (λ file. P (tasks_of file))
of_file P None read e h = tt
of_file P (Some file) read e h = subst P (ap tasks_of e ∙ tasks_of-front file) h

-- a fault of reading gives its status
pub gives_refusal : (fault : TasksFault) (read : Result (List PlainTask) Refusal) → Fails fault read → Gives (Err (after_tasks fault)) read
gives_refusal (Refused task field) read h = inr (inr (record { task = task; field = field }, h, refl))
gives_refusal NoMemory read h = inr (inl refl)

-- likewise as the answer of a `?`
pub gives_residual : (r : Result (Vec PlainTask Global) Status) (fault : TasksFault) (read : Result (List PlainTask) Refusal)
    → IsErr r → IsErrAnd r (λ e. e ≡ after_tasks fault) → Fails fault read → Gives r read
gives_residual (Ok tasks) fault read is e h = cc is
gives_residual (Err status) fault read is e h = subst (λ s. Gives (Err s) read) (sym e) (gives_refusal fault read h)
