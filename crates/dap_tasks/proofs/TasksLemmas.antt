-- Reading goes on by one task, or stops there.
use Rattle.std.proofs.Common.{◌≡◌, ℕ, ◌+◌, ◌<◌, ◌≤◌, List, [], ◌∷◌, ◌++◌, length, drop, get_or, Result, Ok, Err, String, BTreeMap, Global, Bor, sym, ap, ◌∙◌, add-one}
use Rattle.std.proofs.lemmas.List.{drop_all}
use Rattle.std.proofs.Math.Seq.{drop-cons}
use Rattle.toml.specs.Data.{Members}
use Rattle.toml.specs.View.{table_view}
use Rattle.toml.specs.declared.value.Value.{Value}
use Rattle.dap_tasks.specs.File.{Refusal, ◌>>=◌, of_task, task_of, tasks_after}
use Rattle.dap_tasks.specs.Reads.{tables_seen}
use Rattle.dap_tasks.specs.Task.{PlainTask}

abbrev Table : Type 0
Table = Bor (BTreeMap (String Global) Value)

tables_seen-drop : (tables : List Table) (i : ℕ) (d : Table) → i < length tables
    → tables_seen (drop i tables) ≡ table_view (get_or tables i d).now ∷ tables_seen (drop (i + 1) tables)
tables_seen-drop tables i d h = ap tables_seen (drop-cons tables i d h) ∙ rw add-one

-- what the table in hand and those after it are read as
goes_on : List PlainTask → List Members → Result PlainTask (List ℕ) → Result (List PlainTask) Refusal
goes_on before more task = of_task (length before + 1) task >>= (λ t. tasks_after (before ++ t ∷ []) more)

pub tasks_stop : (before : List PlainTask) (tables : List Table) (i : ℕ) (d : Table) (key : List ℕ) → i < length tables
    → task_of before (table_view (get_or tables i d).now) ≡ Err key
    → tasks_after before (tables_seen (drop i tables)) ≡ Err (record { task = length before + 1; field = key })
unfolding goes_on
tasks_stop before tables i d key h e =
    ap (tasks_after before) (tables_seen-drop tables i d h) ∙ ap (goes_on before (tables_seen (drop (i + 1) tables))) e

pub tasks_go : (before : List PlainTask) (tables : List Table) (i : ℕ) (table : Table) (task : PlainTask) → i < length tables
    → table ≡ get_or tables i table → task_of before (table_view table.now) ≡ Ok task
    → tasks_after (before ++ task ∷ []) (tables_seen (drop (i + 1) tables)) ≡ tasks_after before (tables_seen (drop i tables))
unfolding goes_on
tasks_go before tables i table task h here e =
    let read : task_of before (table_view (get_or tables i table).now) ≡ Ok task = rw (← here) e in
    sym (ap (tasks_after before) (tables_seen-drop tables i table h) ∙ ap (goes_on before (tables_seen (drop (i + 1) tables))) read)

-- past the last table
pub tasks_end : (before : List PlainTask) (tables : List Table) (i : ℕ) → length tables ≤ i → tasks_after before (tables_seen (drop i tables)) ≡ Ok before
tasks_end before tables i h = ap (λ ts. tasks_after before (tables_seen ts)) (drop_all i tables h)
