-- Bytes are read as tasks exactly where they are a file of these tasks.
use Rattle.std.proofs.Common.{◌≡◌, ℕ, ◌+◌, ◌≤◌, List, [], ◌∷◌, ◌++◌, length, true, false, ◌&&◌, nat_eq, nat_le, if◌then◌else◌, codes, Option, Some, None, Result, Ok, Err, Less, Equal, Greater, nat_cmp, IsUtf8, refl, sym, ap, ◌∙◌, subst, inl, inr, ◌⊎◌, append_assoc, append-nil, arith}
use Rattle.std.proofs.lemmas.Bool.{and_parts, leb-true, or_parts}
use Rattle.std.proofs.lemmas.Bool.Decides.{nat_tests}
use Rattle.std.proofs.lemmas.List.Folds.{list_any-append}
use Rattle.std.proofs.lemmas.Option.{option_and_then_some, same_Some}
use Rattle.std.proofs.lemmas.Slice.Eq.{bytes_eq-Decides}
use Rattle.std.proofs.lemmas.Str.{IsUtf8-from_is_utf8}
use Rattle.std.specs.Cmp.Lexicographic.{slice_cmp, texts_ties}
use Rattle.std.specs.List.{AllZip, list_any}
use Rattle.std.specs.Option.{option_and_then}
use Rattle.std.specs.Ordering.{is_eq, match_ordering}
use Rattle.std.specs.Prelude.{ok_or}
use Rattle.std.specs.Str.{is_utf8}
use Rattle.toml.specs.Data.{Data, string, integer, float, boolean, datetime, array, table, Items, no_items, item, Members, no_members, member, as_array, as_table, get_member}
use Rattle.toml.specs.Parse.{parse_document}
use Rattle.dap_tasks.specs.Fields.{table_keys}
use Rattle.dap_tasks.specs.File.{Refusal, ◌>>=◌, of_task, task_of, tasks_after, tables_in, tables_under_task, document_of, tables_of, tasks_of}
use Rattle.dap_tasks.specs.Task.{PlainTask, has_name}
use Rattle.dap_tasks.specs.TaskFile.{IsTaskTable, table_items, HasTables, IsTaskFile, RefusesFile, RefusesTask}
use Rattle.dap_tasks.specs.Tasks.{AreDistinct}
use Rattle.dap_tasks.specs.DistinctLaws.{AreDistinct-push, bytes_eq-turned}
use Rattle.dap_tasks.proofs.DocumentLemmas.{read_as}
use Rattle.dap_tasks.proofs.FieldLaws.{array_read}
use Rattle.dap_tasks.proofs.TableLaws.{after_ok, same_Ok, task_read, task_back}

-- ---- tables

table_read : (value : Data) (entries : Members) → as_table value ≡ Some entries → value ≡ table entries
table_read (string s) entries e = cc e
table_read (integer z) entries e = cc e
table_read (float x) entries e = cc e
table_read (boolean b) entries e = cc e
table_read (datetime dt) entries e = cc e
table_read (array ds) entries e = cc e
table_read (table ms) entries e = ap table (same_Some ms entries e)

tables_read : (items : Items) (tables : List Members) → tables_in items ≡ Some tables → items ≡ table_items tables
tables_read no_items tables e = subst (λ ts. no_items ≡ table_items ts) (same_Some [] tables e) refl
tables_read (item value items) tables e =
    option_and_then_some _ (as_table value) tables e (λ t has h.
    option_and_then_some _ (tables_in items) tables h (λ ts rest k.
    subst (λ xs. item value items ≡ table_items xs) (same_Some (t ∷ ts) tables k) (cc (table_read value t has, tables_read items ts rest))))

tables_back : (tables : List Members) → tables_in (table_items tables) ≡ Some tables
tables_back [] = refl
tables_back (t ∷ ts) = rw (tables_back ts) refl

same_text : (xs ys : List ℕ) → slice_cmp nat_cmp xs ys ≡ Equal → xs ≡ ys
same_text xs ys e = (bytes_eq-Decides xs ys).0 (texts_ties xs ys ∙ ap is_eq e)

one_read : (key : List ℕ) (value : Data) (tables : List Members)
    → option_and_then tables_in (option_and_then as_array (get_member (codes "task") (member key value no_members))) ≡ Some tables
    → member key value no_members ≡ member (codes "task") (array (table_items tables)) no_members
one_read key value tables e =
    elim (slice_cmp nat_cmp (codes "task") key) as (λ o. slice_cmp nat_cmp (codes "task") key ≡ o
    → option_and_then tables_in (option_and_then as_array (match_ordering o None (Some value) None)) ≡ Some tables
    → member key value no_members ≡ member (codes "task") (array (table_items tables)) no_members) [
      | Less ↦ λ at h. cc h
      | Equal ↦ λ at h. option_and_then_some _ (as_array value) tables h (λ items has k.
          cc (same_text (codes "task") key at, array_read value items has, tables_read items tables k))
      | Greater ↦ λ at h. cc h
    ] refl e

under_read : (document : Members) (tables : List Members) → tables_under_task document ≡ Some tables → document ≡ member (codes "task") (array (table_items tables)) no_members
under_read no_members tables e = cc e
under_read (member key value no_members) tables e = one_read key value tables e
under_read (member key value (member other more entries)) tables e =
    let several : nat_eq (length (key ∷ other ∷ table_keys entries)) 1 ≡ false = grind (arith, nat_tests) in
    cc (rw several at e)

under_back : (tables : List Members) → tables_under_task (member (codes "task") (array (table_items tables)) no_members) ≡ Some tables
under_back tables = tables_back tables

document_read : {P : Type 0} (bytes : List ℕ) (document : Members) → document_of bytes ≡ Some document
    → (length bytes ≤ 1048576 → IsUtf8 bytes → parse_document bytes ≡ Some document → P) → P
document_read {P} bytes document e then' =
    elim (nat_le (length bytes) 1048576 && is_utf8 bytes) as (λ b. nat_le (length bytes) 1048576 && is_utf8 bytes ≡ b → (if b then parse_document bytes else None) ≡ Some document → P) [
      | true ↦ λ test h. let parts = and_parts (nat_le (length bytes) 1048576) (is_utf8 bytes) test in
          then' (leb-true (length bytes) 1048576 parts.0) (IsUtf8-from_is_utf8 bytes parts.1) h
      | false ↦ λ test h. cc h
    ] refl e

pub file_read : (bytes : List ℕ) (tables : List Members) → tables_of bytes ≡ Some tables → HasTables bytes tables
file_read bytes tables e =
    option_and_then_some tables_under_task (document_of bytes) tables e (λ document is h.
    document_read bytes document is (λ short utf8 parsed. record { short = short; utf8 = utf8; parsed = parsed ∙ ap Some (under_read document tables h) }))

file_back : (bytes : List ℕ) (tables : List Members) → HasTables bytes tables → tables_of bytes ≡ Some tables
file_back bytes tables h = ap (option_and_then tables_under_task) (read_as bytes _ h.short h.utf8 h.parsed) ∙ under_back tables

-- ---- tasks

of_task_read : {A : Type 0} (number : ℕ) (r : Result A (List ℕ)) (x : A) → of_task number r ≡ Ok x → r ≡ Ok x
of_task_read number (Ok y) x e = ap Ok (same_Ok y x e)
of_task_read number (Err key) x e = cc e

-- the tasks that the tables are, behind those before
record Follow (before : List PlainTask) (tables : List Members) (all : List PlainTask) : Type 0 where
  tasks : List PlainTask
  joined : all ≡ before ++ tasks
  each : AllZip IsTaskTable tables tasks
  distinct : AreDistinct all

tasks_read : (before : List PlainTask) (tables : List Members) (all : List PlainTask) → AreDistinct before → tasks_after before tables ≡ Ok all → Follow before tables all
tasks_read before [] all apart e =
    let same : before ≡ all = same_Ok before all e in
    record { tasks = []; joined = sym same ∙ sym (append-nil before); each = tt; distinct = subst AreDistinct same apart }
tasks_read before (t ∷ ts) all apart e =
    after_ok _ (of_task (length before + 1) (task_of before t)) all e (λ task is h.
    let new = task_read before t task (of_task_read (length before + 1) (task_of before t) task is) in
    let rest = tasks_read (before ++ task ∷ []) ts all (AreDistinct-push before task apart new.1) h in
    record { tasks = task ∷ rest.tasks; joined = rest.joined ∙ append_assoc before (task ∷ []) rest.tasks; each = (new.0, rest.each); distinct = rest.distinct })

-- none of the tasks before has the name
fresh : (before : List PlainTask) (task : PlainTask) (more : List PlainTask) → AreDistinct (before ++ task ∷ more) → list_any (has_name task.name) before ≡ false
fresh [] task more apart = refl
fresh (first ∷ before) task more apart =
    let behind = or_parts (list_any (has_name first.name) before) (list_any (has_name first.name) (task ∷ more)) (sym (list_any-append (has_name first.name) before (task ∷ more)) ∙ apart.0) in
    let other = or_parts (has_name first.name task) (list_any (has_name first.name) more) behind.1 in
    let turned : has_name task.name first ≡ false = bytes_eq-turned first.name task.name ∙ other.0 in
    rw (turned, fresh before task more apart.1) refl

-- the tables that are tasks come first
tasks_through : (before : List PlainTask) (tables more : List Members) (tasks : List PlainTask) → AllZip IsTaskTable tables tasks → AreDistinct (before ++ tasks)
    → tasks_after before (tables ++ more) ≡ tasks_after (before ++ tasks) more
tasks_through before [] more [] each apart = ap (λ ts. tasks_after ts more) (sym (append-nil before))
tasks_through before [] more (x ∷ xs) each apart = absurd each
tasks_through before (t ∷ ts) more [] each apart = absurd each
tasks_through before (t ∷ ts) more (x ∷ xs) each apart =
    let same = append_assoc before (x ∷ []) xs in
    rw (task_back before t x (each.0, fresh before x xs apart)) (tasks_through (before ++ x ∷ []) ts more xs each.1 (rw same apart) ∙ ap (λ ts. tasks_after ts more) same)

-- the tables before the one that is refused, and the tasks that they are
record Stops (before : List PlainTask) (tables : List Members) (refusal : Refusal) : Type 0 where
  read : List Members
  here : Members
  left : List Members
  split : tables ≡ read ++ here ∷ left
  tasks : List PlainTask
  each : AllZip IsTaskTable read tasks
  distinct : AreDistinct (before ++ tasks)
  number : refusal.task ≡ length (before ++ tasks) + 1
  first_field : task_of (before ++ tasks) here ≡ Err refusal.field

after_err : {A B E P : Type 0} (f : A → Result B E) (r : Result A E) (e : E) → (r >>= f) ≡ Err e → (r ≡ Err e → P) → ((x : A) → r ≡ Ok x → f x ≡ Err e → P) → P
after_err f (Ok x) e h stopped went = went x refl h
after_err f (Err d) e h stopped went = stopped (cc h)

of_task_refused : {A : Type 0} (number : ℕ) (r : Result A (List ℕ)) (refusal : Refusal) → of_task number r ≡ Err refusal → (refusal.task ≡ number) × (r ≡ Err refusal.field)
of_task_refused number (Ok y) refusal e = cc e
of_task_refused number (Err key) refusal e =
    let same : record { task = number; field = key } ≡ refusal = cc e in
    (sym (ap (λ (r : Refusal). r.task) same), ap (λ (r : Refusal). Err r.field) same)

tasks_stop : (before : List PlainTask) (tables : List Members) (refusal : Refusal) → AreDistinct before → tasks_after before tables ≡ Err refusal → Stops before tables refusal
tasks_stop before [] refusal apart e = cc e
tasks_stop before (t ∷ ts) refusal apart e =
    after_err _ (of_task (length before + 1) (task_of before t)) refusal e
    (λ is. let r = of_task_refused (length before + 1) (task_of before t) refusal is in
    let none = append-nil before in
    record { read = []; here = t; left = ts; split = refl; tasks = []; each = tt; distinct = rw none apart; number = rw none r.0; first_field = rw none r.1 })
    (λ task is h. let new = task_read before t task (of_task_read (length before + 1) (task_of before t) task is) in
    let rest = tasks_stop (before ++ task ∷ []) ts refusal (AreDistinct-push before task apart new.1) h in
    let same = append_assoc before (task ∷ []) rest.tasks in
    record {
      read = t ∷ rest.read;
      here = rest.here;
      left = rest.left;
      split = ap (λ xs. t ∷ xs) rest.split;
      tasks = task ∷ rest.tasks;
      each = (new.0, rest.each);
      distinct = rw same at rest.distinct;
      number = rw same at rest.number;
      first_field = rw same at rest.first_field;
    })

-- ---- files

tables_or : (tables : Option (List Members)) (refusal : Refusal) (ts : List Members) → ok_or tables refusal ≡ Ok ts → tables ≡ Some ts
tables_or None refusal ts e = cc e
tables_or (Some xs) refusal ts e = ap Some (same_Ok xs ts e)

pub tasks_of_file : (bytes : List ℕ) (tasks : List PlainTask) → tasks_of bytes ≡ Ok tasks → IsTaskFile bytes tasks
tasks_of_file bytes tasks e =
    after_ok (tasks_after []) (ok_or (tables_of bytes) (record { task = 0; field = codes "file" })) tasks e (λ tables is h.
    let follow = tasks_read [] tables tasks tt h in
    record {
      tables = tables;
      file = file_read bytes tables (tables_or (tables_of bytes) _ tables is);
      each = rw (← follow.joined) at follow.each;
      distinct = follow.distinct;
    })

pub file_of_tasks : (bytes : List ℕ) (tasks : List PlainTask) → IsTaskFile bytes tasks → tasks_of bytes ≡ Ok tasks
file_of_tasks bytes tasks h = rw (file_back bytes h.tables h.file) (sym (ap (tasks_after []) (append-nil h.tables)) ∙ tasks_through [] h.tables [] tasks h.each h.distinct)

none_some : (tables : Option (List Members)) (ts : List Members) → tables ≡ None → tables ≡ Some ts → ⊥
none_some tables ts e h = cc (e, h)

no_tables : (tables : Option (List Members)) (first refusal : Refusal) → ok_or tables first ≡ Err refusal → (tables ≡ None) × (refusal ≡ first)
no_tables None first refusal e = (refl, cc e)
no_tables (Some ts) first refusal e = cc e

pub refusal_of : (bytes : List ℕ) (refusal : Refusal) → tasks_of bytes ≡ Err refusal → RefusesFile bytes refusal ⊎ RefusesTask bytes refusal
refusal_of bytes refusal e =
    after_err (tasks_after []) (ok_or (tables_of bytes) (record { task = 0; field = codes "file" })) refusal e
    (λ is. let r = no_tables (tables_of bytes) _ refusal is in
    inl (record { none = λ h. none_some (tables_of bytes) h.0 r.0 (file_back bytes h.0 h.1); named = r.1 }))
    (λ tables is h. let stops = tasks_stop [] tables refusal tt h in
    let file = file_read bytes tables (tables_or (tables_of bytes) _ tables is) in
    inr (record {
      read = stops.read;
      here = stops.here;
      left = stops.left;
      file = subst (HasTables bytes) stops.split file;
      tasks = stops.tasks;
      each = stops.each;
      distinct = stops.distinct;
      number = stops.number;
      first_field = stops.first_field;
    }))

pub of_file : (bytes : List ℕ) (refusal : Refusal) → RefusesFile bytes refusal → tasks_of bytes ≡ Err refusal
of_file bytes refusal h =
    elim (tables_of bytes) as (λ o. tables_of bytes ≡ o → (ok_or o (record { task = 0; field = codes "file" }) >>= tasks_after []) ≡ Err refusal) [
      | None ↦ λ is. ap Err (sym h.named)
      | Some ts ↦ λ is. absurd (h.none (ts, file_read bytes ts is))
    ] refl

pub of_first : (bytes : List ℕ) (refusal : Refusal) → RefusesTask bytes refusal → tasks_of bytes ≡ Err refusal
of_first bytes refusal h =
    rw (file_back bytes (h.read ++ h.here ∷ h.left) h.file)
    (tasks_through [] h.read (h.here ∷ h.left) h.tasks h.each h.distinct ∙ rw (h.first_field, ← h.number) refl)
