-- The sums of all buckets, one report after another.
use Rattle.std.proofs.Common.{◌≡◌, ◌⊎◌, ℕ, ◌+◌, ◌<◌, List, [], ◌∷◌, ◌++◌, length, get_or, set, Bool, cond, true, false, ◌&&◌, nat_eq, is_none, Option, Some, None, refl, sym, ap, subst, ◌∙◌, inl, inr, arith, append-nil}
use Rattle.std.proofs.lemmas.Bool.{eq-eqb, eqb-true}
use Rattle.std.proofs.lemmas.List.Folds.{find-append}
use Rattle.std.proofs.lemmas.Slice.Eq.{bytes_eq-Decides}
use Rattle.std.specs.List.{find}
use Rattle.std.specs.Option.{option_or, option_to_list}
use Rattle.std.specs.Str.{bytes_eq}
use Rattle.vdaf_api.specs.Functions.{Functions}
use Rattle.vdaf_api.specs.Vectors.{IsOut, SpaceLaws}
use Rattle.dap_seal.specs.Reports.{content_numbers_of}
use Rattle.vdaf_api.specs.declared.kind.Kind.{Kind}
use Rattle.dap_tasks.specs.DistinctLaws.{bytes_eq-turned}
use Rattle.dap_tasks.specs.Task.{PlainTask}
use Rattle.dap_batch.specs.Group.{batch_start}
use Rattle.dap_messages.specs.declared.report.Report.{Report}
use Rattle.dap_model.specs.State.{content_of, contents_in, in_bucket, rejected_in}
use Rattle.dap_direct.proofs.ContentLemmas.{contents-push, rejected-push}
use Rattle.dap_direct.proofs.FindLemmas.{FoundAt, find-set_other, found_at}
use Rattle.dap_direct.proofs.SumLemmas.{barred_by, counts, is_own}
use Rattle.dap_direct.specs.Sums.{AddsNone, AreOutShares, AreSums, AreSumsOf, Counts, IsReady, IsSummed, content_with, is_of}
use Rattle.dap_direct.specs.declared.prepared.OutShares.{OutShares}
use Rattle.dap_direct.specs.declared.sums.Sums.{Sums}

both_parts : (a b : Bool) → (a && b) ≡ true → (a ≡ true) × (b ≡ true)
both_parts true true e = (refl, refl)
both_parts true false e = cc e
both_parts false b e = cc e

and-false : (b : Bool) → (b && false) ≡ false
and-false true = refl
and-false false = refl

-- ---- the name and the start of sums

record HasKey (name : List ℕ) (start : ℕ) (s : Sums) : Type 0 where
  task : s.task ≡ name
  begin : s.start ≡ start

key_is : (name : List ℕ) (start : ℕ) (s : Sums) → is_of name start s ≡ true → HasKey name start s
key_is name start s own =
    let p = both_parts (bytes_eq s.task name) (nat_eq s.start start) own in
    record { task = (bytes_eq-Decides s.task name).0 p.0; begin = eqb-true s.start start p.1 }

counted_key : (g : Functions) (outs : Option OutShares) (name : List ℕ) (start : ℕ) (old new : Sums) → Counts g outs old new → HasKey name start old → HasKey name start new
counted_key g None name start old new count key = subst (HasKey name start) (sym count) (record { task = key.task; begin = key.begin })
counted_key g (Some outs) name start old new count key = record { task = count.task ∙ key.task; begin = count.start ∙ key.begin }

-- sums with this key, by the test for a key
key-test : (n : List ℕ) (s : ℕ) (name : List ℕ) (start : ℕ) (x : Sums) → HasKey name start x → is_of n s x ≡ (bytes_eq name n && nat_eq start s)
key-test n s name start x key = ap (λ (t : List ℕ). bytes_eq t n && nat_eq x.start s) key.task ∙ ap (λ (b : ℕ). bytes_eq name n && nat_eq b s) key.begin

-- ---- sums of no report

none_then : (g : Functions) (contents : List (List ℕ)) (rejected : ℕ) (added : Sums) (o : Option Sums) (b : Bool) → (b ≡ true → AreSums g [] 0 added)
    → AreSumsOf g contents rejected o → AreSumsOf g contents rejected (option_or o (cond b (Some added) None))
none_then g contents rejected added (Some x) b fresh h = h
none_then g contents rejected added None true fresh h =
    subst (λ c. AreSums g c rejected added) (sym h.0) (subst (λ (n : ℕ). AreSums g [] n added) (sym h.1) (fresh refl))
none_then g contents rejected added None false fresh h = h

pub ready_keeps : (f : Kind → Functions) (g : Functions) (name : List ℕ) (start : ℕ) (old new : List Sums) (place : ℕ) (t : PlainTask) (acc : List Report)
    → IsReady g name start old new place → (bytes_eq name t.name ≡ true → g ≡ f t.kind) → IsSummed f t acc old → IsSummed f t acc new
ready_keeps f g name start old new place t acc ready same summed = go ready.kept
  where
    go : (new ≡ old) ⊎ AddsNone g name start old new → IsSummed f t acc new
    go (inl e) = subst (IsSummed f t acc) (sym e) summed
    go (inr a) = λ s.
        let test : Sums → Bool = is_of t.name s in
        let is : find test new ≡ option_or (find test old) (cond (test a.added) (Some a.added) None) =
        ap (find test) a.grown ∙ find-append test old (a.added ∷ []) in
        let fresh : test a.added ≡ true → AreSums (f t.kind) [] 0 a.added = λ own.
        let named : bytes_eq name t.name ≡ true = ap (λ (n : List ℕ). bytes_eq n t.name) (sym a.of_task) ∙ (both_parts (bytes_eq a.added.task t.name) (nat_eq a.added.start s) own).0 in
        subst (λ h. AreSums h [] 0 a.added) (same named) a.sums in
        subst (AreSumsOf (f t.kind) (contents_in f t s acc) (rejected_in f t s acc)) (sym is)
        (none_then (f t.kind) (contents_in f t s acc) (rejected_in f t s acc) a.added (find test old) (test a.added) fresh (summed s))

-- ---- a counted report

-- a report of a task was counted in the sums at this place
pub record Counted (f : Kind → Functions) (task : PlainTask) (new : Report) (outs : Option OutShares) (old sums : List Sums) (place : ℕ) (x y : Sums) : Type 0 where
  pub of_task : new.name ≡ task.name
  pub ready : IsReady (f task.kind) task.name (batch_start new.time task.precision) old sums place
  pub at : x ≡ get_or sums place x
  pub ok : AreOutShares (f task.kind) outs
  pub content : content_with (f task.kind) outs ≡ content_of f task new
  pub count : Counts (f task.kind) outs x y

pub place_found : (g : Functions) (name : List ℕ) (start : ℕ) (old sums : List Sums) (place : ℕ) (x : Sums) → IsReady g name start old sums place → x ≡ get_or sums place x
    → FoundAt (is_of name start) sums x
place_found g name start old sums place x ready at =
    found_at (is_of name start) sums x (subst (λ n. n < length sums) (sym ready.at) ready.within) (at ∙ ap (λ n. get_or sums n x) (sym ready.at))

-- what stands at the place are the bucket's sums
pub place_sums : (f : Kind → Functions) (task : PlainTask) (acc : List Report) (start : ℕ) (old sums : List Sums) (place : ℕ) (x : Sums)
    → IsReady (f task.kind) task.name start old sums place → x ≡ get_or sums place x → IsSummed f task acc old
    → AreSums (f task.kind) (contents_in f task start acc) (rejected_in f task start acc) x
place_sums f task acc start old sums place x ready at summed =
    subst (AreSumsOf (f task.kind) (contents_in f task start acc) (rejected_in f task start acc))
    (place_found (f task.kind) task.name start old sums place x ready at).found
    (ready_keeps f (f task.kind) task.name start old sums place task acc ready (λ e. refl) summed start)

-- another bucket has its sums as before
untouched : (f : Kind → Functions) (t : PlainTask) (s : ℕ) (acc : List Report) (new : Report) (sums : List Sums) (place : ℕ) (x y : Sums)
    → x ≡ get_or sums place x → in_bucket t s new ≡ false → is_of t.name s x ≡ false → is_of t.name s y ≡ false
    → AreSumsOf (f t.kind) (contents_in f t s acc) (rejected_in f t s acc) (find (is_of t.name s) sums)
    → AreSumsOf (f t.kind) (contents_in f t s (acc ++ new ∷ [])) (rejected_in f t s (acc ++ new ∷ [])) (find (is_of t.name s) (set sums place y))
untouched f t s acc new sums place x y at outside no_x no_y summed =
    let test : Sums → Bool = is_of t.name s in
    let found : find test (set sums place y) ≡ find test sums = find-set_other test sums place y x (ap test (sym at) ∙ no_x) no_y in
    let contents : contents_in f t s (acc ++ new ∷ []) ≡ contents_in f t s acc =
    contents-push f t s acc new ∙ ap (λ b. contents_in f t s acc ++ cond b (option_to_list (content_of f t new)) []) outside ∙ append-nil (contents_in f t s acc) in
    let rejected : rejected_in f t s (acc ++ new ∷ []) ≡ rejected_in f t s acc =
    rejected-push f t s acc new ∙ ap (λ b. rejected_in f t s acc + cond (b && is_none (content_of f t new)) 1 0) outside ∙ omega arith in
    subst (AreSumsOf (f t.kind) (contents_in f t s (acc ++ new ∷ [])) (rejected_in f t s (acc ++ new ∷ []))) (sym found)
    (subst (λ c. AreSumsOf (f t.kind) c (rejected_in f t s (acc ++ new ∷ [])) (find test sums)) (sym contents)
    (subst (λ (n : ℕ). AreSumsOf (f t.kind) (contents_in f t s acc) n (find test sums)) (sym rejected) summed))

-- the bucket has its sums, with the report
touched : (f : Kind → Functions) (task : PlainTask) (acc : List Report) (new : Report) (outs : Option OutShares) (old sums : List Sums) (place : ℕ) (x y : Sums)
    → SpaceLaws (f task.kind).space → Counted f task new outs old sums place x y → IsSummed f task acc old
    → let start = batch_start new.time task.precision in
    AreSumsOf (f task.kind) (contents_in f task start (acc ++ new ∷ [])) (rejected_in f task start (acc ++ new ∷ [])) (find (is_of task.name start) (set sums place y))
touched f task acc new outs old sums place x y laws c summed =
    let g : Functions = f task.kind in
    let start : ℕ = batch_start new.time task.precision in
    let found = place_found g task.name start old sums place x c.ready c.at in
    let key = counted_key g outs task.name start x y c.count (key_is task.name start x found.passes) in
    let there : find (is_of task.name start) (set sums place y) ≡ Some y =
    ap (λ n. find (is_of task.name start) (set sums n y)) (sym c.ready.at) ∙ found.replaced y (is_own task.name start y key.task key.begin) in
    let named : bytes_eq new.name task.name ≡ true = (bytes_eq-Decides new.name task.name).1 c.of_task in
    let inside : in_bucket task start new ≡ true = ap (λ b. b && nat_eq start start) named ∙ eq-eqb start start refl in
    let contents : contents_in f task start (acc ++ new ∷ []) ≡ contents_in f task start acc ++ option_to_list (content_with g outs) =
    contents-push f task start acc new ∙ ap (λ b. contents_in f task start acc ++ cond b (option_to_list (content_of f task new)) []) inside
    ∙ ap (λ o. contents_in f task start acc ++ option_to_list o) (sym c.content) in
    let rejected : rejected_in f task start (acc ++ new ∷ []) ≡ rejected_in f task start acc + barred_by (content_with g outs) =
    rejected-push f task start acc new ∙ ap (λ b. rejected_in f task start acc + cond (b && is_none (content_of f task new)) 1 0) inside
    ∙ ap (λ o. rejected_in f task start acc + barred_by o) (sym c.content) in
    let sums_y = counts laws (contents_in f task start acc) (rejected_in f task start acc) outs x y (place_sums f task acc start old sums place x c.ready c.at summed) c.ok c.count in
    subst (AreSumsOf g (contents_in f task start (acc ++ new ∷ [])) (rejected_in f task start (acc ++ new ∷ []))) (sym there)
    (subst (λ l. AreSums g l (rejected_in f task start (acc ++ new ∷ [])) y) (sym contents)
    (subst (λ (n : ℕ). AreSums g (contents_in f task start acc ++ option_to_list (content_with g outs)) n y) (sym rejected) sums_y))

pub own_keeps : (f : Kind → Functions) (task : PlainTask) (acc : List Report) (new : Report) (outs : Option OutShares) (old sums : List Sums) (place : ℕ) (x y : Sums)
    → SpaceLaws (f task.kind).space → Counted f task new outs old sums place x y → IsSummed f task acc old → IsSummed f task (acc ++ new ∷ []) (set sums place y)
own_keeps f task acc new outs old sums place x y laws c summed = λ s. go s (nat_eq (batch_start new.time task.precision) s) refl
  where
    go : (s : ℕ) (b : Bool) → nat_eq (batch_start new.time task.precision) s ≡ b
        → AreSumsOf (f task.kind) (contents_in f task s (acc ++ new ∷ [])) (rejected_in f task s (acc ++ new ∷ [])) (find (is_of task.name s) (set sums place y))
    go s true e =
        subst (λ (s : ℕ). AreSumsOf (f task.kind) (contents_in f task s (acc ++ new ∷ [])) (rejected_in f task s (acc ++ new ∷ [])) (find (is_of task.name s) (set sums place y)))
        (eqb-true (batch_start new.time task.precision) s e) (touched f task acc new outs old sums place x y laws c summed)
    go s false e =
        let start : ℕ = batch_start new.time task.precision in
        let key = key_is task.name start x (place_found (f task.kind) task.name start old sums place x c.ready c.at).passes in
        let other : (bytes_eq task.name task.name && nat_eq start s) ≡ false = ap (λ b. bytes_eq task.name task.name && b) e ∙ and-false (bytes_eq task.name task.name) in
        untouched f task s acc new sums place x y c.at (ap (λ b. bytes_eq new.name task.name && b) e ∙ and-false (bytes_eq new.name task.name))
        (key-test task.name s task.name start x key ∙ other)
        (key-test task.name s task.name start y (counted_key (f task.kind) outs task.name start x y c.count key) ∙ other)
        (ready_keeps f (f task.kind) task.name start old sums place task acc c.ready (λ e. refl) summed s)

pub others_keep : (f : Kind → Functions) (task : PlainTask) (acc : List Report) (new : Report) (outs : Option OutShares) (old sums : List Sums) (place : ℕ) (x y : Sums)
    → Counted f task new outs old sums place x y → (other : PlainTask) → bytes_eq other.name task.name ≡ false → IsSummed f other acc old
    → IsSummed f other (acc ++ new ∷ []) (set sums place y)
others_keep f task acc new outs old sums place x y c other differs summed = λ s.
    let start : ℕ = batch_start new.time task.precision in
    let turned : bytes_eq task.name other.name ≡ false = bytes_eq-turned task.name other.name ∙ differs in
    let key = key_is task.name start x (place_found (f task.kind) task.name start old sums place x c.ready c.at).passes in
    let apart : (bytes_eq task.name other.name && nat_eq start s) ≡ false = ap (λ b. b && nat_eq start s) turned in
    untouched f other s acc new sums place x y c.at
    (ap (λ (n : List ℕ). bytes_eq n other.name && nat_eq (batch_start new.time other.precision) s) c.of_task ∙ ap (λ b. b && nat_eq (batch_start new.time other.precision) s) turned)
    (key-test other.name s task.name start x key ∙ apart)
    (key-test other.name s task.name start y (counted_key (f task.kind) outs task.name start x y c.count key) ∙ apart)
    (ready_keeps f (f task.kind) task.name start old sums place other acc c.ready (λ e. absurd (let k : true ≡ false = sym e ∙ turned in cc)) summed s)

-- ---- as the calls say it

pub ready_as : {g h : Functions} {n m : List ℕ} {s t : ℕ} {old new : List Sums} {place : ℕ} → g ≡ h → n ≡ m → s ≡ t → IsReady g n s old new place → IsReady h m t old new place
ready_as {g} {h} {n} {m} {s} {t} {old} {new} {place} e name start ready =
    subst (λ (k : ℕ). IsReady h m k old new place) start (subst (λ (l : List ℕ). IsReady h l s old new place) name (subst (λ k. IsReady k n s old new place) e ready))

pub counted_as : (f : Kind → Functions) (task : PlainTask) (new : Report) (outs : Option OutShares) (old sums : List Sums) (place : ℕ) (x y : Sums)
    (g : Functions)
    → g ≡ f task.kind → new.name ≡ task.name → IsReady (f task.kind) task.name (batch_start new.time task.precision) old sums place → x ≡ get_or sums place x
    → AreOutShares g outs → content_with g outs ≡ content_numbers_of g task new → Counts g outs x y
    → Counted f task new outs old sums place x y
counted_as f task new outs old sums place x y g e of_task ready at ok content count = record {
  of_task = of_task;
  ready = ready;
  at = at;
  ok = subst (λ h. AreOutShares h outs) e ok;
  content = subst (λ h. content_with h outs ≡ content_numbers_of h task new) e content;
  count = subst (λ h. Counts h outs x y) e count;
}

-- out shares under a function of another name
pub out_as : (g h : Functions) (bytes : List ℕ) → g ≡ h → IsOut h.space bytes → IsOut g.space bytes
out_as g h bytes e out = subst (λ k. IsOut k.space bytes) (sym e) out

-- the sums of another task are as before
pub ready_others : (f : Kind → Functions) (g : Functions) (name : List ℕ) (start : ℕ) (old new : List Sums) (place : ℕ) (acc : List Report)
    → IsReady g name start old new place → (other : PlainTask) → bytes_eq other.name name ≡ false → IsSummed f other acc old → IsSummed f other acc new
ready_others f g name start old new place acc ready other differs summed =
    let turned : bytes_eq name other.name ≡ false = bytes_eq-turned name other.name ∙ differs in
    ready_keeps f g name start old new place other acc ready (λ e. absurd (let k : true ≡ false = sym e ∙ turned in cc)) summed
