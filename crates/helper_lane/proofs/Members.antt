-- Lookups in lists of records.
use Rattle.std.proofs.Common.{◌≡◌, ◌⊎◌, inl, inr, ℕ, ◌≤◌, Bool, true, false, List, [], ◌∷◌, Option, Some, None, refl, sym, ap, ◌∙◌, arith}
use Rattle.std.specs.Option.{option_or}
use Rattle.dap_messages.specs.declared.job.JobNo.{JobNo}
use Rattle.dap_messages.specs.declared.body.Half.{Half}
use Rattle.dap_messages.specs.declared.item.Tagged.{Tagged}
use Rattle.dap_messages.specs.Jobs.{is_same_job}
use Rattle.lane_records.specs.declared.outcome.Outcome.{Outcome}
use Rattle.lane_records.specs.declared.record.Record.{Record}
use Rattle.lane_records.specs.declared.record.Record.TheVariants.{Start, Commit}
use Rattle.legal_journals.specs.History.{Mem, first, lanes_in, opens, count_some}
use Rattle.dap_messages.specs.JobLaws.{same_job-Decides}
use Rattle.helper_lane.specs.Reply.{Started, some_if, start_if, commit_if}

or_some : {A : Type 0} (a b : Option A) (y : A) → option_or a b ≡ Some y → (a ≡ Some y) ⊎ ((a ≡ None) × (b ≡ Some y))
or_some (Some x) b y e = inl e
or_some None b y e = inr (refl, e)

or_none : {A : Type 0} (a b : Option A) → option_or a b ≡ None → (a ≡ None) × (b ≡ None)
or_none (Some x) b e = absurd (cc e)
or_none None b e = (refl, e)

pub first_some : {A B : Type 0} (f : A → Option B) (l : List A) (y : B) → first f l ≡ Some y → (x : A) × Mem x l × (f x ≡ Some y)
first_some f [] y e = absurd (cc e)
first_some {A} f (x ∷ l) y e = go (or_some (f x) (first f l) y e) (λ later. first_some f l y later) where
  go : (f x ≡ Some y) ⊎ ((f x ≡ None) × (first f l ≡ Some y)) → (first f l ≡ Some y → (z : A) × Mem z l × (f z ≡ Some y)) → (z : A) × Mem z (x ∷ l) × (f z ≡ Some y)
  go (inl here) rest = (x, inl refl, here)
  go (inr later) rest = let w = rest later.1 in (w.0, inr w.1, w.2)

pub first_none : {A B : Type 0} (f : A → Option B) (l : List A) (x : A) → first f l ≡ None → Mem x l → f x ≡ None
first_none f [] x e m = elim m [ ]
first_none {A} {B} f (y ∷ l) x e (inl s) = ap f s ∙ (or_none (f y) (first f l) e).0
first_none f (y ∷ l) x e (inr m) = first_none f l x (or_none (f y) (first f l) e).1 m

pub some_if_some : {A : Type 0} (b : Bool) (x y : A) → some_if b x ≡ Some y → (b ≡ true) × (x ≡ y)
some_if_some true x y e = (refl, cc e)
some_if_some false x y e = absurd (cc e)

pub some_if_true : {A : Type 0} (b : Bool) (x : A) → b ≡ true → some_if b x ≡ Some x
some_if_true true x e = refl
some_if_true false x e = absurd (cc e)

pub same_self : (j : JobNo) → is_same_job j j ≡ true
same_self j = (same_job-Decides j j).1 refl

-- a Start that is found is the job's
pub start_found : (j : JobNo) (x : Record) (s : Started) → start_if j x ≡ Some s → x ≡ Start j s.name s.halves
start_found j (Start job n hs) s e =
    let p = some_if_some (is_same_job job j) (record { name = n; halves = hs }) s e in
    let job_is : job ≡ j = (same_job-Decides job j).0 p.0 in
    ap (λ (i : JobNo). Start i n hs) job_is ∙ ap (λ (z : Started). Start j z.name z.halves) p.1
start_found j _ s e = absurd (cc e)

pub start_shown : (j : JobNo) (n : List ℕ) (hs : List (Tagged Half)) → start_if j (Start j n hs) ≡ Some (record { name = n; halves = hs })
start_shown j n hs = some_if_true (is_same_job j j) (record { name = n; halves = hs }) (same_self j)

pub commit_shown : (j : JobNo) (outs : List (Tagged Outcome)) → commit_if j (Commit j outs) ≡ Some outs
commit_shown j outs = some_if_true (is_same_job j j) outs (same_self j)

pub commit_found : (j : JobNo) (x : Record) (outs : List (Tagged Outcome)) → commit_if j x ≡ Some outs → x ≡ Commit j outs
commit_found j (Commit job os) outs e =
    let p = some_if_some (is_same_job job j) os outs e in
    ap (λ (i : JobNo). Commit i os) ((same_job-Decides job j).0 p.0) ∙ ap (λ (z : List (Tagged Outcome)). Commit j z) p.1
commit_found j _ outs e = absurd (cc e)

-- an Open is neither
pub open_starts_none : (j : JobNo) (x : Record) (n : ℕ) → lanes_in x ≡ Some n → start_if j x ≡ None
open_starts_none j (Start job name hs) n e = absurd (cc e)
open_starts_none j _ n e = refl

pub open_commits_none : (j : JobNo) (x : Record) (n : ℕ) → lanes_in x ≡ Some n → commit_if j x ≡ None
open_commits_none j (Commit job outs) n e = absurd (cc e)
open_commits_none j _ n e = refl

-- where an Open stands there is one
pub opens_some : (x : Record) (n : ℕ) (l : List Record) → Mem x l → lanes_in x ≡ Some n → 1 ≤ opens l
opens_some x n [] m e = elim m [ ]
opens_some x n (y ∷ l) (inl s) e = go (lanes_in y) (sym (ap lanes_in s) ∙ e) where
  go : (o : Option ℕ) → o ≡ Some n → 1 ≤ count_some o (opens l)
  go None e = absurd (cc e)
  go (Some k) e = omega arith
opens_some x n (y ∷ l) (inr m) e = go (lanes_in y) (opens_some x n l m e) where
  go : (o : Option ℕ) → 1 ≤ opens l → 1 ≤ count_some o (opens l)
  go None h = h
  go (Some k) h = omega arith
