-- What the fronts hold, and the buckets of a batch.
use Rattle.std.proofs.Common.{◌≡◌, ℕ, ◌+◌, ◌*◌, ◌<◌, ◌≤◌, List, [], ◌∷◌, zero, suc, Option, Some, None, refl, ap, sym, ◌∙◌, arith, inl, inr, subst, IsTrue, true, false, map}
use Rattle.std.specs.Str.{bytes_eq}
use Rattle.std.specs.List.{range_with_len, cons_option}
use Rattle.dap_bytes.specs.declared.span.Span.{Span}
use Rattle.dap_bytes.specs.Spans.{bucket_at, buckets_of, holds_bucket, shares_bucket}
use Rattle.dap_bytes.specs.SpanLaws.{bucket_at-same, shares_bucket-from}
use Rattle.lane_records.specs.RecordLaws.{leader_task_allowed}
use Rattle.lane_records.specs.Stored.{stored}
use Rattle.legal_journals.proofs.Members.{Mem-from_map}
use Rattle.dap_bytes.specs.declared.node.Node.TheVariants.{Leader}
use Rattle.dap_bytes.specs.declared.part.Part.TheVariants.{Front, Lane}
use Rattle.dap_batch.specs.Group.{lane_number}
use Rattle.dap_messages.specs.declared.report.Report.{Report}
use Rattle.dap_tasks.specs.Task.{PlainTask}
use Rattle.vdaf_api.specs.TaskNumbers.{AreTaskNumbers}
use Rattle.lane_records.specs.declared.record.Record.{Record}
use Rattle.lane_records.specs.declared.record.Record.TheVariants.{LeaderTask, HelperTask, Ask, Accept}
use Rattle.lane_records.specs.declared.stored.StoredTask.{StoredTask}
use Rattle.legal_journals.specs.History.{Mem, lanes_in}
use Rattle.legal_journals.specs.Legal.{May, IsLegal}
use Rattle.legal_journals.specs.LegalFronts.{task_of_name, last_task}
use Rattle.lane_records.specs.Records.{leader_task_of}
use Rattle.legal_journals.proofs.Grown.{legal_allowed}
use Rattle.lane_records.proofs.Ranges.{task_numbers}
use Rattle.dap_agree.specs.Agree.{Batch}
use Rattle.dap_agree.specs.Fronts.{stored_as, stored_task, whole, joined, asked_of, asks_of, fronts_of, Cell, row, cells_to}
use Rattle.dap_agree.specs.Lists.{Distinct, total_by, Sub}
use Rattle.dap_agree.proofs.Closed.{distinct_app}
use Rattle.dap_agree.proofs.Lists.{mem_cases, first_at, picked_out}
use Rattle.dap_agree.proofs.Told.{same_bytes, if_some}

abbrev pub the_batch : List ℕ → Span → Batch
the_batch n s = record { name = n; span = s }

-- ---- tasks

leader_task_only : (x : Record) (t : StoredTask) → leader_task_of x ≡ Some t → x ≡ LeaderTask t
leader_task_only (LeaderTask u) t e = let same : u ≡ t = cc in ap LeaderTask same
leader_task_only _ t e = absurd cc

pub stored_at : (n : List ℕ) (x : Record) (t : StoredTask) → stored_as n (leader_task_of x) ≡ Some t → (x ≡ LeaderTask t) × (t.name ≡ n)
stored_at n x t e = go (leader_task_of x) refl e
  where
    go : (o : Option StoredTask) → leader_task_of x ≡ o → stored_as n o ≡ Some t → (x ≡ LeaderTask t) × (t.name ≡ n)
    go None q e = absurd (cc)
    go (Some u) q e =
        let a = if_some (bytes_eq u.name n) u t e in
        (leader_task_only x u q ∙ ap LeaderTask a.1, ap (λ (z : StoredTask). z.name) (sym a.1) ∙ same_bytes u.name n a.0)

abbrev pub Joined : Option StoredTask → Option StoredTask → PlainTask → Type 0
Joined x y t = (a b : StoredTask) × (x ≡ Some a) × (y ≡ Some b) × (whole a b ≡ t)

joined_at : (x y : Option StoredTask) (t : PlainTask) → joined x y ≡ Some t → Joined x y t
joined_at None y t e = absurd (cc)
joined_at (Some a) None t e = absurd (cc)
joined_at (Some a) (Some b) t e = (a, b, refl, refl, some_one (whole a b) t e)
  where
    some_one : (p q : PlainTask) → Some p ≡ Some q → p ≡ q
    some_one p q e = cc

-- a whole task's two records
pub task_known : (front helper_front : List Record) (n : List ℕ) (t : PlainTask) → (fronts_of front helper_front).task n ≡ Some t →
    (a b : StoredTask) × Mem (LeaderTask a) front × (a.name ≡ n) × (last_task n helper_front ≡ Some b) × (whole a b ≡ t)
task_known front helper_front n t e =
    let j = joined_at (stored_task n front) (last_task n helper_front) t e in
    let k = first_at (λ x. stored_as n (leader_task_of x)) front j.0 j.2 in
    let s = stored_at n k.0 j.0 k.2 in
    (j.0, j.1, subst (λ z. Mem z front) s.0 k.1, s.1, j.3, j.4)

-- it has the name
pub task_named : (front helper_front : List Record) (n : List ℕ) (t : PlainTask) → (fronts_of front helper_front).task n ≡ Some t → t.name ≡ n
task_named front helper_front n t e =
    let k = task_known front helper_front n t e in
    ap (λ (z : PlainTask). z.name) (sym k.5) ∙ k.3

-- its numbers are in the ranges of a task
pub task_ranges : (front helper_front : List Record) (n : List ℕ) (t : PlainTask) → IsLegal Leader Front front →
    (fronts_of front helper_front).task n ≡ Some t → AreTaskNumbers t.kind t.min t.precision
task_ranges front helper_front n t legal e =
    let k = task_known front helper_front n t e in
    let allowed : (stored k.0.format).allowed k.0 ≡ true = sym (leader_task_allowed k.0) ∙ legal_allowed Leader Front front (LeaderTask k.0) legal k.2 in
    subst (λ (z : PlainTask). AreTaskNumbers z.kind z.min z.precision) k.5 (task_numbers k.0 allowed)

-- a name has one Task in the leader's front
pub leader_task_one : (front : List Record) (a b : StoredTask) → IsLegal Leader Front front → Mem (LeaderTask a) front → Mem (LeaderTask b) front → a.name ≡ b.name → a ≡ b
leader_task_one [] a b h p q e = elim p [ ]
leader_task_one (x ∷ old) a b h (inl d) (inl d') e = let same : LeaderTask a ≡ LeaderTask b = d ∙ sym d' in cc
leader_task_one (x ∷ old) a b h (inl d) (inr q) e = absurd ((subst (λ (z : Record). May Leader Front z old) (sym d) h.0).2.1 (b, q, sym e))
leader_task_one (x ∷ old) a b h (inr p) (inl d') e = absurd ((subst (λ (z : Record). May Leader Front z old) (sym d') h.0).2.1 (a, p, e))
leader_task_one (x ∷ old) a b h (inr p) (inr q) e = leader_task_one old a b h.1 p q e

-- ---- asks

ask_only : (x : Record) (b : Batch) → asked_of x ≡ Some b → x ≡ Ask b.name b.span
ask_only (Ask n s) b e = let same : the_batch n s ≡ b = cc in ap (λ (z : Batch). Ask z.name z.span) same
ask_only _ b e = absurd cc

pub asks_out : (front : List Record) (b : Batch) → Mem b (asks_of front) → Mem (Ask b.name b.span) front
asks_out front b p =
    let a = picked_out asked_of front b p in
    subst (λ z. Mem z front) (ask_only a.0 b a.2) a.1

-- a legal journal of the leader's front has no Task of the helper's
no_helper_task : (front : List Record) (u : StoredTask) → IsLegal Leader Front front → Mem (HelperTask u) front → ⊥
no_helper_task [] u h p = elim p [ ]
no_helper_task (x ∷ old) u h (inl d) = elim (subst (λ (z : Record). May Leader Front z old) (sym d) h.0).2 [ ]
no_helper_task (x ∷ old) u h (inr p) = no_helper_task old u h.1 p

-- the last Task of a name in a leader's front is the leader's
last_is : (front : List Record) (n : List ℕ) (t : StoredTask) → IsLegal Leader Front front → last_task n front ≡ Some t → Mem (LeaderTask t) front × (t.name ≡ n)
last_is front n t h e =
    let k = first_at (task_of_name n) front t e in
    let s = named k.0 k.1 k.2 in
    (subst (λ z. Mem z front) s.0 k.1, s.1)
  where
    named : (x : Record) → Mem x front → task_of_name n x ≡ Some t → (x ≡ LeaderTask t) × (t.name ≡ n)
    named (LeaderTask u) m d =
        let a = if_some (bytes_eq u.name n) u t d in
        (ap LeaderTask a.1, ap (λ (z : StoredTask). z.name) (sym a.1) ∙ same_bytes u.name n a.0)
    named (HelperTask u) m d = absurd (no_helper_task front u h m)
    named _ m d = absurd cc

-- no bucket lies in two batches that are asked for
pub one_asked : (front : List Record) (a b : Batch) (t : StoredTask) (s : ℕ) → IsLegal Leader Front front →
    Mem (LeaderTask t) front → t.name ≡ a.name → Mem (Ask a.name a.span) front → Mem (Ask b.name b.span) front → a.name ≡ b.name →
    IsTrue (holds_bucket a.span t.precision s) → IsTrue (holds_bucket b.span t.precision s) → a ≡ b
one_asked front a b t s legal m e p q same ha hb = go front (λ x z. z) legal p q
  where
    -- the later of two Asks shares no bucket with the earlier one
    apart : (later earlier : Batch) (x : Record) (old : List Record) → Sub (x ∷ old) front → IsLegal Leader Front (x ∷ old) → Ask later.name later.span ≡ x →
        Mem (Ask earlier.name earlier.span) old → later.name ≡ earlier.name → later.name ≡ t.name →
        IsTrue (holds_bucket later.span t.precision s) → IsTrue (holds_bucket earlier.span t.precision s) → ⊥
    apart later earlier x old sub h d o names known hl he =
        let may = (subst (λ (z : Record). May Leader Front z old) (sym d) h.0).2 in
        let last = last_is old later.name may.0 h.1 may.1 in
        let task : may.0 ≡ t = leader_task_one front may.0 t legal (sub (LeaderTask may.0) (inr last.0)) m (last.1 ∙ known) in
        let clear : shares_bucket later.span earlier.span may.0.precision ≡ false = may.3 earlier.span (subst (λ z. Mem (Ask z earlier.span) old) (sym names) o) in
        let shared : shares_bucket later.span earlier.span t.precision ≡ true = shares_bucket-from later.span earlier.span t.precision (s, hl, he) in
        let both : false ≡ true = sym clear ∙ ap (λ (z : StoredTask). shares_bucket later.span earlier.span z.precision) task ∙ shared in
        absurd (cc)

    go : (l : List Record) → Sub l front → IsLegal Leader Front l → Mem (Ask a.name a.span) l → Mem (Ask b.name b.span) l → a ≡ b
    go [] sub h x y = elim x [ ]
    go (x ∷ old) sub h (inl d) (inl d') =
        let one : Ask a.name a.span ≡ Ask b.name b.span = d ∙ sym d' in
        let spans : a.span ≡ b.span = cc in
        ap (λ z. the_batch z a.span) same ∙ ap (λ z. the_batch b.name z) spans
    go (x ∷ old) sub h (inl d) (inr y) = absurd (apart a b x old sub h d y same (sym e) ha hb)
    go (x ∷ old) sub h (inr y) (inl d) = absurd (apart b a x old sub h d y (sym same) (sym same ∙ sym e) hb ha)
    go (x ∷ old) sub h (inr y) (inr z) = go old (λ w v. sub w (inr v)) h.1 y z

-- ---- cells

pub sum_same : {A B : Type 0} (op : B → B → B) (e : B) (f g : A → B) (cs : List A) → ((x : A) → Mem x cs → f x ≡ g x) → total_by op e f cs ≡ total_by op e g cs
sum_same op e f g [] h = refl
sum_same op e f g (x ∷ cs) h =
    ap (λ z. op z (total_by op e f cs)) (h x (inl refl)) ∙ ap (λ z. op (g x) z) (sum_same op e f g cs (λ y p. h y (inr p)))

abbrev pub the_cell : ℕ → ℕ → Cell
the_cell k s = record { lane = k; start = s }

pub row_out : (k : ℕ) (starts : List ℕ) (x : Cell) → Mem x (row k starts) → (x.lane ≡ k) × Mem x.start starts
row_out k starts x q =
    let a = Mem-from_map (the_cell k) x starts q in
    (ap (λ (z : Cell). z.lane) a.2, subst (λ z. Mem z starts) (sym (ap (λ (z : Cell). z.start) a.2)) a.1)

pub cells_out : (n : ℕ) (starts : List ℕ) (x : Cell) → Mem x (cells_to n starts) → (x.lane < n) × Mem x.start starts
cells_out zero starts x q = elim q [ ]
cells_out (suc n) starts x q = elim (mem_cases (row n starts) (cells_to n starts) x q) [
  | inl a ↦ (let r = row_out n starts x a in let e : x.lane ≡ n = r.0 in (omega arith, r.1))
  | inr a ↦ (let r = cells_out n starts x a in let lt : x.lane < n = r.0 in (omega arith, r.1))
]

row_distinct : (k : ℕ) (starts : List ℕ) → Distinct starts → Distinct (row k starts)
row_distinct k [] d = tt
row_distinct k (s ∷ starts) d = ((λ q. d.0 (row_out k starts (the_cell k s) q).1), row_distinct k starts d.1)

pub cells_distinct : (n : ℕ) (starts : List ℕ) → Distinct starts → Distinct (cells_to n starts)
cells_distinct zero starts d = tt
cells_distinct (suc n) starts d =
    distinct_app (row n starts) (cells_to n starts) (row_distinct n starts d) (cells_distinct n starts d)
    (λ x q r. let a : x.lane ≡ n = (row_out n starts x q).0 in let c : x.lane < n = (cells_out n starts x r).0 in absurd (omega arith))

-- the buckets of a batch are distinct
numbers_above : (from count i : ℕ) → Mem i (range_with_len from count) → from ≤ i
numbers_above from zero i m = elim m [ ]
numbers_above from (suc count) i (inl e) = omega (arith, e)
numbers_above from (suc count) i (inr m) = let h : from + 1 ≤ i = numbers_above (from + 1) count i m in omega arith

starts_distinct : (span : Span) (precision from count : ℕ) → 0 < precision → Distinct (map (bucket_at span precision) (range_with_len from count))
starts_distinct span precision from zero h = tt
starts_distinct span precision from (suc count) h = (
  (λ m.
      let a = Mem-from_map (bucket_at span precision) (bucket_at span precision from) (range_with_len (from + 1) count) m in
      let above : from + 1 ≤ a.0 = numbers_above (from + 1) count a.0 a.1 in
      let same : from ≡ a.0 = bucket_at-same span precision from a.0 h a.2 in
      absurd (omega arith)),
  starts_distinct span precision (from + 1) count h,
)

pub buckets_distinct : (span : Span) (precision : ℕ) → 0 < precision → Distinct (buckets_of span precision)
buckets_distinct span precision h = starts_distinct span precision 0 span.buckets h

-- ---- lanes

-- in a legal journal of lane k each Accept is of this lane
pub accept_lane : (lanes k : ℕ) (l big : List Record) → ((x : Record) → Mem x l → Mem x big) → ((x : Record) (n : ℕ) → Mem x big → lanes_in x ≡ Some n → n ≡ lanes) →
    IsLegal Leader (Lane k) l → (r : Report) → Mem (Accept r) l → lane_number r.id lanes ≡ k
accept_lane lanes k [] big sub named legal r m = elim m [ ]
accept_lane lanes k (x ∷ old) big sub named legal r (inr m) = accept_lane lanes k old big (λ y q. sub y (inr q)) named legal.1 r m
accept_lane lanes k (x ∷ old) big sub named legal r (inl e) =
    let here : May Leader (Lane k) (Accept r) old = subst (λ (z : Record). May Leader (Lane k) z old) (sym e) legal.0 in
    let lies = here.2.0 in
    let same : lies.1 ≡ lanes = named lies.0 lies.1 (sub lies.0 (inr lies.2)) lies.3 in
    ap (lane_number r.id) (sym same) ∙ lies.5
