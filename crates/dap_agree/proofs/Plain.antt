-- The plain state of journals, and what Answers tell of it.
use Rattle.std.proofs.Common.{◌≡◌, ◌↔◌, ℕ, zero, suc, ◌+◌, ◌<◌, ◌⊎◌, List, [], ◌∷◌, ◌++◌, length, map, filter, Bool, true, false, ◌&&◌, cond, is_some, is_none, nat_eq, Option, Some, None, refl, ap, sym, ◌∙◌, arith, inl, inr, subst, length-append, IsTrue}
use Rattle.std.specs.List.{cons_option, filter_map, list_any}
use Rattle.std.specs.Str.{bytes_eq}
use Rattle.std.proofs.lemmas.Bool.{eqb-true, eq-eqb, and_parts, and_from}
use Rattle.vdaf_api.specs.Functions.{Functions}
use Rattle.vdaf_api.specs.Kind.{IsKind}
use Rattle.vdaf_api.specs.Promises.{FunctionLaws}
use Rattle.vdaf_api.specs.Totals.{total, total_numbers}
use Rattle.vdaf_api.specs.Vectors.{plus, numbers, numbers_in, SpaceLaws}
use Rattle.vdaf_api.specs.Verdict.{Verdict, ok, bad, numbers_of}
use Rattle.vdaf_api.specs.declared.kind.Kind.{Kind}
use Rattle.dap_batch.specs.Group.{batch_start, lane_number}
use Rattle.dap_bytes.specs.Spans.{buckets_of, holds_bucket}
use Rattle.dap_bytes.specs.declared.span.Span.{Span}
use Rattle.dap_messages.specs.declared.report.Report.{Report}
use Rattle.dap_seal.specs.Reports as seal
use Rattle.dap_tasks.specs.Task.{PlainTask}
use Rattle.lane_records.specs.Records as records
use Rattle.lane_records.specs.declared.batch.Answered.{Answered}
use Rattle.lane_records.specs.declared.closed.Closed.{Closed}
use Rattle.lane_records.specs.declared.record.Record.{Record}
use Rattle.lane_records.specs.declared.record.Record.TheVariants.{Accept, LeaderTask, Ask, LeaderAnswer, HelperAnswer, LeaderClose, HelperClose}
use Rattle.lane_records.specs.declared.stored.StoredTask.{StoredTask}
use Rattle.legal_journals.specs.History.{Mem}
use Rattle.legal_journals.proofs.Members.{any_tells, any_told}
use Rattle.legal_journals.specs.JobReports.{Has}
use Rattle.legal_journals.specs.Told.{AreTold}
use Rattle.dap_agree.specs.Agree.{Batch, Fronts}
use Rattle.dap_agree.specs.Fronts.{Journals, held, asked_of, asks_of, Cell, row, cells_to, cells_of, LeaderClosed, HelperClosed, count_sum, rejected_sum, share_sum, LeaderAnswerFits, HelperAnswerFits, AllAgree, AllLegal}
use Rattle.dap_agree.specs.Lists.{Distinct, Sub, total_by}
use Rattle.dap_agree.specs.Outcomes.{in_bucket, finished_in, failed_in, pair_in, pair_of, AreNumbers, AreAccepts}
use Rattle.dap_agree.specs.Plain.{whole_of, accepts_of, accepted_to, plain_state, StandsFor, in_batch, batch_of, contents_of, TellsOf}
use Rattle.dap_agree.specs.Verdicts.{IsCounted, content_in, content}
use Rattle.dap_agree.proofs.Answered.{share_is}
use Rattle.dap_agree.proofs.Closed.{distinct_app}
use Rattle.dap_agree.proofs.Journals.{LeaderLegal, accept_one, older_leader, leader_may}
use Rattle.dap_agree.proofs.Lists.{mem_left, mem_right, mem_cases, picked_in, picked_out}
use Rattle.dap_agree.proofs.Numbers.{if_ok, good, good_in, good_out, total_pair, total_app, zero_zero, interchange, contents_sum}
use Rattle.dap_agree.proofs.Outcomes.{filter_in, filter_out, filter_distinct, are_numbers}
use Rattle.dap_agree.proofs.Shown.{two_at, lane_of, close_whole, helper_close_whole}
use Rattle.dap_agree.proofs.Stored.{the_batch, task_known, task_named, task_ranges, asks_out, cells_out, buckets_distinct, cells_distinct, the_cell}
use Rattle.dap_agree.proofs.Sums.{length_same, total_same}
use Rattle.dap_agree.proofs.Told.{same_bytes, bytes_same, accept_only}
use Rattle.dap_agree.proofs.Two.{same_task, close_known}

-- ---- the accepted reports

accept_in : (l : List Record) (r : Report) → Mem (Accept r) l → Mem r (accepts_of l)
accept_in l r m = picked_in records.accept_of l (Accept r) r m refl

accept_out : (l : List Record) (r : Report) → Mem r (accepts_of l) → Mem (Accept r) l
accept_out l r m = let a = picked_out records.accept_of l r m in subst (λ z. Mem z l) (accept_only a.0 r a.2) a.1

accepts_distinct : (l : List Record) → LeaderLegal l → Distinct (accepts_of l)
accepts_distinct [] g = tt
accepts_distinct (x ∷ l) g = go (records.accept_of x) refl (accepts_distinct l (older_leader x l g))
  where
    go : (o : Option Report) → records.accept_of x ≡ o → Distinct (accepts_of l) → Distinct (cons_option o (accepts_of l))
    go None e d = d
    go (Some r) e d = ((λ m. (leader_may l x (Accept r) g (sym (accept_only x r e))).2.1 (r, accept_out l r m, refl, refl)), d)

are_accepts : (l : List Record) → LeaderLegal l → AreAccepts l (accepts_of l)
are_accepts l g = record { once = accepts_distinct l g; stand = accept_out l; all = accept_in l }

accepted_out : (leaders : ℕ → List Record) (n : ℕ) (r : Report) → Mem r (accepted_to leaders n) → (k : ℕ) × (k < n) × Mem (Accept r) (leaders k)
accepted_out leaders zero r m = elim m [ ]
accepted_out leaders (suc n) r m = elim (mem_cases (accepts_of (leaders n)) (accepted_to leaders n) r m) [
  | inl a ↦ (n, omega arith, accept_out (leaders n) r a)
  | inr b ↦ (let k = accepted_out leaders n r b in let lt : k.0 < n = k.1 in (k.0, omega arith, k.2))
]

accepted_in : (leaders : ℕ → List Record) (n k : ℕ) (r : Report) → k < n → Mem (Accept r) (leaders k) → Mem r (accepted_to leaders n)
accepted_in leaders zero k r lt m = absurd (omega arith)
accepted_in leaders (suc n) k r lt m = go (nat_eq k n) refl (λ below. accepted_in leaders n k r below m)
  where
    go : (b : Bool) → nat_eq k n ≡ b → (k < n → Mem r (accepted_to leaders n)) → Mem r (accepts_of (leaders n) ++ accepted_to leaders n)
    go true e rest = mem_left (accepts_of (leaders n)) (accepted_to leaders n) r (accept_in (leaders n) r (subst (λ z. Mem (Accept r) (leaders z)) (eqb-true k n e) m))
    go false e rest =
        let other : k ≡ n → ⊥ = λ p. let t : nat_eq k n ≡ true = eq-eqb k n p in let bad : false ≡ true = sym e ∙ t in absurd (cc) in
        mem_right (accepts_of (leaders n)) (accepted_to leaders n) r (rest (omega (arith, lt, other)))

module _ (js : Journals) (legal : AllLegal js) where
  lane_is : (k : ℕ) (r : Report) → k < js.lanes → Mem (Accept r) (js.leaders k) → lane_number r.id js.lanes ≡ k
  lane_is k r lt m = lane_of js k r.name r legal lt (m, refl)

  accepted_distinct : (n : ℕ) → ((k : ℕ) → k < n → k < js.lanes) → Distinct (accepted_to js.leaders n)
  accepted_distinct zero within = tt
  accepted_distinct (suc n) within =
      distinct_app (accepts_of (js.leaders n)) (accepted_to js.leaders n)
      (accepts_distinct (js.leaders n) (n, legal.leaders n (within n (omega arith))))
      (accepted_distinct n (λ k lt. within k (omega (arith, lt))))
      (λ r p q.
      let k = accepted_out js.leaders n r q in
      let below : k.0 < n = k.1 in
      let here : lane_number r.id js.lanes ≡ n = lane_is n r (within n (omega arith)) (accept_out (js.leaders n) r p) in
      let there : lane_number r.id js.lanes ≡ k.0 = lane_is k.0 r (within k.0 (omega (arith, below))) k.2 in
      let same : n ≡ k.0 = sym here ∙ there in
      absurd (omega (arith, below, same)))

  accepted_one : (r other : Report) → Mem r (accepted_to js.leaders js.lanes) → Mem other (accepted_to js.leaders js.lanes) → r.name ≡ other.name → r.id ≡ other.id → r ≡ other
  accepted_one r other p q names ids =
      let a = accepted_out js.leaders js.lanes r p in
      let b = accepted_out js.leaders js.lanes other q in
      let lanes : b.0 ≡ a.0 = sym (lane_is b.0 other b.1 b.2) ∙ ap (λ z. lane_number z js.lanes) (sym ids) ∙ lane_is a.0 r a.1 a.2 in
      accept_one (js.leaders a.0) other.name r other (a.0, legal.leaders a.0 a.1) (a.2, names) (subst (λ z. Mem (Accept other) (js.leaders z)) lanes b.2, refl) ids

  -- ---- tasks and batches

  task_in : (t : PlainTask) → (held js).task t.name ≡ Some t → Mem t (filter_map (λ x. whole_of (held js) (records.leader_task_of x)) js.front)
  task_in t e =
      let k = task_known js.front js.helper_front t.name t e in
      picked_in (λ x. whole_of (held js) (records.leader_task_of x)) js.front (LeaderTask k.0) t k.2 (ap (λ z. (held js).task z) k.3 ∙ e)

  task_out : (t : PlainTask) → Mem t (filter_map (λ x. whole_of (held js) (records.leader_task_of x)) js.front) → (held js).task t.name ≡ Some t
  task_out t m =
      let a = picked_out (λ x. whole_of (held js) (records.leader_task_of x)) js.front t m in
      go (records.leader_task_of a.0) a.2
    where
      go : (o : Option StoredTask) → whole_of (held js) o ≡ Some t → (held js).task t.name ≡ Some t
      go None e = absurd (cc)
      go (Some u) e = ap (λ z. (held js).task z) (task_named js.front js.helper_front u.name t e) ∙ e

  asks_in : (b : Batch) → Mem (Ask b.name b.span) js.front → Mem b (asks_of js.front)
  asks_in b m = picked_in asked_of js.front (Ask b.name b.span) b m refl

  pub stands_for : StandsFor js (plain_state js)
  stands_for = record {
    tasks = λ t. (task_out t, task_in t);
    accepted = λ r. (accepted_out js.leaders js.lanes r, (λ m. accepted_in js.leaders js.lanes m.0 r m.1 m.2));
    once = accepted_distinct js.lanes (λ k lt. lt);
    one = accepted_one;
    collected = λ b. (asks_out js.front b, asks_in b);
  }

-- ---- verdicts and contents

module _ (f : Kind → Functions) (t : PlainTask) where
  counted_has : (r : Report) → IsCounted f t r → is_some (seal.content_numbers_of (f t.kind) t r) ≡ true
  counted_has r g = ap (λ v. is_some (numbers_of (f t.kind) v)) g.2

  has_counted : (r : Report) → is_some (seal.content_numbers_of (f t.kind) t r) ≡ true → IsCounted f t r
  has_counted r e = go (seal.verdict_of (f t.kind) t r) refl e
    where
      go : (v : Verdict) → seal.verdict_of (f t.kind) t r ≡ v → is_some (numbers_of (f t.kind) v) ≡ true → IsCounted f t r
      go (ok a b) q k = (a, b, q)
      go (bad c) q k = absurd (cc)

  none_or_some : (r : Report) → (is_some (seal.content_numbers_of (f t.kind) t r) ≡ true) ⊎ (is_none (seal.content_numbers_of (f t.kind) t r) ≡ true)
  none_or_some r = go (seal.content_numbers_of (f t.kind) t r)
    where
      go : (o : Option (List ℕ)) → (is_some o ≡ true) ⊎ (is_none o ≡ true)
      go (Some v) = inl refl
      go None = inr refl

  not_both : (r : Report) → is_some (seal.content_numbers_of (f t.kind) t r) ≡ true → is_none (seal.content_numbers_of (f t.kind) t r) ≡ true → ⊥
  not_both r = go (seal.content_numbers_of (f t.kind) t r)
    where
      go : (o : Option (List ℕ)) → is_some o ≡ true → is_none o ≡ true → ⊥
      go (Some v) a b = absurd (cc)
      go None a b = absurd (cc)

  -- the shares of a counted report add to its content
  pair_sum : (r : Report) → IsCounted f t r → plus (f t.kind).space (pair_of f t r).leader (pair_of f t r).helper ≡ content f t r
  pair_sum r g = ap (λ v. plus (f t.kind).space (pair_in v).leader (pair_in v).helper) g.2 ∙ sym (ap (content_in (f t.kind).space) g.2)

  pair_sums : (rs : List Report) → ((r : Report) → Mem r rs → IsCounted f t r) →
      map (λ r. plus (f t.kind).space (pair_of f t r).leader (pair_of f t r).helper) rs ≡ map (content f t) rs
  pair_sums [] g = refl
  pair_sums (r ∷ rs) g =
      ap (λ z. z ∷ map (λ r. plus (f t.kind).space (pair_of f t r).leader (pair_of f t r).helper) rs) (pair_sum r (g r (inl refl)))
      ∙ ap (λ z. content f t r ∷ z) (pair_sums rs (λ q p. g q (inr p)))

  -- the counted reports of a list have its contents
  good_contents : (rs : List Report) → contents_of f t (good f t rs) ≡ contents_of f t rs
  good_contents [] = refl
  good_contents (r ∷ rs) = go (seal.verdict_of (f t.kind) t r) refl (good_contents rs)
    where
      go : (v : Verdict) → seal.verdict_of (f t.kind) t r ≡ v → contents_of f t (good f t rs) ≡ contents_of f t rs →
          contents_of f t (cons_option (if_ok r v) (good f t rs)) ≡ cons_option (numbers_of (f t.kind) v) (contents_of f t rs)
      go (ok a b) q k =
          ap (λ v. cons_option (numbers_of (f t.kind) v) (contents_of f t (good f t rs))) q
          ∙ ap (cons_option (numbers_of (f t.kind) (ok a b))) k
      go (bad c) q k = k

  -- as many as they are
  contents_many : (rs : List Report) → ((r : Report) → Mem r rs → IsCounted f t r) → length (contents_of f t rs) ≡ length rs
  contents_many [] g = refl
  contents_many (r ∷ rs) g =
      ap (λ v. length (cons_option (numbers_of (f t.kind) v) (contents_of f t rs))) (g r (inl refl)).2
      ∙ ap suc (contents_many rs (λ q p. g q (inr p)))

-- ---- what is gathered over cells

abbrev gather : (Cell → List Report) → List Cell → List Report
gather g [] = []
gather g (x ∷ cs) = g x ++ gather g cs

gather_out : (g : Cell → List Report) (cs : List Cell) (r : Report) → Mem r (gather g cs) → (x : Cell) × Mem x cs × Mem r (g x)
gather_out g [] r m = elim m [ ]
gather_out g (x ∷ cs) r m = elim (mem_cases (g x) (gather g cs) r m) [
  | inl a ↦ (x, inl refl, a)
  | inr b ↦ (let k = gather_out g cs r b in (k.0, inr k.1, k.2))
]

gather_in : (g : Cell → List Report) (cs : List Cell) (x : Cell) (r : Report) → Mem x cs → Mem r (g x) → Mem r (gather g cs)
gather_in g [] x r p m = elim p [ ]
gather_in g (y ∷ cs) x r (inl e) m = mem_left (g y) (gather g cs) r (subst (λ z. Mem r (g z)) e m)
gather_in g (y ∷ cs) x r (inr p) m = mem_right (g y) (gather g cs) r (gather_in g cs x r p m)

gather_distinct : (g : Cell → List Report) (cs : List Cell) → Distinct cs → ((x : Cell) → Mem x cs → Distinct (g x)) →
    ((x y : Cell) (r : Report) → Mem x cs → Mem y cs → Mem r (g x) → Mem r (g y) → x ≡ y) → Distinct (gather g cs)
gather_distinct g [] d each one = tt
gather_distinct g (x ∷ cs) d each one =
    distinct_app (g x) (gather g cs) (each x (inl refl)) (gather_distinct g cs d.1 (λ y p. each y (inr p)) (λ y z r p q. one y z r (inr p) (inr q)))
    (λ r p q.
    let k = gather_out g cs r q in
    let same : k.0 ≡ x = sym (one x k.0 r (inl refl) (inr k.1) p k.2) in
    d.0 (subst (λ z. Mem z cs) same k.1))

-- the sum of their lengths
gather_many : (g : Cell → List Report) (v : Cell → ℕ) (cs : List Cell) → ((x : Cell) → Mem x cs → v x ≡ length (g x)) →
    total_by (λ a b. a + b) 0 v cs ≡ length (gather g cs)
gather_many g v [] h = refl
gather_many g v (x ∷ cs) h =
    let here : v x ≡ length (g x) = h x (inl refl) in
    let rest : total_by (λ a b. a + b) 0 v cs ≡ length (gather g cs) = gather_many g v cs (λ y p. h y (inr p)) in
    let long : length (g x ++ gather g cs) ≡ length (g x) + length (gather g cs) = length-append (g x) (gather g cs) in
    omega (arith, here, rest, long)

-- the sum of both nodes' shares
gather_shares : (f : Kind → Functions) (t : PlainTask) (g : Cell → List Report) (c d : Cell → Closed) (cs : List Cell) → SpaceLaws (f t.kind).space →
    ((x : Cell) → Mem x cs → plus (f t.kind).space (c x).share (d x).share ≡ total (f t.kind).space (map (content f t) (g x))) →
    plus (f t.kind).space (share_sum f t cs c) (share_sum f t cs d) ≡ total (f t.kind).space (map (content f t) (gather g cs))
gather_shares f t g c d [] laws h = zero_zero laws
gather_shares f t g c d (x ∷ cs) laws h =
    interchange laws (c x).share (share_sum f t cs c) (d x).share (share_sum f t cs d)
    ∙ ap (λ z. plus (f t.kind).space z (plus (f t.kind).space (share_sum f t cs c) (share_sum f t cs d))) (h x (inl refl))
    ∙ ap (λ z. plus (f t.kind).space (total (f t.kind).space (map (content f t) (g x))) z) (gather_shares f t g c d cs laws (λ y p. h y (inr p)))
    ∙ sym (total_app laws (content f t) (g x) (gather g cs))

-- ---- cells of a batch

row_in : (k s : ℕ) (starts : List ℕ) → Mem s starts → Mem (the_cell k s) (row k starts)
row_in k s [] m = elim m [ ]
row_in k s (y ∷ starts) (inl e) = inl (ap (the_cell k) e)
row_in k s (y ∷ starts) (inr m) = inr (row_in k s starts m)

cells_in : (n k s : ℕ) (starts : List ℕ) → k < n → Mem s starts → Mem (the_cell k s) (cells_to n starts)
cells_in zero k s starts lt m = absurd (omega arith)
cells_in (suc n) k s starts lt m = go (nat_eq k n) refl (λ below. cells_in n k s starts below m)
  where
    go : (b : Bool) → nat_eq k n ≡ b → (k < n → Mem (the_cell k s) (cells_to n starts)) → Mem (the_cell k s) (row n starts ++ cells_to n starts)
    go true e rest = mem_left (row n starts) (cells_to n starts) (the_cell k s) (subst (λ z. Mem (the_cell k s) (row z starts)) (eqb-true k n e) (row_in k s starts m))
    go false e rest =
        let other : k ≡ n → ⊥ = λ p. let t : nat_eq k n ≡ true = eq-eqb k n p in let bad : false ≡ true = sym e ∙ t in absurd (cc) in
        mem_right (row n starts) (cells_to n starts) (the_cell k s) (rest (omega (arith, lt, other)))

-- ---- one cell

-- what both Closes of a cell tell of its lane's accepted reports
pub record CellTells (f : Kind → Functions) (t : PlainTask) (s : ℕ) (accepted : List Report) (c d : Closed) : Type 0 where
  pub count : c.count ≡ length (finished_in f t s accepted)
  pub rejected : c.rejected ≡ length (failed_in f t s accepted)
  pub share : plus (f t.kind).space c.share d.share ≡ total (f t.kind).space (map (content f t) (finished_in f t s accepted))

finished_counted : (f : Kind → Functions) (t : PlainTask) (s : ℕ) (accepted : List Report) (r : Report) → Mem r (finished_in f t s accepted) →
    Mem r accepted × (in_bucket t s r ≡ true) × IsCounted f t r
finished_counted f t s accepted r m =
    let g = filter_out (λ r. in_bucket t s r && is_some (seal.content_numbers_of (f t.kind) t r)) accepted r m in
    let k = and_parts (in_bucket t s r) (is_some (seal.content_numbers_of (f t.kind) t r)) g.1 in
    (g.0, k.0, has_counted f t r k.1)

failed_uncounted : (f : Kind → Functions) (t : PlainTask) (s : ℕ) (accepted : List Report) (r : Report) → Mem r (failed_in f t s accepted) →
    Mem r accepted × (in_bucket t s r ≡ true) × (is_none (seal.content_numbers_of (f t.kind) t r) ≡ true)
failed_uncounted f t s accepted r m =
    let g = filter_out (λ r. in_bucket t s r && is_none (seal.content_numbers_of (f t.kind) t r)) accepted r m in
    let k = and_parts (in_bucket t s r) (is_none (seal.content_numbers_of (f t.kind) t r)) g.1 in
    (g.0, k.0, k.1)

cell_tells : (f : Kind → Functions) (js : Journals) (t : PlainTask) (k s : ℕ) (c d : Closed) → AllLegal js → AllAgree f js → SpaceLaws (f t.kind).space →
    k < js.lanes → (held js).task t.name ≡ Some t → Mem (LeaderClose t.name s c) (js.leaders k) → Mem (HelperClose t.name s d) (js.helpers k) →
    CellTells f t s (accepts_of (js.leaders k)) c d
cell_tells f js t k s c d legal agree laws lt e p q =
    let l : List Record = js.leaders k in
    let two = two_at f js k legal agree lt in
    let w = close_known f (held js) (js.leaders k) (js.helpers k) (js.leaders k) t.name s c two.l_fits two.l_legal p in
    let tasks : w.1.0 ≡ t = same_task (held js) t.name w.1.0 t w.1.1 e in
    let all : AreTold t.precision t.name s (js.leaders k) = λ r m a b.
    let had : Has t.name r w.0 = w.4 r t e (m, a) b in
    let told = w.1.3 r had.0 had.1 (ap (λ (z : PlainTask). batch_start r.time z.precision) tasks ∙ b) in
    (told.0, told.1, told.2, w.2 _ told.3, told.4, w.2 _ told.5) in
    let numbers = are_numbers f (held js) (js.leaders k) (js.helpers k) t s (accepts_of (js.leaders k)) laws two e all (are_accepts (js.leaders k) (k, legal.leaders k lt)) in
    let mine = close_whole f (held js) (js.leaders k) (js.helpers k) (js.helpers k) t t.name s c two e p in
    let theirs = helper_close_whole f (held js) (js.leaders k) (js.helpers k) (js.helpers k) t t.name s d two e q in
    record {
      count = ap (λ (z : Closed). z.count) mine ∙ numbers.count;
      rejected = ap (λ (z : Closed). z.rejected) mine ∙ numbers.rejected;
      share = ap (λ (z : Closed). plus (f t.kind).space z.share d.share) mine ∙ ap (λ z. plus (f t.kind).space z d.share) numbers.leader
          ∙ ap (λ z. plus (f t.kind).space (total (f t.kind).space (map (λ r. (pair_of f t r).leader) (finished_in f t s (accepts_of (js.leaders k))))) z)
          (ap (λ (z : Closed). z.share) theirs ∙ numbers.helper)
          ∙ total_pair laws (λ r. (pair_of f t r).leader) (λ r. (pair_of f t r).helper) (finished_in f t s (accepts_of (js.leaders k)))
          ∙ ap (total (f t.kind).space) (pair_sums f t (finished_in f t s (accepts_of (js.leaders k))) (λ r m. (finished_counted f t s (accepts_of (js.leaders k)) r m).2));
    }

-- ---- a batch

module _ (f : Kind → Functions) (js : Journals) (t : PlainTask) (span : Span) (legal : AllLegal js) (some : 0 < t.precision) where
  abbrev cells : List Cell
  cells = cells_of js t (the_batch t.name span)

  abbrev accepted : List Report
  accepted = accepted_to js.leaders js.lanes

  abbrev reports : List Report
  reports = batch_of t span accepted

  abbrev done : Cell → List Report
  done x = finished_in f t x.start (accepts_of (js.leaders x.lane))

  abbrev failed : Cell → List Report
  failed x = failed_in f t x.start (accepts_of (js.leaders x.lane))

  -- an accepted report of a cell is one of the batch
  of_cell : (x : Cell) (r : Report) → Mem x cells → Mem r (accepts_of (js.leaders x.lane)) → in_bucket t x.start r ≡ true → Mem r reports
  of_cell x r p m b =
      let place = cells_out js.lanes (buckets_of span t.precision) x p in
      let k = and_parts (bytes_eq r.name t.name) (nat_eq (batch_start r.time t.precision) x.start) b in
      let holds : holds_bucket span t.precision (batch_start r.time t.precision) ≡ true =
      any_told (nat_eq (batch_start r.time t.precision)) (buckets_of span t.precision) x.start place.1 k.1 in
      filter_in (in_batch t span) accepted r (accepted_in js.leaders js.lanes x.lane r place.0 (accept_out (js.leaders x.lane) r m))
      (and_from (bytes_eq r.name t.name) (holds_bucket span t.precision (batch_start r.time t.precision)) k.0 holds)

  -- and a report of the batch is one of a cell
  to_cell : (r : Report) → Mem r reports → (x : Cell) × Mem x cells × Mem r (accepts_of (js.leaders x.lane)) × (in_bucket t x.start r ≡ true)
  to_cell r m =
      let g = filter_out (in_batch t span) accepted r m in
      let k = and_parts (bytes_eq r.name t.name) (holds_bucket span t.precision (batch_start r.time t.precision)) g.1 in
      let lane = accepted_out js.leaders js.lanes r g.0 in
      let start = any_tells (nat_eq (batch_start r.time t.precision)) (buckets_of span t.precision) k.1 in (
        the_cell lane.0 start.0,
        cells_in js.lanes lane.0 start.0 (buckets_of span t.precision) lane.1 start.1,
        accept_in (js.leaders lane.0) r lane.2,
        and_from (bytes_eq r.name t.name) (nat_eq (batch_start r.time t.precision) start.0) k.0 start.2,
      )

  -- one cell
  cell_one : (x y : Cell) (r : Report) → Mem x cells → Mem y cells → Mem r (accepts_of (js.leaders x.lane)) → Mem r (accepts_of (js.leaders y.lane)) →
      in_bucket t x.start r ≡ true → in_bucket t y.start r ≡ true → x ≡ y
  cell_one x y r p q m n a b =
      let px = cells_out js.lanes (buckets_of span t.precision) x p in
      let py = cells_out js.lanes (buckets_of span t.precision) y q in
      let lane : x.lane ≡ y.lane = sym (lane_is js legal x.lane r px.0 (accept_out (js.leaders x.lane) r m)) ∙ lane_is js legal y.lane r py.0 (accept_out (js.leaders y.lane) r n) in
      let ax = and_parts (bytes_eq r.name t.name) (nat_eq (batch_start r.time t.precision) x.start) a in
      let by = and_parts (bytes_eq r.name t.name) (nat_eq (batch_start r.time t.precision) y.start) b in
      let start : x.start ≡ y.start = sym (eqb-true (batch_start r.time t.precision) x.start ax.1) ∙ eqb-true (batch_start r.time t.precision) y.start by.1 in
      ap (λ z. the_cell z x.start) lane ∙ ap (λ z. the_cell y.lane z) start

  cells_once : Distinct cells
  cells_once = cells_distinct js.lanes (buckets_of span t.precision) (buckets_distinct span t.precision some)

  reports_once : Distinct reports
  reports_once = filter_distinct (in_batch t span) accepted (accepted_distinct js legal js.lanes (λ k lt. lt))

  lane_once : (x : Cell) → Mem x cells → Distinct (accepts_of (js.leaders x.lane))
  lane_once x p =
      let lt = (cells_out js.lanes (buckets_of span t.precision) x p).0 in
      accepts_distinct (js.leaders x.lane) (x.lane, legal.leaders x.lane lt)

  done_once : Distinct (gather done cells)
  done_once =
      gather_distinct done cells cells_once
      (λ x p. filter_distinct (λ r. in_bucket t x.start r && is_some (seal.content_numbers_of (f t.kind) t r)) (accepts_of (js.leaders x.lane)) (lane_once x p))
      (λ x y r p q m n.
      let a = finished_counted f t x.start (accepts_of (js.leaders x.lane)) r m in
      let b = finished_counted f t y.start (accepts_of (js.leaders y.lane)) r n in
      cell_one x y r p q a.0 b.0 a.1 b.1)

  failed_once : Distinct (gather failed cells)
  failed_once =
      gather_distinct failed cells cells_once
      (λ x p. filter_distinct (λ r. in_bucket t x.start r && is_none (seal.content_numbers_of (f t.kind) t r)) (accepts_of (js.leaders x.lane)) (lane_once x p))
      (λ x y r p q m n.
      let a = failed_uncounted f t x.start (accepts_of (js.leaders x.lane)) r m in
      let b = failed_uncounted f t y.start (accepts_of (js.leaders y.lane)) r n in
      cell_one x y r p q a.0 b.0 a.1 b.1)

  done_out : (r : Report) → Mem r (gather done cells) → Mem r reports × IsCounted f t r
  done_out r m =
      let k = gather_out done cells r m in
      let a = finished_counted f t k.0.start (accepts_of (js.leaders k.0.lane)) r k.2 in
      (of_cell k.0 r k.1 a.0 a.1, a.2)

  done_in : (r : Report) → Mem r reports → IsCounted f t r → Mem r (gather done cells)
  done_in r m g =
      let x = to_cell r m in
      gather_in done cells x.0 r x.1
      (filter_in (λ r. in_bucket t x.0.start r && is_some (seal.content_numbers_of (f t.kind) t r)) (accepts_of (js.leaders x.0.lane)) r x.2
      (and_from (in_bucket t x.0.start r) (is_some (seal.content_numbers_of (f t.kind) t r)) x.3 (counted_has f t r g)))

  failed_out : (r : Report) → Mem r (gather failed cells) → Mem r reports × (is_none (seal.content_numbers_of (f t.kind) t r) ≡ true)
  failed_out r m =
      let k = gather_out failed cells r m in
      let a = failed_uncounted f t k.0.start (accepts_of (js.leaders k.0.lane)) r k.2 in
      (of_cell k.0 r k.1 a.0 a.1, a.2)

  failed_in_cells : (r : Report) → Mem r reports → is_none (seal.content_numbers_of (f t.kind) t r) ≡ true → Mem r (gather failed cells)
  failed_in_cells r m g =
      let x = to_cell r m in
      gather_in failed cells x.0 r x.1
      (filter_in (λ r. in_bucket t x.0.start r && is_none (seal.content_numbers_of (f t.kind) t r)) (accepts_of (js.leaders x.0.lane)) r x.2
      (and_from (in_bucket t x.0.start r) (is_none (seal.content_numbers_of (f t.kind) t r)) x.3 g))

  -- each report of the batch is finished or failed in one cell
  both_many : length (gather done cells) + length (gather failed cells) ≡ length reports
  both_many =
      let long : length (gather done cells ++ gather failed cells) ≡ length (gather done cells) + length (gather failed cells) =
      length-append (gather done cells) (gather failed cells) in
      let once = distinct_app (gather done cells) (gather failed cells) done_once failed_once
      (λ r p q. not_both f t r (counted_has f t r (done_out r p).1) (failed_out r q).1) in
      let same : length (gather done cells ++ gather failed cells) ≡ length reports =
      length_same (gather done cells ++ gather failed cells) reports once reports_once
      (λ r m. elim (mem_cases (gather done cells) (gather failed cells) r m) [ inl a ↦ (done_out r a).0 | inr b ↦ (failed_out r b).0 ])
      (λ r m. elim (none_or_some f t r) [
        | inl a ↦ mem_left (gather done cells) (gather failed cells) r (done_in r m (has_counted f t r a))
        | inr b ↦ mem_right (gather done cells) (gather failed cells) r (failed_in_cells r m b)
      ]) in
      sym long ∙ same

  -- the counted ones of the batch
  counted_once : Distinct (good f t reports)
  counted_once = good_distinct reports reports_once
    where
      good_distinct : (rs : List Report) → Distinct rs → Distinct (good f t rs)
      good_distinct [] d = tt
      good_distinct (r ∷ rs) d = go (seal.verdict_of (f t.kind) t r) (good_distinct rs d.1)
        where
          go : (v : Verdict) → Distinct (good f t rs) → Distinct (cons_option (if_ok r v) (good f t rs))
          go (ok a b) k = ((λ m. d.0 (good_out f t rs r m).0), k)
          go (bad c) k = k

  done_good : Sub (gather done cells) (good f t reports)
  done_good r m = let a = done_out r m in good_in f t reports r a.0 a.1

  good_done : Sub (good f t reports) (gather done cells)
  good_done r m = let a = good_out f t reports r m in done_in r a.0 a.1

  pub tells_of : (a : Answered) (c d : Cell → Closed) → FunctionLaws (f t.kind) →
      ((x : Cell) → Mem x cells → CellTells f t x.start (accepts_of (js.leaders x.lane)) (c x) (d x)) →
      a.count ≡ count_sum cells c → a.rejected ≡ rejected_sum cells c → a.leader ≡ share_sum f t cells c → a.helper ≡ share_sum f t cells d →
      TellsOf f t a reports
  tells_of a c d laws each count rejected leader helper =
      let many : a.count ≡ length (gather done cells) = count ∙ gather_many done (λ x. (c x).count) cells (λ x p. (each x p).count) in
      let lost : a.rejected ≡ length (gather failed cells) = rejected ∙ gather_many failed (λ x. (c x).rejected) cells (λ x p. (each x p).rejected) in
      let goods : length (gather done cells) ≡ length (good f t reports) = length_same (gather done cells) (good f t reports) done_once counted_once done_good good_done in
      let contents : length (contents_of f t reports) ≡ length (good f t reports) =
      ap (λ (z : List (List ℕ)). length z) (sym (good_contents f t reports)) ∙ contents_many f t (good f t reports) (λ r m. (good_out f t reports r m).1) in
      let both : length (gather done cells) + length (gather failed cells) ≡ length reports = both_many in
      let exact : plus (f t.kind).space a.leader a.helper ≡ total (f t.kind).space (map (content f t) (good f t reports)) =
      ap (λ z. plus (f t.kind).space z a.helper) leader ∙ ap (λ z. plus (f t.kind).space (share_sum f t cells c) z) helper
      ∙ gather_shares f t done c d cells laws.space (λ x p. (each x p).share)
      ∙ total_same (content f t) (gather done cells) (good f t reports) laws.space done_once counted_once done_good good_done in
      record {
        count = many ∙ goods ∙ sym contents;
        each_once = omega (arith, many, lost, both);
        sum = ap (numbers (f t.kind).space) exact
            ∙ ap numbers_in (contents_sum f t laws (good f t reports) (λ r m. (good_out f t reports r m).1))
            ∙ ap (total_numbers (f t.kind).space) (good_contents f t reports);
      }

-- ---- Answers

pub answer_tells : (f : Kind → Functions) (js : Journals) (n : List ℕ) (span : Span) (a : Answered) → ((k : Kind) → IsKind k → FunctionLaws (f k)) →
    AllLegal js → AllAgree f js → Mem (LeaderAnswer n span a) js.front →
    (t : PlainTask) × ((held js).task n ≡ Some t) × TellsOf f t a (batch_of t span (plain_state js).accepted)
answer_tells f js n span a functions legal agree p =
    let m : LeaderAnswerFits f js (the_batch n span) a = agree.front (LeaderAnswer n span a) p in
    let g = m.2.6 in
    let same : the_batch g.0.name g.0.span ≡ the_batch n span = ap (λ z. the_batch z g.0.span) g.3 ∙ ap (λ z. the_batch n z) g.4 in
    let h : HelperAnswerFits f js (the_batch n span) g.0 g.1 =
    subst (λ z. HelperAnswerFits f js z g.0 g.1) same (agree.helper_front (HelperAnswer g.0 g.1) g.2) in
    let tasks : h.0 ≡ m.0 = same_task (held js) n h.0 m.0 h.1 m.1 in
    let named : m.0.name ≡ n = task_named js.front js.helper_front n m.0 m.1 in
    let ranges = task_ranges js.front js.helper_front n m.0 legal.front m.1 in
    let laws = functions m.0.kind ranges.kind_ranges in
    let known : (held js).task m.0.name ≡ Some m.0 = ap (λ z. (held js).task z) named ∙ m.1 in
    let closed : HelperClosed js n (cells_of js m.0 (the_batch n span)) h.3.0 = subst (λ (z : PlainTask). HelperClosed js n (cells_of js z (the_batch n span)) h.3.0) tasks h.3.1 in
    let share : a.helper ≡ share_sum f m.0 (cells_of js m.0 (the_batch n span)) h.3.0 =
    sym (share_is _ _ (sym h.3.4 ∙ g.7)) ∙ ap (λ (z : PlainTask). share_sum f z (cells_of js z (the_batch n span)) h.3.0) tasks in (
      m.0,
      m.1,
      tells_of f js m.0 span legal ranges.some_time a m.2.0 h.3.0 laws
          (λ x q.
          let lt = (cells_out js.lanes (buckets_of span m.0.precision) x q).0 in
          cell_tells f js m.0 x.lane x.start (m.2.0 x) (h.3.0 x) legal agree laws.space lt known
          (subst (λ z. Mem (LeaderClose z x.start (m.2.0 x)) (js.leaders x.lane)) (sym named) (m.2.1 x q))
          (subst (λ z. Mem (HelperClose z x.start (h.3.0 x)) (js.helpers x.lane)) (sym named) (closed x q)))
          m.2.2 m.2.3 m.2.4 share,
    )
