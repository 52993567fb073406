-- Counterparts of the fronts' records stay where the lists grow.
use Rattle.std.proofs.Common.{◌≡◌, ℕ, ◌+◌, ◌<◌, ◌≤◌, List, [], ◌∷◌, ◌++◌, length, Option, Some, None, refl, ap, sym, ◌∙◌, arith, inl, inr, subst}
use Rattle.std.specs.Str.{bytes_eq}
use Rattle.vdaf_api.specs.Functions.{Functions}
use Rattle.vdaf_api.specs.Vectors.{IsOut}
use Rattle.vdaf_api.specs.declared.kind.Kind.{Kind}
use Rattle.dap_bytes.specs.declared.node.Node.TheVariants.{Leader}
use Rattle.dap_bytes.specs.declared.part.Part.TheVariants.{Front}
use Rattle.dap_messages.specs.declared.item.Tagged.{Tagged}
use Rattle.dap_messages.specs.declared.reply.Reply.TheVariants.{Share}
use Rattle.dap_tasks.specs.Task.{PlainTask}
use Rattle.lane_records.specs.declared.outcome.Outcome.{Outcome}
use Rattle.lane_records.specs.declared.record.Record.{Record}
use Rattle.lane_records.specs.declared.record.Record.TheVariants.{LeaderTask, Ask, LeaderAnswer, HelperAnswer, LeaderClose, HelperClose}
use Rattle.lane_records.specs.declared.stored.StoredTask.{StoredTask}
use Rattle.legal_journals.specs.History.{Mem}
use Rattle.legal_journals.specs.Legal.{May, IsLegal}
use Rattle.legal_journals.specs.LegalFronts.{last_task}
use Rattle.lane_records.specs.Records.{leader_task_of}
use Rattle.dap_agree.specs.Agree.{Batch}
use Rattle.dap_agree.specs.Growth.{Grow, Extends, SameTasks, Later}
use Rattle.dap_agree.specs.Fronts.{Journals, stored_as, stored_task, joined, asked_of, asks_of, fronts_of, held, Cell, cells_to, cells_of, count_sum, checksum_sum, share_sum, finished_count, FrontFits, HelperFrontFits}
use Rattle.dap_agree.specs.Lists.{Sub, total_by}
use Rattle.std.specs.List.{cons_option}
use Rattle.legal_journals.specs.Told.{if_finished, finished_ids, leader_told}
use Rattle.dap_agree.proofs.Closed.{leader_told_app}
use Rattle.dap_agree.proofs.Lists.{mem_right, first_is, picked_in}
use Rattle.dap_agree.proofs.Stored.{the_batch, stored_at, task_known, leader_task_one, asks_out, cells_out}
use Rattle.dap_bytes.specs.declared.span.Span.{Span}
use Rattle.dap_bytes.specs.Spans.{buckets_of}
use Rattle.dap_agree.proofs.Told.{bytes_same, if_true}

-- ---- tasks and asks

pub stored_found : (front : List Record) (n : List ℕ) (a : StoredTask) → IsLegal Leader Front front → Mem (LeaderTask a) front → a.name ≡ n → stored_task n front ≡ Some a
stored_found front n a h p e =
    first_is (λ x. stored_as n (leader_task_of x)) front a (LeaderTask a) p (if_true (bytes_eq a.name n) (Some a) None (bytes_same a.name n e))
    (λ y c q d. let s = stored_at n y c d in leader_task_one front c a h (subst (λ z. Mem z front) s.0 q) p (s.1 ∙ sym e))

pub asks_in : (front : List Record) (n : List ℕ) (s : Span) → Mem (Ask n s) front → Mem (the_batch n s) (asks_of front)
asks_in front n s p = picked_in asked_of front (Ask n s) (the_batch n s) p refl

-- Where the leader's front grows, and the helper's last Task of each stored name stays, the fronts hold what they held.
pub fronts_grow : (front front' g g' : List Record) → IsLegal Leader Front front' → Sub front front' →
    SameTasks front g g' → Grow (fronts_of front g) (fronts_of front' g')
fronts_grow front front' g g' legal sub settled = (
  (λ n t e.
      let k = task_known front g n t e in
      let a : stored_task n front' ≡ Some k.0 = stored_found front' n k.0 legal (sub (LeaderTask k.0) k.2) k.3 in
      let b : last_task n g' ≡ Some k.1 = subst (λ z. last_task z g' ≡ last_task z g) k.3 (settled k.0 k.2) ∙ k.4 in
      ap (λ z. joined z (last_task n g')) a ∙ ap (λ z. joined (Some k.0) z) b ∙ ap Some k.5),
  (λ b p. asks_in front' b.name b.span (sub (Ask b.name b.span) (asks_out front b p))),
)

-- ---- counts

pub extends_sub : (xs ys : List Record) → Extends xs ys → Sub xs ys
extends_sub xs ys e x q = subst (λ z. Mem x z) (sym e.1) (mem_right e.0 xs x q)

count_app : (xs ys : List (Tagged Outcome)) → length (finished_ids ys) ≤ length (finished_ids (xs ++ ys))
count_app [] ys = omega arith
count_app (x ∷ xs) ys = go (if_finished x.id x.body) (count_app xs ys)
  where
    go : (o : Option (List ℕ)) → length (finished_ids ys) ≤ length (finished_ids (xs ++ ys)) → length (finished_ids ys) ≤ length (cons_option o (finished_ids (xs ++ ys)))
    go None h = h
    go (Some id) h = omega arith

pub count_grows : (t : PlainTask) (n : List ℕ) (s : ℕ) (l l' : List Record) → Extends l l' → finished_count t n s l ≤ finished_count t n s l'
count_grows t n s l l' e =
    let app = leader_told_app t n s e.0 l in
    let same : leader_told t.precision n s l' ≡ app.0 ++ leader_told t.precision n s l = ap (leader_told t.precision n s) e.1 ∙ app.1 in
    subst (λ z. length (finished_ids (leader_told t.precision n s l)) ≤ length (finished_ids z)) (sym same) (count_app app.0 (leader_told t.precision n s l))

pub sum_grows : {A : Type 0} (F G : A → ℕ) (cs : List A) → ((x : A) → Mem x cs → F x ≤ G x) → total_by (λ a b. a + b) 0 F cs ≤ total_by (λ a b. a + b) 0 G cs
sum_grows F G [] h = omega arith
sum_grows F G (x ∷ cs) h = let a = h x (inl refl) in let b = sum_grows F G cs (λ y p. h y (inr p)) in omega arith

-- ---- the fronts' rows

module _ (f : Kind → Functions) (js later : Journals) (w : Later js later) where
  lane_of : (t : PlainTask) (b : Batch) (x : Cell) → Mem x (cells_of js t b) → x.lane < js.lanes
  lane_of t b x m = (cells_out js.lanes (buckets_of b.span t.precision) x m).0

  cells : (t : PlainTask) (b : Batch) → cells_of js t b ≡ cells_of later t b
  cells t b = ap (λ n. cells_to n (buckets_of b.span t.precision)) (sym w.lanes)

  -- the row of a leader's front's record that stands there
  pub front_fits_grows : (x : Record) → Mem x js.front → FrontFits f js x → FrontFits f later x
  front_fits_grows (LeaderTask t) m k = (k.0, w.settled t m ∙ k.1, k.2)
  front_fits_grows (Ask n s) m k =
      let more = sum_grows (λ (x : Cell). finished_count k.0 n x.start (js.leaders x.lane)) (λ (x : Cell). finished_count k.0 n x.start (later.leaders x.lane))
      (cells_of js k.0 (the_batch n s)) (λ x q. count_grows k.0 n x.start (js.leaders x.lane) (later.leaders x.lane) (w.leaders x.lane (lane_of k.0 (the_batch n s) x q))) in
      let least = k.2 in (
        k.0,
        w.fronts.0 n k.0 k.1,
        subst (λ cs. k.0.min ≤ total_by (λ a b. a + b) 0 (λ (x : Cell). finished_count k.0 n x.start (later.leaders x.lane)) cs) (cells k.0 (the_batch n s)) (omega arith),
      )
  front_fits_grows (LeaderAnswer n s a) m k =
      let e : cells_of js k.0 (the_batch n s) ≡ cells_of later k.0 (the_batch n s) = cells k.0 (the_batch n s) in
      let g = k.2.6 in (
        k.0,
        w.fronts.0 n k.0 k.1,
        (
          k.2.0,
          subst (λ cs. (x : Cell) → Mem x cs → Mem (LeaderClose n x.start (k.2.0 x)) (later.leaders x.lane)) e
              (λ x q. extends_sub (js.leaders x.lane) (later.leaders x.lane) (w.leaders x.lane (lane_of k.0 (the_batch n s) x q)) (LeaderClose n x.start (k.2.0 x)) (k.2.1 x q)),
          subst (λ cs. a.count ≡ total_by (λ a b. a + b) 0 (λ x. (k.2.0 x).count) cs) e k.2.2,
          subst (λ cs. a.rejected ≡ total_by (λ a b. a + b) 0 (λ x. (k.2.0 x).rejected) cs) e k.2.3,
          k.2.4 ∙ ap (λ cs. share_sum f k.0 cs k.2.0) e,
          k.2.5,
          (g.0, g.1, w.helper_front (HelperAnswer g.0 g.1) g.2, g.3, g.4, g.5, g.6 ∙ ap (λ cs. checksum_sum cs k.2.0) e, g.7),
        ),
      )
  front_fits_grows _ m k = tt

  -- the helper's
  pub helper_front_fits_grows : (x : Record) → HelperFrontFits f js x → HelperFrontFits f later x
  helper_front_fits_grows (HelperAnswer q a) k =
      let e : cells_of js k.0 (the_batch q.name q.span) ≡ cells_of later k.0 (the_batch q.name q.span) = cells k.0 (the_batch q.name q.span) in (
        k.0,
        w.fronts.0 q.name k.0 k.1,
        (
          k.2.0,
          subst (λ cs. (x : Cell) → Mem x cs → Mem (LeaderClose q.name x.start (k.2.0 x)) (later.leaders x.lane)) e
              (λ x m. extends_sub (js.leaders x.lane) (later.leaders x.lane) (w.leaders x.lane (lane_of k.0 (the_batch q.name q.span) x m)) (LeaderClose q.name x.start (k.2.0 x)) (k.2.1 x m)),
          k.2.2 ∙ ap (λ cs. count_sum cs k.2.0) e,
          k.2.3 ∙ ap (λ cs. checksum_sum cs k.2.0) e,
        ),
        (
          k.3.0,
          subst (λ cs. (x : Cell) → Mem x cs → Mem (HelperClose q.name x.start (k.3.0 x)) (later.helpers x.lane)) e
              (λ x m. extends_sub (js.helpers x.lane) (later.helpers x.lane) (w.helpers x.lane (lane_of k.0 (the_batch q.name q.span) x m)) (HelperClose q.name x.start (k.3.0 x)) (k.3.1 x m)),
          k.3.2 ∙ ap (λ cs. count_sum cs k.3.0) e,
          k.3.3 ∙ ap (λ cs. checksum_sum cs k.3.0) e,
          k.3.4 ∙ ap (λ cs. Share (share_sum f k.0 cs k.3.0)) e,
          subst (λ cs. IsOut (f k.0.kind).space (share_sum f k.0 cs k.3.0)) e k.3.5,
        ),
      )
  helper_front_fits_grows _ k = tt
