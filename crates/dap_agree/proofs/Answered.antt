-- What an Answer shows, and all of it.
use Rattle.std.proofs.Common.{◌≡◌, ℕ, ◌+◌, ◌*◌, ◌<◌, ◌≤◌, List, [], ◌∷◌, ◌++◌, length, map, Some, refl, ap, sym, ◌∙◌, arith, inl, inr, subst, length-append, IsTrue}
use Rattle.vdaf_api.specs.Functions.{Functions}
use Rattle.vdaf_api.specs.Kind.{IsKind}
use Rattle.vdaf_api.specs.Promises.{FunctionLaws}
use Rattle.vdaf_api.specs.Totals.{total}
use Rattle.vdaf_api.specs.Vectors.{plus, numbers, numbers_in, IsOut, SpaceLaws}
use Rattle.vdaf_api.specs.declared.kind.Kind.{Kind}
use Rattle.dap_batch.specs.Group.{batch_start, lane_number}
use Rattle.dap_bytes.specs.declared.node.Node.TheVariants.{Leader}
use Rattle.dap_bytes.specs.declared.part.Part.TheVariants.{Front}
use Rattle.dap_messages.specs.declared.reply.Reply.TheVariants.{Share}
use Rattle.dap_messages.specs.declared.report.Report.{Report}
use Rattle.dap_tasks.specs.Task.{PlainTask}
use Rattle.lane_records.specs.declared.batch.Answered.{Answered}
use Rattle.dap_messages.specs.declared.share.ShareReq.{ShareReq}
use Rattle.dap_messages.specs.declared.share.ShareResp.{ShareResp}
use Rattle.lane_records.specs.declared.closed.Closed.{Closed}
use Rattle.lane_records.specs.declared.record.Record.{Record}
use Rattle.lane_records.specs.declared.record.Record.TheVariants.{LeaderClose, HelperClose, Ask, LeaderAnswer, HelperAnswer}
use Rattle.legal_journals.specs.History.{Mem}
use Rattle.legal_journals.specs.Legal.{May, IsLegal}
use Rattle.legal_journals.specs.LegalLanes.{Finishes}
use Rattle.dap_agree.specs.Agree.{Batch}
use Rattle.dap_agree.specs.Fronts.{Journals, held, Cell, cells_of, LeaderClosed, HelperClosed, count_sum, rejected_sum, HasAnswered, checksum_sum, share_sum, finished_count, finished_in_all, AskFits, LeaderAnswerFits, HelperAnswerFits, AllAgree, AllLegal}
use Rattle.dap_agree.specs.Lists.{Distinct}
use Rattle.dap_messages.specs.Reports.{report_ids}
use Rattle.legal_journals.specs.JobReports.{Has}
use Rattle.dap_agree.specs.Verdicts.{IsCounted, content}
use Rattle.dap_agree.specs.Shown.{CellsShown, AnswerShown, Shown}
use Rattle.legal_journals.specs.Told.{leader_told, helper_told}
use Rattle.dap_agree.proofs.Journals.{LeaderLegal, accept_one}
use Rattle.dap_agree.proofs.Lists.{mem_right, mem_left, mem_cases, id_of}
use Rattle.dap_agree.proofs.Numbers.{contents_sum, zero_zero, interchange, total_app, ids_app}
use Rattle.dap_agree.proofs.Closed.{distinct_app}
use Rattle.dap_bytes.specs.declared.span.Span.{Span}
use Rattle.dap_bytes.specs.Spans.{buckets_of, holds_bucket}
use Rattle.dap_agree.proofs.Stored.{the_batch, task_known, task_ranges, asks_out, one_asked, sum_same, cells_out, buckets_distinct, cells_distinct}
use Rattle.dap_agree.proofs.Two.{leader_fit, helper_fit, same_task}
use Rattle.dap_agree.proofs.Shown.{two_at, finished_held, committed_held, lane_of, held_once, close_whole, helper_close_whole, LaneShown, lane_shown}

-- ---- several cells

abbrev pub the_cell : ℕ → ℕ → Cell
the_cell k s = record { lane = k; start = s }

-- the shown reports of some cells, with their number and the sum of their contents
abbrev pub PartShown : (Kind → Functions) → PlainTask → Journals → List ℕ → (Cell → Closed) → (Cell → Closed) → List Cell → List Report → Type 0
PartShown f t js n c d cs rs =
    CellsShown t js n cs rs × ((r : Report) → Mem r rs → IsCounted f t r) × (length rs ≡ count_sum cs c)
    × (plus (f t.kind).space (share_sum f t cs c) (share_sum f t cs d) ≡ total (f t.kind).space (map (content f t) rs))

pub more_cells : (f : Kind → Functions) (t : PlainTask) (js : Journals) (n : List ℕ) (c d : Cell → Closed) (y : Cell) (cs : List Cell) (rs here : List Report) →
    SpaceLaws (f t.kind).space →
    ((x : Cell) → Mem x (y ∷ cs) → (r : Report) → Has n r (js.leaders x.lane) → lane_number r.id js.lanes ≡ x.lane) →
    ((k : ℕ) (r r' : Report) → Has n r (js.leaders k) → Has n r' (js.leaders k) → r.id ≡ r'.id → k ≡ y.lane → r ≡ r') →
    (Mem y cs → ⊥) → PartShown f t js n c d cs rs →
    LaneShown f t n y.start (js.leaders y.lane) (js.helpers y.lane) (c y) (d y) here →
    PartShown f t js n c d (y ∷ cs) (here ++ rs)
more_cells f t js n c d y cs rs here laws lanes one new p q = (
  record {
    accepted = λ r z. elim (mem_cases here rs r z) [
      | inl a ↦ (let x = q.accepted r a in (y, inl refl, x.0, x.1, x.2, x.3))
      | inr b ↦ (let x = p.0.accepted r b in (x.0, inr x.1, x.2, x.3, x.4, x.5))
    ];
    leader = λ x id z w. subst (λ u. Mem id u) (sym (ids_app here rs)) (in_leader x id z w);
    helper = λ x id z w. subst (λ u. Mem id u) (sym (ids_app here rs)) (in_helper x id z w);
    once = subst (λ (u : List (List ℕ)). Distinct u) (sym (ids_app here rs)) (distinct_app (report_ids here) (report_ids rs) q.once p.0.once apart);
  },
  (λ r z. elim (mem_cases here rs r z) [ inl a ↦ q.counted r a | inr b ↦ p.1 r b ]),
  (let a : length here ≡ (c y).count = q.many in
      let b : length rs ≡ count_sum cs c = p.2 in
      let e : length (here ++ rs) ≡ length here + length rs = length-append here rs in
      omega arith),
  interchange laws (c y).share (share_sum f t cs c) (d y).share (share_sum f t cs d)
      ∙ ap (λ z. plus (f t.kind).space z (plus (f t.kind).space (share_sum f t cs c) (share_sum f t cs d))) q.exact
      ∙ ap (λ z. plus (f t.kind).space (total (f t.kind).space (map (content f t) here)) z) p.3
      ∙ sym (total_app laws (content f t) here rs),
)
  where
    in_leader : (x : Cell) (id : List ℕ) → Mem x (y ∷ cs) → Finishes id (leader_told t.precision n x.start (js.leaders x.lane)) → Mem id (report_ids here ++ report_ids rs)
    in_leader x id (inl e) w = mem_left (report_ids here) (report_ids rs) id (q.leader id (subst (λ (z : Cell). Finishes id (leader_told t.precision n z.start (js.leaders z.lane))) e w))
    in_leader x id (inr z) w = mem_right (report_ids here) (report_ids rs) id (p.0.leader x id z w)

    in_helper : (x : Cell) (id : List ℕ) → Mem x (y ∷ cs) → Finishes id (helper_told t.precision n x.start (js.helpers x.lane)) → Mem id (report_ids here ++ report_ids rs)
    in_helper x id (inl e) w = mem_left (report_ids here) (report_ids rs) id (q.helper id (subst (λ (z : Cell). Finishes id (helper_told t.precision n z.start (js.helpers z.lane))) e w))
    in_helper x id (inr z) w = mem_right (report_ids here) (report_ids rs) id (p.0.helper x id z w)

    apart : (id : List ℕ) → Mem id (report_ids here) → Mem id (report_ids rs) → ⊥
    apart id x z =
        let a = id_of here id x in
        let b = id_of rs id z in
        let k = q.accepted a.0 a.1 in
        let g = p.0.accepted b.0 b.1 in
        let ids : a.0.id ≡ b.0.id = a.2 ∙ sym b.2 in
        let lane : g.0.lane ≡ y.lane = sym (lanes g.0 (inr g.1) b.0 g.2) ∙ ap (λ v. lane_number v js.lanes) (sym ids) ∙ lanes y (inl refl) a.0 k.0 in
        let same : a.0 ≡ b.0 = one g.0.lane a.0 b.0 (subst (λ u. Has n a.0 (js.leaders u)) (sym lane) k.0) g.2 ids lane in
        let start : g.0.start ≡ y.start = sym g.3 ∙ ap (λ (u : Report). batch_start u.time t.precision) (sym same) ∙ k.1 in
        let cell : g.0 ≡ y = ap (λ u. the_cell u g.0.start) lane ∙ ap (λ u. the_cell y.lane u) start in
        new (subst (λ u. Mem u cs) cell g.1)

pub parts_shown : (f : Kind → Functions) (t : PlainTask) (js : Journals) (n : List ℕ) (c d : Cell → Closed) (cs : List Cell) → SpaceLaws (f t.kind).space → Distinct cs →
    ((x : Cell) → Mem x cs → (r : Report) → Has n r (js.leaders x.lane) → lane_number r.id js.lanes ≡ x.lane) →
    ((x : Cell) → Mem x cs → LeaderLegal (js.leaders x.lane)) →
    ((x : Cell) → Mem x cs → (rs : List Report) × LaneShown f t n x.start (js.leaders x.lane) (js.helpers x.lane) (c x) (d x) rs) →
    (rs : List Report) × PartShown f t js n c d cs rs
parts_shown f t js n c d [] laws e lanes legal each = (
  [],
  (
    record {
      accepted = λ r p. elim p [ ];
      leader = λ x id p w. elim p [ ];
      helper = λ x id p w. elim p [ ];
      once = tt;
    },
    (λ r p. elim p [ ]),
    refl,
    zero_zero laws,
  ),
)
parts_shown f t js n c d (y ∷ cs) laws e lanes legal each =
    let a = parts_shown f t js n c d cs laws e.1 (λ x q. lanes x (inr q)) (λ x q. legal x (inr q)) (λ x q. each x (inr q)) in
    let b = each y (inl refl) in (
      b.0 ++ a.0,
      more_cells f t js n c d y cs a.0 b.0 laws lanes
          (λ k r r' p q i z. accept_one (js.leaders k) n r r' (subst (λ u. LeaderLegal (js.leaders u)) (sym z) (legal y (inl refl))) p q i) e.0 a.1 b.1,
    )

-- ---- Answers

-- an Answer has its Ask
pub answer_asked : (front : List Record) (n : List ℕ) (s : Span) (a : Answered) → IsLegal Leader Front front → Mem (LeaderAnswer n s a) front → Mem (Ask n s) front
answer_asked [] n s a h p = elim p [ ]
answer_asked (x ∷ front) n s a h (inl e) = inr (subst (λ (z : Record). May Leader Front z front) (sym e) h.0).2.0
answer_asked (x ∷ front) n s a h (inr p) = inr (answer_asked front n s a h.1 p)

pub share_is : (a b : List ℕ) → Share a ≡ Share b → a ≡ b
share_is a b e = cc

-- of a batch of any number of buckets: an Answer that fits, with its Ask and the helper's Answer
pub batch_shown : (f : Kind → Functions) (js : Journals) (b : Batch) (a : Answered) → ((k : Kind) → IsKind k → FunctionLaws (f k)) →
    AllLegal js → AllAgree f js → LeaderAnswerFits f js b a → AskFits js b →
    ((q : ShareReq) (r : ShareResp) → Mem (HelperAnswer q r) js.helper_front → HelperAnswerFits f js (the_batch q.name q.span) q r) →
    (t : PlainTask) × ((held js).task b.name ≡ Some t) × ((rs : List Report) × AnswerShown f t js b a rs)
batch_shown f js b a functions legal agree m ask helper =
    let g = m.2.6 in
    let same : the_batch g.0.name g.0.span ≡ b = ap (λ z. the_batch z g.0.span) g.3 ∙ ap (λ z. the_batch b.name z) g.4 in
    let h : HelperAnswerFits f js b g.0 g.1 = subst (λ z. HelperAnswerFits f js z g.0 g.1) same (helper g.0 g.1 g.2) in
    go m.0 m.1 m.2 (same_task (held js) b.name ask.0 m.0 ask.1 m.1) ask.2 (same_task (held js) b.name h.0 m.0 h.1 m.1) h.3.0 h.3.1 (sym (share_is _ _ (sym h.3.4 ∙ g.7)))
  where
    go : (t : PlainTask) → (held js).task b.name ≡ Some t →
        ((c : Cell → Closed) × LeaderClosed js b.name (cells_of js t b) c
        × (a.count ≡ count_sum (cells_of js t b) c) × (a.rejected ≡ rejected_sum (cells_of js t b) c)
        × (a.leader ≡ share_sum f t (cells_of js t b) c) × IsOut (f t.kind).space a.leader
        × HasAnswered b a.count (checksum_sum (cells_of js t b) c) a.helper js.helper_front) →
        {u : PlainTask} → u ≡ t → u.min ≤ finished_in_all js u b.name (cells_of js u b) →
        {v : PlainTask} → v ≡ t → (d : Cell → Closed) → HelperClosed js b.name (cells_of js v b) d →
        a.helper ≡ share_sum f v (cells_of js v b) d →
        (t : PlainTask) × ((held js).task b.name ≡ Some t) × ((rs : List Report) × AnswerShown f t js b a rs)
    go t e m {u} eu least {v} ev d closed share =
        let cs : List Cell = cells_of js t b in
        let ranges = task_ranges js.front js.helper_front b.name t legal.front e in
        let laws : SpaceLaws (f t.kind).space = (functions t.kind ranges.kind_ranges).space in
        let lane : (x : Cell) → Mem x (cells_of js t b) → x.lane < js.lanes = λ x q. (cells_out js.lanes (buckets_of b.span t.precision) x q).0 in
        let enough : t.min ≤ finished_in_all js t b.name (cells_of js t b) =
        subst (λ (z : PlainTask). z.min ≤ finished_in_all js z b.name (cells_of js z b)) eu least in
        let hclosed : HelperClosed js b.name (cells_of js t b) d = subst (λ (z : PlainTask). HelperClosed js b.name (cells_of js z b) d) ev closed in
        let counts : count_sum (cells_of js t b) m.0 ≡ finished_in_all js t b.name (cells_of js t b) =
        sum_same (λ x y. x + y) 0 (λ x. (m.0 x).count) (λ (x : Cell). finished_count t b.name x.start (js.leaders x.lane)) (cells_of js t b)
        (λ x q. ap (λ (z : Closed). z.count)
        (close_whole f (held js) (js.leaders x.lane) (js.helpers x.lane) (js.helpers x.lane) t b.name x.start (m.0 x)
        (two_at f js x.lane legal agree (lane x q)) e (m.1 x q))) in
        let total_is : a.count ≡ count_sum (cells_of js t b) m.0 = m.2 in
        let parts = parts_shown f t js b.name m.0 d (cells_of js t b) laws
        (cells_distinct js.lanes (buckets_of b.span t.precision)
        (buckets_distinct b.span t.precision (task_ranges js.front js.helper_front b.name t legal.front e).some_time))
        (λ x q r z. lane_of js x.lane b.name r legal (lane x q) z)
        (λ x q. (x.lane, legal.leaders x.lane (lane x q)))
        (λ x q. lane_shown f (held js) (js.leaders x.lane) (js.helpers x.lane) t b.name x.start (m.0 x) (d x) laws
        (two_at f js x.lane legal agree (lane x q)) e (m.1 x q) (hclosed x q)) in
        let r = parts.1 in
        let exact : plus (f t.kind).space a.leader a.helper ≡ total (f t.kind).space (map (content f t) parts.0) =
        ap (λ z. plus (f t.kind).space z a.helper) m.4
        ∙ ap (λ z. plus (f t.kind).space (share_sum f t (cells_of js t b) m.0) z)
        (share ∙ ap (λ (z : PlainTask). share_sum f z (cells_of js z b) d) ev)
        ∙ r.3 in (
          t,
          e,
          (
            parts.0,
            record {
              cells = r.0;
              many = r.2 ∙ sym total_is;
              enough = omega arith;
              counted = r.1;
              exact = exact;
              summed = ap (numbers (f t.kind).space) exact ∙ ap numbers_in (contents_sum f t (functions t.kind ranges.kind_ranges) parts.0 r.1);
            },
          ),
        )

pub answer_shown : (f : Kind → Functions) (js : Journals) (n : List ℕ) (s : Span) (a : Answered) → ((k : Kind) → IsKind k → FunctionLaws (f k)) →
    AllLegal js → AllAgree f js → Mem (LeaderAnswer n s a) js.front →
    (t : PlainTask) × ((held js).task n ≡ Some t) × ((rs : List Report) × AnswerShown f t js (the_batch n s) a rs)
answer_shown f js n s a functions legal agree p =
    batch_shown f js (the_batch n s) a functions legal agree (agree.front (LeaderAnswer n s a) p)
    (agree.front (Ask n s) (answer_asked js.front n s a legal.front p))
    (λ q r m. agree.helper_front (HelperAnswer q r) m)

-- ---- all of it

pub shown : (f : Kind → Functions) (js : Journals) → ((k : Kind) → IsKind k → FunctionLaws (f k)) → AllLegal js → AllAgree f js → Shown f js
shown f js functions legal agree = record {
  leader_once = λ i k n id j j' p q x y. held_once js i k n id j j' legal p q
      (finished_held f (held js) (js.leaders i) (js.helpers i) n id j (two_at f js i legal agree p) x)
      (finished_held f (held js) (js.leaders k) (js.helpers k) n id j' (two_at f js k legal agree q) y);
  helper_once = λ i k n id j j' p q x y. held_once js i k n id j j' legal p q
      (committed_held f (held js) (js.leaders i) (js.helpers i) n id j (two_at f js i legal agree p) x)
      (committed_held f (held js) (js.leaders k) (js.helpers k) n id j' (two_at f js k legal agree q) y);
  one_ask = λ a b t s p q e d x y.
      let k = task_known js.front js.helper_front a.name t d in
      let precision : k.0.precision ≡ t.precision = ap (λ (z : PlainTask). z.precision) k.5 in
      one_asked js.front a b k.0 s legal.front k.2 k.3 (asks_out js.front a p) (asks_out js.front b q) e
      (subst (λ z. IsTrue (holds_bucket a.span z s)) (sym precision) x) (subst (λ z. IsTrue (holds_bucket b.span z s)) (sym precision) y);
  answers = λ n s a p. answer_shown f js n s a functions legal agree p;
  closes = λ k n s c q p.
      let two = two_at f js k legal agree q in
      let fit = (leader_fit f (held js) (js.leaders k) (js.helpers k) (js.leaders k) (LeaderClose n s c) two.l_fits p).1 in
      (fit.0, fit.1, close_whole f (held js) (js.leaders k) (js.helpers k) (js.helpers k) fit.0 n s c two fit.1 p);
  helper_closes = λ k n s c q p.
      let two = two_at f js k legal agree q in
      let fit = (helper_fit f (held js) (js.leaders k) (js.helpers k) (HelperClose n s c) two.h_fits p).1 in
      (fit.0, fit.1, helper_close_whole f (held js) (js.leaders k) (js.helpers k) (js.helpers k) fit.0 n s c two fit.1 p);
}
