-- An example: one report of one task, prepared and collected, in journals that agree.
use Rattle.std.proofs.Common.{◌≡◌, ℕ, ◌≤◌, List, [], ◌∷◌, ◌++◌, Some, None, refl, ap, sym, ◌∙◌, arith, inl, inr, subst}
use Rattle.vdaf_api.specs.Functions.{Functions}
use Rattle.vdaf_api.specs.Promises.{FunctionLaws}
use Rattle.vdaf_api.specs.SumLaws.{plus-is_out, vector-zero}
use Rattle.vdaf_api.specs.Totals.{total}
use Rattle.vdaf_api.specs.Vectors.{IsOut, zero_share}
use Rattle.vdaf_api.specs.Verdict.{ok}
use Rattle.vdaf_api.specs.VerdictLaws.{ok-outs}
use Rattle.vdaf_api.specs.declared.kind.Kind.{Kind}
use Rattle.vdaf_api.specs.declared.kind.Kind.TheVariants.{Count}
use Rattle.vdaf_api.specs.declared.space.Space.{Space}
use Rattle.dap_batch.specs.Checksum.{xor_bytes, no_checksum, checksum_of}
use Rattle.dap_batch.specs.Group.{batch_start}
use Rattle.dap_messages.specs.declared.body.Half.{Half}
use Rattle.dap_messages.specs.declared.body.Step.{Step}
use Rattle.dap_messages.specs.declared.item.Tagged.{Tagged}
use Rattle.dap_messages.specs.declared.job.JobNo.{JobNo}
use Rattle.dap_messages.specs.declared.reply.Reply.TheVariants.{Share}
use Rattle.dap_messages.specs.declared.report.Report.{Report}
use Rattle.dap_tasks.specs.Task.{PlainTask}
use Rattle.dap_seal.specs.Reports as seal
use Rattle.lane_records.specs.declared.batch.Answered.{Answered}
use Rattle.dap_messages.specs.declared.share.ShareReq.{ShareReq}
use Rattle.dap_messages.specs.declared.share.ShareResp.{ShareResp}
use Rattle.lane_records.specs.declared.closed.Closed.{Closed}
use Rattle.lane_records.specs.declared.outcome.Outcome.{Outcome}
use Rattle.lane_records.specs.declared.outcome.Outcome.TheVariants.{Finished}
use Rattle.lane_records.specs.declared.record.Record.{Record}
use Rattle.lane_records.specs.declared.record.Record.TheVariants.{LeaderOpen, Accept, Continue, Finish, LeaderClose, HelperOpen, Start, Commit, HelperClose, LeaderFrontOpen, LeaderTask, Ask, LeaderAnswer, HelperFrontOpen, HelperTask, HelperAnswer}
use Rattle.lane_records.specs.declared.stored.StoredTask.{StoredTask}
use Rattle.legal_journals.specs.History.{Mem, opens}
use Rattle.dap_bytes.specs.declared.node.Node.TheVariants.{Leader, Helper}
use Rattle.dap_bytes.specs.declared.part.Part.TheVariants.{Lane}
use Rattle.dap_messages.specs.declared.body.Status.{Status}
use Rattle.dap_messages.specs.declared.message.Message.{Message}
use Rattle.dap_messages.specs.declared.message.Message.TheVariants.{InitReq, InitResp, ContReq, ContResp}
use Rattle.dap_messages.specs.Items.{ids_of}
use Rattle.legal_journals.specs.Legal.{IsLegal}
use Rattle.legal_journals.specs.Sent.{LeaderJustifies, HelperJustifies, IsOfItsContinue}
use Rattle.dap_agree.specs.Static.{LanesKeep}
use Rattle.legal_journals.specs.JobReports.{steps_of, outs_by, told_by, IsTested, each_of, Accepted, status_of, told_statuses}
use Rattle.dap_seal.specs.Steps.{half_of, prep_by, share_by, outcome_by}
use Rattle.dap_seal.proofs.Turns.{comes_to_the_verdict}
use Rattle.lane_records.specs.declared.format.Format.TheVariants.{Two}
use Rattle.dap_bytes.specs.Spans.{one_bucket}
use Rattle.dap_agree.proofs.Stored.{the_batch}
use Rattle.dap_agree.proofs.Steps.{told_is, items_are}
use Rattle.dap_agree.specs.Agree.{Fronts, LanesFit, LeaderAgrees, LeaderAllHave, HelperAgrees}
use Rattle.legal_journals.specs.Told.{IsTold}
use Rattle.dap_agree.specs.Fronts.{Journals, held, whole, Cell, FrontFits, HelperFrontFits, AllAgree}
use Rattle.dap_messages.specs.Reports.{halves}
use Rattle.dap_agree.specs.Verdicts.{item_of, leader_part, helper_part, leader_outcome, helper_outcome}

abbrev v : List ℕ
v = 118 ∷ []

abbrev ta : StoredTask
ta = record { format = Two; name = v; kind = Count; min = 1; precision = 3600; expires = None; verify = []; keys = record { enc = 1 ∷ []; mac = 2 ∷ [] } }

abbrev tb : StoredTask
tb = record { format = Two; name = v; kind = Count; min = 1; precision = 3600; expires = None; verify = []; keys = record { enc = 3 ∷ []; mac = 4 ∷ [] } }

abbrev t : PlainTask
t = whole ta tb

abbrev r : Report
r = record { name = v; id = 7 ∷ []; time = 3610; public = []; leader = 5 ∷ []; helper = 6 ∷ [] }

abbrev j : JobNo
j = record { lane = 0; incarnation = 1; counter = 0 }

module _ (f : Kind → Functions) (a b : List ℕ) (verdict : seal.verdict_of (f Count) (whole ta tb) r ≡ ok a b) (laws : FunctionLaws (f Count)) where
  abbrev s : Space
  s = (f Count).space

  abbrev xs : List (Tagged Step)
  xs = each_of (item_of f t) (r ∷ [])

  abbrev hs : List (Tagged Half)
  hs = halves (r ∷ [])

  abbrev mine : List (Tagged Outcome)
  mine = record { id = 7 ∷ []; body = Finished a } ∷ []

  abbrev theirs : List (Tagged Outcome)
  theirs = record { id = 7 ∷ []; body = Finished b } ∷ []

  abbrev c : Closed
  c = record { count = 1; rejected = 0; checksum = checksum_of ((7 ∷ []) ∷ []); share = total s (a ∷ []) }

  abbrev d : Closed
  d = record { count = 1; rejected = 0; checksum = checksum_of ((7 ∷ []) ∷ []); share = total s (b ∷ []) }

  abbrev answer : Answered
  answer = record { count = 1; rejected = 0; leader = total s (total s (a ∷ []) ∷ []); helper = total s (total s (b ∷ []) ∷ []) }

  abbrev request : ShareReq
  request = record { name = v; span = one_bucket 3600; count = 1; checksum = xor_bytes (checksum_of ((7 ∷ []) ∷ [])) no_checksum }

  abbrev response : ShareResp
  response = record { name = v; span = one_bucket 3600; reply = Share (total s (total s (b ∷ []) ∷ [])) }

  abbrev l : List Record
  l = LeaderClose v 3600 c ∷ Finish j mine ∷ Continue v j xs ∷ Accept r ∷ LeaderOpen Two 1 0 ∷ []

  abbrev h : List Record
  h = HelperClose v 3600 d ∷ Commit j theirs ∷ Start j v hs ∷ HelperOpen Two 1 0 ∷ []

  abbrev front : List Record
  front = LeaderAnswer v (one_bucket 3600) answer ∷ Ask v (one_bucket 3600) ∷ LeaderTask ta ∷ LeaderFrontOpen Two 1 ∷ []

  abbrev helper_front : List Record
  helper_front = HelperAnswer request response ∷ HelperTask tb ∷ HelperFrontOpen Two 1 ∷ []

  abbrev js : Journals
  js = record { lanes = 1; leaders = λ k. l; helpers = λ k. h; front = front; helper_front = helper_front }

  zero_out : IsOut s (zero_share s)
  zero_out = (_, vector-zero laws.space)

  outs : IsOut s a × IsOut s b
  outs = ok-outs laws (seal.opened_report t r) a b verdict

  out_c : IsOut s (total s (a ∷ []))
  out_c = plus-is_out laws.space a (zero_share s) outs.0 zero_out

  out_d : IsOut s (total s (b ∷ []))
  out_d = plus-is_out laws.space b (zero_share s) outs.1 zero_out

  told : (q : Report) → Mem (Accept q) l → q.name ≡ v → batch_start q.time 3600 ≡ 3600 → IsTold v q.id (Finish j mine ∷ Continue v j xs ∷ Accept r ∷ LeaderOpen Two 1 0 ∷ [])
  told q (inl e) x y = absurd (cc)
  told q (inr (inl e)) x y = absurd (cc)
  told q (inr (inr (inl e))) x y = absurd (cc)
  told q (inr (inr (inr (inl e)))) x y = let same : q ≡ r = cc in (j, xs, mine, inr (inl refl), inl (ap (λ (z : Report). z.id) same), inl refl)
  told q (inr (inr (inr (inr (inl e))))) x y = absurd (cc)
  told q (inr (inr (inr (inr (inr e))))) x y = elim e [ ]

  leader_side : LeaderAllHave f (held js) l h l
  leader_side = (
    (t, refl, (the_batch v (one_bucket 3600), inl refl, refl, refl), told, refl, out_c),
    (
      (v, t, refl, (r ∷ [], ((inr (inr (inr (inl refl))), refl), tt), refl, ((b, verdict), tt), (xs, inr (inr (inl refl))), (theirs, inr (inl refl), refl))),
      (
        (t, refl, (r ∷ [], ((inr (inr (inr (inl refl))), refl), tt), refl, (hs, inr (inr (inl refl)), refl))),
        ((t, refl, no_close), (tt, tt)),
      ),
    ),
  )
    where
      no_close : (x : Closed) × Mem (LeaderClose v 3600 x) (LeaderOpen Two 1 0 ∷ []) → ⊥
      no_close (x, inl e) = absurd (cc)
      no_close (x, inr e) = elim e [ ]

  helper_side : HelperAgrees f (held js) l h
  helper_side = (
    (t, refl, (c, inl refl, refl, refl, refl), refl, out_d),
    (
      (v, t, refl, (r ∷ [], ((inr (inr (inr (inl refl))), refl), tt), ap (λ z. record { id = 7 ∷ []; body = helper_part z } ∷ []) (sym verdict), (xs, inr (inr (inl refl)), refl))),
      ((omega arith, omega arith, (t, refl), (r ∷ [], ((inr (inr (inr (inl refl))), refl), tt), refl)), (tt, tt)),
    ),
  )

  closed_l : (x : Cell) → Mem x (record { lane = 0; start = 3600 } ∷ []) → Mem (LeaderClose v x.start c) l
  closed_l x (inl e) = subst (λ (z : Cell). Mem (LeaderClose v z.start c) l) (sym e) (inl refl)
  closed_l x (inr e) = elim e [ ]

  closed_h : (x : Cell) → Mem x (record { lane = 0; start = 3600 } ∷ []) → Mem (HelperClose v x.start d) h
  closed_h x (inl e) = subst (λ (z : Cell). Mem (HelperClose v z.start d) h) (sym e) (inl refl)
  closed_h x (inr e) = elim e [ ]

  front_side : (x : Record) → Mem x front → FrontFits f js x
  front_side x (inl e) = subst (λ z. FrontFits f js z) (sym e) (
    t,
    refl,
    (
      (λ x. c),
      closed_l,
      refl,
      refl,
      refl,
      plus-is_out laws.space (total s (a ∷ [])) (zero_share s) out_c zero_out,
      (request, response, inl refl, refl, refl, refl, refl, refl),
    ),
  )
  front_side x (inr (inl e)) = subst (λ z. FrontFits f js z) (sym e) (t, refl, omega arith)
  front_side x (inr (inr (inl e))) = subst (λ z. FrontFits f js z) (sym e) (tb, refl, record { kind = refl; min = refl; precision = refl; verify = refl; expires = refl })
  front_side x (inr (inr (inr (inl e)))) = subst (λ z. FrontFits f js z) (sym e) tt
  front_side x (inr (inr (inr (inr e)))) = elim e [ ]

  helper_front_side : (x : Record) → Mem x helper_front → HelperFrontFits f js x
  helper_front_side x (inl e) = subst (λ z. HelperFrontFits f js z) (sym e)
      (t, refl, ((λ x. c), closed_l, refl, refl), ((λ x. d), closed_h, refl, refl, refl, plus-is_out laws.space (total s (b ∷ [])) (zero_share s) out_d zero_out))
  helper_front_side x (inr (inl e)) = subst (λ z. HelperFrontFits f js z) (sym e) tt
  helper_front_side x (inr (inr (inl e))) = subst (λ z. HelperFrontFits f js z) (sym e) tt
  helper_front_side x (inr (inr (inr e))) = elim e [ ]

  pub example_agrees : AllAgree f js
  example_agrees = record { lanes = λ k p. (leader_side, helper_side); front = front_side; helper_front = helper_front_side }

-- ---- the same lanes by what each keeps

module _ (f : Kind → Functions) (a b : List ℕ) (verdict : seal.verdict_of (f Count) (whole ta tb) r ≡ ok a b) (laws : FunctionLaws (f Count)) where
  abbrev la : List Record
  la = LeaderClose v 3600 (c f a b verdict laws) ∷ Finish j (mine f a b verdict laws) ∷ Continue v j (xs f a b verdict laws) ∷ Accept r ∷ []

  abbrev requests : List Message
  requests = ContReq j (xs f a b verdict laws) ∷ InitReq j v (hs f a b verdict laws) ∷ []

  abbrev replies : List Message
  replies = ContResp j (told_statuses (theirs f a b verdict laws)) ∷ InitResp j (steps_of (prep_by f t v) (hs f a b verdict laws)) ∷ []

  abbrev fr : Fronts
  fr = held (js f a b verdict laws)

  helper_done : helper_outcome f t r ≡ Finished b
  helper_done = ap helper_part verdict

  leader_done : leader_outcome f t r ≡ Finished a
  leader_done = ap leader_part verdict

  mine_is : mine f a b verdict laws ≡ outs_by (share_by f t) (r ∷ []) (xs f a b verdict laws) (told_statuses (theirs f a b verdict laws))
  mine_is =
      ap (λ z. record { id = 7 ∷ []; body = z } ∷ [])
      (sym leader_done ∙ sym (told_is f t r) ∙ ap (λ z. told_by (share_by f t) r (item_of f t r) (status_of z)) helper_done)

  tested : IsTested v (batch_start 3610 3600) (7 ∷ []) (outcome_by f t v (half_of r) (item_of f t r)) (Start j v (hs f a b verdict laws) ∷ HelperOpen Two 1 0 ∷ []) (Finished b)
  tested =
      subst (λ z. IsTested v (batch_start 3610 3600) (7 ∷ []) z (Start j v (hs f a b verdict laws) ∷ HelperOpen Two 1 0 ∷ []) (Finished b))
      (sym ((comes_to_the_verdict f t r).helper a b verdict)) (inr (inr refl))

  side : LanesFit f fr (l f a b verdict laws) (h f a b verdict laws)
  side = (leader_fits_at, helper_side f a b verdict laws)
    where
      leader_fits_at : LeaderAgrees f fr (l f a b verdict laws) (h f a b verdict laws) (l f a b verdict laws)
      leader_fits_at =
          let k = leader_side f a b verdict laws in
          ((t, refl, (the_batch v (one_bucket 3600), inl refl, refl, refl), (λ q m x y. told f a b verdict laws q (inr m) x y), refl, out_c f a b verdict laws), k.1)

  keeps : IsLegal Leader (Lane 0) (l f a b verdict laws) → IsLegal Helper (Lane 0) (h f a b verdict laws) →
      LanesKeep f fr 0 Two 1 0 la [] (h f a b verdict laws) [] requests replies
  keeps legal helper_legal = record {
    l_legal = legal;
    h_legal = helper_legal;
    opened = (tt, tt);
    l_rests = (
      tt,
      (
        (v, t, refl, (r ∷ [], xs f a b verdict laws, told_statuses (theirs f a b verdict laws), ((inr (inl refl), refl), tt), inl refl, refl, inl refl, mine_is)),
        (
          (
            t,
            refl,
            (
              r ∷ [],
              steps_of (prep_by f t v) (hs f a b verdict laws),
              ((inl refl, refl), tt),
              refl,
              inr (inl refl),
              sym (items_are f t v (r ∷ []) (Accept r ∷ []) ((inl refl, refl), tt)),
            ),
          ),
          (tt, tt),
        ),
      ),
    );
    h_rests =
        (tt, ((v, t, refl, (hs f a b verdict laws, xs f a b verdict laws, inl refl, inl refl, refl, (refl, tested, tt))), (((t, refl), inr (inl refl)), (tt, tt))));
    l_closes = (side.0.0, (tt, (tt, (side.0.1.1.1.0, (tt, tt)))));
    h_closes = (side.1.0, (tt, (tt, (tt, tt))));
    l_sent = λ m p. leader_sent m p;
    h_sent = λ m p. helper_sent m p;
  }
    where
      of_continue : (n : List ℕ) (ys : List (Tagged Step)) → Mem (Continue n j ys) (l f a b verdict laws) → (v ≡ n) × (ids_of (hs f a b verdict laws) ≡ ids_of ys)
      of_continue n ys (inl d) = absurd (cc)
      of_continue n ys (inr (inl d)) = absurd (cc)
      of_continue n ys (inr (inr (inl d))) =
          let name : n ≡ v = cc in
          let same : ys ≡ xs f a b verdict laws = cc in
          (sym name, sym (ap (λ (z : List (Tagged Step)). ids_of z) same))
      of_continue n ys (inr (inr (inr (inl d)))) = absurd (cc)
      of_continue n ys (inr (inr (inr (inr (inl d))))) = absurd (cc)
      of_continue n ys (inr (inr (inr (inr (inr d))))) = elim d [ ]

      leader_sent : (m : Message) → Mem m requests → LeaderJustifies (l f a b verdict laws) m × IsOfItsContinue (l f a b verdict laws) m
      leader_sent m (inl e) =
          subst (λ z. LeaderJustifies (l f a b verdict laws) z × IsOfItsContinue (l f a b verdict laws) z) (sym e) ((v, inr (inr (inl refl))), tt)
      leader_sent m (inr (inl e)) =
          subst (λ z. LeaderJustifies (l f a b verdict laws) z × IsOfItsContinue (l f a b verdict laws) z) (sym e)
          ((omega arith, omega arith, (r ∷ [], ((inr (inr (inr (inl refl))), refl), tt), refl)), (λ n ys p. of_continue n ys p))
      leader_sent m (inr (inr e)) = elim e [ ]

      helper_sent : (m : Message) → Mem m replies → HelperJustifies (prep_by f) fr.task (h f a b verdict laws ++ []) m
      helper_sent m (inl e) =
          subst (λ z. HelperJustifies (prep_by f) fr.task (h f a b verdict laws ++ []) z) (sym e) (theirs f a b verdict laws, inr (inl refl), refl)
      helper_sent m (inr (inl e)) =
          subst (λ z. HelperJustifies (prep_by f) fr.task (h f a b verdict laws ++ []) z) (sym e) (v, t, refl, (hs f a b verdict laws, inr (inr (inl refl)), refl))
      helper_sent m (inr (inr e)) = elim e [ ]
