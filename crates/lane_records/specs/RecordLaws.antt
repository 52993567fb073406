-- Lemmas: the records of journals keep the laws of grammars.
use Rattle.std.proofs.Common.{◌≡◌, ◌≤◌, ◌∷◌, ℕ, ◌-◌, List, Some, refl, sym, ap, ◌∙◌, lit≤}
use Rattle.dap_messages.specs.declared.job.JobNo.{JobNo}
use Rattle.dap_messages.specs.declared.body.Half.{Half}
use Rattle.dap_messages.specs.declared.body.Step.{Step}
use Rattle.dap_messages.specs.declared.item.Tagged.{Tagged}
use Rattle.dap_messages.specs.declared.report.Report.{Report}
use Rattle.dap_messages.specs.Grammar.{Grammar, byte, ◌⊗◌, fixed, name, items, spell_chosen, allowed_chosen}
use Rattle.dap_messages.specs.Lawful.{Lawful}
use Rattle.dap_messages.specs.Laws.{byte_lawful, then_lawful, fixed_lawful, by_first_lawful, items_lawful, IsChoice, choice, choice_allowed, one_of, none_of, some_is, and_parts}
use Rattle.dap_messages.specs.Forms.{any_u8, time, job, half, step}
use Rattle.dap_messages.specs.FormLaws.{time_lawful, name_lawful, job_lawful, half_lawful, step_lawful}
use Rattle.dap_messages.specs.Messages.{report}
use Rattle.dap_messages.specs.MessageLaws.{report_lawful}
use Rattle.lane_records.specs.declared.laws.TheConstants.{MOST_RECORD}
use Rattle.lane_records.specs.declared.outcome.Outcome.{Outcome}
use Rattle.lane_records.specs.declared.closed.Closed.{Closed}
use Rattle.lane_records.specs.declared.stored.StoredTask.{StoredTask}
use Rattle.lane_records.specs.declared.batch.Answered.{Answered}
use Rattle.dap_bytes.specs.declared.span.Span.{Span}
use Rattle.dap_messages.specs.declared.extent.Extent.{Extent}
use Rattle.dap_messages.specs.declared.extent.Extent.TheVariants.{Single, Several}
use Rattle.dap_messages.specs.declared.share.ShareReq.{ShareReq}
use Rattle.dap_messages.specs.declared.share.ShareResp.{ShareResp}
use Rattle.dap_messages.specs.Shares.{span_as, extent_of, share_req, share_resp}
use Rattle.dap_messages.specs.ShareLaws.{span_lawful, span_extent, share_req_lawful, share_resp_lawful}
use Rattle.lane_records.specs.declared.record.Record.{Record}
use Rattle.lane_records.specs.declared.record.Record.TheVariants.{LeaderOpen, Accept, Continue, Finish, LeaderClose, HelperOpen, Start, Commit, HelperClose, LeaderFrontOpen, LeaderTask, Ask, LeaderAnswer, HelperFrontOpen, HelperTask, HelperAnswer}
use Rattle.lane_records.specs.Batch.{answered}
use Rattle.lane_records.specs.BatchLaws.{only_byte, answered_lawful}
use Rattle.lane_records.specs.Stored.{outcome, closed, task_fields, stored}
use Rattle.lane_records.specs.StoredLaws.{outcome_lawful, closed_lawful, stored_lawful, stored_format}
use Rattle.lane_records.specs.declared.format.Format.{Format}
use Rattle.lane_records.specs.declared.format.Format.TheVariants.{One, Two}
use Rattle.lane_records.specs.Formats.{by_format, format}
use Rattle.lane_records.specs.FormatLaws.{format_lawful}
use Rattle.lane_records.specs.Records.{lane_open, front_open, continue_fields, start_fields, outcomes, close_fields, ask_fields, answer_fields, by_extent, exchange, leader_open_of, leader_open, accept_of, accept, continue_of, continue_, finish_of, finish, leader_close_of, leader_close, helper_open_of, helper_open, start_of, start, commit_of, commit, helper_close_of, helper_close, leader_front_open_of, leader_front_open, leader_task_of, leader_task, ask_of, ask, leader_answer_of, leader_answer, helper_front_open_of, helper_front_open, helper_task_of, helper_task, helper_answer_of, helper_answer, first_of_record, record_by, record_}

-- ---- fields

any_u8_lawful : Lawful any_u8
any_u8_lawful = byte_lawful 0 255

lane_open_lawful : Lawful lane_open
lane_open_lawful = then_lawful format (any_u8 ⊗ any_u8) format_lawful (then_lawful any_u8 any_u8 any_u8_lawful any_u8_lawful)

front_open_lawful : Lawful front_open
front_open_lawful = then_lawful format any_u8 format_lawful any_u8_lawful

continue_fields_lawful : Lawful continue_fields
continue_fields_lawful =
    then_lawful name (fixed (byte 3 3) 3 (job ⊗ items step)) name_lawful
    (fixed_lawful (byte 3 3) 3 (job ⊗ items step) (byte_lawful 3 3) (then_lawful job (items step) job_lawful (items_lawful step step_lawful)) refl (only_byte 3))

start_fields_lawful : Lawful start_fields
start_fields_lawful =
    fixed_lawful (byte 1 1) 1 (job ⊗ name ⊗ items half) (byte_lawful 1 1)
    (then_lawful job (name ⊗ items half) job_lawful (then_lawful name (items half) name_lawful (items_lawful half half_lawful))) refl (only_byte 1)

outcomes_lawful : Lawful outcomes
outcomes_lawful = then_lawful job (items outcome) job_lawful (items_lawful outcome outcome_lawful)

close_fields_lawful : Lawful close_fields
close_fields_lawful = then_lawful name (time ⊗ closed) name_lawful (then_lawful time closed time_lawful closed_lawful)

ask_fields_lawful : (extent : Extent) → Lawful (ask_fields extent)
ask_fields_lawful extent = then_lawful name (span_as extent) name_lawful (span_lawful extent)

answer_fields_lawful : (extent : Extent) → Lawful (answer_fields extent)
answer_fields_lawful extent = then_lawful name (span_as extent ⊗ answered) name_lawful (then_lawful (span_as extent) answered (span_lawful extent) answered_lawful)

exchange_lawful : Lawful exchange
exchange_lawful = then_lawful share_req share_resp share_req_lawful share_resp_lawful

-- ---- records

leader_open_only : (y : Record) (x : Format × (ℕ × ℕ)) → leader_open_of y ≡ Some x → LeaderOpen x.0 x.1.0 x.1.1 ≡ y
leader_open_only (LeaderOpen f lanes lane) x e = ap (λ (p : Format × (ℕ × ℕ)). LeaderOpen p.0 p.1.0 p.1.1) (sym (some_is (f, (lanes, lane)) x e))
leader_open_only _ x e = absurd cc

accept_only : (y : Record) (x : Report) → accept_of y ≡ Some x → Accept x ≡ y
accept_only (Accept r) x e = ap Accept (sym (some_is r x e))
accept_only _ x e = absurd cc

continue_only : (y : Record) (x : List ℕ × (JobNo × List (Tagged Step))) → continue_of y ≡ Some x → Continue x.0 x.1.0 x.1.1 ≡ y
continue_only (Continue n j xs) x e = ap (λ (p : List ℕ × (JobNo × List (Tagged Step))). Continue p.0 p.1.0 p.1.1) (sym (some_is (n, (j, xs)) x e))
continue_only _ x e = absurd cc

finish_only : (y : Record) (x : JobNo × List (Tagged Outcome)) → finish_of y ≡ Some x → Finish x.0 x.1 ≡ y
finish_only (Finish j outs) x e = ap (λ (p : JobNo × List (Tagged Outcome)). Finish p.0 p.1) (sym (some_is (j, outs) x e))
finish_only _ x e = absurd cc

leader_close_only : (y : Record) (x : List ℕ × (ℕ × Closed)) → leader_close_of y ≡ Some x → LeaderClose x.0 x.1.0 x.1.1 ≡ y
leader_close_only (LeaderClose n s c) x e = ap (λ (p : List ℕ × (ℕ × Closed)). LeaderClose p.0 p.1.0 p.1.1) (sym (some_is (n, (s, c)) x e))
leader_close_only _ x e = absurd cc

helper_open_only : (y : Record) (x : Format × (ℕ × ℕ)) → helper_open_of y ≡ Some x → HelperOpen x.0 x.1.0 x.1.1 ≡ y
helper_open_only (HelperOpen f lanes lane) x e = ap (λ (p : Format × (ℕ × ℕ)). HelperOpen p.0 p.1.0 p.1.1) (sym (some_is (f, (lanes, lane)) x e))
helper_open_only _ x e = absurd cc

start_only : (y : Record) (x : JobNo × (List ℕ × List (Tagged Half))) → start_of y ≡ Some x → Start x.0 x.1.0 x.1.1 ≡ y
start_only (Start j n hs) x e = ap (λ (p : JobNo × (List ℕ × List (Tagged Half))). Start p.0 p.1.0 p.1.1) (sym (some_is (j, (n, hs)) x e))
start_only _ x e = absurd cc

commit_only : (y : Record) (x : JobNo × List (Tagged Outcome)) → commit_of y ≡ Some x → Commit x.0 x.1 ≡ y
commit_only (Commit j outs) x e = ap (λ (p : JobNo × List (Tagged Outcome)). Commit p.0 p.1) (sym (some_is (j, outs) x e))
commit_only _ x e = absurd cc

helper_close_only : (y : Record) (x : List ℕ × (ℕ × Closed)) → helper_close_of y ≡ Some x → HelperClose x.0 x.1.0 x.1.1 ≡ y
helper_close_only (HelperClose n s c) x e = ap (λ (p : List ℕ × (ℕ × Closed)). HelperClose p.0 p.1.0 p.1.1) (sym (some_is (n, (s, c)) x e))
helper_close_only _ x e = absurd cc

leader_front_open_only : (y : Record) (x : Format × ℕ) → leader_front_open_of y ≡ Some x → LeaderFrontOpen x.0 x.1 ≡ y
leader_front_open_only (LeaderFrontOpen f lanes) x e = ap (λ (p : Format × ℕ). LeaderFrontOpen p.0 p.1) (sym (some_is (f, lanes) x e))
leader_front_open_only _ x e = absurd cc

leader_task_only : (y : Record) (x : StoredTask) → leader_task_of y ≡ Some x → LeaderTask x ≡ y
leader_task_only (LeaderTask t) x e = ap LeaderTask (sym (some_is t x e))
leader_task_only _ x e = absurd cc

leader_task_choice : (f : Format) (first : ℕ) → by_format 34 39 f ≡ first → (task_fields f).most ≤ MOST_RECORD - 1 → IsChoice first_of_record (MOST_RECORD - 1) first (leader_task f)
leader_task_choice f first is within =
    choice_allowed first_of_record (MOST_RECORD - 1) first LeaderTask leader_task_of (stored f) (λ x. refl) leader_task_only
    (λ t a. ap (by_format 34 39) (sym (stored_format f t a)) ∙ is) (stored_lawful f) within

ask_only : (y : Record) (x : List ℕ × Span) → ask_of y ≡ Some x → Ask x.0 x.1 ≡ y
ask_only (Ask n s) x e = ap (λ (p : List ℕ × Span). Ask p.0 p.1) (sym (some_is (n, s) x e))
ask_only _ x e = absurd cc

ask_choice : (extent : Extent) (first : ℕ) → by_extent 35 37 extent ≡ first → (ask_fields extent).most ≤ MOST_RECORD - 1 → IsChoice first_of_record (MOST_RECORD - 1) first (ask extent)
ask_choice extent first is within =
    choice_allowed first_of_record (MOST_RECORD - 1) first (λ p. Ask p.0 p.1) ask_of (ask_fields extent) (λ x. refl) ask_only
    (λ p a. ap (by_extent 35 37) (span_extent extent p.1 (and_parts (name.allowed p.0) ((span_as extent).allowed p.1) a).1) ∙ is) (ask_fields_lawful extent) within

leader_answer_only : (y : Record) (x : List ℕ × (Span × Answered)) → leader_answer_of y ≡ Some x → LeaderAnswer x.0 x.1.0 x.1.1 ≡ y
leader_answer_only (LeaderAnswer n s a) x e = ap (λ (p : List ℕ × (Span × Answered)). LeaderAnswer p.0 p.1.0 p.1.1) (sym (some_is (n, (s, a)) x e))
leader_answer_only _ x e = absurd cc

leader_answer_choice : (extent : Extent) (first : ℕ) → by_extent 36 38 extent ≡ first → (answer_fields extent).most ≤ MOST_RECORD - 1
    → IsChoice first_of_record (MOST_RECORD - 1) first (leader_answer extent)
leader_answer_choice extent first is within =
    choice_allowed first_of_record (MOST_RECORD - 1) first (λ p. LeaderAnswer p.0 p.1.0 p.1.1) leader_answer_of (answer_fields extent) (λ x. refl) leader_answer_only
    (λ p a.
    let behind = (and_parts (name.allowed p.0) ((span_as extent ⊗ answered).allowed p.1) a).1 in
    ap (by_extent 36 38) (span_extent extent p.1.0 (and_parts ((span_as extent).allowed p.1.0) (answered.allowed p.1.1) behind).0) ∙ is) (answer_fields_lawful extent) within

helper_front_open_only : (y : Record) (x : Format × ℕ) → helper_front_open_of y ≡ Some x → HelperFrontOpen x.0 x.1 ≡ y
helper_front_open_only (HelperFrontOpen f lanes) x e = ap (λ (p : Format × ℕ). HelperFrontOpen p.0 p.1) (sym (some_is (f, lanes) x e))
helper_front_open_only _ x e = absurd cc

helper_task_only : (y : Record) (x : StoredTask) → helper_task_of y ≡ Some x → HelperTask x ≡ y
helper_task_only (HelperTask t) x e = ap HelperTask (sym (some_is t x e))
helper_task_only _ x e = absurd cc

helper_task_choice : (f : Format) (first : ℕ) → by_format 50 55 f ≡ first → (task_fields f).most ≤ MOST_RECORD - 1 → IsChoice first_of_record (MOST_RECORD - 1) first (helper_task f)
helper_task_choice f first is within =
    choice_allowed first_of_record (MOST_RECORD - 1) first HelperTask helper_task_of (stored f) (λ x. refl) helper_task_only
    (λ t a. ap (by_format 50 55) (sym (stored_format f t a)) ∙ is) (stored_lawful f) within

helper_answer_only : (y : Record) (x : ShareReq × ShareResp) → helper_answer_of y ≡ Some x → HelperAnswer x.0 x.1 ≡ y
helper_answer_only (HelperAnswer q a) x e = ap (λ (p : ShareReq × ShareResp). HelperAnswer p.0 p.1) (sym (some_is (q, a) x e))
helper_answer_only _ x e = absurd cc

record_choices : (b : ℕ) (g : Grammar Record) → record_by b ≡ Some g → IsChoice first_of_record (MOST_RECORD - 1) b g
record_choices b g =
    one_of first_of_record (MOST_RECORD - 1) b 1 leader_open _ g (choice first_of_record (MOST_RECORD - 1) 1 (λ p. LeaderOpen p.0 p.1.0 p.1.1) leader_open_of lane_open (λ x. refl) leader_open_only (λ x. refl) lane_open_lawful (lit≤ tt))
    (one_of first_of_record (MOST_RECORD - 1) b 2 accept _ g (choice first_of_record (MOST_RECORD - 1) 2 Accept accept_of report (λ x. refl) accept_only (λ x. refl) report_lawful (lit≤ tt))
    (one_of first_of_record (MOST_RECORD - 1) b 3 continue_ _ g (choice first_of_record (MOST_RECORD - 1) 3 (λ p. Continue p.0 p.1.0 p.1.1) continue_of continue_fields (λ x. refl) continue_only (λ x. refl) continue_fields_lawful (lit≤ tt))
    (one_of first_of_record (MOST_RECORD - 1) b 4 finish _ g (choice first_of_record (MOST_RECORD - 1) 4 (λ p. Finish p.0 p.1) finish_of outcomes (λ x. refl) finish_only (λ x. refl) outcomes_lawful (lit≤ tt))
    (one_of first_of_record (MOST_RECORD - 1) b 5 leader_close _ g (choice first_of_record (MOST_RECORD - 1) 5 (λ p. LeaderClose p.0 p.1.0 p.1.1) leader_close_of close_fields (λ x. refl) leader_close_only (λ x. refl) close_fields_lawful (lit≤ tt))
    (one_of first_of_record (MOST_RECORD - 1) b 17 helper_open _ g (choice first_of_record (MOST_RECORD - 1) 17 (λ p. HelperOpen p.0 p.1.0 p.1.1) helper_open_of lane_open (λ x. refl) helper_open_only (λ x. refl) lane_open_lawful (lit≤ tt))
    (one_of first_of_record (MOST_RECORD - 1) b 18 start _ g (choice first_of_record (MOST_RECORD - 1) 18 (λ p. Start p.0 p.1.0 p.1.1) start_of start_fields (λ x. refl) start_only (λ x. refl) start_fields_lawful (lit≤ tt))
    (one_of first_of_record (MOST_RECORD - 1) b 19 commit _ g (choice first_of_record (MOST_RECORD - 1) 19 (λ p. Commit p.0 p.1) commit_of outcomes (λ x. refl) commit_only (λ x. refl) outcomes_lawful (lit≤ tt))
    (one_of first_of_record (MOST_RECORD - 1) b 20 helper_close _ g (choice first_of_record (MOST_RECORD - 1) 20 (λ p. HelperClose p.0 p.1.0 p.1.1) helper_close_of close_fields (λ x. refl) helper_close_only (λ x. refl) close_fields_lawful (lit≤ tt))
    (one_of first_of_record (MOST_RECORD - 1) b 33 leader_front_open _ g (choice first_of_record (MOST_RECORD - 1) 33 (λ p. LeaderFrontOpen p.0 p.1) leader_front_open_of front_open (λ x. refl) leader_front_open_only (λ x. refl) front_open_lawful (lit≤ tt))
    (one_of first_of_record (MOST_RECORD - 1) b 34 (leader_task One) _ g (leader_task_choice One 34 refl (lit≤ tt))
    (one_of first_of_record (MOST_RECORD - 1) b 39 (leader_task Two) _ g (leader_task_choice Two 39 refl (lit≤ tt))
    (one_of first_of_record (MOST_RECORD - 1) b 35 (ask Single) _ g (ask_choice Single 35 refl (lit≤ tt))
    (one_of first_of_record (MOST_RECORD - 1) b 36 (leader_answer Single) _ g (leader_answer_choice Single 36 refl (lit≤ tt))
    (one_of first_of_record (MOST_RECORD - 1) b 37 (ask Several) _ g (ask_choice Several 37 refl (lit≤ tt))
    (one_of first_of_record (MOST_RECORD - 1) b 38 (leader_answer Several) _ g (leader_answer_choice Several 38 refl (lit≤ tt))
    (one_of first_of_record (MOST_RECORD - 1) b 49 helper_front_open _ g (choice first_of_record (MOST_RECORD - 1) 49 (λ p. HelperFrontOpen p.0 p.1) helper_front_open_of front_open (λ x. refl) helper_front_open_only (λ x. refl) front_open_lawful (lit≤ tt))
    (one_of first_of_record (MOST_RECORD - 1) b 50 (helper_task One) _ g (helper_task_choice One 50 refl (lit≤ tt))
    (one_of first_of_record (MOST_RECORD - 1) b 55 (helper_task Two) _ g (helper_task_choice Two 55 refl (lit≤ tt))
    (one_of first_of_record (MOST_RECORD - 1) b 52 helper_answer _ g (choice first_of_record (MOST_RECORD - 1) 52 (λ p. HelperAnswer p.0 p.1) helper_answer_of exchange (λ x. refl) helper_answer_only (λ x. refl) exchange_lawful (lit≤ tt))
    (none_of first_of_record (MOST_RECORD - 1) b g))))))))))))))))))))

pub record_lawful : Lawful record_
record_lawful = by_first_lawful first_of_record record_by (MOST_RECORD - 1) record_choices

-- ---- a record by its form

pub leader_task_allowed : (t : StoredTask) → record_.allowed (LeaderTask t) ≡ (stored t.format).allowed t
leader_task_allowed t = go t.format where
  go : (f : Format) → allowed_chosen (record_by (by_format 34 39 f)) (LeaderTask t) ≡ (stored f).allowed t
  go One = refl
  go Two = refl

pub leader_task_spelled : (t : StoredTask) → record_.spell (LeaderTask t) ≡ by_format 34 39 t.format ∷ (stored t.format).spell t
leader_task_spelled t = go t.format where
  go : (f : Format) → by_format 34 39 f ∷ spell_chosen (record_by (by_format 34 39 f)) (LeaderTask t) ≡ by_format 34 39 f ∷ (stored f).spell t
  go One = refl
  go Two = refl

pub helper_task_allowed : (t : StoredTask) → record_.allowed (HelperTask t) ≡ (stored t.format).allowed t
helper_task_allowed t = go t.format where
  go : (f : Format) → allowed_chosen (record_by (by_format 50 55 f)) (HelperTask t) ≡ (stored f).allowed t
  go One = refl
  go Two = refl

pub helper_task_spelled : (t : StoredTask) → record_.spell (HelperTask t) ≡ by_format 50 55 t.format ∷ (stored t.format).spell t
helper_task_spelled t = go t.format where
  go : (f : Format) → by_format 50 55 f ∷ spell_chosen (record_by (by_format 50 55 f)) (HelperTask t) ≡ by_format 50 55 f ∷ (stored f).spell t
  go One = refl
  go Two = refl

pub ask_allowed : (n : List ℕ) (s : Span) → record_.allowed (Ask n s) ≡ (ask_fields (extent_of s)).allowed (n, s)
ask_allowed n s = go (extent_of s) where
  go : (e : Extent) → allowed_chosen (record_by (by_extent 35 37 e)) (Ask n s) ≡ (ask_fields e).allowed (n, s)
  go Single = refl
  go Several = refl

pub leader_answer_allowed : (n : List ℕ) (s : Span) (a : Answered) → record_.allowed (LeaderAnswer n s a) ≡ (answer_fields (extent_of s)).allowed (n, (s, a))
leader_answer_allowed n s a = go (extent_of s) where
  go : (e : Extent) → allowed_chosen (record_by (by_extent 36 38 e)) (LeaderAnswer n s a) ≡ (answer_fields e).allowed (n, (s, a))
  go Single = refl
  go Several = refl
