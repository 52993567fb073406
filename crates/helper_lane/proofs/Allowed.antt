-- A record that a reply asks for may follow, and a reply has a spelling.
use Rattle.std.proofs.Common.{◌≡◌, ◌⊎◌, inl, inr, ℕ, ◌==◌, ◌≤◌, Bool, true, false, ◌&&◌, List, [], ◌∷◌, length, Option, Some, None, Ok, refl, sym, ap, subst, ◌∙◌, arith, bytes_eq}
use Rattle.std.specs.Prelude.{nat_le}
use Rattle.std.specs.List.{find, list_any, list_all}
use Rattle.std.proofs.lemmas.Bool.{and_parts, and_from, eqb-true, leb-false, true≢false}
use Rattle.std.proofs.lemmas.Slice.Eq.{bytes_eq-Decides}
use Rattle.dap_bytes.specs.declared.node.Node.TheVariants.{Helper}
use Rattle.dap_bytes.specs.declared.part.Part.TheVariants.{Lane}
use Rattle.dap_batch.specs.Group.{batch_start, lane_number}
use Rattle.vdaf_api.specs.declared.kind.Kind.{Kind}
use Rattle.vdaf_api.specs.declared.role.Role.TheVariants as roles
use Rattle.vdaf_api.specs.Functions.{Functions}
use Rattle.vdaf_api.specs.Promises.{FunctionLaws}
use Rattle.vdaf_api.specs.VectorLaws.{Spells, vector_of-back}
use Rattle.vdaf_api.specs.Vectors.{IsOut}
use Rattle.vdaf_api.specs.Verdict.{Opened, helper_share, helper_out, out_of, or_invalid}
use Rattle.dap_messages.specs.declared.job.JobNo.{JobNo}
use Rattle.dap_messages.specs.declared.body.Half.{Half}
use Rattle.dap_messages.specs.declared.body.Step.{Step}
use Rattle.dap_messages.specs.declared.body.Step.TheVariants as steps
use Rattle.dap_messages.specs.declared.body.Status.{Status}
use Rattle.dap_messages.specs.declared.item.Tagged.{Tagged}
use Rattle.dap_messages.specs.declared.message.Message.{Message}
use Rattle.dap_messages.specs.declared.message.Message.TheVariants.{InitReq, InitResp, ContResp}
use Rattle.dap_messages.specs.Grammar.{whole, items, name, is_between}
use Rattle.dap_messages.specs.Forms.{job, half, step, status}
use Rattle.dap_messages.specs.Messages.{message}
use Rattle.dap_messages.specs.MessageLaws.{message_lawful}
use Rattle.dap_messages.specs.Laws.{whole_takes}
use Rattle.dap_messages.specs.Items.{ids_of}
use Rattle.dap_messages.specs.Jobs.{is_same_job}
use Rattle.dap_seal.specs.Steps.{half_opened, outcome_with, or_code, prep_by, step_told}
use Rattle.dap_tasks.specs.Task.{PlainTask, has_name}
use Rattle.lane_records.specs.declared.outcome.Outcome.{Outcome}
use Rattle.lane_records.specs.declared.outcome.Outcome.TheVariants.{Finished, Failed}
use Rattle.lane_records.specs.declared.record.Record.{Record}
use Rattle.lane_records.specs.declared.record.Record.TheVariants.{Start, Commit}
use Rattle.lane_records.specs.Records.{record_}
use Rattle.lane_records.specs.Stored.{outcome}
use Rattle.legal_journals.specs.History.{Mem, first, IsOfLane}
use Rattle.legal_journals.specs.LaneTests.{was_finished, helper_closes, finishes, commits_report, starts_under, is_finished}
use Rattle.legal_journals.specs.Legal.{May}
use Rattle.legal_journals.specs.LegalLanes.{IsStarted, IsCommitted, WasFinished}
use Rattle.legal_journals.proofs.Members.{any_told, all_tells}
use Rattle.legal_journals.proofs.ItemTests.{same_ids-Decides}
use Rattle.legal_journals.proofs.Grown.{legal_allowed, halves_allowed}
use Rattle.lane_records.proofs.Entries.{all_bytes}
use Rattle.helper_lane.specs.Reply.{Env, Reacts, Started, start_if, commit_if, same_start, is_here, status_of, is_mine, first_item, first_steps, as_outcome, prepared_outcome, if_new, by_records, outcomes, told_outcome, told_outcomes, reply}
use Rattle.helper_lane.specs.Replies.{IsEnv, KnowsLanes, AreBytes, IsLegalHere}
use Rattle.helper_lane.proofs.Members.{first_some, first_none, start_found, start_shown, commit_shown, commit_found, same_self, opens_some}
use Rattle.helper_lane.proofs.Items.{items_again, ids_map, mem_map}
use Rattle.helper_lane.proofs.Rests.{Inits, Conts, looks}

-- ---- bodies have spellings

pub within : (n k : ℕ) → n ≤ k → nat_le n k ≡ true
within n k h = go (nat_le n k) refl where
  go : (b : Bool) → nat_le n k ≡ b → b ≡ true
  go true e = refl
  go false e = let lt = leb-false n k e in absurd (omega arith)

bytes_fit : (bs : List ℕ) (most : ℕ) → length bs ≤ most → (is_between 0 most (length bs) && true) ≡ true
bytes_fit bs most h = and_from (is_between 0 most (length bs)) true (and_from (nat_le 0 (length bs)) (nat_le (length bs) most) (within 0 (length bs) (omega arith)) (within (length bs) most h)) refl

module _ (f : Functions) (laws : FunctionLaws f) where
  invalid_fits : (o : Option (List ℕ)) → ((s : List ℕ) → o ≡ Some s → length s ≤ 1024) → step.allowed (step_told (or_invalid o)) ≡ true
  invalid_fits (Some s) h = bytes_fit s 1024 (h s refl)
  invalid_fits None h = refl

  share_fits : (r : Opened) (o : Option (List ℕ)) → step.allowed (step_told (helper_share f r o)) ≡ true
  share_fits r (Some input) = invalid_fits (f.share roles.Helper r.key r.id r.public input) (λ s e. laws.share roles.Helper r.key r.id r.public input s e)
  share_fits r None = refl

  outs_fit : (out : List ℕ) → IsOut f.space out → length out ≤ 16384
  outs_fit out is =
      let s = f.space in
      let spells : Spells s.modulus s.width s.size out is.0 = vector_of-back s.modulus s.width s.size out is.0 is.1 in
      omega (arith, spells.bytes, laws.space.few_entries)

  out_is : (r : Opened) (o : Option (List ℕ)) (prep out : List ℕ) → out_of f roles.Helper r o prep ≡ Some out → IsOut f.space out
  out_is r (Some input) prep out e = laws.out roles.Helper r.key r.id r.public input prep out e
  out_is r None prep out e = absurd (cc e)

  code_fits : (r : Opened) (prep : List ℕ) (o : Option (List ℕ)) → helper_out f r prep ≡ o → outcome.allowed (as_outcome (or_code o)) ≡ true
  code_fits r prep (Some out) e = bytes_fit out 16384 (outs_fit out (out_is r r.helper prep out e))
  code_fits r prep None e = refl

  after_fits : (r : Opened) (own item : Step) → outcome.allowed (as_outcome (outcome_with f r own item)) ≡ true
  after_fits r (steps.Continued share) (steps.Continued prep) = code_fits r prep (helper_out f r prep) refl
  after_fits r (steps.Continued share) (steps.Failed c) = refl
  after_fits r (steps.Failed c) item = refl

module _ (f : Kind → Functions) (t : PlainTask) (laws : FunctionLaws (f t.kind)) (n : List ℕ) (l : List Record) where
  new_fits : (closed was : Bool) (out : List ℕ) → outcome.allowed (Finished out) ≡ true → outcome.allowed (if_new closed was out) ≡ true
  new_fits true was out a = refl
  new_fits false true out a = refl
  new_fits false false out a = a

  records_fit : (h : Tagged Half) (o : Outcome) → outcome.allowed o ≡ true → outcome.allowed (by_records t n h l o) ≡ true
  records_fit h (Finished out) a = new_fits (list_any (helper_closes n (batch_start h.body.time t.precision)) l) (was_finished n h.id l) out a
  records_fit h (Failed c) a = refl

  outcomes_fit : (hs : List (Tagged Half)) (xs : List (Tagged Step)) (y : Tagged Outcome) → Mem y (outcomes f t n l hs xs) → outcome.allowed y.body ≡ true
  outcomes_fit [] xs y m = elim m [ ]
  outcomes_fit (h ∷ hs) [] y m = elim m [ ]
  outcomes_fit (h ∷ hs) (x ∷ xs) y (inl e) =
      subst (λ (z : Tagged Outcome). outcome.allowed z.body ≡ true) (sym e) (records_fit h (prepared_outcome f t n h x.body) (after_fits (f t.kind) laws (half_opened t n h) (prep_by f t n h) x.body))
  outcomes_fit (h ∷ hs) (x ∷ xs) y (inr m) = outcomes_fit hs xs y m

  outcome_ids : (hs : List (Tagged Half)) (xs : List (Tagged Step)) → ids_of hs ≡ ids_of xs → ids_of (outcomes f t n l hs xs) ≡ ids_of hs
  outcome_ids [] xs e = refl
  outcome_ids (h ∷ hs) [] e = absurd (cc e)
  outcome_ids (h ∷ hs) (x ∷ xs) e =
      let rest : ids_of hs ≡ ids_of xs = cc e in
      let b = outcome_ids hs xs rest in
      cc

  -- a report that was finished is not finished again
  new_only : (closed was : Bool) (out o : List ℕ) → if_new closed was out ≡ Finished o → was ≡ false
  new_only true was out o e = absurd (cc e)
  new_only false true out o e = absurd (cc e)
  new_only false false out o e = refl

  records_only : (h : Tagged Half) (o : Outcome) (out : List ℕ) → by_records t n h l o ≡ Finished out → was_finished n h.id l ≡ false
  records_only h (Finished x) out e = new_only (list_any (helper_closes n (batch_start h.body.time t.precision)) l) (was_finished n h.id l) x out e
  records_only h (Failed c) out e = absurd (cc e)

  finished_new : (hs : List (Tagged Half)) (xs : List (Tagged Step)) (id out : List ℕ) → Mem (record { id = id; body = Finished out }) (outcomes f t n l hs xs) → was_finished n id l ≡ false
  finished_new [] xs id out m = elim m [ ]
  finished_new (h ∷ hs) [] id out m = elim m [ ]
  finished_new (h ∷ hs) (x ∷ xs) id out (inl e) =
      let same : id ≡ h.id = ap (λ (z : Tagged Outcome). z.id) e in
      let is : Finished out ≡ by_records t n h l (prepared_outcome f t n h x.body) = ap (λ (z : Tagged Outcome). z.body) e in
      subst (λ (i : List ℕ). was_finished n i l ≡ false) (sym same) (records_only h (prepared_outcome f t n h x.body) out (sym is))
  finished_new (h ∷ hs) (x ∷ xs) id out (inr m) = finished_new hs xs id out m

-- ---- what the tests say

same_bytes : (x : List ℕ) → bytes_eq x x ≡ true
same_bytes x = (bytes_eq-Decides x x).1 refl

was_told : (n id : List ℕ) (l : List Record) → WasFinished n id l → was_finished n id l ≡ true
was_told n id l (j, hs, outs, started, committed, f) =
    any_told (commits_report n id l) l (Commit j outs) committed
    (and_from (finishes id outs) (list_any (starts_under n j) l)
    (any_told (λ (x : Tagged Outcome). bytes_eq x.id id && is_finished x.body) outs (record { id = id; body = Finished f.0 }) f.1 (and_from (bytes_eq id id) true (same_bytes id) refl))
    (any_told (starts_under n j) l (Start j n hs) started (and_from (is_same_job j j) (bytes_eq n n) (same_self j) (same_bytes n))))

module _ (env : Env) (is : IsEnv env) (l : List Record) (legal : IsLegalHere env l) where
  mine_lane : {B : Type 0} (j : JobNo) (xs : List (Tagged B)) → is_mine env.lanes env.lane j xs ≡ true → (j.lane ≡ env.lane) × (list_all (λ (x : Tagged B). is_here env.lanes env.lane x.id) xs ≡ true)
  mine_lane {B} j xs e = let p = and_parts (j.lane == env.lane) (list_all (λ (x : Tagged B). is_here env.lanes env.lane x.id) xs) e in (eqb-true j.lane env.lane p.0, p.1)

  of_lane : {B : Type 0} (xs : List (Tagged B)) → KnowsLanes env l → list_all (λ (x : Tagged B). is_here env.lanes env.lane x.id) xs ≡ true → (id : List ℕ) → Mem id (ids_of xs) → IsOfLane env.lane id l
  of_lane {B} xs knows e id m =
      let w = mem_map (λ (x : Tagged B). x.id) id xs m in
      let here : lane_number w.0.id env.lanes ≡ env.lane = eqb-true (lane_number w.0.id env.lanes) env.lane (all_tells (λ (x : Tagged B). is_here env.lanes env.lane x.id) xs e w.0 w.1) in
      (knows.0, env.lanes, knows.1, knows.2, is.some_lane, ap (λ (i : List ℕ). lane_number i env.lanes) w.2 ∙ here)

  not_started : (j : JobNo) → first (start_if j) l ≡ None → ¬ (IsStarted j l)
  not_started j e (n, hs, m) =
      let none = first_none (start_if j) l (Start j n hs) e m in
      let some = start_shown j n hs in
      absurd (cc (none, some))

  not_committed : (j : JobNo) → first (commit_if j) l ≡ None → ¬ (IsCommitted j l)
  not_committed j e (outs, m) =
      let none = first_none (commit_if j) l (Commit j outs) e m in
      let some = commit_shown j outs in
      absurd (cc (none, some))

  start_stands : (j : JobNo) (s : Started) → first (start_if j) l ≡ Some s → Mem (Start j s.name s.halves) l
  start_stands j s e =
      let w = first_some (start_if j) l s e in
      subst (λ (x : Record). Mem x l) (start_found j w.0 s w.2) w.1

  start_allowed : (j : JobNo) (s : Started) → first (start_if j) l ≡ Some s → record_.allowed (Start j s.name s.halves) ≡ true
  start_allowed j s e = legal_allowed Helper (Lane env.lane) l (Start j s.name s.halves) legal (start_stands j s e)

  request_allowed : (b : List ℕ) (j : JobNo) (n : List ℕ) (hs : List (Tagged Half)) → AreBytes b → whole message b ≡ Ok (InitReq j n hs) → record_.allowed (Start j n hs) ≡ true
  request_allowed b j n hs bytes w = (whole_takes message message_lawful b (InitReq j n hs) (all_bytes b bytes) w).0

  task_laws : (n : List ℕ) (t : PlainTask) → find (has_name n) env.tasks ≡ Some t → FunctionLaws (env.functions t.kind)
  task_laws n t e = is.laws t.kind (is.kinds n t e)

  commit_allowed : (j : JobNo) (s : Started) (t : PlainTask) (xs : List (Tagged Step)) → first (start_if j) l ≡ Some s → find (has_name s.name) env.tasks ≡ Some t → ids_of s.halves ≡ ids_of xs
      → record_.allowed (Commit j (outcomes env.functions t s.name l s.halves xs)) ≡ true
  commit_allowed j s t xs started found same =
      let a = start_allowed j s started in
      let p = and_parts (job.allowed j) (name.allowed s.name && (items half).allowed s.halves) a in
      let laws = task_laws s.name t found in
      and_from (job.allowed j) ((items outcome).allowed (outcomes env.functions t s.name l s.halves xs)) p.0
      (items_again half outcome s.halves (outcomes env.functions t s.name l s.halves xs) (outcome_ids env.functions t laws s.name l s.halves xs same) (outcomes_fit env.functions t laws s.name l s.halves xs)
      (halves_allowed j s.name s.halves a))

  inits_allowed : (b : List ℕ) (x : Record) (m : Message) → AreBytes b → KnowsLanes env l → Inits env l b (Some x) m → May Helper (Lane env.lane) x l
  inits_allowed b x m bytes knows i = go i.known where
    go : ((Some x ≡ Some (Start i.job i.name i.halves)) × (first (start_if i.job) l ≡ None)) ⊎ ((Some x ≡ None) × ((s : Started) × (first (start_if i.job) l ≡ Some s) × (same_start s i.name i.halves ≡ true))) → May Helper (Lane env.lane) x l
    go (inl new) =
        let same : x ≡ Start i.job i.name i.halves = cc new.0 in
        let mine = mine_lane i.job i.halves i.mine in
        subst (λ (z : Record). May Helper (Lane env.lane) z l) (sym same)
        (request_allowed b i.job i.name i.halves bytes i.whole_is, (λ _. opens_some knows.0 env.lanes l knows.1 knows.2), (mine.0, of_lane i.halves knows mine.1, not_started i.job new.1))
    go (inr old) = absurd (cc old.0)

  conts_allowed : (b : List ℕ) (x : Record) (m : Message) → KnowsLanes env l → Conts env l b (Some x) m → May Helper (Lane env.lane) x l
  conts_allowed b x m knows i = go i.known where
    go : ((Some x ≡ Some (Commit i.job i.outs)) × (first (commit_if i.job) l ≡ None) × (i.outs ≡ outcomes env.functions i.task i.start.name l i.start.halves i.items)) ⊎ ((Some x ≡ None) × (first (commit_if i.job) l ≡ Some i.outs)) → May Helper (Lane env.lane) x l
    go (inl new) =
        let outs : List (Tagged Outcome) = outcomes env.functions i.task i.start.name l i.start.halves i.items in
        let same : x ≡ Commit i.job outs = (let s : x ≡ Commit i.job i.outs = cc new.0 in s ∙ ap (λ (os : List (Tagged Outcome)). Commit i.job os) new.2) in
        let ids : ids_of i.start.halves ≡ ids_of i.items = (same_ids-Decides i.start.halves i.items).0 i.same in
        let laws = task_laws i.start.name i.task i.found in
        subst (λ (z : Record). May Helper (Lane env.lane) z l) (sym same) (
          commit_allowed i.job i.start i.task i.items i.started i.found ids,
          (λ _. opens_some knows.0 env.lanes l knows.1 knows.2),
          (
            (
              i.start.name,
              i.start.halves,
              start_stands i.job i.start i.started,
              sym (outcome_ids env.functions i.task laws i.start.name l i.start.halves i.items ids),
              λ id f was. let no = finished_new env.functions i.task laws i.start.name l i.start.halves i.items id f.0 f.1 in let yes = was_told i.start.name id l was in absurd (true≢false (sym yes ∙ no)),
            ),
            not_committed i.job new.1,
          ),
        )
    go (inr old) = absurd (cc old.0)

pub record_allowed : (env : Env) → IsEnv env → (l : List Record) (b : List ℕ) (x : Record) (m : Message) → AreBytes b → IsLegalHere env l → KnowsLanes env l → reply env l b ≡ Reacts (Some x) m → May Helper (Lane env.lane) x l
record_allowed env is l b x m bytes legal knows e = go (looks env l b (Some x) m e) where
  go : Inits env l b (Some x) m ⊎ Conts env l b (Some x) m → May Helper (Lane env.lane) x l
  go (inl i) = inits_allowed env is l legal b x m bytes knows i
  go (inr i) = conts_allowed env is l legal b x m knows i

-- ---- replies have spellings

status_fits : (o : Outcome) → status.allowed (status_of o) ≡ true
status_fits (Finished out) = refl
status_fits (Failed c) = refl

told_fits : (j : JobNo) (outs : List (Tagged Outcome)) → record_.allowed (Commit j outs) ≡ true → message.allowed (ContResp j (told_outcomes outs)) ≡ true
told_fits j outs a =
    let p = and_parts (job.allowed j) ((items outcome).allowed outs) a in
    and_from (job.allowed j) ((items status).allowed (told_outcomes outs)) p.0
    (items_again outcome status outs (told_outcomes outs) (ids_map told_outcome outs (λ x. refl)) (λ y m. let w = mem_map told_outcome y outs m in subst (λ (z : Tagged Status). status.allowed z.body ≡ true) (sym w.2) (status_fits w.0.body)) p.1)

module _ (env : Env) (is : IsEnv env) (l : List Record) (legal : IsLegalHere env l) where
  steps_fit : (j : JobNo) (n : List ℕ) (hs : List (Tagged Half)) (t : PlainTask) → FunctionLaws (env.functions t.kind) → record_.allowed (Start j n hs) ≡ true → message.allowed (InitResp j (first_steps env.functions t n hs)) ≡ true
  steps_fit j n hs t laws a =
      let p = and_parts (job.allowed j) (name.allowed n && (items half).allowed hs) a in
      and_from (job.allowed j) ((items step).allowed (first_steps env.functions t n hs)) p.0
      (items_again half step hs (first_steps env.functions t n hs) (ids_map (first_item env.functions t n) hs (λ x. refl))
      (λ y m. let w = mem_map (first_item env.functions t n) y hs m in
      subst (λ (z : Tagged Step). step.allowed z.body ≡ true) (sym w.2) (share_fits (env.functions t.kind) laws (half_opened t n w.0) (half_opened t n w.0).helper))
      (halves_allowed j n hs a))

  inits_spelled : (b : List ℕ) (o : Option Record) (m : Message) → AreBytes b → Inits env l b o m → message.allowed m ≡ true
  inits_spelled b o m bytes i =
      subst (λ (z : Message). message.allowed z ≡ true) (sym i.says)
      (steps_fit i.job i.name i.halves i.task (task_laws env is l legal i.name i.task i.found) (request_allowed env is l legal b i.job i.name i.halves bytes i.whole_is))

  conts_spelled : (b : List ℕ) (o : Option Record) (m : Message) → Conts env l b o m → message.allowed m ≡ true
  conts_spelled b o m i = subst (λ (z : Message). message.allowed z ≡ true) (sym i.says) (told_fits i.job i.outs (go i.known)) where
    go : ((o ≡ Some (Commit i.job i.outs)) × (first (commit_if i.job) l ≡ None) × (i.outs ≡ outcomes env.functions i.task i.start.name l i.start.halves i.items)) ⊎ ((o ≡ None) × (first (commit_if i.job) l ≡ Some i.outs)) → record_.allowed (Commit i.job i.outs) ≡ true
    go (inl new) =
        let ids : ids_of i.start.halves ≡ ids_of i.items = (same_ids-Decides i.start.halves i.items).0 i.same in
        subst (λ (os : List (Tagged Outcome)). record_.allowed (Commit i.job os) ≡ true) (sym new.2) (commit_allowed env is l legal i.job i.start i.task i.items i.started i.found ids)
    go (inr old) =
        let w = first_some (commit_if i.job) l i.outs old.1 in
        legal_allowed Helper (Lane env.lane) l (Commit i.job i.outs) legal (subst (λ (x : Record). Mem x l) (commit_found i.job w.0 i.outs w.2) w.1)

pub reply_spelled : (env : Env) → IsEnv env → (l : List Record) (b : List ℕ) (o : Option Record) (m : Message) → AreBytes b → IsLegalHere env l → reply env l b ≡ Reacts o m → message.allowed m ≡ true
reply_spelled env is l b o m bytes legal e = go (looks env l b o m e) where
  go : Inits env l b o m ⊎ Conts env l b o m → message.allowed m ≡ true
  go (inl i) = inits_spelled env is l legal b o m bytes i
  go (inr i) = conts_spelled env is l legal b o m i
