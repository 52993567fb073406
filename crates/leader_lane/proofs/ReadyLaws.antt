-- One upload more in a block.
use Rattle.std.proofs.Common.{◌≡◌, ℕ, suc, ◌+◌, ◌*◌, ◌≤◌, List, [], ◌∷◌, ◌++◌, length, map, reverse, Option, Some, None, refl, sym, ap, subst, ◌∙◌, append_assoc, append-nil, arith}
use Rattle.std.specs.Prelude.{IsTrue, IfSome, OnOk, OnErr, Result, Ok, Err, true}
use Rattle.dap_tasks.specs.declared.cause.Cause.{Cause}
use Rattle.std.specs.List.{list_all}
use Rattle.std.specs.Option.{option_map_or}
use Rattle.std.proofs.lemmas.List.{map-append, length-append}
use Rattle.std.proofs.lemmas.Grind.{flat_map-append}
use Rattle.dap_messages.specs.Messages.{report}
use Rattle.dap_messages.specs.declared.report.Report.{Report}
use Rattle.dap_messages.specs.declared.report.TheConstants.{MOST_REPORT}
use Rattle.dap_batch.specs.Group.{batch_start}
use Rattle.dap_bytes.specs.declared.node.Node.TheVariants.{Leader}
use Rattle.dap_bytes.specs.declared.part.Part.TheVariants.{Lane}
use Rattle.legal_journals.specs.Legal.{May}
use Rattle.legal_journals.specs.LegalLanes.{IsLeaderClosed}
use Rattle.std.proofs.lemmas.List.{reverse-append}
use Rattle.dap_tasks.specs.declared.cause.Cause.TheVariants as cause
use Rattle.dap_tasks.specs.declared.cause.Judged.{Judged}
use Rattle.dap_tasks.specs.declared.cause.Judged.TheVariants.{Again, Barred, Added}
use Rattle.dap_wire.specs.declared.upload.Upload.{Upload}
use Rattle.report_journal.specs.Journal.{body, framed}
use Rattle.dap_bytes.specs.declared.limits.TheConstants.{LONGEST_BLOCK}
use Rattle.lane_records.specs.declared.record.Record.{Record}
use Rattle.lane_records.specs.declared.record.Record.TheVariants.{Accept}
use Rattle.legal_journals.specs.History.{Mem}
use Rattle.lane_records.specs.Records.{record_}
use Rattle.dap_tasks.specs.declared.cause.Answer.{Answer}
use Rattle.leader_lane.specs.Judge.{reports_in, closes_in, Env, report_of, judge_report, added_by, cause_by, adds, tells, Judges}
use Rattle.leader_lane.specs.Sound.{IsPlace, opener_of, Sound}
use Rattle.leader_lane.specs.Own.{Own, Accepts, Steps, up_with}
use Rattle.leader_lane.specs.Ready.{most_accept, Ready}
use Rattle.leader_lane.proofs.JudgeLaws.{judges_none, judges_more}
use Rattle.leader_lane.proofs.SoundLaws.{mem_left, sound_more, sound_allowed, IsAdded, is_added, accept_may, not_closed}
use Rattle.leader_lane.proofs.OwnLaws.{steps_none, steps_then, one_step}

pub ready_none : (env : Env) (records : List Record) → Sound env.place records → Ready env records [] [] []
ready_none env records s = record {
  judges = subst (λ (l : List Record). Judges env records l [] []) (sym (append-nil records)) (judges_none env records);
  sound = subst (λ (l : List Record). Sound env.place l) (sym (append-nil records)) s;
  steps = steps_none env (up_with records []);
  size = omega arith;
}

-- a block that has just begun
pub ready_first : (env : Env) (records block : List Record) (answers : List Answer) → block ≡ [] → answers ≡ [] → Sound env.place records → Ready env records block answers []
ready_first env records block answers b a s =
    subst (λ (l : List Record). Ready env records l answers []) (sym b) (subst (λ (l : List Answer). Ready env records [] l []) (sym a) (ready_none env records s))

-- the begin of one Accept more
begins_more : (env : Env) (records block : List Record) (r : Report) → May Leader (Lane env.place.lane) (Accept r) (reverse (records ++ block)) → IsAdded env (closes_in (records ++ block)) (reports_in (records ++ block)) r
    → Steps env (up_with records []) (up_with records block) → Steps env (up_with records []) (up_with records (block ++ Accept r ∷ []))
begins_more env records block r may a s =
    let same : reverse (records ++ block) ≡ reverse block ++ reverse records = reverse-append records block in
    steps_then env (up_with records []) (up_with records block) (up_with records (block ++ Accept r ∷ [])) s
    (one_step env (up_with records block) (up_with records (block ++ Accept r ∷ [])) (Accepts a.task r) (
      refl,
      subst (λ (l : List Record). May Leader (Lane env.place.lane) (Accept r) l) same may,
      a.has,
      (λ c. not_closed (records ++ block) r.name (batch_start r.time a.task.precision) a.open_ (subst (λ (l : List Record). IsLeaderClosed r.name (batch_start r.time a.task.precision) l) (sym same) c)),
    )
    (ap (λ (l : List Record). let w : Own = record { l = reverse records; block = l; up = true } in w) (reverse-append block (Accept r ∷ []))))

length_framed : (bs : List ℕ) → length (framed bs) ≡ 4 + length bs
length_framed bs = omega arith

one_longer : (b : ℕ) (bs : List ℕ) → length (b ∷ bs) ≡ 1 + length bs
one_longer b bs = omega arith

body_more : (block : List Record) (r : Report) → length (report.spell r) ≤ MOST_REPORT → length (body (map record_.spell (block ++ Accept r ∷ []))) ≤ length (body (map record_.spell block)) + most_accept
body_more block r h =
    let e : body (map record_.spell (block ++ Accept r ∷ [])) ≡ body (map record_.spell block) ++ (framed (record_.spell (Accept r)) ++ []) =
    ap body (map-append record_.spell block (Accept r ∷ [])) ∙ flat_map-append framed (map record_.spell block) (record_.spell (Accept r) ∷ []) in
    let f : length (record_.spell (Accept r)) ≡ 1 + length (report.spell r) = one_longer 2 (report.spell r) in
    let g = length_framed (record_.spell (Accept r)) in
    let n : length (body (map record_.spell (block ++ Accept r ∷ []))) ≡ length (body (map record_.spell block)) + length (framed (record_.spell (Accept r)) ++ []) = ap length e ∙ length-append (body (map record_.spell block)) (framed (record_.spell (Accept r)) ++ []) in
    let k : length (framed (record_.spell (Accept r)) ++ []) ≡ length (framed (record_.spell (Accept r))) = ap length (append-nil (framed (record_.spell (Accept r)))) in
    omega (arith, n, f, g, k, h)

more_us : (us : List Upload) (u : Upload) → length (us ++ u ∷ []) ≡ suc (length us)
more_us [] u = refl
more_us (x ∷ us) u = ap suc (more_us us u)

module _ (env : Env) (is : IsPlace env.place) (records block : List Record) (answers : List Answer) (us : List Upload) (u : Upload) (k : Ready env records block answers us) where
  abbrev whole : List Record
  whole = records ++ block

  -- its bytes are no report
  pub ready_form : report_of u ≡ None → Ready env records block (answers ++ record { line = u.line; cause = Some cause.Form } ∷ []) (us ++ u ∷ [])
  ready_form e =
      let no : adds env (closes_in whole) (reports_in whole) u ≡ [] = ap (λ (o : Option Report). added_by (option_map_or (judge_report env (closes_in whole) (reports_in whole) u) o (Barred cause.Form)) o) e in
      let tell : tells env (closes_in whole) (reports_in whole) u ≡ record { line = u.line; cause = Some cause.Form } =
      ap (λ (o : Option Report). let a : Answer = record { line = u.line; cause = cause_by (option_map_or (judge_report env (closes_in whole) (reports_in whole) u) o (Barred cause.Form)) } in a) e in
      record {
        judges = subst (λ (a : Answer). Judges env records whole (us ++ u ∷ []) (answers ++ a ∷ [])) tell
            (subst (λ (l : List Record). Judges env records l (us ++ u ∷ []) (answers ++ tells env (closes_in whole) (reports_in whole) u ∷ [])) (append-nil whole)
            (judges_more env records whole us answers u [] [] k.judges no refl refl));
        sound = k.sound;
        steps = k.steps;
        size = let a = k.size in let b = more_us us u in omega (arith, a, b);
      }

  -- it is judged
  pub ready_judged : (r : Report) (j : Judged) → Mem (opener_of env.place) records → report_of u ≡ Some r → IsTrue (report.allowed r) → length (report.spell r) ≤ MOST_REPORT → judge_report env (closes_in whole) (reports_in whole) u r ≡ j
      → Ready env records (block ++ map Accept (added_by j (Some r))) (answers ++ record { line = u.line; cause = cause_by j } ∷ []) (us ++ u ∷ [])
  ready_judged r j knows e allowed short is_j =
      let add : adds env (closes_in whole) (reports_in whole) u ≡ added_by j (Some r) =
      ap (λ (o : Option Report). added_by (option_map_or (judge_report env (closes_in whole) (reports_in whole) u) o (Barred cause.Form)) o) e ∙ ap (λ (z : Judged). added_by z (Some r)) is_j in
      let tell : tells env (closes_in whole) (reports_in whole) u ≡ record { line = u.line; cause = cause_by j } =
      ap (λ (o : Option Report). let a : Answer = record { line = u.line; cause = cause_by (option_map_or (judge_report env (closes_in whole) (reports_in whole) u) o (Barred cause.Form)) } in a) e
      ∙ ap (λ (z : Judged). let a : Answer = record { line = u.line; cause = cause_by z } in a) is_j in
      go j is_j add tell
    where
      go : (j : Judged) → judge_report env (closes_in whole) (reports_in whole) u r ≡ j → adds env (closes_in whole) (reports_in whole) u ≡ added_by j (Some r) → tells env (closes_in whole) (reports_in whole) u ≡ record { line = u.line; cause = cause_by j }
          → Ready env records (block ++ map Accept (added_by j (Some r))) (answers ++ record { line = u.line; cause = cause_by j } ∷ []) (us ++ u ∷ [])
      go Added is_j add tell =
          let a : IsAdded env (closes_in whole) (reports_in whole) r = is_added env (closes_in whole) (reports_in whole) u r is_j in
          let may : May Leader (Lane env.place.lane) (Accept r) (reverse whole) = accept_may env whole r is (mem_left (opener_of env.place) records block knows) allowed a in
          record {
            judges = subst (λ (l : List Record). Judges env records l (us ++ u ∷ []) (answers ++ record { line = u.line; cause = None } ∷ [])) (append_assoc records block (Accept r ∷ []))
                (subst (λ (a : Answer). Judges env records (whole ++ Accept r ∷ []) (us ++ u ∷ []) (answers ++ a ∷ [])) tell
                (judges_more env records whole us answers u (r ∷ []) (Accept r ∷ []) k.judges add refl refl));
            sound = subst (λ (l : List Record). Sound env.place l) (append_assoc records block (Accept r ∷ []))
                (sound_more env.place whole (Accept r) k.sound may (λ n no. absurd (cc no)));
            steps = begins_more env records block r may a k.steps;
            size = let n = k.size in let b = more_us us u in let c = body_more block r short in omega (arith, n, b, c);
          }
      go Again is_j add tell = record {
        judges = subst (λ (a : Answer). Judges env records (records ++ (block ++ [])) (us ++ u ∷ []) (answers ++ a ∷ [])) tell
            (subst (λ (l : List Record). Judges env records l (us ++ u ∷ []) (answers ++ tells env (closes_in whole) (reports_in whole) u ∷ [])) (append_assoc records block [])
            (judges_more env records whole us answers u [] [] k.judges add refl refl));
        sound = subst (λ (l : List Record). Sound env.place (records ++ l)) (sym (append-nil block)) k.sound;
        steps = subst (λ (l : List Record). Steps env (up_with records []) (up_with records l)) (sym (append-nil block)) k.steps;
        size = subst (λ (l : List Record). length (body (map record_.spell l)) ≤ length (us ++ u ∷ []) * most_accept) (sym (append-nil block)) (let a = k.size in let b = more_us us u in omega (arith, a, b));
      }
      go (Barred why) is_j add tell = record {
        judges = subst (λ (a : Answer). Judges env records (records ++ (block ++ [])) (us ++ u ∷ []) (answers ++ a ∷ [])) tell
            (subst (λ (l : List Record). Judges env records l (us ++ u ∷ []) (answers ++ tells env (closes_in whole) (reports_in whole) u ∷ [])) (append_assoc records block [])
            (judges_more env records whole us answers u [] [] k.judges add refl refl));
        sound = subst (λ (l : List Record). Sound env.place (records ++ l)) (sym (append-nil block)) k.sound;
        steps = subst (λ (l : List Record). Steps env (up_with records []) (up_with records l)) (sym (append-nil block)) k.steps;
        size = subst (λ (l : List Record). length (body (map record_.spell l)) ≤ length (us ++ u ∷ []) * most_accept) (sym (append-nil block)) (let a = k.size in let b = more_us us u in omega (arith, a, b));
      }

pub none_is : (o : Option Report) → ((r : Report) → o ≡ Some r → ⊥) → o ≡ None
none_is None other = refl
none_is (Some r) other = absurd (other r refl)

pub spelled_some : (u : Upload) (o : Option Report) (r : Report) → o ≡ Some r → IfSome o (λ q. IsTrue (report.allowed q) × (u.report ≡ report.spell q)) → IsTrue (report.allowed r) × (u.report ≡ report.spell r)
spelled_some u (Some q) r e p = let same : q ≡ r = cc e in subst (λ (y : Report). (report.allowed y ≡ true) × (u.report ≡ report.spell y)) same p
spelled_some u None r e p = absurd (cc e)

pub on_ok_then : {A E : Type 0} {P Q : Type 0} (r : Result A E) → (P → Q) → OnOk r P → OnOk r Q
on_ok_then (Ok a) f p = f p
on_ok_then (Err e) f p = tt

pub on_err_then : {A E : Type 0} {P Q : Type 0} (r : Result A E) → (P → Q) → OnErr r P → OnErr r Q
on_err_then (Ok a) f p = tt
on_err_then (Err e) f p = f p

pub ready_form_as : (env : Env) (records block : List Record) (answers given : List Answer) (us : List Upload) (u : Upload) → IsPlace env.place → report_of u ≡ None
    → given ≡ answers ++ record { line = u.line; cause = Some cause.Form } ∷ [] → Ready env records block answers us → Ready env records block given (us ++ u ∷ [])
ready_form_as env records block answers given us u is e g k = subst (λ (l : List Answer). Ready env records block l (us ++ u ∷ [])) (sym g) (ready_form env is records block answers us u k e)

pub ready_judged_as : (env : Env) (records block ys zs : List Record) (answers given : List Answer) (us : List Upload) (u : Upload) (r : Report) (j : Judged) (why : Option Cause)
    → IsPlace env.place → Mem (opener_of env.place) records → ys ≡ block → report_of u ≡ Some r → IsTrue (report.allowed r) → length (report.spell r) ≤ MOST_REPORT
    → j ≡ judge_report env (closes_in (records ++ ys)) (reports_in (records ++ ys)) u r → why ≡ cause_by j → given ≡ answers ++ record { line = u.line; cause = why } ∷ [] → zs ≡ block ++ map Accept (added_by j (Some r))
    → Ready env records block answers us → Ready env records zs given (us ++ u ∷ [])
ready_judged_as env records block ys zs answers given us u r j why is knows y e allowed short is_j w g z k =
    let at : judge_report env (closes_in (records ++ block)) (reports_in (records ++ block)) u r ≡ j = ap (λ (l : List Record). judge_report env (closes_in (records ++ l)) (reports_in (records ++ l)) u r) (sym y) ∙ sym is_j in
    subst (λ (l : List Record). Ready env records l given (us ++ u ∷ [])) (sym z)
    (subst (λ (l : List Answer). Ready env records (block ++ map Accept (added_by j (Some r))) l (us ++ u ∷ [])) (sym (g ∙ ap (λ (c : Option Cause). let a : Answer = record { line = u.line; cause = c } in answers ++ a ∷ []) w))
    (ready_judged env is records block answers us u k r j knows e allowed short at))

pub allowed_in : (env : Env) (records block ys : List Record) → ys ≡ block → Sound env.place (records ++ block) → IsTrue (list_all record_.allowed (records ++ ys))
allowed_in env records block ys y s = subst (λ (l : List Record). list_all record_.allowed (records ++ l) ≡ true) (sym y) (sound_allowed env.place (records ++ block) s)

-- the block of so many uploads fits
pub ready_fits : (env : Env) (records block : List Record) (answers : List Answer) (us : List Upload) → Ready env records block answers us → length us ≤ 64 → length (body (map record_.spell block)) ≤ LONGEST_BLOCK
ready_fits env records block answers us k few = (let s = k.size in omega (arith, s, few))
