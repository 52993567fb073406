-- Records that suit what a lane is made with, one by one and together.
use Rattle.std.proofs.Common.{◌≡◌, ℕ, ◌==◌, true, List, reverse, Option, Some, None, refl, sym, ap, subst}
use Rattle.std.specs.Prelude.{◌↔◌, is_some}
use Rattle.std.specs.List.{find, list_all}
use Rattle.std.proofs.lemmas.Bool.{and_parts, and_from, eqb-true}
use Rattle.std.specs.Cmp.{unsigned_Decides}
use Rattle.dap_messages.specs.declared.body.Half.{Half}
use Rattle.dap_messages.specs.declared.item.Tagged.{Tagged}
use Rattle.dap_messages.specs.declared.job.JobNo.{JobNo}
use Rattle.dap_tasks.specs.Task.{PlainTask, has_name}
use Rattle.lane_records.specs.declared.record.Record.{Record}
use Rattle.lane_records.specs.declared.record.Record.TheVariants.{Start}
use Rattle.legal_journals.specs.History.{Mem, lanes_in}
use Rattle.legal_journals.proofs.Members.{Mem-from_reverse, Mem-reverse, all_tells, all_told}
use Rattle.helper_lane.specs.Own.{NamesAreKnown, OpensAre}
use Rattle.helper_lane.specs.Reply.{Env}
use Rattle.helper_lane.specs.Suits.{names_lanes, names_task, suits}

some_there : {A : Type 0} (o : Option A) → is_some o ≡ true → (x : A) × (o ≡ Some x)
some_there (Some x) e = (x, refl)
some_there None e = absurd (cc e)

there_some : {A : Type 0} (o : Option A) (x : A) → o ≡ Some x → is_some o ≡ true
there_some o x e = ap is_some e

module _ (env : Env) where
  lanes_told : (o : Option ℕ) → ((n : ℕ) → o ≡ Some n → n ≡ env.lanes) → names_lanes env.lanes o ≡ true
  lanes_told None each = refl
  lanes_told (Some n) each = let same : n ≡ env.lanes = each n refl in subst (λ (k : ℕ). (k == env.lanes) ≡ true) (sym same) ((unsigned_Decides env.lanes env.lanes).1 refl)

  task_told : (x : Record) → ((j : JobNo) (n : List ℕ) (hs : List (Tagged Half)) → x ≡ Start j n hs → (t : PlainTask) × (find (has_name n) env.tasks ≡ Some t)) → names_task env.tasks x ≡ true
  task_told (Start j n hs) each = let w = each j n hs refl in there_some (find (has_name n) env.tasks) w.0 w.1
  task_told _ each = refl

  pub suits_all : (records : List Record) → (list_all (suits env) records ≡ true) ↔ (OpensAre env (reverse records) × NamesAreKnown env (reverse records))
  suits_all records = (
    (λ e. (
      (λ x n m is.
          let p = and_parts (names_lanes env.lanes (lanes_in x)) (names_task env.tasks x) (all_tells (suits env) records e x (Mem-from_reverse x records m)) in
          eqb-true n env.lanes (subst (λ (o : Option ℕ). names_lanes env.lanes o ≡ true) is p.0)),
      (λ j n hs m.
          let x : Record = Start j n hs in
          let p = and_parts (names_lanes env.lanes (lanes_in x)) (names_task env.tasks x) (all_tells (suits env) records e x (Mem-from_reverse x records m)) in
          some_there (find (has_name n) env.tasks) p.1),
    )),
    (λ both. all_told (suits env) records (λ x m.
        and_from (names_lanes env.lanes (lanes_in x)) (names_task env.tasks x)
        (lanes_told (lanes_in x) (λ n is. both.0 x n (Mem-reverse x records m) is))
        (task_told x (λ j n hs is. both.1 j n hs (subst (λ (y : Record). Mem y (reverse records)) is (Mem-reverse x records m)))))),
  )
