-- What both aggregators say of a report in turn comes to its verdict.
use Rattle.std.proofs.Common.{◌≡◌, ℕ, List, Option, Some, None, Ok, Err, refl, sym, ap, subst, ◌∙◌}
use Rattle.std.specs.Option.{option_and_then}
use Rattle.dap_messages.specs.declared.body.Step.{Step}
use Rattle.dap_messages.specs.declared.report.Report.{Report}
use Rattle.dap_tasks.specs.Task.{PlainTask}
use Rattle.vdaf_api.specs.declared.kind.Kind.{Kind}
use Rattle.vdaf_api.specs.declared.role.Role.TheVariants.{Leader, Helper}
use Rattle.vdaf_api.specs.declared.step.Step as prepared
use Rattle.vdaf_api.specs.declared.step.Step.TheVariants as prep
use Rattle.vdaf_api.specs.Functions.{Functions}
use Rattle.vdaf_api.specs.Verdict.{Opened, ok, bad, or_invalid, helper_step, helper_out, leader_out, leader_part, item_after, out_of, both_outs, verdict_after}
use Rattle.dap_seal.specs.Reports.{item_of, opened_report}
use Rattle.dap_seal.specs.Steps.{code_told, step_told, item_from, or_zero, or_code, outcome_with, outcome_by, half_of, item_by, share_by}
use Rattle.dap_seal.specs.Turns.{ComesToTheVerdict}
use Rattle.dap_seal.proofs.Halves.{seen, seen-helper, seen-out, step-helper}

-- with a prep message the leader has an out share
leads : (F : Functions) (o : Opened) (x : Option (List ℕ)) (theirs message : List ℕ) → leader_part F o x theirs ≡ prep.Continued message
    → (out : List ℕ) × (out_of F Leader o x message ≡ Some out)
leads F o None theirs message e = absurd (cc)
leads F o (Some input) theirs message e = shared (F.share Leader o.key o.id o.public input) e
  where
    given : (m : List ℕ) (y : Option (List ℕ)) → F.out Leader o.key o.id o.public input m ≡ y → or_invalid (option_and_then (λ out. Some m) y) ≡ prep.Continued message
        → (out : List ℕ) × (F.out Leader o.key o.id o.public input message ≡ Some out)
    given m None q e = absurd (cc)
    given m (Some out) q e = let same : m ≡ message = cc in (out, subst (λ z. F.out Leader o.key o.id o.public input z ≡ Some out) same q)

    combined : (y : Option (List ℕ))
        → or_invalid (option_and_then (λ m. option_and_then (λ out. Some m) (F.out Leader o.key o.id o.public input m)) y) ≡ prep.Continued message
        → (out : List ℕ) × (F.out Leader o.key o.id o.public input message ≡ Some out)
    combined None e = absurd (cc)
    combined (Some m) e = given m (F.out Leader o.key o.id o.public input m) refl e

    shared : (y : Option (List ℕ))
        → or_invalid (option_and_then (λ ours. option_and_then (λ m. option_and_then (λ out. Some m) (F.out Leader o.key o.id o.public input m)) (F.combine ours theirs)) y)
        ≡ prep.Continued message → (out : List ℕ) × (F.out Leader o.key o.id o.public input message ≡ Some out)
    shared None e = absurd (cc)
    shared (Some ours) e = combined (F.combine ours theirs) e

-- both out shares, where the verdict is ok
leader_is : (x y : Option (List ℕ)) (l h : List ℕ) → both_outs x y ≡ ok l h → x ≡ Some l
leader_is None y l h e = absurd (cc)
leader_is (Some a) None l h e = absurd (cc)
leader_is (Some a) (Some b) l h e = cc

helper_is : (x y : Option (List ℕ)) (l h : List ℕ) → both_outs x y ≡ ok l h → y ≡ Some h
helper_is None y l h e = absurd (cc)
helper_is (Some a) None l h e = absurd (cc)
helper_is (Some a) (Some b) l h e = cc

-- with the leader's out share a verdict that isn't ok has the code 5, for want of the helper's
helper_lacks : (out : List ℕ) (y : Option (List ℕ)) (code : ℕ) → both_outs (Some out) y ≡ bad code → or_code y ≡ Err (code_told code)
helper_lacks out None code e = let five : 5 ≡ code = cc in ap (λ n. Err (code_told n)) five
helper_lacks out (Some b) code e = absurd (cc)

same_code : (c code : ℕ) → bad c ≡ bad code → c ≡ code
same_code c code e = cc

module _ (f : Kind → Functions) (t : PlainTask) (r : Report) where
  abbrev F : Functions
  F = f t.kind

  abbrev O : Opened
  O = opened_report t r

  abbrev H : Opened
  H = seen Helper t r

  step_is : helper_step F H ≡ helper_step F O
  step_is = sym (step-helper F H H.helper) ∙ seen-helper F t r O.helper

  told : (s : prepared.Step) → item_from F O (step_told s) ≡ step_told (item_after F O s)
  told (prep.Continued theirs) = refl
  told (prep.Failed c) = refl

  -- the leader's share by its item
  shared : (i : prepared.Step) (l h : List ℕ) → verdict_after F O i ≡ ok l h → share_by f t r (step_told i) ≡ l
  shared (prep.Continued message) l h e = ap (or_zero F) (leader_is (leader_out F O message) (helper_out F O message) l h e)
  shared (prep.Failed c) l h e = absurd (cc)

  outs : (message : List ℕ) → helper_out F H message ≡ helper_out F O message
  outs message = seen-out F Helper t r O.helper message

  -- the helper's outcome by its step and the item
  counted : (s : prepared.Step) (l h : List ℕ) → verdict_after F O (item_after F O s) ≡ ok l h → outcome_with F H (step_told s) (step_told (item_after F O s)) ≡ Ok h
  counted (prep.Failed c) l h e = absurd (cc)
  counted (prep.Continued theirs) l h e = by_item (leader_part F O O.leader theirs) e
    where
      by_item : (i : prepared.Step) → verdict_after F O i ≡ ok l h → outcome_with F H (step_told (prep.Continued theirs)) (step_told i) ≡ Ok h
      by_item (prep.Continued message) e = ap or_code (outs message ∙ helper_is (leader_out F O message) (helper_out F O message) l h e)
      by_item (prep.Failed c) e = absurd (cc)

  barred : (s : prepared.Step) (code : ℕ) → verdict_after F O (item_after F O s) ≡ bad code
      → outcome_with F H (step_told s) (step_told (item_after F O s)) ≡ Err (code_told code)
  barred (prep.Failed c) code e = ap (λ n. Err (code_told n)) (same_code c code e)
  barred (prep.Continued theirs) code e = by_item (leader_part F O O.leader theirs) refl e
    where
      by_item : (i : prepared.Step) → leader_part F O O.leader theirs ≡ i → verdict_after F O i ≡ bad code
          → outcome_with F H (step_told (prep.Continued theirs)) (step_told i) ≡ Err (code_told code)
      by_item (prep.Continued message) is e =
          let own = leads F O O.leader theirs message is in
          ap or_code (outs message) ∙ helper_lacks own.0 (helper_out F O message) code (sym (ap (λ x. both_outs x (helper_out F O message)) own.1) ∙ e)
      by_item (prep.Failed c) is e = ap (λ n. Err (code_told n)) (same_code c code e)

  whole : (item : Step) → outcome_by f t r.name (half_of r) item ≡ outcome_with F H (step_told (helper_step F O)) item
  whole item = ap (λ (s : prepared.Step). outcome_with F H (step_told s) item) step_is

  pub comes_to_the_verdict : ComesToTheVerdict f t r
  comes_to_the_verdict = record {
    step = ap step_told step_is;
    item = ap (λ (s : prepared.Step). item_by f t r (step_told s)) step_is ∙ told (helper_step F O);
    leader = λ l h e. shared (item_of F t r) l h e;
    helper = λ l h e. whole (step_told (item_of F t r)) ∙ counted (helper_step F O) l h e;
    failed = λ code e. whole (step_told (item_of F t r)) ∙ barred (helper_step F O) code e;
  }
