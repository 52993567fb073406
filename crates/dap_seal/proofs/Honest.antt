-- Honest reports: their halves open to their shares, and they have a spelling.
use Rattle.std.proofs.Common.{◌≡◌, ℕ, ◌≤◌, List, length, Bool, true, false, Option, Some, None, sym, ap, ◌∙◌, refl, arith}
use Rattle.std.specs.Prelude.{IsTrue, nat_le, nat_eq, ◌&&◌}
use Rattle.std.specs.Option.{option_map}
use Rattle.std.proofs.lemmas.Bool.Decides.{nat_tests}
use Rattle.dap_bytes.specs.Name.{IsName}
use Rattle.dap_messages.specs.declared.report.Report.{Report}
use Rattle.dap_messages.specs.Grammar.{is_between}
use Rattle.dap_messages.specs.Messages.{report}
use Rattle.dap_tasks.specs.Task.{PlainTask}
use Rattle.vdaf_api.specs.declared.role.Role.TheVariants.{Leader, Helper}
use Rattle.vdaf_api.specs.Functions.{Functions, Parts}
use Rattle.vdaf_api.specs.Promises.{FunctionLaws, PartsAreShort}
use Rattle.vdaf_api.specs.Verdict.{Opened, opened, helper_share, helper_step, verdict, numbers_of}
use Rattle.dap_seal.specs.Sealed.{opened_by}
use Rattle.dap_seal.specs.SealLaws.{length-sealed_by, opened_by-sealed_by}
use Rattle.dap_seal.specs.Reports.{head_of, head_with, opened_report, helper_step_of, content_numbers_of, report_of, honest_report}

-- the helper's step looks at its own half alone
pub helper_step-half : (f : Functions) (t : PlainTask) (r : Report) → helper_step f (opened_report t r) ≡ helper_step_of f t.verify t.helper (head_of r) r.helper
helper_step-half f t r = go (opened_by t.helper Helper (head_of r) r.helper)
  where
    bare : Opened
    bare = record { key = t.verify; id = r.id; public = r.public; leader = None; helper = None }

    go : (o : Option (List ℕ)) → helper_share f (opened_report t r) o ≡ helper_share f bare o
    go (Some input) = refl
    go None = refl

-- both halves of an honest report open to their shares
pub opened_report-honest : (t : PlainTask) (id : List ℕ) (time : ℕ) (p : Parts) → opened_report t (report_of t id time p) ≡ opened t.verify id p
opened_report-honest t id time p =
    let l = opened_by-sealed_by t.leader Leader (head_with t id time p) p.leader in
    let h = opened_by-sealed_by t.helper Helper (head_with t id time p) p.helper in
    λ i. record { key = t.verify; id = id; public = p.public; leader = l i; helper = h i }

-- what an honest report is made of
pub record IsHonest (f : Functions) (t : PlainTask) (id : List ℕ) (time : ℕ) (m seed : List ℕ) (r : Report) : Type 0 where
  pub parts : Parts
  pub sharded : f.shard id m seed ≡ Some parts
  pub is : report_of t id time parts ≡ r

pub honest-is : (f : Functions) (t : PlainTask) (id : List ℕ) (time : ℕ) (m seed : List ℕ) (r : Report) → honest_report f t id time m seed ≡ Some r
    → IsHonest f t id time m seed r
honest-is f t id time m seed r e = go (f.shard id m seed) refl e
  where
    go : (o : Option Parts) → f.shard id m seed ≡ o → option_map (report_of t id time) o ≡ Some r → IsHonest f t id time m seed r
    go (Some p) h k = let same : report_of t id time p ≡ r = cc in record { parts = p; sharded = h; is = same }
    go None h k = absurd (cc)

pub honest-counted : {f : Functions} → FunctionLaws f → (t : PlainTask) (id : List ℕ) (time : ℕ) (m seed : List ℕ) (r : Report)
    → length t.verify ≡ 16 → length id ≡ 16 → length seed ≡ 16 → honest_report f t id time m seed ≡ Some r → f.is_fair t.verify id ≡ true
    → content_numbers_of f t r ≡ f.encoding m
honest-counted {f} laws t id time m seed r hk hi hs e fair =
    let k : IsHonest f t id time m seed r = honest-is f t id time m seed r e in
    ap (content_numbers_of f t) (sym k.is) ∙ ap (λ (o : Opened). numbers_of f (verdict f o)) (opened_report-honest t id time k.parts)
    ∙ laws.honest t.verify id m seed k.parts hk hi hs k.sharded fair

both : (a b : Bool) → a ≡ true → b ≡ true → (a && b) ≡ true
both true b e h = h
both false b e h = absurd (cc)

between : (low high n : ℕ) → low ≤ n → n ≤ high → is_between low high n ≡ true
between low high n l h =
    let first : nat_le low n ≡ true = grind (arith, nat_tests) in
    let second : nat_le n high ≡ true = grind (arith, nat_tests) in
    both (nat_le low n) (nat_le n high) first second

same_number : (m n : ℕ) → m ≡ n → nat_eq m n ≡ true
same_number m n e = grind (arith, nat_tests)

-- an honest report has a spelling
pub honest-allowed : (t : PlainTask) (id : List ℕ) (time : ℕ) (p : Parts) → IsName t.name → length id ≡ 16 → time ≤ 999999999999999999 → PartsAreShort p
    → IsTrue (report.allowed (report_of t id time p))
honest-allowed t id time p name is_id in_time short =
    let leader = length-sealed_by t.leader Leader (head_with t id time p) p.leader in
    let helper = length-sealed_by t.helper Helper (head_with t id time p) p.helper in
    let r : Report = report_of t id time p in
    both _ _ name (both _ _ (both _ _ (same_number (length id) 16 is_id) refl) (both _ _ (between 0 999999999999999999 time (omega arith) in_time)
    (both _ _ (both _ _ (between 0 32000 (length p.public) (omega arith) short.public) refl)
    (both _ _ (both _ _ (between 0 131072 (length r.leader) (omega arith) (omega (arith, short.leader, leader))) refl)
    (both _ _ (between 0 32000 (length r.helper) (omega arith) (omega (arith, short.helper, helper))) refl)))))
