-- Reports that are taken out.
use Rattle.std.proofs.Common.{◌≡◌, List, true, false, Some, None, cond, sym, ap, ◌∙◌, refl}
use Rattle.std.specs.Ordering.{eq_by_cmp, is_eq}
use Rattle.std.specs.declared.cmp.Ordering.{Ordering}
use Rattle.std.specs.declared.cmp.Ordering.TheVariants.{Less, Equal, Greater}
use Rattle.std.specs.Cmp.{eq_by_cmp_equiv, tied_itself}
use Rattle.std.specs.Map.{lookup}
use Rattle.std.specs.FinMap as map
use Rattle.dap_batch.specs.MapLaws.{get-lookup}
use Rattle.dap_messages.specs.declared.job.JobNo.{JobNo}
use Rattle.replay_table.specs.Reports.{Report, report_order}
use Rattle.replay_table.proofs.Keys.{report_order-total, report_order-same}

abbrev Held : Type 0
Held = map.FinMap report_order JobNo

-- entries that look up as others, but for one key that has none
pub removed : (before after : List (Report × JobNo)) (key : Report)
    → ((q : Report) → lookup (λ k. is_eq (report_order q k)) after ≡ cond (is_eq (report_order key q)) None (lookup (λ k. is_eq (report_order q k)) before))
    → map.from_entries {R = report_order} after ≡ map.remove (map.from_entries before) key
removed before after key updates =
    map.same_map report_order-total report_order-same _ _ (λ q.
    get-lookup report_order-total q after ∙ updates q
    ∙ ap (λ b. cond b None (lookup (λ k. is_eq (report_order q k)) before)) ((eq_by_cmp_equiv report_order-total).symm key q)
    ∙ sym (map.get-remove report_order-total (map.from_entries before) key q ∙ ap (cond (eq_by_cmp report_order q key) None) (get-lookup report_order-total q before)))

itself : (key : Report) → eq_by_cmp report_order key key ≡ true
itself key = ap is_eq (tied_itself report_order-total key)

pub get-removed : (m : Held) (key : Report) → map.get (map.remove m key) key ≡ None
get-removed m key = map.get-remove report_order-total m key key ∙ ap (λ b. cond b None (map.get m key)) (itself key)

apart : (key other : Report) → (key ≡ other → ⊥) → eq_by_cmp report_order other key ≡ false
apart key other differ = go (report_order other key) refl
  where
    go : (r : Ordering) → report_order other key ≡ r → is_eq (report_order other key) ≡ false
    go Less e = ap is_eq e
    go Equal e = absurd (differ (sym (report_order-same other key e)))
    go Greater e = ap is_eq e

pub get-others : (m : Held) (key other : Report) → (key ≡ other → ⊥) → map.get (map.remove m key) other ≡ map.get m other
get-others m key other differ = map.get-remove report_order-total m key other ∙ ap (λ b. cond b None (map.get m other)) (apart key other differ)

pub remove-insert : (m : Held) (key : Report) (job : JobNo) → map.get m key ≡ None → map.remove (map.insert m key job) key ≡ m
remove-insert m key job none =
    map.same_map report_order-total report_order-same _ _ (λ q.
    map.get-remove report_order-total (map.insert m key job) key q
    ∙ ap (cond (eq_by_cmp report_order q key) None) (map.get-insert report_order-total m key job q)
    ∙ go q (report_order q key) refl)
  where
    go : (q : Report) (r : Ordering) → report_order q key ≡ r
        → cond (eq_by_cmp report_order q key) None (cond (eq_by_cmp report_order q key) (Some job) (map.get m q)) ≡ map.get m q
    go q Less e = rw e refl
    go q Equal e = rw e (sym (ap (map.get m) (report_order-same q key e) ∙ none))
    go q Greater e = rw e refl
