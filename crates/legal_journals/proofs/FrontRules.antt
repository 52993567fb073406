-- Lemmas: the tests of a front decide its rules.
use Rattle.std.proofs.Common.{◌≡◌, ℕ, ◌≤◌, ◌==◌, nat_lt, nat_le, if◌then◌else◌, Bool, true, false, not, ◌&&◌, List, [], ◌∷◌, reverse, Option, Some, None, option_map, Decides, bytes_eq, refl, sym, ap, subst, ◌∙◌}
use Rattle.std.proofs.lemmas.Bool.{and_parts, and_from, eqb-true, eq-eqb, ltb-true, lt-ltb, leb-true, le-leb, not-true}
use Rattle.std.proofs.lemmas.Bool.Decides.{Decides-and, Decides-not}
use Rattle.std.proofs.lemmas.Slice.Eq.{bytes_eq-Decides}
use Rattle.std.specs.List.{list_any, list_all}
use Rattle.std.specs.Option.{option_or}
use Rattle.dap_messages.specs.declared.reply.Reply.{Reply}
use Rattle.dap_messages.specs.declared.reply.Reply.TheVariants.{Share, Small, Mismatch}
use Rattle.lane_records.specs.declared.stored.StoredTask.{StoredTask}
use Rattle.lane_records.specs.declared.batch.Answered.{Answered}
use Rattle.dap_bytes.specs.declared.span.Span.{Span}
use Rattle.dap_bytes.specs.Spans.{passes_start, shares_bucket}
use Rattle.dap_messages.specs.declared.share.ShareReq.{ShareReq}
use Rattle.dap_messages.specs.declared.share.ShareResp.{ShareResp}
use Rattle.lane_records.specs.declared.format.Format.{Format}
use Rattle.lane_records.specs.declared.format.Format.TheVariants.{One, Two}
use Rattle.lane_records.specs.Formats.{byte_of_format}
use Rattle.lane_records.specs.declared.record.Record.{Record}
use Rattle.lane_records.specs.declared.record.Record.TheVariants.{LeaderFrontOpen, LeaderTask, Ask, LeaderAnswer, HelperFrontOpen, HelperTask, HelperAnswer}
use Rattle.legal_journals.specs.History.{Mem, first, format_in}
use Rattle.legal_journals.specs.LegalFronts.{IsStored, IsLeaderAnswered, LeaderFrontMay, task_of_name, last_task, MayBeOf, HelperFrontMay}
use Rattle.legal_journals.specs.FrontTests.{is_format, is_last_format, same_span, limits_of, last_limits, may_be, stores, asks, leader_answers, is_clear_ask, may_ask, leader_front_may, is_share, is_clear_answer, may_share, may_answer, helper_front_may}
use Rattle.legal_journals.proofs.Members.{any_decides, one_decides, all_tells, all_told, Mem-reverse, Mem-from_reverse}
use Rattle.legal_journals.proofs.OpenTests.{may_open-Decides}

-- ---- formats

same_format : (f g : Format) → byte_of_format g ≡ byte_of_format f → g ≡ f
same_format One One e = refl
same_format One Two e = absurd cc
same_format Two One e = absurd cc
same_format Two Two e = refl

is_format-Decides : (f : Format) (o : Option Format) → Decides (is_format f o) (o ≡ Some f)
is_format-Decides f None = (λ e. absurd cc, λ h. absurd cc)
is_format-Decides f (Some g) = (
  λ e. ap (λ (i : Format). let o : Option Format = Some i in o) (same_format f g (eqb-true (byte_of_format g) (byte_of_format f) e)),
  λ h. let same : g ≡ f = cc in eq-eqb (byte_of_format g) (byte_of_format f) (ap byte_of_format same),
)

last_format-Decides : (f : Format) (earlier : List Record) → Decides (is_last_format f earlier) (first format_in (reverse earlier) ≡ Some f)
last_format-Decides f earlier = is_format-Decides f (first format_in (reverse earlier))

-- ---- the leader's front

stores-tells : (n : List ℕ) (x : Record) → stores n x ≡ true → (t : StoredTask) × (x ≡ LeaderTask t) × (t.name ≡ n)
stores-tells n (LeaderTask t) e = (t, refl, (bytes_eq-Decides t.name n).0 e)
stores-tells n _ e = absurd cc

abbrev spanning : ℕ → ℕ → Span
spanning start buckets = record { start = start; buckets = buckets }

same_span-Decides : (a b : Span) → Decides (same_span a b) (a ≡ b)
same_span-Decides a b = (
  λ e.
      let parts = and_parts (a.start == b.start) (a.buckets == b.buckets) e in
      ap (λ n. spanning n a.buckets) (eqb-true a.start b.start parts.0) ∙ ap (spanning b.start) (eqb-true a.buckets b.buckets parts.1),
  λ e. and_from (a.start == b.start) (a.buckets == b.buckets) (eq-eqb a.start b.start (ap (λ (s : Span). s.start) e)) (eq-eqb a.buckets b.buckets (ap (λ (s : Span). s.buckets) e)),
)

same_name_span : (n : List ℕ) (s : Span) → (bytes_eq n n && same_span s s) ≡ true
same_name_span n s = and_from (bytes_eq n n) (same_span s s) ((bytes_eq-Decides n n).1 refl) ((same_span-Decides s s).1 refl)

may_be-Decides : (t : StoredTask) (s : Span) → Decides (may_be t.precision s) (MayBeOf t s)
may_be-Decides t s = (
  λ e. let parts = and_parts (nat_lt 0 t.precision) (passes_start s t.precision) e in (ltb-true 0 t.precision parts.0, parts.1),
  λ h. and_from (nat_lt 0 t.precision) (passes_start s t.precision) (lt-ltb 0 t.precision h.0) h.1,
)

asks-tells : (n : List ℕ) (s : Span) (x : Record) → asks n s x ≡ true → x ≡ Ask n s
asks-tells n s (Ask name span) e =
    let parts = and_parts (bytes_eq name n) (same_span span s) e in
    ap (λ (i : List ℕ). Ask i span) ((bytes_eq-Decides name n).0 parts.0) ∙ ap (λ (i : Span). Ask n i) ((same_span-Decides span s).0 parts.1)
asks-tells n s _ e = absurd cc

leader_answers-tells : (n : List ℕ) (s : Span) (x : Record) → leader_answers n s x ≡ true → (a : Answered) × (x ≡ LeaderAnswer n s a)
leader_answers-tells n s (LeaderAnswer name span a) e =
    let parts = and_parts (bytes_eq name n) (same_span span s) e in
    (a, ap (λ (i : List ℕ). LeaderAnswer i span a) ((bytes_eq-Decides name n).0 parts.0) ∙ ap (λ (i : Span). LeaderAnswer n i a) ((same_span-Decides span s).0 parts.1))
leader_answers-tells n s _ e = absurd cc

-- where it is not both, and the one holds, the other doesn't
not_both : (a b : Bool) → not (a && b) ≡ true → a ≡ true → b ≡ false
not_both true b e t = not-true b e
not_both false b e t = absurd cc

not_other : (a b : Bool) → (a ≡ true → b ≡ false) → not (a && b) ≡ true
not_other true b h = ap not (h refl)
not_other false b h = refl

clear_asks-Decides : (n : List ℕ) (s : Span) (p : ℕ) (earlier : List Record)
    → Decides (list_all (is_clear_ask n s p) earlier) ((other : Span) → Mem (Ask n other) (reverse earlier) → shares_bucket s other p ≡ false)
clear_asks-Decides n s p earlier = (
  λ e other m.
      not_both (bytes_eq n n) (shares_bucket s other p) (all_tells (is_clear_ask n s p) earlier e (Ask n other) (Mem-from_reverse (Ask n other) earlier m))
      ((bytes_eq-Decides n n).1 refl),
  λ h. all_told (is_clear_ask n s p) earlier (λ x m. told h x m),
) where
  told : ((other : Span) → Mem (Ask n other) (reverse earlier) → shares_bucket s other p ≡ false) → (x : Record) → Mem x earlier → is_clear_ask n s p x ≡ true
  told h (Ask name other) m =
      not_other (bytes_eq name n) (shares_bucket s other p) (λ t.
      h other (Mem-reverse (Ask n other) earlier (subst (λ (i : List ℕ). Mem (Ask i other) earlier) ((bytes_eq-Decides name n).0 t) m)))
  told h _ m = refl

stored-Decides : (n : List ℕ) (earlier : List Record) → Decides (list_any (stores n) earlier) (IsStored n (reverse earlier))
stored-Decides n earlier =
    any_decides (stores n) earlier
    (λ x m t. let h = stores-tells n x t in (h.0, subst (λ (z : Record). Mem z (reverse earlier)) h.1 m, h.2))
    (λ (t, m, name). (LeaderTask t, m, (bytes_eq-Decides t.name n).1 name))

asked-Decides : (n : List ℕ) (s : Span) (earlier : List Record) → Decides (list_any (asks n s) earlier) (Mem (Ask n s) (reverse earlier))
asked-Decides n s earlier =
    any_decides (asks n s) earlier
    (λ x m t. subst (λ (z : Record). Mem z (reverse earlier)) (asks-tells n s x t) m)
    (λ m. (Ask n s, m, same_name_span n s))

leader_answered-Decides : (n : List ℕ) (s : Span) (earlier : List Record) → Decides (list_any (leader_answers n s) earlier) (IsLeaderAnswered n s (reverse earlier))
leader_answered-Decides n s earlier = one_decides (leader_answers n s) (LeaderAnswer n s) earlier (leader_answers-tells n s) (λ a. same_name_span n s)

abbrev limits : StoredTask → ℕ × ℕ
limits t = (t.min, t.precision)

if_map : (b : Bool) (t : StoredTask) → (if b then Some (limits t) else None) ≡ option_map limits (if b then Some t else None)
if_map true t = refl
if_map false t = refl

limits_of-task : (n : List ℕ) (x : Record) → limits_of n x ≡ option_map limits (task_of_name n x)
limits_of-task n (LeaderTask t) = if_map (bytes_eq t.name n) t
limits_of-task n (HelperTask t) = if_map (bytes_eq t.name n) t
limits_of-task n _ = refl

or-map : (a b : Option StoredTask) → option_or (option_map limits a) (option_map limits b) ≡ option_map limits (option_or a b)
or-map None b = refl
or-map (Some t) b = refl

first-limits : (n : List ℕ) (old : List Record) → first (limits_of n) old ≡ option_map limits (last_task n old)
first-limits n [] = refl
first-limits n (x ∷ old) = rw (limits_of-task n x, first-limits n old) (or-map (task_of_name n x) (last_task n old))

may_ask-Decides : (n : List ℕ) (s : Span) (earlier : List Record) (o : Option StoredTask)
    → Decides (may_ask n s earlier (option_map limits o))
    ((t : StoredTask) × (o ≡ Some t) × MayBeOf t s × ((other : Span) → Mem (Ask n other) (reverse earlier) → shares_bucket s other t.precision ≡ false))
may_ask-Decides n s earlier None = (λ e. absurd cc, λ h. absurd (let e = h.1 in cc))
may_ask-Decides n s earlier (Some t) = (
  λ e.
      let parts = and_parts (may_be t.precision s) (list_all (is_clear_ask n s t.precision) earlier) e in
      (t, refl, (may_be-Decides t s).0 parts.0, (clear_asks-Decides n s t.precision earlier).0 parts.1),
  λ h.
      let same : h.0 ≡ t = let e = h.1 in cc in
      let fits = subst (λ (u : StoredTask). MayBeOf u s) same h.2 in
      let clear = subst (λ (u : StoredTask). (other : Span) → Mem (Ask n other) (reverse earlier) → shares_bucket s other u.precision ≡ false) same h.3 in
      and_from (may_be t.precision s) (list_all (is_clear_ask n s t.precision) earlier) ((may_be-Decides t s).1 fits) ((clear_asks-Decides n s t.precision earlier).1 clear),
)

last_ask-Decides : (n : List ℕ) (s : Span) (earlier : List Record) → Decides (may_ask n s earlier (last_limits n earlier)) (LeaderFrontMay (Ask n s) (reverse earlier))
last_ask-Decides n s earlier =
    subst (λ (o : Option (ℕ × ℕ)). Decides (may_ask n s earlier o) (LeaderFrontMay (Ask n s) (reverse earlier)))
    (sym (first-limits n (reverse earlier))) (may_ask-Decides n s earlier (last_task n (reverse earlier)))

pub leader_front_may-Decides : (x : Record) (earlier : List Record) → Decides (leader_front_may x earlier) (LeaderFrontMay x (reverse earlier))
leader_front_may-Decides (LeaderFrontOpen f lanes) earlier = may_open-Decides f lanes earlier
leader_front_may-Decides (LeaderTask t) earlier =
    Decides-and _ _ (last_format-Decides t.format earlier) (Decides-not (list_any (stores t.name) earlier) (stored-Decides t.name earlier))
leader_front_may-Decides (Ask n s) earlier =
    last_ask-Decides n s earlier
leader_front_may-Decides (LeaderAnswer n s a) earlier =
    Decides-and _ _ (asked-Decides n s earlier) (Decides-not (list_any (leader_answers n s) earlier) (leader_answered-Decides n s earlier))
leader_front_may-Decides _ earlier = (λ e. absurd cc, λ h. absurd h)

-- ---- the helper's front

share-Decides : (r : Reply) → Decides (is_share r) ((share : List ℕ) × (r ≡ Share share))
share-Decides (Share share) = (λ e. (share, refl), λ h. refl)
share-Decides (Small total) = (λ e. absurd cc, λ h. absurd (let e = h.1 in cc))
share-Decides (Mismatch total checksum) = (λ e. absurd cc, λ h. absurd (let e = h.1 in cc))

clear_answers-Decides : (n : List ℕ) (s : Span) (p : ℕ) (earlier : List Record)
    → Decides (list_all (is_clear_answer n s p) earlier)
    ((other : ShareReq) (b : ShareResp) → Mem (HelperAnswer other b) (reverse earlier) → other.name ≡ n → shares_bucket s other.span p ≡ false)
clear_answers-Decides n s p earlier = (
  λ e other b m named.
      not_both (bytes_eq other.name n) (shares_bucket s other.span p) (all_tells (is_clear_answer n s p) earlier e (HelperAnswer other b) (Mem-from_reverse (HelperAnswer other b) earlier m))
      ((bytes_eq-Decides other.name n).1 named),
  λ h. all_told (is_clear_answer n s p) earlier (λ x m. told h x m),
) where
  told : ((other : ShareReq) (b : ShareResp) → Mem (HelperAnswer other b) (reverse earlier) → other.name ≡ n → shares_bucket s other.span p ≡ false)
      → (x : Record) → Mem x earlier → is_clear_answer n s p x ≡ true
  told h (HelperAnswer other b) m =
      not_other (bytes_eq other.name n) (shares_bucket s other.span p) (λ t. h other b (Mem-reverse (HelperAnswer other b) earlier m) ((bytes_eq-Decides other.name n).0 t))
  told h _ m = refl

-- by which task and with which requests before a request may be answered
abbrev MayShare : ShareReq → List Record → Option StoredTask → Type 0
MayShare q old o =
    (t : StoredTask) × (o ≡ Some t) × (t.min ≤ q.count) × MayBeOf t q.span
    × ((other : ShareReq) (b : ShareResp) → Mem (HelperAnswer other b) old → other.name ≡ q.name → shares_bucket q.span other.span t.precision ≡ false)

may_share-Decides : (q : ShareReq) (earlier : List Record) (o : Option StoredTask) → Decides (may_share q earlier (option_map limits o)) (MayShare q (reverse earlier) o)
may_share-Decides q earlier None = (λ e. absurd cc, λ h. absurd (let e = h.1 in cc))
may_share-Decides q earlier (Some t) = (
  λ e.
      let p = and_parts (nat_le t.min q.count) (may_be t.precision q.span && list_all (is_clear_answer q.name q.span t.precision) earlier) e in
      let r = and_parts (may_be t.precision q.span) (list_all (is_clear_answer q.name q.span t.precision) earlier) p.1 in
      (t, refl, leb-true t.min q.count p.0, (may_be-Decides t q.span).0 r.0, (clear_answers-Decides q.name q.span t.precision earlier).0 r.1),
  λ h.
      let same : h.0 ≡ t = let e = h.1 in cc in
      let few = subst (λ (u : StoredTask). u.min ≤ q.count) same h.2 in
      let fits = subst (λ (u : StoredTask). MayBeOf u q.span) same h.3 in
      let clear = subst (λ (u : StoredTask). (other : ShareReq) (b : ShareResp) → Mem (HelperAnswer other b) (reverse earlier) → other.name ≡ q.name → shares_bucket q.span other.span u.precision ≡ false) same h.4 in
      and_from (nat_le t.min q.count) (may_be t.precision q.span && list_all (is_clear_answer q.name q.span t.precision) earlier) (le-leb t.min q.count few)
      (and_from (may_be t.precision q.span) (list_all (is_clear_answer q.name q.span t.precision) earlier) ((may_be-Decides t q.span).1 fits) ((clear_answers-Decides q.name q.span t.precision earlier).1 clear)),
)

last_share-Decides : (q : ShareReq) (earlier : List Record) → Decides (may_share q earlier (last_limits q.name earlier)) (MayShare q (reverse earlier) (last_task q.name (reverse earlier)))
last_share-Decides q earlier =
    subst (λ (o : Option (ℕ × ℕ)). Decides (may_share q earlier o) (MayShare q (reverse earlier) (last_task q.name (reverse earlier))))
    (sym (first-limits q.name (reverse earlier))) (may_share-Decides q earlier (last_task q.name (reverse earlier)))

may_answer-Decides : (q : ShareReq) (a : ShareResp) (earlier : List Record) → Decides (may_answer q a earlier) (HelperFrontMay (HelperAnswer q a) (reverse earlier))
may_answer-Decides q a earlier =
    let reached = may_share q earlier (last_limits q.name earlier) in
    let named = bytes_eq a.name q.name in
    let spans = same_span a.span q.span in
    let shared = is_share a.reply in
    let d0 = last_share-Decides q earlier in
    let d1 = bytes_eq-Decides a.name q.name in
    let d2 = same_span-Decides a.span q.span in
    let d3 = share-Decides a.reply in (
      λ e.
          let u = and_parts (reached && named && spans) shared e in
          let v = and_parts (reached && named) spans u.0 in
          let w = and_parts reached named v.0 in
          (d0.0 w.0, d1.0 w.1, d2.0 v.1, d3.0 u.1),
      λ h. and_from (reached && named && spans) shared (and_from (reached && named) spans (and_from reached named (d0.1 h.0) (d1.1 h.1)) (d2.1 h.2)) (d3.1 h.3),
    )

pub helper_front_may-Decides : (x : Record) (earlier : List Record) → Decides (helper_front_may x earlier) (HelperFrontMay x (reverse earlier))
helper_front_may-Decides (HelperFrontOpen f lanes) earlier = may_open-Decides f lanes earlier
helper_front_may-Decides (HelperTask t) earlier = last_format-Decides t.format earlier
helper_front_may-Decides (HelperAnswer q a) earlier = may_answer-Decides q a earlier
helper_front_may-Decides _ earlier = (λ e. absurd cc, λ h. absurd h)
