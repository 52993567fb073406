-- What a report comes to that a line offers.
use Rattle.std.proofs.Common.{◌≡◌, ◌⊎◌, ℕ, List, [], ◌∷◌, nat_eq, Bool, cond, true, false, ◌&&◌, is_some, Option, Some, None, refl, sym, ap, subst, ◌∙◌, inl, inr, arith}
use Rattle.std.proofs.lemmas.Bool.{and_from, and_parts, both_ways, eq-eqb, eqb-true, false_from_ne_true}
use Rattle.std.proofs.lemmas.Slice.Eq.{bytes_eq-Decides}
use Rattle.std.specs.List.{Contains, find, list_any}
use Rattle.dap_bytes.specs.Spans.{buckets_of, holds_bucket}
use Rattle.dap_bytes.specs.declared.span.Span.{Span}
use Rattle.std.specs.Option.{option_map}
use Rattle.std.specs.Str.{bytes_eq}
use Rattle.dap_batch.specs.Group.{batch_start}
use Rattle.dap_messages.specs.Messages.{report}
use Rattle.dap_messages.specs.Reports.{has_key, known_in}
use Rattle.dap_messages.specs.declared.report.Report.{Report}
use Rattle.dap_tasks.specs.Judged.{is_early, is_expired, is_known_as}
use Rattle.dap_tasks.specs.Task.{PlainTask}
use Rattle.dap_model.proofs.ListLemmas.{Passing, any_from, any_in, contains_cases, found_in}
use Rattle.dap_model.proofs.TestLemmas.{by_tests}
use Rattle.dap_model.specs.Changes.{AreDistinct}
use Rattle.dap_model.specs.Offers.{IsClosed, IsInTime, IsJudged, IsKnown}
use Rattle.dap_model.specs.State.{Batch, State, has_bucket, is_batch, is_closed, is_collected}
use Rattle.dap_model.specs.Step.{Outcome, after_judgement, offered}

-- ---- accepted reports

key_of : (name id : List ℕ) (r : Report) → r.name ≡ name → r.id ≡ id → has_key name id r ≡ true
key_of name id r n i = and_from _ _ ((bytes_eq-Decides r.name name).1 n) ((bytes_eq-Decides r.id id).1 i)

record HasKey (name id : List ℕ) (r : Report) : Type 0 where
  of_task : r.name ≡ name
  of_id : r.id ≡ id

key_is : (name id : List ℕ) (r : Report) → has_key name id r ≡ true → HasKey name id r
key_is name id r h =
    let parts = and_parts (bytes_eq r.name name) (bytes_eq r.id id) h in
    record { of_task = (bytes_eq-Decides r.name name).0 parts.0; of_id = (bytes_eq-Decides r.id id).0 parts.1 }

-- a report is the only one of its key
find_only : (xs : List Report) (name id : List ℕ) (a : Report) → AreDistinct xs → Contains xs a → HasKey name id a → find (has_key name id) xs ≡ Some a
find_only [] name id a d c h = absurd (omega (arith, c.1))
find_only (b ∷ more) name id a d c h = go (λ in_more. find_only more name id a d.1 in_more h) (has_key name id b) refl (contains_cases b more a c)
  where
    go : (Contains more a → find (has_key name id) more ≡ Some a) → (t : Bool) → has_key name id b ≡ t → (b ≡ a) ⊎ Contains more a → cond t (Some b) (find (has_key name id) more) ≡ Some a
    go later true is (inl same) = ap Some same
    go later true is (inr in_more) =
        let own : HasKey name id b = key_is name id b is in
        let twice : has_key b.name b.id a ≡ true = key_of b.name b.id a (h.of_task ∙ sym own.of_task) (h.of_id ∙ sym own.of_id) in
        absurd (both_ways (list_any (has_key b.name b.id) more) d.0 (any_from (has_key b.name b.id) more a in_more twice))
    go later false is (inl same) = absurd (both_ways (has_key name id b) is (key_of name id b (ap (λ (r : Report). r.name) same ∙ h.of_task) (ap (λ (r : Report). r.id) same ∙ h.of_id)))
    go later false is (inr in_more) = later in_more

module _ (s : State) (distinct : AreDistinct s.accepted) (name id : List ℕ) where
  pub known_bytes : (bytes : List ℕ) → IsKnown s name id bytes → known_in s.accepted name id ≡ Some bytes
  known_bytes bytes h =
      ap (option_map report.spell) (find_only s.accepted name id h.known distinct h.accepted (record { of_task = h.of_task; of_id = h.of_id })) ∙ ap Some h.spelled

  pub bytes_known : (bytes : List ℕ) → known_in s.accepted name id ≡ Some bytes → IsKnown s name id bytes
  bytes_known bytes e = go (find (has_key name id) s.accepted) refl e
    where
      go : (o : Option Report) → find (has_key name id) s.accepted ≡ o → option_map report.spell o ≡ Some bytes → IsKnown s name id bytes
      go None is h = absurd cc
      go (Some a) is h =
          let there : Passing (has_key name id) s.accepted a = found_in (has_key name id) s.accepted a is in
          let key : HasKey name id a = key_is name id a there.passes in
          record { known = a; accepted = there.contained; of_task = key.of_task; of_id = key.of_id; spelled = cc }

  pub unknown_bytes : ((bytes : List ℕ) → IsKnown s name id bytes → ⊥) → known_in s.accepted name id ≡ None
  unknown_bytes none = go (known_in s.accepted name id) refl
    where
      go : (o : Option (List ℕ)) → known_in s.accepted name id ≡ o → o ≡ None
      go None e = refl
      go (Some bytes) e = absurd (none bytes (bytes_known bytes e))

  other_bytes : (bytes : List ℕ) → (IsKnown s name id bytes → ⊥) → is_known_as (known_in s.accepted name id) bytes ≡ false
  other_bytes bytes none = go (known_in s.accepted name id) refl
    where
      same : (accepted : List ℕ) → known_in s.accepted name id ≡ Some accepted → (b : Bool) → bytes_eq accepted bytes ≡ b → b ≡ false
      same accepted e true is = absurd (none (bytes_known bytes (e ∙ ap Some ((bytes_eq-Decides accepted bytes).0 is))))
      same accepted e false is = refl

      go : (o : Option (List ℕ)) → known_in s.accepted name id ≡ o → is_known_as o bytes ≡ false
      go None e = refl
      go (Some accepted) e = same accepted e (bytes_eq accepted bytes) refl

-- ---- batches

-- the collected batches as a list
module _ (collected : List Batch) where
  batch_is : (name : List ℕ) (span : Span) (b : Batch) → is_batch name span b ≡ true → b ≡ record { task = name; span = span }
  batch_is name span b h =
      let parts = and_parts (bytes_eq b.task name) (nat_eq b.span.start span.start && nat_eq b.span.buckets span.buckets) h in
      let numbers = and_parts (nat_eq b.span.start span.start) (nat_eq b.span.buckets span.buckets) parts.1 in
      let task : b.task ≡ name = (bytes_eq-Decides b.task name).0 parts.0 in
      let start : b.span.start ≡ span.start = eqb-true b.span.start span.start numbers.0 in
      let buckets : b.span.buckets ≡ span.buckets = eqb-true b.span.buckets span.buckets numbers.1 in
      λ i. record { task = task i; span = record { start = start i; buckets = buckets i } }

  -- a batch is itself
  pub own_batch : (name : List ℕ) (span : Span) → is_batch name span (record { task = name; span = span }) ≡ true
  own_batch name span =
      and_from _ _ ((bytes_eq-Decides name name).1 refl) (and_from _ _ (eq-eqb span.start span.start refl) (eq-eqb span.buckets span.buckets refl))

  pub collected_is : (name : List ℕ) (span : Span) → Contains collected (record { task = name; span = span }) → is_collected collected name span ≡ true
  collected_is name span c = any_from (is_batch name span) collected (record { task = name; span = span }) c (own_batch name span)

  pub collected_in : (name : List ℕ) (span : Span) → is_collected collected name span ≡ true → Contains collected (record { task = name; span = span })
  collected_in name span is =
      let found = any_in (is_batch name span) collected is in
      subst (Contains collected) (batch_is name span found.0 found.1.passes) found.1.contained

  pub collected_not : (name : List ℕ) (span : Span) → (Contains collected (record { task = name; span = span }) → ⊥) → is_collected collected name span ≡ false
  collected_not name span none = false_from_ne_true (is_collected collected name span) (λ is. none (collected_in name span is))

closed_is : (s : State) (name : List ℕ) (precision time : ℕ) → IsClosed s name precision time → is_closed s.collected name precision (batch_start time precision) ≡ true
closed_is s name precision time c =
    any_from (has_bucket name precision (batch_start time precision)) s.collected c.batch c.collected
    (and_from _ _ ((bytes_eq-Decides c.batch.task name).1 c.of_task)
    (any_from (nat_eq (batch_start time precision)) (buckets_of c.batch.span precision) (batch_start time precision) c.holds (eq-eqb (batch_start time precision) (batch_start time precision) refl)))

closed_not : (s : State) (name : List ℕ) (precision time : ℕ) → (IsClosed s name precision time → ⊥) → is_closed s.collected name precision (batch_start time precision) ≡ false
closed_not s name precision time none =
    false_from_ne_true (is_closed s.collected name precision (batch_start time precision)) (λ is.
    let bucket = batch_start time precision in
    let found = any_in (has_bucket name precision bucket) s.collected is in
    let b : Batch = found.0 in
    let parts = and_parts (bytes_eq b.task name) (holds_bucket b.span precision bucket) found.1.passes in
    let held = any_in (nat_eq bucket) (buckets_of b.span precision) parts.1 in
    let same : held.0 ≡ bucket = sym (eqb-true bucket held.0 held.1.passes) in
    none (record {
      batch = b;
      collected = found.1.contained;
      of_task = (bytes_eq-Decides b.task name).0 parts.0;
      holds = subst (Contains (buckets_of b.span precision)) same held.1.contained;
    }))

-- ---- the judgement

module _ (s : State) (k : ℕ) (t : PlainTask) (r : Report) (distinct : AreDistinct s.accepted) where
  -- what follows from the five tests
  abbrev after : Bool → Bool → Bool → Bool → Bool → Outcome
  after again early expired known closed = after_judgement s k r (by_tests again early expired known closed)

  abbrev known : Option (List ℕ)
  known = known_in s.accepted r.name r.id

  abbrev again_test : Bool
  again_test = is_known_as known (report.spell r)

  abbrev expired_test : Bool
  expired_test = is_expired s.moment t.expires

  abbrev closed_test : Bool
  closed_test = is_closed s.collected r.name t.precision (batch_start r.time t.precision)

  -- a report that is neither known nor out of time goes by its bucket
  unbarred : ((bytes : List ℕ) → IsKnown s r.name r.id bytes → ⊥) → IsInTime s t r → (b : Bool) → closed_test ≡ b → offered s k t r ≡ after false false false false b
  unbarred none in_time b is =
      let again : again_test ≡ false = other_bytes s distinct r.name r.id (report.spell r) (none (report.spell r)) in
      let unknown : is_some known ≡ false = ap (λ (o : Option (List ℕ)). is_some o) (unknown_bytes s distinct r.name r.id none) in
      λ i. after (again i) (in_time.not_early i) (in_time.not_expired i) (unknown i) (is i)

  pub offered-judged : IsJudged s k t r (offered s k t r)
  offered-judged = record {
    again = λ h.
        let is : again_test ≡ true = ap (λ (o : Option (List ℕ)). is_known_as o (report.spell r)) (known_bytes s distinct r.name r.id (report.spell r) h)
        ∙ (bytes_eq-Decides (report.spell r) (report.spell r)).1 refl in
        ap (λ (b : Bool). after b (is_early s.moment r.time) expired_test (is_some known) closed_test) is;
    early = λ none h.
        let again : again_test ≡ false = other_bytes s distinct r.name r.id (report.spell r) none in
        λ i. after (again i) (h i) expired_test (is_some known) closed_test;
    expired = λ none not_early h.
        let again : again_test ≡ false = other_bytes s distinct r.name r.id (report.spell r) none in
        λ i. after (again i) (not_early i) (h i) (is_some known) closed_test;
    conflict = λ none in_time bytes h.
        let again : again_test ≡ false = other_bytes s distinct r.name r.id (report.spell r) none in
        let is_known : is_some known ≡ true = ap (λ (o : Option (List ℕ)). is_some o) (known_bytes s distinct r.name r.id bytes h) in
        λ i. after (again i) (in_time.not_early i) (in_time.not_expired i) (is_known i) closed_test;
    collected = λ none in_time h. unbarred none in_time true (closed_is s r.name t.precision r.time h);
    else_accepted = λ none in_time not_closed. unbarred none in_time false (closed_not s r.name t.precision r.time not_closed);
  }
