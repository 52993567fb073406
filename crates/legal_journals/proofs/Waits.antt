-- Lemmas: the reports that wait, with one Accept more, without it, and with one place more that is settled.
use Rattle.std.proofs.Common.{◌≡◌, ℕ, zero, suc, ◌≤◌, ◌<◌, ◌==◌, ◌⊎◌, Bool, true, false, not, ◌&&◌, ◌||◌, cond, List, [], ◌∷◌, ◌++◌, length, Option, Some, None, refl, sym, ap, subst, ◌∙◌, inl, inr, arith}
use Rattle.std.proofs.lemmas.Bool.{cases_order, eq-eqb, eqb-true, false_from_ne_true}
use Rattle.std.specs.Option.{option_or}
use Rattle.std.specs.declared.cmp.Ordering.{Ordering}
use Rattle.std.specs.declared.cmp.Ordering.TheVariants.{Less, Equal, Greater}
use Rattle.std.specs.Ordering.{is_eq, nat_cmp}
use Rattle.std.specs.Cmp.{IsTotalOrder, eq_by_cmp_equiv}
use Rattle.dap_messages.specs.declared.report.Report.{Report}
use Rattle.lane_records.specs.declared.record.Record.{Record}
use Rattle.lane_records.specs.declared.record.Record.TheVariants.{Accept}
use Rattle.lane_records.specs.Records.{accept_of}
use Rattle.legal_journals.specs.declared.waiting.Waiting.{Waiting}
use Rattle.legal_journals.specs.Accepts.{accept_at}
use Rattle.legal_journals.specs.Waiting.{place_order, settled_with, waits_at, waits_under, Waits}
use Rattle.legal_journals.specs.Tables.{at, given, but}
use Rattle.legal_journals.proofs.Keys.{nat_cmp-eq, then-eq}

at_old : (p : ℕ) (records : List Record) (x : Record) → p < length records → accept_at p (records ++ x ∷ []) ≡ accept_at p records
at_old p [] x lt = absurd (omega arith)
at_old zero (y ∷ records) x lt = refl
at_old (suc p) (y ∷ records) x lt = at_old p records x (omega arith)

at_new : (records : List Record) (x : Record) → accept_at (length records) (records ++ x ∷ []) ≡ accept_of x
at_new [] x = refl
at_new (y ∷ records) x = at_new records x

at_past : (p : ℕ) (records : List Record) → length records ≤ p → accept_at p records ≡ None
at_past p [] le = refl
at_past zero (y ∷ records) le = absurd (omega arith)
at_past (suc p) (y ∷ records) le = at_past p records (omega arith)

at_behind : (p : ℕ) (records : List Record) (x : Record) → length records < p → accept_at p (records ++ x ∷ []) ≡ None
at_behind zero [] x lt = absurd (omega arith)
at_behind (suc p) [] x lt = refl
at_behind zero (y ∷ records) x lt = absurd (omega arith)
at_behind (suc p) (y ∷ records) x lt = at_behind p records x (omega arith)

-- a record that is no Accept brings none
at_other : (p : ℕ) (records : List Record) (x : Record) → accept_of x ≡ None → accept_at p (records ++ x ∷ []) ≡ accept_at p records
at_other p records x none = by_place (cases_order p (length records)) where
  by_place : (p ≡ length records) ⊎ ((p < length records) ⊎ (length records < p)) → accept_at p (records ++ x ∷ []) ≡ accept_at p records
  by_place (inl same) = ap (λ n. accept_at n (records ++ x ∷ [])) same ∙ at_new records x ∙ none ∙ sym (at_past p records (omega arith))
  by_place (inr (inl lt)) = at_old p records x lt
  by_place (inr (inr gt)) = at_behind p records x gt ∙ sym (at_past p records (omega arith))

and-false : (b : Bool) → (b && false) ≡ false
and-false true = refl
and-false false = refl

or_nothing : {A : Type 0} (o : Option A) → option_or o None ≡ o
or_nothing None = refl
or_nothing (Some x) = refl

module _ {G : Type 0} {order : G → G → Ordering} (total : IsTotalOrder order) where
  ties : (a b : G × ℕ) → is_eq (place_order order a b) ≡ (is_eq (order a.0 b.0) && a.1 == b.1)
  ties a b = then-eq (order a.0 b.0) (nat_cmp a.1 b.1) ∙ ap (λ t. is_eq (order a.0 b.0) && t) (nat_cmp-eq a.1 b.1)

  apart : (a b : G × ℕ) → (a.1 ≡ b.1 → ⊥) → is_eq (place_order order a b) ≡ false
  apart a b differ =
      ties a b ∙ ap (λ t. is_eq (order a.0 b.0) && t) (false_from_ne_true (a.1 == b.1) (λ t. differ (eqb-true a.1 b.1 t))) ∙ and-false (is_eq (order a.0 b.0))

  -- at one place the groups decide
  by_group : (a b : G × ℕ) → a.1 ≡ b.1 → is_eq (place_order order a b) ≡ is_eq (order b.0 a.0)
  by_group a b same =
      ties a b ∙ ap (λ t. is_eq (order a.0 b.0) && t) (eq-eqb a.1 b.1 same) ∙ and_true (is_eq (order a.0 b.0)) ∙ (eq_by_cmp_equiv total).symm a.0 b.0
    where
      and_true : (b : Bool) → (b && true) ≡ b
      and_true true = refl
      and_true false = refl

  pub entered : (of : Report → G) (settled : ℕ → Bool) (old new : Waiting G) (records : List Record) (r : Report) (group : G) (place : ℕ) (id : List ℕ)
      → Waits order of settled old records → of r ≡ group → r.id ≡ id → place ≡ length records → settled place ≡ false
      → ((q : G × ℕ) → at (place_order order) q new.reports ≡ option_or (at (place_order order) q old.reports) (given (place_order order) q (group, place) id))
      → Waits order of settled new (records ++ Accept r ∷ [])
  entered of settled old new records r group place id h named same last free enters q = enters q ∙ by_place (cases_order q.1 (length records))
    where
      given_at : Bool → Option (List ℕ)
      given_at b = option_or (at (place_order order) q old.reports) (cond b (Some id) None)

      elsewhere : (place ≡ q.1 → ⊥) → given_at (is_eq (place_order order (group, place) q)) ≡ waits_under order of q.0 (settled q.1) (accept_at q.1 records)
      elsewhere differ = ap given_at (apart (group, place) q differ) ∙ or_nothing (at (place_order order) q old.reports) ∙ h q

      to : (o : Option Report) → accept_at q.1 (records ++ Accept r ∷ []) ≡ o
          → waits_under order of q.0 (settled q.1) o ≡ waits_at order of settled (records ++ Accept r ∷ []) q
      to o e = ap (waits_under order of q.0 (settled q.1)) (sym e)

      by_place : (q.1 ≡ length records) ⊎ ((q.1 < length records) ⊎ (length records < q.1))
          → given_at (is_eq (place_order order (group, place) q)) ≡ waits_at order of settled (records ++ Accept r ∷ []) q
      by_place (inl here) =
          let none : at (place_order order) q old.reports ≡ None = h q ∙ ap (waits_under order of q.0 (settled q.1)) (at_past q.1 records (omega arith)) in
          let tie : is_eq (place_order order (group, place) q) ≡ is_eq (order q.0 (of r)) = by_group (group, place) q (last ∙ sym here) ∙ ap (λ (g : G). is_eq (order q.0 g)) (sym named) in
          let waits : not (settled q.1) ≡ true = ap (λ n. not (settled n)) (here ∙ sym last) ∙ ap not free in
          ap (λ o. option_or o (cond (is_eq (place_order order (group, place) q)) (Some id) None)) none ∙ ap (λ b. cond b (Some id) None) tie
          ∙ and_waits (is_eq (order q.0 (of r))) (not (settled q.1)) waits ∙ ap (λ i. cond (is_eq (order q.0 (of r)) && not (settled q.1)) (Some i) None) (sym same)
          ∙ to (Some r) (ap (λ n. accept_at n (records ++ Accept r ∷ [])) here ∙ at_new records (Accept r))
        where
          and_waits : (b t : Bool) → t ≡ true → cond b (Some id) None ≡ cond (b && t) (Some id) None
          and_waits true t e = ap (λ x. cond x (Some id) None) (sym e)
          and_waits false t e = refl
      by_place (inr (inl lt)) = elsewhere (λ e. absurd (omega arith)) ∙ to (accept_at q.1 records) (at_old q.1 records (Accept r) lt)
      by_place (inr (inr gt)) =
          elsewhere (λ e. absurd (omega arith)) ∙ ap (waits_under order of q.0 (settled q.1)) (at_past q.1 records (omega arith)) ∙ to None (at_behind q.1 records (Accept r) gt)

  -- what is left of a key where the groups decide
  left_out : (of : Report → G) (group other : G) (settled : Bool) (o : Option Report) → ((r : Report) → o ≡ Some r → of r ≡ group)
      → cond (is_eq (order other group)) None (waits_under order of other settled o) ≡ None
  left_out of group other settled None all = nothing (is_eq (order other group))
    where
      nothing : (b : Bool) → ◌≡◌ {A = Option (List ℕ)} (cond b None None) None
      nothing true = refl
      nothing false = refl
  left_out of group other settled (Some r) all =
      ap (λ (g : G). cond (is_eq (order other g)) None (waits_under order of other settled (Some r))) (sym (all r refl)) ∙ by_tie (is_eq (order other (of r))) (not settled)
    where
      by_tie : (b t : Bool) → cond b None (cond (b && t) (Some r.id) None) ≡ None
      by_tie true t = refl
      by_tie false t = refl

  pub taken_back : (of : Report → G) (settled : ℕ → Bool) (old new : Waiting G) (records : List Record) (r : Report) (group : G) (place : ℕ)
      → Waits order of settled old (records ++ Accept r ∷ []) → of r ≡ group → place ≡ length records
      → ((q : G × ℕ) → at (place_order order) q new.reports ≡ but (place_order order) q (group, place) (at (place_order order) q old.reports))
      → Waits order of settled new records
  taken_back of settled old new records r group place h named last leaves q = leaves q ∙ by_place (cases_order q.1 (length records))
    where
      but_at : Bool → Option (List ℕ)
      but_at b = cond b None (at (place_order order) q old.reports)

      from_old : (o : Option Report) → accept_at q.1 (records ++ Accept r ∷ []) ≡ o → at (place_order order) q old.reports ≡ waits_under order of q.0 (settled q.1) o
      from_old o e = h q ∙ ap (waits_under order of q.0 (settled q.1)) e

      elsewhere : (place ≡ q.1 → ⊥) → but_at (is_eq (place_order order (group, place) q)) ≡ at (place_order order) q old.reports
      elsewhere differ = ap but_at (apart (group, place) q differ)

      by_place : (q.1 ≡ length records) ⊎ ((q.1 < length records) ⊎ (length records < q.1))
          → but_at (is_eq (place_order order (group, place) q)) ≡ waits_at order of settled records q
      by_place (inl here) =
          ap but_at (by_group (group, place) q (last ∙ sym here))
          ∙ ap (cond (is_eq (order q.0 group)) None) (from_old (Some r) (ap (λ n. accept_at n (records ++ Accept r ∷ [])) here ∙ at_new records (Accept r)))
          ∙ left_out of group q.0 (settled q.1) (Some r) (λ s e. let one : r ≡ s = (let k = e in cc) in ap of (sym one) ∙ named)
          ∙ ap (waits_under order of q.0 (settled q.1)) (sym (at_past q.1 records (omega arith)))
      by_place (inr (inl lt)) = elsewhere (λ e. absurd (omega arith)) ∙ from_old (accept_at q.1 records) (at_old q.1 records (Accept r) lt)
      by_place (inr (inr gt)) =
          elsewhere (λ e. absurd (omega arith)) ∙ from_old None (at_behind q.1 records (Accept r) gt) ∙ ap (waits_under order of q.0 (settled q.1)) (sym (at_past q.1 records (omega arith)))

  pub settled_there : (of : Report → G) (settled : ℕ → Bool) (old new : Waiting G) (records : List Record) (group : G) (place : ℕ)
      → Waits order of settled old records → ((r : Report) → accept_at place records ≡ Some r → of r ≡ group)
      → ((q : G × ℕ) → at (place_order order) q new.reports ≡ but (place_order order) q (group, place) (at (place_order order) q old.reports))
      → Waits order of (settled_with place settled) new records
  settled_there of settled old new records group place h all leaves q = leaves q ∙ by_place (q.1 == place) refl
    where
      but_at : Bool → Option (List ℕ)
      but_at b = cond b None (at (place_order order) q old.reports)

      none_more : (o : Option Report) → None ≡ waits_under order of q.0 true o
      none_more None = refl
      none_more (Some r) = ap (λ b. cond b (Some r.id) None) (sym (and-false (is_eq (order q.0 (of r)))))

      by_place : (b : Bool) → q.1 == place ≡ b
          → but_at (is_eq (place_order order (group, place) q)) ≡ waits_under order of q.0 (settled_with place settled q.1) (accept_at q.1 records)
      by_place true e =
          let here : q.1 ≡ place = eqb-true q.1 place e in
          ap but_at (by_group (group, place) q (sym here)) ∙ ap (cond (is_eq (order q.0 group)) None) (h q)
          ∙ left_out of group q.0 (settled q.1) (accept_at q.1 records) (λ r at_it. all r (ap (λ n. accept_at n records) (sym here) ∙ at_it))
          ∙ none_more (accept_at q.1 records) ∙ ap (λ b. waits_under order of q.0 (b || settled q.1) (accept_at q.1 records)) (sym e)
      by_place false e =
          ap but_at (apart (group, place) q (λ same. let yes_it = eq-eqb q.1 place (sym same) in let f = sym e ∙ yes_it in absurd cc)) ∙ h q
          ∙ ap (λ b. waits_under order of q.0 (b || settled q.1) (accept_at q.1 records)) (sym e)

pub other_more : {G : Type 0} (order : G → G → Ordering) (of : Report → G) (settled : ℕ → Bool) (w : Waiting G) (records : List Record) (x : Record) → accept_of x ≡ None
    → Waits order of settled w records → Waits order of settled w (records ++ x ∷ [])
other_more order of settled w records x none h q = h q ∙ ap (waits_under order of q.0 (settled q.1)) (sym (at_other q.1 records x none))

pub other_less : {G : Type 0} (order : G → G → Ordering) (of : Report → G) (settled : ℕ → Bool) (w : Waiting G) (records : List Record) (x : Record) → accept_of x ≡ None
    → Waits order of settled w (records ++ x ∷ []) → Waits order of settled w records
other_less order of settled w records x none h q = h q ∙ ap (waits_under order of q.0 (settled q.1)) (at_other q.1 records x none)

pub settled_alike : {G : Type 0} (order : G → G → Ordering) (of : Report → G) (settled so : ℕ → Bool) (w : Waiting G) (records : List Record)
    → ((p : ℕ) (r : Report) → accept_at p records ≡ Some r → settled p ≡ so p) → Waits order of settled w records → Waits order of so w records
settled_alike order of settled so w records alike h q = h q ∙ by_accept (accept_at q.1 records) refl
  where
    by_accept : (o : Option Report) → accept_at q.1 records ≡ o → waits_under order of q.0 (settled q.1) o ≡ waits_under order of q.0 (so q.1) o
    by_accept None e = refl
    by_accept (Some r) e = ap (λ b. cond (is_eq (order q.0 (of r)) && not b) (Some r.id) None) (alike q.1 r e)
