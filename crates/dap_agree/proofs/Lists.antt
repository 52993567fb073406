-- Membership, and the lists made of reports.
use Rattle.std.proofs.Common.{◌≡◌, ℕ, ◌⊎◌, List, [], ◌∷◌, ◌++◌, Option, Some, None, refl, ap, sym, ◌∙◌, inl, inr, subst}
use Rattle.std.specs.Option.{option_or}
use Rattle.dap_messages.specs.declared.code.Code.{Code}
use Rattle.dap_messages.specs.declared.item.Tagged.{Tagged}
use Rattle.dap_messages.specs.declared.report.Report.{Report}
use Rattle.dap_messages.specs.Items.{ids_of}
use Rattle.lane_records.specs.declared.outcome.Outcome.{Outcome}
use Rattle.lane_records.specs.declared.outcome.Outcome.TheVariants.{Finished, Failed}
use Rattle.lane_records.specs.declared.record.Record.{Record}
use Rattle.lane_records.specs.declared.record.Record.TheVariants.{Accept}
use Rattle.legal_journals.specs.History.{Mem, first}
use Rattle.legal_journals.specs.LegalLanes.{Finishes}
use Rattle.legal_journals.proofs.Members.{Mem-map, Mem-from_map}
use Rattle.dap_agree.specs.Lists.{Distinct, Sub}
use Rattle.std.specs.List.{cons_option, filter_map}
use Rattle.dap_messages.specs.Reports.{report_ids}
use Rattle.legal_journals.specs.JobReports.{each_of, Has, Accepted}
use Rattle.legal_journals.specs.Told.{if_finished, if_failed, finished_ids, failed_ids}

abbrev pub the_tagged : {A : Type 0} → List ℕ → A → Tagged A
the_tagged i b = record { id = i; body = b }

pub tagged : {A : Type 0} (x : Tagged A) (id : List ℕ) (body : A) → x.id ≡ id → x.body ≡ body → x ≡ the_tagged id body
tagged x id body p q = ap (λ z. the_tagged z x.body) p ∙ ap (λ z. the_tagged id z) q

pub mem_right : {A : Type 0} (p l : List A) (x : A) → Mem x l → Mem x (p ++ l)
mem_right [] l x h = h
mem_right (y ∷ p) l x h = inr (mem_right p l x h)

pub mem_left : {A : Type 0} (p l : List A) (x : A) → Mem x p → Mem x (p ++ l)
mem_left [] l x h = elim h [ ]
mem_left (y ∷ p) l x (inl e) = inl e
mem_left (y ∷ p) l x (inr h) = inr (mem_left p l x h)

pub mem_cases : {A : Type 0} (p l : List A) (x : A) → Mem x (p ++ l) → Mem x p ⊎ Mem x l
mem_cases [] l x h = inr h
mem_cases (y ∷ p) l x (inl e) = inl (inl e)
mem_cases (y ∷ p) l x (inr h) = elim (mem_cases p l x h) [ inl q ↦ inl (inr q) | inr q ↦ inr q ]

pub has_sub : (k l : List Record) (n : List ℕ) (r : Report) → Sub k l → Has n r k → Has n r l
has_sub k l n r s h = (s (Accept r) h.0, h.1)

pub accepted_mono : (n : List ℕ) (rs : List Report) (l l' : List Record) → Sub l l' → Accepted n rs l → Accepted n rs l'
accepted_mono n [] l l' s a = tt
accepted_mono n (r ∷ rs) l l' s a = (has_sub l l' n r s a.0, accepted_mono n rs l l' s a.1)

pub accepted_at : (n : List ℕ) (rs : List Report) (l : List Record) (r : Report) → Accepted n rs l → Mem r rs → Has n r l
accepted_at n [] l r a p = elim p [ ]
accepted_at n (q ∷ rs) l r a (inl e) = subst (λ z. Has n z l) (sym e) a.0
accepted_at n (q ∷ rs) l r a (inr p) = accepted_at n rs l r a.1 p

pub tags_each : {A : Type 0} (f : Report → A) (rs : List Report) → ids_of (each_of f rs) ≡ report_ids rs
tags_each f [] = refl
tags_each f (r ∷ rs) = ap (λ t. r.id ∷ t) (tags_each f rs)

pub tag_in : {A : Type 0} (xs : List (Tagged A)) (x : Tagged A) → Mem x xs → Mem x.id (ids_of xs)
tag_in {A} xs x h = Mem-map (λ (z : Tagged A). z.id) x xs h

pub tag_of : {A : Type 0} (xs : List (Tagged A)) (id : List ℕ) → Mem id (ids_of xs) → (x : Tagged A) × Mem x xs × (x.id ≡ id)
tag_of {A} xs id h = let r = Mem-from_map (λ (z : Tagged A). z.id) id xs h in (r.0, r.1, sym r.2)

pub id_in : (rs : List Report) (r : Report) → Mem r rs → Mem r.id (report_ids rs)
id_in [] r h = elim h [ ]
id_in (q ∷ rs) r (inl e) = inl (ap (λ t. t.id) e)
id_in (q ∷ rs) r (inr h) = inr (id_in rs r h)

pub id_of : (rs : List Report) (id : List ℕ) → Mem id (report_ids rs) → (r : Report) × Mem r rs × (r.id ≡ id)
id_of [] id h = elim h [ ]
id_of (q ∷ rs) id (inl e) = (q, inl refl, sym e)
id_of (q ∷ rs) id (inr h) = let s = id_of rs id h in (s.0, inr s.1, s.2)

pub each_in : {A : Type 0} (f : Report → A) (rs : List Report) (r : Report) → Mem r rs → Mem (the_tagged r.id (f r)) (each_of f rs)
each_in f [] r h = elim h [ ]
each_in f (q ∷ rs) r (inl e) = inl (ap (λ (z : Report). the_tagged z.id (f z)) e)
each_in f (q ∷ rs) r (inr h) = inr (each_in f rs r h)

pub each_out : {A : Type 0} (f : Report → A) (rs : List Report) (o : Tagged A) → Mem o (each_of f rs) →
    (r : Report) × Mem r rs × (o ≡ the_tagged r.id (f r))
each_out f [] o h = elim h [ ]
each_out f (q ∷ rs) o (inl e) = (q, inl refl, e)
each_out f (q ∷ rs) o (inr h) = let s = each_out f rs o h in (s.0, inr s.1, s.2)

-- one value for each identifier
pub tagged_one : {A : Type 0} (xs : List (Tagged A)) (x y : Tagged A) → Distinct (ids_of xs) → Mem x xs → Mem y xs → x.id ≡ y.id → x ≡ y
tagged_one [] x y d p q e = elim p [ ]
tagged_one (h ∷ xs) x y d (inl p) (inl q) e = p ∙ sym q
tagged_one {A} (h ∷ xs) x y d (inl p) (inr q) e = absurd (d.0 (subst (λ z. Mem z (ids_of xs)) (sym e ∙ ap (λ (z : Tagged A). z.id) p) (tag_in xs y q)))
tagged_one {A} (h ∷ xs) x y d (inr p) (inl q) e = absurd (d.0 (subst (λ z. Mem z (ids_of xs)) (e ∙ ap (λ (z : Tagged A). z.id) q) (tag_in xs x p)))
tagged_one (h ∷ xs) x y d (inr p) (inr q) e = tagged_one xs x y d.1 p q e

-- ---- the first value of a function

pub first_is : {A B : Type 0} (f : A → Option B) (xs : List A) (b : B) (x : A) → Mem x xs → f x ≡ Some b →
    ((y : A) (c : B) → Mem y xs → f y ≡ Some c → c ≡ b) → first f xs ≡ Some b
first_is f [] b x p e u = elim p [ ]
first_is {A} {B} f (y ∷ ys) b x p e u = go (f y) refl p (λ r. first_is f ys b x r e (λ z c s. u z c (inr s)))
  where
    go : (o : Option B) → f y ≡ o → Mem x (y ∷ ys) → (Mem x ys → first f ys ≡ Some b) → option_or o (first f ys) ≡ Some b
    go (Some c) q r k = ap Some (u y c (inl refl) q)
    go None q (inl r) k = let bad : None ≡ Some b = sym q ∙ ap f (sym r) ∙ e in absurd (cc)
    go None q (inr r) k = k r

pub first_at : {A B : Type 0} (f : A → Option B) (xs : List A) (b : B) → first f xs ≡ Some b → (x : A) × Mem x xs × (f x ≡ Some b)
first_at f [] b e = absurd (cc)
first_at {A} {B} f (y ∷ ys) b e = go (f y) refl e (λ r. first_at f ys b r)
  where
    go : (o : Option B) → f y ≡ o → option_or o (first f ys) ≡ Some b → (first f ys ≡ Some b → (x : A) × Mem x ys × (f x ≡ Some b)) →
        (x : A) × Mem x (y ∷ ys) × (f x ≡ Some b)
    go (Some c) q r k = (y, inl refl, q ∙ r)
    go None q r k = let s = k r in (s.0, inr s.1, s.2)

-- ---- what is filter_map of a list

pub picked_in : {A B : Type 0} (f : A → Option B) (xs : List A) (x : A) (b : B) → Mem x xs → f x ≡ Some b → Mem b (filter_map f xs)
picked_in f [] x b p e = elim p [ ]
picked_in {A} {B} f (y ∷ ys) x b p e = go (f y) refl p (λ q. picked_in f ys x b q e)
  where
    go : (o : Option B) → f y ≡ o → Mem x (y ∷ ys) → (Mem x ys → Mem b (filter_map f ys)) → Mem b (cons_option o (filter_map f ys))
    go (Some c) q (inl r) k = let same : Some b ≡ Some c = sym e ∙ ap f r ∙ q in inl (cc)
    go (Some c) q (inr r) k = inr (k r)
    go None q (inl r) k = let bad : None ≡ Some b = sym q ∙ ap f (sym r) ∙ e in absurd (cc)
    go None q (inr r) k = k r

pub picked_out : {A B : Type 0} (f : A → Option B) (xs : List A) (b : B) → Mem b (filter_map f xs) → (x : A) × Mem x xs × (f x ≡ Some b)
picked_out f [] b p = elim p [ ]
picked_out {A} {B} f (y ∷ ys) b p = go (f y) refl p (λ q. picked_out f ys b q)
  where
    go : (o : Option B) → f y ≡ o → Mem b (cons_option o (filter_map f ys)) → (Mem b (filter_map f ys) → (x : A) × Mem x ys × (f x ≡ Some b)) →
        (x : A) × Mem x (y ∷ ys) × (f x ≡ Some b)
    go (Some c) q (inl r) k = (y, inl refl, q ∙ ap Some (sym r))
    go (Some c) q (inr r) k = let s = k r in (s.0, inr s.1, s.2)
    go None q r k = let s = k r in (s.0, inr s.1, s.2)

-- the outcome of this identifier is failed
abbrev pub Fails : List ℕ → List (Tagged Outcome) → Type 0
Fails id outs = (c : Code) × Mem (record { id = id; body = Failed c }) outs

finished_is : (i : List ℕ) (b : Outcome) (id : List ℕ) → if_finished i b ≡ Some id → (i ≡ id) × ((out : List ℕ) × (b ≡ Finished out))
finished_is i (Finished out) id e = (cc, (out, refl))
finished_is i (Failed c) id e = absurd (cc)

failed_is : (i : List ℕ) (b : Outcome) (id : List ℕ) → if_failed i b ≡ Some id → (i ≡ id) × ((c : Code) × (b ≡ Failed c))
failed_is i (Finished out) id e = absurd (cc)
failed_is i (Failed c) id e = (cc, (c, refl))

pub finishes_in : (xs : List (Tagged Outcome)) (id : List ℕ) → Finishes id xs → Mem id (finished_ids xs)
finishes_in xs id h = picked_in (λ (o : Tagged Outcome). if_finished o.id o.body) xs (record { id = id; body = Finished h.0 }) id h.1 refl

pub finishes_out : (xs : List (Tagged Outcome)) (id : List ℕ) → Mem id (finished_ids xs) → Finishes id xs
finishes_out xs id h =
    let a = picked_out (λ (o : Tagged Outcome). if_finished o.id o.body) xs id h in
    let b = finished_is a.0.id a.0.body id a.2 in
    (b.1.0, subst (λ z. Mem z xs) (tagged a.0 id (Finished b.1.0) b.0 b.1.1) a.1)

pub fails_in : (xs : List (Tagged Outcome)) (id : List ℕ) → Fails id xs → Mem id (failed_ids xs)
fails_in xs id h = picked_in (λ (o : Tagged Outcome). if_failed o.id o.body) xs (record { id = id; body = Failed h.0 }) id h.1 refl

pub fails_out : (xs : List (Tagged Outcome)) (id : List ℕ) → Mem id (failed_ids xs) → Fails id xs
fails_out xs id h =
    let a = picked_out (λ (o : Tagged Outcome). if_failed o.id o.body) xs id h in
    let b = failed_is a.0.id a.0.body id a.2 in
    (b.1.0, subst (λ z. Mem z xs) (tagged a.0 id (Failed b.1.0) b.0 b.1.1) a.1)

-- what is filter_map of identifiers without repeats has none
pub picked_distinct : (pick : List ℕ → Outcome → Option (List ℕ)) → ((i id : List ℕ) (b : Outcome) → pick i b ≡ Some id → i ≡ id) →
    (xs : List (Tagged Outcome)) → Distinct (ids_of xs) → Distinct (filter_map (λ o. pick o.id o.body) xs)
picked_distinct pick same [] d = tt
picked_distinct pick same (x ∷ xs) d = go (pick x.id x.body) refl (picked_distinct pick same xs d.1)
  where
    go : (o : Option (List ℕ)) → pick x.id x.body ≡ o → Distinct (filter_map (λ (z : Tagged Outcome). pick z.id z.body) xs) →
        Distinct (cons_option o (filter_map (λ (z : Tagged Outcome). pick z.id z.body) xs))
    go None e k = k
    go (Some id) e k = (
      (λ p. let a = picked_out (λ (z : Tagged Outcome). pick z.id z.body) xs id p in
          d.0 (subst (λ z. Mem z (ids_of xs)) (same a.0.id id a.0.body a.2 ∙ sym (same x.id id x.body e)) (tag_in xs a.0 a.1))),
      k,
    )

pub finished_distinct : (xs : List (Tagged Outcome)) → Distinct (ids_of xs) → Distinct (finished_ids xs)
finished_distinct xs d = picked_distinct if_finished (λ i id b e. (finished_is i b id e).0) xs d

pub failed_distinct : (xs : List (Tagged Outcome)) → Distinct (ids_of xs) → Distinct (failed_ids xs)
failed_distinct xs d = picked_distinct if_failed (λ i id b e. (failed_is i b id e).0) xs d
