-- Lists that have the same elements, each once.
use Rattle.std.proofs.Common.{◌≡◌, ◌⊎◌, ◌↔◌, List, [], ◌∷◌, ◌++◌, Bool, true, false, ◌||◌, refl, sym, ap, subst, ◌∙◌, inl, inr, arith}
use Rattle.std.proofs.lemmas.Bool.{and_from, both_ways, false_from_ne_true, or_from, or_parts}
use Rattle.std.proofs.lemmas.List.Elements.{Contains-append_cases, Contains-append_left, Contains-append_right}
use Rattle.std.proofs.lemmas.List.Folds.{list_any-append}
use Rattle.std.proofs.lemmas.Slice.Eq.{bytes_eq-Decides}
use Rattle.std.specs.List.{Contains, list_any}
use Rattle.dap_messages.specs.declared.report.Report.{Report}
use Rattle.dap_model.proofs.ListLemmas.{any_from, any_in, contains_cases, contains_first}
use Rattle.dap_model.proofs.OnceLaws.{has_key-turned}
use Rattle.dap_model.specs.Changes.{AreDistinct}
use Rattle.dap_model.specs.SameStates.{HaveSame}
use Rattle.dap_messages.specs.Reports.{has_key}

-- ---- lists as sets

-- the same test passes or fails on both
pub any-same : {X : Type 0} (p : X → Bool) (xs ys : List X) → HaveSame xs ys → list_any p ys ≡ list_any p xs
any-same {X} p xs ys h = go (list_any p xs) refl
  where
    over : (us vs : List X) → ((x : X) → Contains us x → Contains vs x) → list_any p us ≡ true → list_any p vs ≡ true
    over us vs into e = let found = any_in p us e in any_from p vs found.0 (into found.0 found.1.contained) found.1.passes

    go : (b : Bool) → list_any p xs ≡ b → list_any p ys ≡ b
    go true e = over xs ys (λ x. (h x).0) e
    go false e = false_from_ne_true (list_any p ys) (λ is. both_ways (list_any p xs) e (over ys xs (λ x. (h x).1) is))

-- one more element behind both
pub same-push : {X : Type 0} (xs ys : List X) (new : X) → HaveSame xs ys → HaveSame (xs ++ new ∷ []) (ys ++ new ∷ [])
same-push {X} xs ys new h x = (over xs ys (h x).0, over ys xs (h x).1)
  where
    over : (us vs : List X) → (Contains us x → Contains vs x) → Contains (us ++ new ∷ []) x → Contains (vs ++ new ∷ []) x
    over us vs into c = elim (Contains-append_cases us (new ∷ []) x c) [
      | inl front ↦ Contains-append_left vs (new ∷ []) x (into front)
      | inr last ↦ Contains-append_right vs (new ∷ []) x last
    ]

-- ---- reports that differ

-- an element and what stands around it
record Split {X : Type 0} (xs : List X) (x : X) : Type 0 where
  front : List X
  back : List X
  is : xs ≡ front ++ x ∷ back

split_at : {X : Type 0} (xs : List X) (x : X) → Contains xs x → Split xs x
split_at {X} [] x c = absurd (omega (arith, c.1))
split_at {X} (y ∷ ys) x c = elim (contains_cases y ys x c) [
  | inl same ↦ record { front = []; back = ys; is = ap (λ (z : X). z ∷ ys) same }
  | inr more ↦ let s = split_at ys x more in record { front = y ∷ s.front; back = s.back; is = ap (λ l. y ∷ l) s.is }
]

own_key : (r : Report) → has_key r.name r.id r ≡ true
own_key r = and_from _ _ ((bytes_eq-Decides r.name r.name).1 refl) ((bytes_eq-Decides r.id r.id).1 refl)

-- where none has its key, it isn't there
not_there : (r : Report) (rs : List Report) → list_any (has_key r.name r.id) rs ≡ false → Contains rs r → ⊥
not_there r rs none c = both_ways (list_any (has_key r.name r.id) rs) none (any_from (has_key r.name r.id) rs r c (own_key r))

-- reports that differ still do without one of them, whose key none of the others has
record Without (r : Report) (rest : List Report) : Type 0 where
  distinct : AreDistinct rest
  none : list_any (has_key r.name r.id) rest ≡ false

without : (r : Report) (front back : List Report) → AreDistinct (front ++ r ∷ back) → Without r (front ++ back)
without r [] back d = record { distinct = d.1; none = d.0 }
without r (x ∷ front) back d =
    let rest = without r front back d.1 in
    let parts = or_parts (list_any (has_key x.name x.id) front) (list_any (has_key x.name x.id) (r ∷ back)) (sym (list_any-append (has_key x.name x.id) front (r ∷ back)) ∙ d.0) in
    let behind = or_parts (has_key x.name x.id r) (list_any (has_key x.name x.id) back) parts.1 in
    record {
      distinct = (list_any-append (has_key x.name x.id) front back ∙ or_from _ _ parts.0 behind.1, rest.distinct);
      none = or_from _ _ (has_key-turned r x ∙ behind.0) rest.none;
    }

-- A relation holds of lists in whatever order where it does if one element more stands in front, or the first two change
-- their places.
module _ (R : List Report → List Report → Type 0) (same : (xs : List Report) → R xs xs)
    (more : (x : Report) (xs ys : List Report) → R xs ys → R (x ∷ xs) (x ∷ ys))
    (turned : (x y : Report) (xs : List Report) → R (x ∷ y ∷ xs) (y ∷ x ∷ xs))
    (then : (xs ys zs : List Report) → R xs ys → R ys zs → R xs zs) where
  to_place : (r : Report) (front back : List Report) → R (r ∷ (front ++ back)) (front ++ r ∷ back)
  to_place r [] back = same (r ∷ back)
  to_place r (x ∷ front) back =
      then (r ∷ x ∷ (front ++ back)) (x ∷ r ∷ (front ++ back)) (x ∷ (front ++ r ∷ back)) (turned r x (front ++ back))
      (more x (r ∷ (front ++ back)) (front ++ r ∷ back) (to_place r front back))

  pub in_any_order : (xs ys : List Report) → AreDistinct xs → AreDistinct ys → HaveSame xs ys → R xs ys
  in_any_order [] [] d e h = same []
  in_any_order [] (y ∷ ys) d e h = absurd (let none : Contains [] y = (h y).1 (contains_first y ys) in omega (arith, none.1))
  in_any_order (r ∷ xs) ys d e h =
      let s = split_at ys r ((h r).0 (contains_first r xs)) in
      let rest : List Report = s.front ++ s.back in
      let w : Without r rest = without r s.front s.back (subst AreDistinct s.is e) in
      then (r ∷ xs) (r ∷ rest) ys (more r xs rest (in_any_order xs rest d.1 w.distinct (λ x. (into s w x, from s w x))))
      (subst (R (r ∷ rest)) (sym s.is) (to_place r s.front s.back))
    where
      into : (s : Split ys r) → Without r (s.front ++ s.back) → (x : Report) → Contains xs x → Contains (s.front ++ s.back) x
      into s w x c = elim (Contains-append_cases s.front (r ∷ s.back) x (subst (λ l. Contains l x) s.is ((h x).0 (Contains-append_right (r ∷ []) xs x c)))) [
        | inl front ↦ Contains-append_left s.front s.back x front
        | inr behind ↦ elim (contains_cases r s.back x behind) [
          | inl is ↦ absurd (not_there r xs d.0 (subst (Contains xs) (sym is) c))
          | inr back ↦ Contains-append_right s.front s.back x back
        ]
      ]

      among : (s : Split ys r) → (x : Report) → Contains (s.front ++ s.back) x → Contains (s.front ++ r ∷ s.back) x
      among s x c = elim (Contains-append_cases s.front s.back x c) [
        | inl front ↦ Contains-append_left s.front (r ∷ s.back) x front
        | inr back ↦ Contains-append_right s.front (r ∷ s.back) x (Contains-append_right (r ∷ []) s.back x back)
      ]

      from : (s : Split ys r) → Without r (s.front ++ s.back) → (x : Report) → Contains (s.front ++ s.back) x → Contains xs x
      from s w x c = elim (contains_cases r xs x ((h x).1 (subst (λ l. Contains l x) (sym s.is) (among s x c)))) [
        | inl is ↦ absurd (not_there r (s.front ++ s.back) w.none (subst (Contains (s.front ++ s.back)) (sym is) c))
        | inr in_them ↦ in_them
      ]
