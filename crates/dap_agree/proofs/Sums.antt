-- Sums over lists without repeats that have the same members are the same.
use Rattle.std.proofs.Common.{◌≡◌, ℕ, ◌⊎◌, List, [], ◌∷◌, suc, length, refl, ap, sym, ◌∙◌, inl, inr, subst}
use Rattle.std.specs.Prelude.{map}
use Rattle.sha2.specs.Sha256.{sha256}
use Rattle.vdaf_api.specs.Totals.{total}
use Rattle.vdaf_api.specs.Vectors.{plus, zero_share, SpaceLaws}
use Rattle.vdaf_api.specs.SumLaws.{plus_comm, plus_assoc}
use Rattle.vdaf_api.specs.declared.space.Space.{Space}
use Rattle.dap_batch.specs.Checksum.{xor_bytes, no_checksum, checksum_of}
use Rattle.dap_batch.specs.XorLaws.{xor_bytes-comm, xor_bytes-assoc}
use Rattle.legal_journals.specs.History.{Mem}
use Rattle.dap_agree.specs.Lists.{Distinct, Sub}

-- what is added for a member, in any order
pub record Adder (A B : Type 0) : Type 0 where
  pub add : A → B → B
  pub swap : (x y : A) (b : B) → add x (add y b) ≡ add y (add x b)

abbrev pub fold : {A B : Type 0} → (A → B → B) → B → List A → B
fold add e [] = e
fold add e (x ∷ xs) = add x (fold add e xs)

-- the list without x
abbrev pub Without : {A B : Type 0} → Adder A B → B → A → List A → Type 0
Without {A} g e x xs =
    (zs : List A) × (fold g.add e xs ≡ g.add x (fold g.add e zs)) × Distinct zs
    × ((y : A) → Mem y zs → Mem y xs × (y ≡ x → ⊥))
    × ((y : A) → Mem y xs → (y ≡ x) ⊎ Mem y zs)

pub without : {A B : Type 0} (g : Adder A B) (e : B) (x : A) (xs : List A) → Distinct xs → Mem x xs → Without g e x xs
without g e x [] d p = elim p [ ]
without g e x (y ∷ ys) d (inl p) = (
  ys,
  ap (λ z. g.add z (fold g.add e ys)) (sym p),
  d.1,
  (λ z q. (inr q, λ b. d.0 (subst (λ w. Mem w ys) (b ∙ p) q))),
  (λ z q. elim q [ inl b ↦ inl (b ∙ sym p) | inr r ↦ inr r ]),
)
without g e x (y ∷ ys) d (inr p) =
    let s = without g e x ys d.1 p in (
      y ∷ s.0,
      ap (λ z. g.add y z) s.1 ∙ g.swap y x (fold g.add e s.0),
      ((λ q. d.0 (s.3 y q).0), s.2),
      (λ z q. elim q [ inl b ↦ (inl b, λ c. d.0 (subst (λ w. Mem w ys) (sym c ∙ b) p)) | inr r ↦ (inr (s.3 z r).0, (s.3 z r).1) ]),
      (λ z q. elim q [ inl b ↦ inr (inl b) | inr r ↦ elim (s.4 z r) [ inl b ↦ inl b | inr t ↦ inr (inr t) ] ]),
    )

pub fold_same : {A B : Type 0} (g : Adder A B) (e : B) (xs ys : List A) → Distinct xs → Distinct ys → Sub xs ys → Sub ys xs → fold g.add e xs ≡ fold g.add e ys
fold_same g e [] [] d d' s t = refl
fold_same g e [] (y ∷ ys) d d' s t = let p : Mem y [] = t y (inl refl) in elim p [ ]
fold_same {A} g e (x ∷ xs) ys d d' s t =
    let w = without g e x ys d' (s x (inl refl)) in
    let to : Sub xs w.0 = λ y p. elim (w.4 y (s y (inr p))) [ inl b ↦ absurd (d.0 (subst (λ z. Mem z xs) b p)) | inr q ↦ q ] in
    let from : Sub w.0 xs = λ y p. elim (t y (w.3 y p).0) [ inl b ↦ absurd ((w.3 y p).1 b) | inr q ↦ q ] in
    ap (λ z. g.add x z) (fold_same g e xs w.0 d.1 w.2 to from) ∙ sym w.1

-- ---- how many

pub length_fold : {A : Type 0} (xs : List A) → length xs ≡ fold (λ x n. suc n) 0 xs
length_fold [] = refl
length_fold (x ∷ xs) = ap suc (length_fold xs)

pub length_same : {A : Type 0} (xs ys : List A) → Distinct xs → Distinct ys → Sub xs ys → Sub ys xs → length xs ≡ length ys
length_same {A} xs ys d d' s t =
    length_fold xs ∙ fold_same (record { add = λ (x : A) (n : ℕ). suc n; swap = λ x y b. refl }) 0 xs ys d d' s t ∙ sym (length_fold ys)

-- ---- checksums

xor_swap : (a b c : List ℕ) → xor_bytes a (xor_bytes b c) ≡ xor_bytes b (xor_bytes a c)
xor_swap a b c = sym (xor_bytes-assoc a b c) ∙ ap (λ l. xor_bytes l c) (xor_bytes-comm a b) ∙ xor_bytes-assoc b a c

checksum_fold : (ids : List (List ℕ)) → checksum_of ids ≡ fold (λ id b. xor_bytes (sha256 id) b) no_checksum ids
checksum_fold [] = refl
checksum_fold (id ∷ ids) = ap (xor_bytes (sha256 id)) (checksum_fold ids)

pub checksum_same : (xs ys : List (List ℕ)) → Distinct xs → Distinct ys → Sub xs ys → Sub ys xs → checksum_of xs ≡ checksum_of ys
checksum_same xs ys d d' s t =
    checksum_fold xs
    ∙ fold_same (record { add = λ (id b : List ℕ). xor_bytes (sha256 id) b; swap = λ x y b. xor_swap (sha256 x) (sha256 y) b }) no_checksum xs ys d d' s t
    ∙ sym (checksum_fold ys)

-- ---- shares

pub plus_swap : {s : Space} → SpaceLaws s → (a b c : List ℕ) → plus s a (plus s b c) ≡ plus s b (plus s a c)
plus_swap {s} laws a b c = sym (plus_assoc laws a b c) ∙ ap (λ l. plus s l c) (plus_comm s a b) ∙ plus_assoc laws b a c

total_fold : {A : Type 0} (s : Space) (share : A → List ℕ) (xs : List A) → total s (map share xs) ≡ fold (λ x b. plus s (share x) b) (zero_share s) xs
total_fold s share [] = refl
total_fold s share (x ∷ xs) = ap (plus s (share x)) (total_fold s share xs)

pub total_same : {A : Type 0} {s : Space} (share : A → List ℕ) (xs ys : List A) → SpaceLaws s → Distinct xs → Distinct ys → Sub xs ys → Sub ys xs
    → total s (map share xs) ≡ total s (map share ys)
total_same {A} {s} share xs ys laws d d' sub sup =
    total_fold s share xs
    ∙ fold_same (record { add = λ (x : A) (b : List ℕ). plus s (share x) b; swap = λ x y b. plus_swap laws (share x) (share y) b }) (zero_share s) xs ys d d' sub sup
    ∙ sym (total_fold s share ys)
