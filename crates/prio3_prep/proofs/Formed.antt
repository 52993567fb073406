-- Lemmas: the forms of halves and of prep shares, tested and needed.
use Rattle.std.proofs.Common.{◌≡◌, ◌≢◌, ℕ, ◌+◌, List, length, take, drop, map, Bool, true, false, Option, Some, None, sym, ap, ◌∙◌, refl, subst}
use Rattle.std.specs.Prelude.{◌↔◌, ◌&&◌, IsTrue, nat_eq}
use Rattle.std.specs.Option.{is_some, option_and_then}
use Rattle.std.proofs.lemmas.Bool.{and_from, eq-eqb, ne_eqb}
use Rattle.flp_circuits.specs.Shape.{Shape}
use Rattle.flp_proof.specs.Proof.{proof_len}
use Rattle.vdaf_api.specs.declared.role.Role.{Role}
use Rattle.vdaf_api.specs.declared.role.Role.TheVariants.{Leader, Helper}
use Rattle.vdaf_api.specs.Vectors.{IsVector, vector_of}
use Rattle.vdaf_api.specs.VectorLaws.{when-some}
use Rattle.prio3_share.specs.Base.{Base}
use Rattle.prio3_share.specs.Sharing.{joint_bytes}
use Rattle.prio3_share.specs.Preparing.{Half, Started, x_bytes, proof_bytes, verifier_bytes, elements_of, half_of, is_input, is_half, is_share, start, verifier_of, combine}
use Rattle.prio3_share.proofs.Elements.{bind-some}
use Rattle.prio3_prep.proofs.Inversions.{Began, began}

-- a test of a vector's bytes tells whether there are elements
pub some_elements : {F : Type 0} (b : Base F) (n : ℕ) (bytes : List ℕ) (t : Bool) → (IsTrue t ↔ IsVector b.modulus b.width n bytes) → t ≡ is_some (elements_of b n bytes)
some_elements b n bytes t h = go (vector_of b.modulus b.width n bytes) t refl refl
  where
    go : (o : Option (List ℕ)) (u : Bool) → vector_of b.modulus b.width n bytes ≡ o → t ≡ u → u ≡ is_some (option_and_then (λ numbers. Some (map b.residue numbers)) o)
    go (Some xs) true e s = refl
    go (Some xs) false e s = absurd (let k : t ≡ true = h.1 (xs, e) in cc)
    go None false e s = refl
    go None true e s = absurd (let k = h.0 s in let m : Some k.0 ≡ None = sym k.1 ∙ e in cc)

-- the same, where the code has its own numbers for the field's and the length
pub tested : {F : Type 0} (b : Base F) (p w n m : ℕ) (bs cs : List ℕ) (t : Bool) → (IsTrue t ↔ IsVector p w n bs) → p ≡ b.modulus → w ≡ b.width → n ≡ m → bs ≡ cs → t ≡ is_some (elements_of b m cs)
tested b p w n m bs cs t h ep ew en eb =
    some_elements b m cs t (subst (λ (q : List ℕ). IsTrue t ↔ IsVector b.modulus b.width m q) eb
    (subst (λ (q : ℕ). IsTrue t ↔ IsVector b.modulus b.width q bs) en (subst (λ (q : ℕ). IsTrue t ↔ IsVector b.modulus q n bs) ew (subst (λ (q : ℕ). IsTrue t ↔ IsVector q w n bs) ep h))))

-- two links have a value where each has one
pub both_links : {A B C : Type 0} (o : Option A) (q : Option B) (f : A → B → C) → is_some (option_and_then (λ x. option_and_then (λ y. Some (f x y)) q) o) ≡ (is_some o && is_some q)
both_links (Some x) (Some y) f = refl
both_links (Some x) None f = refl
both_links None q f = refl

module _ {F : Type 0} (b : Base F) (c : Shape F) (kind : ℕ) where
  input-form : (role : Role) (input : List ℕ) (h : Half F) → half_of b c kind role input ≡ Some h → is_input b c kind role input ≡ true
  unfolding is_input half_of
  input-form Leader input h e = ap is_some e
  input-form Helper input h e = (when-some _ _ h e).0

  pub leader-form : (input : List ℕ) (first second : Bool) → length input ≡ x_bytes b c kind + (proof_bytes b c kind + joint_bytes c 16)
      → first ≡ is_some (elements_of b c.input_len (take (x_bytes b c kind) input))
      → second ≡ is_some (elements_of b (proof_len c) (take (proof_bytes b c kind) (drop (x_bytes b c kind) input)))
      → (first && second) ≡ is_input b c kind Leader input
  unfolding is_input half_of
  leader-form input first second size ex ep =
      let m : ℕ = x_bytes b c kind in
      let n : ℕ = proof_bytes b c kind in
      rw (eq-eqb (length input) (m + (n + joint_bytes c 16)) size, ex, ep)
      (sym (both_links (elements_of b c.input_len (take m input)) (elements_of b (proof_len c) (take n (drop m input))) (λ x proof. record { x = x; proof = proof; blind = drop n (drop m input) })))

  pub no_leader-form : (input : List ℕ) → length input ≢ x_bytes b c kind + (proof_bytes b c kind + joint_bytes c 16) → false ≡ is_input b c kind Leader input
  unfolding is_input half_of
  no_leader-form input other = rw (ne_eqb (length input) (x_bytes b c kind + (proof_bytes b c kind + joint_bytes c 16)) other) refl

  pub helper-form : (role : Role) (public input : List ℕ) (n : ℕ) → role ≡ Helper → length public ≡ joint_bytes c 32 → n ≡ joint_bytes c 16 → nat_eq (length input) (32 + n) ≡ is_half b c kind role public input
  unfolding is_input
  helper-form role public input n is long short = rw (is, eq-eqb (length public) (joint_bytes c 32) long, short) refl

  -- what starts has the form of a half
  pub start-form : (role : Role) (verify id public input : List ℕ) (s : Started) → start b c kind role verify id public input ≡ Some s → is_half b c kind role public input ≡ true
  start-form role verify id public input s e =
      let g : Began b c kind role verify id public input s = began b c kind role verify id public input s e in
      and_from _ _ g.long (input-form role input g.h g.half)

  pub no_start : (role : Role) (verify id public input : List ℕ) → is_half b c kind role public input ≡ false → start b c kind role verify id public input ≡ None
  no_start role verify id public input e = go (start b c kind role verify id public input) refl
    where
      go : (o : Option Started) → start b c kind role verify id public input ≡ o → start b c kind role verify id public input ≡ None
      go None h = h
      go (Some s) h = absurd (let k : true ≡ false = sym (start-form role verify id public input s h) ∙ e in cc)

  pub share-form : (share : List ℕ) → length share ≡ verifier_bytes b c kind + joint_bytes c 16 → is_some (elements_of b (c.arity + 2) (take (verifier_bytes b c kind) share)) ≡ is_share b c kind share
  share-form share size = rw (eq-eqb (length share) (verifier_bytes b c kind + joint_bytes c 16) size) refl

  -- what combines has the form of prep shares
  pub message-form : (leader helper message : List ℕ) → combine b c kind leader helper ≡ Some message → (is_share b c kind leader && is_share b c kind helper) ≡ true
  unfolding combine
  message-form leader helper message e =
      let one = bind-some (verifier_of b c kind leader) _ message e in
      let two = bind-some (verifier_of b c kind helper) _ message one.2 in
      and_from _ _ (ap is_some one.1) (ap is_some two.1)

  pub no_message : (leader helper : List ℕ) → (is_share b c kind leader && is_share b c kind helper) ≡ false → combine b c kind leader helper ≡ None
  no_message leader helper e = go (combine b c kind leader helper) refl
    where
      go : (o : Option (List ℕ)) → combine b c kind leader helper ≡ o → combine b c kind leader helper ≡ None
      go None h = h
      go (Some message) h = absurd (let k : true ≡ false = sym (message-form leader helper message h) ∙ e in cc)
