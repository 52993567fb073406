-- Lemmas: halves, starts and combinations where the code is cut.
use Rattle.std.proofs.Common.{◌≡◌, ◌⊎◌, inl, inr, ℕ, ◌*◌, ◌≤◌, List, length, drop, Bool, true, false, Option, Some, None, sym, ap, ◌∙◌, refl, arith}
use Rattle.std.specs.Prelude.{nat_lt, if◌then◌else◌, IfSome}
use Rattle.std.specs.Option.{option_and_then}
use Rattle.std.proofs.lemmas.Bool.Decides.{nat_tests}
use Rattle.std.proofs.Math.Nat.{mul-le-mul}
use Rattle.field_laws.specs.Polynomial.{add_polynomials}
use Rattle.flp_circuits.specs.Shape.{Shape}
use Rattle.vdaf_api.specs.Vectors.{when}
use Rattle.prio3_share.specs.Base.{Base}
use Rattle.prio3_share.specs.Texts.{joint_seed}
use Rattle.prio3_share.specs.Sharing.{has_joint, if_joint, joint_bytes}
use Rattle.prio3_share.specs.Preparing.{verifier_bytes, accepts, verifier_of, combine}
use Rattle.prio3_prep.specs.States.{bytes_in}
use Rattle.prio3_share.proofs.Lengths.{length-if_joint}

module _ {F : Type 0} (b : Base F) (c : Shape F) (kind : ℕ) where
  message_from : List ℕ → List ℕ → List F → List F → Option (List ℕ)
  message_from leader helper v w = when (accepts b c kind (add_polynomials b.ring v w)) (Some (if_joint c (joint_seed kind (drop (verifier_bytes b c kind) leader) (drop (verifier_bytes b c kind) helper))))

  pub combine-of : (leader helper : List ℕ) (v w : List F) (accepted : Bool) → verifier_of b c kind leader ≡ Some v → verifier_of b c kind helper ≡ Some w → accepts b c kind (add_polynomials b.ring v w) ≡ accepted
      → combine b c kind leader helper ≡ when accepted (Some (if_joint c (joint_seed kind (drop (verifier_bytes b c kind) leader) (drop (verifier_bytes b c kind) helper))))
  unfolding combine message_from
  combine-of leader helper v w accepted e h a =
      ap (option_and_then (λ v. option_and_then (message_from leader helper v) (verifier_of b c kind helper))) e
      ∙ ap (option_and_then (message_from leader helper v)) h
      ∙ ap (λ t. when t (Some (if_joint c (joint_seed kind (drop (verifier_bytes b c kind) leader) (drop (verifier_bytes b c kind) helper))))) a

-- what stands behind both halves of an input share is a blind, or nothing
pub blind-len : {F : Type 0} (c : Shape F) (n : ℕ) → n ≡ joint_bytes c 16 → (n ≡ 16) ⊎ (n ≡ 0)
blind-len c n e = go (has_joint c) e
  where
    go : (j : Bool) → n ≡ (if j then 16 else 0) → (n ≡ 16) ⊎ (n ≡ 0)
    go true e = inl e
    go false e = inr e

pub few-bytes : (n w : ℕ) → n ≤ 8192 → w ≤ 16 → n * w ≤ 131072
few-bytes n w hn hw = let m : n * w ≤ 8192 * 16 = mul-le-mul hn hw in omega arith

pub joint-some : {F : Type 0} (c : Shape F) → has_joint c ≡ true → 1 ≤ c.joint_len
joint-some c e = let t : nat_lt 0 c.joint_len ≡ true = e in grind (arith, nat_tests)

pub joint-zero : {F : Type 0} (c : Shape F) → has_joint c ≡ false → c.joint_len ≡ 0
joint-zero c e = let t : nat_lt 0 c.joint_len ≡ false = e in grind (arith, nat_tests)

pub joint-le : {F : Type 0} (c : Shape F) (n : ℕ) → joint_bytes c n ≤ n
joint-le c n = go (has_joint c)
  where
    go : (j : Bool) → (if j then n else 0) ≤ n
    go true = omega arith
    go false = omega arith

pub joint-short : {F : Type 0} (c : Shape F) (bytes : List ℕ) (n : ℕ) → length bytes ≡ n → length (if_joint c bytes) ≤ n
joint-short c bytes n e = let k : length (if_joint c bytes) ≡ joint_bytes c n = length-if_joint c bytes n e in omega (arith, joint-le c n)

-- a half has a blind where there is joint randomness
pub blind-joint : {F : Type 0} (c : Shape F) (o : Option (List ℕ)) (blind : List ℕ) → o ≡ Some blind → IfSome o (λ b. length b ≡ 16) → length (bytes_in o) ≡ joint_bytes c 16 → has_joint c ≡ true
blind-joint c None blind e h size = absurd (cc)
blind-joint c (Some b) blind e h size = go (has_joint c) refl
  where
    go : (j : Bool) → has_joint c ≡ j → has_joint c ≡ true
    go true t = t
    go false t = absurd (let n : 16 ≡ 0 = sym h ∙ size ∙ ap (λ j. if j then 16 else 0) t in omega arith)

pub no_blind-joint : {F : Type 0} (c : Shape F) (o : Option (List ℕ)) → o ≡ None → length (bytes_in o) ≡ joint_bytes c 16 → has_joint c ≡ false
no_blind-joint c (Some b) e size = absurd (cc)
no_blind-joint c None e size = go (has_joint c) refl
  where
    go : (j : Bool) → has_joint c ≡ j → has_joint c ≡ false
    go true t = absurd (let n : 0 ≡ 16 = size ∙ ap (λ j. if j then 16 else 0) t in omega arith)
    go false t = t
