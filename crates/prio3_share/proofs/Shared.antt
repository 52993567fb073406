-- Lemmas: sharing step by step.
use Rattle.std.proofs.Common.{◌≡◌, ℕ, List, [], Option, Some, None, ap, ◌∙◌, refl}
use Rattle.std.specs.Option.{option_and_then}
use Rattle.flp_circuits.specs.Shape.{Shape}
use Rattle.prio3_share.specs.Base.{Base}
use Rattle.prio3_share.specs.Texts.{drawn_for, joint_seed}
use Rattle.prio3_share.specs.Sharing.{joint_randomness, sharing}
use Rattle.prio3_share.specs.Steps.{keys_of, halved, proof_halved, sharing_with}
use Rattle.prio3_share.specs.declared.usage.Usage.TheVariants.{JointRandomness}

and_then-assoc : {A B C : Type 0} (g : B → Option C) (f : A → Option B) (o : Option A) → option_and_then g (option_and_then f o) ≡ option_and_then (λ x. option_and_then g (f x)) o
and_then-assoc g f (Some x) = refl
and_then-assoc g f None = refl

module _ {F : Type 0} (b : Base F) (c : Shape F) (kind : ℕ) where
  -- sharing is its steps under the keys of the seed
  pub sharing-is : (id : List ℕ) (x : List F) (seed : List ℕ) → sharing b c kind id x seed ≡ sharing_with b c kind id x (keys_of kind seed)
  unfolding sharing sharing_with halved proof_halved
  sharing-is id x seed = simp and_then-assoc

  -- the joint randomness of two parts, from the seed that they make
  pub joint-is : {left left' right right' seed : List ℕ} {n : ℕ} → left ≡ left' → right ≡ right' → seed ≡ joint_seed kind left right → n ≡ c.joint_len
      → drawn_for b kind seed JointRandomness [] n ≡ joint_randomness b c kind left' right'
  joint-is {left} {left'} {right} {right'} {seed} {n} el er es en =
      ap (λ k. drawn_for b kind seed JointRandomness [] k) en
      ∙ ap (λ s. drawn_for b kind s JointRandomness [] c.joint_len) es
      ∙ ap (λ l. joint_randomness b c kind l right) el
      ∙ ap (joint_randomness b c kind left') er
