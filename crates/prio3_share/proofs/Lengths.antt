-- Lemmas: lengths of what is drawn and made, and what stands where there is no joint randomness.
use Rattle.std.proofs.Common.{◌≡◌, ℕ, ◌+◌, ◌-◌, ◌*◌, ◌^◌, ◌<◌, ◌≤◌, lit<, List, [], ◌∷◌, ◌++◌, length, drop, Bool, true, false, Some, sym, ap, ◌∙◌, refl, arith, length-take, length-drop}
use Rattle.std.specs.Prelude.{nat_lt, if◌then◌else◌, IfOk, Result, Ok, Err, Vec}
use Rattle.std.specs.declared.alloc.Global.{Global}
use Rattle.std.proofs.lemmas.Bool.Decides.{nat_tests}
use Rattle.std.proofs.Math.ListN.{length-append}
use Rattle.std.proofs.lemmas.List.FromFn.{length-map-range_with_len}
use Rattle.std.proofs.Math.Nat.{pow-le-pow_right}
use Rattle.field_laws.specs.Ring.{Ring}
use Rattle.flp_circuits.specs.Shape.{Shape, ShapeLaws}
use Rattle.flp_proof.specs.Proof.{wire_log, proof_len, gadget_polynomial}
use Rattle.flp_proof.proofs.Orders.{twice_order, wire_log_fits}
use Rattle.flp_proof.proofs.Complete.{length-gadget_polynomial}
use Rattle.aes_cmac_prg.specs.Cmac.{cmac}
use Rattle.aes_cmac_prg.specs.Stream.{stream, byte_at}
use Rattle.aes_cmac_prg.specs.Drawn.{drawn_at}
use Rattle.aes_cmac_prg.specs.Fault.{Draws}
use Rattle.aes_cmac_prg.specs.declared.fault.DrawFault.{DrawFault}
use Rattle.aes_cmac_prg.proofs.Drawing.{length-drawn, length-drawn_at, drawn-none}
use Rattle.vdaf_api.specs.declared.role.Role.{Role}
use Rattle.vdaf_api.specs.Role.{role_byte}
use Rattle.prio3_share.specs.Base.{Base, BaseLaws}
use Rattle.prio3_share.specs.declared.usage.Usage.{Usage}
use Rattle.prio3_share.specs.declared.usage.Usage.TheVariants.{Keys, Part, JointRandomness}
use Rattle.prio3_share.specs.Texts.{info, bytes_for, drawn_for, bytes_of, key, part, joint_seed}
use Rattle.prio3_share.specs.Sharing.{has_joint, if_joint, joint_bytes, joint_randomness, whole_proof}

pub length-stream : (seed rest : List ℕ) (n : ℕ) → length (stream seed rest n) ≡ n
length-stream seed rest n = length-map-range_with_len (byte_at (cmac seed rest)) 0 n

pub length-drawn_for : {F : Type 0} (b : Base F) (kind : ℕ) (seed : List ℕ) (usage : Usage) (rest : List ℕ) (n : ℕ) (xs : List F) → drawn_for b kind seed usage rest n ≡ Some xs → length xs ≡ n
length-drawn_for b kind seed usage rest n xs e = length-drawn b.residue b.modulus b.width seed (info kind usage rest) n xs e

-- what is drawn has its length
pub draws-size : {F : Type 0} (residue : ℕ → F) (p w : ℕ) (key : List ℕ) (place n : ℕ) (r : Result (Vec F Global) DrawFault)
    → Draws r (drawn_at residue p w key place n) → IfOk r (λ v. length v.items ≡ n)
draws-size residue p w key place n (Ok v) h = length-drawn_at residue p w key place n v.items h
draws-size residue p w key place n (Err fault) h = tt

-- a drawing of a proof's length is allowed
pub proof_len-few : {F : Type 0} {ring : Ring F} {c : Shape F} → ShapeLaws ring c → proof_len c ≤ 8192
proof_len-few {F} {ring} {c} keeps =
    let fits = wire_log_fits c.calls keeps.few_calls in
    let order : 2 ^ wire_log c.calls ≤ 2 ^ 11 = pow-le-pow_right (lit< tt) fits.1 in
    omega (arith, order, keeps.few_wires)

pub length-key : (kind : ℕ) (seed : List ℕ) (i : ℕ) → i < 5 → length (key kind seed i) ≡ 16
length-key kind seed i h =
    let whole : length (bytes_for kind seed Keys [] 80) ≡ 80 = length-stream seed (info kind Keys []) 80 in
    omega (arith, length-take 16 (drop (16 * i) (bytes_for kind seed Keys [] 80)), length-drop (16 * i) (bytes_for kind seed Keys [] 80))

pub length-part : {F : Type 0} (b : Base F) (kind : ℕ) (role : Role) (id blind : List ℕ) (x : List F) → length (part b kind role id blind x) ≡ 16
length-part b kind role id blind x = length-stream blind (info kind Part (role_byte role ∷ (id ++ bytes_of b x))) 16

module _ {F : Type 0} (c : Shape F) where
  pub length-if_joint : (bytes : List ℕ) (n : ℕ) → length bytes ≡ n → length (if_joint c bytes) ≡ joint_bytes c n
  length-if_joint bytes n e = go (has_joint c)
    where
      go : (j : Bool) → length {A = ℕ} (if j then bytes else []) ≡ (if j then n else 0)
      go true = e
      go false = refl

  pub if_joint-same : (u v : List ℕ) → (has_joint c ≡ true → u ≡ v) → if_joint c u ≡ if_joint c v
  if_joint-same u v same = go (has_joint c) refl
    where
      go : (j : Bool) → has_joint c ≡ j → if_joint c u ≡ if_joint c v
      go true e = ap (if_joint c) (same e)
      go false e = ap (λ j. if j then u else []) e ∙ sym (ap (λ j. if j then v else []) e)

  pub if_joint-true : (u : List ℕ) → has_joint c ≡ true → if_joint c u ≡ u
  if_joint-true u e = ap (λ j. if j then u else []) e

module _ {F : Type 0} (b : Base F) (c : Shape F) (kind : ℕ) where
  -- a drawing of nothing, where there is no joint randomness
  pub joint-none : (left right : List ℕ) → has_joint c ≡ false → joint_randomness b c kind left right ≡ Some []
  joint-none left right e =
      let zero_len : c.joint_len ≡ 0 = (let t : nat_lt 0 c.joint_len ≡ false = e in grind (arith, nat_tests)) in
      ap (λ n. drawn_for b kind (joint_seed kind left right) JointRandomness [] n) zero_len ∙ drawn-none b.residue b.modulus b.width _ _

  pub joint-same : (left right mine other : List ℕ) → (has_joint c ≡ true → (mine ≡ left) × (other ≡ right)) → joint_randomness b c kind mine other ≡ joint_randomness b c kind left right
  joint-same left right mine other same = go (has_joint c) refl
    where
      go : (j : Bool) → has_joint c ≡ j → joint_randomness b c kind mine other ≡ joint_randomness b c kind left right
      go true e = ap (λ l. joint_randomness b c kind l other) (same e).0 ∙ ap (joint_randomness b c kind left) (same e).1
      go false e = joint-none mine other e ∙ sym (joint-none left right e)

module _ {F : Type 0} {b : Base F} (laws : BaseLaws b) (c : Shape F) (kind : ℕ) where
  pub length-proof : ShapeLaws b.ring c → (x seeds : List F) → length seeds ≡ c.arity → length (whole_proof b c kind x seeds) ≡ proof_len c
  length-proof keeps x seeds e =
      let g : List F = gadget_polynomial b.ring b.half b.root c x seeds in
      let size : length g ≡ 2 ^ (wire_log c.calls + 1) - 1 = length-gadget_polynomial laws.laws b.half b.root laws.halves laws.roots c keeps x seeds in
      length-append seeds g ∙ (let n : length seeds + length g ≡ c.arity + (2 * (2 ^ wire_log c.calls - 1) + 1) = omega (arith, twice_order (wire_log c.calls)) in n)
