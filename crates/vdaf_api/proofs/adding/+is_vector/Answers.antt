use Rattle.std.proofs.Common.{◌≡◌, ◌-◌, ◌<◌, ◌≤◌, ℕ, zero, suc, List, [], ◌∷◌, length, take, ap, sym, ◌∙◌, arith, length-take, get_or}
use Rattle.std.proofs.lemmas.Bool.Decides.{nat_tests}
use Rattle.field_laws.specs.Bytes.{from_low}
use Rattle.vdaf_api.specs.Vectors.{vector_of, IsVector}
use Rattle.vdaf_api.proofs.FirstNumbers.{FirstOf, first_of, vector-zero_len, vector-none_len, vector-cons}
use Rattle.vdaf_api.proofs.adding.+is_vector.Goals as goal

empty : (p w : ℕ) (bs : List ℕ) → length bs ≡ 0 → IsVector p w 0 bs
empty p w [] e = ([], vector-none_len p w)
empty p w (b ∷ bs) e = absurd (omega arith)

none_left : (p w : ℕ) (bs : List ℕ) → IsVector p w 0 bs → length bs ≡ 0
none_left p w bs v = ap length (vector-zero_len p w bs v.0 v.1).0

take_small : (n : ℕ) (bs : List ℕ) → ((i : ℕ) → get_or bs i 0 < 256) → (i : ℕ) → get_or (take n bs) i 0 < 256
take_small zero bs h i = omega arith
take_small (suc n) [] h i = omega arith
take_small (suc n) (b ∷ bs) h zero = h 0
take_small (suc n) (b ∷ bs) h (suc i) = take_small n bs (λ j. h (suc j)) i

pub returns-then-size-eq0 : goal.returns-then-size-eq0
returns-then-size-eq0 t c = (
  λ yes_empty. (let len : length c.args.bytes.now ≡ 0 = grind (arith, nat_tests) in (rw c.if-size-eq0.true (empty c.args.p c.args.width c.args.bytes.now len))),
  λ v. let len : length c.args.bytes.now ≡ 0 = none_left c.args.p c.args.width c.args.bytes.now (rw c.if-size-eq0.true at v) in grind (arith, nat_tests),
)

pub returns-then-bytes-width : goal.returns-then-bytes-width
returns-then-bytes-width t c = (
  λ f. absurd (cc),
  λ v. let f : FirstOf c.args.p c.args.width c.args.size c.args.bytes.now v.0 = first_of c.args.p c.args.width c.args.size c.args.bytes.now v.0 (omega arith) v.1 in absurd (omega (arith, f.size, length-take c.args.width c.args.bytes.now)),
)

pub returns-then-number-p : goal.returns-then-number-p
returns-then-number-p t c =
    let n_pos : 0 < c.args.size = omega arith in
    let front = c.split_at.ensures.front in
    let long : length (take c.args.width c.args.bytes.now) ≡ c.args.width = omega (arith, length-take c.args.width c.args.bytes.now) in
    let low : from_low (take c.args.width c.args.bytes.now) < c.args.p = rw (← front) (omega (arith, c.number.ensures, c.if-number-p.true)) in (
      λ h. let r = c.is_vector.ensures.0 h in (
        from_low (take c.args.width c.args.bytes.now) ∷ r.0,
        vector-cons c.args.p c.args.width c.args.size c.args.bytes.now r.0 n_pos long (take_small c.args.width c.args.bytes.now (λ i. omega (arith, c.type_inv.bytes i))) low (ap (vector_of c.args.p c.args.width (c.args.size - 1)) (sym c.split_at.ensures.back) ∙ r.1),
      ),
      λ v. let f : FirstOf c.args.p c.args.width c.args.size c.args.bytes.now v.0 = first_of c.args.p c.args.width c.args.size c.args.bytes.now v.0 n_pos v.1 in
          c.is_vector.ensures.1 (f.rest, ap (vector_of c.args.p c.args.width (c.args.size - 1)) c.split_at.ensures.back ∙ f.more),
    )

pub returns-else-number-p : goal.returns-else-number-p
returns-else-number-p t c =
    let n_pos : 0 < c.args.size = omega arith in
    let high : c.args.p ≤ c.number.result = omega (arith, c.if-number-p.false) in (
      λ h. absurd (grind (arith, nat_tests)),
      λ v. let f : FirstOf c.args.p c.args.width c.args.size c.args.bytes.now v.0 = first_of c.args.p c.args.width c.args.size c.args.bytes.now v.0 n_pos v.1 in
          let is : c.number.result ≡ f.x = c.number.ensures ∙ ap from_low c.split_at.ensures.front ∙ f.value in absurd (omega (arith, f.small)),
    )
