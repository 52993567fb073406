-- Lemmas: inputs that stay valid are encodings.
use Rattle.std.proofs.Common.{◌≡◌, ◌≢◌, ℕ, zero, suc, ◌+◌, ◌-◌, ◌*◌, ◌/◌, ◌%◌, ◌^◌, ◌<◌, ◌≤◌, ◌⊎◌, inl, inr, cond, Some, None, List, [], ◌∷◌, subst, sym, ap, ◌∙◌, refl, arith, get_or, length, drop}
use Rattle.std.specs.Prelude.{nat_eq, nat_lt, nat_le, replicate, unwrap_or}
use Rattle.std.proofs.Math.Nat.{pow-suc, mul_comm, div-div-eq-div-mul}
use Rattle.std.proofs.lemmas.Bool.{cases_lt, lt-ltb, le-ltb, lt-leb, le-leb, eq-eqb, ne_eqb}
use Rattle.std.specs.List.{position_or_len}
use Rattle.std.specs.List.Sorted.{IsStrictlyIncreasing}
use Rattle.std.proofs.lemmas.List.Sums.{position_or_len_is}
use Rattle.std.proofs.lemmas.List.{get_or-replicate}
use Rattle.std.proofs.lemmas.List.FromFn.{length-map-range_with_len, get_or-map-range_with_len, fill_by_all}
use Rattle.field_laws.specs.Ring.{Ring, RingLaws, power, minus}
use Rattle.field_laws.specs.Residues.{Residues, residue_ring}
use Rattle.field_laws.specs.Primes.{NoDivisors}
use Rattle.field_laws.specs.Points.{AreDifferent}
use Rattle.field_laws.specs.Polynomial.{eval}
use Rattle.field_laws.specs.Sums.{sum_to}
use Rattle.field_laws.proofs.Solve.{at, none, plus, times, solve, nought-add}
use Rattle.field_laws.proofs.Differences.{neg-mul}
use Rattle.field_laws.proofs.Powers.{power-suc}
use Rattle.field_laws.proofs.Sums.{sum-zero, sum-suc, sum_same, sum_scale, eval_is_sum}
use Rattle.field_laws.proofs.Modulo.{number-small, residue-plus}
use Rattle.field_laws.proofs.RootCount.{vanishes, minus-nought}
use Rattle.flp_circuits.specs.declared.histogram.TheConstants.{MOST_BOUNDS}
use Rattle.flp_circuits.specs.Shape.{quadratic_at, Shape, gadget, wires_of, results, IsValid, IsEncoding}
use Rattle.flp_circuits.specs.StaysValid.{StaysValid, StaysValidAtPairs}
use Rattle.flp_circuits.specs.Kinds.{bucket, bit_form, bit, binary, one_hot, total, weighed, weighted, count_shape, sum_shape, histogram_shape}
use Rattle.flp_circuits.specs.LinearityLaws.{product_gadget, bit_gadget}

-- bounds that ascend are above all before them
rising : (xs : List ℕ) → IsStrictlyIncreasing xs → (j k : ℕ) → j < length xs → k < j → get_or xs k 0 < get_or xs j 0
rising xs up zero k within before = absurd (omega arith)
rising xs up (suc j) k within before =
    let step : get_or xs j 0 < get_or xs (suc j) 0 = subst (λ n. get_or xs j 0 < get_or xs n 0) (let e : j + 1 ≡ suc j = omega arith in e) (up j (omega arith)) in
    elim (cases_lt k j) [
      | inl h ↦ (let less : get_or xs k 0 < get_or xs j 0 = rising xs up j k (omega arith) h in omega arith)
      | inr h ↦ subst (λ n. get_or xs n 0 < get_or xs (suc j) 0) (let e : j ≡ k = omega arith in e) step
    ]

-- the bucket where the first bound that m is not above is known
bucket_is : (bounds : List ℕ) (m place : ℕ) → place ≤ length bounds → ((k : ℕ) → k < place → get_or bounds k 0 < m) → (place < length bounds → m ≤ get_or bounds place 0) → bucket bounds m ≡ place
bucket_is bounds m place within before after = ap (λ q. unwrap_or (cond (nat_lt q (length bounds)) (Some q) None) (length bounds)) found ∙ cases (cases_lt place (length bounds))
  where
    found : position_or_len (λ bound. nat_le m bound) bounds ≡ place
    found = position_or_len_is (λ bound. nat_le m bound) bounds place 0 within (λ k low. lt-leb m (get_or bounds k 0) (before k low)) (λ low. le-leb m (get_or bounds place 0) (after low))

    cases : (place < length bounds) ⊎ (length bounds ≤ place) → unwrap_or (cond (nat_lt place (length bounds)) (Some place) None) (length bounds) ≡ place
    cases (inl h) = ap (λ b. unwrap_or (cond b (Some place) None) (length bounds)) (lt-ltb place (length bounds) h)
    cases (inr h) = ap (λ b. unwrap_or (cond b (Some place) None) (length bounds)) (le-ltb place (length bounds) h) ∙ omega arith

-- each bucket of bounds that ascend has a number
bucket_reached : (bounds : List ℕ) → IsStrictlyIncreasing bounds → (place : ℕ) → place < length bounds + 1 → (m : ℕ) × (bucket bounds m ≡ place)
bucket_reached bounds up place within = cases (cases_lt place (length bounds)) (cases_lt 0 place)
  where
    cases : (place < length bounds) ⊎ (length bounds ≤ place) → (0 < place) ⊎ (place ≤ 0) → (m : ℕ) × (bucket bounds m ≡ place)
    cases (inl h) any = (get_or bounds place 0, bucket_is bounds (get_or bounds place 0) place (omega arith) (λ k low. rising bounds up place k h low) (λ low. omega arith))
    cases (inr h) (inl some) =
        let last : ℕ = place - 1 in (
          get_or bounds last 0 + 1,
          bucket_is bounds (get_or bounds last 0 + 1) place (omega arith)
              (λ k low. elim (cases_lt k last) [
                | inl before ↦ (let less : get_or bounds k 0 < get_or bounds last 0 = rising bounds up last k (omega arith) before in omega arith)
                | inr at_last ↦ subst (λ n. get_or bounds n 0 < get_or bounds last 0 + 1) (let e : last ≡ k = omega arith in e) (omega arith)
              ])
              (λ low. absurd (omega arith)),
        )
    cases (inr h) (inr none_below) = (0, bucket_is bounds 0 place (omega arith) (λ k low. absurd (omega arith)) (λ low. omega arith))

module _ {F : Type 0} {ring : Ring F} (laws : RingLaws ring) (whole : NoDivisors ring) where
  -- what is its own square is nought or one
  pub square_same : (a : F) → minus ring (ring.mul a a) a ≡ ring.nought → (a ≡ ring.nought) ⊎ (a ≡ ring.unit)
  square_same a e =
      let factors : ring.mul a (minus ring a ring.unit) ≡ ring.nought =
      laws.mul-add a a (ring.neg ring.unit) ∙ ap (ring.add (ring.mul a a)) (sym (neg-mul laws a ring.unit) ∙ ap ring.neg (laws.mul-unit a)) ∙ e in
      elim (whole a (minus ring a ring.unit) factors) [ inl h ↦ inl h | inr h ↦ inr (minus-nought laws a ring.unit h) ]

  pub count_refuses : (x joint : List F) → length x ≡ 1 → IsValid ring (count_shape ring) x joint → IsEncoding (count_shape ring) x
  count_refuses [] joint size valid = absurd (omega arith)
  count_refuses (a ∷ (b ∷ x)) joint size valid = absurd (omega arith)
  count_refuses (a ∷ []) joint size valid =
      elim (square_same a (ap (λ g. minus ring g a) (product_gadget laws a a) ∙ valid)) [
        | inl h ↦ (0 ∷ [], ap (λ b. Some (b ∷ [])) (sym h))
        | inr h ↦ (1 ∷ [], ap (λ b. Some (b ∷ [])) (sym h))
      ]

  -- the result of a call on one entry
  results_at : (c : Shape F) (x : List F) → c.form ≡ bit_form ring → ((call wire : ℕ) → c.input x call wire ≡ get_or x (call - 1) ring.nought) → c.arity ≡ 1
      → (i : ℕ) → i < c.calls → get_or (results ring c x) i ring.nought ≡ minus ring (ring.mul (get_or x i ring.nought) (get_or x i ring.nought)) (get_or x i ring.nought)
  results_at c x form input wires i small =
      get_or-map-range_with_len (λ i. gadget ring c (wires_of c x (i + 1))) 0 c.calls i i ring.nought small (omega arith)
      ∙ ap (λ f. quadratic_at ring f (get_or (wires_of c x (i + 1)) 0 ring.nought) (get_or (wires_of c x (i + 1)) 1 ring.nought)) form
      ∙ ap (λ a. quadratic_at ring (bit_form ring) a (get_or (wires_of c x (i + 1)) 1 ring.nought))
      (get_or-map-range_with_len (λ j. c.input x (i + 1) j) 0 c.arity 0 0 ring.nought (omega arith) (omega arith) ∙ input (i + 1) 0 ∙ ap (λ k. get_or x k ring.nought) (let e : i + 1 - 1 ≡ i = omega arith in e))
      ∙ sym (bit_gadget laws (get_or x i ring.nought) (get_or (wires_of c x (i + 1)) 1 ring.nought))

  -- a weighed sum is a polynomial in the weight
  weighed_is : (r : F) (n : ℕ) (xs : List F) → length xs ≡ n → weighed ring r n xs ≡ eval ring (ring.nought ∷ xs) r
  unfolding weighted eval
  weighed_is r n xs size =
      sum_same laws n _ (λ i. ring.mul r (ring.mul (get_or xs i ring.nought) (power ring r i)))
      (λ i small. ap (λ a. ring.mul a (get_or xs i ring.nought)) (ap (power ring r) (let e : i + 1 ≡ suc i = omega arith in e) ∙ power-suc laws r i)
      ∙ solve laws (r ∷ (power ring r i ∷ (get_or xs i ring.nought ∷ []))) (times (times (at 0) (at 1)) (at 2)) (times (at 0) (times (at 2) (at 1))) refl)
      ∙ sym (sum_scale laws n r _)
      ∙ ap (λ k. ring.mul r (sum_to ring k (λ i. ring.mul (get_or xs i ring.nought) (power ring r i)))) (sym size)
      ∙ ap (ring.mul r) (sym (eval_is_sum laws xs r))
      ∙ sym (nought-add laws [] _)

  -- where it is nought for more weights than there are entries, each entry is
  weighed_vanishes : (n : ℕ) (xs rs : List F) → length xs ≡ n → n < length rs → AreDifferent ring rs → ((i : ℕ) → i < length rs → weighed ring (get_or rs i ring.nought) n xs ≡ ring.nought) → xs ≡ replicate n ring.nought
  weighed_vanishes n xs rs size many apart vanish =
      ap (drop 1) (vanishes laws whole (suc n) (ring.nought ∷ xs) rs (ap suc size) (omega arith) apart (λ i small. sym (weighed_is (get_or rs i ring.nought) n xs size) ∙ vanish i small))

  bits_from : (c : Shape F) (x : List F) (n : ℕ) → c.form ≡ bit_form ring → ((call wire : ℕ) → c.input x call wire ≡ get_or x (call - 1) ring.nought) → c.arity ≡ 1 → c.calls ≡ n
      → results ring c x ≡ replicate n ring.nought → (i : ℕ) → i < n → (get_or x i ring.nought ≡ ring.nought) ⊎ (get_or x i ring.nought ≡ ring.unit)
  bits_from c x n form input wires calls empty i small =
      square_same (get_or x i ring.nought) (sym (results_at c x form input wires i (omega arith)) ∙ ap (λ l. get_or l i ring.nought) empty ∙ get_or-replicate n i ring.nought ring.nought small)

  -- a sum's input with the validity value nought for more values of the joint randomness than it has bits
  pub sum_bits : (n : ℕ) (x rs : List F) → n < length rs → StaysValid ring (sum_shape ring n) x rs
      → (i : ℕ) → i < n → (get_or x i ring.nought ≡ ring.nought) ⊎ (get_or x i ring.nought ≡ ring.unit)
  sum_bits n x rs many stays =
      let c : Shape F = sum_shape ring n in
      bits_from c x n refl (λ call wire. refl) refl refl
      (weighed_vanishes n (results ring c x) rs (length-map-range_with_len (λ i. gadget ring c (wires_of c x (i + 1))) 0 n) many stays.different stays.valid)

  cubic : (w t s : F) → eval ring (ring.nought ∷ (w ∷ (t ∷ []))) s ≡ ring.add (ring.mul s w) (ring.mul (ring.mul s s) t)
  unfolding eval
  cubic w t s =
      solve laws (w ∷ (t ∷ (s ∷ []))) (plus none (times (at 2) (plus (at 0) (times (at 2) (plus (at 1) (times (at 2) none))))))
      (plus (times (at 2) (at 0)) (times (times (at 2) (at 2)) (at 1))) refl

  -- a histogram's: for more values of the first element than it has buckets, each with three of the second
  pub histogram_bits : (bounds : List ℕ) (x rs : List F) (ss : ℕ → List F) → length bounds + 1 < length rs
      → StaysValidAtPairs ring (histogram_shape ring bounds) x rs ss
      → ((i : ℕ) → i < length bounds + 1 → (get_or x i ring.nought ≡ ring.nought) ⊎ (get_or x i ring.nought ≡ ring.unit)) × (total ring (length bounds + 1) x ≡ ring.unit)
  histogram_bits bounds x rs ss many stays =
      let n : ℕ = length bounds + 1 in
      let c : Shape F = histogram_shape ring bounds in
      let ws : ℕ → F = λ i. weighed ring (get_or rs i ring.nought) n (results ring c x) in
      let t : F = minus ring (total ring n x) ring.unit in
      let line : (i : ℕ) → i < length rs → ring.nought ∷ (ws i ∷ (t ∷ [])) ≡ replicate 3 ring.nought =
      λ i small. vanishes laws whole 3 (ring.nought ∷ (ws i ∷ (t ∷ []))) (ss i) refl (stays.three i small) (stays.seconds_different i small)
      (λ j within. cubic (ws i) t (get_or (ss i) j ring.nought) ∙ stays.valid i j small within) in (
        bits_from c x n refl (λ call wire. refl) refl refl
            (weighed_vanishes n (results ring c x) rs (length-map-range_with_len (λ i. gadget ring c (wires_of c x (i + 1))) 0 n) many stays.different (λ i small. ap (λ l. get_or l 1 ring.nought) (line i small))),
        minus-nought laws (total ring n x) ring.unit (ap (λ l. get_or l 2 ring.nought) (line 0 (omega arith))),
      )

  -- bits spell a number
  digits : (a : F) (xs : List F) (b m : ℕ) → b < 2 → a ≡ bit ring (nat_eq b 1) → ((j : ℕ) → j < length xs → get_or xs j ring.nought ≡ bit ring (nat_eq (m / 2 ^ j % 2) 1))
      → (j : ℕ) → j < suc (length xs) → get_or (a ∷ xs) j ring.nought ≡ bit ring (nat_eq ((2 * m + b) / 2 ^ j % 2) 1)
  digits a xs b m small first rest zero within = first ∙ ap (λ d. bit ring (nat_eq d 1)) (let one : 2 ^ 0 ≡ 1 = refl in let e : b ≡ (2 * m + b) / 1 % 2 = omega arith in e)
  digits a xs b m small first rest (suc j) within =
      rest j (omega arith)
      ∙ ap (λ d. bit ring (nat_eq (d % 2) 1))
      (ap (λ k. k / 2 ^ j) (let e : m ≡ (2 * m + b) / 2 = omega arith in e) ∙ div-div-eq-div-mul (2 * m + b) 2 (2 ^ j) ∙ ap (λ k. (2 * m + b) / k) (mul_comm 2 (2 ^ j) ∙ sym (pow-suc 2 j)))

  pub bits_number : (x : List F) → ((i : ℕ) → i < length x → (get_or x i ring.nought ≡ ring.nought) ⊎ (get_or x i ring.nought ≡ ring.unit))
      → (m : ℕ) × ((m < 2 ^ length x) × ((j : ℕ) → j < length x → get_or x j ring.nought ≡ bit ring (nat_eq (m / 2 ^ j % 2) 1)))
  bits_number [] bits = (0, (omega arith, λ j small. absurd (omega arith)))
  bits_number (a ∷ x) bits =
      let rest = bits_number x (λ i small. bits (suc i) (omega arith)) in
      let m : ℕ = rest.0 in
      let below : m < 2 ^ length x = rest.1.0 in
      elim (bits 0 (omega arith)) [
        | inl h ↦ (2 * m + 0, (omega (arith, pow-suc 2 (length x)), digits a x 0 m (omega arith) h rest.1.1))
        | inr h ↦ (2 * m + 1, (omega (arith, pow-suc 2 (length x)), digits a x 1 m (omega arith) h rest.1.1))
      ]

  -- so that input is an encoding
  pub sum_refuses : (n : ℕ) (x rs : List F) → length x ≡ n → n < length rs → StaysValid ring (sum_shape ring n) x rs
      → IsEncoding (sum_shape ring n) x
  sum_refuses n x rs size many stays =
      let found = bits_number x (λ i small. sum_bits n x rs many stays i (omega arith)) in
      let m : ℕ = found.0 in
      let below : m < 2 ^ n = omega (arith, found.1.0, ap (λ k. 2 ^ k) size) in (
        m ∷ [],
        ap (λ b. cond b (Some (binary ring n m)) None) (lt-ltb m (2 ^ n) below)
            ∙ ap Some (sym (fill_by_all (λ i. bit ring (nat_eq (m / 2 ^ i % 2) 1)) x n ring.nought size (λ j small. found.1.1 j (omega arith)))),
      )

-- what bits that sum to k of them are: nought where k is, and one at a place where k is one
record Ones {F : Type 0} (ring : Ring F) (residue : ℕ → F) (n : ℕ) (f : ℕ → F) : Type 0 where
  ones : ℕ
  few : ones ≤ n
  sum : sum_to ring n f ≡ residue ones
  zeros : ones ≡ 0 → (i : ℕ) → i < n → f i ≡ ring.nought
  hot : ones ≡ 1 → (place : ℕ) × ((place < n) × ((i : ℕ) → i < n → f i ≡ bit ring (nat_eq i place)))

module _ {F : Type 0} {ring : Ring F} {p : ℕ} {number : F → ℕ} {residue : ℕ → F} (laws : RingLaws ring) (residues : Residues p number residue) (is_ring : ring ≡ residue_ring p number residue) where
  last_or : (n i : ℕ) → i < suc n → (i < n) ⊎ (i ≡ n)
  last_or n i small = elim (cases_lt i n) [ inl h ↦ inl h | inr h ↦ inr (omega arith) ]

  more_nought : (n : ℕ) (f : ℕ → F) → Ones ring residue n f → f n ≡ ring.nought → Ones ring residue (suc n) f
  more_nought n f o e = record {
    ones = o.ones;
    few = omega (arith, o.few);
    sum = sum-suc laws n f ∙ ap (ring.add (sum_to ring n f)) e ∙ laws.add-nought _ ∙ o.sum;
    zeros = λ none i small. elim (last_or n i small) [ inl h ↦ o.zeros none i h | inr h ↦ ap f h ∙ e ];
    hot = λ single. let h = o.hot single in (
      h.0,
      (
        omega (arith, h.1.0),
        λ i small. elim (last_or n i small) [
          | inl k ↦ h.1.1 i k
          | inr k ↦ ap f k ∙ e ∙ ap (bit ring) (sym (ne_eqb i h.0 (let d : i ≢ h.0 = omega (arith, h.1.0) in d)))
        ],
      ),
    );
  }

  more_unit : (n : ℕ) (f : ℕ → F) → Ones ring residue n f → f n ≡ ring.unit → Ones ring residue (suc n) f
  more_unit n f o e = record {
    ones = o.ones + 1;
    few = omega (arith, o.few);
    sum = sum-suc laws n f ∙ ap (ring.add (sum_to ring n f)) (e ∙ ap (λ r. r.unit) is_ring) ∙ ap (λ a. ring.add a (residue 1)) o.sum ∙ residue-plus residues is_ring o.ones 1;
    zeros = λ none. absurd (omega arith);
    hot = λ single. (
      n,
      (
        omega arith,
        λ i small. elim (last_or n i small) [
          | inl k ↦ o.zeros (omega arith) i k ∙ ap (bit ring) (sym (ne_eqb i n (let d : i ≢ n = omega arith in d)))
          | inr k ↦ ap f k ∙ e ∙ ap (bit ring) (sym (eq-eqb i n k))
        ],
      ),
    );
  }

  ones_of : (n : ℕ) (f : ℕ → F) → ((i : ℕ) → i < n → (f i ≡ ring.nought) ⊎ (f i ≡ ring.unit)) → Ones ring residue n f
  ones_of zero f bits = record { ones = 0; few = omega arith; sum = sum-zero laws f ∙ ap (λ r. r.nought) is_ring; zeros = λ none i small. absurd (omega arith); hot = λ single. absurd (omega arith) }
  ones_of (suc n) f bits =
      let o = ones_of n f (λ i small. bits i (omega arith)) in
      elim (bits n (omega arith)) [ inl e ↦ more_nought n f o e | inr e ↦ more_unit n f o e ]

  -- bits that sum to one, fewer than p, are one at a place
  pub one_place : (n : ℕ) (x : List F) → n < p → length x ≡ n → ((i : ℕ) → i < n → (get_or x i ring.nought ≡ ring.nought) ⊎ (get_or x i ring.nought ≡ ring.unit)) → total ring n x ≡ ring.unit
      → (place : ℕ) × ((place < n) × (x ≡ one_hot ring n place))
  unfolding total
  one_place n x fits size bits sums =
      let o = ones_of n (λ i. get_or x i ring.nought) bits in
      let single : o.ones ≡ 1 =
      sym (number-small residues o.ones (omega (arith, o.few))) ∙ ap number (sym o.sum ∙ sums ∙ ap (λ r. r.unit) is_ring) ∙ number-small residues 1 residues.large in
      let h = o.hot single in
      (h.0, (h.1.0, fill_by_all (λ i. bit ring (nat_eq i h.0)) x n ring.nought size h.1.1))

  pub histogram_refuses : NoDivisors ring → 1024 < p → (bounds : List ℕ) (x rs : List F) (ss : ℕ → List F) → length bounds ≤ MOST_BOUNDS → IsStrictlyIncreasing bounds → length x ≡ length bounds + 1 → length bounds + 1 < length rs
      → StaysValidAtPairs ring (histogram_shape ring bounds) x rs ss
      → IsEncoding (histogram_shape ring bounds) x
  histogram_refuses whole large bounds x rs ss few up size many stays =
      let found = histogram_bits laws whole bounds x rs ss many stays in
      let hot = one_place (length bounds + 1) x (omega arith) size found.0 found.1 in
      let number = bucket_reached bounds up hot.0 hot.1.0 in
      (number.0 ∷ [], ap (λ place. Some (one_hot ring (length bounds + 1) place)) number.1 ∙ ap Some (sym hot.1.1))
