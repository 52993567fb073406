-- A drawing number by number: what was found and skipped so far, and what that says of the whole.
use Rattle.std.proofs.Common.{◌≡◌, ◌≢◌, ℕ, zero, suc, ◌+◌, ◌-◌, ◌*◌, ◌^◌, ◌<◌, ◌≤◌, ◌⊎◌, inl, inr, Bool, true, false, cond, ◌||◌, ◌==◌, nat_lt, nat_le, List, [], ◌∷◌, ◌++◌, length, map, filter, take, drop, Option, Some, None, MatchOption, refl, ap, sym, subst, ◌∙◌, arith, lt-ltb, le-ltb, le-leb, leb-true, mul-le-mul_right}
use Rattle.std.proofs.lemmas.Bool.{cases_lt, lt-leb, eq-eqb, ne_eqb, false≢true}
use Rattle.std.proofs.lemmas.List.{append-nil, append_assoc, length-append, length-map, length-take-le, length_push, map_push, take_at}
use Rattle.std.proofs.lemmas.List.Elements.{filter-append}
use Rattle.std.proofs.lemmas.List.FromFn.{length-map-range_with_len, map-range_with_len_more}
use Rattle.std.specs.List.{range_with_len}
use Rattle.field_laws.specs.Bytes.{low_bytes, from_low}
use Rattle.field_laws.specs.Residues.{Residues}
use Rattle.field_laws.proofs.Spelling.{from_low-low_bytes}
use Rattle.aes_block.specs.Byte.{first_from}
use Rattle.aes_cmac_prg.specs.Drawn.{element_of, found, is_done, numbers_read, first_found, number_at, as_elements, drawn_at, drawn, bytes_drawn}
use Rattle.aes_cmac_prg.specs.Cmac.{cmac}
use Rattle.aes_cmac_prg.specs.Stream.{Reading, advanced, byte_at, bytes_at}

-- the first number from b on that passes
first_from-is : (passes : ℕ → Bool) (n b m : ℕ) → b ≤ m → m < b + n → ((j : ℕ) → b ≤ j → j < m → passes j ≡ false) → passes m ≡ true → first_from passes b n ≡ m
unfolding first_from
first_from-is passes zero b m le lt fails pass = absurd (omega arith)
first_from-is passes (suc n) b m le lt fails pass =
    go (passes b) refl (λ before. first_from-is passes n (b + 1) m (omega arith) (omega arith) (λ j low high. fails j (omega arith) high) pass)
  where
    go : (t : Bool) → passes b ≡ t → (b < m → first_from passes (b + 1) n ≡ m) → elim t [ true ↦ b | false ↦ first_from passes (b + 1) n ] ≡ m
    go true is later = elim (cases_lt b m) [
      | inl before ↦ absurd (false≢true (sym (fails b (omega arith) before) ∙ is))
      | inr last ↦ omega arith
    ]
    go false is later = elim (cases_lt b m) [
      | inl before ↦ later before
      | inr last ↦ let same : m ≡ b = omega arith in absurd (false≢true (sym is ∙ ap passes (sym same) ∙ pass))
    ]

-- a search ends within its numbers
first_from-lt : (passes : ℕ → Bool) (n b : ℕ) → first_from passes b (suc n) < b + suc n
unfolding first_from
first_from-lt passes zero b = elim (passes b) as (λ t. elim t [ true ↦ b | false ↦ 0 ] < b + 1) [ true ↦ omega arith | false ↦ omega arith ]
first_from-lt passes (suc n) b = go (passes b) (first_from-lt passes n (b + 1))
  where
    go : (t : Bool) → first_from passes (b + 1) (suc n) < b + 1 + suc n → elim t [ true ↦ b | false ↦ first_from passes (b + 1) (suc n) ] < b + suc (suc n)
    go true later = omega arith
    go false later = omega arith

-- what a field reads in as many bytes as it spells an element in
pub element_is : {F : Type 0} (p w : ℕ) (number : F → ℕ) (residue : ℕ → F) → Residues p number residue → p ≤ 256 ^ w → (bytes : List ℕ) (r : Option F) → length bytes ≡ w
    → MatchOption r ((length bytes ≢ w) ⊎ (p ≤ from_low bytes)) (λ x. low_bytes w (number x) ≡ bytes) → r ≡ element_of residue p (from_low bytes)
element_is {F} p w number residue laws room bytes None len h =
    elim h [
      | inl other ↦ absurd (other len)
      | inr large ↦ sym (ap (λ b. cond b (Some (residue (from_low bytes))) None) (le-ltb (from_low bytes) p large))
    ]
element_is {F} p w number residue laws room bytes (Some x) len h =
    let below : number x < p = laws.below x in
    let read : from_low bytes ≡ number x = ap from_low (sym h) ∙ from_low-low_bytes w (number x) (omega arith) in
    ap Some (sym (laws.residue-number x) ∙ ap residue (sym read))
    ∙ sym (ap (λ b. cond b (Some (residue (from_low bytes))) None) (lt-ltb (from_low bytes) p (omega arith)))

-- the same where the bytes were read into the front of a longer buffer
pub element_read : {F : Type 0} (p w : ℕ) (number : F → ℕ) (residue : ℕ → F) → Residues p number residue → p ≤ 256 ^ w → w ≤ 16 → (key : List ℕ) (place : ℕ) (buf long : List ℕ) (u v : ℕ)
    → u ≡ w → v ≡ w → length long ≡ 16 → buf ≡ bytes_at key place (length (take u long)) → (r : Option F)
    → MatchOption r ((length (take v (buf ++ drop u long)) ≢ w) ⊎ (p ≤ from_low (take v (buf ++ drop u long)))) (λ x. low_bytes w (number x) ≡ take v (buf ++ drop u long))
    → r ≡ element_of residue p (from_low (bytes_at key place w))
element_read p w number residue laws room narrow key place buf long u v hu hv len filled r h =
    let size : length (take u long) ≡ w = length-take-le u long (omega arith) ∙ hu in
    let whole : buf ≡ bytes_at key place w = filled ∙ ap (bytes_at key place) size in
    let long_enough : length buf ≡ w = ap length whole ∙ length-map-range_with_len (byte_at key) place w in
    let front : take v (buf ++ drop u long) ≡ buf = take_at buf (drop u long) v (omega (arith, long_enough)) in
    element_is p w number residue laws room (take v (buf ++ drop u long)) r (ap length front ∙ long_enough) h
    ∙ ap (λ bytes. element_of residue p (from_low bytes)) (front ∙ whole)

-- an element comes of a number below p, and none of another
element_some : {F : Type 0} (residue : ℕ → F) (p n : ℕ) (x : F) → Some x ≡ element_of residue p n → (nat_lt n p ≡ true) × (x ≡ residue n)
element_some {F} residue p n x e = go (nat_lt n p) refl e
  where
    go : (b : Bool) → nat_lt n p ≡ b → Some x ≡ cond b (Some (residue n)) None → (nat_lt n p ≡ true) × (x ≡ residue n)
    go true is e = (is, cc)
    go false is e = absurd (cc)

element_none : {F : Type 0} (residue : ℕ → F) (p n : ℕ) → None ≡ element_of residue p n → nat_lt n p ≡ false
element_none {F} residue p n e = go (nat_lt n p) refl e
  where
    go : (b : Bool) → nat_lt n p ≡ b → ◌≡◌ {A = Option F} None (cond b (Some (residue n)) None) → nat_lt n p ≡ false
    go true is e = absurd (cc)
    go false is e = is

module _ (p : ℕ) (number : ℕ → ℕ) where
  found-more : (m : ℕ) → found p number (m + 1) ≡ found p number m ++ cond (nat_lt (number m) p) (number m ∷ []) []
  found-more m =
      ap (filter (λ x. nat_lt x p)) (map-range_with_len_more number 0 m m (omega arith))
      ∙ filter-append (λ x. nat_lt x p) (map number (range_with_len 0 m)) (number m ∷ [])

  pub found_next : (m : ℕ) → nat_lt (number m) p ≡ true → found p number (m + 1) ≡ found p number m ++ number m ∷ []
  found_next m is = found-more m ∙ ap (λ b. found p number m ++ cond b (number m ∷ []) []) is

  pub found_skipped : (m : ℕ) → nat_lt (number m) p ≡ false → found p number (m + 1) ≡ found p number m
  found_skipped m is = found-more m ∙ ap (λ b. found p number m ++ cond b (number m ∷ []) []) is ∙ append-nil (found p number m)

  -- what is found later stands behind, and is no more than was read
  record IsBehind (m k : ℕ) : Type 0 where
    rest : List ℕ
    whole : found p number (m + k) ≡ found p number m ++ rest
    few : length rest ≤ k

  short : (b : Bool) (x : ℕ) → length (cond b (x ∷ []) []) ≤ 1
  short true x = omega arith
  short false x = omega arith

  behind_more : (m k : ℕ) → IsBehind m k → IsBehind m (suc k)
  behind_more m k before =
      let next : m + suc k ≡ m + k + 1 = omega arith in
      let x = number (m + k) in
      let last : List ℕ = cond (nat_lt x p) (x ∷ []) [] in
      record {
        rest = before.rest ++ last;
        whole = ap (found p number) next ∙ found-more (m + k) ∙ ap (λ xs. xs ++ last) before.whole ∙ append_assoc (found p number m) before.rest last;
        few = omega (arith, length-append before.rest last, before.few, short (nat_lt x p) x);
      }

  behind : (m k : ℕ) → IsBehind m k
  behind m zero = let same : m + 0 ≡ m = omega arith in record { rest = []; whole = ap (found p number) same ∙ sym (append-nil (found p number m)); few = omega arith }
  behind m (suc k) = behind_more m k (behind m k)

  -- the first n + 128 numbers, from those read so far on
  record IsWhole (n m : ℕ) : Type 0 where
    rest : List ℕ
    whole : found p number (n + 128) ≡ found p number m ++ rest
    few : length rest + m ≤ n + 128

  all_numbers : (n m : ℕ) → m ≤ n + 128 → IsWhole n m
  all_numbers n m le =
      let later = behind m (n + 128 - m) in
      let all : n + 128 ≡ m + (n + 128 - m) = omega arith in
      record { rest = later.rest; whole = ap (found p number) all ∙ later.whole; few = omega (arith, later.few) }

  -- what a drawing has, by the numbers found
  abbrev choose : ℕ → List ℕ → Option (List ℕ)
  choose n xs = cond (nat_le n (length xs)) (Some (take n xs)) None

  -- the drawing has a value where n elements were found and at most 128 numbers skipped
  pub first_found-some : (n m : ℕ) → m ≤ n + 128 → length (found p number m) ≡ n → first_found p number n ≡ Some (found p number m)
  unfolding first_found
  first_found-some n m le len =
      let all = all_numbers n m le in
      let enough : n ≤ length (found p number m ++ all.rest) = omega (arith, length-append (found p number m) all.rest) in
      ap (choose n) all.whole
      ∙ ap (λ b. cond b (Some (take n (found p number m ++ all.rest))) None) (le-leb n (length (found p number m ++ all.rest)) enough)
      ∙ ap Some (take_at (found p number m) all.rest n len)

  -- and is spent where 129 were skipped before n elements were found
  pub first_found-none : (n m : ℕ) → length (found p number m) < n → m ≡ length (found p number m) + 129 → first_found p number n ≡ None
  unfolding first_found
  first_found-none n m lt is =
      let all = all_numbers n m (omega arith) in
      let few : length (found p number m ++ all.rest) < n = omega (arith, length-append (found p number m) all.rest, all.few) in
      ap (choose n) all.whole
      ∙ ap (λ b. cond b (Some (take n (found p number m ++ all.rest))) None) (lt-leb n (length (found p number m ++ all.rest)) few)

  pub numbers_read-le : (n : ℕ) → numbers_read p number n ≤ n + 128
  unfolding numbers_read
  numbers_read-le n =
      let last : n + 129 ≡ suc (n + 128) = omega arith in
      let within : first_from (is_done p number n) 0 (n + 129) < 0 + suc (n + 128) = subst (λ k. first_from (is_done p number n) 0 k < 0 + suc (n + 128)) (sym last) (first_from-lt (is_done p number n) (n + 128) 0) in
      omega arith

  pub numbers_read-is : (n m : ℕ) → m < n + 129 → ((j : ℕ) → j < m → is_done p number n j ≡ false) → is_done p number n m ≡ true → numbers_read p number n ≡ m
  unfolding numbers_read
  numbers_read-is n m lt fails done = first_from-is (is_done p number n) (n + 129) 0 m (omega arith) (omega arith) (λ j low high. fails j high) done

  pub undone : (n m : ℕ) → length (found p number m) < n → m < length (found p number m) + 129 → is_done p number n m ≡ false
  undone n m few short = (λ i. ne_eqb (length (found p number m)) n (omega arith) i || ne_eqb m (length (found p number m) + 129) (omega arith) i)

  pub done_found : (n m : ℕ) → length (found p number m) ≡ n → is_done p number n m ≡ true
  done_found n m all = ap (λ b. b || (m == length (found p number m) + 129)) (eq-eqb (length (found p number m)) n all)

  pub done_spent : (n m : ℕ) → length (found p number m) < n → m ≡ length (found p number m) + 129 → is_done p number n m ≡ true
  done_spent n m few is = λ i. ne_eqb (length (found p number m)) n (omega arith) i || eq-eqb m (length (found p number m) + 129) is i

-- a drawing of n elements has come so far: it has these elements, skipped so many numbers, and wasn't done before
pub record HasRead {F : Type 0} (residue : ℕ → F) (p w : ℕ) (start : Reading) (n : ℕ) (now : Reading) (elements : List F) (skipped : ℕ) : Type 0 where
  pub place : now ≡ advanced start ((length elements + skipped) * w)
  pub values : elements ≡ map residue (found p (number_at start.key w start.place) (length elements + skipped))
  pub few : length elements ≤ n
  pub undone : (j : ℕ) → j < length elements + skipped → is_done p (number_at start.key w start.place) n j ≡ false

module _ {F : Type 0} (residue : ℕ → F) (p w : ℕ) (start : Reading) (n : ℕ) where
  abbrev number : ℕ → ℕ
  number = number_at start.key w start.place

  pub HasRead_begin : HasRead residue p w start n start [] 0
  HasRead_begin =
      let same : start.place ≡ start.place + 0 * w = omega arith in
      record { place = λ i. record { key = start.key; place = same i }; values = refl; few = omega arith; undone = λ j lt. absurd (omega arith) }

  -- the number that a reading comes to
  pub at_reading : (now : Reading) (elements : List F) (skipped : ℕ) → HasRead residue p w start n now elements skipped
      → from_low (bytes_at now.key now.place w) ≡ number (length elements + skipped)
  unfolding number_at
  at_reading now elements skipped held = ap (λ (r : Reading). from_low (bytes_at r.key r.place w)) held.place

  count : (now : Reading) (elements : List F) (skipped : ℕ) → HasRead residue p w start n now elements skipped → length (found p number (length elements + skipped)) ≡ length elements
  count now elements skipped held = sym (ap length held.values ∙ length-map (found p number (length elements + skipped)) residue)

  -- one number more, at the end of m of them
  one_on : (now next : Reading) (m k : ℕ) → now ≡ advanced start (m * w) → next ≡ advanced now w → k ≡ m + 1 → next ≡ advanced start (k * w)
  one_on now next m k at is e =
      let place : start.place + m * w + w ≡ start.place + k * w = omega (arith, ap (λ x. x * w) e) in
      is ∙ ap (λ r. advanced r w) at ∙ (λ i. record { key = start.key; place = place i })

  -- no more than 128 were skipped and elements are wanted, so the drawing wasn't done
  undone_on : (now : Reading) (elements : List F) (skipped k : ℕ) → HasRead residue p w start n now elements skipped → length elements < n → skipped ≤ 128 → k ≡ length elements + skipped + 1
      → (j : ℕ) → j < k → is_done p number n j ≡ false
  undone_on now elements skipped k held wanted few e j lt =
      let m = length elements + skipped in
      let here = count now elements skipped held in
      elim (cases_lt j m) [
        | inl before ↦ held.undone j before
        | inr last ↦
            let same : m ≡ j = omega arith in
            subst (λ i. is_done p number n i ≡ false) same (undone p number n m (omega (arith, here)) (omega (arith, here)))
      ]

  pub HasRead_found : (now next : Reading) (elements : List F) (skipped : ℕ) (x : F) → HasRead residue p w start n now elements skipped → length elements < n → skipped ≤ 128
      → Some x ≡ element_of residue p (from_low (bytes_at now.key now.place w)) → next ≡ advanced now w → HasRead residue p w start n next (elements ++ x ∷ []) skipped
  HasRead_found now next elements skipped x held wanted few is on =
      let m = length elements + skipped in
      let value = element_some residue p (number m) x (is ∙ ap (element_of residue p) (at_reading now elements skipped held)) in
      let longer : length (elements ++ x ∷ []) ≡ length elements + 1 = length_push elements x in
      let k : length (elements ++ x ∷ []) + skipped ≡ m + 1 = omega (arith, longer) in
      record {
        place = one_on now next m (length (elements ++ x ∷ []) + skipped) held.place on k;
        values =
            (λ i. held.values i ++ value.1 i ∷ []) ∙ sym (map_push residue (found p number m) (number m))
            ∙ ap (map residue) (sym (found_next p number m value.0)) ∙ ap (λ j. map residue (found p number j)) (sym k);
        few = omega (arith, longer);
        undone = undone_on now elements skipped (length (elements ++ x ∷ []) + skipped) held wanted few k;
      }

  pub HasRead_skipped : (now next : Reading) (elements : List F) (skipped : ℕ) → HasRead residue p w start n now elements skipped → length elements < n → skipped ≤ 128
      → None ≡ element_of residue p (from_low (bytes_at now.key now.place w)) → next ≡ advanced now w → HasRead residue p w start n next elements (skipped + 1)
  HasRead_skipped now next elements skipped held wanted few is on =
      let m = length elements + skipped in
      let other = element_none residue p (number m) (is ∙ ap (element_of residue p) (at_reading now elements skipped held)) in
      let k : length elements + (skipped + 1) ≡ m + 1 = omega arith in
      record {
        place = one_on now next m (length elements + (skipped + 1)) held.place on k;
        values = held.values ∙ ap (map residue) (sym (found_skipped p number m other)) ∙ ap (λ j. map residue (found p number j)) (sym k);
        few = held.few;
        undone = undone_on now elements skipped (length elements + (skipped + 1)) held wanted few k;
      }

  -- all elements were found
  pub all_drawn : (now : Reading) (elements : List F) (skipped : ℕ) → HasRead residue p w start n now elements skipped → length elements ≡ n → skipped ≤ 128
      → drawn_at residue p w start.key start.place n ≡ Some elements
  unfolding drawn_at
  all_drawn now elements skipped held all few =
      let m = length elements + skipped in
      ap (as_elements residue) (first_found-some p number n m (omega arith) (count now elements skipped held ∙ all)) ∙ ap Some (sym held.values)

  pub all_read : (now : Reading) (elements : List F) (skipped : ℕ) → HasRead residue p w start n now elements skipped → length elements ≡ n → skipped ≤ 128
      → now ≡ advanced start (bytes_drawn p w start.key start.place n)
  all_read now elements skipped held all few =
      let m = length elements + skipped in
      held.place ∙ ap (λ k. advanced start (k * w)) (sym (numbers_read-is p number n m (omega arith) held.undone (done_found p number n m (count now elements skipped held ∙ all))))

  -- more than 128 were skipped
  pub none_drawn : (now : Reading) (elements : List F) (skipped : ℕ) → HasRead residue p w start n now elements skipped → length elements < n → skipped ≡ 129
      → drawn_at residue p w start.key start.place n ≡ None
  unfolding drawn_at
  none_drawn now elements skipped held wanted all =
      let here = count now elements skipped held in
      ap (as_elements residue) (first_found-none p number n (length elements + skipped) (omega (arith, here)) (omega (arith, here)))

  pub none_read : (now : Reading) (elements : List F) (skipped : ℕ) → HasRead residue p w start n now elements skipped → length elements < n → skipped ≡ 129
      → now ≡ advanced start (bytes_drawn p w start.key start.place n)
  none_read now elements skipped held wanted all =
      let m = length elements + skipped in
      let here = count now elements skipped held in
      held.place
      ∙ ap (λ k. advanced start (k * w)) (sym (numbers_read-is p number n m (omega arith) held.undone (done_spent p number n m (omega (arith, here)) (omega (arith, here)))))

-- a drawing takes no more than it may skip beside its elements
pub bytes_drawn-le : (p w : ℕ) (key : List ℕ) (place n : ℕ) → bytes_drawn p w key place n ≤ (n + 128) * w
bytes_drawn-le p w key place n = mul-le-mul_right w (numbers_read-le p (number_at key w place) n)

pub reached : (p w : ℕ) (start now : Reading) (n : ℕ) → now ≡ advanced start (bytes_drawn p w start.key start.place n) → now.place ≤ start.place + (n + 128) * w
reached p w start now n is = omega (arith, ap (λ (reading : Reading). reading.place) is, bytes_drawn-le p w start.key start.place n)

-- what is drawn has its length
pub length-drawn_at : {F : Type 0} (residue : ℕ → F) (p w : ℕ) (key : List ℕ) (place n : ℕ) (xs : List F) → drawn_at residue p w key place n ≡ Some xs → length xs ≡ n
unfolding drawn_at first_found
length-drawn_at {F} residue p w key place n xs e = go (nat_le n (length all)) refl e
  where
    all : List ℕ
    all = found p (number_at key w place) (n + 128)

    go : (b : Bool) → nat_le n (length all) ≡ b → as_elements residue (cond b (Some (take n all)) None) ≡ Some xs → length xs ≡ n
    go true is e =
        let drawn : map residue (take n all) ≡ xs = cc in
        sym (ap length drawn) ∙ length-map (take n all) residue ∙ length-take-le n all (leb-true n (length all) is)
    go false is e = absurd (cc)

-- nothing is always drawn
pub drawn_at-none : {F : Type 0} (residue : ℕ → F) (p w : ℕ) (key : List ℕ) (place : ℕ) → drawn_at residue p w key place 0 ≡ Some []
unfolding drawn_at
drawn_at-none residue p w key place = ap (as_elements residue) (first_found-some p (number_at key w place) 0 0 (omega arith) refl)

pub length-drawn : {F : Type 0} (residue : ℕ → F) (p w : ℕ) (seed info : List ℕ) (n : ℕ) (xs : List F) → drawn residue p w seed info n ≡ Some xs → length xs ≡ n
length-drawn residue p w seed info n xs e = length-drawn_at residue p w (cmac seed info) 0 n xs e

pub drawn-none : {F : Type 0} (residue : ℕ → F) (p w : ℕ) (seed info : List ℕ) → drawn residue p w seed info 0 ≡ Some []
drawn-none residue p w seed info = drawn_at-none residue p w (cmac seed info) 0
