-- The steps reach the images of the disk model's sentence, and no others.
use Rattle.std.proofs.Common.{◌≡◌, ◌⊎◌, inl, inr, ⊎_elim, ℕ, ◌+◌, ◌-◌, ◌≤◌, ◌<◌, min, max, nat_le, nat_lt, cond, ◌&&◌, true, List, [], ◌∷◌, ◌++◌, length, get_or, take, drop, map, refl, sym, ◌∙◌, ap, subst, arith, length-take, length-drop}
use Rattle.std.proofs.lemmas.List.{ext_get_or, get_or-take, get_or-drop}
use Rattle.std.proofs.lemmas.List.FromFn.{length-map-range_with_len, get_or-map-range_with_len}
use Rattle.std.proofs.lemmas.Bool.Decides.{nat_tests}
use Rattle.std.proofs.lemmas.Bool.{cases_lt}
use Rattle.std.specs.List.{range_with_len}
use Rattle.dap_disk.specs.RunLaws.{torn_same}
use Rattle.dap_disk.specs.Images.{Change, Written, CutTo, least, greatest, Allowed, are_within}
use Rattle.dap_disk.specs.Steps.{Reaches, StepsAreImages}

pub greatest_up : (n : ℕ) (es : List Change) → n ≤ greatest n es
greatest_up n [] = omega arith
greatest_up n (Written at bytes ∷ es) = omega (arith, greatest_up (max n (at + length bytes)) es)
greatest_up n (CutTo len ∷ es) = greatest_up n es

pub greatest_mono : (m n : ℕ) (es : List Change) → m ≤ n → greatest m es ≤ greatest n es
greatest_mono m n [] le = le
greatest_mono m n (Written at bytes ∷ es) le = greatest_mono (max m (at + length bytes)) (max n (at + length bytes)) es (omega (arith, le))
greatest_mono m n (CutTo len ∷ es) le = greatest_mono m n es le

pub greatest-append : (n : ℕ) (es fs : List Change) → greatest n (es ++ fs) ≡ greatest (greatest n es) fs
greatest-append n [] fs = refl
greatest-append n (Written at bytes ∷ es) fs = greatest-append (max n (at + length bytes)) es fs
greatest-append n (CutTo len ∷ es) fs = greatest-append n es fs

-- a write stands within the length, and the later changes stand after it
pub within_write : (n at size : ℕ) (es : List Change) → nat_le at n && are_within (max n size) es ≡ true → (at ≤ n) × (are_within (max n size) es ≡ true)
within_write n at size es ok = (grind (arith, nat_tests), grind (arith, nat_tests))

pub within_cut : (n len : ℕ) (es : List Change) → nat_le len n && are_within len es ≡ true → (len ≤ n) × (are_within len es ≡ true)
within_cut n len es ok = (grind (arith, nat_tests), grind (arith, nat_tests))

least_le : (n : ℕ) (es : List Change) → least n es ≤ n
least_le n [] = omega arith
least_le n (Written at bytes ∷ es) = least_le n es
least_le n (CutTo len ∷ es) = omega (arith, least_le (min n len) es)

least_mono : (m n : ℕ) (es : List Change) → m ≤ n → least m es ≤ least n es
least_mono m n [] le = le
least_mono m n (Written at bytes ∷ es) le = least_mono m n es le
least_mono m n (CutTo len ∷ es) le = least_mono (min m len) (min n len) es (omega (arith, le))

-- below one least length and below n is below the least from n
least_swap : (m n i : ℕ) (es : List Change) → i < least m es → i < n → i < least n es
least_swap m n i [] below lt = lt
least_swap m n i (Written at bytes ∷ es) below lt = least_swap m n i es below lt
least_swap m n i (CutTo len ∷ es) below lt = least_swap (min m len) (min n len) i es below (omega (arith, below, least_le (min m len) es, lt))

front_at : (n i : ℕ) (c d : List ℕ) → take n c ≡ take n d → i < n → get_or c i 0 ≡ get_or d i 0
front_at n i c d same lt = sym (get_or-take n c i 0 lt) ∙ ap (λ (l : List ℕ). get_or l i 0) same ∙ get_or-take n d i 0 lt

back_at : (n i : ℕ) (c d : List ℕ) → drop n c ≡ drop n d → n ≤ i → get_or c i 0 ≡ get_or d i 0
back_at n i c d same le =
    let at : n + (i - n) ≡ i = omega (arith, le) in
    ap (λ (j : ℕ). get_or c j 0) (sym at) ∙ sym (get_or-drop n c (i - n) 0) ∙ ap (λ (l : List ℕ). get_or l (i - n) 0) same ∙ get_or-drop n d (i - n) 0 ∙ ap (λ (j : ℕ). get_or d j 0) at

-- no others
pub reached_is_allowed : (es : List Change) (base c : List ℕ) → Reaches es base c → Allowed base es c
reached_is_allowed [] base c r = record { no_shorter = omega (arith, ap length r); no_longer = omega (arith, ap length r); stays = λ i below not. ap (λ (l : List ℕ). get_or l i 0) r }
reached_is_allowed (Written at bytes ∷ es) base c r =
    let d = r.0 in
    let torn = r.1 in
    let rest = reached_is_allowed es d c r.2 in
    record {
      no_shorter = omega (arith, rest.no_shorter, least_mono (length base) (length d) es torn.no_shorter);
      no_longer = omega (arith, rest.no_longer, greatest_mono (length d) (max (length base) (at + length bytes)) es torn.no_longer);
      stays = λ i below not.
          rest.stays i (omega (arith, below, least_mono (length base) (length d) es torn.no_shorter)) (λ w. not (inr w))
          ∙ ⊎_elim (λ before. front_at at i d base torn.before before)
          (λ le. ⊎_elim (λ inside. absurd (not (inl (le, inside)))) (λ past. back_at (at + length bytes) i d base torn.after past) (cases_lt i (at + length bytes))) (cases_lt i at);
    }
reached_is_allowed (CutTo len ∷ es) base c r =
    let d = r.0 in
    let cut = r.1 in
    let rest = reached_is_allowed es d c r.2 in
    let lower = least_mono (min (length base) len) (length d) es (omega (arith, cut.no_shorter)) in
    record {
      no_shorter = omega (arith, rest.no_shorter, lower);
      no_longer = omega (arith, rest.no_longer, greatest_mono (length d) (length base) es cut.no_longer);
      stays = λ i below not. rest.stays i (omega (arith, below, lower)) not ∙ front_at len i d base cut.front (omega (arith, below, least_le (min (length base) len) es));
    }

-- the list of n numbers by their places
made : ℕ → (ℕ → ℕ) → List ℕ
made n f = map f (range_with_len 0 n)

length-made : (n : ℕ) (f : ℕ → ℕ) → length (made n f) ≡ n
unfolding made
length-made n f = length-map-range_with_len f 0 n

made_at : (n : ℕ) (f : ℕ → ℕ) (i : ℕ) → i < n → get_or (made n f) i 0 ≡ f i
unfolding made
made_at n f i lt = get_or-map-range_with_len f 0 n i i 0 lt (omega arith)

-- c's number in a range, and base's elsewhere
picked : ℕ → ℕ → List ℕ → List ℕ → ℕ → ℕ
picked at end base c i = cond (nat_le at i && nat_lt i end) (get_or c i 0) (get_or base i 0)

picked_in : (at end : ℕ) (base c : List ℕ) (i : ℕ) → at ≤ i → i < end → picked at end base c i ≡ get_or c i 0
unfolding picked
picked_in at end base c i le lt = grind (arith, nat_tests)

picked_before : (at end : ℕ) (base c : List ℕ) (i : ℕ) → i < at → picked at end base c i ≡ get_or base i 0
unfolding picked
picked_before at end base c i lt = grind (arith, nat_tests)

picked_past : (at end : ℕ) (base c : List ℕ) (i : ℕ) → end ≤ i → picked at end base c i ≡ get_or base i 0
unfolding picked
picked_past at end base c i le = grind (arith, nat_tests)

same_front : (n : ℕ) (c d : List ℕ) → min n (length c) ≡ min n (length d) → ((i : ℕ) → i < n → i < length c → get_or c i 0 ≡ get_or d i 0) → take n c ≡ take n d
same_front n c d sizes each =
    let left = length-take n c in
    let right = length-take n d in
    ext_get_or 0 (take n c) (take n d) (omega (arith, left, right, sizes))
    (λ i lt. get_or-take n c i 0 (omega (arith, lt, left)) ∙ each i (omega (arith, lt, left)) (omega (arith, lt, left)) ∙ sym (get_or-take n d i 0 (omega (arith, lt, left))))

same_back : (n : ℕ) (c d : List ℕ) → length c - n ≡ length d - n → ((i : ℕ) → n ≤ i → i < length c → get_or c i 0 ≡ get_or d i 0) → drop n c ≡ drop n d
same_back n c d sizes each =
    let left = length-drop n c in
    let right = length-drop n d in
    ext_get_or 0 (drop n c) (drop n d) (omega (arith, left, right, sizes))
    (λ i lt. get_or-drop n c i 0 ∙ each (n + i) (omega arith) (omega (arith, lt, left)) ∙ sym (get_or-drop n d i 0))

-- each of them
pub allowed_is_reached : (es : List Change) (base c : List ℕ) (n : ℕ) → are_within n es ≡ true → (length c ≤ length base) ⊎ (n ≤ length base) → Allowed base es c → Reaches es base c
allowed_is_reached [] base c n fits long ok = ext_get_or 0 c base (omega (arith, ok.no_shorter, ok.no_longer)) (λ i lt. ok.stays i (omega (arith, lt, ok.no_longer)) (λ none. none))
allowed_is_reached (Written at bytes ∷ es) base c n ok_within long ok = let fits = within_write n at (at + length bytes) es ok_within in elim (cases_lt (length base) at) [
  | inl short ↦
      (let few : length c ≤ length base = ⊎_elim (λ le. le) (λ le. absurd (omega (arith, le, short, fits.0))) long in (
        base,
        torn_same at (length bytes) base,
        allowed_is_reached es base c (max n (at + length bytes)) fits.1 (inl few) (record {
          no_shorter = ok.no_shorter;
          no_longer = omega (arith, few, greatest_up (length base) es);
          stays = λ i below not. ok.stays i below (λ w. ⊎_elim (λ here. omega (arith, here.0, below, least_le (length base) es, short)) not w);
        }),
      ))
  | inr le ↦
      (let end = at + length bytes in
      let whole = max (length base) end in
      let size = max (length base) (min (length c) whole) in
      let d = made size (picked at end base c) in
      let is : length d ≡ size = length-made size (picked at end base c) in (
        d,
        record {
          before = same_front at d base (omega (arith, is, le)) (λ i lt in_d. made_at size (picked at end base c) i (omega (arith, in_d, is)) ∙ picked_before at end base c i lt);
          after = same_back end d base (omega (arith, is)) (λ i past in_d. made_at size (picked at end base c) i (omega (arith, in_d, is)) ∙ picked_past at end base c i past);
          no_shorter = omega (arith, is);
          no_longer = omega (arith, is);
        },
        allowed_is_reached es d c (max n end) fits.1
            (elim (cases_lt size (length c)) [
              | inl more ↦ inr (⊎_elim (λ few. absurd (omega (arith, few, more))) (λ up. omega (arith, is, more, up)) long)
              | inr few ↦ inl (omega (arith, is, few))
            ])
            (record {
              no_shorter = elim (cases_lt (length c) size) [
                | inl lt ↦ (let same : length d ≡ length base = omega (arith, is, lt) in subst (λ (m : ℕ). least m es ≤ length c) (sym same) ok.no_shorter)
                | inr few ↦ omega (arith, is, few, least_le (length d) es)
              ];
              no_longer = elim (cases_lt size (length c)) [
                | inl more ↦ (let same : length d ≡ whole = omega (arith, is, more) in subst (λ (m : ℕ). length c ≤ greatest m es) (sym same) ok.no_longer)
                | inr few ↦ omega (arith, is, few, greatest_up (length d) es)
              ];
              stays = λ i below not.
                  let in_d : i < size = omega (arith, below, least_le (length d) es, is) in
                  ⊎_elim
                  (λ before. ok.stays i (least_swap (length d) (length base) i es below (omega (arith, before, le))) (λ w. ⊎_elim (λ here. omega (arith, here.0, before)) not w)
                  ∙ sym (made_at size (picked at end base c) i in_d ∙ picked_before at end base c i before))
                  (λ from. ⊎_elim
                  (λ inside. sym (made_at size (picked at end base c) i in_d ∙ picked_in at end base c i from inside))
                  (λ past. ok.stays i (least_swap (length d) (length base) i es below (omega (arith, past, in_d))) (λ w. ⊎_elim (λ here. omega (arith, here.1, past)) not w)
                  ∙ sym (made_at size (picked at end base c) i in_d ∙ picked_past at end base c i past))
                  (cases_lt i end))
                  (cases_lt i at);
            }),
      ))
]
allowed_is_reached (CutTo len ∷ es) base c n ok_within long ok =
    let fits = within_cut n len es ok_within in
    let size = max (min len (length base)) (min (length c) (length base)) in
    let d = made size (picked len size base c) in
    let is : length d ≡ size = length-made size (picked len size base c) in (
      d,
      record {
        front = same_front len d base (omega (arith, is)) (λ i lt in_d. made_at size (picked len size base c) i (omega (arith, in_d, is)) ∙ picked_before len size base c i lt);
        no_shorter = omega (arith, is);
        no_longer = omega (arith, is);
      },
      allowed_is_reached es d c len fits.1
          (elim (cases_lt (length base) len) [
            | inl short ↦ inl (⊎_elim (λ few. omega (arith, is, few)) (λ up. absurd (omega (arith, up, short, fits.0))) long)
            | inr le ↦ inr (omega (arith, is, le))
          ])
          (record {
            no_shorter = elim (cases_lt (length c) size) [
              | inl lt ↦ (let same : length d ≡ min (length base) len = omega (arith, is, lt) in subst (λ (m : ℕ). least m es ≤ length c) (sym same) ok.no_shorter)
              | inr few ↦ omega (arith, is, few, least_le (length d) es)
            ];
            no_longer = elim (cases_lt (length base) (length c)) [
              | inl more ↦ (let same : length d ≡ length base = omega (arith, is, more) in subst (λ (m : ℕ). length c ≤ greatest m es) (sym same) ok.no_longer)
              | inr few ↦ omega (arith, is, few, greatest_up (length d) es)
            ];
            stays = λ i below not.
                let in_d : i < size = omega (arith, below, least_le (length d) es, is) in
                ⊎_elim
                (λ before. ok.stays i (least_swap (length d) (min (length base) len) i es below (omega (arith, before, in_d))) not
                ∙ sym (made_at size (picked len size base c) i in_d ∙ picked_before len size base c i before))
                (λ from. sym (made_at size (picked len size base c) i in_d ∙ picked_in len size base c i from in_d))
                (cases_lt i len);
          }),
    )

pub steps_are_images : StepsAreImages
steps_are_images = record {
  no_others = λ changes synced c. reached_is_allowed changes synced c;
  each = λ changes synced c within. allowed_is_reached changes synced c (length synced) within (inr (omega arith));
}
