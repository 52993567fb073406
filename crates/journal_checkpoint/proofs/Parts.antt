-- What a call does from a place on.
use Rattle.std.proofs.Common.{◌≡◌, ℕ, ◌+◌, ◌-◌, ◌≤◌, ◌<◌, ◌^◌, min, inl, inr, List, ◌++◌, length, take, drop, Option, Some, None, refl, sym, ◌∙◌, ap, arith, length-drop, length-take-le}
use Rattle.std.proofs.lemmas.List.{drop-drop, drop-take, drop-append-le}
use Rattle.std.proofs.lemmas.Bool.{cases_lt}
use Rattle.dap_disk.specs.Disk.{Torn, Shortened, of_told, written}
use Rattle.dap_disk.specs.RunLaws.{told_before}

module _ (s : ℕ) where
  take_past : (n place : ℕ) (c : List ℕ) → place ≡ n + s → take n (drop s c) ≡ drop s (take place c)
  take_past n place c is = sym (drop-take s n c) ∙ ap (λ (m : ℕ). drop s (take m c)) (let m : s + n ≡ place = omega (arith, is) in m)

  pub torn_past : (at n place : ℕ) (d c : List ℕ) → place ≡ at + s → s ≤ length d → Torn place n d c → Torn at n (drop s d) (drop s c)
  torn_past at n place d c is long torn =
      let left = length-drop s d in
      let right = length-drop s c in
      let past : s + (at + n) ≡ place + n = omega (arith, is) in
      record {
        before = take_past at place c is ∙ ap (λ (l : List ℕ). drop s l) torn.before ∙ sym (take_past at place d is);
        after =
            drop-drop (at + n) s c ∙ ap (λ (m : ℕ). drop m c) past ∙ torn.after ∙ ap (λ (m : ℕ). drop m d) (sym past) ∙ sym (drop-drop (at + n) s d);
        no_shorter = omega (arith, left, right, torn.no_shorter);
        no_longer = omega (arith, left, right, torn.no_longer, is, long);
      }

  pub shortened_past : (len place : ℕ) (d c : List ℕ) → place ≡ len + s → s ≤ length d → Shortened place d c → Shortened len (drop s d) (drop s c)
  shortened_past len place d c is long cut =
      let left = length-drop s d in
      let right = length-drop s c in
      record {
        front = take_past len place c is ∙ ap (λ (l : List ℕ). drop s l) cut.front ∙ sym (take_past len place d is);
        no_shorter = omega (arith, left, right, cut.no_shorter, is, long);
        no_longer = omega (arith, left, right, cut.no_longer);
      }

  written_past : (at place : ℕ) (bytes d : List ℕ) → place ≡ at + s → place ≤ length d → drop s (written place bytes d) ≡ written at bytes (drop s d)
  written_past at place bytes d is long =
      let front : length (take place d) ≡ place = length-take-le place d long in
      let past : s + (at + length bytes) ≡ place + length bytes = omega (arith, is) in
      drop-append-le s (take place d) (bytes ++ drop (place + length bytes) d) (omega (arith, front, is))
      ∙ ap (λ (l : List ℕ). l ++ (bytes ++ drop (place + length bytes) d)) (sym (take_past at place d is))
      ∙ ap (λ (l : List ℕ). take at (drop s d) ++ (bytes ++ l)) (ap (λ (m : ℕ). drop m d) (sym past) ∙ sym (drop-drop (at + length bytes) s d))

  pub written_told : (at place : ℕ) (bytes : List ℕ) (old new : Option (List ℕ)) → place ≡ at + s → ((c : List ℕ) → old ≡ Some c → place ≤ length c) → new ≡ of_told (written place bytes) old
      → of_told (drop s) new ≡ of_told (written at bytes) (of_told (drop s) old)
  written_told at place bytes None new is within done = ap (of_told (drop s)) done
  written_told at place bytes (Some d) new is within done = ap (of_told (drop s)) done ∙ ap Some (written_past at place bytes d is (within d refl))

  pub cut_told : (len place : ℕ) (old new : Option (List ℕ)) → place ≡ len + s → new ≡ of_told (take place) old → of_told (drop s) new ≡ of_told (take len) (of_told (drop s) old)
  cut_told len place None new is done = ap (of_told (drop s)) done
  cut_told len place (Some d) new is done = ap (of_told (drop s)) done ∙ ap Some (sym (take_past len place d is))

  -- a read from a place on, where a place past every length stands for those that have no number
  pub read_told : (at place n size : ℕ) (now : List ℕ) (held : Option (List ℕ)) → place ≡ min (at + s) (2 ^ 64 - 1) → ((d : List ℕ) → held ≡ Some d → length d < 2 ^ 64)
      → ((d : List ℕ) → held ≡ Some d → (take n now ≡ take n (drop place d)) × (n ≤ length d - place) × (0 < size → place < length d → 0 < n))
      → (c : List ℕ) → of_told (drop s) held ≡ Some c → (take n now ≡ take n (drop at c)) × (n ≤ length c - at) × (0 < size → at < length c → 0 < n)
  read_told at place n size now held is fits told c holds =
      let from = told_before (drop s) held c holds in
      let d = from.0 in
      let was = told d from.1 in
      let small = fits d from.1 in
      let left : length c ≡ length d - s = ap length from.2 ∙ length-drop s d in
      elim (cases_lt (2 ^ 64 - 1) (at + s)) [
        | inl far ↦
            (let none : n ≡ 0 = omega (arith, was.1, is, far, small) in
            (ap (λ (m : ℕ). take m now) none ∙ sym (ap (λ (m : ℕ). take m (drop at c)) none), omega (arith, none), λ some lt. absurd (omega (arith, lt, left, far, small))))
        | inr near ↦
            (let same : place ≡ s + at = omega (arith, is, near) in
            let there : drop place d ≡ drop at c = ap (λ (m : ℕ). drop m d) same ∙ sym (drop-drop at s d) ∙ ap (λ (l : List ℕ). drop at l) (sym from.2) in
            (was.0 ∙ ap (λ (l : List ℕ). take n l) there, omega (arith, was.1, left, same), λ some lt. was.2 some (omega (arith, lt, left, same))))
      ]
