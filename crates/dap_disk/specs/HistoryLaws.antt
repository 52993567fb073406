-- How the history of a disk in memory goes on: what the laws of the trait need.
use Rattle.std.proofs.Common.{◌≡◌, inl, inr, ℕ, ◌+◌, ◌-◌, ◌≤◌, ◌<◌, min, List, [], ◌∷◌, ◌++◌, length, take, drop, replicate, refl, sym, ◌∙◌, ap, subst, arith, append_assoc, length-append, length-take, length-drop, length-take-le, Some}
use Rattle.std.proofs.lemmas.List.{append-nil, take_all, take_at, drop_at, take-take, length-replicate}
use Rattle.std.proofs.lemmas.Bool.Decides.{nat_tests}
use Rattle.std.proofs.lemmas.Bool.{cases_lt}
use Rattle.dap_disk.specs.Disk.{Torn, Shortened, written}
use Rattle.dap_disk.specs.RunLaws.{torn_same, shortened_same}
use Rattle.dap_disk.specs.Images.{Change, Written, CutTo}
use Rattle.dap_disk.specs.ImageLaws.{reached_is_allowed}
use Rattle.dap_disk.specs.Steps.{Takes, Reaches}
use Rattle.dap_disk.specs.declared.image.Image.{Image}
use Rattle.dap_disk.specs.declared.image.Image.TheVariants.{Old, New, Fill}
use Rattle.dap_disk.specs.declared.event.Event.{Event}
use Rattle.dap_disk.specs.History.{laid, put, puts, left_by, state_of, held_after, IsImage, WasImage}

-- a write where it can stand tears the image at most
torn_written : (at n : ℕ) (bytes c : List ℕ) → at ≤ length c → length bytes ≡ n → Torn at n c (written at bytes c)
torn_written at n bytes c le is =
    let long : length (take at c) ≡ at = length-take-le at c le in
    let rest = drop (at + length bytes) c in
    let size : length (written at bytes c) ≡ at + (n + (length c - (at + n))) =
    length-append (take at c) (bytes ++ rest) ∙ (let whole = length-append bytes rest in let past = length-drop (at + length bytes) c in omega (arith, long, whole, past, is)) in
    record {
      before = take_at (take at c) (bytes ++ rest) at long;
      after =
          ap (λ (l : List ℕ). drop (at + n) l) (sym (append_assoc (take at c) bytes rest))
          ∙ drop_at (take at c ++ bytes) rest (at + n) (length-append (take at c) bytes ∙ (omega (arith, long, is)))
          ∙ ap (λ (m : ℕ). drop (at + m) c) is;
      no_shorter = omega (arith, size);
      no_longer = omega (arith, size);
    }

not_laid : (at : ℕ) (bytes c : List ℕ) → length c < at → laid at bytes c ≡ c
not_laid at bytes c lt = grind (arith, nat_tests)

pub laid_is : (at : ℕ) (bytes c : List ℕ) → at ≤ length c → laid at bytes c ≡ written at bytes c
laid_is at bytes c le = grind (arith, nat_tests)

torn_laid : (at n : ℕ) (bytes c : List ℕ) → length bytes ≡ n → Torn at n c (laid at bytes c)
torn_laid at n bytes c is = elim (cases_lt (length c) at) [
  | inl lt ↦ subst (Torn at n c) (sym (not_laid at bytes c lt)) (torn_same at n c)
  | inr le ↦ subst (Torn at n c) (sym (laid_is at bytes c le)) (torn_written at n bytes c le is)
]

shortened_take : (len : ℕ) (c : List ℕ) → Shortened len c (take len c)
shortened_take len c =
    let size = length-take len c in
    record { front = take-take len len c (omega arith); no_shorter = omega (arith, size); no_longer = omega (arith, size) }

shortened_filled : (len b : ℕ) (c : List ℕ) → Shortened len c (take len c ++ replicate (length c - len) b)
shortened_filled len b c =
    let size : length (take len c ++ replicate (length c - len) b) ≡ min len (length c) + (length c - len) =
    length-append (take len c) (replicate (length c - len) b) ∙ (let front = length-take len c in let back = length-replicate (length c - len) b in omega (arith, front, back)) in
    record {
      front = elim (cases_lt (length c) len) [
        | inl lt ↦
            (let none : replicate (length c - len) b ≡ [] = ap (λ (n : ℕ). replicate n b) (let z : length c - len ≡ 0 = omega (arith, lt) in z) in
            ap (λ (l : List ℕ). take len (take len c ++ l)) none ∙ ap (λ (l : List ℕ). take len l) (append-nil (take len c)) ∙ take-take len len c (omega arith))
        | inr le ↦ take_at (take len c) (replicate (length c - len) b) len (length-take-le len c le)
      ];
      no_shorter = omega (arith, size);
      no_longer = omega (arith, size);
    }

pub takes_put : (image : Image) (change : Change) (c : List ℕ) → Takes change c (put image change c)
takes_put Old (Written at bytes) c = torn_same at (length bytes) c
takes_put Old (CutTo len) c = shortened_same len c
takes_put New (Written at bytes) c = torn_laid at (length bytes) bytes c refl
takes_put New (CutTo len) c = shortened_take len c
takes_put (Fill b) (Written at bytes) c = torn_laid at (length bytes) (replicate (length bytes) b) c (length-replicate (length bytes) b)
takes_put (Fill b) (CutTo len) c = shortened_filled len b c

rule_reaches : (image : Image) (changes : List Change) (synced : List ℕ) → Reaches changes synced (puts image changes synced)
rule_reaches image [] synced = refl
rule_reaches image (change ∷ later) synced = (put image change synced, takes_put image change synced, rule_reaches image later (put image change synced))

module _ (first : List ℕ) (events : List Event) where
  -- what a rule leaves is an image
  pub left_may_be : (image : Image) → IsImage first events (left_by image (state_of first events))
  left_may_be image =
      let s = state_of first events in
      reached_is_allowed s.pending s.synced (left_by image s) (rule_reaches image s.pending s.synced)

  pub held_is_image : (c : List ℕ) → Some (held_after first events) ≡ Some c → IsImage first events c
  held_is_image c is = let same : held_after first events ≡ c = cc is in subst (IsImage first events) same (left_may_be New)

  pub was_now : (t : ℕ) (c : List ℕ) → t ≤ length events → IsImage first events c → WasImage first events t c
  was_now t c le now = (length events, le, omega arith, subst (λ (es : List Event). IsImage first es c) (sym (take_all (length events) events (omega arith))) now)

  pub was_only : (c : List ℕ) → WasImage first events (length events) c → IsImage first events c
  was_only c was = subst (λ (es : List Event). IsImage first es c) (take_all was.0 events was.1) was.3
