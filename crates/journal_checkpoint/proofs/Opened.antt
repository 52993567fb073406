-- A pair stays opened, or is opened with the other disk live.
use Rattle.std.proofs.Common.{◌≡◌, ℕ, ◌+◌, ◌<◌, ◌^◌, Bool, true, false, not, IsTrue, List, [], ◌∷◌, ◌++◌, take, drop, Option, Some, refl, sym, ◌∙◌, ap, arith}
use Rattle.std.proofs.lemmas.List.{take_at}
use Rattle.dap_disk.specs.Disk.{NoMore, Only, Tells, of_told}
use Rattle.dap_disk.specs.RunLaws.{told_before}
use Rattle.report_journal.specs.Journal.{blocks}
use Rattle.journal_checkpoint.specs.Heads.{head, generation_of, front_of, headed}
use Rattle.journal_checkpoint.specs.Pair.{disks_of, IsOpened}
use Rattle.journal_checkpoint.proofs.Heads.{read_head, front_later, next_journal}

-- the head of such a file
pub headed_front : (g : ℕ) (parts : List (List (List ℕ))) → take 9 (headed (g + 1) parts) ≡ front_of (g + 1)
headed_front g parts = take_at (head (g + 1)) (blocks parts ++ 0 ∷ []) 9 refl ∙ sym (front_later (g + 1) (omega arith))

pub headed_generation : (g : ℕ) (parts : List (List (List ℕ))) → g + 1 < 2 ^ 64 → generation_of (headed (g + 1) parts) ≡ g + 1
headed_generation g parts room = read_head (headed (g + 1) parts) (g + 1) room (take_at (head (g + 1)) (blocks parts ++ 0 ∷ []) 9 refl)

-- what is told of a disk that got this file
pub headed_told : (old new : Option (List ℕ)) (file c : List ℕ) → new ≡ of_told (λ _. file) old → new ≡ Some c → c ≡ file
headed_told old new file c done told = (told_before (λ _. file) old c (sym done ∙ told)).2

module _ {D : Type 0} (holds : D → Option (List ℕ)) (is_up : D → Bool) (may_leave : D → List ℕ → Type 0) where
  pub opened_same : (second : Bool) (live other live' other' : D) (g start : ℕ) → IsOpened holds is_up may_leave second live other g start → IsTrue (is_up live') → holds live' ≡ holds live → NoMore (may_leave live) (may_leave live') → other' ≡ other
      → IsOpened holds is_up may_leave second live' other' g start
  opened_same false live other live' other' g start opened up same no_more kept = record {
    up = up;
    journal = λ a b told_a told_b. ap (of_told (drop start)) same ∙ opened.journal a b (sym same ∙ told_a) (sym (ap holds kept) ∙ told_b);
    greatest = λ a b told_a told_b. opened.greatest a b (sym same ∙ told_a) (sym (ap holds kept) ∙ told_b);
    head = λ c told. opened.head c (sym same ∙ told);
    synced = λ c left. same ∙ opened.synced c (no_more c left);
  }
  opened_same true live other live' other' g start opened up same no_more kept = record {
    up = up;
    journal = λ a b told_a told_b. ap (of_told (drop start)) same ∙ opened.journal a b (sym (ap holds kept) ∙ told_a) (sym same ∙ told_b);
    greatest = λ a b told_a told_b. opened.greatest a b (sym (ap holds kept) ∙ told_a) (sym same ∙ told_b);
    head = λ c told. opened.head c (sym same ∙ told);
    synced = λ c left. same ∙ opened.synced c (no_more c left);
  }

  pub opened_next : (second : Bool) (live other live' other' : D) (g : ℕ) (parts : List (List (List ℕ))) → Tells (holds live) (λ c. generation_of c ≡ g) → holds live' ≡ holds live → holds other' ≡ of_told (λ _. headed (g + 1) parts) (holds other)
      → g + 1 < 2 ^ 64 → IsTrue (is_up other') → Only (holds other') (may_leave other') → IsOpened holds is_up may_leave (not second) other' live' (g + 1) 9
  opened_next false live other live' other' g parts was same done room up only = record {
    up = up;
    journal = λ a b told_a told_b. ap (of_told (drop 9)) told_b ∙ ap Some (sym (next_journal false a b g (was a (sym same ∙ told_a)) (next b told_b)));
    greatest = λ a b told_a told_b. (let here = was a (sym same ∙ told_a) in let later = next b told_b in omega (arith, here, later));
    head = next;
    synced = only;
  }
    where
      next : (b : List ℕ) → holds other' ≡ Some b → generation_of b ≡ g + 1
      next b told = ap generation_of (headed_told (holds other) (holds other') (headed (g + 1) parts) b done told) ∙ headed_generation g parts room
  opened_next true live other live' other' g parts was same done room up only = record {
    up = up;
    journal = λ a b told_a told_b. ap (of_told (drop 9)) told_a ∙ ap Some (sym (next_journal true b a g (was b (sym same ∙ told_b)) (next a told_a)));
    greatest = λ a b told_a told_b. (let here = was b (sym same ∙ told_b) in let later = next a told_a in omega (arith, here, later));
    head = next;
    synced = only;
  }
    where
      next : (b : List ℕ) → holds other' ≡ Some b → generation_of b ≡ g + 1
      next b told = ap generation_of (headed_told (holds other) (holds other') (headed (g + 1) parts) b done told) ∙ headed_generation g parts room

-- the two disks in their order
pub disks_turned : {D : Type 0} (second : Bool) (live other : D) → disks_of (not second) other live ≡ disks_of second live other
disks_turned false live other = refl
disks_turned true live other = refl

-- such a file begins with its head
pub headed_file : (old new : Option (List ℕ)) (g : ℕ) (parts : List (List (List ℕ))) → new ≡ of_told (λ _. headed (g + 1) parts) old → (c : List ℕ) → new ≡ Some c → take 9 c ≡ front_of (g + 1)
headed_file old new g parts done c told = ap (λ (l : List ℕ). take 9 l) (headed_told old new (headed (g + 1) parts) c done told) ∙ headed_front g parts
