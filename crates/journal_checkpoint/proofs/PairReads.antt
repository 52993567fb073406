-- What is read of a pair after a call on its live disk.
use Rattle.std.proofs.Common.{◌≡◌, ◌⊎◌, inl, inr, ⊎_elim, ℕ, ◌+◌, ◌≤◌, ◌<◌, ◌^◌, Bool, false, IsTrue, Result, Ok, Err, OnOk, List, length, take, drop, Option, Some, refl, sym, ◌∙◌, ap, subst, arith, length-take-le}
use Rattle.std.proofs.lemmas.Bool.{cases_lt}
use Rattle.std.proofs.lemmas.List.{take-take, take-append-le}
use Rattle.dap_disk.specs.Disk.{Torn, Shortened, Follows, NoMore, Only, Elapses, Tells, of_told, written}
use Rattle.dap_disk.specs.RunLaws.{told_before}
use Rattle.dap_disk.specs.declared.disk.StoreFault.{StoreFault}
use Rattle.dap_disk.specs.declared.disk.StoreFault.TheVariants as store
use Rattle.journal_checkpoint.specs.Heads.{generation_of, start_of, front_of, pair_journal, in_order, IsOlder}
use Rattle.journal_checkpoint.specs.Pair.{Reads}
use Rattle.journal_checkpoint.proofs.Heads.{front_long, front_generation, start_none, live_journal}
use Rattle.journal_checkpoint.proofs.Parts.{torn_past, shortened_past}

pub front_take : (s n : ℕ) (c d : List ℕ) → s ≤ n → take n c ≡ take n d → take s c ≡ take s d
front_take s n c d le same = sym (take-take s n c le) ∙ ap (λ (l : List ℕ). take s l) same ∙ take-take s n d le

pub front_written : (s at : ℕ) (bytes d : List ℕ) → s ≤ at → at ≤ length d → take s (written at bytes d) ≡ take s d
front_written s at bytes d le within =
    let long : length (take at d) ≡ at = length-take-le at d within in
    take-append-le s (take at d) _ (omega (arith, long, le)) ∙ take-take s at d le

-- what is held keeps P through a change that is made, refused or stopped
pub kept_held : {T : Type 0} (r : Result T StoreFault) (f : List ℕ → List ℕ) (old new : Option (List ℕ)) (up : Bool) (P : List ℕ → Type 0) → ((d : List ℕ) → old ≡ Some d → P d → P (f d)) → Tells old P
    → OnOk r (new ≡ of_told f old) → (r ≡ Err store.NoMemory → new ≡ old) → (r ≡ Err store.Down → up ≡ false) → IsTrue up → Tells new P
kept_held (Ok x) f old new up P keeps was done memory down is_up c holds = let from = told_before f old c (sym done ∙ holds) in subst P (sym from.2) (keeps from.0 from.1 (was from.0 from.1))
kept_held (Err store.NoMemory) f old new up P keeps was done memory down is_up c holds = was c (sym (memory refl) ∙ holds)
kept_held (Err store.Down) f old new up P keeps was done memory down is_up c holds = absurd (cc (sym (down refl) ∙ is_up))

module _ (second : Bool) (s g : ℕ) (other : List ℕ → Type 0) where
  -- what is read of a headed live disk, alone or with any image of the other
  pub reads_past : s ≡ start_of g → g < 2 ^ 64 → ((y : List ℕ) → other y → IsOlder second (generation_of y) g) → (x c : List ℕ) → take s x ≡ front_of g
      → (c ≡ drop s x) ⊎ ((0 < s) × (y : List ℕ) × other y × (c ≡ in_order second pair_journal x y)) → c ≡ drop s x
  reads_past start small older x c front (inl is) = is
  reads_past start small older x c front (inr both) =
      let later : 0 < g = elim (cases_lt 0 g) [
        | inl lt ↦ lt
        | inr le ↦ (let none : s ≡ 0 = start ∙ start_none g (omega (arith, le)) in absurd (omega (arith, none, both.0)))
      ] in
      both.3 ∙ live_journal second x both.1 g s (front_generation x g s small later start front) start (older both.1 both.2)

  pub torn_reads : (at n place : ℕ) (old new : List ℕ → Type 0) → place ≡ at + s → s ≡ start_of g → g < 2 ^ 64 → ((y : List ℕ) → other y → IsOlder second (generation_of y) g)
      → ((x : List ℕ) → old x → take s x ≡ front_of g) → Follows (Torn place n) old new → Follows (Torn at n) (Reads second s old other) (Reads second s new other)
  torn_reads at n place old new is start small older front follows c reads =
      let x = reads.0 in
      let from = follows x reads.1 in
      let d = from.0 in
      let front_d = front d from.1 in
      let front_x : take s x ≡ front_of g = front_take s place x d (omega (arith, is)) from.2.before ∙ front_d in
      let same = reads_past start small older x c front_x reads.2 in
      (drop s d, (d, from.1, inl refl), subst (Torn at n (drop s d)) (sym same) (torn_past s at n place d x is (front_long d g s start front_d) from.2))

  pub cut_reads : (len place : ℕ) (old new : List ℕ → Type 0) → place ≡ len + s → s ≡ start_of g → g < 2 ^ 64 → ((y : List ℕ) → other y → IsOlder second (generation_of y) g)
      → ((x : List ℕ) → old x → take s x ≡ front_of g) → Follows (Shortened place) old new → Follows (Shortened len) (Reads second s old other) (Reads second s new other)
  cut_reads len place old new is start small older front follows c reads =
      let x = reads.0 in
      let from = follows x reads.1 in
      let d = from.0 in
      let front_d = front d from.1 in
      let front_x : take s x ≡ front_of g = front_take s place x d (omega (arith, is)) from.2.front ∙ front_d in
      let same = reads_past start small older x c front_x reads.2 in
      (drop s d, (d, from.1, inl refl), subst (Shortened len (drop s d)) (sym same) (shortened_past s len place d x is (front_long d g s start front_d) from.2))

  pub only_reads : (held : Option (List ℕ)) (images : List ℕ → Type 0) → s ≡ start_of g → g < 2 ^ 64 → ((y : List ℕ) → other y → IsOlder second (generation_of y) g)
      → ((x : List ℕ) → images x → take s x ≡ front_of g) → Only held images → Only (of_told (drop s) held) (Reads second s images other)
  only_reads held images start small older front only c reads =
      ap (of_told (drop s)) (only reads.0 reads.1) ∙ ap Some (sym (reads_past start small older reads.0 c (front reads.0 reads.1) reads.2))

  pub more_reads : (old new : List ℕ → Type 0) → NoMore old new → NoMore (Reads second s old other) (Reads second s new other)
  more_reads old new no_more c reads = (reads.0, no_more reads.0 reads.1, reads.2)

  pub elapse_reads : (before now : ℕ) (past since : ℕ → List ℕ → Type 0) (may_leave : List ℕ → Type 0) → Elapses before now past since may_leave
      → Elapses before now (λ t. Reads second s (past t) other) (λ t. Reads second s (since t) other) (Reads second s may_leave other)
  elapse_reads before now past since may_leave time = record {
    later = time.later;
    nothing_else = λ t c le reads. ⊎_elim (λ was. inl (reads.0, was, reads.2)) (λ is. inr (reads.0, is, reads.2)) (time.nothing_else t reads.0 le reads.1);
    keeps = λ t c le reads. (reads.0, time.keeps t reads.0 le reads.1, reads.2);
  }

  pub image_reads : (held : Option (List ℕ)) (images : List ℕ → Type 0) → Tells held images → Tells (of_told (drop s) held) (Reads second s images other)
  image_reads held images told c is = let from = told_before (drop s) held c is in (from.0, told from.0 from.1, inl from.2)
