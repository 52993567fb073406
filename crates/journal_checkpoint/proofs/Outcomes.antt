-- What a head and a checkpoint make of the two disks.
use Rattle.std.proofs.Common.{◌≡◌, ℕ, ◌+◌, ◌-◌, ◌≤◌, ◌<◌, ◌^◌, max, Bool, true, false, not, if◌then◌else◌, List, [], drop, Option, Some, sym, ◌∙◌, ap, subst, arith, le-leb}
use Rattle.std.proofs.lemmas.Bool.{lt-leb}
use Rattle.dap_disk.specs.Disk.{LeavesOnly, Only, Tells, of_told}
use Rattle.report_journal.specs.Journal.{NoJournal}
use Rattle.report_journal.specs.Reading.{StandsIn}
use Rattle.journal_checkpoint.specs.Heads.{generation_of, start_of, pair_journal, IsOlder, headed, begins_block, needs_head, with_other}
use Rattle.journal_checkpoint.specs.Made.{GivesHead, Checkpoints, FindsNone, IsLast}
use Rattle.journal_checkpoint.specs.Packing.{HasFew, HasMore}
use Rattle.journal_checkpoint.specs.Pair.{disks_of, BothTell, IsOpened, Unwritten, KeepsRecords, CountsPair}
use Rattle.journal_checkpoint.specs.Steps.{PacksOnto, KeepsOrPacks, KeepsOrHeads}
use Rattle.journal_checkpoint.proofs.Begins.{need, no_need_block, no_need_later, second_headed, second_stays}
use Rattle.journal_checkpoint.proofs.Keeping.{changed_keeps, headed_alike, packed_alike, unwritten_keeps, unwritten_then}
use Rattle.journal_checkpoint.proofs.PairCounts.{counts_in_order}

-- without a head the first disk is the live one
first_live : (g : ℕ) → IsOlder true 0 g → g ≡ 0 → ⊥
first_live g later none = omega (arith, later, none)

pub older_next : (second : Bool) (y g : ℕ) → y ≡ g → IsOlder (not second) y (g + 1)
older_next false y g is = omega (arith, is)
older_next true y g is = omega (arith, is)

pub later_next : (second : Bool) (g : ℕ) → IsOlder (not second) 0 (g + 1)
later_next false g = omega arith
later_next true g = omega arith

module _ {D : Type 0} (holds : D → Option (List ℕ)) (is_up : D → Bool) (moment : D → ℕ) (left_since : D → ℕ → List ℕ → Type 0) (may_leave : D → List ℕ → Type 0) (counts_now : (d : D) (t : ℕ) (c : List ℕ) → t ≤ moment d → may_leave d c → left_since d t c)
    (old : D × D) (only_a : Only (holds old.0) (may_leave old.0)) (only_b : Only (holds old.1) (may_leave old.1)) where
  -- an opening finds a head
  pub head_there : (second : Bool) (live other : D) (g start : ℕ) → Unwritten holds moment left_since may_leave old (disks_of second live other) → IsOpened holds is_up may_leave second live other g start → 0 < g
      → GivesHead holds moment left_since may_leave old (disks_of second live other)
  head_there second live other g start none opened later = record {
    first = none.same.0;
    second = λ a b told_a told_b. none.same.1 ∙ told_b ∙ ap (λ (l : List ℕ). Some l) (sym (second_stays a b (no_need_later a b g later (opened.greatest a b (none.same.0 ∙ told_a) (none.same.1 ∙ told_b)))));
    unwritten = λ a b told_a told_b no. none;
    any_moment = unwritten_keeps holds moment left_since may_leave counts_now old (disks_of second live other) only_a only_b none;
  }

  module _ (second : Bool) (live other live' other' : D) (g start : ℕ) (none : Unwritten holds moment left_since may_leave old (disks_of second live other)) (opened : IsOpened holds is_up may_leave second live other g start)
      (same : holds live' ≡ holds live) (looked : LeavesOnly moment left_since live live' (may_leave live)) where
    -- nothing is written
    still : other' ≡ other → Unwritten holds moment left_since may_leave old (disks_of second live' other')
    still kept = unwritten_then holds moment left_since may_leave counts_now second old live other live' other' none same looked kept

    pub still_keeps : other' ≡ other → KeepsRecords holds moment left_since old (disks_of second live' other')
    still_keeps kept = unwritten_keeps holds moment left_since may_leave counts_now old (disks_of second live' other') only_a only_b (still kept)

    -- what is told of the live disk's journal is told of the pair's
    of_journal : (s : Bool) → Unwritten holds moment left_since may_leave old (disks_of s live other) → IsOpened holds is_up may_leave s live other g start → (P : List ℕ → Type 0) → Tells (holds live) (λ c. P (drop start c)) → BothTell holds old (λ a b. P (pair_journal a b))
    of_journal false unwritten is P told a b told_a told_b =
        let here = unwritten.same.0 ∙ told_a in
        let read : drop start a ≡ pair_journal a b = cc (sym (ap (of_told (drop start)) here) ∙ is.journal a b here (unwritten.same.1 ∙ told_b)) in
        subst P read (told a here)
    of_journal true unwritten is P told a b told_a told_b =
        let here = unwritten.same.1 ∙ told_b in
        let read : drop start b ≡ pair_journal a b = cc (sym (ap (of_told (drop start)) here) ∙ is.journal a b (unwritten.same.0 ∙ told_a) here) in
        subst P read (told b here)

    greatest : BothTell holds old (λ a b. g ≡ max (generation_of a) (generation_of b))
    greatest a b told_a told_b = opened.greatest a b (none.same.0 ∙ told_a) (none.same.1 ∙ told_b)

    pub few_stay : (over : ℕ) → Tells (holds live) (λ c. HasFew over (drop start c)) → other' ≡ other → Checkpoints holds moment left_since may_leave old (disks_of second live' other') over false
    few_stay over few kept = record {
      few = λ is. (still kept, of_journal second none opened (HasFew over) few);
      live = λ is. absurd (cc is);
      any_moment = still_keeps kept;
    }

    pub none_found : (at : ℕ) → Tells (holds live) (λ c. NoJournal at (drop start c)) → other' ≡ other → FindsNone holds moment left_since may_leave old (disks_of second live' other') at
    none_found at found kept = record { unwritten = still kept; none = of_journal second none opened (NoJournal at) found }

    pub last_found : (over : ℕ) → Tells (holds live) (λ c. HasMore over (drop start c)) → g ≡ 2 ^ 64 - 1 → other' ≡ other → IsLast holds moment left_since may_leave old (disks_of second live' other') over
    last_found over more last kept = record {
      unwritten = still kept;
      more = of_journal second none opened (HasMore over) more;
      last = λ a b told_a told_b. sym (greatest a b told_a told_b) ∙ last;
    }

    module _ (starts : start ≡ start_of g) (older : (f : List ℕ) → may_leave other f → IsOlder second (generation_of f) g) (later : IsOlder second 0 g) (stays : (z : List ℕ) → holds other ≡ Some z → may_leave other z) where
      pub packed_keeps : LeavesOnly moment left_since other other' (KeepsOrPacks g start (holds live) (may_leave other)) → KeepsRecords holds moment left_since old (disks_of second live' other')
      packed_keeps changed =
          changed_keeps holds moment left_since may_leave counts_now second old live other live' other' (KeepsOrPacks g start (holds live) (may_leave other)) only_a only_b none looked changed
          (λ x z y told_x told_z packed. packed_alike second g start (may_leave other) older later x z y (opened.head x told_x) starts (stays z told_z) (holds live) told_x packed)

      headed_keeps : g ≡ 0 → LeavesOnly moment left_since other other' (KeepsOrHeads (holds live) (may_leave other)) → KeepsRecords holds moment left_since old (disks_of second live' other')
      headed_keeps zero_g changed =
          changed_keeps holds moment left_since may_leave counts_now second old live other live' other' (KeepsOrHeads (holds live) (may_leave other)) only_a only_b none looked changed
          (λ x z y told_x told_z given. headed_alike second g start (may_leave other) older later x z y (opened.head x told_x) starts (stays z told_z) zero_g (holds live) told_x given)

      -- the packed journal stands in the place of the other file
      placed : (s : Bool) → Unwritten holds moment left_since may_leave old (disks_of s live other) → ((f : List ℕ) → may_leave other f → IsOlder s (generation_of f) g) → (file : List ℕ) → holds other' ≡ of_told (λ _. file) (holds other)
          → BothTell holds old (λ a b. (holds (disks_of s live' other').0 ≡ Some (with_other a b file).0) × (holds (disks_of s live' other').1 ≡ Some (with_other a b file).1))
      placed false unwritten is file done a b told_a told_b =
          let here = unwritten.same.0 ∙ told_a in
          let there = unwritten.same.1 ∙ told_b in
          let gen = opened.head a here in
          let than = is b (stays b there) in
          let turn : (a, file) ≡ with_other a b file = sym (ap (λ (x : Bool). if x then (a, file) else (file, b)) (le-leb (generation_of b) (generation_of a) (omega (arith, gen, than)))) in
          (same ∙ here ∙ ap (λ (p : List ℕ × List ℕ). Some p.0) turn, done ∙ ap (of_told (λ _. file)) there ∙ ap (λ (p : List ℕ × List ℕ). Some p.1) turn)
      placed true unwritten is file done a b told_a told_b =
          let here = unwritten.same.1 ∙ told_b in
          let there = unwritten.same.0 ∙ told_a in
          let gen = opened.head b here in
          let than = is a (stays a there) in
          let turn : (file, b) ≡ with_other a b file = sym (ap (λ (x : Bool). if x then (a, file) else (file, b)) (lt-leb (generation_of b) (generation_of a) (omega (arith, gen, than)))) in
          (done ∙ ap (of_told (λ _. file)) there ∙ ap (λ (p : List ℕ × List ℕ). Some p.0) turn, same ∙ here ∙ ap (λ (p : List ℕ × List ℕ). Some p.1) turn)

      pub packed_live : (over : ℕ) → PacksOnto over g start (holds live) (holds other) (holds other') → LeavesOnly moment left_since other other' (KeepsOrPacks g start (holds live) (may_leave other))
          → Checkpoints holds moment left_since may_leave old (disks_of second live' other') over true
      packed_live over packs changed = record {
        few = λ is. absurd (cc is);
        live = λ is a b told_a told_b.
            (let file = headed (g + 1) packs.parts in
            let most = greatest a b told_a told_b in
            let there = placed second none older file packs.done a b told_a told_b in (
              file,
              record {
                records = packs.records;
                count = packs.count;
                parts = packs.parts;
                stands = of_journal second none opened (StandsIn packs.records packs.count) packs.stands a b told_a told_b;
                more = packs.more;
                packs = packs.packs;
                room = (let room = packs.room in omega (arith, room, most));
                file_is = ap (λ (n : ℕ). headed (n + 1) packs.parts) most;
              },
              there.0,
              there.1,
            ));
        any_moment = packed_keeps changed;
      }

      -- the first head, or none where the first disk begins with a block
      module _ (zero_g : g ≡ 0) where
        firsts : (s : Bool) → IsOlder s 0 g → (P : D × D → Type 0) → P (disks_of s live' other') → P (live', other')
        firsts false is P here = here
        firsts true is P here = absurd (first_live g is zero_g)

        first_told : (s : Bool) → IsOlder s 0 g → Unwritten holds moment left_since may_leave old (disks_of s live other) → (holds live ≡ holds old.0) × (holds other ≡ holds old.1)
        first_told false is unwritten = unwritten.same
        first_told true is unwritten = absurd (first_live g is zero_g)

        pub head_keeps : LeavesOnly moment left_since other other' (KeepsOrHeads (holds live) (may_leave other)) → KeepsRecords holds moment left_since old (live', other')
        head_keeps changed = firsts second later (λ (p : D × D). KeepsRecords holds moment left_since old p) (headed_keeps zero_g changed)

        pub head_made : Tells (holds live) (λ c. begins_block c ≡ false) → holds other' ≡ of_told (λ _. headed 1 []) (holds other) → LeavesOnly moment left_since other other' (KeepsOrHeads (holds live) (may_leave other))
            → GivesHead holds moment left_since may_leave old (live', other')
        head_made none_begins done changed =
            let both = first_told second later none in
            let needs : BothTell holds old (λ a b. needs_head a b ≡ true) = λ a b told_a told_b. need a b (sym zero_g ∙ greatest a b told_a told_b) (none_begins a (both.0 ∙ told_a)) in
            record {
              first = same ∙ both.0;
              second = λ a b told_a told_b. done ∙ ap (of_told (λ _. headed 1 [])) (both.1 ∙ told_b) ∙ ap (λ (l : List ℕ). Some l) (sym (second_headed a b (needs a b told_a told_b)));
              unwritten = λ a b told_a told_b no. absurd (cc (sym no ∙ needs a b told_a told_b));
              any_moment = head_keeps changed;
            }

        pub block_stays : Tells (holds live) (λ c. begins_block c ≡ true) → other' ≡ other → GivesHead holds moment left_since may_leave old (disks_of second live' other')
        block_stays begins kept =
            let both = first_told second later none in
            let unwritten = still kept in
            record {
              first = unwritten.same.0;
              second = λ a b told_a told_b. unwritten.same.1 ∙ told_b ∙ ap (λ (l : List ℕ). Some l) (sym (second_stays a b (no_need_block a b (begins a (both.0 ∙ told_a)))));
              unwritten = λ a b told_a told_b no. unwritten;
              any_moment = still_keeps kept;
            }

module _ {D : Type 0} (downs deads : D → ℕ) where
  -- the counts, where the first disk is the live one
  pub head_counts : (second : Bool) (g : ℕ) (stopped : Type 0) (old : D × D) (live other live' other' : D) → IsOlder second 0 g → g ≡ 0 → CountsPair downs deads ⊥ old (disks_of second live other) → CountsPair downs deads stopped (live, other) (live', other')
      → CountsPair downs deads stopped old (live', other')
  head_counts false g stopped old live other live' other' is none first after = counts_in_order downs deads false stopped old live other live' other' first after
  head_counts true g stopped old live other live' other' is none first after = absurd (first_live g is none)
