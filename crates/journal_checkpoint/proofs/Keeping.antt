-- What the moments of a call keep of a pair.
use Rattle.std.proofs.Common.{◌≡◌, ◌⊎◌, inl, inr, ℕ, ◌+◌, ◌≤◌, ◌<◌, ◌^◌, Bool, true, false, List, [], ◌∷◌, ◌++◌, drop, Option, Some, refl, sym, ◌∙◌, ap, subst, arith}
use Rattle.std.proofs.lemmas.List.{take_at}
use Rattle.dap_disk.specs.Disk.{LeavesOnly, NoMore, Only}
use Rattle.dap_disk.specs.RunLaws.{then, weaker}
use Rattle.report_journal.specs.Journal.{Stands, blocks}
use Rattle.journal_checkpoint.specs.Heads.{head, generation_of, start_of, pair_journal, in_order, IsOlder, headed}
use Rattle.journal_checkpoint.specs.Packing.{Packs, KeepsGeneration}
use Rattle.journal_checkpoint.specs.Pair.{disks_of, BothTell, Unwritten, SameJournal, KeepsRecords}
use Rattle.journal_checkpoint.specs.Steps.{KeepsOrPacks, KeepsOrHeads}
use Rattle.journal_checkpoint.proofs.Begins.{stands_for_none}
use Rattle.journal_checkpoint.proofs.Heads.{read_head, live_journal, next_journal}
use Rattle.journal_checkpoint.proofs.Packs.{packs_stand}

-- the live file is x, and the other was z: with y in its place the same journal is read, or one with the same records
abbrev pub SameWith : Bool → List ℕ → List ℕ → List ℕ → Type 0
SameWith second x z y =
    (in_order second pair_journal x y ≡ in_order second pair_journal x z)
    ⊎ ((records : List (List ℕ)) × Stands records (in_order second pair_journal x z) × Stands records (in_order second pair_journal x y))

one_told : (held : Option (List ℕ)) (x a : List ℕ) → held ≡ Some x → held ≡ Some a → x ≡ a
one_told held x a is told = cc (sym is ∙ told)

module _ {D : Type 0} (holds : D → Option (List ℕ)) (moment : D → ℕ) (left_since : D → ℕ → List ℕ → Type 0) (may_leave : D → List ℕ → Type 0) (counts_now : (d : D) (t : ℕ) (c : List ℕ) → t ≤ moment d → may_leave d c → left_since d t c) where
  -- what a disk leaves after a call of which no moment has a new image, it left before
  pub left_before : (old new : D) → LeavesOnly moment left_since old new (may_leave old) → NoMore (may_leave old) (may_leave new)
  left_before old new run c left = run.each c (counts_now new (moment old) c run.later left)

  -- one disk leaves what it held, and the other what reads alike beside it
  keeps_first : (old new : D × D) → LeavesOnly moment left_since old.0 new.0 (λ x. holds old.0 ≡ Some x) → LeavesOnly moment left_since old.1 new.1 (λ y. BothTell holds old (λ a b. SameJournal (pair_journal a b) a y))
      → KeepsRecords holds moment left_since old new
  keeps_first old new live other = record {
    first = weaker moment left_since old.0 new.0 (λ x. holds old.0 ≡ Some x) _ (λ x is a b told_a told_b. inl (ap (λ (l : List ℕ). pair_journal l b) (one_told (holds old.0) x a is told_a))) live;
    second = other;
    each = λ x y left_x left_y a b told_a told_b.
        (let is : x ≡ a = one_told (holds old.0) x a (live.each x left_x) told_a in
        subst (λ (l : List ℕ). SameJournal (pair_journal a b) l y) (sym is) (other.each y left_y a b told_a told_b));
  }

  keeps_second : (old new : D × D) → LeavesOnly moment left_since old.1 new.1 (λ y. holds old.1 ≡ Some y) → LeavesOnly moment left_since old.0 new.0 (λ x. BothTell holds old (λ a b. SameJournal (pair_journal a b) x b))
      → KeepsRecords holds moment left_since old new
  keeps_second old new live other = record {
    first = other;
    second = weaker moment left_since old.1 new.1 (λ y. holds old.1 ≡ Some y) _ (λ y is a b told_a told_b. inl (ap (λ (l : List ℕ). pair_journal a l) (one_told (holds old.1) y b is told_b))) live;
    each = λ x y left_x left_y a b told_a told_b.
        (let is : y ≡ b = one_told (holds old.1) y b (live.each y left_y) told_b in
        subst (λ (l : List ℕ). SameJournal (pair_journal a b) x l) (sym is) (other.each x left_x a b told_a told_b));
  }

  -- nothing is written
  pub unwritten_keeps : (old new : D × D) → Only (holds old.0) (may_leave old.0) → Only (holds old.1) (may_leave old.1) → Unwritten holds moment left_since may_leave old new → KeepsRecords holds moment left_since old new
  unwritten_keeps old new only_a only_b none =
      keeps_first old new (weaker moment left_since old.0 new.0 (may_leave old.0) _ only_a none.first)
      (weaker moment left_since old.1 new.1 (may_leave old.1) _ (λ y left a b told_a told_b. inl (ap (λ (l : List ℕ). pair_journal a l) (one_told (holds old.1) y b (only_b y left) told_b))) none.second)

  -- a disk is opened, and then looked at
  opened_then : (old mid new : D) (P : List ℕ → Type 0) → LeavesOnly moment left_since old mid (may_leave old) → ((c : List ℕ) → may_leave old c → P c) → LeavesOnly moment left_since mid new P → LeavesOnly moment left_since old new P
  opened_then old mid new P first is second = then moment left_since old mid new P (weaker moment left_since old mid (may_leave old) P is first) second

  -- both are, and nothing is written
  pub unwritten_then : (second : Bool) (old : D × D) (live other live' other' : D) → Unwritten holds moment left_since may_leave old (disks_of second live other) → holds live' ≡ holds live → LeavesOnly moment left_since live live' (may_leave live)
      → other' ≡ other → Unwritten holds moment left_since may_leave old (disks_of second live' other')
  unwritten_then false old live other live' other' none same looked kept = record {
    same = (same ∙ none.same.0, ap holds kept ∙ none.same.1);
    first = opened_then old.0 live live' (may_leave old.0) none.first (λ c left. left) (weaker moment left_since live live' (may_leave live) (may_leave old.0) (left_before old.0 live none.first) looked);
    second = subst (λ (d : D). LeavesOnly moment left_since old.1 d (may_leave old.1)) (sym kept) none.second;
  }
  unwritten_then true old live other live' other' none same looked kept = record {
    same = (ap holds kept ∙ none.same.0, same ∙ none.same.1);
    first = subst (λ (d : D). LeavesOnly moment left_since old.0 d (may_leave old.0)) (sym kept) none.first;
    second = opened_then old.1 live live' (may_leave old.1) none.second (λ c left. left) (weaker moment left_since live live' (may_leave live) (may_leave old.1) (left_before old.1 live none.second) looked);
  }

  -- both are, and the other gets what reads alike
  pub changed_keeps : (second : Bool) (old : D × D) (live other live' other' : D) (Q : List ℕ → Type 0) → Only (holds old.0) (may_leave old.0) → Only (holds old.1) (may_leave old.1) → Unwritten holds moment left_since may_leave old (disks_of second live other)
      → LeavesOnly moment left_since live live' (may_leave live) → LeavesOnly moment left_since other other' Q → ((x z y : List ℕ) → holds live ≡ Some x → holds other ≡ Some z → Q y → SameWith second x z y)
      → KeepsRecords holds moment left_since old (disks_of second live' other')
  changed_keeps false old live other live' other' Q only_a only_b none looked changed alike =
      keeps_first old (live', other')
      (opened_then old.0 live live' (λ x. holds old.0 ≡ Some x) none.first only_a (weaker moment left_since live live' (may_leave live) _ (λ c left. only_a c (left_before old.0 live none.first c left)) looked))
      (opened_then old.1 other other' (λ y. BothTell holds old (λ a b. SameJournal (pair_journal a b) a y)) none.second
      (λ y left a b told_a told_b. inl (ap (λ (l : List ℕ). pair_journal a l) (one_told (holds old.1) y b (only_b y left) told_b)))
      (weaker moment left_since other other' Q _ (λ y is a b told_a told_b. alike a b y (none.same.0 ∙ told_a) (none.same.1 ∙ told_b) is) changed))
  changed_keeps true old live other live' other' Q only_a only_b none looked changed alike =
      keeps_second old (other', live')
      (opened_then old.1 live live' (λ y. holds old.1 ≡ Some y) none.second only_b (weaker moment left_since live live' (may_leave live) _ (λ c left. only_b c (left_before old.1 live none.second c left)) looked))
      (opened_then old.0 other other' (λ x. BothTell holds old (λ a b. SameJournal (pair_journal a b) x b)) none.first
      (λ x left a b told_a told_b. inl (ap (λ (l : List ℕ). pair_journal l b) (one_told (holds old.0) x a (only_a x left) told_a)))
      (weaker moment left_since other other' Q _ (λ x is a b told_a told_b. alike b a x (none.same.1 ∙ told_b) (none.same.0 ∙ told_a) is) changed))

-- what keeps a generation isn't live beside the live file
keeps_older : (second : Bool) (g : ℕ) (files : List ℕ → Type 0) (y : List ℕ) → ((f : List ℕ) → files f → IsOlder second (generation_of f) g) → IsOlder second 0 g → KeepsGeneration files y → IsOlder second (generation_of y) g
keeps_older second g files y older later (inl none) = subst (λ (n : ℕ). IsOlder second n g) (sym none) later
keeps_older second g files y older later (inr was) = subst (λ (n : ℕ). IsOlder second n g) (sym was.2) (older was.0 was.1)

module _ (second : Bool) (g start : ℕ) (files : List ℕ → Type 0) (older : (f : List ℕ) → files f → IsOlder second (generation_of f) g) (later : IsOlder second 0 g) (x z y : List ℕ) (is : generation_of x ≡ g) (begins : start ≡ start_of g) (was : files z) where
  before : in_order second pair_journal x z ≡ drop start x
  before = live_journal second x z g start is begins (older z was)

  same_kept : KeepsGeneration files y → SameWith second x z y
  same_kept kept = inl (live_journal second x y g start is begins (keeps_older second g files y older later kept) ∙ sym before)

  same_next : (parts : List (List (List ℕ))) (records : List (List ℕ)) → g + 1 < 2 ^ 64 → Packs records parts → Stands records (drop start x) → y ≡ headed (g + 1) parts → SameWith second x z y
  same_next parts records room packs stands whole =
      let next : generation_of y ≡ g + 1 = ap generation_of whole ∙ read_head (headed (g + 1) parts) (g + 1) room (take_at (head (g + 1)) (blocks parts ++ 0 ∷ []) 9 refl) in
      let read : in_order second pair_journal x y ≡ blocks parts ++ 0 ∷ [] = next_journal second x y g is next ∙ ap (λ (l : List ℕ). drop 9 l) whole in
      inr (records, subst (Stands records) (sym before) stands, subst (Stands records) (sym read) (packs_stand records parts packs))

  pub packed_alike : (live : Option (List ℕ)) → live ≡ Some x → KeepsOrPacks g start live files y → SameWith second x z y
  packed_alike live told (inl kept) = same_kept kept
  packed_alike live told (inr packed) = same_next packed.0 packed.1.records packed.1.room packed.1.packs (packed.1.stands x told) packed.2

  pub headed_alike : g ≡ 0 → (live : Option (List ℕ)) → live ≡ Some x → KeepsOrHeads live files y → SameWith second x z y
  headed_alike zero_g live told (inl kept) = same_kept kept
  headed_alike zero_g live told (inr given) =
      let front : start ≡ 0 = begins ∙ ap start_of zero_g in
      same_next [] [] (omega (arith, zero_g)) refl (subst (λ (n : ℕ). Stands [] (drop n x)) (sym front) (stands_for_none x (given.0 x told))) (given.1 ∙ ap (λ (n : ℕ). headed (n + 1) []) (sym zero_g))
