-- Lemmas: in a legal journal each Open names as many lanes as the first.
use Rattle.std.proofs.Common.{◌≡◌, ℕ, List, [], ◌∷◌, reverse, Option, Some, None, refl, sym, ap, subst, ◌∙◌, inl, inr}
use Rattle.dap_bytes.specs.declared.node.Node.{Node}
use Rattle.dap_bytes.specs.declared.node.Node.TheVariants.{Leader, Helper}
use Rattle.dap_bytes.specs.declared.part.Part.{Part}
use Rattle.dap_bytes.specs.declared.part.Part.TheVariants.{Front, Lane}
use Rattle.lane_records.specs.declared.record.Record.{Record}
use Rattle.lane_records.specs.declared.record.Record.TheVariants.{LeaderOpen, HelperOpen, LeaderFrontOpen, HelperFrontOpen}
use Rattle.legal_journals.specs.History.{Mem, first, lanes_in, HasLanes}
use Rattle.legal_journals.specs.Legal.{PartMay, IsLegal, IsLegalJournal}
use Rattle.legal_journals.specs.Places.{HaveOneNumber}
use Rattle.legal_journals.proofs.Members.{Mem-reverse}
use Rattle.legal_journals.proofs.Lanes.{first_member, first_none}

-- an Open of a part names as many lanes as those before it
open_lanes : (node : Node) (part : Part) (x : Record) (old : List Record) (n : ℕ) → PartMay node part x old → lanes_in x ≡ Some n → HasLanes n old
open_lanes Leader (Lane lane) (LeaderOpen f lanes own) old n may e = let same : lanes ≡ n = cc in subst (λ (k : ℕ). HasLanes k old) same may.0.0
open_lanes Leader (Lane lane) (HelperOpen f lanes own) old n may e = absurd may
open_lanes Leader (Lane lane) (LeaderFrontOpen f lanes) old n may e = absurd may
open_lanes Leader (Lane lane) (HelperFrontOpen f lanes) old n may e = absurd may
open_lanes Leader (Lane lane) _ old n may e = absurd cc
open_lanes Leader Front (LeaderOpen f lanes own) old n may e = absurd may
open_lanes Leader Front (HelperOpen f lanes own) old n may e = absurd may
open_lanes Leader Front (LeaderFrontOpen f lanes) old n may e = let same : lanes ≡ n = cc in subst (λ (k : ℕ). HasLanes k old) same may.0
open_lanes Leader Front (HelperFrontOpen f lanes) old n may e = absurd may
open_lanes Leader Front _ old n may e = absurd cc
open_lanes Helper (Lane lane) (LeaderOpen f lanes own) old n may e = absurd may
open_lanes Helper (Lane lane) (HelperOpen f lanes own) old n may e = let same : lanes ≡ n = cc in subst (λ (k : ℕ). HasLanes k old) same may.0.0
open_lanes Helper (Lane lane) (LeaderFrontOpen f lanes) old n may e = absurd may
open_lanes Helper (Lane lane) (HelperFrontOpen f lanes) old n may e = absurd may
open_lanes Helper (Lane lane) _ old n may e = absurd cc
open_lanes Helper Front (LeaderOpen f lanes own) old n may e = absurd may
open_lanes Helper Front (HelperOpen f lanes own) old n may e = absurd may
open_lanes Helper Front (LeaderFrontOpen f lanes) old n may e = absurd may
open_lanes Helper Front (HelperFrontOpen f lanes) old n may e = let same : lanes ≡ n = cc in subst (λ (k : ℕ). HasLanes k old) same may.0
open_lanes Helper Front _ old n may e = absurd cc

agree : (node : Node) (part : Part) (l : List Record) → IsLegal node part l → (x y : Record) (n m : ℕ) → Mem x l → Mem y l → lanes_in x ≡ Some n → lanes_in y ≡ Some m → n ≡ m
agree node part [] h x y n m i j e f = elim i [ ]
agree node part (z ∷ old) h x y n m (inl i) (inl j) e f = let same : Some n ≡ Some m = sym e ∙ ap lanes_in (i ∙ sym j) ∙ f in cc
agree node part (z ∷ old) h x y n m (inl i) (inr j) e f = sym ((open_lanes node part z old n h.0.2 (ap lanes_in (sym i) ∙ e)).2 y m j f)
agree node part (z ∷ old) h x y n m (inr i) (inl j) e f = (open_lanes node part z old m h.0.2 (ap lanes_in (sym j) ∙ f)).2 x n i e
agree node part (z ∷ old) h x y n m (inr i) (inr j) e f = agree node part old h.1 x y n m i j e f

pub one_number : (node : Node) (part : Part) (journal : List Record) → IsLegalJournal node part journal → HaveOneNumber journal
one_number node part journal h x n m e = by_first (first lanes_in journal) refl where
  by_first : (o : Option ℕ) → first lanes_in journal ≡ o → o ≡ Some n
  by_first None is = let no_one = first_none lanes_in journal is x m in absurd cc
  by_first (Some k) is =
      let found = first_member lanes_in journal k is in
      ap (λ (i : ℕ). let o : Option ℕ = Some i in o) (agree node part (reverse journal) h found.0 x k n (Mem-reverse found.0 journal found.1) (Mem-reverse x journal m) found.2 e)
