-- The Start that an index names is the job's, whichever end of the journal is looked at first.
use Rattle.std.proofs.Common.{◌≡◌, ℕ, suc, Bool, true, false, List, [], ◌∷◌, get_or, reverse, Option, Some, None, refl, sym, ap, subst, ◌∙◌}
use Rattle.std.specs.Prelude.{cond, is_some}
use Rattle.std.specs.Option.{option_map, option_or}
use mathlib.Core.List.{reverse-cons}
use Rattle.std.proofs.lemmas.List.{reverse-reverse}
use Rattle.dap_bytes.specs.declared.node.Node.TheVariants.{Helper}
use Rattle.dap_bytes.specs.declared.part.Part.TheVariants.{Lane}
use Rattle.dap_messages.specs.declared.job.JobNo.{JobNo}
use Rattle.dap_messages.specs.Jobs.{is_same_job}
use Rattle.lane_records.specs.declared.record.Record.{Record}
use Rattle.lane_records.specs.declared.record.Record.TheVariants.{Start}
use Rattle.legal_journals.specs.History.{Mem, first}
use Rattle.legal_journals.specs.LaneTests.{starts_job}
use Rattle.legal_journals.specs.Legal.{May, IsLegal, IsLegalJournal}
use Rattle.legal_journals.specs.Places.{place_of}
use Rattle.legal_journals.proofs.Counts.{first-push}
use Rattle.helper_lane.specs.Reply.{Started, some_if, start_if}
use Rattle.helper_lane.proofs.Members.{first_some, start_found}

-- ---- one record

some_is : {A : Type 0} (b : Bool) (x : A) → is_some (some_if b x) ≡ b
some_is true x = refl
some_is false x = refl

starts_is : (j : JobNo) (x : Record) → is_some (start_if j x) ≡ starts_job j x
starts_is j (Start job n hs) = some_is (is_same_job job j) (record { name = n; halves = hs })
starts_is j _ = refl

none_is : {A : Type 0} (o : Option A) → is_some o ≡ false → o ≡ None
none_is None e = refl
none_is (Some x) e = absurd (cc e)

or_first : {A : Type 0} (o later : Option A) → is_some o ≡ true → option_or o later ≡ o
or_first (Some x) later e = refl
or_first None later e = absurd (cc e)

starts_none : (j : JobNo) (x : Record) → starts_job j x ≡ false → start_if j x ≡ None
starts_none j x e = none_is (start_if j x) (starts_is j x ∙ e)

-- ---- a list of records, the oldest first

place_none : (o : Option ℕ) → option_map suc o ≡ None → o ≡ None
place_none None e = refl
place_none (Some n) e = absurd (cc e)

-- none starts the job
pub first_nowhere : (j : JobNo) (xs : List Record) → place_of (starts_job j) xs ≡ None → first (start_if j) xs ≡ None
first_nowhere j [] e = refl
first_nowhere j (x ∷ xs) e = go (starts_job j x) refl e (λ later. first_nowhere j xs later) where
  go : (b : Bool) → starts_job j x ≡ b → cond b (Some 0) (option_map suc (place_of (starts_job j) xs)) ≡ None → (place_of (starts_job j) xs ≡ None → first (start_if j) xs ≡ None)
      → option_or (start_if j x) (first (start_if j) xs) ≡ None
  go true is e later = absurd (cc e)
  go false is e later = ap (λ (o : Option Started). option_or o (first (start_if j) xs)) (starts_none j x is) ∙ later (place_none (place_of (starts_job j) xs) e)

place_some : (o : Option ℕ) (n : ℕ) → option_map suc o ≡ Some n → (k : ℕ) × (o ≡ Some k) × (n ≡ suc k)
place_some None n e = absurd (cc e)
place_some (Some k) n e = (k, refl, sym (cc e))

-- the first that starts the job stands at the place
pub first_at : (j : JobNo) (xs : List Record) (n : ℕ) (d : Record) → place_of (starts_job j) xs ≡ Some n → first (start_if j) xs ≡ start_if j (get_or xs n d)
first_at j [] n d e = absurd (cc e)
first_at j (x ∷ xs) n d e = go (starts_job j x) refl e (λ k later. first_at j xs k d later) where
  go : (b : Bool) → starts_job j x ≡ b → cond b (Some 0) (option_map suc (place_of (starts_job j) xs)) ≡ Some n → ((k : ℕ) → place_of (starts_job j) xs ≡ Some k → first (start_if j) xs ≡ start_if j (get_or xs k d))
      → option_or (start_if j x) (first (start_if j) xs) ≡ start_if j (get_or (x ∷ xs) n d)
  go true is e later =
      let zero_is : 0 ≡ n = cc e in
      subst (λ (k : ℕ). option_or (start_if j x) (first (start_if j) xs) ≡ start_if j (get_or (x ∷ xs) k d)) zero_is (or_first (start_if j x) (first (start_if j) xs) (starts_is j x ∙ is))
  go false is e later =
      let w = place_some (place_of (starts_job j) xs) n e in
      subst (λ (k : ℕ). option_or (start_if j x) (first (start_if j) xs) ≡ start_if j (get_or (x ∷ xs) k d)) (sym w.2)
      (ap (λ (o : Option Started). option_or o (first (start_if j) xs)) (starts_none j x is) ∙ later w.0 w.1)

-- ---- both ends

or_turn : {A : Type 0} (a b : Option A) → (is_some b ≡ true → a ≡ None) → option_or a b ≡ option_or b a
or_turn None None only = refl
or_turn None (Some y) only = refl
or_turn (Some x) None only = refl
or_turn (Some x) (Some y) only = let none = only refl in absurd (cc none)

-- a job that may be started has no Start
fresh_start : (lane : ℕ) (x : Record) (old : List Record) (j : JobNo) → May Helper (Lane lane) x old → is_some (start_if j x) ≡ true → first (start_if j) old ≡ None
fresh_start lane x old j may some = go (first (start_if j) old) refl where
  found : (o : Option Started) → start_if j x ≡ o → is_some o ≡ true → (s : Started) × (x ≡ Start j s.name s.halves)
  found (Some s) e is = (s, start_found j x s e)
  found None e is = absurd (cc is)

  go : (o : Option Started) → first (start_if j) old ≡ o → o ≡ None
  go None e = refl
  go (Some k) e =
      let here = found (start_if j x) refl some in
      let w = first_some (start_if j) old k e in
      let stands : Mem (Start j k.name k.halves) old = subst (λ (y : Record). Mem y old) (start_found j w.0 k w.2) w.1 in
      absurd ((subst (λ (y : Record). May Helper (Lane lane) y old) here.1 may).2.2 (k.name, k.halves, stands))

turned : (lane : ℕ) (l : List Record) (j : JobNo) → IsLegal Helper (Lane lane) l → first (start_if j) (reverse l) ≡ first (start_if j) l
turned lane [] j h = refl
turned lane (x ∷ old) j h =
    ap (λ (l : List Record). first (start_if j) l) (reverse-cons x old) ∙ first-push (start_if j) (reverse old) x
    ∙ ap (λ (o : Option Started). option_or o (start_if j x)) (turned lane old j h.1)
    ∙ or_turn (first (start_if j) old) (start_if j x) (λ some. fresh_start lane x old j h.0 some)

-- in a legal journal both ends tell the same Start
pub first_turned : (lane : ℕ) (records : List Record) (j : JobNo) → IsLegalJournal Helper (Lane lane) records → first (start_if j) (reverse records) ≡ first (start_if j) records
first_turned lane records j h = sym (turned lane (reverse records) j h) ∙ ap (λ (l : List Record). first (start_if j) l) (reverse-reverse records)
