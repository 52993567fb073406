-- Reading byte strings as records one after the other, as a loop does.
use Rattle.std.proofs.Common.{◌≡◌, ℕ, zero, suc, ◌+◌, ◌<◌, true, ◌&&◌, All, List, [], ◌∷◌, ◌++◌, length, map, take, get_or, Result, Ok, Err, refl, sym, ap, ◌∙◌, arith}
use Rattle.std.proofs.Common.{inl, inr}
use Rattle.std.proofs.lemmas.Bool.{cases_lt}
use Rattle.std.proofs.lemmas.List.{get_or-map, map-append, take_more, get_or_past, length-take, length-map}
use Rattle.std.proofs.lemmas.List.Elements.{All-get_or}
use Rattle.std.proofs.lemmas.List.Folds.{list_all-append}
use Rattle.dap_messages.specs.Grammar.{whole}
use Rattle.dap_messages.specs.Laws.{done, ok_is, and_parts, both_true, whole_again}
use Rattle.std.specs.Prelude.{Vec}
use Rattle.std.specs.declared.alloc.Global.{Global}
use Rattle.lane_records.specs.declared.record.Record.{Record}
use Rattle.lane_records.specs.declared.journal.RecordsFault.{RecordsFault}
use Rattle.lane_records.specs.declared.journal.RecordsFault.TheVariants.{Form, NoMemory}
use Rattle.lane_records.specs.Records.{record_}
use Rattle.lane_records.specs.RecordLaws.{record_lawful}
use Rattle.lane_records.specs.Journal.{bytes_of, are_allowed, spell_all, AreRecords, IsFirstFault, ReadsAll, ReadsEntry, AreOnly}

-- a list of bytes has bytes at each place, and 0 behind them
pub all_bytes : (text : List ℕ) → All (λ b. b < 256) text → (i : ℕ) → get_or text i 0 < 256
all_bytes text h i =
    elim (cases_lt i (length text)) [
      | inl lt ↦ All-get_or (λ b. b < 256) text i 0 lt h
      | inr le ↦ rw (get_or_past text i 0 le) (omega arith)
    ]

-- what stands for the first so many byte strings
pub record IsRead (texts : List (List ℕ)) (i : ℕ) (xs : List Record) : Type 0 where
  pub read : AreRecords (take i texts) xs
  pub allowed : are_allowed xs ≡ true
  pub spelled : take i texts ≡ spell_all xs

pub one_more : (texts : List (List ℕ)) (i : ℕ) (xs : List Record) (x : Record) → i < length texts → IsRead texts i xs
    → whole record_ (get_or texts i []) ≡ Ok x → record_.allowed x ≡ true → get_or texts i [] ≡ record_.spell x → IsRead texts (i + 1) (xs ++ x ∷ [])
one_more texts i xs x lt h e a s =
    let front : take (i + 1) texts ≡ take i texts ++ get_or texts i [] ∷ [] = take_more texts i [] lt in
    record {
      read = rw (front, map-append (whole record_) (take i texts) (get_or texts i [] ∷ []), map-append done xs (x ∷ []), h.read, e) refl;
      allowed = rw (list_all-append record_.allowed xs (x ∷ [])) (both_true (are_allowed xs) (record_.allowed x && true) h.allowed (both_true (record_.allowed x) true a refl));
      spelled = rw (front, map-append record_.spell xs (x ∷ []), h.spelled, s) refl;
    }

-- as many records as byte strings
pub counted : (texts : List (List ℕ)) (xs : List Record) → AreRecords texts xs → length xs ≡ length texts
counted texts xs h = sym (length-map xs done) ∙ ap (λ (r : List (Result Record ℕ)). length r) (sym h) ∙ length-map texts (whole record_)

pub first_fault : (texts : List (List ℕ)) (i : ℕ) (xs : List Record) (at : ℕ) → i < length texts → IsRead texts i xs → whole record_ (get_or texts i []) ≡ Err at
    → IsFirstFault texts (length xs) at
first_fault texts i xs at lt h e =
    let size : length xs ≡ i = omega (arith, counted (take i texts) xs h.read, length-take i texts) in
    rw size (record { within = lt; before = (xs, h.read); fault = e })

-- the records of spellings
again : (xs : List Record) → are_allowed xs ≡ true → AreRecords (spell_all xs) xs
again [] a = refl
again (x ∷ xs) a =
    let parts = and_parts (record_.allowed x) (are_allowed xs) a in
    rw (whole_again record_ record_lawful x parts.0, again xs parts.1) refl

-- two lists that are read from the same byte strings are the same
same : (xs ys : List Record) → map done xs ≡ map done ys → xs ≡ ys
same [] [] e = refl
same [] (y ∷ ys) e = absurd cc
same (x ∷ xs) [] e = absurd cc
same (x ∷ xs) (y ∷ ys) e =
    let heads : done x ≡ done y = cc in
    let tails : map done xs ≡ map done ys = cc in
    let first : x ≡ y = ok_is x y heads in
    let rest : xs ≡ ys = same xs ys tails in
    cc

pub only_one : (texts : List (List ℕ)) (xs ys : List Record) → are_allowed xs ≡ true → texts ≡ spell_all xs → AreRecords texts ys → ys ≡ xs
only_one texts xs ys a s h = same ys xs (sym h ∙ ap (map (whole record_)) s ∙ again xs a)

-- no byte string of records is none
no_fault : (texts : List (List ℕ)) (xs : List Record) (entry at : ℕ) → entry < length texts → AreRecords texts xs → whole record_ (get_or texts entry []) ≡ Err at → ⊥
no_fault [] xs entry at lt h e = omega arith
no_fault (t ∷ ts) [] entry at lt h e = absurd cc
no_fault (t ∷ ts) (x ∷ xs) zero at lt h e =
    let here : whole record_ t ≡ done x = cc in
    let fault : whole record_ t ≡ Err at = e in
    cc
no_fault (t ∷ ts) (x ∷ xs) (suc entry) at lt h e =
    let tails : AreRecords ts xs = cc in
    no_fault ts xs entry at (omega arith) tails e

pub no_first_fault : (texts : List (List ℕ)) (xs : List Record) (entry at : ℕ) → are_allowed xs ≡ true → texts ≡ spell_all xs → IsFirstFault texts entry at → ⊥
no_first_fault texts xs entry at a s f = no_fault texts xs entry at f.within (ap (map (whole record_)) s ∙ again xs a) f.fault

-- the law on what a reader of byte strings answered
pub answers_only : (texts : List (List ℕ)) (xs : List Record) (r : Result (Vec Record Global) RecordsFault) → are_allowed xs ≡ true → texts ≡ spell_all xs → ReadsAll texts r → AreOnly xs r
answers_only texts xs (Ok v) a s h = only_one texts xs v.items a s h
answers_only texts xs (Err NoMemory) a s h = tt
answers_only texts xs (Err (Form entry at)) a s h = no_first_fault texts xs entry at a s h

-- the bytes at a place
bytes_at : (texts : List (Vec ℕ Global)) (i : ℕ) (v : Vec ℕ Global) → i < length texts → v ≡ get_or texts i v → get_or (bytes_of texts) i [] ≡ v.items
bytes_at texts i v lt e = get_or-map (λ t. t.items) texts i v [] lt ∙ ap (λ (t : Vec ℕ Global). t.items) (sym e)

bytes_within : (texts : List (Vec ℕ Global)) (i : ℕ) → i < length texts → i < length (bytes_of texts)
bytes_within texts i lt = omega (arith, length-map texts (λ (t : Vec ℕ Global). t.items))

pub goes_on : (texts : List (Vec ℕ Global)) (i : ℕ) (v : Vec ℕ Global) (text : List ℕ) (xs : List Record) (x : Record) → i < length texts → v ≡ get_or texts i v → text ≡ v.items
    → IsRead (bytes_of texts) i xs → whole record_ text ≡ Ok x → record_.allowed x ≡ true → text ≡ record_.spell x → IsRead (bytes_of texts) (i + 1) (xs ++ x ∷ [])
goes_on texts i v text xs x lt is t h e a s =
    let here : get_or (bytes_of texts) i [] ≡ text = bytes_at texts i v lt is ∙ sym t in
    one_more (bytes_of texts) i xs x (bytes_within texts i lt) h (ap (whole record_) here ∙ e) a (here ∙ s)

pub fails : (texts : List (Vec ℕ Global)) (i : ℕ) (v : Vec ℕ Global) (text : List ℕ) (xs : List Record) (place : ℕ) (e : RecordsFault) → i < length texts → v ≡ get_or texts i v → text ≡ v.items
    → IsRead (bytes_of texts) i xs → place ≡ length xs → ReadsEntry place text (Err e) → ReadsAll (bytes_of texts) (Err e)
fails texts i v text xs place NoMemory lt is t h p r = tt
fails texts i v text xs place (Form entry at) lt is t h p r =
    let here : get_or (bytes_of texts) i [] ≡ text = bytes_at texts i v lt is ∙ sym t in
    rw (r.0, p) (first_fault (bytes_of texts) i xs at (bytes_within texts i lt) h (ap (whole record_) here ∙ r.1))
