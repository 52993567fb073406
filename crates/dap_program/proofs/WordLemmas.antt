-- The words are heard as the command that they are, and else the faulty word is behind their longest prefix of a command.
use Rattle.std.proofs.Common.{◌≡◌, ◌⊎◌, ℕ, ◌-◌, ◌≤◌, List, [], ◌∷◌, ◌++◌, length, take, codes, Bool, true, false, if◌then◌else◌, Option, Some, None, Result, Ok, Err, refl, sym, ap, subst, ◌∙◌, suc, zero, inl, inr, append-nil, arith}
use Rattle.std.proofs.lemmas.Slice.Eq.{bytes_eq-Decides}
use Rattle.std.specs.Fmt.{decimal}
use Rattle.std.specs.Option.{option_map_or}
use Rattle.std.specs.Str.{bytes_eq}
use Rattle.load_maker.specs.declared.script.TheConstants.{MOST_MEASUREMENTS}
use Rattle.dap_script.proofs.NumberLaws.{bounded_of-decimal, bounded_spelled, number_of-decimal, number_spelled}
use Rattle.dap_script.specs.Fields.{bounded_of, number_of}
use Rattle.dap_program.specs.Words.{PlainCommand, Running, Checking, Loading, Helping, Versioning, BeginsCommand, IsAllowed, IsCommand, IsFaultyWord, checking, command_of, ending, file_behind, load_behind, load_with, names_file, running, words_of}

-- texts of which the test says that they differ
apart : (a b : List ℕ) → bytes_eq a b ≡ false → a ≡ b → ⊥
apart a b differ e = cc ((bytes_eq-Decides a b).1 e, differ)

-- ---- the words of a command are heard

chosen_run : (b : Bool) (file : List ℕ) → b ≡ true → running (if b then Ok (Some file) else Err 2) ≡ Ok (Running (Some file))
chosen_run true file h = refl
chosen_run false file h = cc h

chosen_check : (b : Bool) (file : List ℕ) → b ≡ true → checking (if b then Ok (Some file) else Err 2) ≡ Ok (Checking file)
chosen_check true file h = refl
chosen_check false file h = cc h

reports_read : (reports seed : ℕ) → IsAllowed (Loading reports seed) → bounded_of 1 MOST_MEASUREMENTS (decimal reports) ≡ Some reports
reports_read reports seed h = bounded_of-decimal 1 MOST_MEASUREMENTS reports h.0 h.1 (omega (arith, h.1))

chosen_load : (reports seed : ℕ) → IsAllowed (Loading reports seed) → load_behind (decimal reports ∷ decimal seed ∷ []) ≡ Ok (Loading reports seed)
chosen_load reports seed h = rw (reports_read reports seed h, number_of-decimal seed h.2) refl

command_of-words_of : (command : PlainCommand) → IsAllowed command → command_of (words_of command) ≡ Ok command
command_of-words_of (Running None) h = refl
command_of-words_of (Running (Some file)) h = chosen_run (names_file file) file h
command_of-words_of (Checking file) h = chosen_check (names_file file) file h
command_of-words_of (Loading reports seed) h = chosen_load reports seed h
command_of-words_of Helping h = refl
command_of-words_of Versioning h = refl

pub command_of-command : (words : List (List ℕ)) (command : PlainCommand) → IsCommand words command → command_of words ≡ Ok command
command_of-command words command h = ap command_of h.spelled ∙ command_of-words_of command h.allowed

-- ---- prefixes of commands

none_begins : BeginsCommand []
none_begins = record { command = Running None; allowed = tt; more = codes "run" ∷ []; whole = refl }

run_begins : (verb : List ℕ) → verb ≡ codes "run" → BeginsCommand (verb ∷ [])
run_begins verb e = record { command = Running None; allowed = tt; more = []; whole = ap (λ (v : List ℕ). v ∷ []) e }

check_begins : (verb : List ℕ) → verb ≡ codes "check" → BeginsCommand (verb ∷ [])
check_begins verb e = record { command = Checking (codes "f"); allowed = refl; more = codes "f" ∷ []; whole = ap (λ (v : List ℕ). v ∷ codes "f" ∷ []) e }

load_begins : (verb : List ℕ) → verb ≡ codes "load" → BeginsCommand (verb ∷ [])
load_begins verb e = record {
  command = Loading 1 0;
  allowed = (omega arith, omega arith, omega arith);
  more = decimal 1 ∷ decimal 0 ∷ [];
  whole = ap (λ (v : List ℕ). v ∷ decimal 1 ∷ decimal 0 ∷ []) e;
}

reports_begin : (verb text : List ℕ) (n : ℕ) → verb ≡ codes "load" → bounded_of 1 MOST_MEASUREMENTS text ≡ Some n → BeginsCommand (verb ∷ text ∷ [])
reports_begin verb text n e h =
    let b = bounded_spelled 1 MOST_MEASUREMENTS text n h in
    record {
      command = Loading n 0;
      allowed = (b.1, b.2, omega arith);
      more = decimal 0 ∷ [];
      whole = ap (λ (v : List ℕ). v ∷ text ∷ decimal 0 ∷ []) e ∙ ap (λ (t : List ℕ). codes "load" ∷ t ∷ decimal 0 ∷ []) b.0;
    }

command_begins : (words : List (List ℕ)) (command : PlainCommand) → IsCommand words command → BeginsCommand words
command_begins words command h = record { command = command; allowed = h.allowed; more = []; whole = append-nil words ∙ h.spelled }

-- ---- what no command has

no_verb : (verb : List ℕ) → (verb ≡ codes "run" → ⊥) → (verb ≡ codes "check" → ⊥) → (verb ≡ codes "load" → ⊥) → (verb ≡ codes "--help" → ⊥)
    → (verb ≡ codes "--version" → ⊥) → (command : PlainCommand) (rest : List (List ℕ)) → verb ∷ rest ≡ words_of command → ⊥
no_verb verb run check load help version (Running None) rest h = run (cc h)
no_verb verb run check load help version (Running (Some file)) rest h = run (cc h)
no_verb verb run check load help version (Checking file) rest h = check (cc h)
no_verb verb run check load help version (Loading reports seed) rest h = load (cc h)
no_verb verb run check load help version Helping rest h = help (cc h)
no_verb verb run check load help version Versioning rest h = version (cc h)

no_file : (verb file : List ℕ) → (verb ≡ codes "load" → ⊥) → names_file file ≡ false → (command : PlainCommand) (rest : List (List ℕ)) → IsAllowed command
    → verb ∷ file ∷ rest ≡ words_of command → ⊥
no_file verb file load none (Running None) rest a h = cc h
no_file verb file load none (Running (Some name)) rest a h = (let same : file ≡ name = cc h in cc (ap names_file same ∙ a, none))
no_file verb file load none (Checking name) rest a h = (let same : file ≡ name = cc h in cc (ap names_file same ∙ a, none))
no_file verb file load none (Loading reports seed) rest a h = load (cc h)
no_file verb file load none Helping rest a h = cc h
no_file verb file load none Versioning rest a h = cc h

no_third : (verb file next : List ℕ) → (verb ≡ codes "load" → ⊥) → (command : PlainCommand) (rest : List (List ℕ)) → IsAllowed command
    → verb ∷ file ∷ next ∷ rest ≡ words_of command → ⊥
no_third verb file next load (Running None) rest a h = cc h
no_third verb file next load (Running (Some name)) rest a h = cc h
no_third verb file next load (Checking name) rest a h = cc h
no_third verb file next load (Loading reports seed) rest a h = load (cc h)
no_third verb file next load Helping rest a h = cc h
no_third verb file next load Versioning rest a h = cc h

no_reports : (verb text : List ℕ) → verb ≡ codes "load" → bounded_of 1 MOST_MEASUREMENTS text ≡ None → (command : PlainCommand) (rest : List (List ℕ)) → IsAllowed command
    → verb ∷ text ∷ rest ≡ words_of command → ⊥
no_reports verb text e none (Running None) rest a h = cc h
no_reports verb text e none (Running (Some name)) rest a h = (let v : verb ≡ codes "run" = cc h in apart (codes "run") (codes "load") refl (sym v ∙ e))
no_reports verb text e none (Checking name) rest a h = (let v : verb ≡ codes "check" = cc h in apart (codes "check") (codes "load") refl (sym v ∙ e))
no_reports verb text e none (Loading reports seed) rest a h =
    (let same : text ≡ decimal reports = cc h in cc (ap (bounded_of 1 MOST_MEASUREMENTS) same ∙ reports_read reports seed a, none))
no_reports verb text e none Helping rest a h = cc h
no_reports verb text e none Versioning rest a h = cc h

no_seed : (verb text drawn : List ℕ) → number_of drawn ≡ None → (command : PlainCommand) (rest : List (List ℕ)) → IsAllowed command
    → verb ∷ text ∷ drawn ∷ rest ≡ words_of command → ⊥
no_seed verb text drawn none (Running None) rest a h = cc h
no_seed verb text drawn none (Running (Some name)) rest a h = cc h
no_seed verb text drawn none (Checking name) rest a h = cc h
no_seed verb text drawn none (Loading reports seed) rest a h = (let same : drawn ≡ decimal seed = cc h in cc (ap number_of same ∙ number_of-decimal seed a.2, none))
no_seed verb text drawn none Helping rest a h = cc h
no_seed verb text drawn none Versioning rest a h = cc h

no_fourth : (a b c d : List ℕ) (command : PlainCommand) (rest : List (List ℕ)) → IsAllowed command → a ∷ b ∷ c ∷ d ∷ rest ≡ words_of command → ⊥
no_fourth a b c d (Running None) rest h e = cc e
no_fourth a b c d (Running (Some name)) rest h e = cc e
no_fourth a b c d (Checking name) rest h e = cc e
no_fourth a b c d (Loading reports seed) rest h e = cc e
no_fourth a b c d Helping rest h e = cc e
no_fourth a b c d Versioning rest h e = cc e

no_second : (verb next : List ℕ) → (verb ≡ codes "--help") ⊎ (verb ≡ codes "--version") → (command : PlainCommand) (rest : List (List ℕ)) → IsAllowed command
    → verb ∷ next ∷ rest ≡ words_of command → ⊥
no_second verb next (inl e) (Running None) rest a h = cc h
no_second verb next (inl e) (Running (Some name)) rest a h = (let v : verb ≡ codes "run" = cc h in apart (codes "run") (codes "--help") refl (sym v ∙ e))
no_second verb next (inl e) (Checking name) rest a h = (let v : verb ≡ codes "check" = cc h in apart (codes "check") (codes "--help") refl (sym v ∙ e))
no_second verb next (inl e) (Loading reports seed) rest a h = (let v : verb ≡ codes "load" = cc h in apart (codes "load") (codes "--help") refl (sym v ∙ e))
no_second verb next (inl e) Helping rest a h = cc h
no_second verb next (inl e) Versioning rest a h = cc h
no_second verb next (inr e) (Running None) rest a h = cc h
no_second verb next (inr e) (Running (Some name)) rest a h = (let v : verb ≡ codes "run" = cc h in apart (codes "run") (codes "--version") refl (sym v ∙ e))
no_second verb next (inr e) (Checking name) rest a h = (let v : verb ≡ codes "check" = cc h in apart (codes "check") (codes "--version") refl (sym v ∙ e))
no_second verb next (inr e) (Loading reports seed) rest a h = (let v : verb ≡ codes "load" = cc h in apart (codes "load") (codes "--version") refl (sym v ∙ e))
no_second verb next (inr e) Helping rest a h = cc h
no_second verb next (inr e) Versioning rest a h = cc h

-- ---- the longest

-- the first n words begin a command, and no more of them do
record IsLongest (words : List (List ℕ)) (n : ℕ) : Type 0 where
  within : n ≤ length words
  begins : BeginsCommand (take n words)
  longest : (k : ℕ) → k ≤ length words → BeginsCommand (take k words) → k ≤ n

none_longest : (verb : List ℕ) (words : List (List ℕ)) → ((command : PlainCommand) (rest : List (List ℕ)) → verb ∷ rest ≡ words_of command → ⊥) → IsLongest (verb ∷ words) 0
none_longest verb words never = record { within = omega arith; begins = none_begins; longest = go }
  where
    go : (k : ℕ) → k ≤ length (verb ∷ words) → BeginsCommand (take k (verb ∷ words)) → k ≤ 0
    go zero h b = omega arith
    go (suc k) h b = absurd (never b.command (take k words ++ b.more) b.whole)

one_alone : (verb : List ℕ) → BeginsCommand (verb ∷ []) → IsLongest (verb ∷ []) 1
one_alone verb b = record { within = omega arith; begins = b; longest = λ k h c. omega arith }

two_alone : (verb next : List ℕ) → BeginsCommand (verb ∷ next ∷ []) → IsLongest (verb ∷ next ∷ []) 2
two_alone verb next b = record { within = omega arith; begins = b; longest = λ k h c. omega arith }

one_longest : (verb next : List ℕ) (words : List (List ℕ)) → BeginsCommand (verb ∷ [])
    → ((command : PlainCommand) (rest : List (List ℕ)) → IsAllowed command → verb ∷ next ∷ rest ≡ words_of command → ⊥) → IsLongest (verb ∷ next ∷ words) 1
one_longest verb next words begins never = record { within = omega arith; begins = begins; longest = go }
  where
    go : (k : ℕ) → k ≤ length (verb ∷ next ∷ words) → BeginsCommand (take k (verb ∷ next ∷ words)) → k ≤ 1
    go zero h b = omega arith
    go (suc zero) h b = omega arith
    go (suc (suc k)) h b = absurd (never b.command (take k words ++ b.more) b.allowed b.whole)

two_longest : (verb second next : List ℕ) (words : List (List ℕ)) → BeginsCommand (verb ∷ second ∷ [])
    → ((command : PlainCommand) (rest : List (List ℕ)) → IsAllowed command → verb ∷ second ∷ next ∷ rest ≡ words_of command → ⊥)
    → IsLongest (verb ∷ second ∷ next ∷ words) 2
two_longest verb second next words begins never = record { within = omega arith; begins = begins; longest = go }
  where
    go : (k : ℕ) → k ≤ length (verb ∷ second ∷ next ∷ words) → BeginsCommand (take k (verb ∷ second ∷ next ∷ words)) → k ≤ 2
    go zero h b = omega arith
    go (suc zero) h b = omega arith
    go (suc (suc zero)) h b = omega arith
    go (suc (suc (suc k))) h b = absurd (never b.command (take k words ++ b.more) b.allowed b.whole)

three_longest : (a b c d : List ℕ) (words : List (List ℕ)) → BeginsCommand (a ∷ b ∷ c ∷ []) → IsLongest (a ∷ b ∷ c ∷ d ∷ words) 3
three_longest a b c d words begins = record { within = omega arith; begins = begins; longest = go }
  where
    go : (k : ℕ) → k ≤ length (a ∷ b ∷ c ∷ d ∷ words) → BeginsCommand (take k (a ∷ b ∷ c ∷ d ∷ words)) → k ≤ 3
    go zero h t = omega arith
    go (suc zero) h t = omega arith
    go (suc (suc zero)) h t = omega arith
    go (suc (suc (suc zero))) h t = omega arith
    go (suc (suc (suc (suc k)))) h t = absurd (no_fourth a b c d t.command (take k words ++ t.more) t.allowed t.whole)

-- ---- what is heard

-- the answer is the command that the words are, or the number of the word behind their longest prefix
abbrev Hears : List (List ℕ) → Result PlainCommand ℕ → Type 0
Hears words (Ok command) = IsCommand words command
Hears words (Err n) = (1 ≤ n) × IsLongest words (n - 1)

-- a word that begins a command, and behind it one that may name the command's file
hears_file : (verb file : List ℕ) (words : List (List ℕ)) (answer : Result (Option (List ℕ)) ℕ → Result PlainCommand ℕ) (command : PlainCommand)
    → ((n : ℕ) → answer (Err n) ≡ Err n) → answer (Ok (Some file)) ≡ Ok command → BeginsCommand (verb ∷ []) → (verb ≡ codes "load" → ⊥)
    → (names_file file ≡ true → IsCommand (verb ∷ file ∷ []) command) → Hears (verb ∷ file ∷ words) (answer (file_behind (file ∷ words)))
hears_file verb file [] answer command err ok begins load is = by_name (names_file file) refl
  where
    by_name : (b : Bool) → names_file file ≡ b → Hears (verb ∷ file ∷ []) (answer (if b then Ok (Some file) else Err 2))
    by_name true h = subst (Hears (verb ∷ file ∷ [])) (sym ok) (is h)
    by_name false h = subst (Hears (verb ∷ file ∷ [])) (sym (err 2)) (omega arith, one_longest verb file [] begins (no_file verb file load h))
hears_file verb file (next ∷ more) answer command err ok begins load is = by_name (names_file file) refl
  where
    by_name : (b : Bool) → names_file file ≡ b → Hears (verb ∷ file ∷ next ∷ more) (answer (if b then Err 3 else Err 2))
    by_name true h =
        subst (Hears (verb ∷ file ∷ next ∷ more)) (sym (err 3))
        (omega arith, two_longest verb file next more (command_begins (verb ∷ file ∷ []) command (is h)) (no_third verb file next load))
    by_name false h =
        subst (Hears (verb ∷ file ∷ next ∷ more)) (sym (err 2)) (omega arith, one_longest verb file (next ∷ more) begins (no_file verb file load h))

hears_run : (verb : List ℕ) (words : List (List ℕ)) → verb ≡ codes "run" → Hears (verb ∷ words) (running (file_behind words))
hears_run verb [] e = record { allowed = tt; spelled = ap (λ (v : List ℕ). v ∷ []) e }
hears_run verb (file ∷ words) e = hears_file verb file words running (Running (Some file)) (λ n. refl) refl (run_begins verb e) (λ l. apart (codes "run") (codes "load") refl (sym e ∙ l))
    (λ h. record { allowed = h; spelled = ap (λ (v : List ℕ). v ∷ file ∷ []) e })

hears_check : (verb : List ℕ) (words : List (List ℕ)) → verb ≡ codes "check" → Hears (verb ∷ words) (checking (file_behind words))
hears_check verb [] e = (omega arith, one_alone verb (check_begins verb e))
hears_check verb (file ∷ words) e = hears_file verb file words checking (Checking file) (λ n. refl) refl (check_begins verb e) (λ l. apart (codes "check") (codes "load") refl (sym e ∙ l))
    (λ h. record { allowed = h; spelled = ap (λ (v : List ℕ). v ∷ file ∷ []) e })

load_is : (verb text drawn : List ℕ) (n seed : ℕ) → verb ≡ codes "load" → bounded_of 1 MOST_MEASUREMENTS text ≡ Some n → number_of drawn ≡ Some seed
    → IsCommand (verb ∷ text ∷ drawn ∷ []) (Loading n seed)
load_is verb text drawn n seed e h k =
    let b = bounded_spelled 1 MOST_MEASUREMENTS text n h in
    let s = number_spelled drawn seed k in
    record { allowed = (b.1, b.2, s.1); spelled = cc (e, b.0, s.0) }

hears_end : (verb text drawn : List ℕ) (words : List (List ℕ)) (n seed : ℕ) → IsCommand (verb ∷ text ∷ drawn ∷ []) (Loading n seed)
    → Hears (verb ∷ text ∷ drawn ∷ words) (ending (Loading n seed) 4 words)
hears_end verb text drawn [] n seed is = is
hears_end verb text drawn (next ∷ more) n seed is = (omega arith, three_longest verb text drawn next more (command_begins (verb ∷ text ∷ drawn ∷ []) (Loading n seed) is))

hears_seed : (verb text : List ℕ) (words : List (List ℕ)) (n : ℕ) → verb ≡ codes "load" → bounded_of 1 MOST_MEASUREMENTS text ≡ Some n
    → Hears (verb ∷ text ∷ words) (load_with n words)
hears_seed verb text [] n e h = (omega arith, two_alone verb text (reports_begin verb text n e h))
hears_seed verb text (drawn ∷ words) n e h = by_seed (number_of drawn) refl
  where
    by_seed : (r : Option ℕ) → number_of drawn ≡ r → Hears (verb ∷ text ∷ drawn ∷ words) (option_map_or (λ s. ending (Loading n s) 4 words) r (Err 3))
    by_seed None k = (omega arith, two_longest verb text drawn words (reports_begin verb text n e h) (no_seed verb text drawn k))
    by_seed (Some seed) k = hears_end verb text drawn words n seed (load_is verb text drawn n seed e h k)

hears_load : (verb : List ℕ) (words : List (List ℕ)) → verb ≡ codes "load" → Hears (verb ∷ words) (load_behind words)
hears_load verb [] e = (omega arith, one_alone verb (load_begins verb e))
hears_load verb (text ∷ words) e = by_reports (bounded_of 1 MOST_MEASUREMENTS text) refl
  where
    by_reports : (r : Option ℕ) → bounded_of 1 MOST_MEASUREMENTS text ≡ r → Hears (verb ∷ text ∷ words) (option_map_or (λ n. load_with n words) r (Err 2))
    by_reports None h = (omega arith, one_longest verb text words (load_begins verb e) (no_reports verb text e h))
    by_reports (Some n) h = hears_seed verb text words n e h

-- a command of one word
hears_alone : (verb : List ℕ) (words : List (List ℕ)) (command : PlainCommand) → IsCommand (verb ∷ []) command → (verb ≡ codes "--help") ⊎ (verb ≡ codes "--version")
    → Hears (verb ∷ words) (ending command 2 words)
hears_alone verb [] command is e = is
hears_alone verb (next ∷ words) command is e = (omega arith, one_longest verb next words (command_begins (verb ∷ []) command is) (no_second verb next e))

hears_verb : (verb : List ℕ) (words : List (List ℕ)) (run check load help version : Bool) → bytes_eq verb (codes "run") ≡ run → bytes_eq verb (codes "check") ≡ check
    → bytes_eq verb (codes "load") ≡ load → bytes_eq verb (codes "--help") ≡ help → bytes_eq verb (codes "--version") ≡ version
    → Hears (verb ∷ words)
    (if run then running (file_behind words) else (if check then checking (file_behind words) else (if load then load_behind words
    else (if help then ending Helping 2 words else (if version then ending Versioning 2 words else Err 1)))))
hears_verb verb words true check load help version r c l h v = hears_run verb words ((bytes_eq-Decides verb (codes "run")).0 r)
hears_verb verb words false true load help version r c l h v = hears_check verb words ((bytes_eq-Decides verb (codes "check")).0 c)
hears_verb verb words false false true help version r c l h v = hears_load verb words ((bytes_eq-Decides verb (codes "load")).0 l)
hears_verb verb words false false false true version r c l h v =
    let e = (bytes_eq-Decides verb (codes "--help")).0 h in
    hears_alone verb words Helping (record { allowed = tt; spelled = ap (λ (w : List ℕ). w ∷ []) e }) (inl e)
hears_verb verb words false false false false true r c l h v =
    let e = (bytes_eq-Decides verb (codes "--version")).0 v in
    hears_alone verb words Versioning (record { allowed = tt; spelled = ap (λ (w : List ℕ). w ∷ []) e }) (inr e)
hears_verb verb words false false false false false r c l h v =
    let other : (word : List ℕ) → bytes_eq verb word ≡ false → verb ≡ word → ⊥ = λ word none e. cc ((bytes_eq-Decides verb word).1 e, none) in
    (omega arith, none_longest verb words (no_verb verb (other (codes "run") r) (other (codes "check") c) (other (codes "load") l) (other (codes "--help") h) (other (codes "--version") v)))

hears : (words : List (List ℕ)) → Hears words (command_of words)
hears [] = (omega arith, record { within = omega arith; begins = none_begins; longest = λ k h b. omega arith })
hears (verb ∷ words) = hears_verb verb words (bytes_eq verb (codes "run")) (bytes_eq verb (codes "check")) (bytes_eq verb (codes "load")) (bytes_eq verb (codes "--help"))
    (bytes_eq verb (codes "--version")) refl refl refl refl refl

pub command_of_is : (words : List (List ℕ)) (command : PlainCommand) → command_of words ≡ Ok command → IsCommand words command
command_of_is words command h = subst (Hears words) h (hears words)

pub command_of-faulty : (words : List (List ℕ)) (n : ℕ) → command_of words ≡ Err n → IsFaultyWord words n
command_of-faulty words n h =
    let l : (1 ≤ n) × IsLongest words (n - 1) = subst (Hears words) h (hears words) in
    record {
      none = λ command is. cc (command_of-command words command is, h);
      some = l.0;
      within = l.1.within;
      begins = l.1.begins;
      longest = l.1.longest;
    }

by_answer : (words : List (List ℕ)) (n : ℕ) (r : Result PlainCommand ℕ) → command_of words ≡ r → IsFaultyWord words n → r ≡ Err n
by_answer words n (Ok command) h f = absurd (f.none command (command_of_is words command h))
by_answer words n (Err m) h f =
    let g = command_of-faulty words m h in
    let above = f.longest (m - 1) g.within g.begins in
    let below = g.longest (n - 1) f.within f.begins in
    let same : m ≡ n = omega (arith, f.some, g.some, above, below) in
    ap Err same

pub faulty_command_of : (words : List (List ℕ)) (n : ℕ) → IsFaultyWord words n → command_of words ≡ Err n
faulty_command_of words n f = by_answer words n (command_of words) refl f
