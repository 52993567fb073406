-- What is told of a file after a change of its head.
use Rattle.std.proofs.Common.{◌≡◌, ◌≢◌, ℕ, ◌≤◌, List, [], ◌∷◌, length, get_or, take, drop, Option, Some, None, refl, sym, ◌∙◌, ap, arith, length-drop}
use Rattle.std.proofs.lemmas.List.{nil_from_length, take_all}
use Rattle.dap_disk.specs.Disk.{Tells, of_told, written}
use Rattle.dap_disk.specs.RunLaws.{told_before}

-- a written 0 is no 2
pub zero_first : (old mid : Option (List ℕ)) (d : List ℕ) → mid ≡ of_told (written 0 (0 ∷ [])) old → mid ≡ Some d → get_or d 0 0 ≢ 2
zero_first old mid d done is two =
    let from = told_before (written 0 (0 ∷ [])) old d (sym done ∙ is) in
    let first : get_or d 0 0 ≡ 0 = ap (λ (l : List ℕ). get_or l 0 0) from.2 in
    omega (arith, first, two)

pub take_one : (held : Option (List ℕ)) → Tells held (λ c. length c ≤ 1) → held ≡ of_told (take 1) held
take_one None short = refl
take_one (Some c) short = ap Some (sym (take_all 1 c (short c refl)))

pub all_is : (x : List ℕ) (held : Option (List ℕ)) → Tells held (λ c. c ≡ x) → held ≡ of_told (λ _. x) held
all_is x None is = refl
all_is x (Some c) is = ap Some (is c refl)

-- a 0 over one byte at most is the whole file
pub zero_file : (old new : Option (List ℕ)) → Tells old (λ c. length c ≤ 1) → new ≡ of_told (written 0 (0 ∷ [])) old → new ≡ of_told (λ _. 0 ∷ []) old
zero_file None new short done = done
zero_file (Some c) new short done =
    let none : drop 1 c ≡ [] = nil_from_length (drop 1 c) (let le = short c refl in let left = length-drop 1 c in omega (arith, le, left)) in
    done ∙ ap (λ (l : List ℕ). Some (0 ∷ l)) none
