-- What a rule leaves of changes: one after another, how long it is, and that it stays within what may be.
use Rattle.std.proofs.Common.{◌≡◌, ℕ, ◌+◌, ◌≤◌, max, nat_le, List, [], ◌∷◌, ◌++◌, length, take, drop, true, ◌&&◌, refl, sym, ◌∙◌, ap, subst, arith, length-append, length-drop, length-take-le}
use Rattle.std.proofs.lemmas.Bool.Decides.{nat_tests}
use Rattle.dap_disk.specs.declared.image.Image.{Image}
use Rattle.dap_disk.specs.declared.image.Image.TheVariants.{New}
use Rattle.dap_disk.specs.Disk.{written}
use Rattle.dap_disk.specs.Images.{Change, Written, CutTo, greatest, are_within}
use Rattle.dap_disk.specs.ImageLaws.{greatest_up, greatest_mono, greatest-append, within_write, within_cut}
use Rattle.dap_disk.specs.History.{laid, put, puts}
use Rattle.dap_disk.specs.HistoryLaws.{laid_is, takes_put}

pub puts-append : (image : Image) (es fs : List Change) (c : List ℕ) → puts image (es ++ fs) c ≡ puts image fs (puts image es c)
puts-append image [] fs c = refl
puts-append image (e ∷ es) fs c = puts-append image es fs (put image e c)

length-put : (image : Image) (e : Change) (c : List ℕ) → length (put image e c) ≤ greatest (length c) (e ∷ [])
length-put image (Written at bytes) c = (takes_put image (Written at bytes) c).no_longer
length-put image (CutTo len) c = (takes_put image (CutTo len) c).no_longer

greatest_put : (image : Image) (e : Change) (es : List Change) (c : List ℕ) → greatest (length (put image e c)) es ≤ greatest (length c) (e ∷ es)
greatest_put image e es c =
    let whole = greatest-append (length c) (e ∷ []) es in
    omega (arith, greatest_mono (length (put image e c)) (greatest (length c) (e ∷ [])) es (length-put image e c), whole)

pub greatest_puts : (image : Image) (es fs : List Change) (c : List ℕ) → greatest (length (puts image es c)) fs ≤ greatest (length c) (es ++ fs)
greatest_puts image [] fs c = omega arith
greatest_puts image (e ∷ es) fs c = omega (arith, greatest_puts image es fs (put image e c), greatest_put image e (es ++ fs) c)

pub length-puts : (image : Image) (es : List Change) (c : List ℕ) → length (puts image es c) ≤ greatest (length c) es
length-puts image [] c = omega arith
length-puts image (e ∷ es) c = omega (arith, length-puts image es (put image e c), greatest_put image e es c)

pub greatest_first : (n : ℕ) (es fs : List Change) → greatest n es ≤ greatest n (es ++ fs)
greatest_first n es fs = let whole = greatest-append n es fs in omega (arith, greatest_up (greatest n es) fs, whole)

-- a change more stays below what bounds those before it and itself
pub greatest_both : (n cap : ℕ) (change : Change) → n ≤ cap → greatest 0 (change ∷ []) ≤ cap → greatest n (change ∷ []) ≤ cap
greatest_both n cap (Written at bytes) before itself = omega (arith, before, itself)
greatest_both n cap (CutTo len) before itself = before

length-laid : (at : ℕ) (bytes c : List ℕ) → at ≤ length c → length (laid at bytes c) ≡ max (length c) (at + length bytes)
length-laid at bytes c le =
    let later = drop (at + length bytes) c in
    let front = length-take-le at c le in
    let back = length-drop (at + length bytes) c in
    let rest = length-append bytes later in
    let whole : length (written at bytes c) ≡ length (take at c) + length (bytes ++ later) = length-append (take at c) (bytes ++ later) in
    ap length (laid_is at bytes c le) ∙ (omega (arith, front, back, rest, whole))

pub then_write : (n at size : ℕ) (es : List Change) → at ≤ n → are_within (max n size) es ≡ true → nat_le at n && are_within (max n size) es ≡ true
then_write n at size es le later = grind (arith, nat_tests)

pub then_cut : (n len : ℕ) (es : List Change) → len ≤ n → are_within len es ≡ true → nat_le len n && are_within len es ≡ true
then_cut n len es le later = grind (arith, nat_tests)

-- changes within what is held after others, behind these
pub within-append : (es fs : List Change) (c : List ℕ) → are_within (length c) es ≡ true → are_within (length (puts New es c)) fs ≡ true → are_within (length c) (es ++ fs) ≡ true
within-append [] fs c ok here = here
within-append (Written at bytes ∷ es) fs c ok here =
    let both = within_write (length c) at (at + length bytes) es ok in
    let size = length-laid at bytes c both.0 in
    let rest = within-append es fs (laid at bytes c) (subst (λ (n : ℕ). are_within n es ≡ true) (sym size) both.1) here in
    then_write (length c) at (at + length bytes) (es ++ fs) both.0 (subst (λ (n : ℕ). are_within n (es ++ fs) ≡ true) size rest)
within-append (CutTo len ∷ es) fs c ok here =
    let both = within_cut (length c) len es ok in
    let size : length (take len c) ≡ len = length-take-le len c both.0 in
    let rest = within-append es fs (take len c) (subst (λ (n : ℕ). are_within n es ≡ true) (sym size) both.1) here in
    then_cut (length c) len (es ++ fs) both.0 (subst (λ (n : ℕ). are_within n (es ++ fs) ≡ true) size rest)
