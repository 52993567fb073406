-- Which files begin with a block, and which pairs need a head.
use Rattle.std.proofs.Common.{◌≡◌, inl, inr, ℕ, ◌<◌, ◌==◌, max, nat_le, Bool, true, false, IsTrue, if◌then◌else◌, List, [], ◌∷◌, length, get_or, refl, sym, ◌∙◌, ap, arith, length-append, le-leb}
use Rattle.std.proofs.lemmas.Bool.{cases_lt, cases_eq, lt-leb, leb-true, eq-eqb, eqb-true, and_parts, and_from, or_from, or_left, or_right, false_from_ne_true}
use Rattle.std.proofs.lemmas.List.{get_or-take}
use Rattle.report_journal.specs.Journal.{Stands, AreBlocks, all_records, blocks}
use Rattle.journal_checkpoint.specs.Heads.{generation_of, begins_block, needs_head, second_after_head, headed}
use Rattle.journal_checkpoint.specs.Laws.{BlocksHaveNoHead}
use Rattle.journal_checkpoint.proofs.Heads.{none_other}

begins_is : (file : List ℕ) → 1 < length file → get_or file 0 0 ≡ 1 → begins_block file ≡ true
begins_is file long one = and_from (nat_le 2 (length file)) (get_or file 0 0 == 1) (le-leb 2 (length file) (omega (arith, long))) (eq-eqb (get_or file 0 0) 1 one)

begins_gives : (file : List ℕ) → begins_block file ≡ true → (1 < length file) × (get_or file 0 0 ≡ 1)
begins_gives file is =
    let both = and_parts (nat_le 2 (length file)) (get_or file 0 0 == 1) is in
    (let two = leb-true 2 (length file) both.0 in omega (arith, two), eqb-true (get_or file 0 0) 1 both.1)

-- what two bytes tell
pub begins_by : (n x : ℕ) (b : Bool) (file : List ℕ) → ((b ≡ true) → (1 < length file) × (get_or file 0 0 ≡ 1)) → ((1 < length file) → get_or file 0 0 ≡ 1 → b ≡ true) → b ≡ begins_block file
begins_by n x true file gives is = (let both = gives refl in sym (begins_is file both.0 both.1))
begins_by n x false file gives is = sym (false_from_ne_true (begins_block file) (λ begins. (let both = begins_gives file begins in absurd (cc (is both.0 both.1)))))

headless : (file : List ℕ) → IsTrue (begins_block file) → generation_of file ≡ 0
headless file begins = none_other file (λ two. (let both = begins_gives file begins in omega (arith, both.1, two)))

-- blocks of records begin with a block
first_gate : (parts : List (List (List ℕ))) → 0 < length (all_records parts) → (0 < length (blocks parts)) × (get_or (blocks parts) 0 0 ≡ 1)
first_gate [] some = absurd (omega (arith, some))
first_gate (part ∷ parts) some = (omega arith, refl)

begins_where : (records : List (List ℕ)) (file : List ℕ) → Stands records file → 0 < length records → IsTrue (begins_block file)
begins_where records file (inl (q, closed)) some =
    let count = ap length closed.hold in
    let first = first_gate closed.parts (omega (arith, count, some)) in
    let place = closed.place in
    let within = closed.within in
    let later : 0 < q = omega (arith, first.0, place) in
    begins_is file (omega (arith, later, within)) (sym (get_or-take q file 0 0 later) ∙ ap (λ (l : List ℕ). get_or l 0 0) closed.front ∙ first.1)
begins_where records file (inr none) some = (let zero_is = ap length none.0 in absurd (omega (arith, zero_is, some)))

some_records : (parts : List (List (List ℕ))) → AreBlocks parts → 0 < length (blocks parts) → 0 < length (all_records parts)
some_records [] are some = absurd (omega (arith, some))
some_records (part ∷ parts) are some = (let here = are.0.some in let whole = length-append part (all_records parts) in omega (arith, here, whole))

some_where : (records : List (List ℕ)) (file : List ℕ) → Stands records file → IsTrue (begins_block file) → 0 < length records
some_where records file (inl (q, closed)) begins =
    let place = closed.place in
    let shut = closed.shut in
    let later : 0 < q = elim (cases_lt 0 q) [
      | inl lt ↦ lt
      | inr le ↦ (let zero_q : q ≡ 0 = omega (arith, le) in absurd (shut (ap (λ (n : ℕ). get_or file n 0) zero_q ∙ (begins_gives file begins).1)))
    ] in
    let some = some_records closed.parts closed.are (omega (arith, place, later)) in
    let count = ap length closed.hold in
    omega (arith, some, count)
some_where records file (inr none) begins = (let both = begins_gives file begins in let short = none.1 in absurd (omega (arith, both.0, short)))

pub blocks_have_no_head : BlocksHaveNoHead
blocks_have_no_head = record { none = headless; begins = begins_where; some = some_where }

-- a file that begins with no block and is from its front on the journal stands for none
pub stands_for_none : (file : List ℕ) → begins_block file ≡ false → Stands [] file
stands_for_none file none = elim (cases_lt 1 (length file)) [
  | inr short ↦ inr (refl, short)
  | inl long ↦ elim (cases_eq (get_or file 0 0) 1) [
    | inl one ↦ absurd (cc (sym none ∙ begins_is file long one))
    | inr shut ↦ inl (0, record { parts = []; are = tt; hold = refl; place = refl; front = refl; within = omega (arith, long); shut = shut })
  ]
]

-- when a pair needs a head
pub no_need_later : (a b : List ℕ) (g : ℕ) → 0 < g → g ≡ max (generation_of a) (generation_of b) → needs_head a b ≡ false
no_need_later a b g later is =
    ap (λ (x : Bool). if x then false else true) (or_left (nat_le 1 (max (generation_of a) (generation_of b))) (begins_block a) (le-leb 1 (max (generation_of a) (generation_of b)) (omega (arith, later, is))))

pub no_need_block : (a b : List ℕ) → begins_block a ≡ true → needs_head a b ≡ false
no_need_block a b begins = ap (λ (x : Bool). if x then false else true) (or_right (nat_le 1 (max (generation_of a) (generation_of b))) (begins_block a) begins)

pub need : (a b : List ℕ) → 0 ≡ max (generation_of a) (generation_of b) → begins_block a ≡ false → needs_head a b ≡ true
need a b none shut = ap (λ (x : Bool). if x then false else true) (or_from (nat_le 1 (max (generation_of a) (generation_of b))) (begins_block a) (lt-leb 1 (max (generation_of a) (generation_of b)) (omega (arith, none))) shut)

pub second_stays : (a b : List ℕ) → needs_head a b ≡ false → second_after_head a b ≡ b
second_stays a b none = ap (λ (x : Bool). if x then headed 1 [] else b) none

pub second_headed : (a b : List ℕ) → needs_head a b ≡ true → second_after_head a b ≡ headed 1 []
second_headed a b is = ap (λ (x : Bool). if x then headed 1 [] else b) is
