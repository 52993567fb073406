-- What tells a file's generation, and what each change of a head leaves of it.
use Rattle.std.proofs.Common.{◌≡◌, ◌≢◌, ◌⊎◌, inl, inr, ℕ, suc, ◌+◌, ◌≤◌, ◌<◌, ◌^◌, ◌==◌, Bool, true, false, ◌&&◌, if◌then◌else◌, List, [], ◌∷◌, length, get_or, take, drop, refl, sym, ◌∙◌, ap, subst, arith, length-take, length-drop, le-leb}
use Rattle.std.proofs.lemmas.List.{drop-take, get_or-take}
use Rattle.std.proofs.lemmas.Bool.{cases_lt, cases_eq, lt-leb, ne_eqb, eq-eqb}
use Rattle.std.proofs.lemmas.Nat.{from_be_bytes-to_be_bytes_8, be_bytes_8}
use Rattle.std.specs.Int.{from_be_bytes, w64}
use Rattle.dap_disk.specs.Disk.{Torn, Shortened}
use Rattle.journal_checkpoint.specs.Heads.{head, generation_of, start_of, front_of, journal_of, pair_journal, in_order, IsOlder}
use Rattle.journal_checkpoint.specs.Packing.{KeepsGeneration}

-- the generation, by the file's first nine bytes
abbrev in_front : List ℕ → ℕ
in_front l = if get_or l 0 0 == 2 then from_be_bytes w64 (drop 1 l) else 0

pub none_short : (c : List ℕ) → length c < 9 → generation_of c ≡ 0
none_short c lt = ap (λ (b : Bool). if b && get_or c 0 0 == 2 then from_be_bytes w64 (take 8 (drop 1 c)) else 0) (lt-leb 9 (length c) lt)

by_front : (c : List ℕ) → 9 ≤ length c → generation_of c ≡ in_front (take 9 c)
by_front c le =
    ap (λ (b : Bool). if b && get_or c 0 0 == 2 then from_be_bytes w64 (take 8 (drop 1 c)) else 0) (le-leb 9 (length c) le)
    ∙ ap (λ (x : ℕ). if x == 2 then from_be_bytes w64 (take 8 (drop 1 c)) else 0) (sym (get_or-take 9 c 0 0 (omega arith)))
    ∙ ap (λ (l : List ℕ). if get_or (take 9 c) 0 0 == 2 then from_be_bytes w64 l else 0) (sym (drop-take 1 8 c))

-- the same first nine bytes, the same generation
pub same_head : (c d : List ℕ) → 9 ≤ length c → 9 ≤ length d → take 9 c ≡ take 9 d → generation_of c ≡ generation_of d
same_head c d long long' same = by_front c long ∙ ap in_front same ∙ sym (by_front d long')

pub none_other : (c : List ℕ) → get_or c 0 0 ≢ 2 → generation_of c ≡ 0
none_other c ne = elim (cases_lt (length c) 9) [
  | inl lt ↦ none_short c lt
  | inr le ↦
      ap (λ (b : Bool). if b && get_or c 0 0 == 2 then from_be_bytes w64 (take 8 (drop 1 c)) else 0) (le-leb 9 (length c) le)
      ∙ ap (λ (b : Bool). if b then from_be_bytes w64 (take 8 (drop 1 c)) else 0) (ne_eqb (get_or c 0 0) 2 ne)
]

pub nine : (h : List ℕ) (g : ℕ) → take 9 h ≡ head g → 9 ≤ length h
nine h g is = (let cut = length-take 9 h in let all = ap length is in omega (arith, cut, all))

pub read_head : (c : List ℕ) (g : ℕ) → g < 2 ^ 64 → take 9 c ≡ head g → generation_of c ≡ g
read_head c g small is = by_front c (nine c g is) ∙ ap in_front is ∙ from_be_bytes-to_be_bytes_8 g small

-- the eight bytes behind the first
eight : (h : List ℕ) → length h ≡ 9 → drop 1 h ≡ get_or h 1 0 ∷ get_or h 2 0 ∷ get_or h 3 0 ∷ get_or h 4 0 ∷ get_or h 5 0 ∷ get_or h 6 0 ∷ get_or h 7 0 ∷ get_or h 8 0 ∷ []
eight [] is = absurd (omega (arith, is))
eight (a ∷ []) is = absurd (omega (arith, is))
eight (a ∷ b ∷ []) is = absurd (omega (arith, is))
eight (a ∷ b ∷ c ∷ []) is = absurd (omega (arith, is))
eight (a ∷ b ∷ c ∷ d ∷ []) is = absurd (omega (arith, is))
eight (a ∷ b ∷ c ∷ d ∷ e ∷ []) is = absurd (omega (arith, is))
eight (a ∷ b ∷ c ∷ d ∷ e ∷ f ∷ []) is = absurd (omega (arith, is))
eight (a ∷ b ∷ c ∷ d ∷ e ∷ f ∷ g ∷ []) is = absurd (omega (arith, is))
eight (a ∷ b ∷ c ∷ d ∷ e ∷ f ∷ g ∷ h ∷ []) is = absurd (omega (arith, is))
eight (a ∷ b ∷ c ∷ d ∷ e ∷ f ∷ g ∷ h ∷ i ∷ []) is = refl
eight (a ∷ b ∷ c ∷ d ∷ e ∷ f ∷ g ∷ h ∷ i ∷ j ∷ l) is = absurd (omega (arith, is))

nine_all : (h : List ℕ) → length h ≡ 9 → take 9 h ≡ h
nine_all [] is = absurd (omega (arith, is))
nine_all (a ∷ []) is = absurd (omega (arith, is))
nine_all (a ∷ b ∷ []) is = absurd (omega (arith, is))
nine_all (a ∷ b ∷ c ∷ []) is = absurd (omega (arith, is))
nine_all (a ∷ b ∷ c ∷ d ∷ []) is = absurd (omega (arith, is))
nine_all (a ∷ b ∷ c ∷ d ∷ e ∷ []) is = absurd (omega (arith, is))
nine_all (a ∷ b ∷ c ∷ d ∷ e ∷ f ∷ []) is = absurd (omega (arith, is))
nine_all (a ∷ b ∷ c ∷ d ∷ e ∷ f ∷ g ∷ []) is = absurd (omega (arith, is))
nine_all (a ∷ b ∷ c ∷ d ∷ e ∷ f ∷ g ∷ h ∷ []) is = absurd (omega (arith, is))
nine_all (a ∷ b ∷ c ∷ d ∷ e ∷ f ∷ g ∷ h ∷ i ∷ []) is = refl
nine_all (a ∷ b ∷ c ∷ d ∷ e ∷ f ∷ g ∷ h ∷ i ∷ j ∷ l) is = absurd (omega (arith, is))

pub number_is : (h : List ℕ) (g : ℕ) → length h ≡ 9 → get_or h 0 0 ≡ 2 → g ≡ from_be_bytes w64 (get_or h 1 0 ∷ get_or h 2 0 ∷ get_or h 3 0 ∷ get_or h 4 0 ∷ get_or h 5 0 ∷ get_or h 6 0 ∷ get_or h 7 0 ∷ get_or h 8 0 ∷ []) → g ≡ generation_of h
number_is h g is two number =
    number ∙ ap (from_be_bytes w64) (sym (eight h is))
    ∙ ap (λ (b : Bool). if b then from_be_bytes w64 (drop 1 h) else 0) (sym (eq-eqb (get_or h 0 0) 2 two))
    ∙ ap in_front (sym (nine_all h is)) ∙ sym (by_front h (omega (arith, is)))

pub start_later : (g : ℕ) → 0 < g → start_of g ≡ 9
start_later g lt = ap (λ (b : Bool). if b then 0 else 9) (ne_eqb g 0 (λ is. omega (arith, lt, is)))

pub front_later : (g : ℕ) → 0 < g → front_of g ≡ head g
front_later g lt = ap (λ (b : Bool). if b then [] else head g) (ne_eqb g 0 (λ is. omega (arith, lt, is)))

pub start_none : (g : ℕ) → g ≡ 0 → start_of g ≡ 0
start_none g is = ap start_of is

-- a file that begins with this head, if it is one
pub front_is : (c : List ℕ) (g : ℕ) → (0 < g → take 9 c ≡ head g) → take (start_of g) c ≡ front_of g
front_is c g later = elim (cases_lt 0 g) [
  | inl lt ↦ ap (λ (n : ℕ). take n c) (start_later g lt) ∙ later lt ∙ sym (front_later g lt)
  | inr le ↦ (let none : g ≡ 0 = omega (arith, le) in subst (λ (n : ℕ). take (start_of n) c ≡ front_of n) (sym none) refl)
]

pub number_front : (h : List ℕ) (g : ℕ) → length h ≡ 9 → ((i : ℕ) → get_or h i 0 < 256) → get_or h 0 0 ≡ 2
    → g ≡ from_be_bytes w64 (get_or h 1 0 ∷ get_or h 2 0 ∷ get_or h 3 0 ∷ get_or h 4 0 ∷ get_or h 5 0 ∷ get_or h 6 0 ∷ get_or h 7 0 ∷ get_or h 8 0 ∷ []) → take (start_of g) h ≡ front_of g
number_front h g is bytes two number = front_is h g (λ later. nine_all h is ∙ first h is two ∙ ap (λ (l : List ℕ). 2 ∷ l) (sym (be_bytes_8 (drop 1 h) g (length-drop 1 h ∙ omega (arith, is)) (λ i. after h is bytes i) (number ∙ ap (from_be_bytes w64) (sym (eight h is))))))
  where
    first : (h : List ℕ) → length h ≡ 9 → get_or h 0 0 ≡ 2 → h ≡ 2 ∷ drop 1 h
    first [] is two = absurd (omega (arith, is))
    first (a ∷ l) is two = ap (λ (x : ℕ). x ∷ l) two

    after : (h : List ℕ) → length h ≡ 9 → ((i : ℕ) → get_or h i 0 < 256) → (i : ℕ) → get_or (drop 1 h) i 0 < 256
    after [] is bytes i = absurd (omega (arith, is))
    after (a ∷ l) is bytes i = bytes (suc i)

-- what a buffer of the first nine bytes tells of the file
pub buffer_tells : (h c : List ℕ) (g : ℕ) → length h ≡ 9 → take 9 h ≡ take 9 c → 9 ≤ length c → g ≡ generation_of h → take (start_of g) h ≡ front_of g → (g ≡ generation_of c) × (take (start_of g) c ≡ front_of g)
buffer_tells h c g is same le number front = (
  number ∙ same_head h c (omega (arith, is)) le same,
  front_is c g (λ lt. sym same ∙ ap (λ (n : ℕ). take n h) (sym (start_later g lt)) ∙ front ∙ front_later g lt),
)

pub front_long : (c : List ℕ) (g s : ℕ) → s ≡ start_of g → take s c ≡ front_of g → s ≤ length c
front_long c g s is front = elim (cases_lt 0 g) [
  | inl lt ↦ (let same : s ≡ 9 = is ∙ start_later g lt in let long = nine c g (ap (λ (n : ℕ). take n c) (sym same) ∙ front ∙ front_later g lt) in omega (arith, same, long))
  | inr le ↦ (let none : g ≡ 0 = omega (arith, le) in let zero_s : s ≡ 0 = is ∙ start_none g none in omega (arith, zero_s))
]

pub front_generation : (c : List ℕ) (g s : ℕ) → g < 2 ^ 64 → 0 < g → s ≡ start_of g → take s c ≡ front_of g → generation_of c ≡ g
front_generation c g s small lt is front = read_head c g small (ap (λ (n : ℕ). take n c) (sym (start_later g lt) ∙ sym is) ∙ front ∙ front_later g lt)

-- the journal of two files is that of the live one
pub live_journal : (second : Bool) (x y : List ℕ) (g s : ℕ) → generation_of x ≡ g → s ≡ start_of g → IsOlder second (generation_of y) g → in_order second pair_journal x y ≡ drop s x
live_journal true x y g s is start older =
    ap (λ (b : Bool). if b then journal_of y else journal_of x) (lt-leb (generation_of x) (generation_of y) (omega (arith, is, older)))
    ∙ ap (λ (n : ℕ). drop (start_of n) x) is ∙ ap (λ (n : ℕ). drop n x) (sym start)
live_journal false x y g s is start older =
    ap (λ (b : Bool). if b then journal_of x else journal_of y) (le-leb (generation_of y) (generation_of x) (omega (arith, is, older)))
    ∙ ap (λ (n : ℕ). drop (start_of n) x) is ∙ ap (λ (n : ℕ). drop n x) (sym start)

-- the same, where the other file has the next generation
pub next_journal : (second : Bool) (x y : List ℕ) (g : ℕ) → generation_of x ≡ g → generation_of y ≡ g + 1 → in_order second pair_journal x y ≡ drop 9 y
next_journal true x y g is next =
    ap (λ (b : Bool). if b then journal_of y else journal_of x) (le-leb (generation_of x) (generation_of y) (omega (arith, is, next)))
    ∙ ap (λ (n : ℕ). drop (start_of n) y) next ∙ ap (λ (n : ℕ). drop n y) (start_later (g + 1) (omega arith))
next_journal false x y g is next =
    ap (λ (b : Bool). if b then journal_of x else journal_of y) (lt-leb (generation_of y) (generation_of x) (omega (arith, is, next)))
    ∙ ap (λ (n : ℕ). drop (start_of n) y) next ∙ ap (λ (n : ℕ). drop n y) (start_later (g + 1) (omega arith))

-- a write of the first byte leaves the head or none
pub first_torn : (P : List ℕ → Type 0) (d c : List ℕ) → P d → 9 ≤ length d → get_or d 0 0 ≡ 2 → Torn 0 1 d c → KeepsGeneration P c
first_torn P d c was long two torn = elim (cases_eq (get_or c 0 0) 2) [
  | inl is ↦ inr (d, was, same_head c d (omega (arith, long, torn.no_shorter)) long (front c d (omega (arith, long, torn.no_shorter)) long (is ∙ sym two) torn.after))
  | inr ne ↦ inl (none_other c ne)
]
  where
    front : (c d : List ℕ) → 9 ≤ length c → 9 ≤ length d → get_or c 0 0 ≡ get_or d 0 0 → drop 1 c ≡ drop 1 d → take 9 c ≡ take 9 d
    front [] d long long' first rest = absurd (omega (arith, long))
    front (a ∷ c) [] long long' first rest = absurd (omega (arith, long'))
    front (a ∷ c) (b ∷ d) long long' first rest = ap (λ (l : List ℕ). take 9 (a ∷ l)) rest ∙ ap (λ (x : ℕ). take 9 (x ∷ d)) first

-- the same first byte
pub same_first : (n : ℕ) (c d : List ℕ) → 0 < n → take n c ≡ take n d → get_or c 0 0 ≡ get_or d 0 0
same_first n c d some same = sym (get_or-take n c 0 0 some) ∙ ap (λ (l : List ℕ). get_or l 0 0) same ∙ get_or-take n d 0 0 some

-- a cut behind a first byte other than 2, or in a short file, leaves no head
pub cut_none : (d c : List ℕ) → (length d < 9) ⊎ (get_or d 0 0 ≢ 2) → Shortened 1 d c → generation_of c ≡ 0
cut_none d c (inl short) cut = none_short c (omega (arith, short, cut.no_longer))
cut_none d c (inr ne) cut = none_other c (λ is. ne (sym (same_first 1 c d (omega arith) cut.front) ∙ is))

-- a write behind the first byte leaves this
pub torn_none : (n : ℕ) (d c : List ℕ) → d ≡ 0 ∷ [] → Torn 1 n d c → generation_of c ≡ 0
torn_none n d c is torn = none_other c (λ two. (let first = same_first 1 c d (omega arith) torn.before in let zero_d : get_or d 0 0 ≡ 0 = ap (λ (l : List ℕ). get_or l 0 0) is in omega (arith, first, zero_d, two)))

pub torn_short : (d c : List ℕ) → length d ≤ 1 → Torn 0 1 d c → generation_of c ≡ 0
torn_short d c short torn = none_short c (omega (arith, short, torn.no_longer))

-- a write of the first byte before these leaves the whole head or none
pub torn_live : (bytes d c : List ℕ) → d ≡ 0 ∷ bytes → Torn 0 1 d c → (generation_of c ≡ 0) ⊎ (c ≡ 2 ∷ bytes)
torn_live bytes d [] is torn = absurd (omega (arith, ap length is, torn.no_shorter))
torn_live bytes d (z ∷ c) is torn = elim (cases_eq z 2) [
  | inl two ↦ inr (ap (λ (x : ℕ). x ∷ c) two ∙ ap (λ (l : List ℕ). 2 ∷ l) (torn.after ∙ ap (λ (l : List ℕ). drop 1 l) is))
  | inr ne ↦ inl (none_other (z ∷ c) ne)
]

-- what keeps a generation of some keeps one of more
pub keeps_more : (P Q : List ℕ → Type 0) (c : List ℕ) → ((d : List ℕ) → P d → Q d) → KeepsGeneration P c → KeepsGeneration Q c
keeps_more P Q c more (inl none) = inl none
keeps_more P Q c more (inr was) = inr (was.0, more was.0 was.1, was.2)
