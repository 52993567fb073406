-- The words of a key's schedule, and the keys of the rounds.
use Rattle.std.proofs.Common.{◌≡◌, ℕ, zero, suc, ◌+◌, ◌-◌, ◌*◌, ◌/◌, ◌%◌, ◌<◌, ◌≤◌, ◌==◌, ◌≢◌, cond, inl, inr, set, List, [], ◌∷◌, length, take, drop, refl, ap, sym, subst, ◌∙◌, arith}
use Rattle.std.proofs.lemmas.Bool.{cases_lt, ne_eqb}
use Rattle.std.proofs.lemmas.List.{get_or_append_left, get_or_push, get_or-set_other, get_or-set_same, length_push}
use Rattle.std.specs.List.{concat, slice_index_or}
use Rattle.aes_block.specs.Schedule.{add_bytes, turned, next_word, schedule, word, round_words, round_key}
use Rattle.aes_block.specs.Cipher.{round, rounds}
use Rattle.aes_block.specs.Columns.{bytes_of, words_of, next_words, AreRoundKeys, key_of}

pub length-schedule : (key : List ℕ) (n : ℕ) → length (schedule key n) ≡ 4 + n
unfolding schedule
length-schedule key zero = refl
length-schedule key (suc n) = length_push (schedule key n) (next_word (schedule key n) (4 + n)) ∙ ap (λ m. m + 1) (length-schedule key n) ∙ omega arith

-- a longer schedule begins with a shorter one
schedule_begins : (key : List ℕ) (n more i : ℕ) → i < 4 + n → slice_index_or (schedule key (n + more)) i [] ≡ slice_index_or (schedule key n) i []
unfolding schedule
schedule_begins key n zero i lt = let e : n + 0 ≡ n = omega arith in ap (λ m. slice_index_or (schedule key m) i []) e
schedule_begins key n (suc more) i lt =
    let e : n + suc more ≡ suc (n + more) = omega arith in
    ap (λ m. slice_index_or (schedule key m) i []) e
    ∙ get_or_append_left (schedule key (n + more)) (next_word (schedule key (n + more)) (4 + (n + more)) ∷ []) [] i (omega (arith, length-schedule key (n + more)))
    ∙ schedule_begins key n more i lt

word_is : (key : List ℕ) (n i : ℕ) → n ≤ 40 → i < 4 + n → word key i ≡ slice_index_or (schedule key n) i []
unfolding word
word_is key n i le lt =
    let e : 40 ≡ n + (40 - n) = omega arith in
    ap (λ m. slice_index_or (schedule key m) i []) e ∙ schedule_begins key n (40 - n) i lt

-- a later word, by the two that it is made of: the one before it is word j, and the one four before is word i
word_next : (key : List ℕ) (i j n : ℕ) → n < 40 → i ≡ n → j ≡ 3 + n
    → word key (4 + n) ≡ add_bytes (word key i) (cond ((4 + n) % 4 == 0) (turned (word key j) ((4 + n) / 4)) (word key j))
unfolding schedule
word_next key i j n lt hi hj =
    let ws = schedule key n in
    let made : word key (4 + n) ≡ next_word ws (4 + n) = word_is key (suc n) (4 + n) (omega arith) (omega arith) ∙ get_or_push ws (next_word ws (4 + n)) [] (4 + n) (length-schedule key n) in
    let back : slice_index_or ws (4 + n - 4) [] ≡ word key i = ap (λ m. slice_index_or ws m []) (omega arith) ∙ sym (word_is key n i (omega arith) (omega arith)) in
    let last : slice_index_or ws (4 + n - 1) [] ≡ word key j = ap (λ m. slice_index_or ws m []) (omega arith) ∙ sym (word_is key n j (omega arith) (omega arith)) in
    made ∙ (λ t. add_bytes (back t) (cond ((4 + n) % 4 == 0) (turned (last t) ((4 + n) / 4)) (last t)))

-- the words of a round come from those of the round before
pub round_words_next : (key : List ℕ) (n : ℕ) → n < 10 → next_words (round_words key n) (n + 1) ≡ round_words key (n + 1)
round_words_next key n lt = λ t. sym first t ∷ sym second t ∷ sym third t ∷ sym fourth t ∷ []
  where
    ws : List (List ℕ)
    ws = next_words (round_words key n) (n + 1)

    word_at : (i : ℕ) → List ℕ
    word_at i = slice_index_or ws i []

    first : word key (4 * (n + 1)) ≡ word_at 0
    first =
        let e : 4 * (n + 1) ≡ 4 + 4 * n = omega arith in
        let turns : (4 + 4 * n) % 4 ≡ 0 = omega arith in
        let round : (4 + 4 * n) / 4 ≡ n + 1 = omega arith in
        ap (word key) e ∙ word_next key (4 * n) (4 * n + 3) (4 * n) (omega arith) refl (omega arith)
        ∙ (λ t. add_bytes (word key (4 * n)) (cond (turns t == 0) (turned (word key (4 * n + 3)) (round t)) (word key (4 * n + 3))))

    later : (m : ℕ) → m < 40 → (4 + m) % 4 ≢ 0 → (i j k : ℕ) → k ≡ 4 + m → i ≡ m → j ≡ 3 + m → word key k ≡ add_bytes (word key i) (word key j)
    later m small ne i j k hk hi hj =
        ap (word key) hk ∙ word_next key i j m small hi hj
        ∙ ap (λ b. add_bytes (word key i) (cond b (turned (word key j) ((4 + m) / 4)) (word key j))) (ne_eqb ((4 + m) % 4) 0 ne)

    second : word key (4 * (n + 1) + 1) ≡ word_at 1
    second = later (4 * n + 1) (omega arith) (omega arith) (4 * n + 1) (4 * (n + 1)) (4 * (n + 1) + 1) (omega arith) refl (omega arith) ∙ ap (add_bytes (word key (4 * n + 1))) first

    third : word key (4 * (n + 1) + 2) ≡ word_at 2
    third = later (4 * n + 2) (omega arith) (omega arith) (4 * n + 2) (4 * (n + 1) + 1) (4 * (n + 1) + 2) (omega arith) refl (omega arith) ∙ ap (add_bytes (word key (4 * n + 2))) second

    fourth : word key (4 * (n + 1) + 3) ≡ word_at 3
    fourth = later (4 * n + 3) (omega arith) (omega arith) (4 * n + 3) (4 * (n + 1) + 2) (4 * (n + 1) + 3) (omega arith) refl (omega arith) ∙ ap (add_bytes (word key (4 * n + 3))) third

-- the words of round 0 are those of the key
pub round_words_first : (key ws : List ℕ) → bytes_of ws ≡ key → words_of ws ≡ round_words key 0
unfolding schedule
round_words_first key ws e =
    let word_of = λ (i : ℕ) (lt : i < 4). word_is key 0 i (omega arith) lt in
    (λ t. take 4 (e t) ∷ take 4 (drop 4 (e t)) ∷ take 4 (drop 8 (e t)) ∷ take 4 (drop 12 (e t)) ∷ [])
    ∙ (λ t. sym (word_of 0 (omega arith)) t ∷ sym (word_of 1 (omega arith)) t ∷ sym (word_of 2 (omega arith)) t ∷ sym (word_of 3 (omega arith)) t ∷ [])

round_words_after : (key : List ℕ) (n m : ℕ) → m ≡ n + 1 → n < 10 → next_words (round_words key n) m ≡ round_words key m
round_words_after key n m e lt = subst (λ k. next_words (round_words key n) k ≡ round_words key k) (sym e) (round_words_next key n lt)

-- one more round key
pub AreRoundKeys_more : (key : List ℕ) (n : ℕ) (keys : List (List ℕ)) (next : List ℕ) → 1 ≤ n → n ≤ 10 → n < length keys
    → AreRoundKeys key n keys → words_of next ≡ next_words (words_of (slice_index_or keys (n - 1) [])) n → AreRoundKeys key (n + 1) (set keys n next)
AreRoundKeys_more key n keys next some few fits are made i below =
    elim (cases_lt i n) [
      | inl old ↦ ap words_of (get_or-set_other keys n i next [] (omega arith)) ∙ are i old
      | inr new ↦
          let same : n ≡ i = omega arith in
          subst (λ k. words_of (slice_index_or (set keys n next) k []) ≡ round_words key k) same
          (ap words_of (get_or-set_same keys n next [] fits) ∙ made
          ∙ ap (λ ws. next_words ws n) (are (n - 1) (omega arith)) ∙ round_words_after key (n - 1) n (omega arith) (omega arith))
    ]

pub key_of-bytes : (key : List ℕ) (keys : List (List ℕ)) (i : ℕ) → key_of keys ≡ key → AreRoundKeys (key_of keys) 11 keys → i < 11 → bytes_of (slice_index_or keys i []) ≡ round_key key i
key_of-bytes key keys i e are lt = ap concat (are i lt) ∙ ap (λ k. round_key k i) e

-- one more round
pub rounds_next : (key block : List ℕ) (n : ℕ) → rounds key block (n + 1) ≡ round (rounds key block n) (round_key key (n + 1))
unfolding rounds
rounds_next key block n =
    let next : n + 1 ≡ suc n = omega arith in
    ap (rounds key block) next ∙ ap (λ m. round (rounds key block n) (round_key key m)) (sym next)
