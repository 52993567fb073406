-- The toy function keeps the laws.
use Rattle.std.proofs.Common.{◌≡◌, ℕ, ◌+◌, ◌-◌, ◌%◌, ◌<◌, List, [], ◌∷◌, length, Bool, true, false, Option, Some, None, sym, ap, ◌∙◌, refl, arith, subst, lit≤}
use Rattle.std.specs.Prelude.{nat_lt, ◌&&◌}
use Rattle.std.specs.Option.{option_and_then}
use Rattle.std.proofs.lemmas.Bool.{and_parts}
use Rattle.std.proofs.lemmas.Bool.Decides.{nat_tests}
use Rattle.std.proofs.lemmas.List.{append-nil}
use Rattle.field_laws.specs.Bytes.{low_bytes}
use Rattle.field_laws.specs.Vector.{add_each}
use Rattle.field_laws.proofs.Spelling.{length-low_bytes}
use Rattle.vdaf_api.specs.declared.toy.TheConstants.{LIMIT, MODULUS}
use Rattle.vdaf_api.specs.Functions.{Parts}
use Rattle.vdaf_api.specs.Vectors.{when, vector, spelled, IsOut, Below, plus, SpaceLaws, numbers_in}
use Rattle.vdaf_api.specs.Verdict.{opened, verdict, numbers_of, ok}
use Rattle.vdaf_api.specs.Promises.{FunctionLaws, PartsAreShort}
use Rattle.vdaf_api.specs.Toy.{toy_space, is_empty, is_toy, some_vector, toy_helper, toy_leader, toy_value, toy_parts, toy_shard, is_toy_half, toy_share, toy_combine, toy_finish, toy_out, toy_encoding, toy_functions}
use Rattle.vdaf_api.specs.VectorLaws.{when-some}
use Rattle.vdaf_api.specs.SumLaws.{vector-spelled, vector-plus}
use Rattle.vdaf_api.specs.VerdictLaws.{verdict-ok}

pub toy_space_laws : SpaceLaws toy_space
toy_space_laws = record { some_number = lit≤ tt; some_byte = lit≤ tt; few_bytes = lit≤ tt; room = lit≤ tt; some_entry = lit≤ tt; few_entries = lit≤ tt }

one_spelled : (x : ℕ) → spelled 8 (x ∷ []) ≡ low_bytes 8 x
unfolding spelled
one_spelled x = append-nil (low_bytes 8 x)

toy_vector : (x : ℕ) → x < MODULUS → vector toy_space (low_bytes 8 x) ≡ Some (x ∷ [])
unfolding Below
toy_vector x h = ap (vector toy_space) (sym (one_spelled x)) ∙ vector-spelled toy_space_laws (x ∷ []) refl (h, tt)

toy_is : (x : ℕ) → x < MODULUS → is_toy (low_bytes 8 x) ≡ true
unfolding is_toy
toy_is x h = ap some_vector (toy_vector x h)

toy-out : (bytes : List ℕ) → is_toy bytes ≡ true → IsOut toy_space bytes
unfolding is_toy
toy-out bytes e = go (vector toy_space bytes) refl
  where
    go : (o : Option (List ℕ)) → vector toy_space bytes ≡ o → IsOut toy_space bytes
    go (Some xs) h = (xs, h)
    go None h = absurd (let k : some_vector (vector toy_space bytes) ≡ some_vector None = ap some_vector h in let m : true ≡ false = sym e ∙ k in cc)

sum_is : (m h : ℕ) → m < LIMIT → h < MODULUS → ((m + (MODULUS - h)) % MODULUS + h) % MODULUS ≡ m
sum_is m h small low = omega arith

one_sum : (l h : ℕ) → add_each MODULUS (l ∷ []) (h ∷ []) ≡ (l + h) % MODULUS ∷ []
one_sum l h = refl

some_is : {A : Type 0} (x y : A) → Some x ≡ Some y → x ≡ y
some_is x y e = cc

-- the number of a measurement is below the limit
value-small : (ms : List ℕ) (m : ℕ) → toy_value ms ≡ Some m → m < LIMIT
value-small [] m e = absurd (cc)
value-small (x ∷ (y ∷ ms)) m e = absurd (cc)
value-small (x ∷ []) m e =
    let k = when-some (nat_lt x LIMIT) (Some x) m e in
    let t : nat_lt x LIMIT ≡ true = k.0 in
    let small : x < LIMIT = grind (arith, nat_tests) in
    subst (λ n. n < LIMIT) (some_is x m k.1) small

-- what comes of a measurement comes of its number
record Valued {A : Type 0} (ms : List ℕ) (f : ℕ → A) (a : A) : Type 0 where
  m : ℕ
  value : toy_value ms ≡ Some m
  small : m < LIMIT
  is : a ≡ f m

valued : {A : Type 0} (ms : List ℕ) (f : ℕ → A) (a : A) → option_and_then (λ m. Some (f m)) (toy_value ms) ≡ Some a → Valued ms f a
valued {A} ms f a e = go (toy_value ms) refl e
  where
    go : (o : Option ℕ) → toy_value ms ≡ o → option_and_then (λ m. Some (f m)) o ≡ Some a → Valued ms f a
    go (Some m) h e = record { m = m; value = h; small = value-small ms m h; is = sym (some_is (f m) a e) }
    go None h e = absurd (cc)

abbrev Made : List ℕ → List ℕ → Parts → Type 0
Made ms seed p = Valued ms (λ m. toy_parts m seed) p

made : (id ms seed : List ℕ) (p : Parts) → toy_shard id ms seed ≡ Some p → Made ms seed p
unfolding toy_shard
made id ms seed p e = valued ms (λ m. toy_parts m seed) p e

pub is_toy-decides : (bytes : List ℕ) (t : Bool) → (t ≡ true → IsOut toy_space bytes) → (IsOut toy_space bytes → t ≡ true) → t ≡ is_toy bytes
unfolding is_toy
is_toy-decides bytes t to from = go (vector toy_space bytes) t refl refl
  where
    go : (o : Option (List ℕ)) (u : Bool) → vector toy_space bytes ≡ o → t ≡ u → u ≡ some_vector o
    go (Some xs) true h e = refl
    go (Some xs) false h e = absurd (let k : t ≡ true = from (xs, h) in cc)
    go None false h e = refl
    go None true h e = absurd (let k = to e in let m : Some k.0 ≡ None = sym k.1 ∙ h in cc)

pub ruleset toy_tests = (is_toy-decides)

honest_toy : (key id ms seed : List ℕ) (p : Parts) → Made ms seed p → numbers_of toy_functions (verdict toy_functions (opened key id p)) ≡ toy_encoding ms
unfolding is_toy_half toy_share toy_combine toy_out toy_finish toy_encoding
honest_toy key id ms seed p k =
    let m : ℕ = k.m in
    let h : ℕ = toy_helper seed in
    let l : ℕ = toy_leader m seed in
    let hl : l < MODULUS = omega arith in
    let hh : h < MODULUS = omega arith in
    let il : is_toy (low_bytes 8 l) ≡ true = toy_is l hl in
    let ih : is_toy (low_bytes 8 h) ≡ true = toy_is h hh in
    let q : Parts = record { public = []; leader = low_bytes 8 l; helper = low_bytes 8 h } in
    let small : m < LIMIT = k.small in
    let is_ok : verdict toy_functions (opened key id q) ≡ ok (low_bytes 8 l) (low_bytes 8 h) =
    verdict-ok toy_functions key id q [] [] [] (low_bytes 8 l) (low_bytes 8 h) (ap (λ t. when t (Some [])) il) (ap (λ t. when t (Some [])) ih) refl
    (ap (λ t. when t (Some (low_bytes 8 l))) il) (ap (λ t. when t (Some (low_bytes 8 h))) ih) in
    let sum : vector toy_space (plus toy_space (low_bytes 8 l) (low_bytes 8 h)) ≡ Some (add_each MODULUS (l ∷ []) (h ∷ [])) =
    vector-plus toy_space_laws (low_bytes 8 l) (low_bytes 8 h) (l ∷ []) (h ∷ []) (toy_vector l hl) (toy_vector h hh) in
    ap (λ p. numbers_of toy_functions (verdict toy_functions (opened key id p))) k.is
    ∙ ap (numbers_of toy_functions) is_ok ∙ ap (λ o. Some (numbers_in o)) sum ∙ ap Some (one_sum l h ∙ ap (λ n. n ∷ []) (sum_is m h small hh))
    ∙ sym (ap (option_and_then (λ m. Some (m ∷ []))) k.value)

pub toy_laws : FunctionLaws toy_functions
unfolding is_toy_half toy_share toy_combine toy_out toy_finish toy_encoding Below
toy_laws = record {
  space = toy_space_laws;
  parts = λ id ms seed p e. let k : Made ms seed p = made id ms seed p e in subst PartsAreShort (sym k.is) (record { public = lit≤ tt; leader = omega (arith, length-low_bytes 8 (toy_leader k.m seed)); helper = omega (arith, length-low_bytes 8 (toy_helper seed)) });
  share = λ role key id public input share e. let k = when-some (is_empty public && is_toy input) (Some []) share e in let s : Some [] ≡ Some share = k.1 in let is : [] ≡ share = cc in omega (arith, ap length (sym is));
  halves = λ role key id public input share e. (when-some (is_empty public && is_toy input) (Some []) share e).0;
  shares = λ leader helper message e. (when-some (is_empty leader && is_empty helper) (Some []) message e).0;
  message = λ leader helper message e. let k = when-some (is_empty leader && is_empty helper) (Some []) message e in let s : Some [] ≡ Some message = k.1 in let is : [] ≡ message = cc in omega (arith, ap length (sym is));
  out = λ role key id public input message out e.
      let k = when-some (is_empty public && is_toy input) (toy_finish input message) out e in
      let n = when-some (is_empty message) (Some input) out k.1 in
      let s : Some input ≡ Some out = n.1 in
      let is : input ≡ out = cc in
      subst (IsOut toy_space) is (toy-out input (and_parts (is_empty public) (is_toy input) k.0).1);
  encoding = λ ms v e.
      let k : Valued ms (λ m. m ∷ []) v = valued ms (λ m. m ∷ []) v e in
      let small : k.m < MODULUS = omega (arith, k.small) in
      subst (λ v. (length v ≡ 1) × Below MODULUS v) (sym k.is) (refl, (small, tt));
  measured = λ id ms seed p hi hs e. let k : Made ms seed p = made id ms seed p e in (k.m ∷ [], ap (option_and_then (λ m. Some (m ∷ []))) k.value);
  honest = λ key id ms seed p hk hi hs e fair. honest_toy key id ms seed p (made id ms seed p e);
}
