-- Lemmas: the bounds of a histogram keep the laws of grammars.
use Rattle.std.proofs.Common.{◌≡◌, ℕ, zero, suc, ◌+◌, ◌*◌, ◌≤◌, Bool, true, false, ◌&&◌, List, [], ◌∷◌, ◌++◌, length, Option, Some, None, Ok, refl, sym, ap, subst, ◌∙◌, append_assoc, arith, lit≤}
use Rattle.std.specs.Prelude.{nat_le}
use Rattle.std.specs.Int.{w64, to_be_bytes}
use Rattle.std.proofs.lemmas.Bool.{leb-true}
use Rattle.std.proofs.lemmas.List.{length-append}
use Rattle.std.proofs.lemmas.List.Concat.{flat_map-cons}
use Rattle.dap_bytes.specs.Cursor.{Reading, rest_of}
use Rattle.vdaf_api.specs.declared.kind.TheConstants.{MOST_BOUNDS}
use Rattle.dap_messages.specs.Grammar.{Grammar, ◌>>=◌}
use Rattle.dap_messages.specs.Lawful.{Lawful, IsInput, Takes, further}
use Rattle.dap_messages.specs.Laws.{Takes-then, Takes-nothing, input_stays, further-then, rest_further, bind_ok, done, ok_is, and_parts, both_true, byte_lawful}
use Rattle.dap_messages.specs.Forms.{any_u64}
use Rattle.dap_messages.specs.FormLaws.{u16_lawful, u64_lawful}
use Rattle.lane_records.specs.declared.bounds.TheConstants.{MOST_OLD_BOUNDS}
use Rattle.lane_records.specs.declared.format.Format.{Format}
use Rattle.lane_records.specs.declared.format.Format.TheVariants.{One, Two}
use Rattle.lane_records.specs.Bounds.{passed, restricted, is_over, bound, bounds_at, spell_bounds, allowed_bounds, bound_count, bounds}

passed_ok : {A : Type 0} (at : ℕ) (holds : Bool) (x y : A × Reading) → passed at holds x ≡ Ok y → (holds ≡ true) × (x ≡ y)
passed_ok at true x y e = (refl, ok_is x y e)
passed_ok at false x y e = absurd cc

pub restricted_lawful : {A : Type 0} (test : A → Bool) (g : Grammar A) → Lawful g → Lawful (restricted test g)
restricted_lawful {A} test g lg = record {
  takes = λ r x s i e.
      let a = bind_ok (g.read r) (λ y. passed r.place (test y.0) y) (x, s) e in
      let p = passed_ok r.place (test a.0.0) a.0 (x, s) a.2 in
      let first = lg.takes r a.0.0 a.0.1 i a.1 in
      subst (λ (q : A × Reading). Takes r (g.spell q.0) q.1 × ((g.allowed q.0 && test q.0) ≡ true)) p.1
      (first.0, both_true (g.allowed a.0.0) (test a.0.0) first.1 p.0);
  again = λ x r rest a e.
      let parts = and_parts (g.allowed x) (test x) a in
      rw (lg.again x r rest parts.0 e, parts.1) refl;
  within = λ x a. lg.within x (and_parts (g.allowed x) (test x) a).0;
}

pub bound_lawful : (last : Option ℕ) → Lawful (bound last)
bound_lawful last = restricted_lawful (is_over last) any_u64 (u64_lawful 0 18446744073709551615 (lit≤ tt))

bounds_take : (n : ℕ) (last : Option ℕ) (r : Reading) (xs : List ℕ) (s : Reading) → IsInput r → bounds_at last n r ≡ Ok (xs, s)
    → Takes r (spell_bounds xs) s × (length xs ≡ n) × (allowed_bounds last xs ≡ true)
bounds_take zero last r xs s i e =
    let made : List ℕ × Reading = ([], r) in
    subst (λ (q : List ℕ × Reading). Takes r (spell_bounds q.0) q.1 × (length q.0 ≡ 0) × (allowed_bounds last q.0 ≡ true)) (ok_is made (xs, s) e) (Takes-nothing r, refl, refl)
bounds_take (suc n) last r xs s i e =
    let a = bind_ok ((bound last).read r) (λ x. bounds_at (Some x.0) n x.1 >>= λ more. Ok (x.0 ∷ more.0, more.1)) (xs, s) e in
    let b = bind_ok (bounds_at (Some a.0.0) n a.0.1) (λ more. Ok (a.0.0 ∷ more.0, more.1)) (xs, s) a.2 in
    let first = (bound_lawful last).takes r a.0.0 a.0.1 i a.1 in
    let second = bounds_take n (Some a.0.0) a.0.1 b.0.0 b.0.1 (input_stays r (to_be_bytes w64 a.0.0) a.0.1 i first.0) b.1 in
    let both = Takes-then r (to_be_bytes w64 a.0.0) a.0.1 (spell_bounds b.0.0) b.0.1 first.0 second.0 in
    let made : List ℕ × Reading = (a.0.0 ∷ b.0.0, b.0.1) in
    let spelled : spell_bounds (a.0.0 ∷ b.0.0) ≡ to_be_bytes w64 a.0.0 ++ spell_bounds b.0.0 = flat_map-cons (to_be_bytes w64) a.0.0 b.0.0 in
    subst (λ (q : List ℕ × Reading). Takes r (spell_bounds q.0) q.1 × (length q.0 ≡ suc n) × (allowed_bounds last q.0 ≡ true)) (ok_is made (xs, s) b.2)
    (subst (λ (t : List ℕ). Takes r t b.0.1) (sym spelled) both, ap suc second.1, both_true ((bound last).allowed a.0.0) (allowed_bounds (Some a.0.0) b.0.0) first.1 second.2)

bounds_again : (xs : List ℕ) (last : Option ℕ) (r : Reading) (rest : List ℕ) → allowed_bounds last xs ≡ true → rest_of r ≡ spell_bounds xs ++ rest
    → bounds_at last (length xs) r ≡ Ok (xs, further (length (spell_bounds xs)) r)
bounds_again [] last r rest a e = ap (λ (p : Reading). let z : List ℕ × Reading = ([], p) in done z) (Takes-nothing r).moved
bounds_again (x ∷ xs) last r rest a e =
    let parts = and_parts ((bound last).allowed x) (allowed_bounds (Some x) xs) a in
    let one : List ℕ = to_be_bytes w64 x in
    let cons_is : spell_bounds (x ∷ xs) ≡ one ++ spell_bounds xs = flat_map-cons (to_be_bytes w64) x xs in
    let whole_is : rest_of r ≡ one ++ (spell_bounds xs ++ rest) = e ∙ ap (λ (t : List ℕ). t ++ rest) cons_is ∙ append_assoc one (spell_bounds xs) rest in
    let first = (bound_lawful last).again x r (spell_bounds xs ++ rest) parts.0 whole_is in
    let second = bounds_again xs (Some x) (further (length one) r) rest parts.1 (rest_further r one (spell_bounds xs ++ rest) whole_is) in
    let end_is : further (length (spell_bounds xs)) (further (length one) r) ≡ further (length (spell_bounds (x ∷ xs))) r =
    further-then r one (spell_bounds xs) ∙ ap (λ (t : List ℕ). further (length t) r) (sym cons_is) in
    rw (first, second) (ap (λ (p : Reading). let z : List ℕ × Reading = (x ∷ xs, p) in done z) end_is)

bounds_within : (xs : List ℕ) → length (spell_bounds xs) ≡ length xs * 8
bounds_within [] = omega arith
bounds_within (x ∷ xs) =
    let cons_is : length (spell_bounds (x ∷ xs)) ≡ 8 + length (spell_bounds xs) = ap (λ (t : List ℕ). length t) (flat_map-cons (to_be_bytes w64) x xs) ∙ length-append (to_be_bytes w64 x) (spell_bounds xs) in
    omega (arith, cons_is, bounds_within xs)

pub bound_count_lawful : (f : Format) → Lawful (bound_count f)
bound_count_lawful One = byte_lawful 1 MOST_OLD_BOUNDS
bound_count_lawful Two = u16_lawful 1 MOST_BOUNDS (lit≤ tt)

-- no format has more bounds than a histogram
pub few_bounds : (f : Format) (n : ℕ) → (bound_count f).allowed n ≡ true → n ≤ MOST_BOUNDS
few_bounds One n a = let few = leb-true n MOST_OLD_BOUNDS (and_parts (nat_le 1 n) (nat_le n MOST_OLD_BOUNDS) a).1 in omega (arith, few)
few_bounds Two n a = leb-true n MOST_BOUNDS (and_parts (nat_le 1 n) (nat_le n MOST_BOUNDS) a).1

-- each has one at least
pub some_bounds : (f : Format) (n : ℕ) → (bound_count f).allowed n ≡ true → 1 ≤ n
some_bounds One n a = leb-true 1 n (and_parts (nat_le 1 n) (nat_le n MOST_OLD_BOUNDS) a).0
some_bounds Two n a = leb-true 1 n (and_parts (nat_le 1 n) (nat_le n MOST_BOUNDS) a).0

short_count : (f : Format) (n : ℕ) → length ((bound_count f).spell n) ≤ 2
short_count One n = lit≤ tt
short_count Two n = lit≤ tt

pub bounds_lawful : (f : Format) → Lawful (bounds f)
bounds_lawful f = record {
  takes = λ r xs s i e.
      let a = bind_ok ((bound_count f).read r) (λ n. bounds_at None n.0 n.1) (xs, s) e in
      let first = (bound_count_lawful f).takes r a.0.0 a.0.1 i a.1 in
      let second = bounds_take a.0.0 None a.0.1 xs s (input_stays r ((bound_count f).spell a.0.0) a.0.1 i first.0) a.2 in
      subst (λ (n : ℕ). Takes r ((bound_count f).spell n ++ spell_bounds xs) s × (((bound_count f).allowed n && allowed_bounds None xs) ≡ true)) (sym second.1)
      (Takes-then r ((bound_count f).spell a.0.0) a.0.1 (spell_bounds xs) s first.0 second.0, both_true ((bound_count f).allowed a.0.0) (allowed_bounds None xs) first.1 second.2);
  again = λ xs r rest a e.
      let parts = and_parts ((bound_count f).allowed (length xs)) (allowed_bounds None xs) a in
      let size : List ℕ = (bound_count f).spell (length xs) in
      let whole_is : rest_of r ≡ size ++ (spell_bounds xs ++ rest) = e ∙ append_assoc size (spell_bounds xs) rest in
      let first = (bound_count_lawful f).again (length xs) r (spell_bounds xs ++ rest) parts.0 whole_is in
      let second = bounds_again xs None (further (length size) r) rest parts.1 (rest_further r size (spell_bounds xs ++ rest) whole_is) in
      rw first (second ∙ ap (λ (p : Reading). let z : List ℕ × Reading = (xs, p) in done z) (further-then r size (spell_bounds xs)));
  within = λ xs a.
      let parts = and_parts ((bound_count f).allowed (length xs)) (allowed_bounds None xs) a in
      let few : length xs ≤ MOST_BOUNDS = few_bounds f (length xs) parts.0 in
      omega (arith, few, short_count f (length xs), bounds_within xs, length-append ((bound_count f).spell (length xs)) (spell_bounds xs));
}
