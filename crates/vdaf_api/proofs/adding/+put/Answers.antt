use Rattle.std.proofs.Common.{◌≡◌, ◌-◌, ◌<◌, ◌/◌, ◌%◌, ℕ, refl, ap, sym, ◌∙◌, List, [], ◌∷◌, ◌++◌, length, arith, slice_set}
use Rattle.field_laws.specs.Bytes.{low_bytes}
use Rattle.vdaf_api.proofs.FirstNumbers.{low_bytes-none}
use Rattle.field_laws.proofs.Spelling.{low_bytes-step}
use Rattle.vdaf_api.proofs.adding.+put.Goals as goal

set_one : (xs : List ℕ) (v : ℕ) → length xs ≡ 1 → slice_set xs 0 v ≡ v ∷ []
set_one [] v e = absurd (omega arith)
set_one (x ∷ []) v e = refl
set_one (x ∷ (y ∷ xs)) v e = absurd (omega arith)

empty_is : (xs : List ℕ) (v : ℕ) → length xs ≡ 0 → xs ≡ low_bytes (length xs) v
empty_is [] v e = sym (low_bytes-none v)
empty_is (x ∷ xs) v e = absurd (omega arith)

pub returns-then-out-gt0 : goal.returns-then-out-gt0
returns-then-out-gt0 t c =
    let first = c.split_at_mut-first.result.0.now in
    let len : length first ≡ 1 = omega (arith, c.split_at_mut-first.ensures.front_len) in
    let rest : length c.split_at_mut-first.result.1.now ≡ length c.args.out.now - 1 = omega (arith, c.split_at_mut-first.ensures.back_len) in
    let has : 0 < length c.args.out.now = omega arith in
    ap (λ l. l ++ c.put.new.out) (set_one first (c.args.value % 256) len)
    ∙ ap (λ l. c.args.value % 256 ∷ l) (c.put.ensures ∙ ap (λ n. low_bytes n (c.args.value / 256)) rest)
    ∙ sym (low_bytes-step (length c.args.out.now) c.args.value has)

pub returns-else-out-gt0 : goal.returns-else-out-gt0
returns-else-out-gt0 t c = empty_is c.args.out.now c.args.value (omega arith)
