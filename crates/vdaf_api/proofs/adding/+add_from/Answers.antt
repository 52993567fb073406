use Rattle.std.proofs.Common.{◌≡◌, ◌+◌, ◌-◌, ◌%◌, ◌<◌, ◌≤◌, ℕ, List, [], ◌∷◌, ◌++◌, Some, length, take, drop, ap, sym, ◌∙◌, arith, length-take}
use Rattle.field_laws.specs.Bytes.{low_bytes, from_low}
use Rattle.vdaf_api.specs.Vectors.{spelled, vector_of, IsVector}
use Rattle.field_laws.specs.Vector.{add_each}
use Rattle.vdaf_api.proofs.FirstNumbers.{FirstOf, first_of, vector-zero_len, spelled-step, spelled-none}
use Rattle.vdaf_api.proofs.adding.+add_from.Goals as goal

long : (p w n : ℕ) (bs : List ℕ) → 0 < n → IsVector p w n bs → w ≤ length bs
long p w n bs h v = let f : FirstOf p w n bs v.0 = first_of p w n bs v.0 h v.1 in let s : length (take w bs) ≡ w = f.size in omega (arith, length-take w bs)

small : (p w n : ℕ) (bs here : List ℕ) → 0 < n → IsVector p w n bs → here ≡ take w bs → from_low here < p
small p w n bs here h v e = let f : FirstOf p w n bs v.0 = first_of p w n bs v.0 h v.1 in let s : from_low here ≡ f.x = ap from_low e ∙ f.value in omega (arith, f.small)

rest : (p w n : ℕ) (bs more : List ℕ) → 0 < n → IsVector p w n bs → more ≡ drop w bs → IsVector p w (n - 1) more
rest p w n bs more h v e = let f : FirstOf p w n bs v.0 = first_of p w n bs v.0 h v.1 in (f.rest, ap (vector_of p w (n - 1)) e ∙ f.more)

pub split_at_mut-here-requires : goal.split_at_mut-here-requires
split_at_mut-here-requires t c = long c.args.p c.args.width c.args.size c.args.total.now c.if-size-gt0.true c.requires.total

pub split_at-requires : goal.split_at-requires
split_at-requires t c = long c.args.p c.args.width c.args.size c.args.out.now c.if-size-gt0.true c.requires.out

pub add_modulo-sum-requires-clause-a : goal.add_modulo-sum-requires-clause-a
add_modulo-sum-requires-clause-a t c =
    let s : from_low c.split_at_mut-here.result.0.now < c.args.p = small c.args.p c.args.width c.args.size c.args.total.now c.split_at_mut-here.result.0.now c.if-size-gt0.true c.requires.total c.split_at_mut-here.ensures.front in
    omega (arith, c.number.ensures)

pub add_modulo-sum-requires-clause-b : goal.add_modulo-sum-requires-clause-b
add_modulo-sum-requires-clause-b t c =
    let s : from_low c.split_at.result.0.now < c.args.p = small c.args.p c.args.width c.args.size c.args.out.now c.split_at.result.0.now c.if-size-gt0.true c.requires.out c.split_at.ensures.front in
    omega (arith, c.number-then-size-gt0.ensures)

pub add_from-requires : goal.add_from-requires
add_from-requires t c = (
  let less : c.args.size - 1 < t = omega (arith, c.decreases) in less,
  (
    c.requires.width,
    (
      rest c.args.p c.args.width c.args.size c.args.total.now c.split_at_mut-here.result.1.now c.if-size-gt0.true c.requires.total c.split_at_mut-here.ensures.back,
      rest c.args.p c.args.width c.args.size c.args.out.now c.split_at.result.1.now c.if-size-gt0.true c.requires.out c.split_at.ensures.back,
    ),
  ),
)

step : (p w n : ℕ) (bytes bs xs ys here theirs new_here new_rest : List ℕ) → 0 < n → vector_of p w n bytes ≡ Some xs → vector_of p w n bs ≡ Some ys
    → here ≡ take w bytes → theirs ≡ take w bs → new_here ≡ low_bytes (length here) ((from_low here + from_low theirs) % p)
    → ((us vs : List ℕ) → vector_of p w (n - 1) (drop w bytes) ≡ Some us → vector_of p w (n - 1) (drop w bs) ≡ Some vs → new_rest ≡ spelled w (add_each p us vs))
    → new_here ++ new_rest ≡ spelled w (add_each p xs ys)
step p w n bytes bs xs ys here theirs new_here new_rest h ea eb e1 e2 e3 more =
    let f : FirstOf p w n bytes xs = first_of p w n bytes xs h ea in
    let g : FirstOf p w n bs ys = first_of p w n bs ys h eb in
    let sum : (from_low here + from_low theirs) % p ≡ (f.x + g.x) % p = ap (λ l. (from_low l + from_low theirs) % p) e1 ∙ ap (λ l. (from_low (take w bytes) + from_low l) % p) e2 ∙ ap (λ a. (a + from_low (take w bs)) % p) f.value ∙ ap (λ a. (f.x + a) % p) g.value in
    let size : length here ≡ w = ap length e1 ∙ f.size in
    ap (λ l. l ++ new_rest) (e3 ∙ ap (λ k. low_bytes k ((from_low here + from_low theirs) % p)) size ∙ ap (low_bytes w) sum)
    ∙ ap (λ l. low_bytes w ((f.x + g.x) % p) ++ l) (more f.rest g.rest f.more g.more)
    ∙ sym (spelled-step p w f.rest g.rest f.x g.x)
    ∙ sym (ap (λ l. spelled w (add_each p l ys)) f.is ∙ ap (λ l. spelled w (add_each p (f.x ∷ f.rest) l)) g.is)

pub returns-then-size-gt0 : goal.returns-then-size-gt0
returns-then-size-gt0 t c xs ys ea eb =
    step c.args.p c.args.width c.args.size c.args.total.now c.args.out.now xs ys c.split_at_mut-here.result.0.now c.split_at.result.0.now c.put.new.out c.add_from.new.total c.if-size-gt0.true ea eb
    c.split_at_mut-here.ensures.front c.split_at.ensures.front
    (c.put.ensures ∙ ap (low_bytes (length c.split_at_mut-here.result.0.now)) (c.add_modulo-sum.ensures ∙ ap (λ a. (a + c.number-then-size-gt0.result) % c.args.p) c.number.ensures ∙ ap (λ a. (from_low c.split_at_mut-here.result.0.now + a) % c.args.p) c.number-then-size-gt0.ensures))
    (λ us vs hu hv. c.add_from.ensures us vs (ap (vector_of c.args.p c.args.width (c.args.size - 1)) c.split_at_mut-here.ensures.back ∙ hu) (ap (vector_of c.args.p c.args.width (c.args.size - 1)) c.split_at.ensures.back ∙ hv))

pub returns-else-size-gt0 : goal.returns-else-size-gt0
returns-else-size-gt0 t c xs ys ea eb =
    let zero : c.args.size ≡ 0 = omega arith in
    let a = vector-zero_len c.args.p c.args.width c.args.total.now xs (ap (λ k. vector_of c.args.p c.args.width k c.args.total.now) (sym zero) ∙ ea) in
    let b = vector-zero_len c.args.p c.args.width c.args.out.now ys (ap (λ k. vector_of c.args.p c.args.width k c.args.out.now) (sym zero) ∙ eb) in
    a.0 ∙ sym (ap (λ l. spelled c.args.width (add_each c.args.p l ys)) a.1 ∙ ap (λ l. spelled c.args.width (add_each c.args.p [] l)) b.1 ∙ spelled-none c.args.p c.args.width)
