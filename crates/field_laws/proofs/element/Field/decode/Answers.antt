use Rattle.std.proofs.Common.{◌≡◌, ℕ, suc, ◌+◌, ◌-◌, ◌*◌, ◌<◌, ap, ◌∙◌, sym, arith, drop, length}
use Rattle.std.proofs.lemmas.List.{drop_all}
use Rattle.field_laws.specs.Bytes.{low_bytes, from_low}
use Rattle.field_laws.proofs.Modulo.{number-small}
use Rattle.field_laws.proofs.Spelling.{low_bytes-from_low, from_low-step, from_low-fits}
use Rattle.field_laws.proofs.element.Field.decode.Goals as goal
use Rattle.field_laws.proofs.element.Field.decode.Goals.{After-from}

stepped : (g : _) (c : After-from g) → c.loop-left.value * 256 + c.from.result ≡ from_low (drop (c.loop-left.left - 1) c.args.bytes.now)
stepped g c =
    let left : ℕ = c.loop-left.left - 1 in
    let bytes = c.args.bytes.now in
    let here : suc left ≡ c.loop-left.left = omega arith in
    let rest : c.loop-left.value ≡ from_low (drop (suc left) bytes) = c.loop-left.invariant.value ∙ ap (λ k. from_low (drop k bytes)) (sym here) in
    omega (arith, rest, from_low-step bytes left (omega arith), c.from.ensures)

pub loop-left-init : goal.loop-left-init
unfolding from_low
loop-left-init g c = record { within = omega arith; value = sym (ap from_low (drop_all (length c.args.bytes.now) c.args.bytes.now (omega arith))) }

pub overflow_mul-value : goal.overflow_mul-value
overflow_mul-value g c =
    let left : ℕ = c.loop-left.left - 1 in
    let bytes = c.args.bytes.now in
    let here : suc left ≡ c.loop-left.left = omega arith in
    let rest : c.loop-left.value ≡ from_low (drop (suc left) bytes) = c.loop-left.invariant.value ∙ ap (λ k. from_low (drop k bytes)) (sym here) in
    omega (arith, rest, from_low-step bytes left (omega arith), from_low-fits bytes left (omega (arith, g.met.Self.Field.narrow, c.WIDTH.ensures, c.if-bytes-WIDTH.false)) (λ i. omega (arith, c.type_inv.bytes i)))

pub overflow_add-value : goal.overflow_add-value
overflow_add-value g c =
    omega (arith, stepped g c, from_low-fits c.args.bytes.now (c.loop-left.left - 1) (omega (arith, g.met.Self.Field.narrow, c.WIDTH.ensures, c.if-bytes-WIDTH.false)) (λ i. omega (arith, c.type_inv.bytes i)))

pub loop-left-preserved : goal.loop-left-preserved
loop-left-preserved g c = record { within = omega arith; value = stepped g c }

pub returns-then-value-MODULUS : goal.returns-then-value-MODULUS
returns-then-value-MODULUS g c =
    let bytes = c.args.bytes.now in
    let none_left : c.loop-left.left ≡ 0 = omega (arith, c.loop-left-test.false) in
    let value : c.loop-left.value ≡ from_low bytes = c.loop-left.invariant.value ∙ ap (λ k. from_low (drop k bytes)) none_left in
    let small : c.loop-left.value < g.Self.Field.MODULUS = omega (arith, c.if-value-MODULUS.true, c.MODULUS.ensures) in
    ap (low_bytes g.Self.Field.WIDTH) (ap g.Self.Field.number c.of.ensures ∙ number-small g.met.Self.Field.residues c.loop-left.value small ∙ value)
    ∙ ap (λ n. low_bytes n (from_low bytes)) (let e : g.Self.Field.WIDTH ≡ length bytes = omega (arith, c.WIDTH.ensures, c.if-bytes-WIDTH.false) in e)
    ∙ low_bytes-from_low bytes (λ i. omega (arith, c.type_inv.bytes i))
