use Rattle.std.proofs.Common.{◌≡◌, ◌<◌, ℕ, ◌+◌, ◌-◌, ◌/◌, ◌%◌, ◌++◌, ◌∷◌, [], ap, ◌∙◌, sym, arith, refl, append_assoc, append-nil}
use Rattle.field_laws.specs.Bytes.{low_bytes}
use Rattle.field_laws.proofs.Spelling.{low_bytes-step}
use Rattle.field_laws.proofs.element.Field.put.Goals as goal

pub loop-i-preserved : goal.loop-i-preserved
loop-i-preserved g c =
    let width : ℕ = g.Self.Field.WIDTH in
    let rest : ℕ = c.loop-i.rest in
    let more : c.loop-i._i < width = omega (arith, c.loop-i-test.true, c.WIDTH-i-end.ensures) in
    record {
      bytes = ap (λ l. l ++ low_bytes (width - (c.loop-i._i + 1)) (rest / 256)) c.push_reserved.ensures.items
          ∙ append_assoc c.loop-i.out.items (rest % 256 ∷ []) (low_bytes (width - (c.loop-i._i + 1)) (rest / 256))
          ∙ ap (λ n. c.loop-i.out.items ++ (rest % 256 ∷ low_bytes n (rest / 256))) (let e : width - (c.loop-i._i + 1) ≡ width - c.loop-i._i - 1 = omega arith in e)
          ∙ ap (λ l. c.loop-i.out.items ++ l) (sym (low_bytes-step (width - c.loop-i._i) rest (omega (arith, more))))
          ∙ c.loop-i.invariant.bytes;
      room = omega (arith, more, c.push_reserved.ensures.len, c.push_reserved.ensures.capacity, c.loop-i.invariant.room);
      capacity = omega (arith, c.push_reserved.ensures.capacity, c.loop-i.invariant.capacity);
    }

pub push_reserved-requires : goal.push_reserved-requires
push_reserved-requires g c =
    omega (arith, c.loop-i-test.true, c.WIDTH-i-end.ensures, c.loop-i.invariant.room)

pub returns : goal.returns
unfolding low_bytes
returns g c =
    let width : ℕ = g.Self.Field.WIDTH in
    let done : width - c.loop-i._i ≡ 0 = omega (arith, c.loop-i-test.false, c.WIDTH-i-end.ensures) in
    record {
      ok = sym (append-nil c.loop-i.out.items) ∙ ap (λ n. c.loop-i.out.items ++ low_bytes n c.loop-i.rest) (sym done) ∙ c.loop-i.invariant.bytes
          ∙ ap (λ l. l ++ low_bytes width (g.Self.Field.number c.args.self)) c.reserve.ensures.items;
      err = tt;
      succeeds = λ room. refl;
      capacity = omega (arith, c.reserve.ensures.capacity, c.loop-i.invariant.capacity);
    }
