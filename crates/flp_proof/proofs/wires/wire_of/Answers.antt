use Rattle.std.proofs.Common.{◌≡◌, ℕ, ◌^◌, ◌++◌, ◌∷◌, [], ap, ◌∙◌, sym, arith, length, map}
use Rattle.std.proofs.lemmas.Nat.{one_shl}
use Rattle.std.specs.List.{range_with_len}
use Rattle.std.proofs.lemmas.List.FromFn.{map-range_with_len_more, length-map-range_with_len}
use Rattle.flp_proof.specs.Proof.{wire_value, interpolated}
use Rattle.flp_proof.proofs.Made.{interpolated_from}
use Rattle.flp_proof.proofs.Folded.{written}
use Rattle.flp_proof.proofs.wires.wire_of.Goals as goal

pub loop-k-preserved : goal.loop-k-preserved
loop-k-preserved g c =
    let f = wire_value g.C.F.Field.ring g.C.F.Field.half_of g.C.F.Field.root_of (g.C.Circuit.shape c.args.c.now) c.args.x.now c.args.seed c.args.j in
    let k : ℕ = c.loop-k.k in
    c.in_ok-push.ensures.items ∙ ap (λ l. l ++ (c.wire_value_at.result ∷ [])) c.loop-k.invariant ∙ ap (λ x. map f (range_with_len 0 k) ++ (x ∷ [])) c.wire_value_at.ensures
    ∙ sym (map-range_with_len_more f 0 k k (omega arith))

pub inverse-requires : goal.inverse-requires
inverse-requires g c =
    let f = wire_value g.C.F.Field.ring g.C.F.Field.half_of g.C.F.Field.root_of (g.C.Circuit.shape c.args.c.now) c.args.x.now c.args.seed c.args.j in
    let whole : c.loop-k.k ≡ 2 ^ c.args.log = omega (arith, one_shl c.args.log 64 (omega arith), c.loop-k-test.false, c.loop-k.auto.k-end) in
    (c.args.log, omega arith, ap length (c.deref_mut.ensures.value ∙ c.loop-k.invariant) ∙ length-map-range_with_len f 0 c.loop-k.k ∙ whole)

pub returns : goal.returns
returns g c =
    let F = g.C.F.Field in
    let met = g.met.C.F.Field in
    let f = wire_value F.ring F.half_of F.root_of (g.C.Circuit.shape c.args.c.now) c.args.x.now c.args.seed c.args.j in
    let log : ℕ = c.args.log in
    let whole : c.loop-k.k ≡ 2 ^ log = omega (arith, one_shl log 64 (omega arith), c.loop-k-test.false, c.loop-k.auto.k-end) in
    let items : c.deref_mut.result.now ≡ map f (range_with_len 0 (2 ^ log)) = c.deref_mut.ensures.value ∙ c.loop-k.invariant ∙ ap (λ n. map f (range_with_len 0 n)) whole in
    let size : length c.deref_mut.result.now ≡ 2 ^ log = ap length items ∙ length-map-range_with_len f 0 (2 ^ log) in
    let kept : length c.inverse.new.values ≡ c.loop-k.values.len = c.inverse.auto.values ∙ ap length c.deref_mut.ensures.value ∙ sym c.loop-k.values.ok.0 in
    written c.inverse.new.values c.loop-k.values.items c.loop-k.values.len kept
    ∙ interpolated_from met.laws F.half_of F.root_of log c.deref_mut.result.now c.inverse.new.values met.halves met.roots (omega arith) size (c.inverse.ensures log size)
    ∙ ap (interpolated F.ring F.half_of F.root_of log) (items ∙ ap (λ l. map f (range_with_len 0 (2 ^ l))) c.requires.log)
