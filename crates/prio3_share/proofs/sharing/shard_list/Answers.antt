use Rattle.std.proofs.Common.{◌≡◌, Some, Err, map, ap, sym, ◌∙◌}
use Rattle.std.specs.Option.{option_and_then}
use Rattle.prio3_share.specs.Sharing.{encoding, shard, sharing}
use Rattle.prio3_share.proofs.Fields.{base}
use Rattle.prio3_share.proofs.Sharded.{none-first, shards-input, shards-fault}
use Rattle.prio3_share.proofs.sharing.shard_list.Goals as goal

pub returns-in-Ok : goal.returns-in-Ok
unfolding shard
returns-in-Ok g c =
    let b = base g.C.F.Field in
    let shape = g.C.Circuit.shape c.args.c.now in
    let x = c.deref.result.now in
    let encodes : shape.encode c.args.m.now ≡ Some x = c.in-Ok.ensures.value ∙ ap Some (sym c.deref.ensures.value) in
    rw encodes (shards-input c.shard_input.result (Some (map b.number (shape.truncate x))) (sharing b shape c.args.kind c.args.id.now x c.args.seed.now) (λ none. absurd (cc)) c.shard_input.ensures)

pub returns-in-Err : goal.returns-in-Err
returns-in-Err g c =
    let b = base g.C.F.Field in
    let shape = g.C.Circuit.shape c.args.c.now in
    rw c.of_encode.ensures (shards-fault c.in-Err.fault (encoding b shape c.args.kind c.args.m.now) (shard b shape c.args.kind c.args.id.now c.args.m.now c.args.seed.now)
    (λ bad. ap (option_and_then (λ x. Some (map b.number (shape.truncate x)))) (c.in-Err.ensures.bad_value.0 (ap Err bad)))
    (λ none. (let k = c.in-Err.ensures.bad_value.1 (none-first (shape.encode c.args.m.now) (λ x. map b.number (shape.truncate x)) none) in cc)))
