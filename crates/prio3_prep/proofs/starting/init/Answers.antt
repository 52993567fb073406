use Rattle.std.proofs.Common.{◌≡◌, Some, None, ap, sym, ◌∙◌}
use Rattle.std.specs.Option.{option_and_then}
use Rattle.prio3_share.specs.Preparing.{finish, start}
use Rattle.prio3_share.proofs.Fields.{base}
use Rattle.prio3_prep.proofs.Answering.{starts}
use Rattle.prio3_prep.proofs.Formed.{no_start}
use Rattle.prio3_prep.proofs.starting.init.Goals as goal

pub returns-then-not-is_half : goal.returns-then-not-is_half
returns-then-not-is_half g c =
    let b = base g.C.F.Field in
    let shape = g.C.Circuit.shape c.args.c.now in
    let none : start b shape c.args.kind c.args.role c.args.key.now c.args.id.now c.args.public.now c.args.input.now ≡ None =
    no_start b shape c.args.kind c.args.role c.args.key.now c.args.id.now c.args.public.now c.args.input.now (sym (c.is_half.ensures c.args.kind) ∙ c.if-not-is_half.true) in
    (ap (option_and_then (λ s. Some s.share)) none, λ message. ap (option_and_then (λ s. finish s message)) none)

pub returns : goal.returns
returns g c =
    starts c.begin.result (start (base g.C.F.Field) (g.C.Circuit.shape c.args.c.now) c.args.kind c.args.role c.args.key.now c.args.id.now c.args.public.now c.args.input.now) _
    (sym (c.is_half.ensures c.args.kind) ∙ c.if-not-is_half.false) c.begin.ensures
