use Rattle.std.proofs.Common.{sym, ◌∙◌}
use Rattle.prio3_share.specs.Preparing.{combine}
use Rattle.prio3_share.proofs.Fields.{base}
use Rattle.prio3_prep.proofs.Answering.{prepares}
use Rattle.prio3_prep.proofs.Formed.{no_message}
use Rattle.prio3_prep.proofs.joining.combine.Goals as goal

pub returns-then-not-are_shares : goal.returns-then-not-are_shares
returns-then-not-are_shares g c =
    no_message (base g.C.F.Field) (g.C.Circuit.shape c.args.c.now) c.args.kind c.args.leader.now c.args.helper.now (sym (c.are_shares.ensures c.args.kind) ∙ c.if-not-are_shares.true)

pub returns : goal.returns
returns g c =
    prepares c.join.result (combine (base g.C.F.Field) (g.C.Circuit.shape c.args.c.now) c.args.kind c.args.leader.now c.args.helper.now) _
    (sym (c.are_shares.ensures c.args.kind) ∙ c.if-not-are_shares.false) c.join.ensures
