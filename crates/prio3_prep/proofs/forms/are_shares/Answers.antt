use Rattle.std.proofs.Common.{◌≡◌, ◌&&◌, true, false, ap, sym, ◌∙◌}
use Rattle.prio3_share.specs.Preparing.{is_share}
use Rattle.prio3_share.proofs.Fields.{base}
use Rattle.prio3_prep.proofs.forms.are_shares.Goals as goal

pub returns-then-is_share : goal.returns-then-is_share
returns-then-is_share g c = λ kind.
    let b = base g.C.F.Field in
    let shape = g.C.Circuit.shape c.args.c.now in
    let yes : is_share b shape kind c.args.leader.now ≡ true = sym (c.is_share.ensures kind) ∙ c.if-is_share.true in
    c.is_share-then-is_share.ensures kind ∙ sym (ap (λ t. t && is_share b shape kind c.args.helper.now) yes)

pub returns-else-is_share : goal.returns-else-is_share
returns-else-is_share g c = λ kind.
    let b = base g.C.F.Field in
    let shape = g.C.Circuit.shape c.args.c.now in
    let no : is_share b shape kind c.args.leader.now ≡ false = sym (c.is_share.ensures kind) ∙ c.if-is_share.false in
    c.if-is_share.false ∙ sym (ap (λ t. t && is_share b shape kind c.args.helper.now) no)
