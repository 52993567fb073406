use Rattle.std.proofs.Common.{◌∙◌, append_assoc}
use Rattle.std.proofs.lemmas.Result.{IfOk-weaker}
use Rattle.load_maker.proofs.script.measurement_line.Goals as goal

pub returns : goal.returns
returns c = IfOk-weaker c.format.result _ _
    (λ line e. e ∙ rw (c.in_ok-id.ensures, c.in_ok-drawn.ensures, c.identifier.ensures, c.value-value.ensures) (simp append_assoc))
    c.format.ensures.ok
