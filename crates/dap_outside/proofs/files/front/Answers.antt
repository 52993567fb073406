use Rattle.std.proofs.Common.{ap, ◌∙◌, take}
use Rattle.std.proofs.lemmas.List.{take_min}
use Rattle.dap_outside.specs.declared.files.TheConstants.{MAX_READ}
use Rattle.dap_outside.proofs.files.front.Goals as goal

pub returns-clause-front : goal.returns-clause-front
returns-clause-front c = ap (λ n. take n c.args.bytes.now) c.min.ensures ∙ take_min MAX_READ c.args.bytes.now
