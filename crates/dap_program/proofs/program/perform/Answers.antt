use Rattle.std.proofs.Common.{IfSome, sym, subst}
use Rattle.dap_program.specs.Headline.{outcome_of}
use Rattle.dap_program.specs.Runs.{Ends, status_after}
use Rattle.dap_program.specs.Words.{plain}
use Rattle.dap_program.specs.Work.{work_of}
use Rattle.dap_program.specs.declared.words.Command.{Command}
use Rattle.dap_program.proofs.program.perform.Goals as goal

pub returns-in-Load-clause-ends : goal.returns-in-Load-clause-ends
returns-in-Load-clause-ends g c =
    subst (λ (k : Command). IfSome (work_of (plain k) (g.S.Source.left c.args.script.now) (g.F.Files.contents c.args.files.now))
    (λ work. Ends (status_after c.print_load.result) (g.K.Sink.held c.args.out.now) (g.K.Sink.held c.print_load.new.out) (outcome_of work)))
    (sym c.in-Load.is) c.print_load.ensures.ends
