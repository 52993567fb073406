use Rattle.std.proofs.Common.{◌++◌, ap, ◌∙◌}
use Rattle.std.specs.Fmt.{decimal}
use Rattle.dap_script.proofs.PrintLemmas.{bounds-written}
use Rattle.dap_script.proofs.print.put_bounds.Goals as goal

pub returns : goal.returns
returns c = bounds-written c.args.bounds.now c.args.out.now.items c.loop-bound.out.items c.put_number.new.out.items c.loop-bound.bound-index
    c.in-len1-up.len_at_least c.loop-bound-test.false (c.in_ok-put_number.ensures.ok ∙ ap (λ n. c.args.out.now.items ++ decimal n) c.from.ensures) c.loop-bound.invariant
