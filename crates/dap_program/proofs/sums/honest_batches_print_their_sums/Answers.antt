use Rattle.dap_program.proofs.SumLemmas.{sums-printed}
use Rattle.dap_program.proofs.sums.honest_batches_print_their_sums.Goals as goal

pub returns : goal.returns
returns c file script r before name span behind task measurements are done honest =
    sums-printed file script r before name span behind task measurements are done honest
