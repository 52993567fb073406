use Rattle.dap_agree.proofs.Answered.{shown}
use Rattle.dap_agree.proofs.laws.agreeing_journals_show_their_collections.Goals as goal

pub returns : goal.returns
returns c f js functions legal agree = shown f js functions legal agree
