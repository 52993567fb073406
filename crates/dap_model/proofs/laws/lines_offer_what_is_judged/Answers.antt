use Rattle.dap_model.proofs.OfferingLaws.{counts-judged, offered-in_order}
use Rattle.dap_model.proofs.laws.lines_offer_what_is_judged.Goals as goal

pub returns-clause-line : goal.returns-clause-line
returns-clause-line c f state number line = counts-judged f state number line

pub returns-clause-lines : goal.returns-clause-lines
returns-clause-lines c f tasks lines = offered-in_order f tasks lines
