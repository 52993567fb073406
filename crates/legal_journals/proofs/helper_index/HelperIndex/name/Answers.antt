use Rattle.std.proofs.Common.{◌∙◌, ap}
use Rattle.legal_journals.specs.History.{first}
use Rattle.legal_journals.specs.Finished.{name_under}
use Rattle.legal_journals.proofs.helper_index.HelperIndex.name.Goals as goal

pub returns : goal.returns
returns c records h = c.get.ensures ∙ h.names c.job_key.result ∙ ap (λ j. first (name_under j) records) c.job_key.ensures
