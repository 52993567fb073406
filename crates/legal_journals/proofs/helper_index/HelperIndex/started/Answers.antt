use Rattle.std.proofs.Common.{◌∙◌, ap}
use Rattle.legal_journals.specs.LaneTests.{starts_job}
use Rattle.legal_journals.specs.Places.{place_of}
use Rattle.legal_journals.proofs.helper_index.HelperIndex.started.Goals as goal

pub returns : goal.returns
returns c records h = c.get.ensures ∙ h.started c.job_key.result ∙ ap (λ j. place_of (starts_job j) records) c.job_key.ensures
