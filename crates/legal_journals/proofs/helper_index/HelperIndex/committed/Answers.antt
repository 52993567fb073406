use Rattle.std.proofs.Common.{◌∙◌, ap}
use Rattle.legal_journals.specs.LaneTests.{commits_job}
use Rattle.legal_journals.specs.Places.{place_of}
use Rattle.legal_journals.proofs.helper_index.HelperIndex.committed.Goals as goal

pub returns : goal.returns
returns c records h = c.get.ensures ∙ h.committed c.job_key.result ∙ ap (λ j. place_of (commits_job j) records) c.job_key.ensures
