use Rattle.std.proofs.Common.{◌∙◌, ap}
use Rattle.legal_journals.specs.Places.{place_of}
use Rattle.legal_journals.specs.LaneTests.{continues_job}
use Rattle.legal_journals.proofs.leader_index.LeaderIndex.job.Goals as goal

pub returns : goal.returns
returns c records h = c.get.ensures ∙ h.jobs c.job_key.result ∙ ap (λ j. place_of (continues_job j) records) c.job_key.ensures
