-- The index of a helper lane's records.
use Rattle.std.specs.Prelude.{◌≡◌, List}
use Rattle.lane_records.specs.declared.record.Record.{Record}
use Rattle.legal_journals.specs.History.{first}
use Rattle.legal_journals.specs.LaneTests.{starts_job, commits_job, helper_closes}
use Rattle.legal_journals.specs.declared.helper_index.HelperIndex.{HelperIndex}
use Rattle.legal_journals.specs.Finished.{name_under, finished_place}
use Rattle.legal_journals.specs.Places.{HasPlaces, AreOpens}
use Rattle.legal_journals.specs.Tables.{at}
use Rattle.legal_journals.specs.Reports.{Report, Job, job_of, report_order, job_order, batch_order}

-- the index is that of these records, the oldest first
pub record HelperIndexes (index : HelperIndex) (records : List Record) : Type 0 where
  pub opens : AreOpens index.opens records
  pub started : HasPlaces job_order (λ q. starts_job (job_of q)) index.started records
  pub names : (q : Job) → at job_order q index.names ≡ first (name_under (job_of q)) records
  pub committed : HasPlaces job_order (λ q. commits_job (job_of q)) index.committed records
  pub finished : (q : Report) → at report_order q index.finished ≡ finished_place q records
  pub closed : HasPlaces batch_order (λ q. helper_closes q.0 q.1) index.closed records
