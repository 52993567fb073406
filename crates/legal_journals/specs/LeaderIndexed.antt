-- The index of a leader lane's records.
use Rattle.std.specs.Prelude.{Bool, false, List}
use Rattle.dap_messages.specs.declared.item.Tagged.{Tagged}
use Rattle.lane_records.specs.declared.outcome.Outcome.{Outcome}
use Rattle.lane_records.specs.declared.record.Record.TheVariants.{Continue}
use Rattle.legal_journals.specs.HistoryTests.{same_ids}
use Rattle.lane_records.specs.declared.record.Record.{Record}
use Rattle.legal_journals.specs.LaneTests.{accepts, continues_report, continues_job, finishes_job, leader_closes}
use Rattle.legal_journals.specs.declared.leader_index.LeaderIndex.{LeaderIndex}
use Rattle.legal_journals.specs.Places.{HasPlaces, AreOpens}
use Rattle.legal_journals.specs.Reports.{job_of, report_order, job_order, batch_order}

-- the index is that of these records, the oldest first
pub record LeaderIndexes (index : LeaderIndex) (records : List Record) : Type 0 where
  pub opens : AreOpens index.opens records
  pub accepted : HasPlaces report_order (λ q. accepts q.0 q.1) index.accepted records
  pub continued : HasPlaces report_order (λ q. continues_report q.0 q.1) index.continued records
  pub jobs : HasPlaces job_order (λ q. continues_job (job_of q)) index.jobs records
  pub finished : HasPlaces job_order (λ q. finishes_job (job_of q)) index.finished records
  pub closed : HasPlaces batch_order (λ q. leader_closes q.0 q.1) index.closed records

-- a Continue with the identifiers of these outcomes
abbrev pub continue_has : List (Tagged Outcome) → Record → Bool
continue_has outs (Continue n j xs) = same_ids xs outs
continue_has outs _ = false
