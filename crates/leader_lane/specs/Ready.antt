-- A block that judges uploads.
use Rattle.std.specs.Prelude.{ℕ, ◌+◌, ◌≤◌, ◌*◌, List, [], ◌++◌, length, map}
use Rattle.dap_messages.specs.declared.report.TheConstants.{MOST_REPORT}
use Rattle.dap_tasks.specs.declared.cause.Answer.{Answer}
use Rattle.dap_wire.specs.declared.upload.Upload.{Upload}
use Rattle.report_journal.specs.Journal.{body}
use Rattle.lane_records.specs.declared.record.Record.{Record}
use Rattle.lane_records.specs.Records.{record_}
use Rattle.leader_lane.specs.Judge.{Env, Judges}
use Rattle.leader_lane.specs.Own.{Steps, up_with}
use Rattle.leader_lane.specs.Sound.{Sound}

-- the most bytes that an upload takes in a block: the four of the record's length, its first byte, and the report
abbrev pub most_accept : ℕ
most_accept = 5 + MOST_REPORT

-- it judges the uploads with these answers, it may follow the records and is begun by own steps, and it has room for each upload
pub record Ready (env : Env) (records block : List Record) (answers : List Answer) (us : List Upload) : Type 0 where
  pub judges : Judges env records (records ++ block) us answers
  pub sound : Sound env.place (records ++ block)
  pub steps : Steps env (up_with records []) (up_with records block)
  pub size : length (body (map record_.spell block)) ≤ length us * most_accept
