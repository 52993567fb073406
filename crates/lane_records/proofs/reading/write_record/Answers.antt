use Rattle.lane_records.specs.Records.{record_}
use Rattle.lane_records.specs.RecordLaws.{record_lawful}
use Rattle.lane_records.proofs.Appends.{bounded_ok}
use Rattle.lane_records.proofs.reading.write_record.Goals as goal

pub returns-clause-bounded : goal.returns-clause-bounded
returns-clause-bounded c =
    bounded_ok c.write_all.result (record_.spell c.args.x.now) 4098102 (record_lawful.within c.args.x.now c.requires) c.write_all.ensures
