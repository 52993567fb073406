use Rattle.lane_records.proofs.Ranges.{expiry_allowed}
use Rattle.lane_records.proofs.stored.StoredTask.put_fields.Goals as goal

pub put_expiry-requires : goal.put_expiry-requires
put_expiry-requires c = expiry_allowed c.args.self.now.format c.args.self.now c.requires
