use Rattle.prio3_share.proofs.Shared.{sharing-is}
use Rattle.prio3_share.proofs.sharing.shard_input.Goals as goal

pub returns : goal.returns
returns g c = rw (sharing-is, ← c.in_ok-keys.ensures) c.share_with.ensures
