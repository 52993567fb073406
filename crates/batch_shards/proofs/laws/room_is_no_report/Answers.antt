use Rattle.batch_shards.proofs.Rooms.{with_report-room, room-again, room-has, report-has, has-held}
use Rattle.batch_shards.proofs.laws.room_is_no_report.Goals as goal

pub returns-clause-added : goal.returns-clause-added
returns-clause-added g c id out b is = with_report-room (g.met.V.Vdaf.laws c.args.vdaf.now).space id out b is

pub returns-clause-again : goal.returns-clause-again
returns-clause-again g c b has = room-again (g.V.Vdaf.functions c.args.vdaf.now).space b has

pub returns-clause-ready : goal.returns-clause-ready
returns-clause-ready g c b is = room-has (g.met.V.Vdaf.laws c.args.vdaf.now).space b.sum is

pub returns-clause-stays : goal.returns-clause-stays
returns-clause-stays g c id out b is has = report-has (g.met.V.Vdaf.laws c.args.vdaf.now).space b.sum out is has

pub returns-clause-held : goal.returns-clause-held
returns-clause-held g c kept name start has = has-held (g.V.Vdaf.functions c.args.vdaf.now).space kept name start has
