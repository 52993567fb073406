use Rattle.std.proofs.Common.{sym, ap, ◌∙◌, subst}
use Rattle.batch_shards.specs.declared.bucket.Bucket.{Bucket}
use Rattle.batch_shards.specs.Bucket.{with_report, HasSum, IsSum}
use Rattle.batch_shards.proofs.Kept.{sum-out}
use Rattle.batch_shards.proofs.Rooms.{room-has, with_report-room}
use Rattle.batch_shards.proofs.bucket.Bucket.add.Goals as goal

pub add_in_place-requires-clause-ready : goal.add_in_place-requires-clause-ready
add_in_place-requires-clause-ready c =
    subst (λ (b : Bucket). HasSum c.args.space.now b.sum) (sym c.in_ok-make_room.ensures.ok) (room-has c.requires.space c.args.self.now.sum c.requires.held)

pub returns-clause-ok : goal.returns-clause-ok
returns-clause-ok c =
    c.add_in_place.ensures ∙ ap (with_report c.args.space.now c.args.id.now c.args.out.now) c.in_ok-make_room.ensures.ok
    ∙ with_report-room c.requires.space c.args.id.now c.args.out.now c.args.self.now c.requires.out

pub returns-clause-held_again : goal.returns-clause-held_again
returns-clause-held_again c =
    subst (λ (b : Bucket). IsSum c.args.space.now b.sum) (sym (returns-clause-ok c)) (sum-out c.requires.space c.args.self.now.sum c.args.out.now c.requires.held c.requires.out)
