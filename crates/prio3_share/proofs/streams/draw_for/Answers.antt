use Rattle.prio3_share.proofs.Lengths.{draws-size}
use Rattle.prio3_share.proofs.streams.draw_for.Goals as goal

pub returns-clause-size : goal.returns-clause-size
returns-clause-size g c =
    let F = g.F.Field in
    draws-size F.residue F.MODULUS F.WIDTH c.in_ok-prg.prg.key c.in_ok-prg.prg.place c.args.n c.draw.result c.draw.ensures.drawn
