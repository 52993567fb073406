use Rattle.std.proofs.Common.{◌+◌, ◌-◌, ◌≤◌, vec_len}
use Rattle.std.specs.Vec.{vec_capacity}
use Rattle.aes_cmac_prg.proofs.Drawing.{HasRead}
use Rattle.aes_cmac_prg.proofs.prg.Prg.draw.Given as goal

abbrev pub invariant-drawing : goal.invariant-drawing
invariant-drawing g l = record {
  read : HasRead g.F.Field.residue g.F.Field.MODULUS g.F.Field.WIDTH l.fn.self l.n l.self l.elements.items l.skipped;
  skips : l.skipped ≤ 128;
  room : l.n ≤ vec_capacity l.elements;
}

abbrev pub decreases-drawing : goal.decreases-drawing
decreases-drawing g l = l.n + 129 - (vec_len l.elements + l.skipped)
