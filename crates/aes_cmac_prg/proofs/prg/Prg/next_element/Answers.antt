use Rattle.std.proofs.Common.{replicate, refl}
use Rattle.aes_cmac_prg.proofs.Drawing.{element_read}
use Rattle.aes_cmac_prg.proofs.prg.Prg.next_element.Goals as goal

pub returns-clause-element : goal.returns-clause-element
returns-clause-element g c =
    let laws = g.met.F.Field in
    let start = c.args.self.now in
    element_read g.F.Field.MODULUS g.F.Field.WIDTH g.F.Field.number g.F.Field.residue laws.residues laws.room laws.narrow start.key start.place c.fill.new.buf (replicate 16 0) c.WIDTH.result c.WIDTH-2.result
    c.WIDTH.ensures c.WIDTH-2.ensures refl c.fill.ensures.bytes c.decode.result c.decode.ensures
