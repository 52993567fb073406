use Rattle.std.proofs.Common.{◌≡◌, ◌+◌, ◌<◌, length, arith}
use Rattle.aes_cmac_prg.proofs.Drawing.{HasRead_found, HasRead_skipped, all_drawn, all_read, none_drawn, none_read, reached}
use Rattle.aes_cmac_prg.proofs.prg.Prg.draw.Goals as goal

pub drawing-preserved-in-Some : goal.drawing-preserved-in-Some
drawing-preserved-in-Some g c =
    let f = g.F.Field in
    let so_far = c.drawing.invariant in
    let items = c.drawing.elements.items in
    let wanted : length items < c.args.n = omega (arith, c.drawing.elements.ok.0) in
    record {
      read =
          rw c.push_reserved.ensures.items
          (HasRead_found f.residue f.MODULUS f.WIDTH c.args.self.now c.args.n c.drawing.self c.next_element.new.self items c.drawing.skipped c.in-Some.element so_far.read wanted so_far.skips
          c.in-Some.ensures.element c.in-Some.ensures.place);
      skips = so_far.skips;
      room = omega (arith, c.push_reserved.ensures.capacity);
    }

pub drawing-preserved : goal.drawing-preserved
drawing-preserved g c =
    let f = g.F.Field in
    let so_far = c.drawing.invariant in
    let items = c.drawing.elements.items in
    let wanted : length items < c.args.n = omega (arith, c.drawing.elements.ok.0) in
    record {
      read =
          HasRead_skipped f.residue f.MODULUS f.WIDTH c.args.self.now c.args.n c.drawing.self c.next_element.new.self items c.drawing.skipped so_far.read wanted so_far.skips
          c.in-None.ensures.element c.in-None.ensures.place;
      skips = omega arith;
      room = so_far.room;
    }

pub returns-in-None : goal.returns-in-None
returns-in-None g c =
    let f = g.F.Field in
    let so_far = c.drawing.invariant in
    let start = c.args.self.now in
    let items = c.drawing.elements.items in
    let wanted : length items < c.args.n = omega (arith, c.drawing.elements.ok.0) in
    let spent =
    HasRead_skipped f.residue f.MODULUS f.WIDTH start c.args.n c.drawing.self c.next_element.new.self items c.drawing.skipped so_far.read wanted so_far.skips c.in-None.ensures.element c.in-None.ensures.place in
    let now = none_read f.residue f.MODULUS f.WIDTH start c.args.n c.next_element.new.self items (c.drawing.skipped + 1) spent wanted (omega arith) in
    record {
      drawn = none_drawn f.residue f.MODULUS f.WIDTH start c.args.n c.next_element.new.self items (c.drawing.skipped + 1) spent wanted (omega arith);
      place = now;
      reach = reached f.MODULUS f.WIDTH start c.next_element.new.self c.args.n now;
    }

pub returns : goal.returns
returns g c =
    let f = g.F.Field in
    let so_far = c.drawing.invariant in
    let start = c.args.self.now in
    let items = c.drawing.elements.items in
    let all : length items ≡ c.args.n = omega (arith, c.drawing.elements.ok.0, so_far.read.few) in
    let now = all_read f.residue f.MODULUS f.WIDTH start c.args.n c.drawing.self items c.drawing.skipped so_far.read all so_far.skips in
    record {
      drawn = all_drawn f.residue f.MODULUS f.WIDTH start c.args.n c.drawing.self items c.drawing.skipped so_far.read all so_far.skips;
      place = now;
      reach = reached f.MODULUS f.WIDTH start c.drawing.self c.args.n now;
    }
