use Rattle.std.proofs.Common.{◌++◌, ap, ◌∙◌, arith}
use Rattle.field_laws.specs.Bytes.{low_bytes}
use Rattle.prio3_share.proofs.Elements.{bytes-nothing, bytes-more}
use Rattle.prio3_share.proofs.Fields.{base}
use Rattle.prio3_share.proofs.texts.push_elements.Goals as goal

pub loop-x-init : goal.loop-x-init
loop-x-init g c = record { within = omega arith; written = bytes-nothing (base g.F.Field) c.args.out.now.items }

pub loop-x-preserved : goal.loop-x-preserved
loop-x-preserved g c = record {
  within = omega arith;
  written =
      c.in_ok-put.ensures.ok
      ∙ ap (λ l. l ++ low_bytes g.F.Field.WIDTH (g.F.Field.number c.x-item.result)) c.loop-x.invariant.written
      ∙ bytes-more (base g.F.Field) c.args.out.now.items c.args.xs.now c.loop-x.x-index c.x-item.result (omega arith) c.x-item.is;
}
