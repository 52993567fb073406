use Rattle.std.proofs.Common.{reverse}
use Rattle.lane_records.specs.declared.record.Record.TheVariants.{Start, Commit}
use Rattle.legal_journals.proofs.Members.{Mem-reverse}
use Rattle.legal_journals.proofs.Once.{finished_once}
use Rattle.legal_journals.proofs.laws.reports_are_finished_once.Goals as goal

pub returns : goal.returns
returns c lane journal h n id j k hs gs outs results s m f s' m' f' =
    finished_once lane (reverse journal) h n id j k hs gs outs results (Mem-reverse (Start j n hs) journal s) (Mem-reverse (Commit j outs) journal m) f
    (Mem-reverse (Start k n gs) journal s') (Mem-reverse (Commit k results) journal m') f'
