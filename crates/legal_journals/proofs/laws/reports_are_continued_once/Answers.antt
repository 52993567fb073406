use Rattle.std.proofs.Common.{reverse}
use Rattle.lane_records.specs.declared.record.Record.TheVariants.{Continue}
use Rattle.legal_journals.proofs.Members.{Mem-reverse}
use Rattle.legal_journals.proofs.Once.{continued_once}
use Rattle.legal_journals.proofs.laws.reports_are_continued_once.Goals as goal

pub returns : goal.returns
returns c lane journal h n id j k xs ys m i m' i' =
    continued_once lane (reverse journal) h n id j k xs ys (Mem-reverse (Continue n j xs) journal m) i (Mem-reverse (Continue n k ys) journal m') i'
