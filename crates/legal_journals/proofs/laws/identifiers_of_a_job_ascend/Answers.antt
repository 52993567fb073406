use Rattle.std.proofs.Common.{reverse}
use Rattle.dap_bytes.specs.declared.node.Node.TheVariants.{Leader, Helper}
use Rattle.dap_bytes.specs.declared.part.Part.TheVariants.{Lane}
use Rattle.lane_records.specs.declared.record.Record.TheVariants.{Continue, Start}
use Rattle.legal_journals.proofs.Members.{Mem-reverse}
use Rattle.legal_journals.proofs.Grown.{legal_allowed, steps_allowed, halves_allowed}
use Rattle.legal_journals.proofs.laws.identifiers_of_a_job_ascend.Goals as goal

pub returns-clause-continued : goal.returns-clause-continued
returns-clause-continued c lane journal h name job steps m =
    (c.items_ascend.ensures steps (steps_allowed name job steps (legal_allowed Leader (Lane lane) (reverse journal) (Continue name job steps) h (Mem-reverse (Continue name job steps) journal m)))).2

pub returns-clause-started : goal.returns-clause-started
returns-clause-started c lane journal h name job halves m =
    (c.items_ascend-2.ensures halves (halves_allowed job name halves (legal_allowed Helper (Lane lane) (reverse journal) (Start job name halves) h (Mem-reverse (Start job name halves) journal m)))).2
