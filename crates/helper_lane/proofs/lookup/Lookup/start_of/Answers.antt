use Rattle.std.proofs.Common.{sym, ap, ◌∙◌}
use Rattle.lane_records.specs.declared.record.Record.{Record}
use Rattle.legal_journals.proofs.HelperLegal.{has_place}
use Rattle.helper_lane.specs.Reply.{start_if}
use Rattle.helper_lane.proofs.Lookups.{first_at, first_nowhere}
use Rattle.helper_lane.proofs.lookup.Lookup.start_of.Goals as goal

pub returns-in_default : goal.returns-in_default
returns-in_default c =
    let known = c.args.self.now in
    sym (known.turned c.args.job.now ∙ first_nowhere c.args.job.now known.records.now (sym (c.started.ensures known.records.now known.indexed) ∙ c.in_default.is))

pub returns-in_default-get : goal.returns-in_default-get
returns-in_default-get c =
    let known = c.args.self.now in
    absurd (has_place c.args.job.now known.records.now c.in-Some.place (sym (c.started.ensures known.records.now known.indexed) ∙ c.in-Some.is) c.in_default-get.ensures.lookup.0)

pub returns : goal.returns
returns c =
    let known = c.args.self.now in
    let stands = sym (c.started.ensures known.records.now known.indexed) ∙ c.in-Some.is in
    c.start_if.ensures ∙ ap (λ (x : Record). start_if c.args.job.now x) c.in-Some-get.ensures.lookup.1
    ∙ sym (known.turned c.args.job.now ∙ first_at c.args.job.now known.records.now c.in-Some.place c.in-Some-get.x.now stands)
