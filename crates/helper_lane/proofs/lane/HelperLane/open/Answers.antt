use Rattle.std.proofs.Common.{◌≡◌, List, [], length, true, false, refl, sym, ap, ◌∙◌, subst}
use Rattle.lane_records.specs.Journal.{spell_all}
use Rattle.lane_records.specs.declared.place.LaneFault.TheVariants as faults
use Rattle.lane_records.specs.declared.record.Record.{Record}
use Rattle.part_journal.specs.declared.fault.PartFault.TheVariants as parts
use Rattle.part_journal.specs.declared.fault.TheConstants.{MOST_STOPS}
use Rattle.part_journal.specs.Pages.{first_pages, reopening, IsBack}
use Rattle.helper_lane.specs.Known.{IsKnown, KnowsAll}
use Rattle.helper_lane.specs.Lane.{HelperView, opener_at}
use Rattle.helper_lane.specs.Refusals.{env_of}
use Rattle.helper_lane.proofs.Calls.{counts_along}
use Rattle.helper_lane.proofs.Entered.{known_further}
use Rattle.helper_lane.proofs.Opens.{counts_begin, counts_opened, env_is, helper_begins, opener_allowed, stays_first, stays_opened, stays_refused}
use Rattle.helper_lane.proofs.lane.HelperLane.open.Goals as goal

pub records_in-requires : goal.records_in-requires
records_in-requires g c = let j = c.requires.journal in (j.0, j.1, j.2)

pub returns-in_default-clause-refused : goal.returns-in_default-clause-refused
returns-in_default-clause-refused g c = λ xs allowed spelled. stays_first c.args.place xs c.args.log spelled (c.up-up.ensures.at_rest c.requires.up)

pub returns-in_default-clause-counts_err : goal.returns-in_default-clause-counts_err
returns-in_default-clause-counts_err g c = counts_begin g.D.Disk.downs g.D.Disk.deads c.args.log.disk

pub open-requires-clause-records : goal.open-requires-clause-records
open-requires-clause-records g c =
    let j = c.requires.journal in
    j.2 ∙ ap spell_all (sym (c.in-Ok.ensures j.0 j.1 j.2))

pub open-requires-clause-allowed : goal.open-requires-clause-allowed
open-requires-clause-allowed g c =
    let j = c.requires.journal in
    let e = env_of g.V.Vdaf.of_kind c.args.place c.args.tasks in
    opener_allowed e j.0 (env_is g.V.Vdaf.of_kind c.args.place c.args.tasks g.met.V.Vdaf.kind_laws c.tasks_keep_their_ranges.ensures c.requires.place) j.3

pub open-requires-clause-room : goal.open-requires-clause-room
open-requires-clause-room g c =
    let j = c.requires.journal in
    let e = env_of g.V.Vdaf.of_kind c.args.place c.args.tasks in
    c.records_are_bounded.ensures.appended (opener_at c.args.place) (opener_allowed e j.0 (env_is g.V.Vdaf.of_kind c.args.place c.args.tasks g.met.V.Vdaf.kind_laws c.tasks_keep_their_ranges.ensures c.requires.place) j.3)

pub returns-in-Err-clause-refused : goal.returns-in-Err-clause-refused
returns-in-Err-clause-refused g c = λ xs allowed spelled.
    let q = c.in-Err.ensures.err in
    stays_refused c.args.place xs c.in-Ok.records.items c.in-Err.field-0.log q.0 (c.in-Ok.ensures xs allowed spelled) q.1 q.2

pub returns-in-Err-clause-given_back : goal.returns-in-Err-clause-given_back
returns-in-Err-clause-given_back g c = (refl, c.in-Err.ensures.images)

pub returns-in-Err-clause-counts_err : goal.returns-in-Err-clause-counts_err
returns-in-Err-clause-counts_err g c =
    let w = c.in-Err.ensures.counts_err in
    (w.0, counts_along g.D.Disk.downs g.D.Disk.deads (c.in-Err.field-0.fault ≡ parts.Stopped) (c.lane_fault.result ≡ faults.Stopped) MOST_STOPS w.0 c.args.log.disk c.in-Err.field-0.log.disk c.lane_fault.ensures w.1)

pub catch_up-requires : goal.catch_up-requires
catch_up-requires g c = known_further c.new-known.result [] c.records.result.now (c.records.result.now, refl) c.new-known.ensures

pub returns-in-Err-catch_up-clause-refused : goal.returns-in-Err-catch_up-clause-refused
returns-in-Err-catch_up-clause-refused g c = λ xs allowed spelled.
    stays_opened c.args.place xs c.in-Ok.records.items c.into_log.result c.in-Ok-open.journal.pages (c.in-Ok.ensures xs allowed spelled) c.in-Ok-open.ensures.came c.into_log.ensures.holds

pub returns-in-Err-catch_up-clause-given_back : goal.returns-in-Err-catch_up-clause-given_back
returns-in-Err-catch_up-clause-given_back g c = (refl, c.into_log.ensures.images)

pub returns-in-Err-catch_up-clause-counts_err : goal.returns-in-Err-catch_up-clause-counts_err
returns-in-Err-catch_up-clause-counts_err g c =
    counts_opened g.D.Disk.downs g.D.Disk.deads c.in-Ok-open.journal.left c.args.log.disk c.in-Ok-open.journal.disk c.into_log.result.disk c.into_log.ensures.disk c.in-Ok-open.ensures.counts

pub invariant_of-result : goal.invariant_of-result
invariant_of-result g c =
    let j = c.requires.journal in
    let v : HelperView g.row.D.Denot g.row.T.Denot = record { part = c.in-Ok-open.journal; tasks = c.args.tasks; place = c.args.place; link = c.args.link; hand = c.new.result.items; up = true; stopped = false } in
    let begins = c.in-Ok-open.ensures.begins in (
      helper_begins g.V.Vdaf.of_kind g.T.Fates.carried v j.0 c.in-Ok.records.items (env_is g.V.Vdaf.of_kind c.args.place c.args.tasks g.met.V.Vdaf.kind_laws c.tasks_keep_their_ranges.ensures c.requires.place) j.3 (c.in-Ok.ensures j.0 j.1 j.2)
          begins.0 begins.1 c.requires.link c.in-Ok-open.ensures.ok.1 c.new.ensures.items c.in-Ok-open.ensures.ok.0 refl,
      subst (λ (l : List Record). IsKnown c.catch_up.new.self l) c.records.ensures.records c.catch_up.ensures.known,
      λ up. subst (λ (l : List Record). KnowsAll c.catch_up.new.self l) c.records.ensures.records c.in-Ok-catch_up.ensures.ok,
    )

pub returns-clause-begins : goal.returns-clause-begins
returns-clause-begins g c = λ xs allowed spelled.
    let e = c.in-Ok.ensures xs allowed spelled in
    record {
      opening = c.in-Ok-open.ensures.begins.1 ∙ ap length e;
      back = subst (λ (l : List Record). IsBack (opener_at c.args.place) (reopening (opener_at c.args.place) (first_pages l)) c.in-Ok-open.journal.pages) e c.in-Ok-open.ensures.ok.1;
    }

pub returns-clause-counts : goal.returns-clause-counts
returns-clause-counts g c = c.in-Ok-open.ensures.counts
