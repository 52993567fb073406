use Rattle.std.proofs.Common.{◌≡◌, List, [], length, refl, ap, ◌∙◌, subst, false, vec_len, arith}
use Rattle.lane_records.specs.declared.record.Record.{Record}
use Rattle.leader_lane.specs.Catalog.{Lists}
use Rattle.leader_lane.specs.Judge.{Env}
use Rattle.leader_lane.specs.Lane.{LaneView}
use Rattle.leader_lane.specs.Sound.{Spells}
use Rattle.leader_lane.proofs.CallLaws.{lane_opens}
use Rattle.leader_lane.proofs.OwnLaws.{steps_opened}
use Rattle.leader_lane.proofs.SoundLaws.{sound_allowed}
use Rattle.leader_lane.proofs.OpenLaws.{handed_same, handed_back, catalog_read, counts_begin, back_as, came_as, opening_as}
use Rattle.leader_lane.proofs.lane.LeaderLane.open.Goals as goal

pub returns-in_default-clause-refused : goal.returns-in_default-clause-refused
returns-in_default-clause-refused g c =
    let n : Env = record { tasks = c.args.tasks; place = c.args.place } in
    λ recs s. handed_same n recs c.args.log s (c.up-up.ensures.at_rest c.requires.up)

pub returns-in_default-clause-counts_err : goal.returns-in_default-clause-counts_err
returns-in_default-clause-counts_err g c =
    counts_begin g.D.Disk.downs g.D.Disk.deads c.args.log.disk

pub returns-in_default-catch_up-clause-refused : goal.returns-in_default-catch_up-clause-refused
returns-in_default-catch_up-clause-refused g c =
    let n : Env = record { tasks = c.args.tasks; place = c.args.place } in
    λ recs s. handed_same n recs c.args.log s (c.up-up.ensures.at_rest c.requires.up)

pub returns-in_default-catch_up-clause-counts_err : goal.returns-in_default-catch_up-clause-counts_err
returns-in_default-catch_up-clause-counts_err g c =
    counts_begin g.D.Disk.downs g.D.Disk.deads c.args.log.disk

pub invariant_of-result : goal.invariant_of-result
invariant_of-result g c =
    let ok = c.in-Ok.records.ok in
    let size : vec_len c.in-Ok.records ≡ length c.in-Ok.records.items = omega (arith, ok) in
    let n : Env = record { tasks = c.args.tasks; place = c.args.place } in
    let read = λ (recs : List Record) (s : Spells c.args.place c.args.log.records recs). c.in-Ok.ensures.every_spelling_is_read recs (sound_allowed c.args.place recs s.1) (c.records.ensures.records ∙ s.0) in
    let recs = c.requires.journal.0 in
    let s = c.requires.journal.1 in
    let e = read recs s in
    let v : LaneView g.row.D.Denot g.row.T.Denot = record { part = c.in-Ok-open.journal; book = c.new.result; front = c.args.front; link = c.args.link; tasks = c.args.tasks; place = c.args.place; start = c.len-start.result; stopped = false } in
    let all : Lists c.catch_up.new.self c.deref.result.now [] = catalog_read c.new-catalog.result c.catch_up.new.self c.deref.result.now c.new-catalog.ensures c.in-Ok-catch_up.ensures.ok in
    let listed = subst (λ (l : List Record). Lists c.catch_up.new.self l []) (c.deref.ensures.value ∙ e) all in
    let begins = c.in-Ok-open.ensures.begins in
    lane_opens g.D.Disk.downs g.D.Disk.deads c.catch_up.new.self v recs c.requires.place s.1 (begins.0 ∙ c.opener_of.ensures) (c.len-start.ensures ∙ size ∙ ap length e) c.requires.front c.new.ensures refl
    (back_as c.args.place recs c.in-Ok.records.items c.opener_of.result c.in-Ok-open.journal.pages e c.opener_of.ensures c.in-Ok-open.ensures.ok.1) (came_as c.args.place recs c.in-Ok.records.items c.opener_of.result c.in-Ok-open.journal.pages e c.opener_of.ensures c.in-Ok-open.ensures.came) listed

pub returns-in-Ok-open-clause-opened : goal.returns-in-Ok-open-clause-opened
returns-in-Ok-open-clause-opened g c =
    let ok = c.in-Ok.records.ok in
    let size : vec_len c.in-Ok.records ≡ length c.in-Ok.records.items = omega (arith, ok) in
    let n : Env = record { tasks = c.args.tasks; place = c.args.place } in
    let read = λ (recs : List Record) (s : Spells c.args.place c.args.log.records recs). c.in-Ok.ensures.every_spelling_is_read recs (sound_allowed c.args.place recs s.1) (c.records.ensures.records ∙ s.0) in
    λ recs s.
    let e = read recs s in
    let back = back_as c.args.place recs c.in-Ok.records.items c.opener_of.result c.in-Ok-open.journal.pages e c.opener_of.ensures c.in-Ok-open.ensures.ok.1 in
    record { up = c.in-Ok-open.ensures.ok.0; back = back; steps = steps_opened n recs c.in-Ok-open.journal.pages c.requires.place s.1 back; opening = c.in-Ok-open.ensures.begins.1 ∙ ap length e; start = c.len-start.ensures ∙ size ∙ ap length e; book = c.new.ensures; stopped = refl }

pub returns-in-Err-clause-refused : goal.returns-in-Err-clause-refused
returns-in-Err-clause-refused g c =
    let n : Env = record { tasks = c.args.tasks; place = c.args.place } in
    let read = λ (recs : List Record) (s : Spells c.args.place c.args.log.records recs). c.in-Ok.ensures.every_spelling_is_read recs (sound_allowed c.args.place recs s.1) (c.records.ensures.records ∙ s.0) in
    λ recs s.
    let e = read recs s in
    let q = c.in-Err.ensures.err in
    handed_back n recs c.in-Ok.records.items c.in-Err.field-0.log q.0 e c.requires.place s.1 (opening_as c.args.place c.in-Ok.records.items c.opener_of.result q.0 c.opener_of.ensures q.1) q.2
