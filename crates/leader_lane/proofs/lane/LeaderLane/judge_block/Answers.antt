use Rattle.std.proofs.Common.{◌≡◌, ◌≤◌, [], List, Option, Bool, Result, Ok, Err, length, take, sym, subst, ap, ◌∙◌, refl, IsTrue, arith}
use Rattle.std.proofs.lemmas.Grind.{common_steps}
use Rattle.std.proofs.lemmas.List.{nil_from_length, length-take-le}
use Rattle.dap_wire.specs.declared.upload.Upload.{Upload}
use Rattle.lane_records.specs.declared.place.LaneFault.{LaneFault}
use Rattle.lane_records.specs.declared.place.LaneFault.TheVariants.{Stopped as LaneStopped, NoMemory as LaneNoMemory}
use Rattle.lane_records.specs.declared.record.Record.{Record}
use Rattle.part_journal.specs.Counts.{CountsStops}
use Rattle.part_journal.specs.declared.fault.Appended.{Appended}
use Rattle.part_journal.specs.declared.fault.Appended.TheVariants.{Done, Kept, Lost}
use Rattle.leader_lane.specs.Book.{settled_by}
use Rattle.leader_lane.specs.Catalog.{Lists}
use Rattle.leader_lane.specs.Lane.{LaneView, Goes, IsJudged, IsBackWith, env, records}
use Rattle.leader_lane.proofs.CallLaws.{lane_judges, ready_at, listed_at, goes_none, lane_listed, lane_all_listed, lane_answers, lane_appends, lane_rests, not_stopped, counts_same, calm_told, memory_runs, ok_runs, lane_counts, lane_told, judged_by_done, judged_by_kept, back_by_lost, block_allowed, few_judged, ok_of_lane}
use Rattle.leader_lane.proofs.ReadyLaws.{ready_fits}
use Rattle.leader_lane.proofs.lane.LeaderLane.judge_block.Goals as goal

pub judge_all-requires-clause-sound : goal.judge_all-requires-clause-sound
judge_all-requires-clause-sound g c =
    let v : LaneView g.row.D.Denot g.row.T.Denot = record { part = c.self.inside.journal; book = c.self.inside.book; front = c.self.inside.front; link = c.self.inside.link; tasks = c.self.inside.tasks; place = c.self.inside.place; start = c.self.inside.start; stopped = c.self.inside.stopped } in
    let on : IsTrue v.part.up = subst (λ (z : LaneView g.row.D.Denot g.row.T.Denot). IsTrue z.part.up) (sym c.self.view_is) c.requires.up in
    let rest = c.up-up.ensures.rest on in
    (lane_judges g.D.Disk.downs g.D.Disk.deads c.self.inside.catalog v c.records.result.now c.records.ensures.records rest.fate c.self.invariant).0

pub judge_all-requires-clause-opened : goal.judge_all-requires-clause-opened
judge_all-requires-clause-opened g c =
    let v : LaneView g.row.D.Denot g.row.T.Denot = record { part = c.self.inside.journal; book = c.self.inside.book; front = c.self.inside.front; link = c.self.inside.link; tasks = c.self.inside.tasks; place = c.self.inside.place; start = c.self.inside.start; stopped = c.self.inside.stopped } in
    let on : IsTrue v.part.up = subst (λ (z : LaneView g.row.D.Denot g.row.T.Denot). IsTrue z.part.up) (sym c.self.view_is) c.requires.up in
    let rest = c.up-up.ensures.rest on in
    (lane_judges g.D.Disk.downs g.D.Disk.deads c.self.inside.catalog v c.records.result.now c.records.ensures.records rest.fate c.self.invariant).1

pub judge_all-requires-clause-lists : goal.judge_all-requires-clause-lists
judge_all-requires-clause-lists g c =
    let v : LaneView g.row.D.Denot g.row.T.Denot = record { part = c.self.inside.journal; book = c.self.inside.book; front = c.self.inside.front; link = c.self.inside.link; tasks = c.self.inside.tasks; place = c.self.inside.place; start = c.self.inside.start; stopped = c.self.inside.stopped } in
    let on : IsTrue v.part.up = subst (λ (z : LaneView g.row.D.Denot g.row.T.Denot). IsTrue z.part.up) (sym c.self.view_is) c.requires.up in
    let rest = c.up-up.ensures.rest on in
    (lane_judges g.D.Disk.downs g.D.Disk.deads c.self.inside.catalog v c.records.result.now c.records.ensures.records rest.fate c.self.invariant).2

pub invariant_of-self : goal.invariant_of-self
invariant_of-self g c =
    let v : LaneView g.row.D.Denot g.row.T.Denot = record { part = c.self.inside.journal; book = c.self.inside.book; front = c.self.inside.front; link = c.self.inside.link; tasks = c.self.inside.tasks; place = c.self.inside.place; start = c.self.inside.start; stopped = c.self.inside.stopped } in
    let on : IsTrue v.part.up = subst (λ (z : LaneView g.row.D.Denot g.row.T.Denot). IsTrue z.part.up) (sym c.self.view_is) c.requires.up in
    let rest = c.up-up.ensures.rest on in
    lane_listed g.D.Disk.downs g.D.Disk.deads c.self.inside.catalog c.judge_all.new.catalog v rest.fate (listed_at g.D.Disk.downs g.D.Disk.deads c.self.inside.catalog c.judge_all.new.catalog v c.records.result.now c.records.ensures.records c.in_default.ensures.err) c.self.invariant

pub invariant_of-self-in_default-propose : goal.invariant_of-self-in_default-propose
invariant_of-self-in_default-propose g c =
    let v : LaneView g.row.D.Denot g.row.T.Denot = record { part = c.self.inside.journal; book = c.self.inside.book; front = c.self.inside.front; link = c.self.inside.link; tasks = c.self.inside.tasks; place = c.self.inside.place; start = c.self.inside.start; stopped = c.self.inside.stopped } in
    let on : IsTrue v.part.up = subst (λ (z : LaneView g.row.D.Denot g.row.T.Denot). IsTrue z.part.up) (sym c.self.view_is) c.requires.up in
    let rest = c.up-up.ensures.rest on in
    let listed = subst (λ (l : List Record). Lists c.judge_all.new.catalog l c.in-Ok.block.records.items) c.records.ensures.records c.in-Ok.ensures.lists in
    (lane_all_listed g.D.Disk.downs g.D.Disk.deads c.self.inside.catalog c.settle.new.self v c.propose.new.self rest.fate (c.settle.ensures.lost refl (records v) c.in-Ok.block.records.items listed) c.in_default-propose.ensures.err c.self.invariant).0

pub returns-in_default-propose-clause-goes : goal.returns-in_default-propose-clause-goes
returns-in_default-propose-clause-goes g c =
    let v : LaneView g.row.D.Denot g.row.T.Denot = record { part = c.self.inside.journal; book = c.self.inside.book; front = c.self.inside.front; link = c.self.inside.link; tasks = c.self.inside.tasks; place = c.self.inside.place; start = c.self.inside.start; stopped = c.self.inside.stopped } in
    let on : IsTrue v.part.up = subst (λ (z : LaneView g.row.D.Denot g.row.T.Denot). IsTrue z.part.up) (sym c.self.view_is) c.requires.up in
    let rest = c.up-up.ensures.rest on in
    let listed = subst (λ (l : List Record). Lists c.judge_all.new.catalog l c.in-Ok.block.records.items) c.records.ensures.records c.in-Ok.ensures.lists in
    subst (λ (z : LaneView g.row.D.Denot g.row.T.Denot). Goes g.D.Disk.downs g.D.Disk.deads z (record v { book = c.propose.new.self })) c.self.view_is (lane_all_listed g.D.Disk.downs g.D.Disk.deads c.self.inside.catalog c.settle.new.self v c.propose.new.self rest.fate (c.settle.ensures.lost refl (records v) c.in-Ok.block.records.items listed) c.in_default-propose.ensures.err c.self.invariant).1

pub invariant_of-self-2 : goal.invariant_of-self-2
invariant_of-self-2 g c =
    let v : LaneView g.row.D.Denot g.row.T.Denot = record { part = c.self.inside.journal; book = c.self.inside.book; front = c.self.inside.front; link = c.self.inside.link; tasks = c.self.inside.tasks; place = c.self.inside.place; start = c.self.inside.start; stopped = c.self.inside.stopped } in
    let on : IsTrue v.part.up = subst (λ (z : LaneView g.row.D.Denot g.row.T.Denot). IsTrue z.part.up) (sym c.self.view_is) c.requires.up in
    let rest = c.up-up.ensures.rest on in
    let within : c.args.judged ≤ length v.book.hand = subst (λ (z : LaneView g.row.D.Denot g.row.T.Denot). c.args.judged ≤ length z.book.hand) (sym c.self.view_is) c.requires.within in
    let us = ap (λ (l : List Upload). take c.args.judged l) c.hand.ensures in
    let ready = ready_at g.D.Disk.downs g.D.Disk.deads v c.records.result.now (take c.args.judged c.hand.result.now) c.args.judged c.in-Ok.block.records.items c.in-Ok.block.answers.items c.records.ensures.records us c.in-Ok.ensures.ready in
    let listed = subst (λ (l : List Record). Lists c.judge_all.new.catalog l c.in-Ok.block.records.items) c.records.ensures.records c.in-Ok.ensures.lists in
    let t = c.settle-3.ensures in
    let a = c.append-outcome.ensures in
    let settled = c.settle-2.ensures ∙ ap (λ (f : Option Bool). settled_by f c.propose.new.self) (c.fate.ensures.fate ∙ sym c.fate-2.ensures.fate) in
    (lane_appends g.D.Disk.downs g.D.Disk.deads c.self.inside.catalog c.judge_all.new.catalog c.settle-3.new.self v c.append-outcome.new.self c.fate-2.result c.propose.new.self c.settle-2.new.self c.has_stopped-self-inside.result c.args.judged c.in-Ok.block.records.items c.in-Ok.block.answers.items c.append-outcome.result c.self.invariant rest listed ready c.fate-2.ensures.fate c.in-Ok-propose.ensures.ok settled c.has_stopped-self-inside.ensures (t.landed, t.lost, t.open) (record { is_done = a.done; is_kept = a.kept; is_lost = a.lost; is_memory = a.memory; is_stop = a.stopped; came = a.came; dead = a.dead; counts = a.counts; same = a.same })).0

pub returns-clause-goes : goal.returns-clause-goes
returns-clause-goes g c =
    let v : LaneView g.row.D.Denot g.row.T.Denot = record { part = c.self.inside.journal; book = c.self.inside.book; front = c.self.inside.front; link = c.self.inside.link; tasks = c.self.inside.tasks; place = c.self.inside.place; start = c.self.inside.start; stopped = c.self.inside.stopped } in
    let on : IsTrue v.part.up = subst (λ (z : LaneView g.row.D.Denot g.row.T.Denot). IsTrue z.part.up) (sym c.self.view_is) c.requires.up in
    let rest = c.up-up.ensures.rest on in
    let within : c.args.judged ≤ length v.book.hand = subst (λ (z : LaneView g.row.D.Denot g.row.T.Denot). c.args.judged ≤ length z.book.hand) (sym c.self.view_is) c.requires.within in
    let us = ap (λ (l : List Upload). take c.args.judged l) c.hand.ensures in
    let ready = ready_at g.D.Disk.downs g.D.Disk.deads v c.records.result.now (take c.args.judged c.hand.result.now) c.args.judged c.in-Ok.block.records.items c.in-Ok.block.answers.items c.records.ensures.records us c.in-Ok.ensures.ready in
    let listed = subst (λ (l : List Record). Lists c.judge_all.new.catalog l c.in-Ok.block.records.items) c.records.ensures.records c.in-Ok.ensures.lists in
    let t = c.settle-3.ensures in
    let a = c.append-outcome.ensures in
    let settled = c.settle-2.ensures ∙ ap (λ (f : Option Bool). settled_by f c.propose.new.self) (c.fate.ensures.fate ∙ sym c.fate-2.ensures.fate) in
    subst (λ (z : LaneView g.row.D.Denot g.row.T.Denot). Goes g.D.Disk.downs g.D.Disk.deads z (record v { part = c.append-outcome.new.self; book = c.settle-2.new.self; stopped = c.has_stopped-self-inside.result })) c.self.view_is (lane_appends g.D.Disk.downs g.D.Disk.deads c.self.inside.catalog c.judge_all.new.catalog c.settle-3.new.self v c.append-outcome.new.self c.fate-2.result c.propose.new.self c.settle-2.new.self c.has_stopped-self-inside.result c.args.judged c.in-Ok.block.records.items c.in-Ok.block.answers.items c.append-outcome.result c.self.invariant rest listed ready c.fate-2.ensures.fate c.in-Ok-propose.ensures.ok settled c.has_stopped-self-inside.ensures (t.landed, t.lost, t.open) (record { is_done = a.done; is_kept = a.kept; is_lost = a.lost; is_memory = a.memory; is_stop = a.stopped; came = a.came; dead = a.dead; counts = a.counts; same = a.same })).1

pub slice_bounds-us-end : goal.slice_bounds-us-end
slice_bounds-us-end g c =
    let v : LaneView g.row.D.Denot g.row.T.Denot = record { part = c.self.inside.journal; book = c.self.inside.book; front = c.self.inside.front; link = c.self.inside.link; tasks = c.self.inside.tasks; place = c.self.inside.place; start = c.self.inside.start; stopped = c.self.inside.stopped } in
    let within : c.args.judged ≤ length v.book.hand = subst (λ (z : LaneView g.row.D.Denot g.row.T.Denot). c.args.judged ≤ length z.book.hand) (sym c.self.view_is) c.requires.within in
    sym (length-take-le c.args.judged c.hand.result.now (subst (λ (l : List Upload). c.args.judged ≤ length l) (sym c.hand.ensures) within))

pub judge_all-requires-clause-place : goal.judge_all-requires-clause-place
judge_all-requires-clause-place g c =
    c.self.invariant.place

pub propose-requires-clause-within : goal.propose-requires-clause-within
propose-requires-clause-within g c =
    let v : LaneView g.row.D.Denot g.row.T.Denot = record { part = c.self.inside.journal; book = c.self.inside.book; front = c.self.inside.front; link = c.self.inside.link; tasks = c.self.inside.tasks; place = c.self.inside.place; start = c.self.inside.start; stopped = c.self.inside.stopped } in
    let within : c.args.judged ≤ length v.book.hand = subst (λ (z : LaneView g.row.D.Denot g.row.T.Denot). c.args.judged ≤ length z.book.hand) (sym c.self.view_is) c.requires.within in
    within

pub propose-requires-clause-none : goal.propose-requires-clause-none
propose-requires-clause-none g c =
    let v : LaneView g.row.D.Denot g.row.T.Denot = record { part = c.self.inside.journal; book = c.self.inside.book; front = c.self.inside.front; link = c.self.inside.link; tasks = c.self.inside.tasks; place = c.self.inside.place; start = c.self.inside.start; stopped = c.self.inside.stopped } in
    let on : IsTrue v.part.up = subst (λ (z : LaneView g.row.D.Denot g.row.T.Denot). IsTrue z.part.up) (sym c.self.view_is) c.requires.up in
    let rest = c.up-up.ensures.rest on in
    lane_rests g.D.Disk.downs g.D.Disk.deads c.self.inside.catalog v c.self.invariant rest.fate

pub returns-in_default-clause-counts : goal.returns-in_default-clause-counts
returns-in_default-clause-counts g c =
    let v : LaneView g.row.D.Denot g.row.T.Denot = record { part = c.self.inside.journal; book = c.self.inside.book; front = c.self.inside.front; link = c.self.inside.link; tasks = c.self.inside.tasks; place = c.self.inside.place; start = c.self.inside.start; stopped = c.self.inside.stopped } in
    let on : IsTrue v.part.up = subst (λ (z : LaneView g.row.D.Denot g.row.T.Denot). IsTrue z.part.up) (sym c.self.view_is) c.requires.up in
    let rest = c.up-up.ensures.rest on in
    subst (λ (z : LaneView g.row.D.Denot g.row.T.Denot). CountsStops g.D.Disk.downs g.D.Disk.deads (let r : Result Appended LaneFault = Err LaneNoMemory in r ≡ Err LaneStopped) z.part.left v.part.left z.part.disk v.part.disk) c.self.view_is (counts_same g.D.Disk.downs g.D.Disk.deads (let r : Result Appended LaneFault = Err LaneNoMemory in r ≡ Err LaneStopped) v.part v.part refl rest.borne (λ e. memory_runs (let r : Result Appended LaneFault = Err LaneNoMemory in r) refl e))

pub returns-in_default-clause-stopped : goal.returns-in_default-clause-stopped
returns-in_default-clause-stopped g c =
    let v : LaneView g.row.D.Denot g.row.T.Denot = record { part = c.self.inside.journal; book = c.self.inside.book; front = c.self.inside.front; link = c.self.inside.link; tasks = c.self.inside.tasks; place = c.self.inside.place; start = c.self.inside.start; stopped = c.self.inside.stopped } in
    let on : IsTrue v.part.up = subst (λ (z : LaneView g.row.D.Denot g.row.T.Denot). IsTrue z.part.up) (sym c.self.view_is) c.requires.up in
    calm_told (let r : Result Appended LaneFault = Err LaneNoMemory in r) v.stopped (not_stopped g.D.Disk.downs g.D.Disk.deads c.self.inside.catalog v c.self.invariant on) (memory_runs (let r : Result Appended LaneFault = Err LaneNoMemory in r) refl)

pub returns-in_default-clause-front : goal.returns-in_default-clause-front
returns-in_default-clause-front g c =
    ap (λ (z : LaneView g.row.D.Denot g.row.T.Denot). z.front) c.self.view_is

pub returns-in_default-propose-clause-counts : goal.returns-in_default-propose-clause-counts
returns-in_default-propose-clause-counts g c =
    let v : LaneView g.row.D.Denot g.row.T.Denot = record { part = c.self.inside.journal; book = c.self.inside.book; front = c.self.inside.front; link = c.self.inside.link; tasks = c.self.inside.tasks; place = c.self.inside.place; start = c.self.inside.start; stopped = c.self.inside.stopped } in
    let on : IsTrue v.part.up = subst (λ (z : LaneView g.row.D.Denot g.row.T.Denot). IsTrue z.part.up) (sym c.self.view_is) c.requires.up in
    let rest = c.up-up.ensures.rest on in
    subst (λ (z : LaneView g.row.D.Denot g.row.T.Denot). CountsStops g.D.Disk.downs g.D.Disk.deads (let r : Result Appended LaneFault = Err LaneNoMemory in r ≡ Err LaneStopped) z.part.left v.part.left z.part.disk v.part.disk) c.self.view_is (counts_same g.D.Disk.downs g.D.Disk.deads (let r : Result Appended LaneFault = Err LaneNoMemory in r ≡ Err LaneStopped) v.part v.part refl rest.borne (λ e. memory_runs (let r : Result Appended LaneFault = Err LaneNoMemory in r) refl e))

pub returns-in_default-propose-clause-stopped : goal.returns-in_default-propose-clause-stopped
returns-in_default-propose-clause-stopped g c =
    let v : LaneView g.row.D.Denot g.row.T.Denot = record { part = c.self.inside.journal; book = c.self.inside.book; front = c.self.inside.front; link = c.self.inside.link; tasks = c.self.inside.tasks; place = c.self.inside.place; start = c.self.inside.start; stopped = c.self.inside.stopped } in
    let on : IsTrue v.part.up = subst (λ (z : LaneView g.row.D.Denot g.row.T.Denot). IsTrue z.part.up) (sym c.self.view_is) c.requires.up in
    calm_told (let r : Result Appended LaneFault = Err LaneNoMemory in r) v.stopped (not_stopped g.D.Disk.downs g.D.Disk.deads c.self.inside.catalog v c.self.invariant on) (memory_runs (let r : Result Appended LaneFault = Err LaneNoMemory in r) refl)

pub returns-in_default-propose-clause-front : goal.returns-in_default-propose-clause-front
returns-in_default-propose-clause-front g c =
    ap (λ (z : LaneView g.row.D.Denot g.row.T.Denot). z.front) c.self.view_is

pub returns-in_default-clause-goes : goal.returns-in_default-clause-goes
returns-in_default-clause-goes g c =
    let v : LaneView g.row.D.Denot g.row.T.Denot = record { part = c.self.inside.journal; book = c.self.inside.book; front = c.self.inside.front; link = c.self.inside.link; tasks = c.self.inside.tasks; place = c.self.inside.place; start = c.self.inside.start; stopped = c.self.inside.stopped } in
    subst (λ (z : LaneView g.row.D.Denot g.row.T.Denot). Goes g.D.Disk.downs g.D.Disk.deads z v) c.self.view_is (goes_none g.D.Disk.downs g.D.Disk.deads v)

pub invariant_of-self-then-is_empty : goal.invariant_of-self-then-is_empty
invariant_of-self-then-is_empty g c =
    let v : LaneView g.row.D.Denot g.row.T.Denot = record { part = c.self.inside.journal; book = c.self.inside.book; front = c.self.inside.front; link = c.self.inside.link; tasks = c.self.inside.tasks; place = c.self.inside.place; start = c.self.inside.start; stopped = c.self.inside.stopped } in
    let on : IsTrue v.part.up = subst (λ (z : LaneView g.row.D.Denot g.row.T.Denot). IsTrue z.part.up) (sym c.self.view_is) c.requires.up in
    let rest = c.up-up.ensures.rest on in
    let within : c.args.judged ≤ length v.book.hand = subst (λ (z : LaneView g.row.D.Denot g.row.T.Denot). c.args.judged ≤ length z.book.hand) (sym c.self.view_is) c.requires.within in
    let us = ap (λ (l : List Upload). take c.args.judged l) c.hand.ensures in
    let ready = ready_at g.D.Disk.downs g.D.Disk.deads v c.records.result.now (take c.args.judged c.hand.result.now) c.args.judged c.in-Ok.block.records.items c.in-Ok.block.answers.items c.records.ensures.records us c.in-Ok.ensures.ready in
    let listed = subst (λ (l : List Record). Lists c.judge_all.new.catalog l c.in-Ok.block.records.items) c.records.ensures.records c.in-Ok.ensures.lists in
    let none : c.in-Ok.block.records.items ≡ [] = nil_from_length c.in-Ok.block.records.items (grind (arith, common_steps, c.is_empty.ensures, c.if-is_empty.true)) in
    let done = lane_answers g.D.Disk.downs g.D.Disk.deads c.self.inside.catalog c.judge_all.new.catalog v c.propose.new.self c.settle-then-is_empty.new.self c.args.judged c.in-Ok.block.records.items c.in-Ok.block.answers.items c.self.invariant rest.fate none within listed ready c.in-Ok-propose.ensures.ok c.settle-then-is_empty.ensures in
    done.0

pub returns-then-is_empty-clause-goes : goal.returns-then-is_empty-clause-goes
returns-then-is_empty-clause-goes g c =
    let v : LaneView g.row.D.Denot g.row.T.Denot = record { part = c.self.inside.journal; book = c.self.inside.book; front = c.self.inside.front; link = c.self.inside.link; tasks = c.self.inside.tasks; place = c.self.inside.place; start = c.self.inside.start; stopped = c.self.inside.stopped } in
    let on : IsTrue v.part.up = subst (λ (z : LaneView g.row.D.Denot g.row.T.Denot). IsTrue z.part.up) (sym c.self.view_is) c.requires.up in
    let rest = c.up-up.ensures.rest on in
    let within : c.args.judged ≤ length v.book.hand = subst (λ (z : LaneView g.row.D.Denot g.row.T.Denot). c.args.judged ≤ length z.book.hand) (sym c.self.view_is) c.requires.within in
    let us = ap (λ (l : List Upload). take c.args.judged l) c.hand.ensures in
    let ready = ready_at g.D.Disk.downs g.D.Disk.deads v c.records.result.now (take c.args.judged c.hand.result.now) c.args.judged c.in-Ok.block.records.items c.in-Ok.block.answers.items c.records.ensures.records us c.in-Ok.ensures.ready in
    let listed = subst (λ (l : List Record). Lists c.judge_all.new.catalog l c.in-Ok.block.records.items) c.records.ensures.records c.in-Ok.ensures.lists in
    let none : c.in-Ok.block.records.items ≡ [] = nil_from_length c.in-Ok.block.records.items (grind (arith, common_steps, c.is_empty.ensures, c.if-is_empty.true)) in
    let done = lane_answers g.D.Disk.downs g.D.Disk.deads c.self.inside.catalog c.judge_all.new.catalog v c.propose.new.self c.settle-then-is_empty.new.self c.args.judged c.in-Ok.block.records.items c.in-Ok.block.answers.items c.self.invariant rest.fate none within listed ready c.in-Ok-propose.ensures.ok c.settle-then-is_empty.ensures in
    subst (λ (z : LaneView g.row.D.Denot g.row.T.Denot). Goes g.D.Disk.downs g.D.Disk.deads z (record v { book = c.settle-then-is_empty.new.self })) c.self.view_is done.1

pub returns-then-is_empty-clause-counts : goal.returns-then-is_empty-clause-counts
returns-then-is_empty-clause-counts g c =
    let v : LaneView g.row.D.Denot g.row.T.Denot = record { part = c.self.inside.journal; book = c.self.inside.book; front = c.self.inside.front; link = c.self.inside.link; tasks = c.self.inside.tasks; place = c.self.inside.place; start = c.self.inside.start; stopped = c.self.inside.stopped } in
    let on : IsTrue v.part.up = subst (λ (z : LaneView g.row.D.Denot g.row.T.Denot). IsTrue z.part.up) (sym c.self.view_is) c.requires.up in
    let rest = c.up-up.ensures.rest on in
    subst (λ (z : LaneView g.row.D.Denot g.row.T.Denot). CountsStops g.D.Disk.downs g.D.Disk.deads (let r : Result Appended LaneFault = Ok Done in r ≡ Err LaneStopped) z.part.left v.part.left z.part.disk v.part.disk) c.self.view_is (counts_same g.D.Disk.downs g.D.Disk.deads (let r : Result Appended LaneFault = Ok Done in r ≡ Err LaneStopped) v.part v.part refl rest.borne (λ e. ok_runs (let r : Result Appended LaneFault = Ok Done in r) Done refl e))

pub returns-then-is_empty-clause-stopped : goal.returns-then-is_empty-clause-stopped
returns-then-is_empty-clause-stopped g c =
    let v : LaneView g.row.D.Denot g.row.T.Denot = record { part = c.self.inside.journal; book = c.self.inside.book; front = c.self.inside.front; link = c.self.inside.link; tasks = c.self.inside.tasks; place = c.self.inside.place; start = c.self.inside.start; stopped = c.self.inside.stopped } in
    let on : IsTrue v.part.up = subst (λ (z : LaneView g.row.D.Denot g.row.T.Denot). IsTrue z.part.up) (sym c.self.view_is) c.requires.up in
    calm_told (let r : Result Appended LaneFault = Ok Done in r) v.stopped (not_stopped g.D.Disk.downs g.D.Disk.deads c.self.inside.catalog v c.self.invariant on) (ok_runs (let r : Result Appended LaneFault = Ok Done in r) Done refl)

pub returns-then-is_empty-clause-done : goal.returns-then-is_empty-clause-done
returns-then-is_empty-clause-done g c =
    let v : LaneView g.row.D.Denot g.row.T.Denot = record { part = c.self.inside.journal; book = c.self.inside.book; front = c.self.inside.front; link = c.self.inside.link; tasks = c.self.inside.tasks; place = c.self.inside.place; start = c.self.inside.start; stopped = c.self.inside.stopped } in
    let on : IsTrue v.part.up = subst (λ (z : LaneView g.row.D.Denot g.row.T.Denot). IsTrue z.part.up) (sym c.self.view_is) c.requires.up in
    let rest = c.up-up.ensures.rest on in
    let within : c.args.judged ≤ length v.book.hand = subst (λ (z : LaneView g.row.D.Denot g.row.T.Denot). c.args.judged ≤ length z.book.hand) (sym c.self.view_is) c.requires.within in
    let us = ap (λ (l : List Upload). take c.args.judged l) c.hand.ensures in
    let ready = ready_at g.D.Disk.downs g.D.Disk.deads v c.records.result.now (take c.args.judged c.hand.result.now) c.args.judged c.in-Ok.block.records.items c.in-Ok.block.answers.items c.records.ensures.records us c.in-Ok.ensures.ready in
    let listed = subst (λ (l : List Record). Lists c.judge_all.new.catalog l c.in-Ok.block.records.items) c.records.ensures.records c.in-Ok.ensures.lists in
    let none : c.in-Ok.block.records.items ≡ [] = nil_from_length c.in-Ok.block.records.items (grind (arith, common_steps, c.is_empty.ensures, c.if-is_empty.true)) in
    let done = lane_answers g.D.Disk.downs g.D.Disk.deads c.self.inside.catalog c.judge_all.new.catalog v c.propose.new.self c.settle-then-is_empty.new.self c.args.judged c.in-Ok.block.records.items c.in-Ok.block.answers.items c.self.invariant rest.fate none within listed ready c.in-Ok-propose.ensures.ok c.settle-then-is_empty.ensures in
    λ e. subst (λ (z : LaneView g.row.D.Denot g.row.T.Denot). IsJudged c.args.judged z (record v { book = c.settle-then-is_empty.new.self })) c.self.view_is (record { up = on; hand = done.2.0; told = done.2.1 })

pub returns-then-is_empty-clause-front : goal.returns-then-is_empty-clause-front
returns-then-is_empty-clause-front g c =
    ap (λ (z : LaneView g.row.D.Denot g.row.T.Denot). z.front) c.self.view_is

pub append-outcome-requires-clause-up : goal.append-outcome-requires-clause-up
append-outcome-requires-clause-up g c =
    let v : LaneView g.row.D.Denot g.row.T.Denot = record { part = c.self.inside.journal; book = c.self.inside.book; front = c.self.inside.front; link = c.self.inside.link; tasks = c.self.inside.tasks; place = c.self.inside.place; start = c.self.inside.start; stopped = c.self.inside.stopped } in
    let on : IsTrue v.part.up = subst (λ (z : LaneView g.row.D.Denot g.row.T.Denot). IsTrue z.part.up) (sym c.self.view_is) c.requires.up in
    on

pub append-outcome-requires-clause-allowed : goal.append-outcome-requires-clause-allowed
append-outcome-requires-clause-allowed g c =
    let v : LaneView g.row.D.Denot g.row.T.Denot = record { part = c.self.inside.journal; book = c.self.inside.book; front = c.self.inside.front; link = c.self.inside.link; tasks = c.self.inside.tasks; place = c.self.inside.place; start = c.self.inside.start; stopped = c.self.inside.stopped } in
    let on : IsTrue v.part.up = subst (λ (z : LaneView g.row.D.Denot g.row.T.Denot). IsTrue z.part.up) (sym c.self.view_is) c.requires.up in
    let rest = c.up-up.ensures.rest on in
    let within : c.args.judged ≤ length v.book.hand = subst (λ (z : LaneView g.row.D.Denot g.row.T.Denot). c.args.judged ≤ length z.book.hand) (sym c.self.view_is) c.requires.within in
    let us = ap (λ (l : List Upload). take c.args.judged l) c.hand.ensures in
    let ready = ready_at g.D.Disk.downs g.D.Disk.deads v c.records.result.now (take c.args.judged c.hand.result.now) c.args.judged c.in-Ok.block.records.items c.in-Ok.block.answers.items c.records.ensures.records us c.in-Ok.ensures.ready in
    block_allowed g.D.Disk.downs g.D.Disk.deads v c.in-Ok.block.records.items c.in-Ok.block.answers.items (take c.args.judged v.book.hand) ready

pub append-outcome-requires-clause-size : goal.append-outcome-requires-clause-size
append-outcome-requires-clause-size g c =
    let v : LaneView g.row.D.Denot g.row.T.Denot = record { part = c.self.inside.journal; book = c.self.inside.book; front = c.self.inside.front; link = c.self.inside.link; tasks = c.self.inside.tasks; place = c.self.inside.place; start = c.self.inside.start; stopped = c.self.inside.stopped } in
    let on : IsTrue v.part.up = subst (λ (z : LaneView g.row.D.Denot g.row.T.Denot). IsTrue z.part.up) (sym c.self.view_is) c.requires.up in
    let rest = c.up-up.ensures.rest on in
    let within : c.args.judged ≤ length v.book.hand = subst (λ (z : LaneView g.row.D.Denot g.row.T.Denot). c.args.judged ≤ length z.book.hand) (sym c.self.view_is) c.requires.within in
    let us = ap (λ (l : List Upload). take c.args.judged l) c.hand.ensures in
    let ready = ready_at g.D.Disk.downs g.D.Disk.deads v c.records.result.now (take c.args.judged c.hand.result.now) c.args.judged c.in-Ok.block.records.items c.in-Ok.block.answers.items c.records.ensures.records us c.in-Ok.ensures.ready in
    ready_fits (env v) (records v) c.in-Ok.block.records.items c.in-Ok.block.answers.items (take c.args.judged v.book.hand) ready (few_judged g.D.Disk.downs g.D.Disk.deads v c.args.judged within c.self.invariant.few)

pub returns-clause-counts : goal.returns-clause-counts
returns-clause-counts g c =
    let v : LaneView g.row.D.Denot g.row.T.Denot = record { part = c.self.inside.journal; book = c.self.inside.book; front = c.self.inside.front; link = c.self.inside.link; tasks = c.self.inside.tasks; place = c.self.inside.place; start = c.self.inside.start; stopped = c.self.inside.stopped } in
    subst (λ (z : LaneView g.row.D.Denot g.row.T.Denot). CountsStops g.D.Disk.downs g.D.Disk.deads (c.of_lane.result ≡ Err LaneStopped) z.part.left c.append-outcome.new.self.left z.part.disk c.append-outcome.new.self.disk) c.self.view_is
    (lane_counts g.D.Disk.downs g.D.Disk.deads c.append-outcome.result c.of_lane.result v.part.left c.append-outcome.new.self.left v.part.disk c.append-outcome.new.self.disk c.of_lane.ensures c.append-outcome.ensures.counts)

pub returns-clause-stopped : goal.returns-clause-stopped
returns-clause-stopped g c =
    lane_told c.append-outcome.result c.of_lane.result c.has_stopped-self-inside.result c.of_lane.ensures c.has_stopped-self-inside.ensures

pub returns-clause-done : goal.returns-clause-done
returns-clause-done g c =
    let v : LaneView g.row.D.Denot g.row.T.Denot = record { part = c.self.inside.journal; book = c.self.inside.book; front = c.self.inside.front; link = c.self.inside.link; tasks = c.self.inside.tasks; place = c.self.inside.place; start = c.self.inside.start; stopped = c.self.inside.stopped } in
    let on : IsTrue v.part.up = subst (λ (z : LaneView g.row.D.Denot g.row.T.Denot). IsTrue z.part.up) (sym c.self.view_is) c.requires.up in
    let rest = c.up-up.ensures.rest on in
    let within : c.args.judged ≤ length v.book.hand = subst (λ (z : LaneView g.row.D.Denot g.row.T.Denot). c.args.judged ≤ length z.book.hand) (sym c.self.view_is) c.requires.within in
    let us = ap (λ (l : List Upload). take c.args.judged l) c.hand.ensures in
    let ready = ready_at g.D.Disk.downs g.D.Disk.deads v c.records.result.now (take c.args.judged c.hand.result.now) c.args.judged c.in-Ok.block.records.items c.in-Ok.block.answers.items c.records.ensures.records us c.in-Ok.ensures.ready in
    let settled = c.settle-2.ensures ∙ ap (λ (f : Option Bool). settled_by f c.propose.new.self) (c.fate.ensures.fate ∙ sym c.fate-2.ensures.fate) in
    λ e. subst (λ (z : LaneView g.row.D.Denot g.row.T.Denot). IsJudged c.args.judged z (record v { part = c.append-outcome.new.self; book = c.settle-2.new.self; stopped = c.has_stopped-self-inside.result })) c.self.view_is
    (judged_by_done g.D.Disk.downs g.D.Disk.deads v c.append-outcome.new.self c.fate-2.result c.propose.new.self c.settle-2.new.self c.has_stopped-self-inside.result c.args.judged c.in-Ok.block.records.items c.in-Ok.block.answers.items within ready c.fate-2.ensures.fate c.in-Ok-propose.ensures.ok settled
    (c.append-outcome.ensures.done (ok_of_lane c.append-outcome.result Done (sym c.of_lane.ensures ∙ e))))

pub returns-clause-kept : goal.returns-clause-kept
returns-clause-kept g c =
    let v : LaneView g.row.D.Denot g.row.T.Denot = record { part = c.self.inside.journal; book = c.self.inside.book; front = c.self.inside.front; link = c.self.inside.link; tasks = c.self.inside.tasks; place = c.self.inside.place; start = c.self.inside.start; stopped = c.self.inside.stopped } in
    let on : IsTrue v.part.up = subst (λ (z : LaneView g.row.D.Denot g.row.T.Denot). IsTrue z.part.up) (sym c.self.view_is) c.requires.up in
    let rest = c.up-up.ensures.rest on in
    let within : c.args.judged ≤ length v.book.hand = subst (λ (z : LaneView g.row.D.Denot g.row.T.Denot). c.args.judged ≤ length z.book.hand) (sym c.self.view_is) c.requires.within in
    let us = ap (λ (l : List Upload). take c.args.judged l) c.hand.ensures in
    let ready = ready_at g.D.Disk.downs g.D.Disk.deads v c.records.result.now (take c.args.judged c.hand.result.now) c.args.judged c.in-Ok.block.records.items c.in-Ok.block.answers.items c.records.ensures.records us c.in-Ok.ensures.ready in
    let settled = c.settle-2.ensures ∙ ap (λ (f : Option Bool). settled_by f c.propose.new.self) (c.fate.ensures.fate ∙ sym c.fate-2.ensures.fate) in
    λ e. subst (λ (z : LaneView g.row.D.Denot g.row.T.Denot). IsJudged c.args.judged z (record v { part = c.append-outcome.new.self; book = c.settle-2.new.self; stopped = c.has_stopped-self-inside.result })) c.self.view_is
    (judged_by_kept g.D.Disk.downs g.D.Disk.deads v c.append-outcome.new.self c.fate-2.result c.propose.new.self c.settle-2.new.self c.has_stopped-self-inside.result c.args.judged c.in-Ok.block.records.items c.in-Ok.block.answers.items within ready c.fate-2.ensures.fate c.in-Ok-propose.ensures.ok settled
    (c.append-outcome.ensures.kept (ok_of_lane c.append-outcome.result Kept (sym c.of_lane.ensures ∙ e))))

pub returns-clause-lost : goal.returns-clause-lost
returns-clause-lost g c =
    let v : LaneView g.row.D.Denot g.row.T.Denot = record { part = c.self.inside.journal; book = c.self.inside.book; front = c.self.inside.front; link = c.self.inside.link; tasks = c.self.inside.tasks; place = c.self.inside.place; start = c.self.inside.start; stopped = c.self.inside.stopped } in
    let settled = c.settle-2.ensures ∙ ap (λ (f : Option Bool). settled_by f c.propose.new.self) (c.fate.ensures.fate ∙ sym c.fate-2.ensures.fate) in
    λ e. subst (λ (z : LaneView g.row.D.Denot g.row.T.Denot). IsBackWith z (record v { part = c.append-outcome.new.self; book = c.settle-2.new.self; stopped = c.has_stopped-self-inside.result })) c.self.view_is
    (back_by_lost g.D.Disk.downs g.D.Disk.deads v c.append-outcome.new.self c.fate-2.result c.propose.new.self c.settle-2.new.self c.has_stopped-self-inside.result c.args.judged c.in-Ok.block.records.items c.in-Ok.block.answers.items c.fate-2.ensures.fate c.in-Ok-propose.ensures.ok settled
    (c.append-outcome.ensures.lost (ok_of_lane c.append-outcome.result Lost (sym c.of_lane.ensures ∙ e))))

pub returns-clause-front : goal.returns-clause-front
returns-clause-front g c =
    ap (λ (z : LaneView g.row.D.Denot g.row.T.Denot). z.front) c.self.view_is
