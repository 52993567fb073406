use Rattle.std.proofs.Common.{◌≡◌, ◌≤◌, ℕ, Result, Ok, Err, IsTrue, length, min, sym, subst, ap, ◌∙◌, refl}
use Rattle.std.proofs.lemmas.Bool.{false≢true}
use Rattle.lane_records.specs.declared.place.LaneFault.{LaneFault}
use Rattle.lane_records.specs.declared.place.LaneFault.TheVariants.{Stopped as LaneStopped}
use Rattle.lane_records.specs.declared.record.Record.{Record}
use Rattle.part_journal.specs.Part.{PartView}
use Rattle.leader_lane.specs.Lane.{Pumps}
use Rattle.leader_lane.proofs.CallLaws.{goes_then, pumps_judged, pumps_none, finds_none, counts_same, counts_behind, calm_told, ok_runs, err_as}
use Rattle.leader_lane.proofs.lane.LeaderLane.pump_many.Goals as goal

pub returns-in-Ok-judge_hand-clause-goes : goal.returns-in-Ok-judge_hand-clause-goes
returns-in-Ok-judge_hand-clause-goes g c = goes_then g.D.Disk.downs g.D.Disk.deads c.args.self.now c.fill.new.self c.judge_hand.new.self c.fill.ensures.goes c.judge_hand.ensures.goes

pub returns-in-Err-judge_hand-clause-goes : goal.returns-in-Err-judge_hand-clause-goes
returns-in-Err-judge_hand-clause-goes g c = goes_then g.D.Disk.downs g.D.Disk.deads c.args.self.now c.fill.new.self c.judge_hand.new.self c.fill.ensures.goes c.judge_hand.ensures.goes

pub returns-in-Err-clause-counts : goal.returns-in-Err-clause-counts
returns-in-Err-clause-counts g c =
    counts_same g.D.Disk.downs g.D.Disk.deads (let r : Result ℕ LaneFault = Err c.in-Err.fault in r ≡ Err LaneStopped) c.args.self.now.part c.fill.new.self.part c.fill.ensures.part.0 (c.up-up.ensures.rest c.requires.up).borne (λ e. c.fill.ensures.memory (c.in-Err.is ∙ err_as c.in-Err.fault e))

pub returns-in-Err-clause-stopped : goal.returns-in-Err-clause-stopped
returns-in-Err-clause-stopped g c =
    calm_told (let r : Result ℕ LaneFault = Err c.in-Err.fault in r) c.fill.new.self.stopped (λ h. false≢true (sym (c.fill.ensures.part.1 ∙ c.up-up.ensures.calm c.requires.up) ∙ h)) (λ e. c.fill.ensures.memory (c.in-Err.is ∙ err_as c.in-Err.fault e))

pub returns-then-judged-eq0-clause-took : goal.returns-then-judged-eq0-clause-took
returns-then-judged-eq0-clause-took g c =
    let up = subst (λ (p : PartView g.row.D.Denot Record). IsTrue p.up) (sym c.fill.ensures.part.0) c.requires.up in
    let judged : c.min-judged.result ≡ min (length c.fill.new.self.book.hand) c.from-most.result = c.min-judged.ensures ∙ ap (λ (n : ℕ). min n c.from-most.result) c.hand_len.ensures in
    let is : c.from-most.result ≡ c.args.most = c.from-most.ensures in
    let some : 1 ≤ c.from-most.result = subst (λ (k : ℕ). 1 ≤ k) (sym is) c.requires.some in
    subst (λ (k : ℕ). Pumps k 0 c.args.self.now c.fill.new.self) is (pumps_none g.D.Disk.downs g.D.Disk.deads c.from-most.result c.min-judged.result c.args.self.now c.fill.new.self up c.in-Ok.ensures.fills judged c.if-judged-eq0.true some)

pub returns-then-judged-eq0-clause-none : goal.returns-then-judged-eq0-clause-none
returns-then-judged-eq0-clause-none g c =
    let judged : c.min-judged.result ≡ min (length c.fill.new.self.book.hand) c.from-most.result = c.min-judged.ensures ∙ ap (λ (n : ℕ). min n c.from-most.result) c.hand_len.ensures in
    let is : c.from-most.result ≡ c.args.most = c.from-most.ensures in
    let some : 1 ≤ c.from-most.result = subst (λ (k : ℕ). 1 ≤ k) (sym is) c.requires.some in
    λ e. finds_none g.D.Disk.downs g.D.Disk.deads c.from-most.result c.min-judged.result c.args.self.now c.fill.new.self c.in-Ok.ensures.fills judged c.if-judged-eq0.true some c.fill.ensures.part.0

pub returns-then-judged-eq0-clause-counts : goal.returns-then-judged-eq0-clause-counts
returns-then-judged-eq0-clause-counts g c =
    counts_same g.D.Disk.downs g.D.Disk.deads (let r : Result ℕ LaneFault = Ok 0 in r ≡ Err LaneStopped) c.args.self.now.part c.fill.new.self.part c.fill.ensures.part.0 (c.up-up.ensures.rest c.requires.up).borne (ok_runs (let r : Result ℕ LaneFault = Ok 0 in r) 0 refl)

pub returns-then-judged-eq0-clause-stopped : goal.returns-then-judged-eq0-clause-stopped
returns-then-judged-eq0-clause-stopped g c =
    calm_told (let r : Result ℕ LaneFault = Ok 0 in r) c.fill.new.self.stopped (λ h. false≢true (sym (c.fill.ensures.part.1 ∙ c.up-up.ensures.calm c.requires.up) ∙ h)) (ok_runs (let r : Result ℕ LaneFault = Ok 0 in r) 0 refl)

pub judge_hand-requires-clause-up : goal.judge_hand-requires-clause-up
judge_hand-requires-clause-up g c =
    subst (λ (p : PartView g.row.D.Denot Record). IsTrue p.up) (sym c.fill.ensures.part.0) c.requires.up

pub returns-in-Ok-judge_hand-clause-took : goal.returns-in-Ok-judge_hand-clause-took
returns-in-Ok-judge_hand-clause-took g c =
    let judged : c.min-judged.result ≡ min (length c.fill.new.self.book.hand) c.from-most.result = c.min-judged.ensures ∙ ap (λ (n : ℕ). min n c.from-most.result) c.hand_len.ensures in
    let is : c.from-most.result ≡ c.args.most = c.from-most.ensures in
    subst (λ (k : ℕ). Pumps k c.min-judged.result c.args.self.now c.judge_hand.new.self) is (pumps_judged g.D.Disk.downs g.D.Disk.deads c.from-most.result c.min-judged.result c.args.self.now c.fill.new.self c.judge_hand.new.self c.in-Ok.ensures.fills judged c.in-Ok-judge_hand.ensures.ok c.judge_hand.ensures.front)

pub returns-in-Ok-judge_hand-clause-counts : goal.returns-in-Ok-judge_hand-clause-counts
returns-in-Ok-judge_hand-clause-counts g c =
    counts_behind g.D.Disk.downs g.D.Disk.deads (c.judge_hand.result ≡ Err LaneStopped) (let r : Result ℕ LaneFault = Ok c.min-judged.result in r ≡ Err LaneStopped) c.args.self.now.part c.fill.new.self.part c.judge_hand.new.self.part c.fill.ensures.part.0
    (λ e. absurd (ok_runs c.judge_hand.result tt c.in-Ok-judge_hand.is e)) (λ e. absurd (ok_runs (let r : Result ℕ LaneFault = Ok c.min-judged.result in r) c.min-judged.result refl e)) c.judge_hand.ensures.counts

pub returns-in-Ok-judge_hand-clause-stopped : goal.returns-in-Ok-judge_hand-clause-stopped
returns-in-Ok-judge_hand-clause-stopped g c =
    calm_told (let r : Result ℕ LaneFault = Ok c.min-judged.result in r) c.judge_hand.new.self.stopped (λ h. ok_runs c.judge_hand.result tt c.in-Ok-judge_hand.is (c.judge_hand.ensures.stopped.0 h)) (ok_runs (let r : Result ℕ LaneFault = Ok c.min-judged.result in r) c.min-judged.result refl)

pub returns-in-Err-judge_hand-clause-counts : goal.returns-in-Err-judge_hand-clause-counts
returns-in-Err-judge_hand-clause-counts g c =
    counts_behind g.D.Disk.downs g.D.Disk.deads (c.judge_hand.result ≡ Err LaneStopped) (let r : Result ℕ LaneFault = Err c.in-Err-judge_hand.fault in r ≡ Err LaneStopped) c.args.self.now.part c.fill.new.self.part c.judge_hand.new.self.part c.fill.ensures.part.0
    (λ e. err_as c.in-Err-judge_hand.fault (sym c.in-Err-judge_hand.is ∙ e)) (λ e. c.in-Err-judge_hand.is ∙ err_as c.in-Err-judge_hand.fault e) c.judge_hand.ensures.counts

pub returns-in-Err-judge_hand-clause-stopped : goal.returns-in-Err-judge_hand-clause-stopped
returns-in-Err-judge_hand-clause-stopped g c =
    let t = c.judge_hand.ensures.stopped in
    ((λ h. err_as c.in-Err-judge_hand.fault (sym c.in-Err-judge_hand.is ∙ t.0 h)), (λ e. t.1 (c.in-Err-judge_hand.is ∙ err_as c.in-Err-judge_hand.fault e)))
