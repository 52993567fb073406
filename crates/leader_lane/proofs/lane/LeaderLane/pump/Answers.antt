use Rattle.std.proofs.Common.{◌≡◌, Result, Ok, Err, sym, ap, ◌∙◌, refl}
use Rattle.lane_records.specs.declared.place.LaneFault.{LaneFault}
use Rattle.lane_records.specs.declared.place.LaneFault.TheVariants.{Stopped as LaneStopped}
use Rattle.leader_lane.specs.declared.pumped.Pumped.{Pumped}
use Rattle.leader_lane.specs.declared.pumped.Pumped.TheVariants.{Took, Empty}
use Rattle.leader_lane.proofs.CallLaws.{pumps_one, counts_behind, calm_told, ok_runs, err_as}
use Rattle.leader_lane.proofs.lane.LeaderLane.pump.Goals as goal

pub returns-in-Ok-eq0-clause-counts : goal.returns-in-Ok-eq0-clause-counts
returns-in-Ok-eq0-clause-counts g c =
    counts_behind g.D.Disk.downs g.D.Disk.deads (c.pump_many.result ≡ Err LaneStopped) (let r : Result Pumped LaneFault = Ok Empty in r ≡ Err LaneStopped) c.args.self.now.part c.args.self.now.part c.pump_many.new.self.part refl
    (λ e. absurd (ok_runs c.pump_many.result c.in-Ok-eq0.field-0 c.in-Ok-eq0.is e)) (λ e. absurd (ok_runs (let r : Result Pumped LaneFault = Ok Empty in r) Empty refl e)) c.pump_many.ensures.counts

pub returns-in-Ok-eq0-clause-stopped : goal.returns-in-Ok-eq0-clause-stopped
returns-in-Ok-eq0-clause-stopped g c =
    calm_told (let r : Result Pumped LaneFault = Ok Empty in r) c.pump_many.new.self.stopped (λ h. ok_runs c.pump_many.result c.in-Ok-eq0.field-0 c.in-Ok-eq0.is (c.pump_many.ensures.stopped.0 h)) (ok_runs (let r : Result Pumped LaneFault = Ok Empty in r) Empty refl)

pub returns-in-Ok-clause-counts : goal.returns-in-Ok-clause-counts
returns-in-Ok-clause-counts g c =
    counts_behind g.D.Disk.downs g.D.Disk.deads (c.pump_many.result ≡ Err LaneStopped) (let r : Result Pumped LaneFault = Ok Took in r ≡ Err LaneStopped) c.args.self.now.part c.args.self.now.part c.pump_many.new.self.part refl
    (λ e. absurd (ok_runs c.pump_many.result c.in-Ok.field-0 c.in-Ok.is e)) (λ e. absurd (ok_runs (let r : Result Pumped LaneFault = Ok Took in r) Took refl e)) c.pump_many.ensures.counts

pub returns-in-Ok-clause-stopped : goal.returns-in-Ok-clause-stopped
returns-in-Ok-clause-stopped g c =
    calm_told (let r : Result Pumped LaneFault = Ok Took in r) c.pump_many.new.self.stopped (λ h. ok_runs c.pump_many.result c.in-Ok.field-0 c.in-Ok.is (c.pump_many.ensures.stopped.0 h)) (ok_runs (let r : Result Pumped LaneFault = Ok Took in r) Took refl)

pub returns-in-Err-clause-counts : goal.returns-in-Err-clause-counts
returns-in-Err-clause-counts g c =
    counts_behind g.D.Disk.downs g.D.Disk.deads (c.pump_many.result ≡ Err LaneStopped) (let r : Result Pumped LaneFault = Err c.in-Err.fault in r ≡ Err LaneStopped) c.args.self.now.part c.args.self.now.part c.pump_many.new.self.part refl
    (λ e. err_as c.in-Err.fault (sym c.in-Err.is ∙ e)) (λ e. c.in-Err.is ∙ err_as c.in-Err.fault e) c.pump_many.ensures.counts

pub returns-in-Err-clause-stopped : goal.returns-in-Err-clause-stopped
returns-in-Err-clause-stopped g c =
    let t = c.pump_many.ensures.stopped in
    ((λ h. err_as c.in-Err.fault (sym c.in-Err.is ∙ t.0 h)), (λ e. t.1 (c.in-Err.is ∙ err_as c.in-Err.fault e)))

pub returns-in-Ok-eq0-clause-empty : goal.returns-in-Ok-eq0-clause-empty
returns-in-Ok-eq0-clause-empty g c = λ e. c.in-Ok-eq0.ensures.none (ap Ok c.in-Ok-eq0.field-0-test)

pub returns-in-Ok-clause-took : goal.returns-in-Ok-clause-took
returns-in-Ok-clause-took g c = λ e. pumps_one g.D.Disk.downs g.D.Disk.deads c.in-Ok.field-0 c.args.self.now c.pump_many.new.self c.in-Ok.ensures.took c.in-Ok.field-0-test.1
