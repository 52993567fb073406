use Rattle.std.proofs.Common.{◌≡◌, ◌++◌, inr, inl, ℕ, ◌+◌, List, length, take, drop, Vec, true, ap, sym, refl, ◌∙◌, subst, arith}
use Rattle.std.proofs.lemmas.List.{take_all}
use Rattle.std.specs.declared.alloc.Global.{Global}
use Rattle.report_journal.specs.Journal.{Closed}
use Rattle.report_journal.specs.Log.{contents, LogView}
use Rattle.report_journal.proofs.Logs.{whole_log, opened_held, both_parts}
use Rattle.report_journal.proofs.log.Log.restart.Goals as goal

pub invariant_of-self-then-open_gate : goal.invariant_of-self-then-open_gate
invariant_of-self-then-open_gate g c =
    let kept = c.self.inside.records.items in
    let ok = c.self.inside.records.ok in
    let n : c.len-self-inside.result ≡ length kept = omega (arith, ok, c.len-self-inside.ensures) in
    let held = opened_held kept c.self.inside.durable c.self.inside.gate c.self.inside.size (g.D.Disk.holds c.gate_after_restart.new.disk) (g.D.Disk.may_leave c.self.inside.disk)
    c.self.invariant.sized c.self.invariant.images c.in_ok-open_gate.ensures.image (λ f is lt. (c.in_ok-open_gate.ensures.told f is lt).0 c.if-open_gate.true) in
    whole_log g.D.Disk.holds g.D.Disk.up g.D.Disk.may_leave c.gate_after_restart.new.disk kept c.len-self-inside.result (c.self.inside.gate + c.self.inside.size) true n c.self.invariant.fits
    (record { usable = c.in_ok-open_gate.ensures.up; held = held; images = λ f left. held f (c.in_ok-open_gate.ensures.settled f left) })

pub returns-then-open_gate-clause-records : goal.returns-then-open_gate-clause-records
returns-then-open_gate-clause-records g c =
    let kept = c.self.inside.records.items in
    let ok = c.self.inside.records.ok in
    let n : length kept ≡ c.len-self-inside.result = omega (arith, ok, c.len-self-inside.ensures) in
    let now : contents (take c.len-self-inside.result kept) ≡ contents (take c.self.inside.durable kept) ++ contents (drop c.self.inside.durable kept) =
    ap contents (take_all c.len-self-inside.result kept (omega (arith, n))) ∙ sym (both_parts c.self.inside.durable kept) in
    (refl, inr (now ∙ ap (λ (v : LogView g.row.D.Denot). v.records ++ v.coming) c.self.view_is))

pub returns-then-open_gate-clause-told : goal.returns-then-open_gate-clause-told
returns-then-open_gate-clause-told g c =
    let kept = c.self.inside.records.items in
    let ok = c.self.inside.records.ok in
    let n : length kept ≡ c.len-self-inside.result = omega (arith, ok, c.len-self-inside.ensures) in
    let held = opened_held kept c.self.inside.durable c.self.inside.gate c.self.inside.size (g.D.Disk.holds c.gate_after_restart.new.disk) (g.D.Disk.may_leave c.self.inside.disk)
    c.self.invariant.sized c.self.invariant.images c.in_ok-open_gate.ensures.image (λ f is lt. (c.in_ok-open_gate.ensures.told f is lt).0 c.if-open_gate.true) in
    λ f is. inl (c.self.inside.gate + c.self.inside.size, subst (λ (l : List (Vec ℕ Global)). Closed (contents l) (c.self.inside.gate + c.self.inside.size) f) (sym (take_all c.len-self-inside.result kept (omega (arith, n)))) (held f is))

pub returns-then-open_gate-clause-durable : goal.returns-then-open_gate-clause-durable
returns-then-open_gate-clause-durable g c = λ f left. returns-then-open_gate-clause-told g c f (c.in_ok-open_gate.ensures.settled f left)

pub returns-then-open_gate-clause-images : goal.returns-then-open_gate-clause-images
returns-then-open_gate-clause-images g c = λ f left. inl (returns-then-open_gate-clause-durable g c f left)
