use Rattle.std.proofs.Common.{◌≡◌, ◌⊎◌, ◌++◌, ℕ, ◌+◌, List, [], ◌∷◌, Some, Vec, length, drop, ap, sym, ◌∙◌, subst, arith}
use Rattle.std.proofs.lemmas.List.{drop_at}
use Rattle.std.specs.declared.alloc.Global.{Global}
use Rattle.dap_disk.specs.Disk.{LeavesOnly, of_told, written}
use Rattle.report_journal.specs.Journal.{Closed, Stands, behind, with_block}
use Rattle.report_journal.specs.Log.{contents, LogView}
use Rattle.report_journal.proofs.Appends.{both_writes}
use Rattle.report_journal.proofs.Logs.{append_run, appended_log}
use Rattle.report_journal.proofs.log.Log.append.Goals as goal

pub invariant_of-self-in-Ok : goal.invariant_of-self-in-Ok
invariant_of-self-in-Ok g c =
    let disk = g.D.Disk in
    let up = ap (λ (v : LogView g.row.D.Denot). v.up) c.self.view_is ∙ c.requires.up in
    let n = c.self.inside.durable in
    let kept = c.keep_copies.new.held.items in
    let copies = c.in_ok-keep_copies.ensures.ok in
    let later : contents (drop n kept) ≡ contents c.args.records.now =
    ap (λ (l : List (Vec ℕ Global)). contents (drop n l)) copies.1 ∙ ap (λ (l : List (Vec ℕ Global)). contents l) (drop_at c.self.inside.records.items copies.0 n (sym (c.self.invariant.all up))) ∙ copies.2 in
    let written_len : length c.in_ok-bytes.bytes.items ≡ length (behind (contents c.args.records.now)) = ap length c.in_ok-bytes.ensures in
    let turned : length (behind (contents c.args.records.now)) ≡ length (behind (contents (drop n kept))) = ap (λ (k : List (List ℕ)). length (behind k)) (sym later) in
    let size : c.len-size.result ≡ length (behind (contents (drop n kept))) = omega (arith, c.len-size.ensures, written_len, turned) in
    appended_log disk.holds disk.up disk.may_leave c.write_block.new.disk kept c.deref.result.now n c.len-self-inside.result c.self.inside.gate c.len-size.result c.self.inside.up
    c.deref.ensures.value (omega (arith, c.len-self-inside.ensures)) (omega (arith, c.if-gate-size.false)) size c.in-Ok.ensures.up c.in-Ok.ensures.held c.in-Ok.ensures.durable

pub returns-in-Ok-clause-file : goal.returns-in-Ok-clause-file
returns-in-Ok-clause-file g c =
    let q = c.self.inside.gate in
    let k = contents c.args.records.now in
    let up = ap (λ (v : LogView g.row.D.Denot). v.up) c.self.view_is ∙ c.requires.up in
    let bytes = c.deref-2.ensures.value ∙ c.in_ok-bytes.ensures in
    subst (λ (v : LogView g.row.D.Denot). (f : List ℕ) → g.D.Disk.holds v.disk ≡ Some f → (p : ℕ) × Closed v.records p f × (g.D.Disk.holds c.write_block.new.disk ≡ Some (with_block p k f))) c.self.view_is
    (λ f is.
    let closed = (c.self.invariant.standing up).held f is in (
      q,
      closed,
      c.in-Ok.ensures.file ∙ ap (of_told (λ l. written q (1 ∷ []) (written (q + 1) c.deref-2.result.now l))) is
          ∙ ap (λ (l : List ℕ). Some (written q (1 ∷ []) (written (q + 1) l f))) bytes ∙ ap Some (both_writes k q f closed.within),
    ))

pub returns-in-Ok-clause-any_moment : goal.returns-in-Ok-clause-any_moment
returns-in-Ok-clause-any_moment g c =
    let copies = c.in_ok-keep_copies.ensures.ok in
    let up = ap (λ (v : LogView g.row.D.Denot). v.up) c.self.view_is ∙ c.requires.up in
    subst (λ (v : LogView g.row.D.Denot). LeavesOnly g.D.Disk.moment g.D.Disk.left_since v.disk c.write_block.new.disk (λ f. Stands v.records f ⊎ Stands (v.records ++ contents c.args.records.now) f)) c.self.view_is
    (append_run g.D.Disk.moment g.D.Disk.left_since c.self.inside.disk c.write_block.new.disk c.self.inside.records.items copies.0 c.deref.result.now (contents c.args.records.now) c.self.inside.durable c.self.inside.gate
    (c.deref.ensures.value ∙ copies.1) copies.2 (c.self.invariant.all up) c.write_block.ensures.any_moment)

pub returns-in-Err-NoMemory-clause-any_moment : goal.returns-in-Err-NoMemory-clause-any_moment
returns-in-Err-NoMemory-clause-any_moment g c =
    let copies = c.in_ok-keep_copies.ensures.ok in
    let up = ap (λ (v : LogView g.row.D.Denot). v.up) c.self.view_is ∙ c.requires.up in
    subst (λ (v : LogView g.row.D.Denot). LeavesOnly g.D.Disk.moment g.D.Disk.left_since v.disk c.write_block.new.disk (λ f. Stands v.records f ⊎ Stands (v.records ++ contents c.args.records.now) f)) c.self.view_is
    (append_run g.D.Disk.moment g.D.Disk.left_since c.self.inside.disk c.write_block.new.disk c.self.inside.records.items copies.0 c.deref.result.now (contents c.args.records.now) c.self.inside.durable c.self.inside.gate
    (c.deref.ensures.value ∙ copies.1) copies.2 (c.self.invariant.all up) c.write_block.ensures.any_moment)

pub returns-clause-any_moment : goal.returns-clause-any_moment
returns-clause-any_moment g c =
    let copies = c.in_ok-keep_copies.ensures.ok in
    let up = ap (λ (v : LogView g.row.D.Denot). v.up) c.self.view_is ∙ c.requires.up in
    subst (λ (v : LogView g.row.D.Denot). LeavesOnly g.D.Disk.moment g.D.Disk.left_since v.disk c.write_block.new.disk (λ f. Stands v.records f ⊎ Stands (v.records ++ contents c.args.records.now) f)) c.self.view_is
    (append_run g.D.Disk.moment g.D.Disk.left_since c.self.inside.disk c.write_block.new.disk c.self.inside.records.items copies.0 c.deref.result.now (contents c.args.records.now) c.self.inside.durable c.self.inside.gate
    (c.deref.ensures.value ∙ copies.1) copies.2 (c.self.invariant.all up) c.write_block.ensures.any_moment)
