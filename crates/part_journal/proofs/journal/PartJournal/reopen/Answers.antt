use Rattle.std.proofs.Common.{◌≡◌, ◌<◌, ◌++◌, ◌∷◌, [], List, ℕ, Ok, ap, sym, ◌∙◌, subst, true}
use Rattle.report_journal.specs.Log.{contents}
use Rattle.part_journal.specs.Pages.{Pages, reopening, reopened}
use Rattle.part_journal.specs.Part.{IsPart}
use Rattle.part_journal.proofs.Parts.{reopened_keeps}
use Rattle.part_journal.proofs.journal.PartJournal.reopen.Goals as goal

pub invariant_of-self-in-Ok-Done : goal.invariant_of-self-in-Ok-Done
invariant_of-self-in-Ok-Done g c =
    let d = c.in-Ok-Done.ensures.done (ap Ok c.in-Ok-Done.field-0-is) in
    let x = c.self.inside.opener in
    let none : c.self.inside.shelf.block ≡ [] = ap (λ v. v.pages.block) c.self.view_is ∙ c.requires.block in
    let bytes = ap (λ v. contents v) c.deref.ensures.value ∙ c.in-Ok-spelled_one.ensures ∙ ap (λ (r : g.row.R.Denot). g.R.Spelled.grammar.spell r ∷ []) c.in-Ok.ensures in
    let is : c.land_open.new.self ≡ reopened (reopening x c.self.inside.shelf) =
    c.land_open.ensures ∙ ap (λ (p : Pages g.row.R.Denot). reopened p) (c.in-Ok-reopen.ensures.ok ∙ ap (λ (r : g.row.R.Denot). reopening r c.self.inside.shelf) c.in-Ok.ensures) in
    let some = subst (λ v. 0 < v.left) (sym c.self.view_is) c.requires.left in
    subst (λ (p : Pages g.row.R.Denot). IsPart g.R.Spelled.grammar g.D.Disk.may_leave c.append_block.new.log p x c.self.inside.opening c.self.inside.left true) (sym is)
    (reopened_keeps g.R.Spelled.grammar g.D.Disk.may_leave c.self.inside.log c.append_block.new.log c.self.inside.shelf x c.self.inside.opening c.self.inside.left c.self.inside.up c.self.invariant none
    (λ e. c.requires.fate (sym (ap (λ v. v.pages.fate) c.self.view_is) ∙ e)) some (d.0 ∙ ap (λ (l : List (List ℕ)). c.self.inside.log.records ++ l) bytes) d.1 d.2 c.append_block.ensures.images)
