use Rattle.std.proofs.Common.{◌≡◌, ⊎_elim, true, Err, sym, ◌∙◌, ap, subst}
use Rattle.journal_checkpoint.specs.Made.{Checkpoints, FindsNone, IsLast}
use Rattle.journal_checkpoint.specs.Pair.{CountsPair, KeepsRecords}
use Rattle.journal_checkpoint.specs.declared.fault.CheckFault.{CheckFault}
use Rattle.journal_checkpoint.specs.declared.fault.CheckFault.TheVariants as check
use Rattle.journal_checkpoint.proofs.Opened.{disks_turned, headed_file, opened_next, opened_same}
use Rattle.journal_checkpoint.proofs.Outcomes.{few_stay, last_found, later_next, none_found, older_next, packed_keeps, packed_live}
use Rattle.journal_checkpoint.proofs.PairCounts.{counts_as, counts_in_order}
use Rattle.journal_checkpoint.proofs.checkpoint.with_checkpoint.Goals as goal

pub invariant_of-result-clause-fits : goal.invariant_of-result-clause-fits
invariant_of-result-clause-fits g c = (c.in-Ok-true.ensures.packed c.in-Ok-true.field-0-test).room

pub invariant_of-result-clause-held : goal.invariant_of-result-clause-held
invariant_of-result-clause-held g c = λ up f told.
    let disk = g.D.Disk in
    let pair = c.in-Ok.pair in
    let packs = c.in-Ok-true.ensures.packed c.in-Ok-true.field-0-test in
    headed_file (disk.holds pair.other) (disk.holds c.pack_onto.new.other) pair.generation packs.parts packs.done f told

pub invariant_of-result-clause-images : goal.invariant_of-result-clause-images
invariant_of-result-clause-images g c = λ f left.
    let disk = g.D.Disk in
    let pair = c.in-Ok.pair in
    let packs = c.in-Ok-true.ensures.packed c.in-Ok-true.field-0-test in
    headed_file (disk.holds pair.other) (disk.holds c.pack_onto.new.other) pair.generation packs.parts packs.done f (c.in-Ok-true.ensures.durable c.in-Ok-true.field-0-test f left)

pub invariant_of-result-clause-other_synced : goal.invariant_of-result-clause-other_synced
invariant_of-result-clause-other_synced g c = λ f left. c.pack_onto.ensures.same ∙ c.in-Ok.ensures.opened.synced f (c.pack_onto.ensures.images f left)

pub invariant_of-result-clause-older : goal.invariant_of-result-clause-older
invariant_of-result-clause-older g c = λ f left.
    let opened = c.in-Ok.ensures.opened in
    let pair = c.in-Ok.pair in
    older_next pair.second _ pair.generation (opened.head f (opened.synced f (c.pack_onto.ensures.images f left)))

pub invariant_of-result-clause-later : goal.invariant_of-result-clause-later
invariant_of-result-clause-later g c = later_next c.in-Ok.pair.second c.in-Ok.pair.generation

pub returns-in-Ok-true-clause-opened : goal.returns-in-Ok-true-clause-opened
returns-in-Ok-true-clause-opened g c =
    let disk = g.D.Disk in
    let pair = c.in-Ok.pair in
    let packs = c.in-Ok-true.ensures.packed c.in-Ok-true.field-0-test in
    opened_next disk.holds disk.up disk.may_leave pair.second pair.live pair.other c.pack_onto.new.live c.pack_onto.new.other pair.generation packs.parts c.in-Ok.ensures.opened.head c.pack_onto.ensures.same packs.done packs.room (⊎_elim (λ down. absurd (cc (sym c.in-Ok-true.is ∙ down))) (λ both. both.1) c.pack_onto.ensures.up) (c.in-Ok-true.ensures.durable c.in-Ok-true.field-0-test)

pub returns-in-Ok-true-clause-made : goal.returns-in-Ok-true-clause-made
returns-in-Ok-true-clause-made g c =
    let disk = g.D.Disk in
    let law = g.met.D.Disk in
    let pair = c.in-Ok.pair in
    subst (λ (p : g.row.D.Denot × g.row.D.Denot). Checkpoints disk.holds disk.moment disk.left_since disk.may_leave (c.args.a, c.args.b) p c.args.over true) (sym (disks_turned pair.second c.pack_onto.new.live c.pack_onto.new.other))
    (packed_live disk.holds disk.up disk.moment disk.left_since disk.may_leave law.counts_now (c.args.a, c.args.b) c.requires.first_synced c.requires.second_synced
    pair.second pair.live pair.other c.pack_onto.new.live c.pack_onto.new.other pair.generation pair.start c.in-Ok.ensures.unwritten c.in-Ok.ensures.opened
    c.pack_onto.ensures.same c.pack_onto.ensures.live_moments pair.starts pair.older pair.later (λ z told. law.held_may_stay pair.other z pair.other_up told)
    c.args.over (c.in-Ok-true.ensures.packed c.in-Ok-true.field-0-test) c.pack_onto.ensures.other_moments)

pub returns-in-Ok-false-clause-opened : goal.returns-in-Ok-false-clause-opened
returns-in-Ok-false-clause-opened g c =
    let disk = g.D.Disk in
    let pair = c.in-Ok.pair in
    let few = c.in-Ok-false.ensures.few c.in-Ok-false.field-0-test in
    opened_same disk.holds disk.up disk.may_leave pair.second pair.live pair.other c.pack_onto.new.live c.pack_onto.new.other pair.generation pair.start c.in-Ok.ensures.opened
    (⊎_elim (λ down. absurd (cc (sym c.in-Ok-false.is ∙ down))) (λ both. both.0) c.pack_onto.ensures.up) c.pack_onto.ensures.same c.pack_onto.ensures.images few.1

pub returns-in-Ok-false-clause-made : goal.returns-in-Ok-false-clause-made
returns-in-Ok-false-clause-made g c =
    let disk = g.D.Disk in
    let law = g.met.D.Disk in
    let pair = c.in-Ok.pair in
    let few = c.in-Ok-false.ensures.few c.in-Ok-false.field-0-test in
    few_stay disk.holds disk.up disk.moment disk.left_since disk.may_leave law.counts_now (c.args.a, c.args.b) c.requires.first_synced c.requires.second_synced
    pair.second pair.live pair.other c.pack_onto.new.live c.pack_onto.new.other pair.generation pair.start c.in-Ok.ensures.unwritten c.in-Ok.ensures.opened
    c.pack_onto.ensures.same c.pack_onto.ensures.live_moments c.args.over few.0 few.1

pub returns-in-Err-pack_onto-clause-any_moment : goal.returns-in-Err-pack_onto-clause-any_moment
returns-in-Err-pack_onto-clause-any_moment g c =
    let disk = g.D.Disk in
    let law = g.met.D.Disk in
    let pair = c.in-Ok.pair in
    subst (λ (p : g.row.D.Denot × g.row.D.Denot). KeepsRecords disk.holds disk.moment disk.left_since (c.args.a, c.args.b) p) (sym c.in_given_order-a.ensures)
    (packed_keeps disk.holds disk.up disk.moment disk.left_since disk.may_leave law.counts_now (c.args.a, c.args.b) c.requires.first_synced c.requires.second_synced
    pair.second pair.live pair.other c.pack_onto.new.live c.pack_onto.new.other pair.generation pair.start c.in-Ok.ensures.unwritten c.in-Ok.ensures.opened
    c.pack_onto.ensures.same c.pack_onto.ensures.live_moments pair.starts pair.older pair.later (λ z told. law.held_may_stay pair.other z pair.other_up told) c.pack_onto.ensures.other_moments)

pub returns-in-Err-pack_onto-clause-none : goal.returns-in-Err-pack_onto-clause-none
returns-in-Err-pack_onto-clause-none g c = λ at is.
    let disk = g.D.Disk in
    let law = g.met.D.Disk in
    let pair = c.in-Ok.pair in
    let none = c.pack_onto.ensures.none at (c.in-Err-pack_onto.is ∙ ap (λ (f : CheckFault). Err f) is) in
    subst (λ (p : g.row.D.Denot × g.row.D.Denot). FindsNone disk.holds disk.moment disk.left_since disk.may_leave (c.args.a, c.args.b) p at) (sym c.in_given_order-a.ensures)
    (none_found disk.holds disk.up disk.moment disk.left_since disk.may_leave law.counts_now (c.args.a, c.args.b) c.requires.first_synced c.requires.second_synced
    pair.second pair.live pair.other c.pack_onto.new.live c.pack_onto.new.other pair.generation pair.start c.in-Ok.ensures.unwritten c.in-Ok.ensures.opened
    c.pack_onto.ensures.same c.pack_onto.ensures.live_moments at none.0 none.1)

pub returns-in-Err-pack_onto-clause-last : goal.returns-in-Err-pack_onto-clause-last
returns-in-Err-pack_onto-clause-last g c = λ is.
    let disk = g.D.Disk in
    let law = g.met.D.Disk in
    let pair = c.in-Ok.pair in
    let last = c.pack_onto.ensures.last (c.in-Err-pack_onto.is ∙ ap (λ (f : CheckFault). Err f) is) in
    subst (λ (p : g.row.D.Denot × g.row.D.Denot). IsLast disk.holds disk.moment disk.left_since disk.may_leave (c.args.a, c.args.b) p c.args.over) (sym c.in_given_order-a.ensures)
    (last_found disk.holds disk.up disk.moment disk.left_since disk.may_leave law.counts_now (c.args.a, c.args.b) c.requires.first_synced c.requires.second_synced
    pair.second pair.live pair.other c.pack_onto.new.live c.pack_onto.new.other pair.generation pair.start c.in-Ok.ensures.unwritten c.in-Ok.ensures.opened
    c.pack_onto.ensures.same c.pack_onto.ensures.live_moments c.args.over last.0 last.1 last.2)

pub returns-in-Err-pack_onto-clause-counts_err : goal.returns-in-Err-pack_onto-clause-counts_err
returns-in-Err-pack_onto-clause-counts_err g c =
    let disk = g.D.Disk in
    let pair = c.in-Ok.pair in
    let is = c.in-Err-pack_onto.is in
    subst (λ (p : g.row.D.Denot × g.row.D.Denot). CountsPair disk.downs disk.deads (c.in-Err-pack_onto.fault ≡ check.Down) (c.args.a, c.args.b) p) (sym c.in_given_order-a.ensures)
    (counts_in_order disk.downs disk.deads pair.second (c.in-Err-pack_onto.fault ≡ check.Down) (c.args.a, c.args.b) pair.live pair.other c.pack_onto.new.live c.pack_onto.new.other c.in-Ok.ensures.counts
    (counts_as disk.downs disk.deads _ _ (pair.live, pair.other) (c.pack_onto.new.live, c.pack_onto.new.other) (λ stopped. cc (sym is ∙ stopped)) (λ down. is ∙ ap (λ (f : CheckFault). Err f) down) c.pack_onto.ensures.counts))
