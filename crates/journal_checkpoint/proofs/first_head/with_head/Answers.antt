use Rattle.std.proofs.Common.{◌≡◌, Err, [], sym, ◌∙◌, ap, arith}
use Rattle.std.proofs.lemmas.Bool.{not-true, not-false}
use Rattle.dap_disk.specs.declared.disk.StoreFault.{StoreFault}
use Rattle.dap_disk.specs.declared.disk.StoreFault.TheVariants as store
use Rattle.journal_checkpoint.proofs.Opened.{headed_file, opened_same}
use Rattle.journal_checkpoint.proofs.Outcomes.{block_stays, head_counts, head_keeps, head_made, head_there}
use Rattle.journal_checkpoint.proofs.PairCounts.{counts_as}
use Rattle.journal_checkpoint.proofs.first_head.with_head.Goals as goal

pub returns-then-pair-gt0-clause-headed : goal.returns-then-pair-gt0-clause-headed
returns-then-pair-gt0-clause-headed g c =
    let disk = g.D.Disk in
    let pair = c.in-Ok.pair in
    head_there disk.holds disk.up disk.moment disk.left_since disk.may_leave g.met.D.Disk.counts_now (c.args.a, c.args.b) c.requires.first_synced c.requires.second_synced
    pair.second pair.live pair.other pair.generation pair.start c.in-Ok.ensures.unwritten c.in-Ok.ensures.opened (omega (arith, c.if-pair-gt0.true))

pub invariant_of-result-clause-held : goal.invariant_of-result-clause-held
invariant_of-result-clause-held g c = λ up f told.
    let disk = g.D.Disk in
    headed_file (disk.holds c.in-Ok.pair.other) (disk.holds c.give_head.new.b) 0 [] (c.in-Ok-true.ensures.made c.in-Ok-true.field-0-test) f told

pub invariant_of-result-clause-images : goal.invariant_of-result-clause-images
invariant_of-result-clause-images g c = λ f left.
    let disk = g.D.Disk in
    headed_file (disk.holds c.in-Ok.pair.other) (disk.holds c.give_head.new.b) 0 [] (c.in-Ok-true.ensures.made c.in-Ok-true.field-0-test) f (c.in-Ok-true.ensures.durable c.in-Ok-true.field-0-test f left)

pub invariant_of-result-clause-other_synced : goal.invariant_of-result-clause-other_synced
invariant_of-result-clause-other_synced g c = λ f left. c.give_head.ensures.same ∙ c.in-Ok.ensures.opened.synced f (c.give_head.ensures.images f left)

pub invariant_of-result-clause-older : goal.invariant_of-result-clause-older
invariant_of-result-clause-older g c = λ f left.
    let opened = c.in-Ok.ensures.opened in
    let is = opened.head f (opened.synced f (c.give_head.ensures.images f left)) in
    omega (arith, is, c.if-pair-gt0.false)

pub returns-in-Ok-true-clause-headed : goal.returns-in-Ok-true-clause-headed
returns-in-Ok-true-clause-headed g c =
    let disk = g.D.Disk in
    let law = g.met.D.Disk in
    let pair = c.in-Ok.pair in
    head_made disk.holds disk.up disk.moment disk.left_since disk.may_leave law.counts_now (c.args.a, c.args.b) c.requires.first_synced c.requires.second_synced
    pair.second pair.live pair.other c.give_head.new.a c.give_head.new.b pair.generation pair.start c.in-Ok.ensures.unwritten c.in-Ok.ensures.opened
    c.give_head.ensures.same c.give_head.ensures.first_moments pair.starts pair.older pair.later (λ z told. law.held_may_stay pair.other z pair.other_up told)
    (omega (arith, c.if-pair-gt0.false)) (λ f told. not-true _ (sym (c.in-Ok-true.ensures.told f told) ∙ c.in-Ok-true.field-0-test)) (c.in-Ok-true.ensures.made c.in-Ok-true.field-0-test) c.give_head.ensures.second_moments

pub returns-in-Ok-false-clause-opened : goal.returns-in-Ok-false-clause-opened
returns-in-Ok-false-clause-opened g c =
    let disk = g.D.Disk in
    let pair = c.in-Ok.pair in
    opened_same disk.holds disk.up disk.may_leave pair.second pair.live pair.other c.give_head.new.a c.give_head.new.b pair.generation pair.start c.in-Ok.ensures.opened
    c.in-Ok-false.ensures.up.0 c.give_head.ensures.same c.give_head.ensures.images (c.in-Ok-false.ensures.kept c.in-Ok-false.field-0-test)

pub returns-in-Ok-false-clause-headed : goal.returns-in-Ok-false-clause-headed
returns-in-Ok-false-clause-headed g c =
    let disk = g.D.Disk in
    let law = g.met.D.Disk in
    let pair = c.in-Ok.pair in
    block_stays disk.holds disk.up disk.moment disk.left_since disk.may_leave law.counts_now (c.args.a, c.args.b) c.requires.first_synced c.requires.second_synced
    pair.second pair.live pair.other c.give_head.new.a c.give_head.new.b pair.generation pair.start c.in-Ok.ensures.unwritten c.in-Ok.ensures.opened
    c.give_head.ensures.same c.give_head.ensures.first_moments pair.starts pair.older pair.later (λ z told. law.held_may_stay pair.other z pair.other_up told)
    (omega (arith, c.if-pair-gt0.false)) (λ f told. not-false _ (sym (c.in-Ok-false.ensures.told f told) ∙ c.in-Ok-false.field-0-test)) (c.in-Ok-false.ensures.kept c.in-Ok-false.field-0-test)

pub returns-in-Err-give_head-clause-any_moment : goal.returns-in-Err-give_head-clause-any_moment
returns-in-Err-give_head-clause-any_moment g c =
    let disk = g.D.Disk in
    let law = g.met.D.Disk in
    let pair = c.in-Ok.pair in
    head_keeps disk.holds disk.up disk.moment disk.left_since disk.may_leave law.counts_now (c.args.a, c.args.b) c.requires.first_synced c.requires.second_synced
    pair.second pair.live pair.other c.give_head.new.a c.give_head.new.b pair.generation pair.start c.in-Ok.ensures.unwritten c.in-Ok.ensures.opened
    c.give_head.ensures.same c.give_head.ensures.first_moments pair.starts pair.older pair.later (λ z told. law.held_may_stay pair.other z pair.other_up told)
    (omega (arith, c.if-pair-gt0.false)) c.give_head.ensures.second_moments

pub returns-in-Err-give_head-clause-counts_err : goal.returns-in-Err-give_head-clause-counts_err
returns-in-Err-give_head-clause-counts_err g c =
    let disk = g.D.Disk in
    let pair = c.in-Ok.pair in
    let is = c.in-Err-give_head.is in
    head_counts disk.downs disk.deads pair.second pair.generation (c.in-Err-give_head.fault ≡ store.Down) (c.args.a, c.args.b) pair.live pair.other c.give_head.new.a c.give_head.new.b pair.later (omega (arith, c.if-pair-gt0.false)) c.in-Ok.ensures.counts
    (counts_as disk.downs disk.deads _ _ (pair.live, pair.other) (c.give_head.new.a, c.give_head.new.b) (λ stopped. cc (sym is ∙ stopped)) (λ down. is ∙ ap (λ (f : StoreFault). Err f) down) c.give_head.ensures.counts)
