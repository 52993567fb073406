use Rattle.std.proofs.Common.{◌≡◌, true, ◌==◌, sym, ap, subst, ◌∙◌}
use Rattle.lane_records.specs.declared.format.Format.{Format}
use Rattle.legal_journals.specs.HistoryTests.{has_format}
use Rattle.legal_journals.proofs.Counts.{any_format, no_twos}
use Rattle.legal_journals.proofs.opens.Opens.has_format.Goals as goal

pub returns-in-Two : goal.returns-in-Two
returns-in-Two c = subst (λ (f : Format). true ≡ has_format f c.args.earlier.now) (sym c.in-Two.is) (sym (any_format c.args.earlier.now))

pub returns-in-One : goal.returns-in-One
returns-in-One c =
    subst (λ (f : Format). (c.args.self.twos == 0) ≡ has_format f c.args.earlier.now) (sym c.in-One.is)
    (ap (λ n. n == 0) c.requires.twos ∙ sym (no_twos c.args.earlier.now))
