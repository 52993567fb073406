use Rattle.std.proofs.Common.{◌≡◌, ◌⊎◌, sym, ◌∙◌, inl, inr}
use Rattle.std.specs.declared.cmp.Ordering.{Ordering}
use Rattle.std.specs.declared.cmp.Ordering.TheVariants.{Less, Equal, Greater}
use Rattle.legal_journals.proofs.Nexts.{none_at_all, none_of_group, oldest}
use Rattle.legal_journals.proofs.waiting.Waiting.next.Goals as goal

not_equal : (answer order : Ordering) → answer ≡ order → (answer ≡ Less) ⊎ (answer ≡ Greater) → order ≡ Equal → ⊥
not_equal answer order is (inl less) tie = let f = sym less ∙ is ∙ tie in absurd cc
not_equal answer order is (inr greater) tie = let f = sym greater ∙ is ∙ tie in absurd cc

pub returns-in_default-clause-none : goal.returns-in_default-clause-none
returns-in_default-clause-none g c of settled records h k le =
    none_at_all g.met.G.Ord.total of settled c.args.self.now records c.args.group c.args.from c.in_default.ensures.none h k le

pub returns-in-Equal-clause-oldest : goal.returns-in-Equal-clause-oldest
returns-in-Equal-clause-oldest g c of settled records h =
    oldest g.met.G.Ord.total of settled c.args.self.now records c.args.group c.args.from c.in-Some.entry c.in-Some.ensures.some (sym c.cmp.ensures ∙ c.in-Equal.is) h

pub returns-in-Less : goal.returns-in-Less
returns-in-Less g c = record {
  oldest = λ of settled records h. tt;
  none = λ of settled records h k le.
      none_of_group g.met.G.Ord.total of settled c.args.self.now records c.args.group c.args.from c.in-Some.entry c.in-Some.ensures.some
      (not_equal c.cmp.result _ c.cmp.ensures c.in-Less.is) h k le;
}
