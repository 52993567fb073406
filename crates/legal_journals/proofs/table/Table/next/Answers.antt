use Rattle.std.proofs.Common.{◌≡◌, List, Some, sym, ap, subst, ◌∙◌}
use Rattle.std.specs.Option.{IfSome, IsSome}
use Rattle.std.specs.List.{slice_get}
use Rattle.std.specs.BTreeMap.Range.{IsLeBy}
use Rattle.legal_journals.specs.Tables.{at}
use Rattle.legal_journals.proofs.table.Table.next.Goals as goal

pub returns-in-Some-clause-some : goal.returns-in-Some-clause-some
returns-in-Some-clause-some g c =
    let r = c.range.ensures.in_range tt in
    let cmp = g.K.Ord.cmp in
    let steps = c.in-Some.ensures.steps in
    let here = subst (λ (l : List (g.row.K.Denot × g.row.V.Denot)). IfSome (slice_get l 0) (λ e. (IsLeBy cmp c.args.from e.0 × Unit {0}) × (at cmp e.0 c.self.inside.entries.entries ≡ Some e.1))) steps r.1 in (
      here.0.0,
      ap (at cmp c.in-Some.key.now) (sym c.self.view_is) ∙ here.1,
      λ q le has.
          subst (λ (l : List (g.row.K.Denot × g.row.V.Denot)). IfSome (slice_get l 0) (λ e. IsLeBy cmp e.0 q)) steps
          (r.2 q (le, tt) (subst (λ (es : List (g.row.K.Denot × g.row.V.Denot)). IsSome (at cmp q es)) (sym c.self.view_is) has)),
    )
