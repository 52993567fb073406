use Rattle.std.proofs.Common.{ℕ, List}
use Rattle.vdaf_api.specs.Functions.{Functions}
use Rattle.vdaf_api.specs.declared.kind.Kind.{Kind}
use Rattle.dap_bytes.specs.declared.node.Node.TheVariants.{Leader, Helper}
use Rattle.dap_bytes.specs.declared.part.Part.TheVariants.{Lane}
use Rattle.lane_records.specs.declared.record.Record.{Record}
use Rattle.legal_journals.specs.Legal.{IsLegal}
use Rattle.dap_agree.specs.Agree.{Fronts, LanesAgree}
use Rattle.dap_agree.proofs.laws.lanes_that_agree_tell_the_verdicts.Goals as goal
use Rattle.dap_agree.proofs.Outcomes.{are_outcomes, are_commits, are_numbers, counts_agree}
use Rattle.dap_agree.proofs.Two.{Two}
use Rattle.dap_agree.proofs.Words.{leader_fits}

two : (f : Kind → Functions) (fr : Fronts) (lane : ℕ) (l h : List Record) → IsLegal Leader (Lane lane) l → IsLegal Helper (Lane lane) h → LanesAgree f fr l h → Two f fr l h h
two f fr lane l h a b c = record { l_legal = (lane, a); h_legal = (lane, b); l_fits = leader_fits f fr l h (lane, a) c.0; h_fits = c.1; sub = λ x p. p }

pub returns-clause-outcomes : goal.returns-clause-outcomes
returns-clause-outcomes c f fr lane l h t a b g e = are_outcomes f fr l h h t (two f fr lane l h a b g) e

pub returns-clause-commits : goal.returns-clause-commits
returns-clause-commits c f fr lane l h t a b g e all = are_commits f fr l h t (two f fr lane l h a b g) e all

pub returns-clause-numbers : goal.returns-clause-numbers
returns-clause-numbers c f fr lane l h t s accepted laws a b g e all acc =
    are_numbers f fr l h t s accepted laws.space (two f fr lane l h a b g) e all acc

pub returns-clause-same : goal.returns-clause-same
returns-clause-same c f fr lane l h t n s a b g e all =
    let k = counts_agree f fr l h t n s (two f fr lane l h a b g) e all in
    record { count = k.0; rejected = k.1; checksum = k.2 }
