use Rattle.std.proofs.Common.{◌≡◌, ◌^◌, ◌∙◌, ap, refl, Bool, true, List, ℕ, length, arith}
use Rattle.std.specs.Prelude.{nat_eq, nat_lt, ◌&&◌}
use Rattle.std.specs.List.{list_all}
use Rattle.std.proofs.lemmas.Bool.{eq-eqb}
use Rattle.circuit_vector.specs.Vector.{are_numbers}
use Rattle.circuit_vector.proofs.vector.are_numbers.Goals as goal

pub returns-then-m-from : goal.returns-then-m-from
returns-then-m-from c =
    let m : List ℕ = c.args.m.now in
    let many : length m ≡ c.args.len = omega arith in
    let test : nat_eq (length m) c.args.len ≡ true = eq-eqb (length m) c.args.len many in
    c.are_below.ensures ∙ ap (λ top. list_all (λ number. nat_lt number top) m) c.limit.ensures
    ∙ rw test refl
