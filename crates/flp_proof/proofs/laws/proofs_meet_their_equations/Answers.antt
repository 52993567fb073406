use Rattle.std.proofs.Common.{◌≡◌, ◌+◌, ◌-◌, ◌*◌, ◌^◌, ◌∙◌, arith}
use Rattle.flp_proof.specs.Proof.{wire_log}
use Rattle.flp_proof.proofs.Orders.{wire_log_fits, wire_log_least, twice_order}
use Rattle.flp_proof.proofs.Complete.{wire_interpolates, gadget_polynomial-at, length-gadget_polynomial}
use Rattle.flp_proof.proofs.laws.proofs_meet_their_equations.Goals as goal

pub returns-clause-is_above_the_calls : goal.returns-clause-is_above_the_calls
returns-clause-is_above_the_calls g c = let fits = wire_log_fits (g.C.Circuit.shape c.args.c.now).calls ((g.met.C.Circuit.laws c.args.c.now).few_calls) in omega (arith, fits.0)

pub returns-clause-is_the_least : goal.returns-clause-is_the_least
returns-clause-is_the_least g c = λ log enough. wire_log_least (g.C.Circuit.shape c.args.c.now).calls log (omega arith)

pub returns-clause-wires_interpolate : goal.returns-clause-wires_interpolate
returns-clause-wires_interpolate g c = λ x seeds j.
    let F = g.C.F.Field in
    let met = g.met.C.F.Field in
    wire_interpolates met.laws F.half_of F.root_of met.halves met.roots (g.C.Circuit.shape c.args.c.now) (g.met.C.Circuit.laws c.args.c.now) x seeds j

pub returns-clause-is_the_gadget_of_the_wires : goal.returns-clause-is_the_gadget_of_the_wires
returns-clause-is_the_gadget_of_the_wires g c = λ x seeds t.
    let F = g.C.F.Field in
    let met = g.met.C.F.Field in
    gadget_polynomial-at met.laws F.half_of F.root_of met.halves met.roots (g.C.Circuit.shape c.args.c.now) (g.met.C.Circuit.laws c.args.c.now) x seeds t

pub returns-clause-has_its_size : goal.returns-clause-has_its_size
returns-clause-has_its_size g c = λ x seeds.
    let F = g.C.F.Field in
    let met = g.met.C.F.Field in
    let shape = g.C.Circuit.shape c.args.c.now in
    length-gadget_polynomial met.laws F.half_of F.root_of met.halves met.roots shape (g.met.C.Circuit.laws c.args.c.now) x seeds
    ∙ (let e : 2 ^ (wire_log shape.calls + 1) - 1 ≡ 2 * (2 ^ wire_log shape.calls - 1) + 1 = omega (arith, twice_order (wire_log shape.calls)) in e)
