use Rattle.std.proofs.Common.{ℕ, ◌+◌, ◌^◌, ◌<◌, ◌≤◌, arith}
use Rattle.field_laws.proofs.Logs.{exponent_below}
use Rattle.flp_proof.specs.Proof.{wire_log}
use Rattle.flp_proof.proofs.Orders.{wire_log_fits, wire_log_least, twice_order}
use Rattle.flp_proof.proofs.sizes.log_above.Goals as goal

pub returns : goal.returns
returns c =
    let calls : ℕ = c.args.calls in
    let r : ℕ = c.ilog2.result in
    let double = twice_order r in
    let fits = wire_log_fits calls c.requires.few in
    let enough : calls + 1 ≤ 2 ^ (r + 1) = omega (arith, c.ilog2.ensures.next_power_gt, double.0) in
    let least : wire_log calls ≤ r + 1 = wire_log_least calls (r + 1) enough in
    let above : r < wire_log calls = exponent_below r (wire_log calls) (omega (arith, c.ilog2.ensures.power_le, fits.0)) in
    let few : r < 11 = exponent_below r 11 (omega (arith, c.ilog2.ensures.power_le, c.requires.few)) in
    record {
      value = omega arith;
      few = omega arith;
      room = enough;
    }
