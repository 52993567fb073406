use Rattle.std.proofs.Common.{◌≡◌, ℕ, ◌^◌, ap, ◌∙◌, sym, arith}
use Rattle.std.proofs.lemmas.Nat.{pow_pos}
use Rattle.field_laws.proofs.Logs.{log_is}
use Rattle.field_laws.proofs.exponent.log_of.Goals as goal

pub ilog2-requires : goal.ilog2-requires
ilog2-requires c = omega (arith, c.requires.2, pow_pos c.requires.0)

pub returns : goal.returns
returns c =
    let log : ℕ = c.requires.0 in
    let same : c.ilog2.result ≡ log = log_is c.args.size c.ilog2.result log c.ilog2.ensures.power_le c.ilog2.ensures.next_power_gt c.requires.2 in
    record {
      few = omega (arith, same, c.requires.1);
      value = c.requires.2 ∙ ap (λ k. 2 ^ k) (sym same);
    }
