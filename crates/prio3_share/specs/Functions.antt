-- A circuit's measurement function.
use Rattle.std.specs.Prelude.{ℕ, List}
use Rattle.flp_circuits.specs.Shape.{Shape}
use Rattle.vdaf_api.specs.declared.answer.Answer.{Answer}
use Rattle.vdaf_api.specs.declared.space.Space.{Space}
use Rattle.vdaf_api.specs.Functions.{Functions}
use Rattle.prio3_share.specs.Base.{Base}
use Rattle.prio3_share.specs.Sharing.{shard, encoding}
use Rattle.prio3_share.specs.Preparing.{is_half, share_of, is_share, combine, out_of, is_fair}

-- how out shares are spelled
abbrev pub space_of : {F : Type 0} → Base F → Shape F → Space
space_of b c = record { modulus = b.modulus; width = b.width; size = c.out_len }

-- the function of a circuit over a field, with its kind byte and the answer of a vector
abbrev pub functions_of : {F : Type 0} → Base F → Shape F → ℕ → (List ℕ → Answer) → Functions
functions_of b c kind answer = record {
  space = space_of b c;
  shard = shard b c kind;
  encoding = encoding b c kind;
  is_half = is_half b c kind;
  share = share_of b c kind;
  is_share = is_share b c kind;
  combine = combine b c kind;
  out = out_of b c kind;
  is_fair = is_fair b c kind;
  answer = answer;
}
