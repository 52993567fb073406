-- The sizes of a vector as fields.
use Rattle.std.specs.Prelude.{ℕ, ◌+◌, ◌*◌, ◌&&◌, nat_le, ◌++◌, Ok}
use Rattle.std.specs.Int.{w16}
use Rattle.vdaf_api.specs.declared.kind.TheConstants.{MOST_INPUT, MOST_NUMBER_BITS, MOST_NUMBERS}
use Rattle.dap_messages.specs.Grammar.{Grammar, ◌>>=◌, number, byte}
use Rattle.lane_records.specs.Bounds.{restricted}

-- a field, and behind it one that depends on it, of at most so many bytes
abbrev pub followed : {A B : Type 0} → Grammar A → (A → Grammar B) → ℕ → Grammar (A × B)
followed g h longest = record {
  read = λ r. g.read r >>= λ x. (h x.0).read x.1 >>= λ y. Ok ((x.0, y.0), y.1);
  spell = λ p. g.spell p.0 ++ (h p.0).spell p.1;
  allowed = λ p. g.allowed p.0 && (h p.0).allowed p.1;
  most = g.most + longest;
}

-- how many numbers a vector has
abbrev pub vector_len : Grammar ℕ
vector_len = number w16 1 MOST_NUMBERS

-- how many bits each of n numbers has
abbrev pub vector_bits : ℕ → Grammar ℕ
vector_bits n = restricted (λ b. nat_le (n * b) MOST_INPUT) (byte 1 MOST_NUMBER_BITS)

-- how many numbers a vector has, and of how many bits
abbrev pub sizes : Grammar (ℕ × ℕ)
sizes = followed vector_len vector_bits 1
