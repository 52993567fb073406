-- Numbers as bytes, the lowest first.
use Rattle.std.specs.Prelude.{ℕ, ◌+◌, ◌*◌, ◌/◌, ◌%◌, List, [], ◌∷◌}
use Rattle.std.proofs.Common.{zero, suc}

-- the n lowest bytes of v
unfoldable pub low_bytes : ℕ → ℕ → List ℕ
low_bytes zero v = []
low_bytes (suc n) v = v % 256 ∷ low_bytes n (v / 256)

-- the number that these bytes spell
unfoldable pub from_low : List ℕ → ℕ
from_low [] = 0
from_low (b ∷ bs) = b + from_low bs * 256
