-- Drawing field elements from a stream: the numbers below p are taken, in order, and the others are skipped.
use Rattle.std.specs.Prelude.{ℕ, ◌+◌, ◌*◌, Bool, ◌||◌, ◌==◌, nat_lt, nat_le, List, length, map, filter, take, Option, Some, None, if◌then◌else◌}
use Rattle.std.specs.List.{range_with_len}
use Rattle.field_laws.specs.Bytes.{from_low}
use Rattle.aes_block.specs.Byte.{first_from}
use Rattle.aes_cmac_prg.specs.Cmac.{cmac}
use Rattle.aes_cmac_prg.specs.Stream.{bytes_at}

-- number i of w bytes from a place on, low byte first
unfoldable pub number_at : List ℕ → ℕ → ℕ → ℕ → ℕ
number_at key w place i = from_low (bytes_at key (place + i * w) w)

module _ (p : ℕ) (number : ℕ → ℕ) where
  -- those of the first n numbers that are below p
  abbrev pub found : ℕ → List ℕ
  found n = filter (λ x. nat_lt x p) (map number (range_with_len 0 n))

  -- n elements have been found among the first k numbers, or 129 numbers skipped
  abbrev pub is_done : ℕ → ℕ → Bool
  is_done n k = (length (found k) == n) || (k == length (found k) + 129)

  -- how many numbers a drawing of n elements reads
  unfoldable pub numbers_read : ℕ → ℕ
  numbers_read n = first_from (is_done n) 0 (n + 129)

  -- the first n numbers below p; none where more than 128 others stand before the last of them, so that the first n + 128 numbers have fewer
  unfoldable pub first_found : ℕ → Option (List ℕ)
  first_found n = if nat_le n (length (found (n + 128))) then Some (take n (found (n + 128))) else None

-- a number as an element, if it is below p
abbrev pub element_of : {F : Type 0} → (ℕ → F) → ℕ → ℕ → Option F
element_of residue p number = if nat_lt number p then Some (residue number) else None

-- the numbers as elements, where there are any
abbrev pub as_elements : {F : Type 0} → (ℕ → F) → Option (List ℕ) → Option (List F)
as_elements residue (Some xs) = Some (map residue xs)
as_elements residue None = None

-- n elements of a field with modulus p and width w, drawn from a place of a stream on
unfoldable pub drawn_at : {F : Type 0} → (ℕ → F) → ℕ → ℕ → List ℕ → ℕ → ℕ → Option (List F)
drawn_at residue p w key place n = as_elements residue (first_found p (number_at key w place) n)

-- n elements drawn from the beginning of the stream of a seed and an info text
abbrev pub drawn : {F : Type 0} → (ℕ → F) → ℕ → ℕ → List ℕ → List ℕ → ℕ → Option (List F)
drawn residue p w seed info n = drawn_at residue p w (cmac seed info) 0 n

-- how many bytes that drawing takes, whether it has a value or is spent
abbrev pub bytes_drawn : ℕ → ℕ → List ℕ → ℕ → ℕ → ℕ
bytes_drawn p w key place n = numbers_read p (number_at key w place) n * w
