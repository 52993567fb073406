-- What holds of a pair as of any disk.
use Rattle.std.specs.Prelude.{◌≡◌, ℕ, ◌<◌, ◌^◌, Bool, List, length, drop, Option, Some}
use Rattle.std.proofs.Common.{inl, ◌∙◌, ap, arith, length-drop}
use Rattle.dap_disk.specs.Disk.{of_told}
use Rattle.dap_disk.specs.RunLaws.{told_before}
use Rattle.journal_checkpoint.specs.Pair.{Reads}

pub reads_of : (second : Bool) (start : ℕ) (live live' other : List ℕ → Type 0) (c : List ℕ) → ((x : List ℕ) → live x → live' x) → Reads second start live other c → Reads second start live' other c
reads_of second start live live' other c so reads = (reads.0, so reads.0 reads.1, reads.2)

pub held_stays : (second : Bool) (start : ℕ) (held : Option (List ℕ)) (live other : List ℕ → Type 0) (c : List ℕ) → ((x : List ℕ) → held ≡ Some x → live x) → of_told (drop start) held ≡ Some c → Reads second start live other c
held_stays second start held live other c stays is = let from = told_before (drop start) held c is in (from.0, stays from.0 from.1, inl from.2)

pub part_fits : (start : ℕ) (held : Option (List ℕ)) (c : List ℕ) → ((d : List ℕ) → held ≡ Some d → length d < 2 ^ 64) → of_told (drop start) held ≡ Some c → length c < 2 ^ 64
part_fits start held c fits is =
    let from = told_before (drop start) held c is in
    let small = fits from.0 from.1 in
    let size = ap length from.2 ∙ length-drop start from.0 in
    omega (arith, small, size)
