-- Each record of a block fits into one by itself.
use Rattle.std.proofs.Common.{◌≡◌, ℕ, ◌+◌, ◌≤◌, List, [], ◌∷◌, ◌++◌, length, subst, ap, arith, length-append}
use Rattle.dap_bytes.specs.declared.limits.TheConstants.{LONGEST_BLOCK}
use Rattle.report_journal.specs.Journal.{framed, body, IsBlock, AreBlocks, all_records, EachFits}
use Rattle.report_journal.specs.Reading.{ClosedIn}

each_of : (part : List (List ℕ)) → length (body part) ≤ LONGEST_BLOCK → EachFits part
each_of [] small = tt
each_of (r ∷ part) small =
    let whole = length-append (framed r) (body part) in
    (omega (arith, small, whole), each_of part (omega (arith, small, whole)))

both_fit : (part rest : List (List ℕ)) → EachFits part → EachFits rest → EachFits (part ++ rest)
both_fit [] rest here later = later
both_fit (r ∷ part) rest here later = (here.0, both_fit part rest here.1 later)

all_fit : (parts : List (List (List ℕ))) → AreBlocks parts → EachFits (all_records parts)
all_fit [] are = tt
all_fit (part ∷ parts) are = both_fit part (all_records parts) (each_of part are.0.size) (all_fit parts are.1)

pub each_fits : (records : List (List ℕ)) (q n : ℕ) (file : List ℕ) → ClosedIn records q n file → EachFits records
each_fits records q n file is = subst EachFits is.closed.hold (all_fit is.closed.parts is.closed.are)
