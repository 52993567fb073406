use Rattle.std.proofs.Common.{◌≡◌, ◌<◌, ⊎_elim, sym, ◌∙◌, arith}
use Rattle.std.proofs.lemmas.Bool.{cases_lt}
use Rattle.journal_checkpoint.specs.Heads.{generation_of}
use Rattle.journal_checkpoint.proofs.Heads.{front_generation, live_journal}
use Rattle.journal_checkpoint.proofs.pair.PairDisk.into_disks.Goals as goal

pub returns-clause-journal : goal.returns-clause-journal
returns-clause-journal g c = λ x y left was headless.
    let s = c.args.self in
    let of_head : 0 < s.generation → generation_of x ≡ s.generation = λ later. front_generation x s.generation s.start s.fits later s.starts (s.images x left) in
    let is : generation_of x ≡ s.generation = ⊎_elim of_head (λ none. ⊎_elim of_head (λ le. (let zero_g : s.generation ≡ 0 = omega (arith, le) in none ∙ sym zero_g)) (cases_lt 0 s.generation)) headless in
    live_journal s.second x y s.generation s.start is s.starts (s.older y was)
