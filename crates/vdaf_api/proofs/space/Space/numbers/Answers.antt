use Rattle.std.proofs.Common.{◌≡◌, ◌++◌, length, ap, sym, ◌∙◌, ◌<◌, get_or, subst}
use Rattle.vdaf_api.specs.Vectors.{numbers_in}
use Rattle.vdaf_api.specs.VectorLaws.{vector_of-back, below-at}
use Rattle.vdaf_api.proofs.space.Space.numbers.Goals as goal
use Rattle.vdaf_api.proofs.space.Space.numbers.Goals.{In_ok-read_from}

pub read_from-requires-clause-length : goal.read_from-requires-clause-length
read_from-requires-clause-length c =
    let s = c.args.self.now in
    (vector_of-back s.modulus s.width s.size c.args.out.now c.requires.out.0 c.requires.out.1).bytes

read : (c : In_ok-read_from) → c.read_from.new.numbers.items ≡ c.requires.out.0
read c = c.in_ok-read_from.ensures c.args.self.now.modulus c.requires.out.0 c.requires.out.1 ∙ ap (λ l. l ++ c.requires.out.0) c.new-numbers.ensures.items

pub returns-clause-numbers : goal.returns-clause-numbers
returns-clause-numbers c = read c ∙ sym (ap numbers_in c.requires.out.1)

pub returns-clause-size : goal.returns-clause-size
returns-clause-size c =
    let s = c.args.self.now in
    ap length (read c) ∙ (vector_of-back s.modulus s.width s.size c.args.out.now c.requires.out.0 c.requires.out.1).size

pub returns-clause-below : goal.returns-clause-below
returns-clause-below c i =
    let s = c.args.self.now in
    subst (λ l. get_or l i 0 < s.modulus) (sym (read c)) (below-at s.modulus c.requires.out.0 i c.requires.space.some_number (vector_of-back s.modulus s.width s.size c.args.out.now c.requires.out.0 c.requires.out.1).below)
