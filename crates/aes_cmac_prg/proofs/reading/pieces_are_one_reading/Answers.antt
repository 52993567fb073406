use Rattle.std.proofs.Common.{sym, ap, ◌∙◌}
use Rattle.aes_cmac_prg.specs.Stream.{bytes_at}
use Rattle.aes_cmac_prg.proofs.Entries.{in_pieces_is}
use Rattle.aes_cmac_prg.proofs.reading.pieces_are_one_reading.Goals as goal

pub returns-clause-as_one_reading : goal.returns-clause-as_one_reading
returns-clause-as_one_reading c = in_pieces_is

pub returns-clause-whatever_the_pieces : goal.returns-clause-whatever_the_pieces
returns-clause-whatever_the_pieces c = λ key place sizes others e.
    in_pieces_is key place sizes ∙ ap (bytes_at key place) e ∙ sym (in_pieces_is key place others)
