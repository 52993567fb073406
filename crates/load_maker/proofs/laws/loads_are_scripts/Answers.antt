use Rattle.load_maker.proofs.LineLemmas.{load_is_script, load_spelled}
use Rattle.load_maker.specs.Load.{load_lines, load_text}
use Rattle.load_maker.proofs.laws.loads_are_scripts.Goals as goal

pub returns : goal.returns
returns c reports seed =
    (c.scripts_are_spelled.ensures.alone (load_text reports seed) (load_lines reports seed)).1 (load_spelled reports seed, load_is_script reports seed)
