-- How nodes and their parts are spelled for a reader.
use Rattle.std.specs.Prelude.{ℕ, List, ◌++◌, codes}
use Rattle.std.specs.Fmt.{decimal}
use Rattle.dap_bytes.specs.declared.node.Node.{Node}
use Rattle.dap_bytes.specs.declared.node.Node.TheVariants.{Leader, Helper}
use Rattle.dap_bytes.specs.declared.part.Part.{Part}
use Rattle.dap_bytes.specs.declared.part.Part.TheVariants.{Front, Lane}

-- the word of a node
abbrev pub node_word : Node → List ℕ
node_word Leader = codes "leader"
node_word Helper = codes "helper"

-- the words of a part: a lane has its number
abbrev pub part_words : Part → List ℕ
part_words Front = codes "front"
part_words (Lane number) = codes "lane " ++ decimal number
