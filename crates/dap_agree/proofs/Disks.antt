-- The order of the disks.
use Rattle.std.proofs.Common.{◌≡◌, ℕ, suc, ◌+◌, ◌*◌, ◌<◌, arith}
use Rattle.dap_bytes.specs.declared.node.Node.{Node}
use Rattle.dap_bytes.specs.declared.node.Node.TheVariants.{Leader, Helper}
use Rattle.dap_bytes.specs.declared.part.Part.{Part}
use Rattle.dap_bytes.specs.declared.part.Part.TheVariants.{Front, Lane}
use Rattle.dap_agree.specs.First.{disk_of, IsPart}

pub leader_first : (lanes : ℕ) (part other : Part) → IsPart lanes part → disk_of lanes Leader part < disk_of lanes Helper other
leader_first lanes Front Front p = let goal : 0 < suc lanes = omega arith in goal
leader_first lanes Front (Lane k) p = let goal : 0 < suc (suc (lanes + k)) = omega arith in goal
leader_first lanes (Lane j) Front p = let q : j < lanes = p in let goal : suc j < suc lanes = omega arith in goal
leader_first lanes (Lane j) (Lane k) p = let q : j < lanes = p in let goal : suc j < suc (suc (lanes + k)) = omega arith in goal

pub front_first : (lanes lane : ℕ) (node : Node) → disk_of lanes node Front < disk_of lanes node (Lane lane)
front_first lanes lane Leader = let goal : 0 < suc lane = omega arith in goal
front_first lanes lane Helper = let goal : suc lanes < suc (suc (lanes + lane)) = omega arith in goal

pub lanes_ascend : (lanes lane later : ℕ) (node : Node) → lane < later → disk_of lanes node (Lane lane) < disk_of lanes node (Lane later)
lanes_ascend lanes lane later Leader h = let goal : suc lane < suc later = omega arith in goal
lanes_ascend lanes lane later Helper h = let goal : suc (suc (lanes + lane)) < suc (suc (lanes + later)) = omega arith in goal

pub within : (lanes : ℕ) (node : Node) (part : Part) → IsPart lanes part → disk_of lanes node part < 2 * lanes + 2
within lanes Leader Front p = let goal : 0 < 2 * lanes + 2 = omega arith in goal
within lanes Leader (Lane k) p = let q : k < lanes = p in let goal : suc k < 2 * lanes + 2 = omega arith in goal
within lanes Helper Front p = let goal : suc lanes < 2 * lanes + 2 = omega arith in goal
within lanes Helper (Lane k) p = let q : k < lanes = p in let goal : suc (suc (lanes + k)) < 2 * lanes + 2 = omega arith in goal
