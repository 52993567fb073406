-- What a fault of a lower call is to a step of sharing: want of memory alone is want of memory.
use Rattle.aes_cmac_prg.specs.declared.fault.DrawFault.{DrawFault}
use Rattle.aes_cmac_prg.specs.declared.fault.DrawFault.TheVariants as draw
use Rattle.flp_circuits.specs.declared.circuit.EncodeFault.{EncodeFault}
use Rattle.flp_circuits.specs.declared.circuit.EncodeFault.TheVariants as encode
use Rattle.vdaf_api.specs.declared.fault.ShardFault.{ShardFault}
use Rattle.vdaf_api.specs.declared.fault.ShardFault.TheVariants.{BadValue, Spent, NoMemory}

-- a spent drawing is told as such
abbrev pub of_draw : DrawFault → ShardFault
of_draw draw.Spent = Spent
of_draw draw.NoMemory = NoMemory

-- so is a value that isn't one of the kind
abbrev pub of_encode : EncodeFault → ShardFault
of_encode encode.BadValue = BadValue
of_encode encode.NoMemory = NoMemory
