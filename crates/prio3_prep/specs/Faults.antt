-- What a fault of a lower call is to a step of preparing: want of memory alone is want of memory.
use Rattle.aes_cmac_prg.specs.declared.fault.DrawFault.{DrawFault}
use Rattle.aes_cmac_prg.specs.declared.fault.DrawFault.TheVariants as draw
use Rattle.flp_proof.specs.declared.querying.QueryFault.{QueryFault}
use Rattle.flp_proof.specs.declared.querying.QueryFault.TheVariants as query
use Rattle.vdaf_api.specs.declared.fault.PrepFault.{PrepFault}
use Rattle.vdaf_api.specs.declared.fault.PrepFault.TheVariants.{Invalid, NoMemory}

-- a spent drawing makes a report invalid
abbrev pub of_draw : DrawFault → PrepFault
of_draw draw.Spent = Invalid
of_draw draw.NoMemory = NoMemory

-- so does a query point that is a root
abbrev pub of_query : QueryFault → PrepFault
of_query query.Root = Invalid
of_query query.NoMemory = NoMemory
