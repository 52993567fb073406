-- A field's members as one value, and its laws, from what the proof of generic code has of it.
use seplogic.Ra.Ura.{Ura}
use types.Logic.{Logic}
use prog.Model.{Model}
use prog.Routine.{Env}
use contract.Running.{Running}
use denote.RattleType.{RattleType}
use mir.Syntax.{Dict}
use Rattle.std.specs.declared.clone.Clone.{Ghosts as Copies}
use Rattle.field_laws.specs.declared.element.Field.{Ghosts}
use Rattle.field_laws.specs.contracts.element.Field.TheBound.{Met}
use Rattle.prio3_share.specs.Base.{Base, BaseLaws, base_of}

abbrev pub base : {F : Type 0} → Ghosts F → Base F
base f = base_of f.ring f.half_of f.root_of f.number f.residue f.MODULUS f.WIDTH

pub kept : {M : Type 1} {𝓤 : Ura M} {𝓛 : Logic 𝓤} {𝓜 : Model 𝓤 𝓛.H} {𝓡 : Running 𝓤 𝓛.H 𝓜} {env : Env} {F : RattleType} {f : Ghosts F.Denot} {m : Dict} {c : Copies F.Denot} {n : Dict}
    → Met 𝓛 𝓜 𝓡 env F f m c n → BaseLaws (base f)
kept met = record { laws = met.laws; roots = met.roots; halves = met.halves; residues = met.residues; is_ring = met.is_ring; some_byte = met.some_byte; few_bytes = met.narrow; room = met.room }
