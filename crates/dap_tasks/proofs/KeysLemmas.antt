-- The keys of a seal in 32 bytes.
use Rattle.std.proofs.Common.{◌≡◌, ℕ, List, Option, Some, None, ap}
use Rattle.std.specs.Prelude.{slice_range}
use Rattle.std.specs.Option.{option_and_then}
use Rattle.toml.specs.Data.{Data}
use Rattle.dap_tasks.specs.Fields.{octets_of, keys_of}
use Rattle.vdaf_api.specs.declared.keys.SealKeys.{SealKeys}

in_two : List ℕ → Option SealKeys
in_two octets = Some (record { enc = slice_range octets 0 16; mac = slice_range octets 16 32 })

pub keys_of-octets : (value : Option Data) (octets : List ℕ) → option_and_then (octets_of 32) value ≡ Some octets
    → option_and_then keys_of value ≡ Some (record { enc = slice_range octets 0 16; mac = slice_range octets 16 32 })
unfolding in_two
keys_of-octets None octets e = cc e
keys_of-octets (Some d) octets e = ap (option_and_then in_two) e
