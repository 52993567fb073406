-- Trial tasks, whose keys come from their names.
use Rattle.std.specs.Prelude.{ℕ, List, ◌∷◌, ◌++◌, replicate, codes, Option}
use Rattle.aes_cmac_prg.specs.Cmac.{cmac}
use Rattle.vdaf_api.specs.declared.kind.Kind.{Kind}
use Rattle.dap_tasks.specs.Task.{PlainTask}
use Rattle.vdaf_api.specs.declared.keys.SealKeys.{SealKeys}

-- the key of a label and a task's name: the tag, under the key of 16 zero bytes, of the label, a zero byte and the name
abbrev pub trial_key : List ℕ → List ℕ → List ℕ
trial_key label name = cmac (replicate 16 0) (label ++ 0 ∷ name)

-- the keys of the leader's seal
abbrev pub leader_keys : List ℕ → SealKeys
leader_keys name = record { enc = trial_key (codes "leader enc") name; mac = trial_key (codes "leader mac") name }

-- the keys of the helper's seal
abbrev pub helper_keys : List ℕ → SealKeys
helper_keys name = record { enc = trial_key (codes "helper enc") name; mac = trial_key (codes "helper mac") name }

-- the trial task of a name with this kind, minimum, precision and expiry
abbrev pub trial_of : List ℕ → Kind → ℕ → ℕ → Option ℕ → PlainTask
trial_of name kind min precision expires = record {
  name = name;
  kind = kind;
  min = min;
  precision = precision;
  expires = expires;
  verify = trial_key (codes "verify") name;
  leader = leader_keys name;
  helper = helper_keys name;
}
