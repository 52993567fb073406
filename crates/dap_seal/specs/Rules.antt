-- The verdict on a report, rule by rule.
use Rattle.std.specs.Prelude.{◌≡◌, ℕ, List, Some, None}
use Rattle.vdaf_api.specs.declared.role.Role.TheVariants.{Leader, Helper}
use Rattle.vdaf_api.specs.Functions.{Functions}
use Rattle.vdaf_api.specs.Verdict.{Opened, Verdict, ok, bad, leader_message}

-- both halves open, the helper has a prep share, and with it the leader has a prep message
pub record IsJoined (f : Functions) (r : Opened) (own input message : List ℕ) : Type 0 where
  pub theirs : List ℕ
  pub leader : r.leader ≡ Some own
  pub helper : r.helper ≡ Some input
  pub share : f.share Helper r.key r.id r.public input ≡ Some theirs
  pub joined : leader_message f r own theirs ≡ Some message

-- The verdict is that of the first rule that applies.
pub record GoesByTheFirstRule (f : Functions) (r : Opened) (v : Verdict) : Type 0 where
  pub helper_closed : r.helper ≡ None → v ≡ bad 4
  pub helper_unprepared : (input : List ℕ) → r.helper ≡ Some input → f.share Helper r.key r.id r.public input ≡ None → v ≡ bad 5
  pub leader_closed : (input theirs : List ℕ) → r.helper ≡ Some input → f.share Helper r.key r.id r.public input ≡ Some theirs → r.leader ≡ None → v ≡ bad 4
  pub leader_unprepared : (input theirs own : List ℕ) → r.helper ≡ Some input → f.share Helper r.key r.id r.public input ≡ Some theirs
      → r.leader ≡ Some own → leader_message f r own theirs ≡ None → v ≡ bad 5
  pub helper_unfinished : (own input message out : List ℕ) → IsJoined f r own input message
      → f.out Leader r.key r.id r.public own message ≡ Some out → f.out Helper r.key r.id r.public input message ≡ None → v ≡ bad 5
  pub else_ok : (own input message leader helper : List ℕ) → IsJoined f r own input message
      → f.out Leader r.key r.id r.public own message ≡ Some leader → f.out Helper r.key r.id r.public input message ≡ Some helper → v ≡ ok leader helper
