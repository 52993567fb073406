-- The verdict goes by the first rule that applies.
use Rattle.std.proofs.Common.{◌≡◌, ℕ, List, Option, Some, None, ap, ◌∙◌}
use Rattle.vdaf_api.specs.declared.role.Role.TheVariants.{Leader, Helper}
use Rattle.vdaf_api.specs.Functions.{Functions}
use Rattle.vdaf_api.specs.Verdict.{Opened, or_invalid, helper_share, leader_part, item_after, leader_message, out_of, helper_out, both_outs, verdict_after, verdict}
use Rattle.dap_seal.specs.Rules.{IsJoined, GoesByTheFirstRule}

module _ (f : Functions) (r : Opened) where
  -- what the helper's half opens to, its prep share, and what the leader's half opens to are put in their places
  opens_to : (o : Option (List ℕ)) → r.helper ≡ o → verdict f r ≡ verdict_after f r (item_after f r (helper_share f r o))
  opens_to o h = ap (λ x. verdict_after f r (item_after f r (helper_share f r x))) h

  prepares : (input : List ℕ) (o : Option (List ℕ)) → r.helper ≡ Some input → f.share Helper r.key r.id r.public input ≡ o
      → verdict f r ≡ verdict_after f r (item_after f r (or_invalid o))
  prepares input o h e = opens_to (Some input) h ∙ ap (λ s. verdict_after f r (item_after f r (or_invalid s))) e

  leads : (input theirs : List ℕ) (o : Option (List ℕ)) → r.helper ≡ Some input → f.share Helper r.key r.id r.public input ≡ Some theirs → r.leader ≡ o
      → verdict f r ≡ verdict_after f r (leader_part f r o theirs)
  leads input theirs o h e l = prepares input (Some theirs) h e ∙ ap (λ x. verdict_after f r (leader_part f r x theirs)) l

  answers : (input theirs own : List ℕ) (o : Option (List ℕ)) → r.helper ≡ Some input → f.share Helper r.key r.id r.public input ≡ Some theirs
      → r.leader ≡ Some own → leader_message f r own theirs ≡ o → verdict f r ≡ verdict_after f r (or_invalid o)
  answers input theirs own o h e l m = leads input theirs (Some own) h e l ∙ ap (λ s. verdict_after f r (or_invalid s)) m

  finishes : (own input message out : List ℕ) (o : Option (List ℕ)) → IsJoined f r own input message
      → f.out Leader r.key r.id r.public own message ≡ Some out → f.out Helper r.key r.id r.public input message ≡ o → verdict f r ≡ both_outs (Some out) o
  finishes own input message out o j lo ho =
      answers input j.theirs own (Some message) j.helper j.share j.leader j.joined
      ∙ ap (λ x. both_outs (out_of f Leader r x message) (helper_out f r message)) j.leader
      ∙ ap (λ x. both_outs x (helper_out f r message)) lo
      ∙ ap (λ x. both_outs (Some out) (out_of f Helper r x message)) j.helper
      ∙ ap (both_outs (Some out)) ho

  pub goes_by_the_first_rule : GoesByTheFirstRule f r (verdict f r)
  goes_by_the_first_rule = record {
    helper_closed = λ h. opens_to None h;
    helper_unprepared = λ input h e. prepares input None h e;
    leader_closed = λ input theirs h e l. leads input theirs None h e l;
    leader_unprepared = λ input theirs own h e l m. answers input theirs own None h e l m;
    helper_unfinished = λ own input message out j lo ho. finishes own input message out None j lo ho;
    else_ok = λ own input message leader helper j lo ho. finishes own input message leader (Some helper) j lo ho;
  }
