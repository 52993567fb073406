-- What a front's record of an answer holds, as tables of its fields.
use Rattle.dap_messages.specs.Grammar.{Grammar, ◌⊗◌, shaped, bytes}
use Rattle.dap_messages.specs.declared.reply.TheConstants.{MOST_OUT}
use Rattle.dap_messages.specs.Forms.{any_u32}
use Rattle.lane_records.specs.declared.batch.Answered.{Answered}

-- count, rejected, the leader's and the helper's share
abbrev pub answered : Grammar Answered
answered =
    shaped (λ p. record { count = p.0; rejected = p.1.0; leader = p.1.1.0; helper = p.1.1.1 }) (λ a. (a.count, (a.rejected, (a.leader, a.helper))))
    (any_u32 ⊗ any_u32 ⊗ bytes MOST_OUT ⊗ bytes MOST_OUT)
