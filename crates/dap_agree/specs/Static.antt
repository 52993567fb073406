-- Two lanes of a link, by what each keeps of its own. Lists of records have the newest first.
use Rattle.std.specs.Prelude.{ℕ, List, [], ◌∷◌, ◌++◌}
use Rattle.vdaf_api.specs.Functions.{Functions}
use Rattle.vdaf_api.specs.declared.kind.Kind.{Kind}
use Rattle.dap_bytes.specs.declared.node.Node.TheVariants.{Leader, Helper}
use Rattle.dap_bytes.specs.declared.part.Part.TheVariants.{Lane}
use Rattle.dap_messages.specs.declared.message.Message.{Message}
use Rattle.dap_seal.specs.Steps.{prep_by, item_by, share_by, outcome_by}
use Rattle.dap_tasks.specs.Task.{PlainTask}
use Rattle.lane_records.specs.declared.format.Format.{Format}
use Rattle.lane_records.specs.declared.record.Record.{Record}
use Rattle.lane_records.specs.declared.record.Record.TheVariants.{LeaderOpen, Accept, Continue, Finish, LeaderClose, Start, Commit, HelperClose}
use Rattle.legal_journals.specs.History.{Mem}
use Rattle.legal_journals.specs.Legal.{IsLegal}
use Rattle.legal_journals.specs.Rests.{ContinueRests, FinishRests, StartRests, CommitRests}
use Rattle.legal_journals.specs.Sent.{LeaderJustifies, HelperJustifies, IsOfItsContinue}
use Rattle.dap_agree.specs.Agree.{Fronts, AcceptFits, LeaderCloseFits, HelperCloseFits, LanesFit}

-- ---- what a record rests on, of the messages that were handed on

-- a leader's record, where these replies were
abbrev pub LeaderRests : (Kind → Functions) → Fronts → List Message → Record → List Record → Type 0
LeaderRests f fr replies (Continue n j xs) old = ContinueRests (item_by f) fr.task (λ m. Mem m replies) n j xs old
LeaderRests f fr replies (Finish j outs) old = FinishRests (share_by f) fr.task (λ m. Mem m replies) j outs old
LeaderRests f fr replies _ old = Unit {0}

-- a helper's, where these requests were
abbrev pub HelperRests : (Kind → Functions) → Fronts → List Message → Record → List Record → Type 0
HelperRests f fr requests (Start j n hs) old = StartRests fr.task (λ m. Mem m requests) j n hs
HelperRests f fr requests (Commit j outs) old = CommitRests (outcome_by f) (λ (t : PlainTask). t.precision) fr.task (λ m. Mem m requests) j outs old
HelperRests f fr requests _ old = Unit {0}

-- each record that a leader added to the base
abbrev pub AllLeaderRest : (Kind → Functions) → Fronts → List Message → List Record → List Record → Type 0
AllLeaderRest f fr replies [] base = Unit {0}
AllLeaderRest f fr replies (x ∷ added) base = LeaderRests f fr replies x (added ++ base) × AllLeaderRest f fr replies added base

-- each that a helper added
abbrev pub AllHelperRest : (Kind → Functions) → Fronts → List Message → List Record → List Record → Type 0
AllHelperRest f fr requests [] base = Unit {0}
AllHelperRest f fr requests (x ∷ added) base = HelperRests f fr requests x (added ++ base) × AllHelperRest f fr requests added base

-- ---- the counterparts of Accepts and Closes

-- a leader's Accept or Close has its counterpart
abbrev pub LeaderCloses : (Kind → Functions) → Fronts → Record → List Record → Type 0
LeaderCloses f fr (Accept r) old = AcceptFits fr r old
LeaderCloses f fr (LeaderClose n s c) old = LeaderCloseFits f fr n s c old
LeaderCloses f fr _ old = Unit {0}

-- so has each of the list
abbrev pub LeaderClosesFit : (Kind → Functions) → Fronts → List Record → Type 0
LeaderClosesFit f fr [] = Unit {0}
LeaderClosesFit f fr (x ∷ old) = LeaderCloses f fr x old × LeaderClosesFit f fr old

-- a helper's Close has its counterpart in the leader's list
abbrev pub HelperCloses : (Kind → Functions) → Fronts → List Record → Record → List Record → Type 0
HelperCloses f fr l (HelperClose n s c) old = HelperCloseFits f fr l n s c old
HelperCloses f fr l _ old = Unit {0}

-- so has each of the list
abbrev pub HelperClosesFit : (Kind → Functions) → Fronts → List Record → List Record → Type 0
HelperClosesFit f fr l [] = Unit {0}
HelperClosesFit f fr l (x ∷ old) = HelperCloses f fr l x old × HelperClosesFit f fr l old

-- ---- what the two lanes keep

-- Both lanes of a number. The leader's list is lo, the records at the opening, then its Open, then la; the helper's is ho and then ha. Requests and replies are all that was
-- sent, so they hold all that was handed on.
pub record LanesKeep (f : Kind → Functions) (fr : Fronts) (lane : ℕ) (format : Format) (lanes own : ℕ) (la lo ha ho : List Record) (requests replies : List Message) : Type 0 where
  pub l_legal : IsLegal Leader (Lane lane) (la ++ LeaderOpen format lanes own ∷ lo)
  pub h_legal : IsLegal Helper (Lane lane) (ha ++ ho)
  -- the records at the opening had their counterparts
  pub opened : LanesFit f fr lo ho
  -- each record that was added rests on a message
  pub l_rests : AllLeaderRest f fr replies la (LeaderOpen format lanes own ∷ lo)
  pub h_rests : AllHelperRest f fr requests ha ho
  -- Accepts and Closes have their counterparts
  pub l_closes : LeaderClosesFit f fr (la ++ LeaderOpen format lanes own ∷ lo)
  pub h_closes : HelperClosesFit f fr (la ++ LeaderOpen format lanes own ∷ lo) (ha ++ ho)
  -- what was sent is justified by the sender's records
  pub l_sent : (m : Message) → Mem m requests → LeaderJustifies (la ++ LeaderOpen format lanes own ∷ lo) m × IsOfItsContinue (la ++ LeaderOpen format lanes own ∷ lo) m
  pub h_sent : (m : Message) → Mem m replies → HelperJustifies (prep_by f) fr.task (ha ++ ho) m
