-- The opening of a lane.
use Rattle.std.proofs.Common.{◌≡◌, ℕ, List, [], length, reverse, true, false, Option, Some, inl, refl, sym, ap, subst, ◌∙◌, arith}
use Rattle.std.specs.Prelude.{IsTrue}
use Rattle.std.specs.List.{find}
use Rattle.vdaf_api.specs.declared.kind.Kind.{Kind}
use Rattle.vdaf_api.specs.Functions.{Functions}
use Rattle.vdaf_api.specs.Kind.{IsKind}
use Rattle.vdaf_api.specs.Promises.{FunctionLaws}
use Rattle.dap_tasks.specs.Task.{PlainTask, IsTask, has_name}
use Rattle.dap_wire.specs.Link.{IsCarried}
use Rattle.lane_records.specs.declared.place.Place.{Place}
use Rattle.lane_records.specs.declared.place.LaneFault.TheVariants as faults
use Rattle.lane_records.specs.declared.record.Record.{Record}
use Rattle.lane_records.specs.Journal.{spell_all}
use Rattle.lane_records.specs.Records.{record_}
use Rattle.part_journal.specs.declared.fault.TheConstants.{MOST_STOPS}
use Rattle.part_journal.specs.Came.{Came}
use Rattle.part_journal.specs.CameLaws.{came_same}
use Rattle.part_journal.specs.Counts.{CountsStops}
use Rattle.part_journal.specs.CountsLaws.{stops_as, stops_none}
use Rattle.part_journal.specs.Pages.{Pages, first_pages, reopening, IsBack, Opening}
use Rattle.part_journal.specs.Part.{IsOf}
use Rattle.report_journal.specs.Log.{LogView}
use Rattle.helper_lane.specs.Lane.{HelperView, IsHelper, IsJournalOf, IsPlace, StaysOf, env, opener_at}
use Rattle.helper_lane.specs.Own.{Keeps, opener_of}
use Rattle.helper_lane.specs.Refusals.{env_of}
use Rattle.helper_lane.specs.Reply.{Env}
use Rattle.helper_lane.specs.Replies.{IsEnv}
use Rattle.helper_lane.proofs.Calls.{came_opening}
use Rattle.helper_lane.proofs.Keeping.{contains_none, keeps_first}
use Rattle.helper_lane.proofs.Moves.{goes_open, open_may}

-- a place and the tasks that a lane is opened with
pub env_is : (f : Kind → Functions) (place : Place) (tasks : List PlainTask) → ((k : Kind) → IsKind k → FunctionLaws (f k)) → ((n : List ℕ) (t : PlainTask) → find (has_name n) tasks ≡ Some t → IsTask t)
    → IsPlace place → IsEnv (env_of f place tasks)
env_is f place tasks laws tasks_are is = record { laws = laws; kinds = λ n t e. (tasks_are n t e).0.kind_ranges; some_lane = is.some_lane; few_lanes = is.few_lanes; own_lane = is.own_lane }

-- the Open is in the grammar
pub opener_allowed : (e : Env) (xs : List Record) → IsEnv e → IsJournalOf e xs → IsTrue (record_.allowed (opener_of e))
opener_allowed e xs is journal =
    let k = keeps_first e (λ b. ⊥) [] xs refl journal in (open_may e is (λ b. ⊥) (length xs) [] (reverse xs) k.without).0

module _ {D : Type 0} where
  -- nothing was begun
  pub stays_first : (place : Place) (xs : List Record) (log : LogView D) → log.records ≡ spell_all xs → log.coming ≡ [] → StaysOf place xs log
  stays_first place xs log spelled none = (first_pages xs, came_same (opener_at place) (first_pages xs) (λ b e. inl refl), record { records = spelled; block = none })

  -- the opening of the journal was refused
  pub stays_refused : (place : Place) (xs given : List Record) (log : LogView D) (q : Pages Record) → given ≡ xs → Opening (opener_at place) (first_pages given) q → IsOf record_.spell q log → StaysOf place xs log
  stays_refused place xs given log q e way of =
      (q, came_opening (opener_at place) xs q (subst (λ (l : List Record). Opening (opener_at place) (first_pages l) q) e way), of)

  -- it stood
  pub stays_opened : (place : Place) (xs given : List Record) (log : LogView D) (q : Pages Record) → given ≡ xs → Came (opener_at place) (first_pages given) q → IsOf record_.spell q log → StaysOf place xs log
  stays_opened place xs given log q e came of = (q, subst (λ (l : List Record). Came (opener_at place) (first_pages l) q) e came, of)

module _ {D : Type 0} (downs deads : D → ℕ) where
  -- memory ran out before the disk was asked
  pub counts_begin : (x : D) → (left : ℕ) × CountsStops downs deads (faults.NoMemory ≡ faults.Stopped) MOST_STOPS left x x
  counts_begin x =
      (MOST_STOPS, stops_as downs deads ⊥ (faults.NoMemory ≡ faults.Stopped) MOST_STOPS MOST_STOPS x x (λ e. absurd e) (λ e. absurd (cc e)) (stops_none downs deads MOST_STOPS x (omega arith)))

  -- or after the Open
  pub counts_opened : (left : ℕ) (x y z : D) → z ≡ y → CountsStops downs deads ⊥ MOST_STOPS left x y → (left : ℕ) × CountsStops downs deads (faults.NoMemory ≡ faults.Stopped) MOST_STOPS left x z
  counts_opened left x y z same c =
      (left, subst (λ (d : D). CountsStops downs deads (faults.NoMemory ≡ faults.Stopped) MOST_STOPS left x d) (sym same) (stops_as downs deads ⊥ (faults.NoMemory ≡ faults.Stopped) MOST_STOPS left x y (λ e. absurd e) (λ e. absurd (cc e)) c))

module _ {D T : Type 0} (f : Kind → Functions) (carried : T → Option (List (List ℕ))) where
  -- a lane that was opened keeps what its type says
  pub helper_begins : (v : HelperView D T) (xs given : List Record) → IsEnv (env f v) → IsJournalOf (env f v) xs → given ≡ xs → v.part.opener ≡ opener_of (env f v) → v.part.opening ≡ length given → v.link.sent ≡ []
      → IsBack (opener_of (env f v)) (reopening (opener_of (env f v)) (first_pages given)) v.part.pages → v.hand ≡ [] → IsTrue v.part.up → v.stopped ≡ false → IsHelper f carried v
  helper_begins v xs given is journal e opener opening none back hand up calm =
      let n : Env = env f v in
      let heard = IsCarried carried v.link in
      let came = subst (λ (l : List Record). IsBack (opener_of n) (reopening (opener_of n) (first_pages l)) v.part.pages) e back in
      let first : Keeps n heard (length xs) v.link.sent (first_pages xs) = keeps_first n heard v.link.sent xs none journal in
      let now : Keeps n heard (length xs) v.link.sent v.part.pages = (goes_open n is heard (first_pages xs) v.part.pages refl refl came (length xs) v.link.sent first).0 in
      record {
        made = is;
        opener = opener;
        keeps = subst (λ (k : ℕ). Keeps n heard k v.link.sent v.part.pages) (sym (opening ∙ ap length e)) now;
        hand = λ b c. absurd (contains_none v.hand b hand c);
        awake = λ on. record { up = up; block = ap (λ (z : Pages Record). z.block) came.1; opened = ap (λ (z : Pages Record). z.opened) came.1; calm = calm };
        halted = λ s. let no : false ≡ true = sym calm ∙ s in absurd (cc no);
      }
