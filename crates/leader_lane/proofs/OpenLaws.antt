-- The opening of a lane.
use Rattle.std.proofs.Common.{◌≡◌, ℕ, List, [], ◌++◌, inl, refl, sym, ap, ◌∙◌, subst, true, IsTrue, arith}
use Rattle.report_journal.specs.Log.{LogView}
use Rattle.lane_records.specs.Records.{record_}
use Rattle.lane_records.specs.declared.place.Place.{Place}
use Rattle.lane_records.specs.declared.record.Record.{Record}
use Rattle.lane_records.specs.declared.place.LaneFault.{LaneFault}
use Rattle.lane_records.specs.declared.place.LaneFault.TheVariants.{Stopped as LaneStopped, NoMemory as LaneNoMemory}
use Rattle.part_journal.specs.declared.fault.PartFault.{PartFault}
use Rattle.part_journal.specs.declared.fault.PartFault.TheVariants.{Stopped as PartStopped, NoMemory as PartNoMemory}
use Rattle.part_journal.specs.declared.fault.TheConstants.{MOST_STOPS}
use Rattle.part_journal.specs.Came.{Came}
use Rattle.part_journal.specs.Counts.{CountsStops}
use Rattle.part_journal.specs.CountsLaws.{stops_none, stops_as}
use Rattle.part_journal.specs.Pages.{Pages, first_pages, reopening, IsBack, Opening}
use Rattle.leader_lane.specs.Faults.{fault_of}
use Rattle.part_journal.specs.Part.{IsOf}
use Rattle.leader_lane.specs.declared.catalog.Catalog.{Catalog}
use Rattle.leader_lane.specs.Catalog.{Lists}
use Rattle.leader_lane.specs.Judge.{Env}
use Rattle.leader_lane.specs.Sound.{IsPlace, opener_of, Sound, Spells}
use Rattle.leader_lane.specs.Own.{own}
use Rattle.leader_lane.specs.Lane.{IsHandedBack}
use Rattle.leader_lane.proofs.SoundLaws.{open_may}
use Rattle.leader_lane.proofs.OwnLaws.{steps_none, steps_opening}

-- the Open is in the grammar
pub opener_allowed : (place : Place) (recs : List Record) → IsPlace place → Sound place recs → IsTrue (record_.allowed (opener_of place))
opener_allowed place recs is s = (open_may place recs is s).0

module _ {D : Type 0} where
  -- nothing was begun
  pub handed_same : (n : Env) (recs : List Record) (log : LogView D) → Spells n.place log.records recs → log.coming ≡ [] → IsHandedBack n recs log
  handed_same n recs log s none = (first_pages recs, inl refl, record { records = s.0; block = none }, steps_none n (own (first_pages recs)))

  -- an Open was begun, and the opening was refused
  pub handed_back : (n : Env) (recs given : List Record) (log : LogView D) (q : Pages Record) → given ≡ recs → IsPlace n.place → Sound n.place recs → Opening (opener_of n.place) (first_pages given) q → IsOf record_.spell q log → IsHandedBack n recs log
  handed_back n recs given log q e is s opening of =
      let on : Opening (opener_of n.place) (first_pages recs) q = subst (λ (l : List Record). Opening (opener_of n.place) (first_pages l) q) e opening in
      (q, on, of, steps_opening n recs q is s on)

module _ {D : Type 0} (downs deads : D → ℕ) where
  -- memory ran out before the disk was asked
  pub counts_begin : (x : D) → (left : ℕ) × CountsStops downs deads (LaneNoMemory ≡ LaneStopped) MOST_STOPS left x x
  counts_begin x =
      (MOST_STOPS, stops_as downs deads ⊥ (LaneNoMemory ≡ LaneStopped) MOST_STOPS MOST_STOPS x x (λ e. absurd e) (λ e. absurd (cc e)) (stops_none downs deads MOST_STOPS x (omega arith)))

  to_lane : (f : PartFault) → f ≡ PartStopped → fault_of f ≡ LaneStopped
  to_lane f e = ap fault_of e

  of_part : (f : PartFault) → fault_of f ≡ LaneStopped → f ≡ PartStopped
  of_part PartStopped e = refl
  of_part PartNoMemory e = absurd (cc e)

  -- the counts of a refused opening
  pub counts_refused : (f : PartFault) (o : LaneFault) (x y : D) → o ≡ fault_of f → (left : ℕ) × CountsStops downs deads (f ≡ PartStopped) MOST_STOPS left x y → (left : ℕ) × CountsStops downs deads (o ≡ LaneStopped) MOST_STOPS left x y
  counts_refused f o x y is (left, c) = (left, stops_as downs deads (f ≡ PartStopped) (o ≡ LaneStopped) MOST_STOPS left x y (λ e. is ∙ to_lane f e) (λ e. of_part f (sym is ∙ e)) c)

-- the way back of the journal, by what the lane appends
pub back_as : (place : Place) (recs given : List Record) (x : Record) (q : Pages Record) → given ≡ recs → x ≡ opener_of place → IsBack x (reopening x (first_pages given)) q → IsBack (opener_of place) (reopening (opener_of place) (first_pages recs)) q
back_as place recs given x q e o back =
    subst (λ (y : Record). IsBack y (reopening y (first_pages recs)) q) o (subst (λ (l : List Record). IsBack x (reopening x (first_pages l)) q) e back)

pub came_as : (place : Place) (recs given : List Record) (x : Record) (q : Pages Record) → given ≡ recs → x ≡ opener_of place → Came x (first_pages given) q → Came (opener_of place) (first_pages recs) q
came_as place recs given x q e o came = subst (λ (y : Record). Came y (first_pages recs) q) o (subst (λ (l : List Record). Came x (first_pages l) q) e came)

pub opening_as : (place : Place) (given : List Record) (x : Record) (q : Pages Record) → x ≡ opener_of place → Opening x (first_pages given) q → Opening (opener_of place) (first_pages given) q
opening_as place given x q o way = subst (λ (y : Record). Opening y (first_pages given) q) o way

-- the Open that is given is in the grammar
pub given_allowed : (place : Place) (recs : List Record) (x : Record) → IsPlace place → Sound place recs → x ≡ opener_of place → IsTrue (record_.allowed x)
given_allowed place recs x is s e = subst (λ (y : Record). record_.allowed y ≡ true) (sym e) (opener_allowed place recs is s)

-- the catalog of the records that were read
pub catalog_read : (c d : Catalog) (given : List Record) → Lists c [] []
    → ((seen more : List Record) → Lists c seen [] → given ≡ seen ++ more → Lists d given []) → Lists d given []
catalog_read c d given l call = call [] given l refl
