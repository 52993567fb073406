-- What a lane looks up among its records and those of the block in hand.
use Rattle.std.specs.Prelude.{◌≡◌, List, [], ◌++◌, map, Bool, Option, Some, None}
use Rattle.dap_messages.specs.declared.report.Report.{Report as Told}
use Rattle.lane_records.specs.declared.record.Record.{Record}
use Rattle.lane_records.specs.declared.record.Record.TheVariants.{Accept}
use Rattle.legal_journals.specs.LeaderIndexed.{LeaderIndexes}
use Rattle.legal_journals.specs.Reports.{Report}
use Rattle.part_journal.specs.Came.{Opens}
use Rattle.part_journal.specs.Pages.{Pages}
use Rattle.leader_lane.specs.declared.catalog.Catalog.{Catalog}

-- a report's task and identifier
abbrev pub key_of : Told → Report
key_of r = (r.name, r.id)

-- these keys are those of a block, which has Accepts alone
abbrev pub AreKeys : List Report → List Record → Type 0
AreKeys keys block = (rs : List Told) × (block ≡ map Accept rs) × (keys ≡ map key_of rs)

-- the index is that of these records with the block behind them, whose keys are kept
pub record Lists (c : Catalog) (records block : List Record) : Type 0 where
  pub indexed : LeaderIndexes c.index (records ++ block)
  pub keys : AreKeys c.entered.items block

-- of a journal's pages: with the block in hand while it is open what becomes of it, else without some of the Opens at their end
abbrev pub ListsBy : Record → Catalog → Pages Record → Option Bool → Type 0
ListsBy opener c p None = Lists c p.records p.block
ListsBy opener c p (Some known) = (seen : List Record) × Opens opener seen p.records × Lists c seen []
