-- The first record without its counterpart. Lists of records have the newest first.
use Rattle.std.specs.Prelude.{◌≡◌, ℕ, suc, ◌+◌, ◌<◌, ◌≤◌, ◌⊎◌, List, ◌∷◌, ◌++◌, length, Option, Some, None}
use Rattle.vdaf_api.specs.Functions.{Functions}
use Rattle.vdaf_api.specs.declared.kind.Kind.{Kind}
use Rattle.dap_bytes.specs.declared.node.Node.{Node}
use Rattle.dap_bytes.specs.declared.node.Node.TheVariants.{Leader, Helper}
use Rattle.dap_bytes.specs.declared.part.Part.{Part}
use Rattle.dap_bytes.specs.declared.part.Part.TheVariants.{Front, Lane}
use Rattle.lane_records.specs.declared.record.Record.{Record}
use Rattle.dap_agree.specs.Agree.{LeaderHas, HelperFits}
use Rattle.dap_agree.specs.Fronts.{Journals, held, FrontFits, HelperFrontFits, AllAgree}

-- the disk of a node's part: the leader's front, its lanes, the helper's front, its lanes
abbrev pub disk_of : ℕ → Node → Part → ℕ
disk_of lanes Leader Front = 0
disk_of lanes Leader (Lane k) = suc k
disk_of lanes Helper Front = suc lanes
disk_of lanes Helper (Lane k) = suc (suc (lanes + k))

-- there is such a part
abbrev pub IsPart : ℕ → Part → Type 0
IsPart lanes Front = Unit {0}
IsPart lanes (Lane k) = k < lanes

-- the records of the part
abbrev pub records_of : Journals → Node → Part → List Record
records_of js Leader Front = js.front
records_of js Leader (Lane k) = js.leaders k
records_of js Helper Front = js.helper_front
records_of js Helper (Lane k) = js.helpers k

-- the record of the part has its counterpart, where these stand before it
abbrev pub PartHas : (Kind → Functions) → Journals → Node → Part → Record → List Record → Type 0
PartHas f js Leader Front x old = FrontFits f js x
PartHas f js Leader (Lane k) x old = LeaderHas f (held js) (js.leaders k) (js.helpers k) x old
PartHas f js Helper Front x old = HelperFrontFits f js x
PartHas f js Helper (Lane k) x old = HelperFits f (held js) (js.leaders k) x old

-- the record at a place, from 0, of the part has none
abbrev pub Lacks : (Kind → Functions) → Journals → Node → Part → ℕ → Type 0
Lacks f js node part entry =
    (newer : List Record) × (x : Record) × (old : List Record) × (records_of js node part ≡ newer ++ x ∷ old) × (length old ≡ entry) × ¬ (PartHas f js node part x old)

-- Disk and place of the first record without its counterpart, by disk and then by place. None where all journals agree.
abbrev pub IsFirstLacking : (Kind → Functions) → Journals → Option (ℕ × ℕ) → Type 0
IsFirstLacking f js None = AllAgree f js
IsFirstLacking f js (Some p) =
    ((node : Node) × (part : Part) × IsPart js.lanes part × (disk_of js.lanes node part ≡ p.0) × Lacks f js node part p.1)
    × ((node : Node) (part : Part) (entry : ℕ) → IsPart js.lanes part → Lacks f js node part entry →
    (p.0 < disk_of js.lanes node part) ⊎ ((p.0 ≡ disk_of js.lanes node part) × (p.1 ≤ entry)))
