-- How the calls of a disk in memory move its plan.
use Rattle.std.specs.Prelude.{◌≡◌, ℕ, List, [], ◌∷◌, ◌++◌, IsTrue, false}
use Rattle.dap_disk.specs.Disk.{Move, Looked, Changed, Synced, Refused, Restarted}
use Rattle.dap_disk.specs.Images.{Change}
use Rattle.dap_disk.specs.History.{State, state_of, held_after, left_by}
use Rattle.dap_disk.specs.declared.image.Image.{Image}
use Rattle.dap_disk.specs.declared.image.Image.TheVariants.{New}
use Rattle.dap_disk.specs.Plan.{after_call, after_restart}
use Rattle.dap_disk.specs.declared.plan.Plan.{Plan}
use Rattle.dap_disk.specs.declared.mem_disk.MemDisk.{MemDisk}

-- the stops that are listed, the calls that were made, and what follows from these
abbrev pub plan_of : MemDisk → Plan
plan_of m = m.plan

-- the bytes as they read
abbrev pub held_by : MemDisk → List ℕ
held_by m = held_after m.store.first.items m.store.events.items

-- what was on the disk at the last sync or restart, and the changes since
abbrev pub stored : MemDisk → State
stored m = state_of m.store.first.items m.store.events.items

-- with a change more that waits for a sync
abbrev pub waiting : Change → State → State
waiting change s = record { synced = s.synced; pending = s.pending ++ change ∷ [] }

-- what a rule leaves is on the disk, and nothing waits for a sync
abbrev pub settled : Image → State → State
settled image s = record { synced = left_by image s; pending = [] }

-- A call that counts moves the plan one call on. One that looks leaves all that is stored, a change waits for a sync also where the disk stops at it, and a sync settles all where the disk doesn't stop at it. One that is refused leaves the plan and all that is stored. A restart settles what the last stop was to leave, and where the disk is dead all that is stored stays.
abbrev pub Moved : Move → MemDisk → MemDisk → Type 0
Moved Looked old new = (plan_of new ≡ after_call (plan_of old)) × (stored new ≡ stored old)
Moved (Changed change) old new = (plan_of new ≡ after_call (plan_of old)) × (stored new ≡ waiting change (stored old))
Moved Synced old new =
    (plan_of new ≡ after_call (plan_of old))
    × (IsTrue (plan_of new).up → stored new ≡ settled New (stored old))
    × ((plan_of new).up ≡ false → stored new ≡ stored old)
Moved Refused old new = (plan_of new ≡ plan_of old) × (stored new ≡ stored old)
Moved Restarted old new =
    (plan_of new ≡ after_restart (plan_of old))
    × (IsTrue (plan_of new).up → stored new ≡ settled (plan_of old).image (stored old))
    × ((plan_of new).up ≡ false → stored new ≡ stored old)
