-- When a disk in memory stops, and what its plan is after each call.
use Rattle.std.specs.Prelude.{◌≡◌, ℕ, zero, suc, ◌+◌, ◌<◌, ◌-◌, ◌^◌, ◌==◌, min, nat_le, Bool, true, false, if◌then◌else◌, List, Option, Some, None, find, Vec}
use Rattle.std.specs.Option.{option_map}
use Rattle.std.specs.declared.alloc.Global.{Global}
use Rattle.dap_disk.specs.declared.image.Image.{Image}
use Rattle.dap_disk.specs.declared.image.Image.TheVariants.{New}
use Rattle.dap_disk.specs.declared.image.Stop.{Stop}
use Rattle.dap_disk.specs.declared.plan.Plan.{Plan}

-- what the first stop that is listed for this call leaves, where one is listed
abbrev pub image_at : List Stop → ℕ → Option Image
image_at stops call = option_map (λ s. s.image) (find (λ s. s.call == call) stops)

-- a count with one more, up to its end
abbrev pub one_more : ℕ → ℕ
one_more n = min (n + 1) (2 ^ 64 - 1)

-- these stops are listed, restarts fail from that number on, and no call was made yet
abbrev pub new_plan : Vec Stop Global → Option ℕ → Plan
new_plan stops dead_from = record {
  stops = stops;
  dead_from = dead_from;
  calls = 0;
  restarts = 0;
  image = New;
  up = true;
  downs = 0;
  deads = 0;
}

-- the disk has stopped, if a stop is given
abbrev pub stopped : Option Image → Plan → Plan
stopped None p = p
stopped (Some image) p = record p { image = image; up = false; downs = one_more p.downs }

-- what the stop leaves that is listed for the next call, if one is
abbrev pub next_stop : Plan → Option Image
next_stop p = image_at p.stops.items (one_more p.calls)

-- after a call that isn't a restart: it is counted, and the disk stops where that is listed
abbrev pub after_call : Plan → Plan
after_call p = stopped (next_stop p) (record p { calls = one_more p.calls })

-- this restart, and each later one, fails
abbrev pub is_dead : Option ℕ → ℕ → Bool
is_dead None restart = false
is_dead (Some from) restart = nat_le from restart

-- what the next restart leaves, where it doesn't fail
abbrev pub comes_back : Plan → Option Image
comes_back p = if is_dead p.dead_from (one_more p.restarts) then None else Some p.image

-- after a restart: it is counted, and the disk is up, or it was dead once more
abbrev pub restarted : Option Image → Plan → Plan
restarted None p = record p { deads = one_more p.deads; up = false }
restarted (Some image) p = record p { image = New; up = true }

abbrev pub after_restart : Plan → Plan
after_restart p = restarted (comes_back p) (record p { restarts = one_more p.restarts })

-- after so many calls that aren't restarts
abbrev pub after_calls : ℕ → Plan → Plan
after_calls zero p = p
after_calls (suc n) p = after_call (after_calls n p)

-- Calls count from 1: after n of them on a new disk the next one is number n + 1, and a restart between doesn't count.
pub record CallsCountFromOne : Type 0 where
  pub next : (stops : Vec Stop Global) (dead_from : Option ℕ) (n : ℕ) → n + 1 < 2 ^ 64 → next_stop (after_calls n (new_plan stops dead_from)) ≡ image_at stops.items (n + 1)
  pub restart : (p : Plan) → next_stop (after_restart p) ≡ next_stop p
