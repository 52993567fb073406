-- Two ends that have met.
use Rattle.std.specs.Prelude.{◌≡◌, ◌≤◌, ◌+◌, length}
use Rattle.dap_wire.specs.Link.{Link, known}
use Rattle.dap_wire.specs.declared.places.TheConstants.{LINK_PLACES}

-- both rings as read at either end are what was sent and not received: what waits is known in order, it is at most
-- the ring's 64 places, and each place where nothing waits is known to be free
pub record HaveMet {T : Type 0} (a b : Link T) : Type 0 where
  pub there : known b ≡ a.sent
  pub back : known a ≡ b.sent
  pub places_there : length b.waiting ≤ LINK_PLACES
  pub places_back : length a.waiting ≤ LINK_PLACES
  pub room_there : LINK_PLACES ≤ a.room + length b.waiting
  pub room_back : LINK_PLACES ≤ b.room + length a.waiting
