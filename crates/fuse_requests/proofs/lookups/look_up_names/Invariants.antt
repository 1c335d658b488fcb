use Rattle.std.specs.Prelude.{◌≡◌, ◌+◌, ◌-◌, ◌*◌, ◌^◌, ◌≤◌, ℕ, List, ◌++◌, drop, Some, Ok, vec_len, vec_capacity}
use Rattle.fuse_state.specs.Servers.{listing_of}
use Rattle.fuse_plans.specs.ListingOrder.{behind, with_offsets}
use Rattle.fuse_plans.specs.ListingPlans.{LookedUp, look_up_names, names_within, records_bytes}
use Rattle.fuse_sessions.specs.declared.session.Session.{Session}
use Rattle.fuse_sessions.specs.Performing.{Did}
use Rattle.fuse_requests.proofs.lookups.look_up_names.Given as goal

-- The names so far were found so and told, and with what is found of the rest all are; and there is room for these.
abbrev pub invariant-loop-next : goal.invariant-loop-next
invariant-loop-next g l = record {
  told : (listing : List (List ℕ × ℕ)) → listing_of l.initial.session.server.server l.extent.handle ≡ Some listing
      → (found : List LookedUp) × (l.bytes.items ≡ records_bytes found)
      × ((fin : Session g.row.M.Denot) (rest : List LookedUp)
      → Did g.M.Machine.Serves (look_up_names l.needs_nobody l.place (names_within (l.extent.size - vec_len l.bytes) (with_offsets l.cursor.before (drop l.cursor.at listing))))
      l.session fin (Ok rest)
      → Did g.M.Machine.Serves (look_up_names l.needs_nobody l.place (names_within l.extent.size (behind l.extent.offset listing)))
      l.initial.session fin (Ok (found ++ rest)));
  kept : l.session.server ≡ l.initial.session.server;
  capacity : l.extent.size ≤ vec_capacity l.bytes;
  within : vec_len l.bytes ≤ l.extent.size;
  names : l.extent.size ≤ vec_len l.bytes + 152 * l.names + 151;
  small : l.cursor.before ≤ 2 ^ 63 + l.cursor.at;
}

-- the room that is left
abbrev pub decreases-loop-next : goal.decreases-loop-next
decreases-loop-next g l = l.extent.size - vec_len l.bytes
