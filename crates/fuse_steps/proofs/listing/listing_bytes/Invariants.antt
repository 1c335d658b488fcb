use Rattle.std.proofs.Common.{◌≡◌, ◌+◌, ◌-◌, ◌^◌, ◌≤◌, ◌++◌, drop, vec_len, vec_capacity}
use Rattle.fuse_plans.specs.DirectoryPlans.{listing_bytes}
use Rattle.fuse_plans.specs.ListingOrder.{behind, with_offsets}
use Rattle.fuse_steps.proofs.listing.listing_bytes.Given as goal

-- what was told, and what is told of the names that are left, is told of all
abbrev pub invariant-loop-at : goal.invariant-loop-at
invariant-loop-at l = record {
  at : l.cursor.at ≡ l.at;
  small : l.cursor.before ≤ 2 ^ 63 + l.cursor.at;
  room : l.extent.size ≤ vec_capacity l.bytes;
  within : vec_len l.bytes ≤ l.extent.size;
  told : listing_bytes l.extent.size (behind l.extent.offset l.listing)
      ≡ l.bytes.items ++ listing_bytes (l.extent.size - vec_len l.bytes) (with_offsets l.cursor.before (drop l.at l.listing));
}
