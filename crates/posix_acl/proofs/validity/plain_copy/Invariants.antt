use Rattle.std.proofs.Common.{◌≡◌, ◌<◌, ◌^◌, take}
use Rattle.std.specs.List.{All}
use Rattle.posix_acl.specs.Entries.{plain_entries}
use Rattle.posix_acl.proofs.validity.plain_copy.Given as goal

abbrev pub invariant-loop-entry : goal.invariant-loop-entry
invariant-loop-entry l = record {
  plain : l.copy.items ≡ plain_entries (take l.entry-index l.entries);
  fit : All (λ e. e.id < 2 ^ 32) l.copy.items;
}
