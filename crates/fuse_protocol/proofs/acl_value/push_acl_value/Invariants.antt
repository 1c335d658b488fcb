use Rattle.std.proofs.Common.{◌≡◌, ◌∷◌, [], ◌++◌, take}
use Rattle.std.specs.List.{flat_map}
use Rattle.fuse_protocol.specs.Bytes.{bytes_of_u32s}
use Rattle.fuse_protocol.specs.AclValues.{acl_entry_bytes}
use Rattle.fuse_protocol.proofs.acl_value.push_acl_value.Given as goal

abbrev pub invariant-loop-entry : goal.invariant-loop-entry
invariant-loop-entry l = l.to.items ≡ (l.fn.to.items ++ bytes_of_u32s (2 ∷ [])) ++ flat_map acl_entry_bytes (take l.entry-index l.entries)
