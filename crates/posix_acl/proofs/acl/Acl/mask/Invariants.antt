use Rattle.std.proofs.Common.{◌≡◌, drop}
use Rattle.posix_acl.specs.declared.entry.Tag.TheVariants.{Mask}
use Rattle.posix_acl.specs.Stored.{perms_tagged}
use Rattle.posix_acl.proofs.acl.Acl.mask.Given as goal

-- the mask is not among the entries so far
abbrev pub invariant-loop-entry : goal.invariant-loop-entry
invariant-loop-entry l = perms_tagged Mask (drop l.entry-index l.entry-items) ≡ l.self.mask
