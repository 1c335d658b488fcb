use Rattle.std.proofs.Common.{◌≡◌, drop}
use Rattle.fs_cred.specs.Verdicts.{perms_named}
use Rattle.fs_cred.proofs.Scanned.{user_in}
use Rattle.fs_cred.proofs.access.named_user.Given as goal

-- the user's entry is not among those so far
abbrev pub invariant-loop-entry : goal.invariant-loop-entry
invariant-loop-entry l = user_in l.user (drop l.entry-index l.entry-items) ≡ perms_named l.user l.acl.users
