use Rattle.std.proofs.Common.{◌≡◌, drop}
use Rattle.fs_cred.specs.Verdicts.{first_of_groups}
use Rattle.fs_cred.proofs.Scanned.{group_in}
use Rattle.fs_cred.proofs.access.first_of_groups.Given as goal

-- no entry so far is one of the caller's groups and holds all of want
abbrev pub invariant-loop-entry : goal.invariant-loop-entry
invariant-loop-entry l = group_in l.cred l.node.group l.want (drop l.entry-index l.entry-items) ≡ first_of_groups l.cred l.node l.want
