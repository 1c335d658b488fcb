use Rattle.std.proofs.Common.{◌≡◌, length}
use Rattle.posix_acl.specs.Text.{without_front_blanks}
use Rattle.posix_acl.proofs.reading.trimmed_start.Given as goal

abbrev pub invariant-loop-rest : goal.invariant-loop-rest
invariant-loop-rest l = without_front_blanks l.rest ≡ without_front_blanks l.initial.rest

abbrev pub decreases-loop-rest : goal.decreases-loop-rest
decreases-loop-rest l = length l.rest
