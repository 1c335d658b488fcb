use Rattle.std.proofs.Common.{map}
use Rattle.posix_acl.specs.Text.{AppendsEntries, kept_pieces}
use Rattle.posix_acl.proofs.reading.read_line.Given as goal

abbrev pub invariant-loop-piece : goal.invariant-loop-piece
invariant-loop-piece l = AppendsEntries l.initial.entries.items l.entries.items (kept_pieces (map (λ x. x.now) l.yielded))
