use Rattle.std.proofs.Common.{map}
use Rattle.std.specs.List.{flat_map}
use Rattle.posix_acl.specs.Text.{AreEntryTexts, line_pieces}
use Rattle.posix_acl.proofs.reading.read_text.Given as goal

abbrev pub invariant-loop-line : goal.invariant-loop-line
invariant-loop-line l = AreEntryTexts (flat_map line_pieces (map (λ x. x.now) l.yielded)) l.entries.items
