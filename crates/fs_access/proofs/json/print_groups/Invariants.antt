use Rattle.std.proofs.Common.{take}
use Rattle.std.specs.Io.KnownBytes.{Appends}
use Rattle.fs_access.specs.Objects.{groups_text}
use Rattle.fs_access.proofs.json.print_groups.Given as goal

abbrev pub invariant-loop-group : goal.invariant-loop-group
invariant-loop-group g l = Appends (g.O.Write.contents l.initial.out) (g.O.Write.contents l.out) (groups_text (take l.group-index l.groups))
