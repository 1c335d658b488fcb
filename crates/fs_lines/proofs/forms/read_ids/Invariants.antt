use Rattle.std.proofs.Common.{◌≡◌, Ok, map}
use Rattle.fs_lines.specs.Lines.{each}
use Rattle.fs_lines.specs.Words.{id_of}
use Rattle.fs_lines.proofs.forms.read_ids.Given as goal

abbrev pub invariant-loop-id : goal.invariant-loop-id
invariant-loop-id l = each id_of (map (λ x. x.now) l.yielded) ≡ Ok l.ids.items
