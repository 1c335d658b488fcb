use Rattle.std.proofs.Common.{◌≡◌, string_bytes, take}
use Rattle.std.specs.List.{flat_map}
use Rattle.user_lines.specs.Seconds.{left_out_of}
use Rattle.user_lines.proofs.second.Second.left_out_text.Given as goal

abbrev pub invariant-loop-line : goal.invariant-loop-line
invariant-loop-line l = string_bytes l.text ≡ flat_map (left_out_of l.self.number) (take l.line-index l.line-items)
