-- A law on lines.
--     LinesSayOneThing        a line says one thing, also by the text of an ACL
use Rattle.std.specs.Prelude.{◌≡◌, ℕ, List, Result}
use Rattle.fs_lines.specs.declared.line.Line.{Line}
use Rattle.fs_lines.specs.declared.line.LineFault.{LineFault}
use Rattle.fs_lines.specs.Commands.{LineSays}

abbrev pub LinesSayOneThing : Type 0
LinesSayOneThing = (line : List ℕ) (this other : Result Line LineFault) → LineSays line this → LineSays line other → this ≡ other
