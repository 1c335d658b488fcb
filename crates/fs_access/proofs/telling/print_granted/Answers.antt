use Rattle.std.proofs.Common.{ap, ◌∙◌}
use Rattle.posix_acl.specs.Text.{perms_text}
use Rattle.fs_lines.specs.Texts.{word_text}
use Rattle.fs_access.proofs.telling.print_granted.Goals as goal

pub returns : goal.returns
returns g c =
    rw (c.letters-letters.ensures ∙ ap perms_text c.perms.ensures, c.in_ok-path.ensures ∙ ap word_text c.path.ensures, c.in_ok-keeper.ensures)
    at c.writeln.ensures.bytes
