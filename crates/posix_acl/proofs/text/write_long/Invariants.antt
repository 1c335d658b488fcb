use Rattle.std.proofs.Common.{◌≡◌, take, string_bytes}
use Rattle.posix_acl.specs.Text.{long_text}
use Rattle.posix_acl.proofs.text.write_long.Given as goal

abbrev pub invariant-loop-entry : goal.invariant-loop-entry
invariant-loop-entry l = string_bytes l.text ≡ long_text (take l.entry-index l.entries)
