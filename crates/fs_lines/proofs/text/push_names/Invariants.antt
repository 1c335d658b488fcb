use Rattle.std.proofs.Common.{◌≡◌, ◌++◌, take, string_bytes}
use Rattle.fs_model.specs.Listings.{pairs}
use Rattle.fs_lines.specs.Texts.{names_text}
use Rattle.fs_lines.proofs.text.push_names.Given as goal

abbrev pub invariant-loop-named : goal.invariant-loop-named
invariant-loop-named l = string_bytes l.text ≡ string_bytes l.initial.text ++ names_text (pairs (take l.named-index l.named-items))
