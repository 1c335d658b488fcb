use Rattle.std.proofs.Common.{◌≡◌, ◌∷◌, ◌++◌, take, string_bytes}
use Rattle.std.specs.List.{flat_map}
use Rattle.posix_acl.specs.Text.{entry_text}
use Rattle.posix_acl.proofs.text.write_short.Given as goal

abbrev pub invariant-loop-entry : goal.invariant-loop-entry
invariant-loop-entry l =
    string_bytes l.text ≡ string_bytes l.initial.text ++ flat_map (λ e. 44 ∷ entry_text e) (take l.entry-index l.others)
