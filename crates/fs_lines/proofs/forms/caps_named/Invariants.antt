use Rattle.std.proofs.Common.{◌≡◌, Ok, map}
use Rattle.fs_cred.specs.Capabilities.{no_caps}
use Rattle.fs_lines.specs.Words.{caps_with}
use Rattle.fs_lines.proofs.forms.caps_named.Given as goal

abbrev pub invariant-loop-name : goal.invariant-loop-name
invariant-loop-name l = caps_with no_caps (map (λ x. x.now) l.yielded) ≡ Ok l.caps
