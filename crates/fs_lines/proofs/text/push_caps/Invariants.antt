use Rattle.std.proofs.Common.{◌≡◌, ◌++◌, drop, codes, string_bytes}
use denote.Shadow.{shadow}
use denote.Text.{Utf8}
use Rattle.fs_cred.specs.Capabilities.{named_caps}
use Rattle.fs_lines.specs.Texts.{caps_text}
use Rattle.fs_lines.proofs.text.push_caps.Given as goal

abbrev pub invariant-loop-flag : goal.invariant-loop-flag
invariant-loop-flag l =
    shadow (Utf8 l.before)
    × (string_bytes l.text ++ caps_text l.before l.caps.0 (drop l.flag-index named_caps) ≡
    string_bytes l.initial.text ++ caps_text (codes ":") l.caps.0 named_caps)
