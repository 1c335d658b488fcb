use Rattle.std.proofs.Common.{◌≡◌, ◌∙◌, ℕ, refl, ap}
use Rattle.bitflags.specs.Sets.{known_bits, known_from}
use Rattle.fs_cred.specs.declared.caps.Caps.{Caps}
use Rattle.fs_cred.specs.Capabilities.{named_caps, all_caps, usual_caps}
use Rattle.fuse_sessions.proofs.credential.usual_caps.Goals as goal

known : known_bits named_caps ≡ 31
unfolding known_from
known = refl

abbrev of_bits : ℕ → Caps
of_bits bits = record { 0 = bits }

pub returns-then-uid-eq0 : goal.returns-then-uid-eq0
returns-then-uid-eq0 c =
    let all : c.all.result ≡ all_caps = ap of_bits (c.all.ensures tt ∙ known) in
    let usual : all_caps ≡ usual_caps c.args.uid = rw (c.if-uid-eq0.true) refl in
    all ∙ usual
