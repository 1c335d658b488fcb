-- A line says one thing.
use Rattle.std.proofs.Common.{◌≡◌, ℕ, List, Some, Ok, Err, Result, sym, ap, subst, ◌∙◌}
use Rattle.posix_acl.specs.AccessList.{AccessList}
use Rattle.posix_acl.specs.declared.entry.Entry.{Entry}
use Rattle.posix_acl.specs.declared.fault.AclFault.{AclFault}
use Rattle.posix_acl.specs.declared.fault.AclFault.TheVariants.{MissingBase, TwiceBase, TwiceQualifier, NoMask, TwoMasks, TooMany, OutOfMemory, BadText}
use Rattle.posix_acl.specs.Entries.{plain_entries}
use Rattle.posix_acl.specs.Faults.{first_fault, IsListOf}
use Rattle.posix_acl.specs.Text.{text_pieces, SaysList, SaysFault, SaysFaulty}
use Rattle.posix_acl.proofs.Laws.{one_made}
use Rattle.posix_acl.proofs.OneReading.{texts_same}
use Rattle.fs_lines.specs.declared.line.Line.{Line}
use Rattle.fs_lines.specs.declared.line.LineFault.{LineFault}
use Rattle.fs_lines.specs.Commands.{Said, plain, with_acl, IsSaid, line_value}
use Rattle.fs_lines.specs.Laws.{LinesSayOneThing}

-- a text makes one ACL
one_acl : (text : List ℕ) (a b : AccessList) → SaysList text a → SaysList text b → a ≡ b
one_acl text a b x y =
    one_made y.entries a b (subst (λ es. IsListOf es a) (texts_same (text_pieces text) x.entries y.entries x.read y.read) x.made) y.made

not_faulty : (text : List ℕ) (a : AccessList) (why : AclFault) → SaysList text a → SaysFaulty text why → ⊥
not_faulty text a why x y =
    let same = texts_same (text_pieces text) y.entries x.entries y.read x.read in
    let none = x.faultless in
    let some = subst (λ (es : List Entry). first_fault (plain_entries es) ≡ Some why) same y.first in
    absurd (cc)

-- or it has a fault
no_both : (text : List ℕ) (a : AccessList) (why : AclFault) → SaysList text a → SaysFault text why → ⊥
no_both text a BadText x y = y x.entries x.read
no_both text a MissingBase x y = not_faulty text a MissingBase x y
no_both text a TwiceBase x y = not_faulty text a TwiceBase x y
no_both text a TwiceQualifier x y = not_faulty text a TwiceQualifier x y
no_both text a NoMask x y = not_faulty text a NoMask x y
no_both text a TwoMasks x y = not_faulty text a TwoMasks x y
no_both text a TooMany x y = not_faulty text a TooMany x y
no_both text a OutOfMemory x y = not_faulty text a OutOfMemory x y

one_said : (said : Result Said LineFault) (x y : Result Line LineFault) → IsSaid said x → IsSaid said y → x ≡ y
one_said (Err fault) x y one other = one ∙ sym other
one_said (Ok (plain line)) x y one other = one ∙ sym other
one_said (Ok (with_acl text says)) (Ok x) (Ok y) (a, lists, is) (b, others, was) =
    ap Ok (is ∙ ap says (one_acl text a b lists others) ∙ sym was)
one_said (Ok (with_acl text says)) (Ok x) (Err y) (a, lists, is) (why, faulty, was) = absurd (no_both text a why lists faulty)
one_said (Ok (with_acl text says)) (Err x) (Ok y) (why, faulty, is) (a, lists, was) = absurd (no_both text a why lists faulty)
one_said (Ok (with_acl text says)) (Err x) (Err y) (why, faulty, is) (because, other, was) = ap Err (is ∙ sym was)

pub one_thing : LinesSayOneThing
one_thing line x y one other = one_said (line_value line) x y one other
