-- What reading a text comes to.
use Rattle.std.proofs.Common.{◌≡◌, ◌≢◌, Bool, true, false, List, Option, Some, None, cond}
use Rattle.posix_acl.specs.declared.entry.Entry.{Entry}
use Rattle.posix_acl.specs.declared.fault.AclFault.{AclFault}
use Rattle.posix_acl.specs.declared.fault.AclFault.TheVariants.{MissingBase, TwiceBase, TwiceQualifier, NoMask, TwoMasks, TooMany, OutOfMemory, BadText}
use Rattle.posix_acl.specs.Entries.{plain_entries}
use Rattle.posix_acl.specs.Faults.{has_fault, first_fault}
use Rattle.posix_acl.specs.Text.{IsText, SaysFault}
use Rattle.std.proofs.Common.{ℕ}

choice : (b : Bool) (f : AclFault) (rest : Option AclFault) → f ≢ BadText → (rest ≡ Some BadText → ⊥) → cond b (Some f) rest ≡ Some BadText → ⊥
choice true f rest other none found = other (cc)
choice false f rest other none found = none found

never_bad_text : (es : List Entry) → first_fault es ≡ Some BadText → ⊥
unfolding first_fault
never_bad_text es found =
    choice (has_fault es MissingBase) MissingBase _ (λ e. cc)
    (choice (has_fault es TwiceBase) TwiceBase _ (λ e. cc)
    (choice (has_fault es TwiceQualifier) TwiceQualifier _ (λ e. cc)
    (choice (has_fault es NoMask) NoMask _ (λ e. cc)
    (choice (has_fault es TwoMasks) TwoMasks _ (λ e. cc)
    (choice (has_fault es TooMany) TooMany None (λ e. cc) (λ e. cc)))))) found

pub faulty_text : (text : List ℕ) (es : List Entry) (fault : AclFault) → IsText text es → first_fault (plain_entries es) ≡ Some fault → SaysFault text fault
faulty_text text es BadText read found = absurd (never_bad_text (plain_entries es) found)
faulty_text text es MissingBase read found = record { entries = es; read = read; first = found }
faulty_text text es TwiceBase read found = record { entries = es; read = read; first = found }
faulty_text text es TwiceQualifier read found = record { entries = es; read = read; first = found }
faulty_text text es NoMask read found = record { entries = es; read = read; first = found }
faulty_text text es TwoMasks read found = record { entries = es; read = read; first = found }
faulty_text text es TooMany read found = record { entries = es; read = read; first = found }
faulty_text text es OutOfMemory read found = record { entries = es; read = read; first = found }
