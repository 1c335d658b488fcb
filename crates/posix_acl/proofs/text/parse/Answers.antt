use Rattle.std.proofs.Common.{◌≡◌, ◌≢◌, Some}
use Rattle.std.proofs.lemmas.Result.{IfErr-weaker}
use Rattle.posix_acl.specs.declared.fault.AclFault.TheVariants.{OutOfMemory}
use Rattle.posix_acl.specs.Entries.{plain_entries}
use Rattle.posix_acl.specs.Faults.{first_fault}
use Rattle.posix_acl.specs.Text.{SaysFault}
use Rattle.posix_acl.proofs.Parsed.{faulty_text}
use Rattle.posix_acl.proofs.text.parse.Goals as goal

pub returns-clause-err : goal.returns-clause-err
returns-clause-err c =
    IfErr-weaker c.from_entries.result
    (λ fault. fault ≢ OutOfMemory → first_fault (plain_entries c.deref.result.now) ≡ Some fault)
    (λ fault. fault ≢ OutOfMemory → SaysFault c.args.text.now fault)
    (λ fault found other. faulty_text c.args.text.now c.deref.result.now fault (rw c.deref.ensures.value c.in_ok-entries.ensures.found) (found other))
    c.from_entries.ensures.err
