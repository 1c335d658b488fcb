-- What ends where memory runs out.
use Rattle.std.proofs.Common.{◌≡◌, Result, Ok, Err, refl, sym, subst, IfErr}
use Rattle.std.specs.Prelude.{IsErrAnd}
use Rattle.posix_acl.specs.declared.fault.AclFault.{AclFault}
use Rattle.posix_acl.specs.declared.fault.AclFault.TheVariants.{OutOfMemory}

pub out_of_memory : {T : Type 0} (r : Result T AclFault) (P : AclFault → Type 0) → P OutOfMemory
    → IsErrAnd r (λ fault. fault ≡ OutOfMemory) → IfErr r P
out_of_memory (Ok x) P p is = tt
out_of_memory (Err fault) P p is = subst P (sym is) p

pub no_memory : {T : Type 0} (r : Result T AclFault) → IsErrAnd r (λ fault. fault ≡ OutOfMemory)
    → IfErr r (λ fault. fault ≡ OutOfMemory)
no_memory r is = out_of_memory r (λ fault. fault ≡ OutOfMemory) refl is
