use Rattle.std.proofs.Common.{◌≡◌, ℕ, ◌<◌, ◌≤◌, Result, Ok, Err, refl, ap, arith}
use Rattle.std.proofs.lemmas.Result.{IfOk-from_err, err_from_is_err_and}
use Rattle.fs_cred.specs.declared.cred.CredFault.{CredFault}
use Rattle.fs_cred.specs.declared.cred.CredFault.TheVariants.{OutOfMemory, TooManyGroups}
use Rattle.fs_cred.specs.Credentials.{credential}
use Rattle.fs_cred.proofs.cred.Cred.of_process.Goals as goal

pub returns-then-groups-gt-MAX_PROCESS_GROUPS-clause-many : goal.returns-then-groups-gt-MAX_PROCESS_GROUPS-clause-many
returns-then-groups-gt-MAX_PROCESS_GROUPS-clause-many c =
    (λ _. c.if-groups-gt-MAX_PROCESS_GROUPS.true, λ _. refl)

pub returns-in_err-from_slice-clause-ok : goal.returns-in_err-from_slice-clause-ok
returns-in_err-from_slice-clause-ok c = IfOk-from_err c.from_residual.result _ c.from_residual.ensures.0

never_both : {P : Type 0} (n most : ℕ) → n ≤ most → most < n → P
never_both n most few many = absurd (omega arith)

not_too_many : {T : Type 0} (r : Result T CredFault) (y : CredFault) → r ≡ Err y → y ≡ OutOfMemory
    → r ≡ Err TooManyGroups → ⊥
not_too_many r y is memory many = cc

no_fault : {T : Type 0} (x : T) → Ok x ≡ Err TooManyGroups → ⊥
no_fault x e = cc

pub returns-in_err-from_slice-clause-many : goal.returns-in_err-from_slice-clause-many
returns-in_err-from_slice-clause-many c =
    let fault = err_from_is_err_and c.from_residual.result c.from_residual.ensures.1 in (
      λ e. absurd (not_too_many c.from_residual.result fault.0 fault.1 fault.2 e),
      never_both _ _ c.if-groups-gt-MAX_PROCESS_GROUPS.false,
    )

pub returns-clause-ok : goal.returns-clause-ok
returns-clause-ok c =
    ap (λ groups. credential c.args.uid c.args.gid groups c.args.caps) c.in_ok-from_slice.ensures.items

pub returns-clause-many : goal.returns-clause-many
returns-clause-many c = (λ e. absurd (no_fault _ e), never_both _ _ c.if-groups-gt-MAX_PROCESS_GROUPS.false)
