use Rattle.fuse_sessions.proofs.Doings.{gives, gives-as, then-fails, then-ok, where-false, where-true}
use Rattle.posix_acl.specs.AccessList.{AccessList, minimal, with_mode_bits}
use Rattle.std.proofs.Common.{ap, refl, sym, ◌∙◌}
use Rattle.std.specs.Prelude.{Some, ℕ, ◌≡◌}
use Rattle.fuse_requests.proofs.xattrs.acl_set.Goals as goal

plain : (mode : ℕ) → with_mode_bits (minimal 0) mode ≡ minimal mode
plain mode = refl

pub returns-then-not-is_plain-clause-did : goal.returns-then-not-is_plain-clause-did
returns-then-not-is_plain-clause-did g c = where-false _ _ (sym c.is_plain.ensures ∙ c.if-not-is_plain.true) (gives _ _)

pub returns-in_err-status-clause-did : goal.returns-in_err-status-clause-did
returns-in_err-status-clause-did g c =
    where-true _ _ (sym c.is_plain.ensures ∙ c.if-not-is_plain.false) (then-fails _ c.from_residual.ensures c.in_err-status.ensures.did)

pub returns-clause-did : goal.returns-clause-did
returns-clause-did g c =
    where-true _ _ (sym c.is_plain.ensures ∙ c.if-not-is_plain.false)
    (then-ok _ c.in_ok-status.ensures.did (gives-as (ap Some (c.with_mode_bits.ensures ∙
    (ap (λ (a : AccessList). with_mode_bits a c.in_ok-status.status.mode) c.requires ∙ plain c.in_ok-status.status.mode)))))
