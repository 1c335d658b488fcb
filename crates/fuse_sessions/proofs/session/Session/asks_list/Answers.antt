use Rattle.std.proofs.Common.{sym, ◌∙◌}
use Rattle.fuse_sessions.proofs.Doings.{gives, gives-as, then-fails, then-ok, where-false, where-true}
use Rattle.fuse_sessions.proofs.session.Session.asks_list.Goals as goal

pub returns-then-not-may_hide-clause-did : goal.returns-then-not-may_hide-clause-did
returns-then-not-may_hide-clause-did g c = where-false _ _ (sym c.may_hide.ensures ∙ c.if-not-may_hide.true) (gives _ _)

pub returns-in_err-acl-clause-did : goal.returns-in_err-acl-clause-did
returns-in_err-acl-clause-did g c =
    where-true _ _ (sym c.may_hide.ensures ∙ c.if-not-may_hide.false) (then-fails _ c.from_residual.ensures c.in_err-acl.ensures.did)

pub returns-clause-did : goal.returns-clause-did
returns-clause-did g c =
    where-true _ _ (sym c.may_hide.ensures ∙ c.if-not-may_hide.false) (then-ok _ c.in_ok-acl.ensures.did (gives-as c.hides.ensures))
