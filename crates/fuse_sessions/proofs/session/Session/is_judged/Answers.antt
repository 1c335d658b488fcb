use Rattle.std.proofs.Common.{refl, sym, ap, ◌∙◌}
use Rattle.fuse_state.specs.declared.settings.Settings.{Settings}
use Rattle.fuse_sessions.proofs.Judging.{if-not, unless-not, judges, not-judged}
use Rattle.fuse_sessions.proofs.session.Session.is_judged.Goals as goal

pub returns-then-not-settings-clause-decided : goal.returns-then-not-settings-clause-decided
returns-then-not-settings-clause-decided g c =
    not-judged c.args.node c.args.self.now (sym (ap (λ (k : Settings). k.posix_acl) c.settings.ensures) ∙ if-not _ c.if-not-settings.true)

pub returns-in-Ok-clause-decided : goal.returns-in-Ok-clause-decided
returns-in-Ok-clause-decided g c =
    judges c.args.node _ (sym (ap (λ (k : Settings). k.posix_acl) c.settings.ensures) ∙ unless-not _ c.if-not-settings.false) c.in-Ok.ensures.did refl

pub returns-in-Err-clause-decided : goal.returns-in-Err-clause-decided
returns-in-Err-clause-decided g c =
    judges c.args.node _ (sym (ap (λ (k : Settings). k.posix_acl) c.settings.ensures) ∙ unless-not _ c.if-not-settings.false) c.in-Err.ensures.did refl
