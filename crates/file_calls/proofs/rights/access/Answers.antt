use Rattle.std.proofs.Common.{refl}
use Rattle.std.proofs.Common.{ℕ, ap, ◌∙◌, [], ◌∷◌}
use Rattle.fs_cred.specs.declared.rule.Rule.{Rule}
use Rattle.fs_cred.specs.Verdicts.{verdict}
use Rattle.fs_model.specs.declared.reply.Reply.TheVariants.{Granted}
use Rattle.fs_model.specs.Scenes.{must_be_there, permission_at_end, answers}
use Rattle.bit_alloc.proofs.Transactions.{unchanged_nothing, unchanged_joined}
use Rattle.call_parts.specs.Paths.{scene_at}
use Rattle.call_parts.proofs.Calling.{or_else-none, first_asked, next_asked, both_met}
use Rattle.call_parts.proofs.Followed.{followed_access, access_held, permission_refused, permission_granted, rule_told}
use Rattle.call_parts.proofs.Reachings.{reach_refused, asked_refused, told, reached_below, reached_access}
use Rattle.file_calls.proofs.Rows.{access_by_path}
use Rattle.file_calls.proofs.rights.access.Goals as goal

pub returns-in_err-reached-clause-performs : goal.returns-in_err-reached-clause-performs
returns-in_err-reached-clause-performs g c =
    let r = c.from_residual.ensures in
    let x = c.in_err-reached.ensures in
    reach_refused (access_by_path c.args.path.now c.args.want) c.from_residual.result c.in_err-reached.field-0.0 r.0 r.1 x.same x.refused

pub permitted-requires : goal.permitted-requires
permitted-requires g c =
    let x = c.in_ok-reached.ensures.reached in
    record { sound = x.walked.ready.sound; there = (_, reached_below x, x.inode.inode); has = (_, reached_access x) }

pub returns-in_err-rule-clause-performs : goal.returns-in_err-rule-clause-performs
returns-in_err-rule-clause-performs g c =
    let x = c.in_ok-reached.ensures in
    let f = c.in_ok-reached.reached.found in
    let q = c.in_ok-reached.reached.process in
    let mid = g.S.Sectors.state c.reach.new.s in
    let last = g.S.Sectors.state c.permitted.new.s in
    let r = c.from_residual-in_err-rule.ensures in
    let e = c.in_err-rule.field-0.0 in
    asked_refused (access_by_path c.args.path.now c.args.want) x.same x.reached.walked last c.from_residual-in_err-rule.result e r.0 r.1
    c.in_err-rule.ensures.same.store {A = ℕ} 0
    (λ s has at.
    let i = x.reached.inode in
    let a = followed_access c.in_ok-reached.reached.ino at has i.some in
    next_asked (must_be_there f) (permission_at_end (scene_at s q f) f 1 c.args.want ∷ []) 0 e mid.disk last.disk i.met
    (first_asked {B = Rule} (permission_at_end (scene_at s q f) f 1 c.args.want) [] (verdict q.cred a.access c.args.want).rule 0 e mid.disk last.disk
    (permission_refused {mid = mid} {new = mid} at has i unchanged_nothing c.cred-cred.result.now c.cred-cred.ensures c.args.want e last.disk
    (c.in_err-rule.ensures.each a.access (access_held {mid = mid} {new = mid} at has i unchanged_nothing)))))

pub returns-clause-performs : goal.returns-clause-performs
returns-clause-performs g c =
    let mid = g.S.Sectors.state c.reach.new.s in
    let x = c.in_ok-reached.ensures in
    let f = c.in_ok-reached.reached.found in
    let q = c.in_ok-reached.reached.process in
    let n = c.in_ok-reached.reached.ino in
    let rule = c.in_ok-rule.rule in
    told (access_by_path c.args.path.now c.args.want) x.same x.reached.walked refl (g.S.Sectors.state c.permitted.new.s) c.in_ok-rule.ensures.same (Granted rule)
    (λ s has at.
    let i = x.reached.inode in
    let a = followed_access n at has i.some in
    let met = permission_granted {mid = mid} {new = mid} at has i unchanged_nothing c.cred-cred.result.now c.cred-cred.ensures c.args.want rule
    (c.in_ok-rule.ensures.each a.access (access_held {mid = mid} {new = mid} at has i unchanged_nothing)) in (
      both_met (must_be_there f) (permission_at_end (scene_at s q f) f 1 c.args.want ∷ []) i.met (or_else-none (permission_at_end (scene_at s q f) f 1 c.args.want) ∙ met.0),
      rule_told s q f c.args.want n i.number a ∙ ap (λ (y : Rule). answers (scene_at s q f) (Granted y)) met.1,
    ))

pub returns-in_err-rule-clause-same : goal.returns-in_err-rule-clause-same
returns-in_err-rule-clause-same g c = unchanged_joined c.in_ok-reached.ensures.same c.in_err-rule.ensures.same

pub returns-clause-same : goal.returns-clause-same
returns-clause-same g c = unchanged_joined c.in_ok-reached.ensures.same c.in_ok-rule.ensures.same
