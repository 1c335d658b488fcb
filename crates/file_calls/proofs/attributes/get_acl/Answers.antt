use Rattle.std.proofs.Common.{Option, sym, refl, inr, ℕ, ap, ◌∙◌, []}
use Rattle.posix_acl.specs.AccessList.{AccessList}
use Rattle.fs_model.specs.Nodes.{Node}
use Rattle.fs_model.specs.AttributeCalls.{acl_shown}
use Rattle.fs_model.specs.declared.reply.Reply.TheVariants.{Acl}
use Rattle.fs_model.specs.Scenes.{must_be_there, answers}
use Rattle.bit_alloc.proofs.Transactions.{unchanged_nothing, unchanged_joined}
use Rattle.call_parts.specs.Paths.{scene_at}
use Rattle.call_parts.proofs.Calling.{both_met}
use Rattle.call_parts.proofs.Followed.{followed_access, node_is, body_found_held}
use Rattle.call_parts.proofs.Reachings.{reach_refused, asked_refused, told, reached_below, reached_body}
use Rattle.file_calls.proofs.Rows.{get_acl_by_path}
use Rattle.file_calls.proofs.attributes.get_acl.Goals as goal

pub returns-in_err-reached-clause-performs : goal.returns-in_err-reached-clause-performs
returns-in_err-reached-clause-performs g c =
    let r = c.from_residual.ensures in
    let x = c.in_err-reached.ensures in
    reach_refused (get_acl_by_path c.args.path.now c.args.which) c.from_residual.result c.in_err-reached.field-0.0 r.0 r.1 x.same x.refused

pub returns-in_err-acl-clause-same : goal.returns-in_err-acl-clause-same
returns-in_err-acl-clause-same g c = unchanged_joined c.in_ok-reached.ensures.same c.in_err-acl.ensures.same

pub shown_acl-requires : goal.shown_acl-requires
shown_acl-requires g c =
    let x = c.in_ok-reached.ensures.reached in
    record { sound = x.walked.ready.sound; there = (_, reached_below x, x.inode.inode); has = (_, reached_body x) }

pub returns-clause-same : goal.returns-clause-same
returns-clause-same g c = unchanged_joined c.in_ok-reached.ensures.same c.in_ok-acl.ensures.same

pub returns-in_err-acl-clause-performs : goal.returns-in_err-acl-clause-performs
returns-in_err-acl-clause-performs g c =
    let x = c.in_ok-reached.ensures in
    let last = g.S.Sectors.state c.shown_acl.new.s in
    let r = c.from_residual-in_err-acl.ensures in
    asked_refused (get_acl_by_path c.args.path.now c.args.which) x.same x.reached.walked last c.from_residual-in_err-acl.result c.in_err-acl.field-0.0 r.0 r.1
    c.in_err-acl.ensures.same.store {A = ℕ} 0 (λ s has at. inr c.in_err-acl.ensures.interrupts)

pub returns-clause-performs : goal.returns-clause-performs
returns-clause-performs g c =
    let x = c.in_ok-reached.ensures in
    let f = c.in_ok-reached.reached.found in
    let q = c.in_ok-reached.reached.process in
    told (get_acl_by_path c.args.path.now c.args.which) x.same x.reached.walked refl (g.S.Sectors.state c.shown_acl.new.s) c.in_ok-acl.ensures.same (Acl c.in_ok-acl.acl)
    (λ s has at.
    let i = x.reached.inode in
    let a = followed_access c.in_ok-reached.reached.ino at has i.some in (
      both_met (must_be_there f) [] i.met refl,
      ap (λ (node : Node). answers (scene_at s q f) (Acl (acl_shown c.args.which node.body))) (node_is s q f c.in_ok-reached.reached.ino i.number a)
          ∙ ap (λ (y : Option AccessList). answers (scene_at s q f) (Acl y))
          (sym (c.in_ok-acl.ensures.found a.node.body (body_found_held {mid = g.S.Sectors.state c.reach.new.s} {new = g.S.Sectors.state c.reach.new.s} at has i unchanged_nothing))),
    ))
