use Rattle.std.proofs.Common.{refl, ℕ, sym, ap, List, inr}
use Rattle.fs_model.specs.declared.reply.Reply.TheVariants.{Target}
use Rattle.fs_model.specs.Scenes.{answers}
use Rattle.bit_alloc.proofs.Transactions.{unchanged_joined}
use Rattle.path_walk.proofs.Kept.{same_ok}
use Rattle.sector_txn.proofs.TransactionRuns.{store_same}
use Rattle.call_parts.specs.Paths.{scene_at}
use Rattle.call_parts.proofs.Calling.{state_tree}
use Rattle.call_parts.proofs.Reachings.{reach_refused, asked_refused, told, reached_below, reached_there}
use Rattle.name_calls.proofs.Targets.{readlink_by_path, target_of, is_kind_of_link, other_kind_refused, target_holds, target_told}
use Rattle.name_calls.proofs.making.readlink.Goals as goal

pub returns-in_err-reached-clause-performs : goal.returns-in_err-reached-clause-performs
returns-in_err-reached-clause-performs g c =
    let r = c.from_residual.ensures in
    let x = c.in_err-reached.ensures in
    reach_refused (readlink_by_path c.args.path.now) c.from_residual.result c.in_err-reached.field-0.0 r.0 r.1 x.same x.refused

pub returns-in_err-check_is_link-clause-performs : goal.returns-in_err-check_is_link-clause-performs
returns-in_err-check_is_link-clause-performs g c =
    let r = c.from_residual-in_err-check_is_link.ensures in
    let x = c.in_ok-reached.ensures in
    let v = c.in_ok-reached.reached in
    let mid = g.S.Sectors.state c.reach.new.s in
    let e = c.in_err-check_is_link.field-0.0 in
    asked_refused (readlink_by_path c.args.path.now) x.same x.reached.walked mid c.from_residual-in_err-check_is_link.result e r.0 r.1 store_same {A = ℕ} 0
    (λ s has at. other_kind_refused (state_tree at) v.found v.ino v.inode x.reached.inode (reached_there x.reached s at) {A = ℕ} 0 e mid.disk mid.disk
    (sym c.in_err-check_is_link.ensures))

pub read_target-requires : goal.read_target-requires
read_target-requires g c =
    let x = c.in_ok-reached.ensures.reached in
    record {
      sound = x.walked.ready.sound;
      there = (_, reached_below x, x.inode.inode);
      link = is_kind_of_link c.in_ok-reached.reached.inode.kind (sym c.in_ok-check_is_link.ensures);
    }

pub returns-in_err-target-clause-performs : goal.returns-in_err-target-clause-performs
returns-in_err-target-clause-performs g c =
    let r = c.from_residual-in_err-target.ensures in
    let x = c.in_ok-reached.ensures in
    asked_refused (readlink_by_path c.args.path.now) x.same x.reached.walked (g.S.Sectors.state c.read_target.new.s)
    c.from_residual-in_err-target.result c.in_err-target.field-0.0 r.0 r.1 c.in_err-target.ensures.same.store {A = ℕ} 0 (λ s has at. inr c.in_err-target.ensures.err)

pub returns-in_err-target-clause-same : goal.returns-in_err-target-clause-same
returns-in_err-target-clause-same g c = unchanged_joined c.in_ok-reached.ensures.same c.in_err-target.ensures.same

pub returns-clause-performs : goal.returns-clause-performs
returns-clause-performs g c =
    let x = c.in_ok-reached.ensures in
    let v = c.in_ok-reached.reached in
    let target = c.in_ok-target.target in
    let is = sym c.in_ok-check_is_link.ensures in
    told (readlink_by_path c.args.path.now) x.same x.reached.walked refl (g.S.Sectors.state c.read_target.new.s) c.in_ok-target.ensures.same (Target target)
    (λ s has at.
    let i = x.reached.inode in
    let there = reached_there x.reached s at in
    let right = target_of (state_tree at) v.found v.ino v.inode i there in
    let answer = target_told (state_tree at) v.found v.ino v.inode i there is target
    (same_ok right target (c.in_ok-target.ensures.each right (target_holds (state_tree at) v.found v.ino v.inode i there is))) in
    (answer.0, ap (λ (y : List ℕ). answers (scene_at s v.process v.found) (Target y)) answer.1))

pub returns-clause-same : goal.returns-clause-same
returns-clause-same g c = unchanged_joined c.in_ok-reached.ensures.same c.in_ok-target.ensures.same
