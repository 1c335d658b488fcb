use Rattle.std.proofs.Common.{sym, ◌∙◌}
use Rattle.call_parts.specs.Callers.{who_of}
use Rattle.fs_model.specs.Demands.{first_of}
use Rattle.call_parts.specs.NewNodes.{link_name_asked}
use Rattle.call_parts.proofs.NewNames.{name_found, name_refused, made_refused}
use Rattle.call_parts.proofs.Reachings.{walk_refused, broken_later}
use Rattle.name_calls.proofs.BornLinks.{symlink_by_path, is_target, is_link_name, link_may_touch, link_was_made, told_link}
use Rattle.name_calls.proofs.making.symlink.Goals as goal

pub returns-in_err-walked : goal.returns-in_err-walked
returns-in_err-walked g c =
    let r = c.from_residual.ensures in
    let x = c.in_err-walked.ensures in
    walk_refused (symlink_by_path c.args.target.now c.args.path.now c.check_target-checks.result c.check_target-checks.ensures.answer) c.from_residual.result c.in_err-walked.field-0.0 r.0 r.1 x.same x.refused

pub returns-in_err-check_link_name : goal.returns-in_err-check_link_name
returns-in_err-check_link_name g c =
    let x = c.in_ok-walked.ensures in
    name_refused link_name_asked (symlink_by_path c.args.target.now c.args.path.now c.check_target-checks.result c.check_target-checks.ensures.answer) x.same x.walked _ _
    c.from_residual-in_err-check_link_name.ensures {d = first_of (link_name_asked c.in_ok-walked.walked.found)} (λ e is. is) (sym c.in_err-check_link_name.ensures)

pub make_link-requires : goal.make_link-requires
make_link-requires g c =
    let x = c.in_ok-walked.ensures in
    let are = c.check_target-checks.ensures in
    record {
      ready = record {
        sound = x.walked.ready.sound;
        spare = x.walked.ready.spare;
        name = name_found link_name_asked (symlink_by_path c.args.target.now c.args.path.now c.check_target-checks.result are.answer) x.same x.walked
            (is_link_name c.in_ok-walked.walked.found (sym c.in_ok-check_link_name.ensures)).1;
      };
      target = is_target c.args.target.now c.check_target-checks.result are.answer x.walked.fine are.bytes;
    }

pub returns-in_err-ino : goal.returns-in_err-ino
returns-in_err-ino g c =
    let x = c.in_ok-walked.ensures in
    let is = is_link_name c.in_ok-walked.walked.found (sym c.in_ok-check_link_name.ensures) in
    made_refused link_name_asked (symlink_by_path c.args.target.now c.args.path.now c.check_target-checks.result c.check_target-checks.ensures.answer) x.same x.walked is.1
    (g.S.Sectors.state c.make_link.new.s) _ _ c.from_residual-in_err-ino.ensures c.in_err-ino.ensures.store is.0 c.in_err-ino.ensures.each

pub touch-requires : goal.touch-requires
touch-requires g c =
    let x = c.in_ok-walked.ensures in
    let are = c.check_target-checks.ensures in
    link_may_touch c.args.target.now are.bytes are.answer x.same x.walked (sym c.in_ok-check_link_name.ensures) c.in_ok-ino.ensures

pub returns-in_err-touch : goal.returns-in_err-touch
returns-in_err-touch g c =
    let x = c.in_ok-walked.ensures in
    broken_later (symlink_by_path c.args.target.now c.args.path.now c.check_target-checks.result c.check_target-checks.ensures.answer) x.same x.walked
    (g.S.Sectors.state c.touch.new.s) _ _ c.from_residual-in_err-touch.ensures c.in_ok-ino.ensures.store c.in_err-touch.ensures.store c.in_err-touch.ensures.fault

pub returns : goal.returns
returns g c =
    let x = c.in_ok-walked.ensures in
    let are = c.check_target-checks.ensures in
    link_was_made c.args.target.now are.bytes are.answer x.same x.walked (sym c.in_ok-check_link_name.ensures) c.in_ok-ino.ensures c.made.result (told_link (who_of c.args.caller.now.by) c.args.target.now c.args.path.now c.in_ok-ino.ino ∙ sym c.made.ensures) c.in_ok-touch.ensures.made
