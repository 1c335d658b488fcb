use Rattle.std.specs.Prelude.{[]}
use Rattle.std.proofs.Common.{sym, ◌∙◌}
use Rattle.call_parts.specs.Callers.{who_of}
use Rattle.fs_model.specs.Scenes.{must_be_new}
use Rattle.call_parts.proofs.NewNames.{name_found, name_refused, made_refused}
use Rattle.call_parts.proofs.Reachings.{walk_refused, broken_later}
use Rattle.call_parts.proofs.Refuses.{refuses_first}
use Rattle.name_calls.proofs.BornDirectories.{mkdir_by_path, directory_name_asked, is_new_name, directory_may_touch, directory_was_made, told_directory}
use Rattle.name_calls.proofs.making.mkdir.Goals as goal

pub returns-in_err-walked : goal.returns-in_err-walked
returns-in_err-walked g c =
    let r = c.from_residual.ensures in
    let x = c.in_err-walked.ensures in
    walk_refused (mkdir_by_path c.args.path.now c.args.mode c.check_mode-checks.result c.check_mode-checks.ensures) c.from_residual.result c.in_err-walked.field-0.0 r.0 r.1 x.same x.refused

pub returns-in_err-check_new : goal.returns-in_err-check_new
returns-in_err-check_new g c =
    let x = c.in_ok-walked.ensures in
    name_refused directory_name_asked (mkdir_by_path c.args.path.now c.args.mode c.check_mode-checks.result c.check_mode-checks.ensures) x.same x.walked _ _
    c.from_residual-in_err-check_new.ensures (refuses_first (must_be_new c.in_ok-walked.walked.found) []) (sym c.in_err-check_new.ensures)

pub make_directory-requires : goal.make_directory-requires
make_directory-requires g c =
    let x = c.in_ok-walked.ensures in
    let name = name_found directory_name_asked (mkdir_by_path c.args.path.now c.args.mode c.check_mode-checks.result c.check_mode-checks.ensures) x.same x.walked in
    record { sound = x.walked.ready.sound; spare = x.walked.ready.spare; name = name (is_new_name c.in_ok-walked.walked.found (sym c.in_ok-check_new.ensures)).1 }

pub returns-in_err-ino : goal.returns-in_err-ino
returns-in_err-ino g c =
    let x = c.in_ok-walked.ensures in
    let is = is_new_name c.in_ok-walked.walked.found (sym c.in_ok-check_new.ensures) in
    made_refused directory_name_asked (mkdir_by_path c.args.path.now c.args.mode c.check_mode-checks.result c.check_mode-checks.ensures) x.same x.walked is.1 (g.S.Sectors.state c.make_directory.new.s)
    _ _ c.from_residual-in_err-ino.ensures c.in_err-ino.ensures.store is.0 c.in_err-ino.ensures.each

pub touch-requires : goal.touch-requires
touch-requires g c =
    let x = c.in_ok-walked.ensures in
    directory_may_touch c.args.mode c.check_mode-checks.ensures x.same x.walked (sym c.in_ok-check_new.ensures) c.in_ok-ino.ensures

pub returns-in_err-touch : goal.returns-in_err-touch
returns-in_err-touch g c =
    let x = c.in_ok-walked.ensures in
    broken_later (mkdir_by_path c.args.path.now c.args.mode c.check_mode-checks.result c.check_mode-checks.ensures) x.same x.walked (g.S.Sectors.state c.touch.new.s) _ _ c.from_residual-in_err-touch.ensures
    c.in_ok-ino.ensures.store c.in_err-touch.ensures.store c.in_err-touch.ensures.fault

pub returns : goal.returns
returns g c =
    let x = c.in_ok-walked.ensures in
    directory_was_made c.args.mode c.check_mode-checks.ensures x.same x.walked (sym c.in_ok-check_new.ensures) c.in_ok-ino.ensures c.made.result (told_directory (who_of c.args.caller.now.by) c.args.path.now c.args.mode c.in_ok-ino.ino ∙ sym c.made.ensures) c.in_ok-touch.ensures.made
