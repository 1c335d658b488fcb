use Rattle.std.proofs.Common.{sym}
use Rattle.fs_cred.specs.declared.errno.Errno.TheVariants.{EISDIR}
use Rattle.fs_model.specs.Demands.{refuse}
use Rattle.fs_model.specs.OpenCall.{open_arguments}
use Rattle.fs_model.specs.Parts.{ends_with_slash}
use Rattle.call_parts.specs.Callers.{who_of, path_asked}
use Rattle.std.specs.Prelude.{◌&&◌}
use Rattle.call_parts.proofs.Checked.{checked_first, checked_second, checked_third, checked_all}
use Rattle.file_calls.proofs.opening.check_open.Goals as goal

pub returns-in_err-check_arguments-clause-answer : goal.returns-in_err-check_arguments-clause-answer
returns-in_err-check_arguments-clause-answer c =
    let r = c.from_residual.ensures in
    checked_first (open_arguments c.args.flags c.args.mode) (path_asked (who_of c.args.by) c.args.path.now) (refuse EISDIR (c.args.flags.create && ends_with_slash c.args.path.now))
    c.from_residual.result c.in_err-check_arguments.field-0.0 r.0 r.1 (sym c.in_err-check_arguments.ensures)

pub returns-in_err-check_from-clause-answer : goal.returns-in_err-check_from-clause-answer
returns-in_err-check_from-clause-answer c =
    let r = c.from_residual-in_err-check_from.ensures in
    checked_second (open_arguments c.args.flags c.args.mode) (path_asked (who_of c.args.by) c.args.path.now) (refuse EISDIR (c.args.flags.create && ends_with_slash c.args.path.now))
    (sym c.in_ok-check_arguments.ensures) c.from_residual-in_err-check_from.result c.in_err-check_from.field-0.0 r.0 r.1 (sym c.in_err-check_from.ensures)

pub returns-in_err-check_slash-clause-answer : goal.returns-in_err-check_slash-clause-answer
returns-in_err-check_slash-clause-answer c =
    let r = c.from_residual-in_err-check_slash.ensures in
    checked_third (open_arguments c.args.flags c.args.mode) (path_asked (who_of c.args.by) c.args.path.now) (refuse EISDIR (c.args.flags.create && ends_with_slash c.args.path.now))
    (sym c.in_ok-check_arguments.ensures) (sym c.in_ok-check_from.ensures) c.from_residual-in_err-check_slash.result c.in_err-check_slash.field-0.0 r.0 r.1 (sym c.in_err-check_slash.ensures.answer)

pub returns-clause-answer : goal.returns-clause-answer
returns-clause-answer c =
    checked_all (open_arguments c.args.flags c.args.mode) (path_asked (who_of c.args.by) c.args.path.now) (refuse EISDIR (c.args.flags.create && ends_with_slash c.args.path.now))
    (sym c.in_ok-check_arguments.ensures) (sym c.in_ok-check_from.ensures) (sym c.in_ok-check_slash.ensures.answer)
