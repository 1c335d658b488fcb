use Rattle.std.proofs.Common.{refl}
use Rattle.std.proofs.lemmas.Result.{err_from_is_err_and}
use Rattle.fs_model.specs.Rules.{Names, Parents, Ways}
use Rattle.fs_check.proofs.Failures.{image_next, rule_found, tree_error}
use Rattle.fs_check.proofs.checking.check_tree.Goals as goal

pub returns-in_err-found_at : goal.returns-in_err-found_at
returns-in_err-found_at c = λ m table named before.
    let p = c.args.geometry in
    let q = err_from_is_err_and c.from_residual.result c.from_residual.ensures.1 in
    tree_error p m 13 15 c.in_err-found_at.field-0.0 q.0 c.found_at.result c.from_residual.result c.in_err-found_at.was q.1 q.2
    (rule_found p m Names 12 refl c.miscounted.result c.found_at.result c.found_at.ensures (c.miscounted.ensures m table named before) before)

pub returns-in_err-found_at-2 : goal.returns-in_err-found_at-2
returns-in_err-found_at-2 c = λ m table named before.
    let p = c.args.geometry in
    let next = image_next p m Names 12 refl c.miscounted.result c.in_ok-found_at.field-0 c.found_at.result c.found_at.ensures c.in_ok-found_at.was
    (c.miscounted.ensures m table named before) before in
    let q = err_from_is_err_and c.from_residual-in_err-found_at-2.result c.from_residual-in_err-found_at-2.ensures.1 in
    tree_error p m 14 15 c.in_err-found_at-2.field-0.0 q.0 c.found_at-2.result c.from_residual-in_err-found_at-2.result c.in_err-found_at-2.was q.1 q.2
    (rule_found p m Parents 13 refl c.misplaced.result c.found_at-2.result c.found_at-2.ensures (c.misplaced.ensures m table named next) next)

pub returns : goal.returns
returns c = λ m table named before.
    let p = c.args.geometry in
    let next = image_next p m Names 12 refl c.miscounted.result c.in_ok-found_at.field-0 c.found_at.result c.found_at.ensures c.in_ok-found_at.was
    (c.miscounted.ensures m table named before) before in
    let last = image_next p m Parents 13 refl c.misplaced.result c.in_ok-found_at-2.field-0 c.found_at-2.result c.found_at-2.ensures c.in_ok-found_at-2.was
    (c.misplaced.ensures m table named next) next in
    rule_found p m Ways 14 refl c.in_ok-unreached.field-0 c.found_at-3.result c.found_at-3.ensures (c.in_ok-unreached.ensures m table last) last
