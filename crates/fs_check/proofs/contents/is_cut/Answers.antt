use Rattle.std.proofs.Common.{◌≡◌, ◌+◌, ◌-◌, [], get_or, sym, ap, arith, refl, ◌∙◌}
use Rattle.fs_model.specs.Nodes.{numbers_for}
use Rattle.fs_check.specs.Checks.{meaning}
use Rattle.fs_check.proofs.DataNumbers.{above_owned, level_owned}
use Rattle.fs_check.proofs.FitNumbers.{needed_level, own_none, to_cut, of_cut, own_not_cut, cut_without, cut_at_hole, last_lists}
use Rattle.fs_check.proofs.Carrying.{same_error}
use Rattle.sector_disk.proofs.Moments.{reads_nothing}
use Rattle.fs_check.proofs.Endings.{on_ended, if_ended}
use Rattle.fs_check.proofs.contents.is_cut.Goals as goal

pub returns-then-not-are_none-clause-test : goal.returns-then-not-are_none-clause-test
returns-then-not-are_none-clause-test g c =
    let above = numbers_for (c.args.level + 1) c.args.inode.now.size in
    own_not_cut _ _ c.args.level _ _ above c.needed_numbers-first.ensures.is c.own_count-own.ensures refl c.are_none.result
    (own_none _ _ c.args.level _ _ _ c.are_none.result c.own_count-own.ensures c.are_none.ensures) c.if-not-are_none.true

pub returns-then-above-eq0-clause-test : goal.returns-then-above-eq0-clause-test
returns-then-above-eq0-clause-test g c =
    let m = meaning (g.D.Disk.state c.args.disk.now) in
    let v = c.args.inode.now in
    let none = (own_none m v c.args.level _ _ _ c.are_none.result c.own_count-own.ensures c.are_none.ensures).0 c.if-not-are_none.false in
    let cut = cut_without m v c.args.level c.needed_numbers-first.result c.own_count-own.result c.needed_numbers-above.result c.needed_numbers-first.ensures.is
    c.own_count-own.ensures c.needed_numbers-above.ensures.is none c.if-above-eq0.true in
    ((λ t. cut), (λ all. refl))

pub find-requires-clause-highest : goal.find-requires-clause-highest
find-requires-clause-highest g c =
    needed_level c.args.level c.args.inode.now.size c.requires.level c.requires.size.most (λ none. c.if-above-eq0.false (c.needed_numbers-above.ensures.is ∙ none))

pub find-requires-clause-in_data : goal.find-requires-clause-in_data
find-requires-clause-in_data g c =
    level_owned c.args.opened.now.geometry (meaning (g.D.Disk.state c.args.disk.now)) c.args.inode.now c.requires.in_data (c.args.level + 1)

pub find-requires-clause-above : goal.find-requires-clause-above
find-requires-clause-above g c =
    above_owned c.args.opened.now.geometry (meaning (g.D.Disk.state c.args.disk.now)) c.args.inode.now c.requires.in_data (c.args.level + 1)

pub returns-then-branch-eq0-clause-test : goal.returns-then-branch-eq0-clause-test
returns-then-branch-eq0-clause-test g c =
    let m = meaning (g.D.Disk.state c.args.disk.now) in
    let v = c.args.inode.now in
    let cut = cut_at_hole m v c.args.level c.needed_numbers-first.result c.own_count-own.result c.needed_numbers-above.result c.needed_numbers-first.ensures.is
    c.own_count-own.ensures c.needed_numbers-above.ensures.is c.if-above-eq0.false (sym c.in_ok-find.ensures.number ∙ c.if-branch-eq0.true) in
    ((λ t. cut), (λ all. refl))

pub returns-clause-test : goal.returns-clause-test
returns-clause-test g c =
    let m = meaning (g.D.Disk.state c.args.disk.now) in
    let v = c.args.inode.now in
    let level = c.args.level in
    let first = c.needed_numbers-first.result in
    let own = c.own_count-own.result in
    let above = c.needed_numbers-above.result in
    let s = c.in_ok-find.field-0 in
    let content = get_or c.find.new.self.contents level [] in
    let same : level + 1 - 1 ≡ level = omega arith in
    let read : content ≡ m s = ap (λ n. get_or c.find.new.self.contents n []) (sym same) ∙ c.in_ok-find.ensures.content c.if-branch-eq0.false in
    let test = c.are_none-2.ensures m (last_lists m v level first own above c.needed_numbers-first.ensures.is c.own_count-own.ensures c.needed_numbers-above.ensures.is
    s content c.if-above-eq0.false c.in_ok-find.ensures.number c.if-branch-eq0.false read) in (
      (λ t. to_cut m v level first own above c.needed_numbers-first.ensures.is c.own_count-own.ensures c.needed_numbers-above.ensures.is (test.0 t)),
      (λ cut. test.1 (of_cut m v level first own above c.needed_numbers-first.ensures.is c.own_count-own.ensures c.needed_numbers-above.ensures.is cut)),
    )

pub returns-then-not-are_none-clause-passed : goal.returns-then-not-are_none-clause-passed
returns-then-not-are_none-clause-passed g c = record { reads = reads_nothing; reason = tt }

pub returns-then-above-eq0-clause-passed : goal.returns-then-above-eq0-clause-passed
returns-then-above-eq0-clause-passed g c = record { reads = reads_nothing; reason = tt }

pub returns-in_err-find-clause-passed : goal.returns-in_err-find-clause-passed
returns-in_err-find-clause-passed g c = same_error c.from_residual.result c.from_residual.ensures.1 c.in_err-find.ensures.passed

pub returns-then-branch-eq0-clause-passed : goal.returns-then-branch-eq0-clause-passed
returns-then-branch-eq0-clause-passed g c = record { reads = c.in_ok-find.ensures.passed.reads; reason = tt }

pub returns-clause-passed : goal.returns-clause-passed
returns-clause-passed g c = record { reads = c.in_ok-find.ensures.passed.reads; reason = tt }

pub returns-in_err-find-clause-test : goal.returns-in_err-find-clause-test
returns-in_err-find-clause-test g c = if_ended _ _ c.from_residual.result c.from_residual.ensures.1

pub returns-then-branch-eq0-clause-at_hand : goal.returns-then-branch-eq0-clause-at_hand
returns-then-branch-eq0-clause-at_hand g c = c.in_ok-find.ensures.at_hand

pub returns-in_err-find-clause-at_hand : goal.returns-in_err-find-clause-at_hand
returns-in_err-find-clause-at_hand g c = on_ended _ _ c.from_residual.result c.from_residual.ensures.1

pub find-requires-clause-opened : goal.find-requires-clause-opened
find-requires-clause-opened g c = c.requires.opened

pub find-requires-clause-at_hand : goal.find-requires-clause-at_hand
find-requires-clause-at_hand g c = c.requires.at_hand

pub returns-clause-at_hand : goal.returns-clause-at_hand
returns-clause-at_hand g c = c.in_ok-find.ensures.at_hand

pub returns-then-not-are_none-clause-at_hand : goal.returns-then-not-are_none-clause-at_hand
returns-then-not-are_none-clause-at_hand g c = c.requires.at_hand

pub returns-then-above-eq0-clause-at_hand : goal.returns-then-above-eq0-clause-at_hand
returns-then-above-eq0-clause-at_hand g c = c.requires.at_hand
