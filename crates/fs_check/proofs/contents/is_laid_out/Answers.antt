use Rattle.std.proofs.Common.{◌≡◌, ◌/◌, IsTrue, ◌↔◌, arith, ap, subst, refl, ◌∙◌}
use Rattle.fs_layout.specs.Bytes.{SectorMap}
use Rattle.fs_layout.specs.Images.{pointer}
use Rattle.sector_disk.proofs.Moments.{reads_joined}
use Rattle.fs_check.specs.Checks.{meaning}
use Rattle.fs_check.specs.LastBlocks.{last_block, FitsLast}
use Rattle.fs_check.proofs.Carrying.{meaning_same, hand_back, above_still, number_back, opened_still, hand_still, read_error, same_error}
use Rattle.fs_check.proofs.DataNumbers.{above_owned, level_below, level_owned}
use Rattle.fs_check.proofs.Trims.{not_fit, laid_out_hole, laid_out_last}
use Rattle.fs_check.proofs.contents.is_laid_out.Goals as goal

pub returns-then-not-branch-clause-test : goal.returns-then-not-branch-clause-test
returns-then-not-branch-clause-test g c =
    let m = meaning (g.D.Disk.state c.args.disk.now) in
    not_fit m c.args.inode.now c.in_ok-fit_numbers.field-0 c.if-not-branch.true c.in_ok-fit_numbers.ensures.test

pub number-requires-clause-above : goal.number-requires-clause-above
number-requires-clause-above g c =
    let p = c.args.opened.now.geometry in
    let v = c.args.inode.now in
    above_still c.in_ok-fit_numbers.ensures.passed.reads p v 0 (above_owned p (meaning (g.D.Disk.state c.args.disk.now)) v c.requires.in_data 0)

pub returns-then-last-eq0-clause-test : goal.returns-then-last-eq0-clause-test
returns-then-last-eq0-clause-test g c =
    let m = meaning (g.D.Disk.state c.args.disk.now) in
    let v = c.args.inode.now in
    let fit = c.in_ok-fit_numbers.ensures.test.0 c.if-not-branch.false in
    let k = c.saturating_sub-k.result / 512 in
    let at : k ≡ last_block v = ap (λ n. n / 512) c.saturating_sub-k.ensures in
    let is = number_back c.in_ok-fit_numbers.ensures.passed.reads v 0 k c.in_ok-last.last c.in_ok-last.ensures.number in
    laid_out_hole m v fit c.in_ok-last.last (is ∙ ap (pointer m v) at) c.if-last-eq0.true

pub returns-then-last-eq0-clause-at_hand : goal.returns-then-last-eq0-clause-at_hand
returns-then-last-eq0-clause-at_hand g c = hand_back c.in_ok-fit_numbers.ensures.passed.reads c.number.new.self c.in_ok-last.ensures.at_hand

pub fits_block-requires-clause-on_disk : goal.fits_block-requires-clause-on_disk
fits_block-requires-clause-on_disk g c =
    let p = c.args.opened.now.geometry in
    let v = c.args.inode.now in
    let m = meaning (g.D.Disk.state c.args.disk.now) in
    let k = c.saturating_sub-k.result / 512 in
    let is = number_back c.in_ok-fit_numbers.ensures.passed.reads v 0 k c.in_ok-last.last c.in_ok-last.ensures.number in
    let below = level_below _ _ p m v 0 k c.in_ok-last.last c.requires.opened.geometry (level_owned p m v c.requires.in_data 0) is in
    let first = c.in_ok-fit_numbers.ensures.passed.reads.narrowed.size in
    let second = c.in_ok-last.ensures.passed.reads.narrowed.size in
    omega (arith, below, first, second)

pub fits_block-requires-clause-opened : goal.fits_block-requires-clause-opened
fits_block-requires-clause-opened g c =
    opened_still (reads_joined c.in_ok-fit_numbers.ensures.passed.reads c.in_ok-last.ensures.passed.reads) c.requires.opened

pub returns-clause-at_hand : goal.returns-clause-at_hand
returns-clause-at_hand g c = hand_back c.in_ok-fit_numbers.ensures.passed.reads c.number.new.self c.in_ok-last.ensures.at_hand

pub returns-clause-test : goal.returns-clause-test
returns-clause-test g c =
    let m = meaning (g.D.Disk.state c.args.disk.now) in
    let v = c.args.inode.now in
    let last = c.in_ok-last.last in
    let fit = c.in_ok-fit_numbers.ensures.test.0 c.if-not-branch.false in
    let k = c.saturating_sub-k.result / 512 in
    let at : k ≡ last_block v = ap (λ n. n / 512) c.saturating_sub-k.ensures in
    let is = number_back c.in_ok-fit_numbers.ensures.passed.reads v 0 k last c.in_ok-last.ensures.number in
    let same = meaning_same (reads_joined c.in_ok-fit_numbers.ensures.passed.reads c.in_ok-last.ensures.passed.reads) in
    let test = subst (λ (q : SectorMap). IsTrue c.in_ok-fits.fits ↔ FitsLast v (q last)) same c.in_ok-fits.ensures.test in
    laid_out_last m v fit last (m last) (is ∙ ap (pointer m v) at) c.if-last-eq0.false refl c.in_ok-fits.fits c.requires.size.short test

pub returns-in_err-fit_numbers-clause-passed : goal.returns-in_err-fit_numbers-clause-passed
returns-in_err-fit_numbers-clause-passed g c = same_error c.from_residual.result c.from_residual.ensures.1 c.in_err-fit_numbers.ensures.passed

pub returns-then-not-branch-clause-passed : goal.returns-then-not-branch-clause-passed
returns-then-not-branch-clause-passed g c = record { reads = c.in_ok-fit_numbers.ensures.passed.reads; reason = tt }

pub number-requires-clause-opened : goal.number-requires-clause-opened
number-requires-clause-opened g c = opened_still c.in_ok-fit_numbers.ensures.passed.reads c.requires.opened

pub number-requires-clause-at_hand : goal.number-requires-clause-at_hand
number-requires-clause-at_hand g c = hand_still c.in_ok-fit_numbers.ensures.passed.reads c.fit_numbers.new.pointers c.in_ok-fit_numbers.ensures.at_hand

pub returns-in_err-last-clause-passed : goal.returns-in_err-last-clause-passed
returns-in_err-last-clause-passed g c = read_error c.in_ok-fit_numbers.ensures.passed.reads c.from_residual-in_err-last.result c.from_residual-in_err-last.ensures.1 c.in_err-last.ensures.passed

pub returns-then-last-eq0-clause-passed : goal.returns-then-last-eq0-clause-passed
returns-then-last-eq0-clause-passed g c = record { reads = reads_joined c.in_ok-fit_numbers.ensures.passed.reads c.in_ok-last.ensures.passed.reads; reason = tt }

pub returns-in_err-fits-clause-passed : goal.returns-in_err-fits-clause-passed
returns-in_err-fits-clause-passed g c = read_error (reads_joined c.in_ok-fit_numbers.ensures.passed.reads c.in_ok-last.ensures.passed.reads) c.from_residual-in_err-fits.result c.from_residual-in_err-fits.ensures.1 c.in_err-fits.ensures.passed

pub returns-clause-passed : goal.returns-clause-passed
returns-clause-passed g c =
    record {
      reads = reads_joined (reads_joined c.in_ok-fit_numbers.ensures.passed.reads c.in_ok-last.ensures.passed.reads) c.in_ok-fits.ensures.passed.reads;
      reason = tt;
    }
