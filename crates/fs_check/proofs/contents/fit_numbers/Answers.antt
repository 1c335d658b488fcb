use Rattle.std.proofs.Common.{◌≢◌, IsTrue, ◌↔◌, rules, subst}
use Rattle.fs_layout.specs.declared.inode.Kind.TheVariants.{File}
use Rattle.fs_layout.specs.Bytes.{SectorMap}
use Rattle.fs_layout.specs.Images.{IsTrimmed, HasNoHole}
use Rattle.fs_check.specs.Checks.{meaning}
use Rattle.fs_check.proofs.Carrying.{meaning_same, owns_still, hand_back, hand_still, opened_still, read_error, same_error}
use Rattle.fs_check.proofs.FitNumbers.{not_fit}
use Rattle.sector_disk.proofs.Moments.{reads_joined}
use Rattle.fs_check.proofs.contents.fit_numbers.Goals as goal

pub returns-then-not-branch-clause-test : goal.returns-then-not-branch-clause-test
returns-then-not-branch-clause-test g c =
    let m = meaning (g.D.Disk.state c.args.disk.now) in
    let v = c.args.inode.now in
    not_fit m v (IsTrimmed m v) c.in_ok-is_trimmed.field-0 (λ fit. fit.trim) c.in_ok-is_trimmed.ensures.test c.if-not-branch.true

pub has_no_hole-requires : goal.has_no_hole-requires
has_no_hole-requires g c =
    let reads = c.in_ok-is_trimmed.ensures.passed.reads in
    record {
      opened = opened_still reads c.requires.opened;
      in_data = owns_still reads c.args.opened.now.geometry c.args.inode.now c.requires.in_data;
      at_hand = hand_still reads c.is_trimmed.new.pointers c.in_ok-is_trimmed.ensures.at_hand;
    }

pub returns-clause-test : goal.returns-clause-test
returns-clause-test g c =
    let v = c.args.inode.now in
    let whole = subst (λ (m : SectorMap). IsTrue c.in_ok-whole.whole ↔ HasNoHole m v) (meaning_same c.in_ok-is_trimmed.ensures.passed.reads)
    c.in_ok-whole.ensures.test in
    let other : v.kind ≢ File = search rules in (
      (λ t. record { trim = c.in_ok-is_trimmed.ensures.test.0 c.if-not-branch.false; whole = λ no_file. whole.0 t }),
      (λ fit. whole.1 (fit.whole other)),
    )

pub returns-in_err-is_trimmed-clause-passed : goal.returns-in_err-is_trimmed-clause-passed
returns-in_err-is_trimmed-clause-passed g c = same_error c.from_residual.result c.from_residual.ensures.1 c.in_err-is_trimmed.ensures.passed

pub returns-then-not-branch-clause-passed : goal.returns-then-not-branch-clause-passed
returns-then-not-branch-clause-passed g c = record { reads = c.in_ok-is_trimmed.ensures.passed.reads; reason = tt }

pub returns-then-eq-clause-passed : goal.returns-then-eq-clause-passed
returns-then-eq-clause-passed g c = record { reads = c.in_ok-is_trimmed.ensures.passed.reads; reason = tt }

pub returns-in_err-whole-clause-passed : goal.returns-in_err-whole-clause-passed
returns-in_err-whole-clause-passed g c = read_error c.in_ok-is_trimmed.ensures.passed.reads c.from_residual-in_err-whole.result c.from_residual-in_err-whole.ensures.1 c.in_err-whole.ensures.passed

pub returns-clause-at_hand : goal.returns-clause-at_hand
returns-clause-at_hand g c = hand_back c.in_ok-is_trimmed.ensures.passed.reads c.has_no_hole.new.pointers c.in_ok-whole.ensures.at_hand

pub returns-clause-passed : goal.returns-clause-passed
returns-clause-passed g c = record { reads = reads_joined c.in_ok-is_trimmed.ensures.passed.reads c.in_ok-whole.ensures.passed.reads; reason = tt }
