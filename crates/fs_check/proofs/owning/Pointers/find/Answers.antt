use Rattle.std.proofs.Common.{arith}
use Rattle.fs_check.specs.Checks.{meaning}
use Rattle.fs_check.proofs.Carrying.{content_back, hand_back, hand_still, opened_still, read_error, same_error}
use Rattle.fs_check.proofs.DataNumbers.{level_below}
use Rattle.sector_disk.proofs.Moments.{reads_joined}
use Rattle.fs_check.proofs.owning.Pointers.find.Goals as goal

pub load-requires-clause-opened : goal.load-requires-clause-opened
load-requires-clause-opened g c = opened_still c.in_ok-s.ensures.passed.reads c.requires.opened

pub load-requires-clause-on_disk : goal.load-requires-clause-on_disk
load-requires-clause-on_disk g c =
    let m = meaning (g.D.Disk.state c.args.disk.now) in
    let below = level_below _ _ c.args.opened.now.geometry m c.args.inode.now c.args.level c.args.i c.in_ok-s.s c.requires.opened.geometry c.requires.in_data
    c.in_ok-s.ensures.number in
    let size = c.in_ok-s.ensures.passed.reads.narrowed.size in
    omega (arith, below, size)

pub load-requires-clause-at_hand : goal.load-requires-clause-at_hand
load-requires-clause-at_hand g c = hand_still c.in_ok-s.ensures.passed.reads c.number.new.self c.in_ok-s.ensures.at_hand

pub returns-clause-content : goal.returns-clause-content
returns-clause-content g c = λ some. content_back c.in_ok-s.ensures.passed.reads c.in_ok-s.s _ c.in_ok-load.ensures.content

pub returns-clause-at_hand : goal.returns-clause-at_hand
returns-clause-at_hand g c = hand_back c.in_ok-s.ensures.passed.reads c.load.new.self c.in_ok-load.ensures.at_hand

pub returns-in_err-s-clause-passed : goal.returns-in_err-s-clause-passed
returns-in_err-s-clause-passed g c = same_error c.from_residual.result c.from_residual.ensures.1 c.in_err-s.ensures.passed

pub returns-in_err-load-clause-passed : goal.returns-in_err-load-clause-passed
returns-in_err-load-clause-passed g c = read_error c.in_ok-s.ensures.passed.reads c.from_residual-in_err-load.result c.from_residual-in_err-load.ensures.1 c.in_err-load.ensures.passed

pub returns-clause-passed : goal.returns-clause-passed
returns-clause-passed g c = record { reads = reads_joined c.in_ok-s.ensures.passed.reads c.in_ok-load.ensures.passed.reads; reason = tt }
