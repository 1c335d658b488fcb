use Rattle.std.proofs.Common.{◌/◌, arith}
use Rattle.fs_check.specs.Checks.{meaning}
use Rattle.fs_check.proofs.DataNumbers.{above_owned, level_below, level_owned}
use Rattle.fs_check.proofs.Carrying.{opened_still, read_error, same_error}
use Rattle.sector_disk.proofs.Moments.{reads_joined}
use Rattle.fs_check.proofs.slots.read_block_of.Goals as goal

pub number-requires-clause-above : goal.number-requires-clause-above
number-requires-clause-above g c =
    above_owned c.args.opened.now.geometry (meaning (g.D.Disk.state c.args.disk.now)) c.args.inode.now c.requires.in_data 0

pub read_recovered-requires-clause-on_disk : goal.read_recovered-requires-clause-on_disk
read_recovered-requires-clause-on_disk g c =
    let p = c.args.opened.now.geometry in
    let m = meaning (g.D.Disk.state c.args.disk.now) in
    let v = c.args.inode.now in
    let below = level_below _ _ p m v 0 (c.args.k / c.block_slots-block_slots.result) c.in_ok-s.s c.requires.opened.geometry (level_owned p m v c.requires.in_data 0)
    c.in_ok-s.ensures.number in
    let size = c.in_ok-s.ensures.passed.reads.narrowed.size in
    omega (arith, below, size)

pub read_recovered-requires-clause-opened : goal.read_recovered-requires-clause-opened
read_recovered-requires-clause-opened g c = opened_still c.in_ok-s.ensures.passed.reads c.requires.opened

pub returns-in_err-s-clause-passed : goal.returns-in_err-s-clause-passed
returns-in_err-s-clause-passed g c = same_error c.from_residual.result c.from_residual.ensures.1 c.in_err-s.ensures.passed

pub returns-in_err-read_recovered-clause-passed : goal.returns-in_err-read_recovered-clause-passed
returns-in_err-read_recovered-clause-passed g c = read_error c.in_ok-s.ensures.passed.reads c.from_residual-in_err-read_recovered.result c.from_residual-in_err-read_recovered.ensures.1 c.in_err-read_recovered.ensures.passed

pub returns-clause-at_hand : goal.returns-clause-at_hand
returns-clause-at_hand g c = c.in_ok-s.ensures.at_hand

pub returns-clause-passed : goal.returns-clause-passed
returns-clause-passed g c = record { reads = reads_joined c.in_ok-s.ensures.passed.reads c.in_ok-read_recovered.ensures.passed.reads; reason = tt }
