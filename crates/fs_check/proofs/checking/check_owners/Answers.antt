use Rattle.std.proofs.Common.{refl, subst, sym}
use Rattle.std.proofs.lemmas.Result.{err_from_is_err_and}
use Rattle.sector_disk.proofs.Moments.{reads_joined}
use Rattle.fs_model.specs.Rules.{InData, OwnedOnce, BlockBits}
use Rattle.fs_check.proofs.Carrying.{next_before, first_error, rule_error, meaning_same, opened_still}
use Rattle.fs_check.proofs.Failures.{found_error, both_before}
use Rattle.fs_check.specs.Checks.{IsOwnerMap}
use Rattle.fs_check.proofs.checking.check_owners.Goals as goal

pub returns-clause-before : goal.returns-clause-before
returns-clause-before g c =
    let s0 = g.D.Disk.state c.args.disk.now in
    let s1 = g.D.Disk.state c.read_owners.new.disk in
    let read = c.in_ok-owners.ensures in
    next_before s0 s1 BlockBits 7 refl read.passed.reads
    (both_before s0 s1 InData OwnedOnce 5 refl refl c.requires.opened c.requires.inodes.before read.passed.reads read.each c.in_ok-owners.owners.twice read.twice
    c.in_ok-found_at.ensures) c.in_ok-block_bits.ensures.each

pub returns-in_err-owners-clause-passed : goal.returns-in_err-owners-clause-passed
returns-in_err-owners-clause-passed g c =
    first_error (g.D.Disk.state c.args.disk.now) (g.D.Disk.state c.read_owners.new.disk) InData 5 refl c.requires.opened c.requires.inodes.before _
    c.from_residual.result (err_from_is_err_and c.from_residual.result c.from_residual.ensures.1) c.in_err-owners.ensures.passed

pub returns-clause-passed : goal.returns-clause-passed
returns-clause-passed g c = record { reads = reads_joined c.in_ok-owners.ensures.passed.reads c.in_ok-block_bits.ensures.passed.reads; reason = tt }

pub returns-in_err-found_at-clause-passed : goal.returns-in_err-found_at-clause-passed
returns-in_err-found_at-clause-passed g c =
    let read = c.in_ok-owners.ensures in
    let left = c.from_residual-in_err-found_at in
    found_error (g.D.Disk.state c.args.disk.now) (g.D.Disk.state c.read_owners.new.disk) InData OwnedOnce 5 refl refl c.requires.opened c.requires.inodes.before
    read.passed.reads read.each c.in_ok-owners.owners.twice read.twice _ left.result (err_from_is_err_and left.result left.ensures.1) c.in_err-found_at.ensures

pub returns-in_err-block_bits-clause-passed : goal.returns-in_err-block_bits-clause-passed
returns-in_err-block_bits-clause-passed g c =
    let s0 = g.D.Disk.state c.args.disk.now in
    let s1 = g.D.Disk.state c.read_owners.new.disk in
    let read = c.in_ok-owners.ensures in
    let left = c.from_residual-in_err-block_bits in
    rule_error s0 s1 (g.D.Disk.state c.block_bits.new.disk) BlockBits 7 refl read.passed.reads c.requires.opened
    (both_before s0 s1 InData OwnedOnce 5 refl refl c.requires.opened c.requires.inodes.before read.passed.reads read.each c.in_ok-owners.owners.twice read.twice
    c.in_ok-found_at.ensures) _ left.result (err_from_is_err_and left.result left.ensures.1) c.in_err-block_bits.ensures.passed

pub block_bits-requires : goal.block_bits-requires
block_bits-requires g c =
    let reads = c.in_ok-owners.ensures.passed.reads in
    record { opened = opened_still reads c.requires.opened; owners = subst (λ m. IsOwnerMap c.args.opened.now.geometry m c.in_ok-owners.owners.owned) (sym (meaning_same reads)) c.in_ok-owners.ensures.owners }
