use Rattle.std.proofs.lemmas.Result.{err_from_is_err_and}
use Rattle.sector_disk.specs.Disk.{OnlyReads}
use Rattle.sector_disk.proofs.Moments.{reads_joined}
use Rattle.fs_check.proofs.Carrying.{opened_still, table_still, before_still, before_back, part_error, same_error, failed_of}
use Rattle.fs_check.proofs.Endings.{on_ended, if_ended}
use Rattle.fs_check.proofs.checking.check_inodes.Goals as goal

pub returns-in_err-check_tree-clause-passed : goal.returns-in_err-check_tree-clause-passed
returns-in_err-check_tree-clause-passed g c =
    let s0 = g.D.Disk.state c.args.disk.now in
    let s2 = g.D.Disk.state c.check_contents.new.disk in
    let s3 = g.D.Disk.state c.check_names.new.disk in
    let r2 : OnlyReads s0 s2 = reads_joined c.in_ok-owned.ensures.passed.reads c.in_ok-check_contents.ensures.passed.reads in
    let q = err_from_is_err_and c.from_residual-in_err-check_tree.result c.from_residual-in_err-check_tree.ensures.1 in
    failed_of s0 s2 s3 r2 c.in_ok-names.ensures.passed.reads c.requires.opened _ q.0 c.from_residual-in_err-check_tree.result q.1 q.2
    (c.in_err-check_tree.ensures _ (table_still r2 c.requires.inodes.table) c.in_ok-names.ensures.names c.in_ok-names.ensures.before)

pub returns-in_err-owned-clause-passed : goal.returns-in_err-owned-clause-passed
returns-in_err-owned-clause-passed g c = same_error c.from_residual.result c.from_residual.ensures.1 c.in_err-owned.ensures.passed

pub check_contents-requires : goal.check_contents-requires
check_contents-requires g c =
    let reads = c.in_ok-owned.ensures.passed.reads in
    record {
      opened = opened_still reads c.requires.opened;
      inodes = record { table = table_still reads c.requires.inodes.table; before = before_still reads c.in_ok-owned.ensures.before };
    }

pub returns-in_err-check_contents-clause-passed : goal.returns-in_err-check_contents-clause-passed
returns-in_err-check_contents-clause-passed g c =
    let left = c.from_residual-in_err-check_contents in
    part_error c.in_ok-owned.ensures.passed.reads left.result left.ensures.1 c.in_err-check_contents.ensures.passed

pub check_names-requires : goal.check_names-requires
check_names-requires g c =
    let then = c.in_ok-check_contents.ensures in
    let reads = reads_joined c.in_ok-owned.ensures.passed.reads then.passed.reads in
    record {
      opened = opened_still reads c.requires.opened;
      inodes = record { table = table_still reads c.requires.inodes.table; before = before_still then.passed.reads then.before };
    }

pub returns-in_err-names-clause-passed : goal.returns-in_err-names-clause-passed
returns-in_err-names-clause-passed g c =
    let left = c.from_residual-in_err-names in
    let reads = reads_joined c.in_ok-owned.ensures.passed.reads c.in_ok-check_contents.ensures.passed.reads in
    part_error reads left.result left.ensures.1 c.in_err-names.ensures.passed

pub returns-clause-before : goal.returns-clause-before
returns-clause-before g c =
    let reads = reads_joined c.in_ok-owned.ensures.passed.reads c.in_ok-check_contents.ensures.passed.reads in
    before_back reads (c.in_ok-check_tree.ensures _ (table_still reads c.requires.inodes.table) c.in_ok-names.ensures.names c.in_ok-names.ensures.before)

pub returns-clause-passed : goal.returns-clause-passed
returns-clause-passed g c =
    let reads = reads_joined c.in_ok-owned.ensures.passed.reads c.in_ok-check_contents.ensures.passed.reads in
    record { reads = reads_joined reads c.in_ok-names.ensures.passed.reads; reason = tt }

pub check_tree-requires : goal.check_tree-requires
check_tree-requires g c =
    let named = c.in_ok-names.ensures.names in record { few = c.requires.inodes.table.len; counts_len = named.counted.len; directories_len = named.len }

pub check_owners-requires-clause-opened : goal.check_owners-requires-clause-opened
check_owners-requires-clause-opened g c = c.requires.opened

pub returns-clause-owners : goal.returns-clause-owners
returns-clause-owners g c = c.in_ok-owned.ensures.owners

pub check_owners-requires-clause-inodes : goal.check_owners-requires-clause-inodes
check_owners-requires-clause-inodes g c = c.requires.inodes

pub returns-in_err-owned-clause-owners : goal.returns-in_err-owned-clause-owners
returns-in_err-owned-clause-owners g c = if_ended _ _ c.from_residual.result c.from_residual.ensures.1

pub returns-in_err-owned-clause-before : goal.returns-in_err-owned-clause-before
returns-in_err-owned-clause-before g c = on_ended _ _ c.from_residual.result c.from_residual.ensures.1

pub returns-in_err-check_tree-clause-owners : goal.returns-in_err-check_tree-clause-owners
returns-in_err-check_tree-clause-owners g c =
    let left = c.from_residual-in_err-check_tree in if_ended _ _ left.result left.ensures.1
