use Rattle.std.proofs.Common.{sym, refl, Err}
use Rattle.std.specs.Int.{w64}
use Rattle.std.proofs.lemmas.Int.{to_z-of_z}
use Rattle.fs_cred.specs.declared.errno.Errno.TheVariants.{EINVAL}
use Rattle.fs_cred.specs.declared.refusal.Refusal.TheVariants.{Failed}
use Rattle.fs_model.specs.declared.reply.Reply.TheVariants.{At}
use Rattle.call_parts.specs.BothTables.{both}
use Rattle.sector_txn.proofs.TransactionRuns.{store_same}
use Rattle.bit_alloc.proofs.Transactions.{unchanged_nothing}
use Rattle.call_parts.proofs.ByDescriptor.{reached_as, opened_ok, open_refused, asked_performs, changed_one}
use Rattle.file_calls.proofs.HeldFiles.{no_directory}
use Rattle.file_calls.proofs.Seeking.{lseek_by, lseek_refused, lseek_lost, lseek_told}
use Rattle.file_calls.proofs.transfer.lseek.Goals as goal

pub returns-in_err-descriptor-clause-performs : goal.returns-in_err-descriptor-clause-performs
returns-in_err-descriptor-clause-performs g c =
    let r = c.from_residual.ensures in
    let refused = c.in_err-descriptor.ensures.refused in
    open_refused (lseek_by c.args.pid c.args.fd c.args.whence c.args.by) c.from_residual.result c.in_err-descriptor.field-0.0 r.0 r.1 c.in_err-descriptor.ensures.same.store refused

pub returns-in_err-check_no_directory-clause-performs : goal.returns-in_err-check_no_directory-clause-performs
returns-in_err-check_no_directory-clause-performs g c =
    let r = c.from_residual-in_err-check_no_directory.ensures in
    let x = c.in_ok-descriptor.ensures.opened in
    let e = c.in_err-check_no_directory.field-0.0 in
    asked_performs (lseek_by c.args.pid c.args.fd c.args.whence c.args.by) c.in_ok-descriptor.ensures.same x.is_open (g.S.Sectors.state c.reach_open.new.s)
    c.from_residual-in_err-check_no_directory.result e r.0 r.1 store_same
    (λ s at. lseek_refused x.is_open.opened c.args.whence c.args.by s at c.in_ok-descriptor.inode x.inode e (sym c.in_err-check_no_directory.ensures))

pub returns-in_default-clause-performs : goal.returns-in_default-clause-performs
returns-in_default-clause-performs g c =
    let x = reached_as c.descriptor.view_is c.in_ok-descriptor.ensures.opened in
    let v = c.in_ok-descriptor.inode in
    asked_performs (lseek_by c.args.pid c.args.fd c.args.whence c.args.by) c.in_ok-descriptor.ensures.same x.is_open (g.S.Sectors.state c.reach_open.new.s)
    (Err (Failed EINVAL)) (Failed EINVAL) refl refl store_same
    (λ s at. lseek_lost x.is_open.opened c.args.whence c.args.by s at v x.inode (no_directory v.kind c.in_ok-check_no_directory.ensures)
    c.base.result c.base.ensures.start c.base.ensures.present c.base.ensures.end _ (to_z-of_z w64 c.args.by c.ranges.by) c.in_default.ensures)

pub seek_at-requires : goal.seek_at-requires
seek_at-requires g c = opened_ok c.in_ok-descriptor.ensures.opened.is_open.opened

pub returns-clause-performs : goal.returns-clause-performs
returns-clause-performs g c =
    let x = reached_as c.descriptor.view_is c.in_ok-descriptor.ensures.opened in
    let v = c.in_ok-descriptor.inode in
    let to = c.in-Some.offset in
    changed_one (lseek_by c.args.pid c.args.fd c.args.whence c.args.by) c.in_ok-descriptor.ensures.same x.is_open (λ openings. refl) (g.S.Sectors.state c.reach_open.new.s)
    (both c.seek_at.new.procs c.args.openings.now.0) unchanged_nothing x.table to (At to) c.seek_at.ensures
    (λ s at. lseek_told x.is_open.opened c.args.whence c.args.by s at v x.inode (no_directory v.kind c.in_ok-check_no_directory.ensures)
    c.base.result c.base.ensures.start c.base.ensures.present c.base.ensures.end _ (to_z-of_z w64 c.args.by c.ranges.by) to c.in-Some.ensures)
