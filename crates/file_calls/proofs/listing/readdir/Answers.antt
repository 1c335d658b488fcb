use Rattle.std.proofs.Common.{sym}
use Rattle.fs_model.specs.declared.reply.Reply.TheVariants.{Names}
use Rattle.sector_txn.proofs.TransactionRuns.{store_same}
use Rattle.block_map.proofs.Runs.{unchanged_joined}
use Rattle.call_parts.proofs.ByDescriptor.{reached_as, open_refused, open_below, asked_performs, interrupted_performs, told}
use Rattle.file_calls.proofs.HeldFiles.{a_directory, has_names}
use Rattle.file_calls.proofs.Listed.{readdir_by, lists_keep, lists_asks, readdir_refused, readdir_told}
use Rattle.file_calls.proofs.listing.readdir.Goals as goal

pub returns-in_err-descriptor-clause-performs : goal.returns-in_err-descriptor-clause-performs
returns-in_err-descriptor-clause-performs g c =
    let r = c.from_residual.ensures in
    let x = c.in_err-descriptor.ensures in
    open_refused (readdir_by c.args.place c.requires.start) c.from_residual.result c.in_err-descriptor.field-0.0 r.0 r.1 x.same.store x.refused

pub returns-in_err-check_is_directory-clause-performs : goal.returns-in_err-check_is_directory-clause-performs
returns-in_err-check_is_directory-clause-performs g c =
    let r = c.from_residual-in_err-check_is_directory.ensures in
    let x = c.in_ok-descriptor.ensures in
    let e = c.in_err-check_is_directory.field-0.0 in
    asked_performs (readdir_by c.args.place c.requires.start) x.same x.opened.is_open (g.S.Sectors.state c.reach_open.new.s) c.from_residual-in_err-check_is_directory.result e r.0 r.1 store_same
    (λ s at. readdir_refused x.opened.is_open.opened s at c.in_ok-descriptor.inode x.opened.inode e (sym c.in_err-check_is_directory.ensures))

pub list_names-requires : goal.list_names-requires
list_names-requires g c =
    let x = c.in_ok-descriptor.ensures.opened in
    let o = x.is_open.opened in
    let at = x.ready.is_state in
    record {
      sound = x.ready.sound;
      there = (c.in_ok-descriptor.descriptor.ino, open_below o x.ready.state at, x.inode);
      has = has_names o x.ready.state at c.in_ok-descriptor.inode x.inode (a_directory c.in_ok-descriptor.inode.kind c.in_ok-check_is_directory.ensures);
    }

pub returns-in_err-names-clause-same : goal.returns-in_err-names-clause-same
returns-in_err-names-clause-same g c = unchanged_joined c.in_ok-descriptor.ensures.same c.in_err-names.ensures.same

pub returns-in_err-names-clause-performs : goal.returns-in_err-names-clause-performs
returns-in_err-names-clause-performs g c =
    let r = c.from_residual-in_err-names.ensures in
    let x = c.in_ok-descriptor.ensures in
    interrupted_performs (readdir_by c.args.place c.requires.start) x.same x.opened.is_open (g.S.Sectors.state c.list_names.new.s)
    c.from_residual-in_err-names.result c.in_err-names.field-0.0 r.0 r.1 c.in_err-names.ensures.same.store (lists_asks c.args.place)
    c.in_err-names.ensures.interrupts

pub returns-clause-performs : goal.returns-clause-performs
returns-clause-performs g c =
    let x = reached_as c.descriptor.view_is c.in_ok-descriptor.ensures.opened in
    let v = c.in_ok-descriptor.inode in
    let names = c.in_ok-names.ensures in
    told (readdir_by c.args.place c.requires.start) c.in_ok-descriptor.ensures.same x.is_open (lists_keep c.args.place) (g.S.Sectors.state c.list_names.new.s) names.same (Names c.in_ok-names.names)
    (λ s at. readdir_told x.is_open.opened s at v x.inode (a_directory v.kind c.in_ok-check_is_directory.ensures) c.in_ok-names.names names.found)

pub returns-clause-same : goal.returns-clause-same
returns-clause-same g c = unchanged_joined c.in_ok-descriptor.ensures.same c.in_ok-names.ensures.same
