use Rattle.call_parts.specs.BothTables.{both}
use Rattle.file_calls.specs.Places.{resize_through}
use Rattle.std.proofs.Common.{sym, ap, arith, ◌∙◌, inr}
use Rattle.std.specs.Prelude.{nat_lt}
use Rattle.fs_cred.specs.declared.errno.Errno.TheVariants.{EFBIG}
use Rattle.fs_layout.specs.declared.inode.Inode.{Inode}
use Rattle.fs_layout.specs.Version.{max_file_size}
use Rattle.fs_model.specs.Demands.{refuse}
use Rattle.fs_model.specs.declared.reply.Reply.TheVariants.{Done}
use Rattle.sector_txn.proofs.TransactionRuns.{store_same}
use Rattle.call_parts.proofs.Calling.{met_ok}
use Rattle.call_parts.proofs.ByDescriptor.{reached_as, open_refused, open_below, asked_performs, unread_performs, broken_later, changed_tree, same_left}
use Rattle.call_parts.proofs.Changed.{may_touch}
use Rattle.file_calls.proofs.Cutting.{ftruncate_by, resizes_keep, size_asked, cuts}
use Rattle.file_calls.proofs.Sized.{few_enough}
use Rattle.file_calls.proofs.Writing.{open_to_write, file_kind}
use Rattle.file_calls.proofs.transfer.ftruncate.Goals as goal

pub returns-in_err-descriptor : goal.returns-in_err-descriptor
returns-in_err-descriptor g c =
    let r = c.from_residual.ensures in
    let x = c.in_err-descriptor.ensures in
    open_refused (ftruncate_by c.args.place c.args.size c.requires.start) c.from_residual.result c.in_err-descriptor.field-0.0 r.0 r.1 x.same.store x.refused

pub returns-in_err-check_size : goal.returns-in_err-check_size
returns-in_err-check_size g c =
    let r = c.from_residual-in_err-check_size.ensures in
    let x = c.in_ok-descriptor.ensures in
    let mid = g.S.Sectors.state c.reach_open.new.s in
    let e = c.in_err-check_size.field-0.0 in
    asked_performs (ftruncate_by c.args.place c.args.size c.requires.start) x.same x.opened.is_open mid c.from_residual-in_err-check_size.result e r.0 r.1 store_same
    (λ s at. size_asked mid x.opened.is_open.opened c.args.size s at e (sym c.in_err-check_size.ensures))

pub give_size-requires : goal.give_size-requires
give_size-requires g c =
    let x = reached_as c.descriptor.view_is c.in_ok-descriptor.ensures.opened in
    let o = x.is_open.opened in
    let met = few_enough (max_file_size c.args.site.geometry.version) c.args.size (met_ok {A = Unit {0}} (refuse EFBIG (nat_lt (max_file_size c.args.site.geometry.version) c.args.size)) tt tt (sym c.in_ok-check_size.ensures)).0 in
    let room = x.ready.spare in
    record {
      ready = record { sound = x.ready.sound; spare = omega (arith, room) };
      below = open_below o x.ready.state x.ready.is_state;
      inode = x.inode;
      file = ap (λ (i : Inode). i.kind) x.inode ∙ file_kind o x.ready.state x.ready.is_state (open_to_write x.is_open);
      fits = met;
    }

pub returns-in_err-give_size : goal.returns-in_err-give_size
returns-in_err-give_size g c =
    let r = c.from_residual-in_err-give_size.ensures in
    let x = c.in_ok-descriptor.ensures in
    let failed = c.in_err-give_size.ensures in
    unread_performs (ftruncate_by c.args.place c.args.size c.requires.start) x.same x.opened.is_open (g.S.Sectors.state c.give_size.new.s)
    c.from_residual-in_err-give_size.result c.in_err-give_size.field-0.0 r.0 r.1 failed.store (λ s at. inr failed.fault)

pub touch-requires : goal.touch-requires
touch-requires g c =
    let x = reached_as c.descriptor.view_is c.in_ok-descriptor.ensures.opened in
    let o = x.is_open.opened in
    let fits = few_enough (max_file_size c.args.site.geometry.version) c.args.size (met_ok {A = Unit {0}} (refuse EFBIG (nat_lt (max_file_size c.args.site.geometry.version) c.args.size)) tt tt (sym c.in_ok-check_size.ensures)).0 in
    let mid = g.S.Sectors.state c.reach_open.new.s in
    let new = g.S.Sectors.state c.give_size.new.s in
    let done = c.in_ok-give_size.ensures in
    let s = x.ready.state in
    let at = x.ready.is_state in
    may_touch x.ready done.store (cuts mid o c.args.size s at new (open_to_write x.is_open) fits done.made)
    (open_below o s at, tt) 5 done.taken (omega arith)

pub returns-in_err-touch : goal.returns-in_err-touch
returns-in_err-touch g c =
    let x = c.in_ok-descriptor.ensures in
    broken_later (ftruncate_by c.args.place c.args.size c.requires.start) x.same x.opened.is_open (g.S.Sectors.state c.touch.new.s) _ _ c.from_residual-in_err-touch.ensures
    c.in_ok-give_size.ensures.store c.in_err-touch.ensures.store c.in_err-touch.ensures.fault

pub returns : goal.returns
returns g c =
    let x = reached_as c.descriptor.view_is c.in_ok-descriptor.ensures.opened in
    let fits = few_enough (max_file_size c.args.site.geometry.version) c.args.size (met_ok {A = Unit {0}} (refuse EFBIG (nat_lt (max_file_size c.args.site.geometry.version) c.args.size)) tt tt (sym c.in_ok-check_size.ensures)).0 in
    let mid = g.S.Sectors.state c.reach_open.new.s in
    let new = g.S.Sectors.state c.give_size.new.s in
    let done = c.in_ok-give_size.ensures in
    changed_tree (ftruncate_by c.args.place c.args.size c.requires.start) c.in_ok-descriptor.ensures.same x.is_open new (both c.args.procs.now c.args.openings.now.0) done.store done.made.super c.in_ok-touch.ensures.made
    x.is_open.opened.process Done (same_left (both c.args.procs.now c.args.openings.now.0) c.args.place (resize_through c.args.place c.args.size) x.is_open.opened.process x.table.rising x.is_open.opened.there (resizes_keep c.args.place c.args.size))
    (λ s at. cuts mid x.is_open.opened c.args.size s at new (open_to_write x.is_open) fits done.made)
