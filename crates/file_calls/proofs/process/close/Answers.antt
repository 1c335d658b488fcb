use Rattle.std.proofs.Common.{refl, sym, subst, inr, arith}
use Rattle.fs_model.specs.TreeChanges.{Same}
use Rattle.fs_model.specs.declared.reply.Reply.TheVariants.{Done}
use Rattle.bit_alloc.proofs.Transactions.{unchanged_nothing}
use Rattle.call_parts.specs.BothTables.{Tables, both}
use Rattle.call_parts.specs.Dropping.{LeavesInode}
use Rattle.call_parts.specs.Performing.{Performs}
use Rattle.call_parts.specs.Reaching.{fd_of, closed_in}
use Rattle.call_parts.proofs.ByDescriptor.{open_as, opened_ok, closed_refused, unread_performs, changed_tree}
use Rattle.call_parts.proofs.Changed.{none_moved}
use Rattle.call_parts.proofs.Leavings.{left_super, closed_number, closed_holds}
use Rattle.open_files.specs.Tables.{without_descriptor}
use Rattle.file_calls.specs.Places.{close_through}
use Rattle.file_calls.proofs.Settled.{close_by, closed_left}
use Rattle.std.specs.Prelude.{Ok}
use Rattle.file_calls.proofs.process.close.Goals as goal

pub returns-in_err-descriptor : goal.returns-in_err-descriptor
returns-in_err-descriptor g c =
    let r = c.from_residual.ensures in
    closed_refused (close_by c.args.place c.requires.start) c.from_residual.result c.in_err-descriptor.field-0.0 r.0 r.1 c.in_err-descriptor.ensures.refused

pub stays_open-stays_open-requires : goal.stays_open-stays_open-requires
stays_open-stays_open-requires g c = opened_ok c.in_ok-descriptor.ensures.is_open.opened

pub leave-requires-clause-number : goal.leave-requires-clause-number
leave-requires-clause-number g c =
    let w = open_as c.descriptor.view_is c.in_ok-descriptor.ensures.is_open in
    closed_number w.opened c.requires.ready.state c.requires.ready.is_state

pub leave-requires-clause-spare : goal.leave-requires-clause-spare
leave-requires-clause-spare g c = let room = c.requires.ready.spare in omega (arith, room)

pub returns-in_err-leave : goal.returns-in_err-leave
returns-in_err-leave g c =
    let r = c.from_residual-in_err-leave.ensures in
    let failed = c.in_err-leave.ensures in
    unread_performs (close_by c.args.place c.requires.start) unchanged_nothing c.in_ok-descriptor.ensures.is_open
    (g.S.Sectors.state c.leave.new.s) c.from_residual-in_err-leave.result c.in_err-leave.field-0.0 r.0 r.1 failed.store
    (λ s at. inr failed.fault)

pub close_at-requires : goal.close_at-requires
close_at-requires g c = opened_ok c.in_ok-descriptor.ensures.is_open.opened

pub returns : goal.returns
returns g c =
    let place = c.args.place in
    let tables = both c.args.procs.now c.args.openings.now.0 in
    let w = open_as c.descriptor.view_is c.in_ok-descriptor.ensures.is_open in
    let old = g.S.Sectors.state c.args.s.now in
    let new = g.S.Sectors.state c.leave.new.s in
    let left = c.in_ok-leave.ensures in
    subst (λ (t : Tables). Performs c.args.site.geometry c.args.site.time (close_through place) old new tables t (Ok Done)) (sym c.close_at.ensures)
    (changed_tree (close_by place c.requires.start) unchanged_nothing w new (closed_in tables place) left.store (left_super left.leaves) (none_moved new)
    (without_descriptor w.opened.process (fd_of place)) Done (closed_left tables place w.opened.process w.opened.there)
    (λ s at. record {
      met = refl;
      number = 0;
      change = Same;
      is = refl;
      new_number = tt;
      times = refl;
      holds = closed_holds w.opened s at (subst (λ b. LeavesInode c.args.site.geometry c.descriptor.inside.ino b old new) c.stays_open-stays_open.ensures left.leaves);
    }))
