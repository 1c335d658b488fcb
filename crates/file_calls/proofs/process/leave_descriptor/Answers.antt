use Rattle.file_calls.specs.Exiting.{ended}
use Rattle.call_parts.specs.BothTables.{both, users_of}
use Rattle.std.proofs.Common.{ℕ, sym, ap, subst}
use Rattle.bit_alloc.proofs.Transactions.{unchanged_nothing}
use Rattle.fs_model.specs.Processes.{Descriptor, is_open}
use Rattle.call_parts.specs.Dropping.{LeavesInode}
use Rattle.call_parts.proofs.Alterings.{not_changed}
use Rattle.file_calls.specs.Exiting.{is_closed, was_open}
use Rattle.file_calls.proofs.process.leave_descriptor.Goals as goal

pub returns-in-Err : goal.returns-in-Err
returns-in-Err g c =
    record { store = unchanged_nothing.store; made = is_closed c.in-Err.field-0 (sym c.in-Err.ensures.answer) unchanged_nothing; fault = tt }

pub returns-in_err-leave : goal.returns-in_err-leave
returns-in_err-leave g c = not_changed _ _ c.from_residual.ensures c.in_err-leave.ensures.store c.in_err-leave.ensures.fault

pub returns : goal.returns
returns g c =
    let old = g.S.Sectors.state c.args.s.now in
    let new = g.S.Sectors.state c.leave.new.s in
    record {
      store = c.in_ok-leave.ensures.store;
      made = was_open c.in-Ok.descriptor (sym c.in-Ok.ensures.answer)
          (subst (λ (n : ℕ). LeavesInode c.args.geometry n (is_open (users_of (ended (both c.args.procs.now c.args.openings.now.0) c.args.pid)) n) old new)
          (ap (λ (d : Descriptor). d.ino) c.descriptor.view_is)
          (subst (λ b. LeavesInode c.args.geometry c.descriptor.inside.ino b old new) c.stays_open_without-stays_open.ensures c.in_ok-leave.ensures.leaves));
      fault = tt;
    }
