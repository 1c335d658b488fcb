use Rattle.std.proofs.Common.{arith}
use Rattle.call_parts.proofs.Alterings.{not_changed_later}
use Rattle.file_calls.proofs.Endings.{leaving_begun, leaving_on, leaving_done, open_number}
use Rattle.file_calls.proofs.process.leave_all.Goals as goal

pub loop-fd-init : goal.loop-fd-init
loop-fd-init g c = leaving_begun c.requires.ready.sound c.requires.ready.spare

pub leave_descriptor-requires : goal.leave_descriptor-requires
leave_descriptor-requires g c =
    let room = c.loop-fd.invariant.spare in
    let low = c.loop-fd-test.true in
    let ready = c.requires.ready in
    record {
      ready = record { sound = c.loop-fd.invariant.sound; spare = omega (arith, room, low) };
      found = c.requires.found;
      number = open_number c.args.pid c.loop-fd.fd ready.state ready.is_state;
    }

pub loop-fd-preserved : goal.loop-fd-preserved
loop-fd-preserved g c =
    leaving_on c.loop-fd-test.true c.loop-fd.invariant c.in_ok-leave_descriptor.ensures.store c.in_ok-leave_descriptor.ensures.made

pub returns-in_err-leave_descriptor : goal.returns-in_err-leave_descriptor
returns-in_err-leave_descriptor g c =
    not_changed_later _ _ c.from_residual.ensures c.loop-fd.invariant.store c.in_err-leave_descriptor.ensures.store c.in_err-leave_descriptor.ensures.fault

pub returns : goal.returns
returns g c = record {
  store = c.loop-fd.invariant.store;
  made = record {
    super = c.loop-fd.invariant.super;
    held = λ st at.
        let all = c.loop-fd-test.false in
        leaving_done c.requires.found (omega (arith, all)) c.loop-fd.invariant st at;
  };
  fault = tt;
}
