use Rattle.std.proofs.Common.{refl, subst}
use Rattle.dir_core.specs.Slots.{IsFoundIn}
use Rattle.dir_core.proofs.Changing.{slots_after_reads}
use Rattle.dir_core.proofs.Scans.{within_later}
use Rattle.bit_alloc.proofs.Passing.{fault_on, no_fault}
use Rattle.block_map.proofs.Runs.{unchanged_joined}
use Rattle.dir_core.proofs.names.find_slot.Goals as goal

pub find_by_blocks-requires-2-clause-within : goal.find_by_blocks-requires-2-clause-within
find_by_blocks-requires-2-clause-within g c = within_later c.in_ok-found-2.ensures.same c.args.inode.now c.args.inode.now refl c.requires.within

pub returns-in-Some-2-clause-found : goal.returns-in-Some-2-clause-found
returns-in-Some-2-clause-found g c = λ slots h.
    subst (IsFoundIn slots c.args.name.now) c.in-Some-2.is (c.in_ok-found-3.ensures.found slots (slots_after_reads c.in_ok-found-2.ensures.same h))

pub returns-in_err-found-3-clause-same : goal.returns-in_err-found-3-clause-same
returns-in_err-found-3-clause-same g c = unchanged_joined c.in_ok-found-2.ensures.same c.in_err-found-3.ensures.same

pub returns-in_err-found-3-clause-cause : goal.returns-in_err-found-3-clause-cause
returns-in_err-found-3-clause-cause g c = fault_on c.in_ok-found-2.ensures.same.store c.in_err-found-3.ensures.cause c.from_residual-in_err-found-3.result c.from_residual-in_err-found-3.ensures

pub returns-in-Some-2-clause-same : goal.returns-in-Some-2-clause-same
returns-in-Some-2-clause-same g c = unchanged_joined (unchanged_joined c.in_ok-found-2.ensures.same c.in_ok-found-3.ensures.same) c.leave_hint.ensures

pub returns-in-Some-2-clause-cause : goal.returns-in-Some-2-clause-cause
returns-in-Some-2-clause-cause g c = no_fault (unchanged_joined (unchanged_joined c.in_ok-found-2.ensures.same c.in_ok-found-3.ensures.same) c.leave_hint.ensures).store

pub returns-clause-same : goal.returns-clause-same
returns-clause-same g c = unchanged_joined (unchanged_joined c.in_ok-found-2.ensures.same c.in_ok-found-3.ensures.same) c.leave_hint-2.ensures

pub returns-clause-cause : goal.returns-clause-cause
returns-clause-cause g c = no_fault (unchanged_joined (unchanged_joined c.in_ok-found-2.ensures.same c.in_ok-found-3.ensures.same) c.leave_hint-2.ensures).store
