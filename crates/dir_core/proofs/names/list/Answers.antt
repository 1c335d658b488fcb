use Rattle.std.proofs.Common.{sym, subst, ◌∙◌}
use Rattle.fs_layout.specs.Directories.{HaveDistinctNames}
use Rattle.dir_core.proofs.Changing.{slots_there}
use Rattle.block_map.proofs.Runs.{unchanged_joined}
use Rattle.dir_core.proofs.Scans.{inode_within}
use Rattle.bit_alloc.proofs.Passing.{no_fault_of}
use Rattle.dir_core.proofs.names.list.Goals as goal

pub read_slots-requires-clause-within : goal.read_slots-requires-clause-within
read_slots-requires-clause-within g c = inode_within c.requires.sound c.requires.there

pub returns-clause-same : goal.returns-clause-same
returns-clause-same g c = unchanged_joined c.in_ok-slots.ensures.same c.leave_hints.ensures

pub returns-clause-cause : goal.returns-clause-cause
returns-clause-cause g c = no_fault_of (unchanged_joined c.in_ok-slots.ensures.same c.leave_hints.ensures).store

pub sort_by_name-requires : goal.sort_by_name-requires
sort_by_name-requires g c =
    let h = c.requires.directory.1 in
    subst HaveDistinctNames (sym (c.deref_mut.ensures.value ∙ c.in_ok-slots.ensures.found h.slots (slots_there h))) h.apart

pub read_slots-requires-clause-directory : goal.read_slots-requires-clause-directory
read_slots-requires-clause-directory g c = let h = c.requires.directory.1 in (h.slots, slots_there h)
