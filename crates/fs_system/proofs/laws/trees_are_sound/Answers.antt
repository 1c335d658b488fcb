use Rattle.sector_txn.specs.Stores.{txn_state}
use Rattle.fs_system.proofs.Soundness.{standing_is_sound, shown_is_sound}
use Rattle.fs_system.proofs.laws.trees_are_sound.Goals as goal

pub returns-clause-disks : goal.returns-clause-disks
returns-clause-disks g c = λ room t free disk. standing_is_sound room t free (g.D.Disk.state disk) (g.met.D.Disk.seen_is_image disk).size

pub returns-clause-shown : goal.returns-clause-shown
returns-clause-shown g c = λ p disk txn. shown_is_sound p (g.D.Disk.state disk) (txn_state g.D.Disk.state txn)
