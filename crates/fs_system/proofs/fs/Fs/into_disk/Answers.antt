use Rattle.call_parts.specs.BothTables.{both}
use Rattle.fs_system.proofs.Played.{has_disk, disk_given, disk_mounts}
use Rattle.fs_system.proofs.fs.Fs.into_disk.Goals as goal

pub into_disk-requires : goal.into_disk-requires
into_disk-requires g c = has_disk g.D.Disk.state c.self.inside.base c.self.inside.geometry (both c.self.inside.procs c.self.inside.openings.0) c.self.inside.time c.self.invariant

pub returns-clause-disk : goal.returns-clause-disk
returns-clause-disk g c =
    disk_given g.D.Disk.state c.self.inside.base c.self.inside.geometry (both c.self.inside.procs c.self.inside.openings.0) c.self.inside.time c.into_disk.result c.into_disk.ensures c.args.self c.self.view_is

pub returns-clause-again : goal.returns-clause-again
returns-clause-again g c =
    disk_mounts g.D.Disk.state c.self.inside.base c.self.inside.geometry (both c.self.inside.procs c.self.inside.openings.0) c.self.inside.time c.into_disk.result c.into_disk.ensures c.self.invariant
