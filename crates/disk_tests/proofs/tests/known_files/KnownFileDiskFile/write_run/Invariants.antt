use Rattle.sector_disk.specs.Files.{IsRunTried}
use Rattle.disk_tests.specs.Writes.{kept_held}
use Rattle.disk_tests.proofs.KnownFiles.{HasBegun}
use Rattle.disk_tests.proofs.tests.known_files.KnownFileDiskFile.write_run.Given as goal

abbrev pub invariant-loop-i : goal.invariant-loop-i
invariant-loop-i l =
    let was = kept_held l.initial.self.kept.now.stable.items l.initial.self.kept.now.writes.items in
    let is = kept_held l.self.kept.now.stable.items l.self.kept.now.writes.items in
    record {
      tried : IsRunTried l.first l.run was is;
      begun : HasBegun l.first l.i l.run is;
    }
