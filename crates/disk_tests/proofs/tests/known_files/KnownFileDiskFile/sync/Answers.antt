use Rattle.disk_tests.proofs.KnownFiles.{synced_narrows, synced_stable}
use Rattle.disk_tests.proofs.tests.known_files.KnownFileDiskFile.sync.Goals as goal

pub returns-clause-narrowed : goal.returns-clause-narrowed
returns-clause-narrowed c = synced_narrows _ _ c.sync.ensures

pub returns-clause-stable : goal.returns-clause-stable
returns-clause-stable c = synced_stable _ _ c.sync.ensures
