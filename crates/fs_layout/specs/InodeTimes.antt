-- The times of an inode.
--     DiffersInTimes        w is v but for its times
use Rattle.std.specs.Prelude.{◌≡◌}
use Rattle.fs_layout.specs.declared.inode.Inode.{Inode}

abbrev pub DiffersInTimes : Inode → Inode → Type 0
DiffersInTimes v w = w ≡ record v { mtime = w.mtime; ctime = w.ctime; atime = w.atime }
