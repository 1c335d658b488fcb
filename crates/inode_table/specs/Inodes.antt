-- Inodes in the table.
--     DiffersInAttributes        what `save` may change
--     IsInodeOf        one that stands in the table
--     ClearAreFree        what the inode bitmap says
use Rattle.std.specs.Prelude.{◌≡◌, ℕ, ◌<◌, false}
use Rattle.fs_layout.specs.declared.inode.Inode.{Inode}
use Rattle.fs_layout.specs.declared.geometry.Geometry.{Geometry}
use Rattle.fs_layout.specs.Bytes.{SectorMap}
use Rattle.fs_layout.specs.Inode.{free_inode}
use Rattle.fs_layout.specs.Images.{bit, inode_at}

-- the inode stands in the table
abbrev pub IsInodeOf : Geometry → SectorMap → Inode → Type 0
IsInodeOf p image v = (n : ℕ) × (n < p.inodes) × (v ≡ inode_at p image n)

-- w is v but for mode, owner, group, count of names, parent and times
abbrev pub DiffersInAttributes : Inode → Inode → Type 0
DiffersInAttributes v w =
    w ≡ (record v { mode = w.mode; uid = w.uid; gid = w.gid; names = w.names; parent = w.parent; mtime = w.mtime; ctime = w.ctime; atime = w.atime })

-- an inode whose bit is clear is free
abbrev pub ClearAreFree : Geometry → SectorMap → Type 0
ClearAreFree p image = (n : ℕ) → n < p.inodes → bit image p.inode_bitmap n ≡ false → inode_at p image n ≡ free_inode
