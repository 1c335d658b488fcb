-- What a mount does to files without names: a stop may leave some that were removed while they were open.
--     IsStored        a map holds a tree, on a disk that is laid out so
--     StandsPruned        an image stands for a tree, but for files without names
--     HasTree        a store's map holds a tree, and a stop leaves no other, but for files without names
--     IsNamedBelow        what stands at the numbers below has a name
--     FreesNameless        the numbers up to one more are done with
--     KeepsTree        what a stop leaves at any moment
use Rattle.std.specs.Prelude.{◌≡◌, ◌≢◌, ℕ, ◌+◌, ◌≤◌, Some}
use Rattle.sector_disk.specs.Disk.{DiskState, Image, IsImage, LeavesOnly}
use Rattle.fs_layout.specs.declared.geometry.Geometry.{Geometry}
use Rattle.fs_layout.specs.Bytes.{SectorMap}
use Rattle.fs_model.specs.TreeChanges.{pruned}
use Rattle.fs_model.specs.Limits.{root}
use Rattle.fs_model.specs.Nodes.{Node}
use Rattle.fs_model.specs.Stands.{room_of}
use Rattle.fs_model.specs.Trees.{Tree, Room, node_at, names_of}
use Rattle.path_walk.specs.HeldTrees.{HoldsTree}
use Rattle.fs_system.specs.Layouts.{IsDiskOf}
use Rattle.fs_images.specs.Standing.{StandsFor}

-- a map of a disk of so many sectors is laid out so, and holds the tree
pub record IsStored (size : ℕ) (p : Geometry) (map : SectorMap) (t : Tree) : Type 0 where
  pub disk_is : IsDiskOf size p map
  pub holds : HoldsTree p map t

-- the image stands for the tree, but for files without names
abbrev pub StandsPruned : Room → Tree → Image → Type 0
StandsPruned room t image = (u : Tree) × (free : ℕ) × StandsFor room image u free × (pruned u ≡ pruned t)

-- The map holds the tree, and each image that a stop may leave stands for it, but for files without names.
pub record HasTree (p : Geometry) (map : SectorMap) (disk : DiskState) (t : Tree) : Type 0 where
  pub stored : IsStored disk.size p map t
  pub images : (image : Image) → IsImage disk image → StandsPruned (room_of p) t image

-- what stands at a number below k, but for the root, has a name
abbrev pub IsNamedBelow : ℕ → Tree → Type 0
IsNamedBelow k t = (n : ℕ) (node : Node) → node_at t n ≡ Some node → names_of t n ≡ 0 → n ≢ root → k ≤ n

-- The new map holds what is left of each tree that the old one held. Where all below n had names, so has all up to n then.
abbrev pub FreesNameless : Geometry → ℕ → SectorMap → DiskState → SectorMap → DiskState → Type 0
FreesNameless p n map disk map' disk' =
    (t : Tree) → HasTree p map disk t
    → (u : Tree) × HasTree p map' disk' u × (pruned u ≡ pruned t) × (IsNamedBelow n t → IsNamedBelow (n + 1) u)

-- at any moment a stop leaves what stands for the tree that the map held, but for files without names
abbrev pub KeepsTree : Geometry → SectorMap → DiskState → DiskState → Type 0
KeepsTree p map old new = (t : Tree) → HasTree p map old t → LeavesOnly old new (StandsPruned (room_of p) t)
