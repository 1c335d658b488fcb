-- What the images that a disk may leave stand for.
--     StandsFor, StandsForSome        an image stands for a tree
--     HasPartsAt        where the parts of a disk lie on an image
--     StandsAs, StandsAsPruned        an image stands for what another one stands for
--     EachStandsFor, EachStandsForSome, Covers        each image that a stop may leave stands for a tree, for some, or for one
--             of several
--     HasFinding        why a disk stands for no tree, as a check finds it
use Rattle.std.specs.Prelude.{◌≡◌, ℕ, List, length, Contains}
use Rattle.sector_disk.specs.Disk.{DiskState, Image, sector, IsImage, OnlyReads}
use Rattle.fs_layout.specs.declared.geometry.Geometry.{Geometry}
use Rattle.fs_model.specs.Trees.{Tree, Room}
use Rattle.fs_model.specs.TreeChanges.{pruned}
use Rattle.fs_model.specs.Stands.{Stands}
use Rattle.fs_model.specs.Rules.{IsFinding}

-- an image of a disk stands for the tree, in this room, with so many free sectors
abbrev pub StandsFor : Room → Image → Tree → ℕ → Type 0
StandsFor room image t free = Stands (length image) (sector image) room t free

-- an image stands for some tree
abbrev pub StandsForSome : Image → Type 0
StandsForSome image = (room : Room) × (t : Tree) × (free : ℕ) × StandsFor room image t free

-- whatever the image stands for, it does so with its parts there
abbrev pub HasPartsAt : Image → Geometry → Type 0
HasPartsAt image geometry = (room : Room) (t : Tree) (free : ℕ) → (stands : StandsFor room image t free) → stands.geometry ≡ geometry

-- what the one stands for, the other stands for too
abbrev pub StandsAs : Image → Image → Type 0
StandsAs from image = (room : Room) (t : Tree) (free : ℕ) → StandsFor room from t free → StandsFor room image t free

-- what the one stands for, the other stands for too, but for files without names
abbrev pub StandsAsPruned : Image → Image → Type 0
StandsAsPruned from image =
    (room : Room) (t : Tree) (free : ℕ) → StandsFor room from t free
    → (u : Tree) × (left : ℕ) × StandsFor room image u left × (pruned u ≡ pruned t)

-- each image that a stop may leave stands for the tree
abbrev pub EachStandsFor : Room → DiskState → Tree → Type 0
EachStandsFor room disk t = (image : Image) → IsImage disk image → (free : ℕ) × StandsFor room image t free

-- each stands for some tree
abbrev pub EachStandsForSome : DiskState → Type 0
EachStandsForSome disk = (image : Image) → IsImage disk image → StandsForSome image

-- each stands for one of the trees, but for files without names
abbrev pub Covers : Room → List Tree → DiskState → Type 0
Covers room trees disk =
    (image : Image) → IsImage disk image
    → (t : Tree) × (free : ℕ) × StandsFor room image t free × (u : Tree) × Contains trees u × (pruned t ≡ pruned u)

-- The disk stands for no tree: this is the first rule that fails, at its least number. It was only read.
pub record HasFinding (before now : DiskState) (rule at : ℕ) : Type 0 where
  pub finding : IsFinding before.size (sector before.seen) rule at
  pub reads : OnlyReads before now
