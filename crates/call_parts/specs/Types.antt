-- The type of what stands at a number.
--     type_in        in a tree
--     FindsType, FindsTypes        on a disk, at one number and at two
use Rattle.std.specs.Prelude.{◌≡◌, ℕ, Option, Result, IfOk, IfErr}
use Rattle.std.specs.Option.{option_map}
use Rattle.sector_disk.specs.Disk.{HasFailed}
use Rattle.fs_cred.specs.declared.errno.Errno.{Errno}
use Rattle.fs_cred.specs.declared.errno.Errno.TheVariants.{EIO}
use Rattle.fs_layout.specs.declared.geometry.Geometry.{Geometry}
use Rattle.sector_txn.specs.Sectors.{TxnState, IsUnchanged}
use Rattle.fs_model.specs.declared.reply.FileType.{FileType}
use Rattle.fs_model.specs.Nodes.{type_of}
use Rattle.fs_model.specs.Trees.{Tree, node_at}
use Rattle.path_walk.specs.HeldTrees.{HoldsTree}

abbrev pub type_in : Tree → ℕ → Option FileType
type_in t n = option_map (λ node. type_of node.body) (node_at t n)

-- what stands at n is of this type in each tree that the disk may hold; or a read has failed
pub record FindsType (p : Geometry) (n : ℕ) (old new : TxnState) (result : Result (Option FileType) Errno) : Type 0 where
  pub found : IfOk result (λ found. (t : Tree) → HoldsTree p old.sectors t → found ≡ type_in t n)
  pub fault : IfErr result (λ errno. (errno ≡ EIO) × HasFailed old.disk new.disk)
  pub same : IsUnchanged old new

-- the same of two numbers
pub record FindsTypes (p : Geometry) (n m : ℕ) (old new : TxnState) (result : Result (Option FileType × Option FileType) Errno) : Type 0 where
  pub found : IfOk result (λ found. (t : Tree) → HoldsTree p old.sectors t → (found.0 ≡ type_in t n) × (found.1 ≡ type_in t m))
  pub fault : IfErr result (λ errno. (errno ≡ EIO) × HasFailed old.disk new.disk)
  pub same : IsUnchanged old new
