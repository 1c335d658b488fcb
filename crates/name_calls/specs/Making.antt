-- What making something of a new name asks, and what it promises.
--     HasNewName        the name that was found is new in a directory
--     Makes        a node of that name, or why not
use Rattle.std.specs.Prelude.{ℕ, Result, OnOk}
use Rattle.fs_cred.specs.Credentials.{Credential}
use Rattle.fs_cred.specs.declared.refusal.Refusal.{Refusal}
use Rattle.fs_layout.specs.declared.geometry.Geometry.{Geometry}
use Rattle.sector_txn.specs.Sectors.{TxnState, SameStore}
use Rattle.bit_alloc.specs.Inodes.{IsSound}
use Rattle.bit_alloc.specs.Room.{HasSpare, TakesSpare}
use Rattle.fs_model.specs.declared.walk.Found.{Found}
use Rattle.fs_model.specs.Nodes.{Node}
use Rattle.fs_model.specs.Trees.{Tree}
use Rattle.path_walk.specs.HeldTrees.{HoldsTree}
use Rattle.call_parts.specs.NewNodes.{IsNewIn, IsMade}

-- all that a call may put can be put, and the name is new in a directory of the tree
pub record HasNewName (p : Geometry) (txn : TxnState) (f : Found) : Type 0 where
  pub sound : IsSound p txn
  pub spare : HasSpare p 47 txn
  pub name : (t : Tree) × HoldsTree p txn.sectors t × IsNewIn p t f.dir_ino f.name

-- This caller has made the node that the tree gives, of the name that was found, at the number that it answers; or why not.
pub record Makes (p : Geometry) (cred : Credential) (f : Found) (node : Tree → Node) (old new : TxnState) (result : Result ℕ Refusal) : Type 0 where
  pub store : SameStore old new
  pub each : (t : Tree) → HoldsTree p old.sectors t → IsNewIn p t f.dir_ino f.name → IsMade p old new cred t f (node t) result
  pub taken : OnOk result (TakesSpare p 7 old new)
