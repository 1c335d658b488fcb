-- What a function that asks the disk asks of it, and what it promises. Nothing changes.
--     checked        what checks answer
--     ShowsTree, HasState, ShowsInode        a sound disk, and a tree, a state or an inode of it that is so
--     TellsAnswer        what is answered
--     TellsTree, TellsOf        what is answered of each tree, or of each other thing, that is so
--     ReadsInode        what is read of an inode
--     FoundThere        what was found is there
--     FindsWalked, scene_walked        both paths lead there, and what a call by these finds
use Rattle.std.specs.Prelude.{◌≡◌, ℕ, Some, Result, Ok, IfOk, IfErr}
use Rattle.fs_cred.specs.declared.refusal.Refusal.{Refusal}
use Rattle.fs_layout.specs.declared.geometry.Geometry.{Geometry}
use Rattle.fs_layout.specs.declared.inode.Inode.{Inode}
use Rattle.fs_layout.specs.Bytes.{SectorMap}
use Rattle.sector_txn.specs.Sectors.{TxnState, IsUnchanged}
use Rattle.bit_alloc.specs.Inodes.{IsSound}
use Rattle.inode_table.specs.Inodes.{IsInodeOf}
use Rattle.fs_model.specs.declared.walk.Found.{Found}
use Rattle.fs_model.specs.Demands.{Demand}
use Rattle.fs_model.specs.Scenes.{Scene}
use Rattle.fs_model.specs.States.{State}
use Rattle.fs_model.specs.Trees.{Tree}
use Rattle.path_walk.specs.Answers.{refused_or, Interrupts, IsAnswered}
use Rattle.path_walk.specs.HeldTrees.{HoldsTree, IsThere}
use Rattle.call_parts.specs.declared.reaching.Caller.{Caller}
use Rattle.call_parts.specs.declared.reaching.WalkedBoth.{WalkedBoth}
use Rattle.call_parts.specs.BothTables.{tables_of}
use Rattle.call_parts.specs.TwoPaths.{scene_with, FindsBoth}

abbrev pub Checked : Type 0
Checked = Result (Unit {0}) Refusal

-- the refusal of the demand, if it refuses
abbrev pub checked : Demand → Checked
checked d = refused_or {A = Unit {0}} d (Ok tt)

-- ---- what is asked of the disk

pub record ShowsTree (p : Geometry) (txn : TxnState) (So : Tree → Type 0) : Type 0 where
  pub sound : IsSound p txn
  pub there : (t : Tree) × HoldsTree p txn.sectors t × So t

pub record HasState (p : Geometry) (txn : TxnState) (So : State → Type 0) : Type 0 where
  pub sound : IsSound p txn
  pub found : (s : State) × So s

-- an inode of the table, which has something
pub record ShowsInode {B : Type 0} (p : Geometry) (txn : TxnState) (v : Inode) (Has : SectorMap → Inode → B → Type 0) : Type 0 where
  pub sound : IsSound p txn
  pub there : IsInodeOf p txn.sectors v
  pub has : (x : B) × Has txn.sectors v x

-- ---- what is promised

pub record TellsAnswer {A : Type 0} (answer : Result A Refusal) (old new : TxnState) (result : Result A Refusal) : Type 0 where
  pub each : IsAnswered old.disk new.disk answer result
  pub same : IsUnchanged old new

pub record TellsTree {A : Type 0} (p : Geometry) (So : Tree → Type 0) (answer : Tree → Result A Refusal) (old new : TxnState) (result : Result A Refusal) : Type 0 where
  pub each : (t : Tree) → HoldsTree p old.sectors t → So t → IsAnswered old.disk new.disk (answer t) result
  pub same : IsUnchanged old new

pub record TellsOf {A B : Type 0} (So : B → Type 0) (answer : B → Result A Refusal) (old new : TxnState) (result : Result A Refusal) : Type 0 where
  pub each : (x : B) → So x → IsAnswered old.disk new.disk (answer x) result
  pub same : IsUnchanged old new

-- f of what the inode has; or memory is lacking, or the disk has failed
pub record ReadsInode {A B : Type 0} (v : Inode) (Has : SectorMap → Inode → B → Type 0) (f : B → A) (old new : TxnState) (result : Result A Refusal) : Type 0 where
  pub found : IfOk result (λ y. (x : B) → Has old.sectors v x → y ≡ f x)
  pub interrupts : IfErr result (Interrupts old.disk new.disk)
  pub same : IsUnchanged old new

-- ---- what was found

abbrev pub FoundThere : Found → Tree → Type 0
FoundThere f t = (n : ℕ) → f.ino ≡ Some n → IsThere t n

abbrev pub FindsWalked : Caller → SectorMap → WalkedBoth → State → Type 0
FindsWalked c map w s = FindsBoth c.geometry map (tables_of c) w.process w.first w.second s

abbrev pub scene_walked : WalkedBoth → State → Scene
scene_walked w s = scene_with s w.process w.first w.second
