-- What is made of a new name, or nothing.
--     makes_broken        memory is lacking, or the disk has failed
--     makes_refused        what is asked of the directory refuses
--     makes_node        it is made
use Rattle.std.specs.Prelude.{◌≡◌, ℕ, ◌-◌, None, IsErr, IsErrAnd, Result, Ok, Err}
use Rattle.std.proofs.Common.{inr, subst}
use Rattle.fs_cred.specs.Credentials.{Credential}
use Rattle.fs_cred.specs.declared.refusal.Refusal.{Refusal}
use Rattle.fs_layout.specs.declared.geometry.Geometry.{Geometry}
use Rattle.fs_layout.specs.Bytes.{SectorMap}
use Rattle.sector_txn.specs.Sectors.{TxnState, SameStore, IsUnchanged}
use Rattle.sector_txn.proofs.TransactionRuns.{store_joined}
use Rattle.bit_alloc.specs.Room.{TakesSpare}
use Rattle.fs_model.specs.declared.walk.Found.{Found}
use Rattle.fs_model.specs.Demands.{first_of}
use Rattle.fs_model.specs.Nodes.{Node}
use Rattle.fs_model.specs.Trees.{Tree, IsDirectoryAt}
use Rattle.path_walk.specs.Answers.{refused_or, Interrupts, IsAnswered}
use Rattle.path_walk.specs.HeldTrees.{HoldsTree}
use Rattle.path_walk.proofs.Kept.{kept_back, on_err}
use Rattle.call_parts.specs.Altering.{AltersDisk}
use Rattle.call_parts.specs.Makings.{make_asked}
use Rattle.call_parts.specs.NewNodes.{IsNewIn, IsMade, MakesNode}
use Rattle.call_parts.proofs.NewNames.{not_made, not_allowed}
use Rattle.call_parts.proofs.Removed.{taken_after}
use Rattle.name_calls.specs.Making.{Makes}

module _ {p : Geometry} {who : Credential} {f : Found} {node : Tree → Node} {old new : TxnState} (r : Result ℕ Refusal) (e : Refusal) (err : IsErr r × IsErrAnd r (λ y. y ≡ e))
    (store : SameStore old new) where
  makes_nothing : ((t : Tree) → HoldsTree p old.sectors t → IsNewIn p t f.dir_ino f.name → IsMade p old new who t f (node t) r) → Makes p who f node old new r
  makes_nothing each = record { store = store; each = each; taken = on_err (TakesSpare p 7 old new) r err.0 }

  pub makes_broken : Interrupts old.disk new.disk e → Makes p who f node old new r
  makes_broken way = makes_nothing (λ t h i. not_made p old new who t f (node t) r e err (inr way))

  pub makes_refused : {cred : Credential} {step : ℕ} → cred ≡ who → step ≡ f.step - 1 → {B : Type 0} (x : B)
      → ((t : Tree) → HoldsTree p old.sectors t → IsDirectoryAt t f.dir_ino
      → IsAnswered old.disk new.disk (refused_or {A = B} (first_of (make_asked p old.sectors cred t f.dir_ino step)) (Ok x)) (Err e))
      → Makes p who f node old new r
  makes_refused same count {B} x each = makes_nothing (λ t h i. not_allowed p old new who t f (node t) same count r e err {B = B} x (each t h i.directory))

-- what was made since reads is the node that the tree gives
pub makes_node : {p : Geometry} {who : Credential} {f : Found} {node : Tree → Node} {made : Node} {old mid new : TxnState} (n : ℕ) → IsUnchanged old mid
    → AltersDisk p 7 (λ (k : ℕ). MakesNode p f.dir_ino f.name k made) mid new (Ok n)
    → ((t : Tree) → HoldsTree p old.sectors t → IsNewIn p t f.dir_ino f.name → (first_of (make_asked p old.sectors who t f.dir_ino (f.step - 1)) ≡ None) × (made ≡ node t))
    → Makes p who f node old new (Ok n)
makes_node {p} {who} {f} {node} {made} {old} {mid} {new} n same done each = record {
  store = store_joined same.store done.store;
  each = λ t h i.
      let x = each t h i in (
        x.0,
        kept_back (λ (m : SectorMap). MakesNode p f.dir_ino f.name n (node t) m new.sectors) same (subst (λ (k : Node). MakesNode p f.dir_ino f.name n k mid.sectors new.sectors) x.1 done.made),
      );
  taken = taken_after p 7 new same done.taken;
}
