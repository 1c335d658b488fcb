-- What an inode has once the sector of one of its ACLs has turned and it is saved.
use Rattle.std.proofs.Common.{◌≡◌, ◌≢◌, ℕ, ◌+◌, ◌/◌, ◌<◌, [], refl, sym, subst, ◌∙◌, arith}
use Rattle.fs_layout.specs.declared.inode.Inode.{Inode}
use Rattle.fs_layout.specs.declared.geometry.Geometry.{Geometry}
use Rattle.fs_layout.specs.Bytes.{SectorMap}
use Rattle.fs_layout.specs.Inode.{FitsInode}
use Rattle.fs_layout.specs.Images.{levels, Part, Block, bit, inode_at}
use Rattle.fs_layout.specs.Ownership.{IsConsistent}
use Rattle.fs_layout.specs.InodeChanges.{Keeps, ChangesBlocks, Saves}
use Rattle.fs_layout.proofs.Blocks.{fields_change}
use Rattle.fs_layout.proofs.Composes.{apart_after, both_changes}
use Rattle.fs_layout.proofs.Consistent.{owned_is_apart, saved_stays_consistent}
use Rattle.fs_layout.proofs.Parts.{HasNoPointers}
use Rattle.fs_layout.proofs.Places.{after_map}
use Rattle.fs_layout.proofs.Saves.{IsSaved}
use Rattle.fs_layout.proofs.Bits.{inode_has_bit}
use Rattle.sector_txn.specs.Sectors.{TxnState, SameStore, PutsOnly}
use Rattle.sector_txn.proofs.TransactionRuns.{changes_joined}
use Rattle.bit_alloc.specs.Room.{bitmaps}
use Rattle.bit_alloc.specs.Inodes.{IsSound, Touches, KeepsBytes}
use Rattle.inode_table.specs.Storing.{IsForAcl}
use Rattle.bit_alloc.proofs.Soundness.{sound_after}
use Rattle.inode_table.proofs.Sound.{puts_acl, puts_inode}
use Rattle.inode_table.proofs.Saved.{fields_keep_bytes, saved_keeps_bytes}
use Rattle.inode_table.proofs.Stores.{HasStored, stored_keeps_bytes}

-- one after the other
pub bytes_joined : {old mid new : SectorMap} {v u w : Inode} → KeepsBytes old mid v u → KeepsBytes mid new u w → KeepsBytes old new v w
bytes_joined first then = record { bytes = λ held h. then.bytes held (first.bytes held h); whole = λ h. then.whole (first.whole h) }

-- what has come of it
pub record IsAclSaved (p : Geometry) (n : ℕ) (v w : Inode) (taken : ℕ) (t0 t1 t2 : TxnState) : Type 0 where
  pub is : inode_at p t2.sectors n ≡ w
  pub keeps : Keeps t1.sectors t2.sectors w
  pub bit_same : bit t2.sectors p.inode_bitmap n ≡ bit t0.sectors p.inode_bitmap n
  pub sound : SameStore t0 t2 → IsSound p t2
  pub touches : {x : ℕ} → PutsOnly (IsForAcl p x) (bitmaps p) 1 t0 t1 → PutsOnly (λ t. t ≡ p.table + n / 4) [] 1 t1 t2 → Touches p n taken 2 t0 t2
  pub bytes : KeepsBytes t0.sectors t2.sectors v (inode_at p t2.sectors n)

-- The sector is stored, which leaves u, and w is saved, which has the same sectors.
module _ (p : Geometry) (n : ℕ) (u w : Inode) (at : Part) (taken : ℕ) (t0 t1 t2 : TxnState)
    (sound : IsSound p t0) (lt : n < p.inodes) (st : HasStored p (inode_at p t0.sectors n) u at taken t0.sectors t1.sectors)
    (acl : w.acl ≡ u.acl) (default_acl : w.default_acl ≡ u.default_acl) (numbers : levels w ≡ levels u)
    (fits : FitsInode w) (saves : Saves p n w t1.sectors t2.sectors) where
  changes : ChangesBlocks p (inode_at p t0.sectors n) w t0.sectors t1.sectors
  changes =
      let h : IsConsistent p t0.sectors = sound.consistent in
      both_changes h.geometry st.changes (fields_change h.geometry st.changes.owned.sectors (apart_after h.geometry (owned_is_apart h n lt) st.changes.owned)
      acl default_acl numbers)

  saved : IsConsistent p t2.sectors × IsSaved p n w t0.sectors t1.sectors t2.sectors
  saved = saved_stays_consistent sound.consistent lt refl fits changes saves

  pub acl_saved : HasNoPointers at → ((k : ℕ) → Block k ≢ at) → u.size ≡ (inode_at p t0.sectors n).size → w.size ≡ u.size
      → IsAclSaved p n (inode_at p t0.sectors n) w taken t0 t1 t2
  acl_saved ne none size same =
      let from = after_map sound.consistent.geometry in
      let mid = bytes_joined (stored_keeps_bytes st ne none size) (fields_keep_bytes t1.sectors u w same numbers) in
      record {
        is = saved.1.is;
        keeps = saved.1.keeps;
        bit_same = saved.1.inode_bits n (inode_has_bit sound.consistent.geometry n lt);
        sound = λ store. sound_after sound store saved.0 (λ m low none. saved.1.inode_bits m low);
        touches = λ {x} acl_put inode_put. record {
          puts = changes_joined (puts_acl p n acl_put) (puts_inode p n inode_put);
          super = saves.others 0 (λ e. omega (arith, from, e)) ∙ st.low 0 (omega (arith, from));
          inode = saved.1.changes;
          free = let a = st.free in omega (arith, a, saved.1.free);
        };
        bytes = subst (λ (x : Inode). KeepsBytes t0.sectors t2.sectors (inode_at p t0.sectors n) x) (sym saved.1.is) (saved_keeps_bytes mid saved.1.keeps);
      }
