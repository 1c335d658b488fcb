-- An inode is freed: its bit is cleared, its blocks and the sectors of its ACLs are given back, and zeros are written.
--     IsFreed        what is so then
--     cleared_puts, given_puts, access_puts, default_puts        what has been put so far
--     may_change_then        between, the inode may be changed
--     all_freed        the whole
use Rattle.std.proofs.Common.{◌≡◌, ◌≢◌, ℕ, ◌+◌, ◌/◌, false, [], None, refl, sym, ap, subst, ◌∙◌, arith}
use Rattle.fs_layout.specs.declared.inode.TheConstants.{DIRECT_BLOCKS, POINTER_LEVELS}
use Rattle.fs_layout.specs.declared.inode.Inode.{Inode}
use Rattle.fs_layout.specs.declared.inode.Kind.TheVariants as kinds
use Rattle.fs_layout.specs.declared.geometry.Geometry.{Geometry}
use Rattle.fs_layout.specs.Bytes.{zeros}
use Rattle.fs_layout.specs.Inode.{FitsInode, free_inode}
use Rattle.fs_layout.specs.Images.{AccessAcl, DefaultAcl, part, bit, inode_at}
use Rattle.fs_layout.specs.Ownership.{IsConsistent}
use Rattle.fs_layout.specs.InodeChanges.{IsOwnedApart, MarksInode, ChangesBlocks, ChangesInode, Saves}
use Rattle.fs_layout.proofs.Composes.{apart_after, both_changes}
use Rattle.fs_layout.proofs.Consistent.{owned_is_apart, stays_consistent, saved_stays_consistent}
use Rattle.fs_layout.proofs.Free.{HasNoSector, free_fits, free_has_no_sector, inode_fits_there, no_sector_changes}
use Rattle.fs_layout.proofs.Marks.{marks_change}
use Rattle.fs_layout.proofs.Pointers.{turns_acl, turns_default_acl}
use Rattle.fs_layout.proofs.Saves.{IsSaved}
use Rattle.fs_layout.proofs.SplicedBytes.{get_or-zeros}
use Rattle.fs_layout.proofs.Bits.{inode_has_bit}
use Rattle.sector_txn.specs.Sectors.{TxnState, IsUnchanged, PutsOnly}
use Rattle.sector_txn.proofs.TransactionRuns.{changes_joined}
use Rattle.bit_alloc.specs.declared.bitmap.Bitmap.TheVariants.{Inodes}
use Rattle.bit_alloc.specs.Bitmaps.{HasBitmaps, IsNumber, GivesNumber}
use Rattle.bit_alloc.specs.Room.{bitmaps}
use Rattle.bit_alloc.specs.Inodes.{IsSound, IsSectorFor, Touches}
use Rattle.bit_alloc.proofs.Soundness.{free_kept, touched}
use Rattle.bit_alloc.proofs.Transactions.{map_unchanged}
use Rattle.inode_table.specs.Storing.{IsForAcl, GivesBack}
use Rattle.inode_table.proofs.Sound.{puts_nothing, puts_acl, puts_inode_bit, puts_inode}
use Rattle.inode_table.proofs.Stores.{HasStored, stored}
use Rattle.block_map.specs.Drops.{GivesParts, IsFor, emptied}
use Rattle.block_map.specs.Steps.{MayChange}
use Rattle.block_map.proofs.Givings.{emptied_blocks}
use Rattle.block_map.proofs.Saving.{puts_steps}

pub record IsFreed (p : Geometry) (n : ℕ) (old new : TxnState) : Type 0 where
  pub touches : Touches p n 0 1 old new
  pub free : inode_at p new.sectors n ≡ free_inode
  pub unused : bit new.sectors p.inode_bitmap n ≡ false

module _ {p : Geometry} {n : ℕ} {v : Inode} {t0 t1 t2 : TxnState} (sound : IsSound p t0) (number : IsNumber p Inodes n)
    (is : v ≡ inode_at p t0.sectors n) (read : IsUnchanged t0 t1) (given : GivesNumber p Inodes n t1.sectors t2.sectors)
    (bit_put : PutsOnly (λ t. t ≡ p.inode_bitmap + n / 4096) (bitmaps p) 0 t1 t2) where
  pub cleared_puts : PutsOnly (IsSectorFor p n) (bitmaps p) 0 t0 t2
  cleared_puts = changes_joined (puts_nothing p read) (puts_inode_bit n n sound.consistent.geometry number.1 bit_put)

  mark : MarksInode p n t0.sectors t2.sectors
  mark = subst (λ m. MarksInode p n m t2.sectors) (sym (map_unchanged read)) given.mark

  cleared : ChangesInode p n t0.sectors t2.sectors × (inode_at p t2.sectors n ≡ inode_at p t0.sectors n)
  cleared = marks_change sound.consistent number.1 mark

  then : IsConsistent p t2.sectors
  then = stays_consistent sound.consistent number.1 cleared.0

  pub may_change_then : (inode_at p t0.sectors n).kind ≢ kinds.Free → HasBitmaps p t2 → MayChange p t2 v
  may_change_then used tables = record {
    bitmaps = tables;
    apart = subst (λ (u : Inode). IsOwnedApart p t2.sectors u) (cleared.1 ∙ sym is) (owned_is_apart then n number.1);
    fits = subst FitsInode (cleared.1 ∙ sym is) (inode_fits_there then n number.1);
    used = λ e. used (ap (λ (u : Inode). u.kind) (sym is) ∙ e);
  }

  module _ {t3 : TxnState} (all : GivesParts p v (IsFor 0) t2 t3) where
    pub given_puts : PutsOnly (IsSectorFor p n) (bitmaps p) 0 t0 t3
    given_puts = changes_joined cleared_puts (puts_steps p n all.puts)

    module _ {t4 : TxnState} (access_put : PutsOnly (IsForAcl p 0) (bitmaps p) 0 t3 t4) where
      pub access_puts : PutsOnly (IsSectorFor p n) (bitmaps p) 0 t0 t4
      access_puts = changes_joined given_puts (puts_acl p n access_put)

      module _ {t5 : TxnState} (default_put : PutsOnly (IsForAcl p 0) (bitmaps p) 0 t4 t5) where
        pub default_puts : PutsOnly (IsSectorFor p n) (bitmaps p) 0 t0 t5
        default_puts = changes_joined access_puts (puts_acl p n default_put)

        module _ (t6 : TxnState) (may : MayChange p t2 v) (access : GivesBack p v.acl t3.sectors t4.sectors) (default : GivesBack p v.default_acl t4.sectors t5.sectors)
            (saves : Saves p n free_inode t5.sectors t6.sectors) where
          blocks : ChangesBlocks p v (emptied v) t2.sectors t3.sectors
          blocks = emptied_blocks then.geometry may.apart all

          second : HasStored p (emptied v) (record (emptied v) { acl = 0 }) AccessAcl 0 t3.sectors t4.sectors
          unfolding part
          second =
              stored {x = v.acl} then.geometry all.tables.tables (apart_after then.geometry may.apart blocks.owned) refl {y = 0} None (λ m i e. cc) (λ c e. cc)
              (refl, access) (λ keeps. turns_acl t3.sectors t4.sectors (emptied v) v.acl 0 refl keeps)

          both : ChangesBlocks p v (record (emptied v) { acl = 0 }) t2.sectors t4.sectors
          both = both_changes then.geometry blocks second.changes

          third : HasStored p (record (emptied v) { acl = 0 }) (record (emptied v) { acl = 0; default_acl = 0 }) DefaultAcl 0 t4.sectors t5.sectors
          unfolding part
          third =
              let between : Inode = record (emptied v) { acl = 0 } in
              stored {x = v.default_acl} then.geometry second.changes.owned.sectors (apart_after then.geometry may.apart both.owned) refl {y = 0} None (λ m i e. cc) (λ c e. cc)
              (refl, default) (λ keeps. turns_default_acl t4.sectors t5.sectors between v.default_acl 0 refl keeps)

          none : HasNoSector (record (emptied v) { acl = 0; default_acl = 0 })
          unfolding zeros
          none = record { acl = refl; default_acl = refl; direct = get_or-zeros DIRECT_BLOCKS; indirect = get_or-zeros POINTER_LEVELS }

          frees : ChangesBlocks p v free_inode t2.sectors t5.sectors
          frees =
              let all_three = both_changes then.geometry both third.changes in
              both_changes then.geometry all_three
              (no_sector_changes then.geometry third.changes.owned.sectors (apart_after then.geometry may.apart all_three.owned) none free_has_no_sector)

          ended : IsConsistent p t6.sectors × IsSaved p n free_inode t2.sectors t5.sectors t6.sectors
          ended = saved_stays_consistent then number.1 (cleared.1 ∙ sym is) free_fits frees saves

          pub all_freed : PutsOnly (λ t. t ≡ p.table + n / 4) [] 1 t5 t6 → IsFreed p n t0 t6
          all_freed inode_put =
              let puts : PutsOnly (IsSectorFor p n) (bitmaps p) 1 t0 t6 = changes_joined default_puts (puts_inode p n inode_put) in
              let same = free_kept p n t0.sectors t2.sectors mark in
              let f = all.free in
              let a = second.free in
              let d = third.free in
              let e = ended.1.free in
              record {
                touches = touched then.geometry puts cleared.0 ended.1.changes (omega (arith, same, f, a, d, e));
                free = ended.1.is;
                unused = ended.1.inode_bits n (inode_has_bit then.geometry n number.1) ∙ given.clear;
              }
