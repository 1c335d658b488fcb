-- The calls by which an inode is freed, one after the other.
use Rattle.std.proofs.Common.{◌≡◌, ℕ, ◌+◌, ◌/◌, [], sym, subst, ◌∙◌, arith, false}
use Rattle.fs_layout.specs.declared.inode.Inode.{Inode}
use Rattle.fs_layout.specs.declared.geometry.Geometry.{Geometry}
use Rattle.fs_layout.specs.Inode.{free_inode}
use Rattle.fs_layout.specs.Images.{Holds, bit, inode_at}
use Rattle.fs_layout.specs.InodeChanges.{MarksInode, Saves}
use Rattle.fs_layout.proofs.Bits.{inode_has_bit}
use Rattle.sector_txn.specs.Sectors.{TxnState, IsUnchanged, PutsOnly}
use Rattle.sector_txn.proofs.TransactionRuns.{changes_joined}
use Rattle.bit_alloc.specs.declared.bitmap.Bitmap.TheVariants.{Inodes}
use Rattle.bit_alloc.specs.Bitmaps.{IsNumber, GivesNumber}
use Rattle.bit_alloc.specs.Room.{bitmaps}
use Rattle.bit_alloc.specs.Inodes.{IsSound, Touches}
use Rattle.bit_alloc.proofs.Transactions.{map_unchanged}
use Rattle.inode_table.specs.Storing.{IsForAcl, IsForSaving, GivesBack}
use Rattle.inode_table.proofs.Freed.{freed_consistent, freed_changes, freed_is, freed_bits, freed_free_sectors, freed_super}
use Rattle.bit_alloc.proofs.Soundness.{sound_after}
use Rattle.inode_table.proofs.Sound.{puts_nothing, puts_saving, puts_saved, puts_inode_map}

-- what has come of it
pub record IsFreed (p : Geometry) (n : ℕ) (old new : TxnState) : Type 0 where
  pub sound : IsSound p new
  pub touches : Touches p n 0 1 old new
  pub puts : PutsOnly (IsForSaving p n 0) (bitmaps p) 1 old new
  pub free : inode_at p new.sectors n ≡ free_inode
  pub unused : bit new.sectors p.inode_bitmap n ≡ false

-- ---- what has been put so far
module _ {p : Geometry} {n : ℕ} {t0 t1 t2 : TxnState} (sound : IsSound p t0) (number : IsNumber p Inodes n)
    (read : IsUnchanged t0 t1) (bit_put : PutsOnly (λ t. t ≡ p.inode_bitmap + n / 4096) (bitmaps p) 0 t1 t2) where
  pub puts_2 : PutsOnly (IsForAcl p 0) (bitmaps p) 0 t0 t2
  puts_2 = changes_joined (puts_nothing p read) (puts_inode_map n sound.consistent.geometry number.1 bit_put)

  module _ {t3 : TxnState} (access_put : PutsOnly (IsForAcl p 0) (bitmaps p) 0 t2 t3) where
    pub puts_3 : PutsOnly (IsForAcl p 0) (bitmaps p) 0 t0 t3
    puts_3 = changes_joined puts_2 access_put

    module _ {t4 : TxnState} (default_put : PutsOnly (IsForAcl p 0) (bitmaps p) 0 t3 t4) where
      pub puts_4 : PutsOnly (IsForAcl p 0) (bitmaps p) 0 t0 t4
      puts_4 = changes_joined puts_3 default_put

      module _ {t5 : TxnState} (inode_put : PutsOnly (λ t. t ≡ p.table + n / 4) [] 1 t4 t5) where
        pub puts_5 : PutsOnly (IsForSaving p n 0) (bitmaps p) 1 t0 t5
        puts_5 = puts_saving p n 0 puts_4 inode_put

-- ---- what has come of it
module _ (p : Geometry) (n : ℕ) (v : Inode) (t0 t1 t2 t3 t4 t5 : TxnState) (sound : IsSound p t0) (number : IsNumber p Inodes n)
    (empty : Holds t0.sectors (inode_at p t0.sectors n) []) (is : v ≡ inode_at p t0.sectors n) (read : IsUnchanged t0 t1)
    (given : GivesNumber p Inodes n t1.sectors t2.sectors) (access : GivesBack p v.acl t2.sectors t3.sectors)
    (default : GivesBack p v.default_acl t3.sectors t4.sectors) (saves : Saves p n free_inode t4.sectors t5.sectors)
    (puts : PutsOnly (IsForSaving p n 0) (bitmaps p) 1 t0 t5) where
  mark : MarksInode p n t0.sectors t2.sectors
  mark = subst (λ m. MarksInode p n m t2.sectors) (sym (map_unchanged read)) given.mark

  access_back : GivesBack p (inode_at p t0.sectors n).acl t2.sectors t3.sectors
  access_back = subst (λ (u : Inode). GivesBack p u.acl t2.sectors t3.sectors) is access

  default_back : GivesBack p (inode_at p t0.sectors n).default_acl t3.sectors t4.sectors
  default_back = subst (λ (u : Inode). GivesBack p u.default_acl t3.sectors t4.sectors) is default

  free_is : inode_at p t5.sectors n ≡ free_inode
  free_is = freed_is sound.consistent number.1 empty mark access_back default_back saves

  free_unused : bit t5.sectors p.inode_bitmap n ≡ false
  free_unused =
      freed_bits sound.consistent number.1 empty mark access_back default_back saves n (inode_has_bit sound.consistent.geometry n number.1) ∙ given.clear

  free_sound : IsSound p t5
  free_sound =
      sound_after sound puts.store (freed_consistent sound.consistent number.1 empty mark access_back default_back saves)
      (λ m few none. freed_bits sound.consistent number.1 empty mark access_back default_back saves m few
      ∙ mark.bits m few (λ e. none (subst (IsNumber p Inodes) (sym e) number)))

  free_touches : Touches p n 0 1 t0 t5
  free_touches = record {
    puts = puts_saved p n 0 puts;
    super = freed_super sound.consistent number.1 empty mark access_back default_back saves;
    inode = freed_changes sound.consistent number.1 empty mark access_back default_back saves;
    free = let f = freed_free_sectors sound.consistent number.1 empty mark access_back default_back saves in omega (arith, f);
  }

  pub freed : IsFreed p n t0 t5
  freed = record { sound = free_sound; touches = free_touches; puts = puts; free = free_is; unused = free_unused }
