-- A link is made with its target.
use Rattle.std.proofs.Common.{◌≡◌, ℕ, ◌+◌, ◌/◌, ◌%◌, ◌^◌, ◌<◌, ◌≤◌, List, [], ◌++◌, length, replicate, refl, sym, ap, subst, ◌∙◌, arith, IsTrue}
use Rattle.std.proofs.lemmas.Bool.Decides.{nat_tests}
use Rattle.std.proofs.lemmas.List.{drop_all, append-nil}
use Rattle.fs_layout.specs.declared.inode.TheConstants.{DIRECT_BLOCKS, POINTER_LEVELS}
use Rattle.fs_layout.specs.declared.inode.Inode.{Inode}
use Rattle.fs_layout.specs.declared.inode.Kind.TheVariants as kinds
use Rattle.fs_layout.specs.declared.geometry.Geometry.{Geometry}
use Rattle.fs_layout.specs.Bytes.{SectorMap, splice, zeros}
use Rattle.fs_layout.specs.Inode.{FitsInode, free_inode, numbers_fit}
use Rattle.fs_layout.specs.Images.{pointer, Holds, HasNoHole, bit, free_sectors, inode_at}
use Rattle.fs_layout.specs.Ownership.{IsConsistent}
use Rattle.fs_layout.specs.InodeChanges.{with_direct, Allocates, IsOwnedApart, ReplacesBlock, ChangesBlocks, ChangesInode, Saves}
use Rattle.fs_layout.proofs.Composes.{apart_after, both_changes}
use Rattle.fs_layout.proofs.Consistent.{owned_is_apart, stays_consistent, saved_stays_consistent}
use Rattle.fs_layout.proofs.Free.{HasNoSector, free_has_no_sector, holds_nothing, no_sector_changes}
use Rattle.fs_layout.proofs.Held.{splice_replaces}
use Rattle.fs_layout.proofs.Marks.{marks_change}
use Rattle.fs_layout.proofs.Parts.{Holds-kept, HasNoHole-kept}
use Rattle.fs_layout.proofs.Pointers.{pointer_direct}
use Rattle.fs_layout.proofs.Saves.{IsSaved}
use Rattle.fs_layout.proofs.Sizes.{extends}
use Rattle.fs_layout.proofs.SplicedBytes.{IsSector-zeros, get_or-zeros}
use Rattle.fs_layout.proofs.Steps.{allocated_some, direct_block_gained, direct_block_filled}
use Rattle.fs_layout.proofs.Writes.{length-zeros}
use Rattle.fs_layout.proofs.UsedInodes.{made_fits, with_direct_fits}
use Rattle.fs_layout.proofs.Bits.{inode_has_bit}
use Rattle.sector_txn.specs.Sectors.{TxnState, PutsOnly}
use Rattle.sector_txn.proofs.TransactionRuns.{changes_joined}
use Rattle.bit_alloc.specs.declared.bitmap.Bitmap.TheVariants.{Inodes}
use Rattle.bit_alloc.specs.Bitmaps.{TakesNumber}
use Rattle.bit_alloc.specs.Room.{bitmaps}
use Rattle.bit_alloc.specs.Inodes.{IsSound, IsSectorFor, Touches}
use Rattle.bit_alloc.proofs.Soundness.{free_kept, touched}
use Rattle.inode_table.specs.Inodes.{ClearAreFree}
use Rattle.inode_table.proofs.Sound.{puts_inode_bit, puts_inode}
use Rattle.block_map.specs.Contents.{AllowsSize}
use Rattle.block_map.specs.Links.{IsNewLink, HasNoAcls}
use Rattle.block_map.specs.Steps.{IsStepSector}
use Rattle.block_map.proofs.Saving.{puts_steps}

-- ---- a link that lacks its sector
abbrev pub link_of : (owner group size : ℕ) → Inode
link_of owner group size = record {
  kind = kinds.Link;
  mode = 0o777;
  uid = owner;
  gid = group;
  names = 1;
  size = size;
  parent = 0;
  acl = 0;
  default_acl = 0;
  direct = replicate DIRECT_BLOCKS 0;
  indirect = replicate POINTER_LEVELS 0;
  mtime = 0;
  ctime = 0;
  atime = 0;
}

link_has_no_sector : (owner group size : ℕ) → HasNoSector (link_of owner group size)
unfolding zeros
link_has_no_sector owner group size = record { acl = refl; default_acl = refl; direct = get_or-zeros DIRECT_BLOCKS; indirect = get_or-zeros POINTER_LEVELS }

-- a new link holds zeros
link_holds_zeros : (image : SectorMap) (owner group size : ℕ) → Holds image (link_of owner group size) (zeros size)
link_holds_zeros image owner group size =
    let none : Holds image (link_of owner group 0) [] = holds_nothing image (link_of owner group 0) (link_has_no_sector owner group 0) refl in
    let sum : 0 + size ≡ size = omega arith in
    subst (λ (k : ℕ). Holds image (link_of owner group k) (zeros size)) sum (extends image (link_of owner group 0) [] size none)

-- with a sector it fits its fields
pub link_fits : (owner group size y : ℕ) → owner < 2 ^ 32 → group < 2 ^ 32 → 1 ≤ size → size ≤ 512 → y < 2 ^ 32
    → FitsInode (with_direct (link_of owner group size) 0 y)
unfolding zeros
link_fits owner group size y small_owner small_group some few small =
    let numbers : IsTrue (numbers_fit kinds.Link 0o777 size) = grind (arith, nat_tests) in
    with_direct_fits (link_of owner group size) 0 y (made_fits (λ e. cc) numbers small_owner small_group (omega arith) (omega arith)) (λ e. cc) small

-- the target, written into a sector of zeros, stands for the zeros
target_fills : (target : List ℕ) → length target ≤ 512 → ReplacesBlock 0 (splice (zeros 512) 0 target) (zeros (length target)) target
unfolding splice
target_fills target few =
    let len : length (zeros (length target)) ≡ length target = length-zeros (length target) in
    let all : splice (zeros (length target)) 0 target ≡ target =
    ap (λ (r : List ℕ). target ++ r) (drop_all (0 + length target) (zeros (length target)) (omega (arith, len))) ∙ append-nil target in
    subst (ReplacesBlock 0 (splice (zeros 512) 0 target) (zeros (length target))) all
    (splice_replaces (zeros (length target)) (zeros 512) target 0 0 (λ i e. get_or-zeros (length target) i ∙ sym (get_or-zeros 512 (i % 512)))
    IsSector-zeros.len (omega (arith, few)) (omega (arith, len)))

-- ---- a link is made: its inode's bit is set, its target gets a sector, and it is written
-- what is so then
pub record IsMade (p : Geometry) (n owner group : ℕ) (target : List ℕ) (old new : TxnState) : Type 0 where
  pub touches : Touches p n 1 2 old new
  pub used : IsTrue (bit new.sectors p.inode_bitmap n)
  pub fields : IsNewLink owner group (inode_at p new.sectors n)
  pub acls : HasNoAcls (inode_at p new.sectors n)
  pub holds : Holds new.sectors (inode_at p new.sectors n) target
  pub whole : HasNoHole new.sectors (inode_at p new.sectors n)

module _ {p : Geometry} {n : ℕ} {t0 t1 : TxnState} (sound : IsSound p t0) (taken : TakesNumber p Inodes n t0.sectors t1.sectors)
    (bit_put : PutsOnly (λ t. t ≡ p.inode_bitmap + n / 4096) (bitmaps p) 0 t0 t1) where
  pub bit_puts : PutsOnly (IsSectorFor p n) (bitmaps p) 0 t0 t1
  bit_puts = puts_inode_bit n n sound.consistent.geometry taken.free.1 bit_put

  first : ChangesInode p n t0.sectors t1.sectors × (inode_at p t1.sectors n ≡ inode_at p t0.sectors n)
  first = marks_change sound.consistent taken.free.1 taken.mark

  now : IsConsistent p t1.sectors
  now = stays_consistent sound.consistent taken.free.1 first.0

  module _ {t2 : TxnState} (target_put : PutsOnly (IsStepSector p) (bitmaps p) 1 t1 t2) where
    pub target_puts : PutsOnly (IsSectorFor p n) (bitmaps p) 1 t0 t2
    target_puts = changes_joined bit_puts (puts_steps p n target_put)

    module _ (owner group : ℕ) (target : List ℕ) {y : ℕ} {content : List ℕ} {bits : SectorMap} (t3 : TxnState) (clear : ClearAreFree p t0.sectors)
        (size : AllowsSize kinds.Link (length target)) (is : content ≡ splice (zeros 512) 0 target) (a : Allocates p y content t1.sectors bits t2.sectors)
        (fits : FitsInode (with_direct (link_of owner group (length target)) 0 y))
        (saves : Saves p n (with_direct (link_of owner group (length target)) 0 y) t2.sectors t3.sectors) where
      was_free : inode_at p t1.sectors n ≡ free_inode
      was_free = first.1 ∙ clear n taken.free.1 taken.free.2

      free_apart : IsOwnedApart p t1.sectors free_inode
      free_apart = subst (λ (u : Inode). IsOwnedApart p t1.sectors u) was_free (owned_is_apart now n taken.free.1)

      begun : ChangesBlocks p free_inode (link_of owner group (length target)) t1.sectors t1.sectors
      begun = no_sector_changes now.geometry now.sectors free_apart free_has_no_sector (link_has_no_sector owner group (length target))

      apart : IsOwnedApart p t1.sectors (link_of owner group (length target))
      apart = apart_after now.geometry free_apart begun.owned

      hole : pointer t1.sectors (link_of owner group (length target)) 0 ≡ 0
      hole = pointer_direct t1.sectors (link_of owner group (length target)) 0 (omega arith)

      changes : ChangesBlocks p free_inode (with_direct (link_of owner group (length target)) 0 y) t1.sectors t2.sectors
      changes = both_changes now.geometry begun (direct_block_gained now.geometry apart a 0 (omega arith) refl hole)

      saved : IsConsistent p t3.sectors × IsSaved p n (with_direct (link_of owner group (length target)) 0 y) t1.sectors t2.sectors t3.sectors
      saved = saved_stays_consistent now taken.free.1 was_free fits changes saves

      holds_target : Holds t2.sectors (with_direct (link_of owner group (length target)) 0 y) target
      holds_target =
          direct_block_filled now.geometry apart a 0 (zeros (length target)) target (omega arith) refl hole (omega (arith, size.0))
          (link_holds_zeros t1.sectors owner group (length target))
          (subst (λ (x : List ℕ). ReplacesBlock 0 x (zeros (length target)) target) (sym is) (target_fills target size.1))

      has_sector : HasNoHole t2.sectors (with_direct (link_of owner group (length target)) 0 y)
      has_sector k lt none =
          let w : Inode = with_direct (link_of owner group (length target)) 0 y in
          let one : k ≡ 0 = omega (arith, lt, size.1) in
          allocated_some now.geometry apart a (sym (pointer_direct t2.sectors w 0 (omega arith)) ∙ ap (pointer t2.sectors w) (sym one) ∙ none)

      pub link_made : free_sectors p t1.sectors ≡ free_sectors p t2.sectors + 1 → PutsOnly (λ t. t ≡ p.table + n / 4) [] 1 t2 t3 → IsMade p n owner group target t0 t3
      link_made one inode_put =
          let puts : PutsOnly (IsSectorFor p n) (bitmaps p) 2 t0 t3 = changes_joined target_puts (puts_inode p n inode_put) in
          let same = free_kept p n t0.sectors t1.sectors taken.mark in
          let f = saved.1.free in
          record {
            touches = touched now.geometry puts first.0 saved.1.changes (omega (arith, one, same, f));
            used = saved.1.inode_bits n (inode_has_bit sound.consistent.geometry n taken.free.1) ∙ taken.set;
            fields = subst (IsNewLink owner group) (sym saved.1.is) (record { kind = refl; mode = refl; uid = refl; gid = refl; names = refl; parent = refl; mtime = refl; ctime = refl; atime = refl });
            acls = subst HasNoAcls (sym saved.1.is) (record { acl = refl; default = refl });
            holds = subst (λ (u : Inode). Holds t3.sectors u target) (sym saved.1.is) (Holds-kept saved.1.keeps holds_target);
            whole = subst (HasNoHole t3.sectors) (sym saved.1.is) (HasNoHole-kept saved.1.keeps has_sector);
          }
