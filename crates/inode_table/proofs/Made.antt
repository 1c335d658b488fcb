-- An inode is made: its bit is set, sectors are taken for its ACLs, and it is written.
use Rattle.std.proofs.Common.{◌≡◌, ℕ, ◌+◌, ◌/◌, ◌<◌, ◌≤◌, List, [], Option, get_or, refl, sym, ap, subst, ◌∙◌, arith, IsTrue}
use Rattle.posix_acl.specs.AccessList.{AccessList, IsAcl, IsSomeAcl, mode_bits}
use Rattle.fs_layout.specs.declared.inode.TheConstants.{DIRECT_BLOCKS, POINTER_LEVELS}
use Rattle.fs_layout.specs.declared.inode.Inode.{Inode}
use Rattle.fs_layout.specs.declared.geometry.Geometry.{Geometry}
use Rattle.fs_layout.specs.Bytes.{SectorMap, zeros}
use Rattle.fs_layout.specs.Inode.{FitsInode, free_inode}
use Rattle.fs_layout.specs.AclSector.{kept_acl}
use Rattle.fs_layout.specs.Images.{AccessAcl, DefaultAcl, Holds, part, bit, free_sectors, inode_at}
use Rattle.fs_layout.specs.Ownership.{IsConsistent}
use Rattle.fs_layout.specs.InodeChanges.{IsOwnedApart, ChangesBlocks, ChangesInode, Saves}
use Rattle.fs_layout.proofs.Blocks.{fields_change}
use Rattle.fs_layout.proofs.Composes.{apart_after, both_changes, both_inodes}
use Rattle.fs_layout.proofs.Consistent.{owned_is_apart, stays_consistent, saved_stays_consistent}
use Rattle.fs_layout.proofs.Free.{HasNoSector, free_has_no_sector, holds_nothing, no_sector_changes}
use Rattle.fs_layout.proofs.Marks.{marks_change}
use Rattle.fs_layout.proofs.Parts.{owns_acl, owns_default_acl}
use Rattle.fs_layout.proofs.Places.{after_map}
use Rattle.fs_layout.proofs.Pointers.{turns_acl, turns_default_acl}
use Rattle.fs_layout.proofs.Saves.{IsSaved}
use Rattle.fs_layout.proofs.SplicedBytes.{get_or-zeros}
use Rattle.fs_layout.proofs.Bits.{inode_has_bit}
use Rattle.sector_txn.specs.Sectors.{TxnState, SameStore, PutsOnly}
use Rattle.sector_txn.proofs.TransactionRuns.{changes_joined}
use Rattle.bit_alloc.specs.declared.bitmap.Bitmap.TheVariants.{Inodes}
use Rattle.bit_alloc.specs.Bitmaps.{IsNumber, TakesNumber}
use Rattle.bit_alloc.specs.Room.{bitmaps}
use Rattle.bit_alloc.specs.Inodes.{IsSound, IsSectorFor, Touches, IsBlank, KeepsFields, KeepsBytes}
use Rattle.bit_alloc.proofs.Soundness.{free_kept}
use Rattle.inode_table.specs.Acls.{HasAcl, HasDefaultAcl, with_acl_bits, acl_takes, acls_take}
use Rattle.inode_table.specs.Inodes.{ClearAreFree}
use Rattle.inode_table.specs.Storing.{IsForAcl, Stores, takes_for}
use Rattle.inode_table.proofs.AclCalls.{bits_shown}
use Rattle.inode_table.proofs.AclSaved.{bytes_joined}
use Rattle.inode_table.proofs.Bits.{with_low_bits}
use Rattle.inode_table.proofs.Saved.{fields_keep_bytes, saved_keeps_bytes}
use Rattle.bit_alloc.proofs.Soundness.{sound_after}
use Rattle.inode_table.proofs.Sound.{puts_acl, puts_inode_bit, puts_inode}
use Rattle.inode_table.proofs.StoredAcls.{contents, contents_whole, kept_valid, holds_acl, acl_stays, takes_same}
use Rattle.inode_table.proofs.Stores.{HasStored, stored, stored_keeps_bytes, content_there}

blank_has_no_sector : (v : Inode) → IsBlank v → HasNoSector v
unfolding zeros
blank_has_no_sector v blank = record {
  acl = blank.acl;
  default_acl = blank.default;
  direct = λ k. ap (λ (l : List ℕ). get_or l k 0) blank.direct ∙ get_or-zeros DIRECT_BLOCKS k;
  indirect = λ level. ap (λ (xs : List ℕ). get_or xs level 0) blank.indirect ∙ get_or-zeros POINTER_LEVELS level;
}

-- what has come of it
pub record IsMade (p : Geometry) (n : ℕ) (inode : Inode) (a : AccessList) (d : Option AccessList) (old new : TxnState) : Type 0 where
  pub sound : IsSound p new
  pub used : IsTrue (bit new.sectors p.inode_bitmap n)
  pub touches : Touches p n (acls_take a d) 3 old new
  pub fields : KeepsFields (with_acl_bits inode a) (inode_at p new.sectors n)
  pub empty : Holds new.sectors (inode_at p new.sectors n) []
  pub access : HasAcl new.sectors (inode_at p new.sectors n) a
  pub default : HasDefaultAcl new.sectors (inode_at p new.sectors n) d

-- ---- where too few sectors are free
-- for the access ACL
pub too_few_for_access : (p : Geometry) (n : ℕ) (old new : SectorMap) (a : AccessList) (d : Option AccessList) (content : Option (List ℕ)) → TakesNumber p Inodes n old new
    → content ≡ contents (kept_acl a) → free_sectors p new < takes_for 0 content → free_sectors p old < acls_take a d
too_few_for_access p n old new a d content taken is few =
    let same = free_kept p n old new taken.mark in
    let takes : takes_for 0 content ≡ acl_takes 0 (kept_acl a) = ap (takes_for 0) is ∙ takes_same 0 (kept_acl a) in
    omega (arith, same, takes, few)

-- and for the default ACL
pub too_few_for_default : (p : Geometry) (old new : SectorMap) (a : AccessList) (d : Option AccessList) (content : Option (List ℕ))
    → free_sectors p old ≤ free_sectors p new + acl_takes 0 (kept_acl a) → content ≡ contents d → free_sectors p new < takes_for 0 content
    → free_sectors p old < acls_take a d
too_few_for_default p old new a d content left is few =
    let takes : takes_for 0 content ≡ acl_takes 0 d = ap (takes_for 0) is ∙ takes_same 0 d in
    omega (arith, left, takes, few)

-- ---- what has been put so far
module _ (p : Geometry) (n : ℕ) (t0 t1 : TxnState) (sound : IsSound p t0) (lt : n < p.inodes)
    (bit_put : PutsOnly (λ t. t ≡ p.inode_bitmap + n / 4096) (bitmaps p) 0 t0 t1) where
  pub made_puts_1 : PutsOnly (IsSectorFor p n) (bitmaps p) 0 t0 t1
  made_puts_1 = puts_inode_bit n n sound.consistent.geometry lt bit_put

  module _ (t2 : TxnState) {y : ℕ} (access_put : PutsOnly (IsForAcl p y) (bitmaps p) 1 t1 t2) where
    pub made_puts_2 : PutsOnly (IsSectorFor p n) (bitmaps p) 1 t0 t2
    made_puts_2 = changes_joined made_puts_1 (puts_acl p n access_put)

    module _ (t3 : TxnState) {z : ℕ} (default_put : PutsOnly (IsForAcl p z) (bitmaps p) 1 t2 t3) where
      pub made_puts_3 : PutsOnly (IsSectorFor p n) (bitmaps p) 2 t0 t3
      made_puts_3 = changes_joined made_puts_2 (puts_acl p n default_put)

      module _ (t4 : TxnState) (inode_put : PutsOnly (λ t. t ≡ p.table + n / 4) [] 1 t3 t4) where
        pub made_puts_4 : PutsOnly (IsSectorFor p n) (bitmaps p) 3 t0 t4
        made_puts_4 = changes_joined made_puts_3 (puts_inode p n inode_put)

-- ---- where the inode's bit is set
module _ (p : Geometry) (n : ℕ) (inode : Inode) (a : AccessList) (y : ℕ) (t0 t1 t2 : TxnState)
    (sound : IsSound p t0) (clear : ClearAreFree p t0.sectors) (taken : TakesNumber p Inodes n t0.sectors t1.sectors)
    (blank : IsBlank inode) (valid : IsAcl a) (access : Stores p 0 y (contents (kept_acl a)) t1.sectors t2.sectors) where
  first : ChangesInode p n t0.sectors t1.sectors × (inode_at p t1.sectors n ≡ inode_at p t0.sectors n)
  first = marks_change sound.consistent taken.free.1 taken.mark

  was_free : inode_at p t1.sectors n ≡ free_inode
  was_free = first.1 ∙ clear n taken.free.1 taken.free.2

  now : IsConsistent p t1.sectors
  now = stays_consistent sound.consistent taken.free.1 first.0

  begun : ChangesBlocks p free_inode inode t1.sectors t1.sectors
  begun =
      let apart : IsOwnedApart p t1.sectors free_inode = subst (λ (u : Inode). IsOwnedApart p t1.sectors u) was_free (owned_is_apart now n taken.free.1) in
      no_sector_changes now.geometry now.sectors apart free_has_no_sector (blank_has_no_sector inode blank)

  apart : IsOwnedApart p t1.sectors inode
  apart =
      apart_after now.geometry (subst (λ (u : Inode). IsOwnedApart p t1.sectors u) was_free (owned_is_apart now n taken.free.1)) begun.owned

  second : HasStored p inode (record inode { acl = y }) AccessAcl (acl_takes 0 (kept_acl a)) t1.sectors t2.sectors
  unfolding part
  second =
      subst (λ (k : ℕ). HasStored p inode (record inode { acl = y }) AccessAcl k t1.sectors t2.sectors) (takes_same 0 (kept_acl a))
      (stored {x = 0} now.geometry now.sectors apart blank.acl {y = y} (contents (kept_acl a)) (λ n i e. cc) (contents_whole (kept_acl a) (kept_valid a valid)) access
      (λ keeps. turns_acl t1.sectors t2.sectors inode 0 y blank.acl keeps))

  -- as many sectors are free as before, less that of the access ACL
  pub left_free : free_sectors p t0.sectors ≤ free_sectors p t2.sectors + acl_takes 0 (kept_acl a)
  left_free = let same = free_kept p n t0.sectors t1.sectors taken.mark in let f = second.free in omega (arith, same, f)

  module _ (d : Option AccessList) (z : ℕ) (t3 t4 : TxnState) (valid_default : IsSomeAcl d) (default : Stores p 0 z (contents d) t2.sectors t3.sectors)
      (fits : FitsInode (record inode { mode = with_low_bits inode.mode (mode_bits a); acl = y; default_acl = z }))
      (saves : Saves p n (record inode { mode = with_low_bits inode.mode (mode_bits a); acl = y; default_acl = z }) t3.sectors t4.sectors) where
    third : HasStored p (record inode { acl = y }) (record inode { acl = y; default_acl = z }) DefaultAcl (acl_takes 0 d) t2.sectors t3.sectors
    unfolding part
    third =
        let u : Inode = record inode { acl = y } in
        subst (λ (k : ℕ). HasStored p u (record u { default_acl = z }) DefaultAcl k t2.sectors t3.sectors) (takes_same 0 d)
        (stored {x = 0} now.geometry second.changes.owned.sectors (apart_after now.geometry apart second.changes.owned) blank.default {y = z} (contents d) (λ n i e. cc)
        (contents_whole d valid_default) default (λ keeps. turns_default_acl t2.sectors t3.sectors u 0 z blank.default keeps))

    changes : ChangesBlocks p free_inode (record inode { mode = with_low_bits inode.mode (mode_bits a); acl = y; default_acl = z }) t1.sectors t3.sectors
    changes =
        let both = both_changes now.geometry second.changes third.changes in
        both_changes now.geometry (both_changes now.geometry begun both)
        (fields_change now.geometry third.changes.owned.sectors (apart_after now.geometry apart both.owned) refl refl refl)

    saved : IsConsistent p t4.sectors
        × IsSaved p n (record inode { mode = with_low_bits inode.mode (mode_bits a); acl = y; default_acl = z }) t1.sectors t3.sectors t4.sectors
    saved = saved_stays_consistent now taken.free.1 was_free fits changes saves

    made_sound : SameStore t0 t4 → IsSound p t4
    made_sound store =
        let number : IsNumber p Inodes n = (taken.free.0, taken.free.1) in
        sound_after sound store saved.0
        (λ m few none. saved.1.inode_bits m few ∙ taken.mark.bits m few (λ e. none (subst (IsNumber p Inodes) (sym e) number)))

    made_used : IsTrue (bit t4.sectors p.inode_bitmap n)
    made_used =
        saved.1.inode_bits n (inode_has_bit sound.consistent.geometry n taken.free.1) ∙ taken.set

    made_touches : PutsOnly (IsSectorFor p n) (bitmaps p) 3 t0 t4 → Touches p n (acls_take a d) 3 t0 t4
    made_touches puts =
        let from = after_map now.geometry in
        let f = left_free in
        let g = third.free in
        record {
          puts = puts;
          super = saves.others 0 (λ e. omega (arith, from, e)) ∙ third.low 0 (omega (arith, from)) ∙ second.low 0 (omega (arith, from))
              ∙ taken.mark.others 0 (λ i. let past = i.0 in omega (arith, past, from));
          inode = both_inodes now.geometry first.0 saved.1.changes;
          free = omega (arith, f, g, saved.1.free);
        }

    made_fields : KeepsFields (with_acl_bits inode a) (inode_at p t4.sectors n)
    made_fields =
        subst (KeepsFields (with_acl_bits inode a)) (sym saved.1.is) (record { kind = refl; mode = refl; uid = refl; gid = refl; names = refl; parent = refl; mtime = refl; ctime = refl; atime = refl })

    made_empty : Holds t4.sectors (inode_at p t4.sectors n) []
    made_empty =
        let u : Inode = record inode { acl = y; default_acl = z } in
        let w : Inode = record inode { mode = with_low_bits inode.mode (mode_bits a); acl = y; default_acl = z } in
        let acls : KeepsBytes t1.sectors t3.sectors inode u = bytes_joined (stored_keeps_bytes second (λ n i e. cc) (λ k e. cc) refl) (stored_keeps_bytes third (λ n i e. cc) (λ k e. cc) refl) in
        let all = saved_keeps_bytes (bytes_joined acls (fields_keep_bytes t3.sectors u w refl refl)) saved.1.keeps in
        subst (λ (v : Inode). Holds t4.sectors v []) (sym saved.1.is)
        (all.bytes [] (holds_nothing t1.sectors inode (blank_has_no_sector inode blank) blank.size))

    made_access : HasAcl t4.sectors (inode_at p t4.sectors n) a
    unfolding part
    made_access =
        let w : Inode = record inode { mode = with_low_bits inode.mode (mode_bits a); acl = y; default_acl = z } in
        let first_there = holds_acl t2.sectors y (kept_acl a) (content_there p 0 y t1.sectors t2.sectors now.geometry (contents (kept_acl a)) access) in
        let there = acl_stays t2.sectors t3.sectors y (kept_acl a) (λ some. third.others y (record { at = AccessAcl; is = refl; some = some }) (λ e. cc)) first_there in
        let has : HasAcl t4.sectors w a = record {
          valid = valid;
          stored = acl_stays t3.sectors t4.sectors y (kept_acl a) (λ some. saved.1.keeps y (owns_acl t3.sectors w some)) there;
          bits = bits_shown inode.mode a;
        } in
        subst (λ (u : Inode). HasAcl t4.sectors u a) (sym saved.1.is) has

    made_default : HasDefaultAcl t4.sectors (inode_at p t4.sectors n) d
    made_default =
        let w : Inode = record inode { mode = with_low_bits inode.mode (mode_bits a); acl = y; default_acl = z } in
        let there = holds_acl t3.sectors z d (content_there p 0 z t2.sectors t3.sectors now.geometry (contents d) default) in
        let has : HasDefaultAcl t4.sectors w d = record {
          valid = valid_default;
          stored = acl_stays t3.sectors t4.sectors z d (λ some. saved.1.keeps z (owns_default_acl t3.sectors w some)) there;
        } in
        subst (λ (u : Inode). HasDefaultAcl t4.sectors u d) (sym saved.1.is) has

    pub made : PutsOnly (IsSectorFor p n) (bitmaps p) 3 t0 t4 → IsMade p n inode a d t0 t4
    made puts = record {
      sound = made_sound puts.store;
      used = made_used;
      touches = made_touches puts;
      fields = made_fields;
      empty = made_empty;
      access = made_access;
      default = made_default;
    }
