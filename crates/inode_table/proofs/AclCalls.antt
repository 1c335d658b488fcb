-- The calls by which an ACL of an inode is saved, one after the other.
use Rattle.std.proofs.Common.{◌≡◌, ℕ, ◌+◌, ◌/◌, ◌%◌, ◌<◌, [], Option, refl, sym, ap, subst, ◌∙◌, arith}
use Rattle.posix_acl.specs.AccessList.{AccessList, IsAcl, IsSomeAcl, mode_bits}
use Rattle.fs_layout.specs.declared.inode.Inode.{Inode}
use Rattle.fs_layout.specs.declared.geometry.Geometry.{Geometry}
use Rattle.fs_layout.specs.Inode.{FitsInode}
use Rattle.fs_layout.specs.AclSector.{kept_acl}
use Rattle.fs_layout.specs.Images.{levels, Part, AccessAcl, DefaultAcl, part, bit, inode_at}
use Rattle.fs_layout.specs.InodeChanges.{Saves, Turns}
use Rattle.fs_layout.proofs.Consistent.{owned_is_apart}
use Rattle.fs_layout.proofs.OneAcl.{mode_small}
use Rattle.fs_layout.proofs.Parts.{KeepsPointers, HasNoPointers, owns_acl, owns_default_acl}
use Rattle.fs_layout.proofs.Pointers.{turns_acl, turns_default_acl}
use Rattle.sector_txn.specs.Sectors.{TxnState, SameStore, PutsOnly}
use Rattle.bit_alloc.specs.Room.{bitmaps, TakesSpare}
use Rattle.bit_alloc.specs.Inodes.{IsSound, Touches, KeepsFields, KeepsBytes, KeepsAccess, KeepsDefault}
use Rattle.inode_table.specs.Acls.{HasAcl, HasDefaultAcl, with_acl_bits, acl_takes}
use Rattle.inode_table.specs.Inodes.{DiffersInAttributes}
use Rattle.inode_table.specs.Storing.{IsForAcl, IsForSaving, Stores}
use Rattle.inode_table.proofs.AclSaved.{IsAclSaved, acl_saved}
use Rattle.inode_table.proofs.Bits.{with_low_bits}
use Rattle.inode_table.proofs.Saved.{saved_keeps_access, saved_keeps_default}
use Rattle.inode_table.proofs.Sound.{puts_saving, spare_saving}
use Rattle.inode_table.proofs.StoredAcls.{contents, contents_whole, kept_valid, holds_acl, acl_stays, takes_same}
use Rattle.inode_table.proofs.Stores.{HasStored, stored, content_there}

-- a mode with an ACL's bits shows them
pub bits_shown : (mode : ℕ) (a : AccessList) → with_low_bits mode (mode_bits a) % 512 ≡ mode_bits a
bits_shown mode a = let small = mode_small a in omega (arith, small)

-- what saving either comes to: the sectors taken, where the inode names its ACL, and its fields
pub record IsSavedWith (p : Geometry) (n : ℕ) (w : Inode) (sector : Inode → ℕ) (taken : ℕ) (old new : TxnState) : Type 0 where
  pub sound : IsSound p new
  pub touches : Touches p n taken 2 old new
  pub puts : PutsOnly (IsForSaving p n (sector (inode_at p new.sectors n))) (bitmaps p) 2 old new
  pub none : sector (inode_at p new.sectors n) ≡ 0 → TakesSpare p 1 old new
  pub fields : KeepsFields w (inode_at p new.sectors n)
  pub bytes : KeepsBytes old.sectors new.sectors (inode_at p old.sectors n) (inode_at p new.sectors n)
  pub used : bit new.sectors p.inode_bitmap n ≡ bit old.sectors p.inode_bitmap n

-- the promise follows where the inode as it is saved, x, has sector y for the ACL, and the fields of w
saved_with : {p : Geometry} {n y taken : ℕ} {w x : Inode} {t0 t1 t2 : TxnState} (sector : Inode → ℕ) → IsAclSaved p n (inode_at p t0.sectors n) x taken t0 t1 t2 → sector x ≡ y
    → KeepsFields w x → SameStore t0 t2 → PutsOnly (IsForAcl p y) (bitmaps p) 1 t0 t1 → (y ≡ 0 → TakesSpare p 0 t0 t1)
    → PutsOnly (λ t. t ≡ p.table + n / 4) [] 1 t1 t2 → IsSavedWith p n w sector taken t0 t2
saved_with {p} {n} {y} {w = w} {t0 = t0} {t1} {t2} sector saved is fields store acl_put none inode_put =
    let there : y ≡ sector (inode_at p t2.sectors n) = sym (ap sector saved.is ∙ is) in
    record {
      sound = saved.sound store;
      touches = saved.touches acl_put inode_put;
      puts = subst (λ (x : ℕ). PutsOnly (IsForSaving p n x) (bitmaps p) 2 t0 t2) there (puts_saving p n y acl_put inode_put);
      none = λ e. spare_saving p n t0 t1 t2 (none (there ∙ e)) inode_put;
      fields = subst (KeepsFields w) (sym saved.is) fields;
      bytes = saved.bytes;
      used = saved.bit_same;
    }

pub record IsAccessSaved (p : Geometry) (n : ℕ) (inode : Inode) (a : AccessList) (old new : TxnState) : Type 0 where
  pub saved : IsSavedWith p n (with_acl_bits inode a) (λ v. v.acl) (acl_takes inode.acl (kept_acl a)) old new
  pub access : HasAcl new.sectors (inode_at p new.sectors n) a
  pub default : KeepsDefault old.sectors new.sectors (inode_at p old.sectors n) (inode_at p new.sectors n)

pub record IsDefaultSaved (p : Geometry) (n : ℕ) (inode : Inode) (a : Option AccessList) (old new : TxnState) : Type 0 where
  pub saved : IsSavedWith p n inode (λ v. v.default_acl) (acl_takes inode.default_acl a) old new
  pub default : HasDefaultAcl new.sectors (inode_at p new.sectors n) a
  pub access : KeepsAccess old.sectors new.sectors (inode_at p old.sectors n) (inode_at p new.sectors n)

-- what an inode has for an ACL turns into what a store has made of it
turned : (p : Geometry) (n : ℕ) (at : Part) (w : Inode) (a : Option AccessList) (t0 t1 : TxnState) (x y : ℕ) → IsSound p t0 → n < p.inodes
    → part t0.sectors (inode_at p t0.sectors n) at ≡ x → HasNoPointers at → IsSomeAcl a → Stores p x y (contents a) t0.sectors t1.sectors
    → (KeepsPointers t0.sectors t1.sectors (inode_at p t0.sectors n) → Turns t0.sectors t1.sectors (inode_at p t0.sectors n) w at x y)
    → HasStored p (inode_at p t0.sectors n) w at (acl_takes x a) t0.sectors t1.sectors
turned p n at w a t0 t1 x y sound lt was own valid way turns =
    subst (λ (k : ℕ). HasStored p (inode_at p t0.sectors n) w at k t0.sectors t1.sectors) (takes_same x a)
    (stored {x = x} sound.consistent.geometry sound.consistent.sectors (owned_is_apart sound.consistent n lt) was {y = y} (contents a) own (contents_whole a valid) way turns)

-- ---- the access ACL
module _ (p : Geometry) (n : ℕ) (inode : Inode) (a : AccessList) (y : ℕ) (t0 t1 t2 : TxnState)
    (sound : IsSound p t0) (lt : n < p.inodes) (attributes : DiffersInAttributes (inode_at p t0.sectors n) inode) (valid : IsAcl a)
    (way : Stores p inode.acl y (contents (kept_acl a)) t0.sectors t1.sectors)
    (fits : FitsInode (record inode { mode = with_low_bits inode.mode (mode_bits a); acl = y }))
    (saves : Saves p n (record inode { mode = with_low_bits inode.mode (mode_bits a); acl = y }) t1.sectors t2.sectors) where
  was : inode.acl ≡ (inode_at p t0.sectors n).acl
  was = ap (λ (u : Inode). u.acl) attributes

  access_turned : HasStored p (inode_at p t0.sectors n) (record (inode_at p t0.sectors n) { acl = y }) AccessAcl (acl_takes inode.acl (kept_acl a)) t0.sectors t1.sectors
  unfolding part
  access_turned =
      turned p n AccessAcl (record (inode_at p t0.sectors n) { acl = y }) (kept_acl a) t0 t1 inode.acl y sound lt (sym was) (λ n i e. cc) (kept_valid a valid) way
      (turns_acl t0.sectors t1.sectors (inode_at p t0.sectors n) inode.acl y (sym was))

  default_is : inode.default_acl ≡ (inode_at p t0.sectors n).default_acl
  default_is = ap (λ (u : Inode). u.default_acl) attributes

  numbers_are : levels inode ≡ levels (inode_at p t0.sectors n)
  numbers_are = ap levels attributes

  access_saved : IsAclSaved p n (inode_at p t0.sectors n) (record inode { mode = with_low_bits inode.mode (mode_bits a); acl = y })
      (acl_takes inode.acl (kept_acl a)) t0 t1 t2
  access_saved =
      let v = inode_at p t0.sectors n in
      acl_saved p n (record v { acl = y }) (record inode { mode = with_low_bits inode.mode (mode_bits a); acl = y }) AccessAcl (acl_takes inode.acl (kept_acl a)) t0 t1 t2
      sound lt access_turned refl default_is numbers_are fits saves (λ m i e. cc) (λ k e. cc) refl (ap (λ (u : Inode). u.size) attributes)

  access_has : HasAcl t2.sectors (inode_at p t2.sectors n) a
  access_has =
      let w : Inode = record inode { mode = with_low_bits inode.mode (mode_bits a); acl = y } in
      let there = holds_acl t1.sectors y (kept_acl a) (content_there p inode.acl y t0.sectors t1.sectors sound.consistent.geometry (contents (kept_acl a)) way) in
      let has : HasAcl t2.sectors w a = record {
        valid = valid;
        stored = acl_stays t1.sectors t2.sectors y (kept_acl a) (λ some. access_saved.keeps y (owns_acl t1.sectors w some)) there;
        bits = bits_shown inode.mode a;
      } in
      subst (λ (u : Inode). HasAcl t2.sectors u a) (sym access_saved.is) has

  access_keeps_default : KeepsDefault t0.sectors t2.sectors (inode_at p t0.sectors n) (inode_at p t2.sectors n)
  unfolding part
  access_keeps_default =
      let v = inode_at p t0.sectors n in
      let w : Inode = record inode { mode = with_low_bits inode.mode (mode_bits a); acl = y } in
      let mid : KeepsDefault t0.sectors t1.sectors v w = record {
        default = default_is;
        default_sector = λ some. access_turned.others v.default_acl (record { at = DefaultAcl; is = refl; some = some }) (λ e. cc);
      } in
      subst (λ (u : Inode). KeepsDefault t0.sectors t2.sectors v u) (sym access_saved.is) (saved_keeps_default mid access_saved.keeps)

  pub access_is_saved : SameStore t0 t2 → PutsOnly (IsForAcl p y) (bitmaps p) 1 t0 t1 → (y ≡ 0 → TakesSpare p 0 t0 t1)
      → PutsOnly (λ t. t ≡ p.table + n / 4) [] 1 t1 t2 → IsAccessSaved p n inode a t0 t2
  access_is_saved store acl_put none inode_put = record {
    saved = saved_with (λ v. v.acl) access_saved refl (record { kind = refl; mode = refl; uid = refl; gid = refl; names = refl; parent = refl; mtime = refl; ctime = refl; atime = refl }) store acl_put none inode_put;
    access = access_has;
    default = access_keeps_default;
  }

-- ---- the default ACL
module _ (p : Geometry) (n : ℕ) (inode : Inode) (a : Option AccessList) (y : ℕ) (t0 t1 t2 : TxnState)
    (sound : IsSound p t0) (lt : n < p.inodes) (attributes : DiffersInAttributes (inode_at p t0.sectors n) inode) (valid : IsSomeAcl a)
    (way : Stores p inode.default_acl y (contents a) t0.sectors t1.sectors)
    (fits : FitsInode (record inode { default_acl = y })) (saves : Saves p n (record inode { default_acl = y }) t1.sectors t2.sectors) where
  was_default : inode.default_acl ≡ (inode_at p t0.sectors n).default_acl
  was_default = ap (λ (u : Inode). u.default_acl) attributes

  default_turned : HasStored p (inode_at p t0.sectors n) (record (inode_at p t0.sectors n) { default_acl = y }) DefaultAcl (acl_takes inode.default_acl a)
      t0.sectors t1.sectors
  unfolding part
  default_turned =
      turned p n DefaultAcl (record (inode_at p t0.sectors n) { default_acl = y }) a t0 t1 inode.default_acl y sound lt (sym was_default) (λ n i e. cc) valid way
      (turns_default_acl t0.sectors t1.sectors (inode_at p t0.sectors n) inode.default_acl y (sym was_default))

  access_is : inode.acl ≡ (inode_at p t0.sectors n).acl
  access_is = ap (λ (u : Inode). u.acl) attributes

  default_saved : IsAclSaved p n (inode_at p t0.sectors n) (record inode { default_acl = y }) (acl_takes inode.default_acl a) t0 t1 t2
  default_saved =
      let v = inode_at p t0.sectors n in
      acl_saved p n (record v { default_acl = y }) (record inode { default_acl = y }) DefaultAcl (acl_takes inode.default_acl a) t0 t1 t2 sound lt default_turned
      access_is refl (ap levels attributes) fits saves
      (λ m i e. cc) (λ k e. cc) refl (ap (λ (u : Inode). u.size) attributes)

  default_has : HasDefaultAcl t2.sectors (inode_at p t2.sectors n) a
  default_has =
      let w : Inode = record inode { default_acl = y } in
      let there = holds_acl t1.sectors y a (content_there p inode.default_acl y t0.sectors t1.sectors sound.consistent.geometry (contents a) way) in
      let has : HasDefaultAcl t2.sectors w a = record {
        valid = valid;
        stored = acl_stays t1.sectors t2.sectors y a (λ some. default_saved.keeps y (owns_default_acl t1.sectors w some)) there;
      } in
      subst (λ (u : Inode). HasDefaultAcl t2.sectors u a) (sym default_saved.is) has

  default_keeps_access : KeepsAccess t0.sectors t2.sectors (inode_at p t0.sectors n) (inode_at p t2.sectors n)
  unfolding part
  default_keeps_access =
      let v = inode_at p t0.sectors n in
      let w : Inode = record inode { default_acl = y } in
      let mid : KeepsAccess t0.sectors t1.sectors v w = record {
        acl = access_is;
        acl_sector = λ some. default_turned.others v.acl (record { at = AccessAcl; is = refl; some = some }) (λ e. cc);
      } in
      subst (λ (u : Inode). KeepsAccess t0.sectors t2.sectors v u) (sym default_saved.is) (saved_keeps_access mid default_saved.keeps)

  pub default_is_saved : SameStore t0 t2 → PutsOnly (IsForAcl p y) (bitmaps p) 1 t0 t1 → (y ≡ 0 → TakesSpare p 0 t0 t1)
      → PutsOnly (λ t. t ≡ p.table + n / 4) [] 1 t1 t2 → IsDefaultSaved p n inode a t0 t2
  default_is_saved store acl_put none inode_put = record {
    saved = saved_with (λ v. v.default_acl) default_saved refl (record { kind = refl; mode = refl; uid = refl; gid = refl; names = refl; parent = refl; mtime = refl; ctime = refl; atime = refl }) store acl_put none inode_put;
    default = default_has;
    access = default_keeps_access;
  }
