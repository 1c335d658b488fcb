-- What an inode has once it is saved, after what it owns has changed or not.
use Rattle.std.proofs.Common.{◌≡◌, ℕ, suc, ◌+◌, ◌/◌, ◌<◌, [], refl, sym, ap, subst, ◌∙◌, arith}
use Rattle.fs_layout.specs.declared.inode.Inode.{Inode}
use Rattle.fs_layout.specs.declared.geometry.Geometry.{Geometry}
use Rattle.fs_layout.specs.Bytes.{SectorMap}
use Rattle.fs_layout.specs.Inode.{FitsInode}
use Rattle.fs_layout.specs.InodeTimes.{DiffersInTimes}
use Rattle.fs_layout.specs.Images.{bit, inode_at, levels}
use Rattle.fs_layout.specs.Ownership.{IsConsistent}
use Rattle.fs_layout.specs.InodeChanges.{Keeps, ChangesBlocks, Saves}
use Rattle.fs_layout.proofs.Blocks.{fields_change}
use Rattle.fs_layout.proofs.Consistent.{owned_is_apart, saved_stays_consistent}
use Rattle.fs_layout.proofs.Held.{NeedsPointers, HasSameBlocks, Holds-again, HasNoHole-again}
use Rattle.fs_layout.proofs.Parts.{number_on_alike, owns_acl, owns_default_acl, Holds-kept, HasNoHole-kept}
use Rattle.fs_layout.proofs.Places.{after_map}
use Rattle.fs_layout.proofs.Saves.{IsSaved}
use Rattle.fs_layout.proofs.Bits.{inode_has_bit}
use Rattle.sector_txn.specs.Sectors.{TxnState, SameStore, PutsOnly}
use Rattle.bit_alloc.specs.Inodes.{IsSound, Touches, KeepsBytes, KeepsAccess, KeepsDefault, KeepsAcls}
use Rattle.inode_table.specs.Inodes.{DiffersInAttributes}
use Rattle.bit_alloc.proofs.Soundness.{sound_after}
use Rattle.inode_table.proofs.Sound.{puts_inode}

-- ---- before the save
-- an inode with the same blocks holds the same
pub same_blocks_keep_bytes : {old new : SectorMap} {v w : Inode} → HasSameBlocks old new v w → NeedsPointers old new v w → KeepsBytes old new v w
same_blocks_keep_bytes b pointers = record {
  bytes = λ held h. Holds-again b pointers h;
  whole = HasNoHole-again b;
}

-- so does one with other fields
pub fields_keep_bytes : (image : SectorMap) (v w : Inode) → w.size ≡ v.size → levels w ≡ levels v → KeepsBytes image image v w
fields_keep_bytes image v w size same =
    let b : HasSameBlocks image image v w = record { pointers = number_on_alike image image v w same (λ n i some. refl) 0; same = λ k has. refl; size = size } in
    same_blocks_keep_bytes b (λ level i le none. number_on_alike image image v w same (λ n j some. refl) (suc level) i ∙ none)

-- ---- after it
-- what the inode holds is not touched by it
pub saved_keeps_bytes : {old mid new : SectorMap} {v w : Inode} → KeepsBytes old mid v w → Keeps mid new w → KeepsBytes old new v w
saved_keeps_bytes b keeps = record { bytes = λ held h. Holds-kept keeps (b.bytes held h); whole = λ h. HasNoHole-kept keeps (b.whole h) }

-- nor are its ACLs
on : (mid new : SectorMap) {s t : ℕ} → t ≡ s → new t ≡ mid t → new s ≡ mid s
on mid new e same = subst (λ (u : ℕ). new u ≡ mid u) e same

pub saved_keeps_access : {old mid new : SectorMap} {v w : Inode} → KeepsAccess old mid v w → Keeps mid new w → KeepsAccess old new v w
saved_keeps_access {mid = mid} {new} {w = w} a keeps = record {
  acl = a.acl;
  acl_sector = λ some. on mid new a.acl (keeps w.acl (owns_acl mid w (λ e. some (sym a.acl ∙ e)))) ∙ a.acl_sector some;
}

pub saved_keeps_default : {old mid new : SectorMap} {v w : Inode} → KeepsDefault old mid v w → Keeps mid new w → KeepsDefault old new v w
saved_keeps_default {mid = mid} {new} {w = w} a keeps = record {
  default = a.default;
  default_sector = λ some. on mid new a.default (keeps w.default_acl (owns_default_acl mid w (λ e. some (sym a.default ∙ e)))) ∙ a.default_sector some;
}

-- ---- an inode with other attributes
-- times are some of them
pub times_are_attributes : (v w : Inode) → DiffersInTimes v w → DiffersInAttributes v w
times_are_attributes v w differs = subst (λ (u : Inode). DiffersInAttributes v u) (sym differs) refl

-- what saving it comes to
pub record HasSaved (p : Geometry) (n : ℕ) (w : Inode) (old new : TxnState) : Type 0 where
  pub sound : IsSound p new
  pub touches : Touches p n 0 1 old new
  pub saved : inode_at p new.sectors n ≡ w
  pub bytes : KeepsBytes old.sectors new.sectors (inode_at p old.sectors n) (inode_at p new.sectors n)
  pub acls : KeepsAcls old.sectors new.sectors (inode_at p old.sectors n) (inode_at p new.sectors n)
  pub used : bit new.sectors p.inode_bitmap n ≡ bit old.sectors p.inode_bitmap n

module _ (p : Geometry) (n : ℕ) (w : Inode) (old new : TxnState)
    (sound : IsSound p old) (lt : n < p.inodes) (attributes : DiffersInAttributes (inode_at p old.sectors n) w) (fits : FitsInode w)
    (saves : Saves p n w old.sectors new.sectors) where
  owns_same : ChangesBlocks p (inode_at p old.sectors n) w old.sectors old.sectors
  owns_same =
      let h : IsConsistent p old.sectors = sound.consistent in
      fields_change h.geometry h.sectors (owned_is_apart h n lt)
      (ap (λ (u : Inode). u.acl) attributes) (ap (λ (u : Inode). u.default_acl) attributes)
      (ap levels attributes)

  saved : IsConsistent p new.sectors × IsSaved p n w old.sectors old.sectors new.sectors
  saved = saved_stays_consistent sound.consistent lt refl fits owns_same saves

  pub attributes_sound : SameStore old new → IsSound p new
  attributes_sound store = sound_after sound store saved.0 (λ m few none. saved.1.inode_bits m few)

  attributes_touch : PutsOnly (λ t. t ≡ p.table + n / 4) [] 1 old new → Touches p n 0 1 old new
  attributes_touch puts = record {
    puts = puts_inode p n puts;
    super = saves.others 0 (let a = after_map sound.consistent.geometry in λ e. omega (arith, a, e));
    inode = saved.1.changes;
    free = omega (arith, saved.1.free);
  }

  pub attributes_keep_bytes : KeepsBytes old.sectors new.sectors (inode_at p old.sectors n) (inode_at p new.sectors n)
  attributes_keep_bytes =
      let same = fields_keep_bytes old.sectors (inode_at p old.sectors n) w (ap (λ (u : Inode). u.size) attributes)
      (ap levels attributes) in
      subst (λ (u : Inode). KeepsBytes old.sectors new.sectors (inode_at p old.sectors n) u) (sym saved.1.is) (saved_keeps_bytes same saved.1.keeps)

  attributes_keep_acls : KeepsAcls old.sectors new.sectors (inode_at p old.sectors n) (inode_at p new.sectors n)
  attributes_keep_acls =
      let access : KeepsAccess old.sectors old.sectors (inode_at p old.sectors n) w = record { acl = ap (λ (u : Inode). u.acl) attributes; acl_sector = λ some. refl } in
      let default : KeepsDefault old.sectors old.sectors (inode_at p old.sectors n) w =
      record { default = ap (λ (u : Inode). u.default_acl) attributes; default_sector = λ some. refl } in
      subst (λ (u : Inode). KeepsAcls old.sectors new.sectors (inode_at p old.sectors n) u) (sym saved.1.is)
      (record { access = saved_keeps_access access saved.1.keeps; default = saved_keeps_default default saved.1.keeps })

  pub has_saved : PutsOnly (λ t. t ≡ p.table + n / 4) [] 1 old new → HasSaved p n w old new
  has_saved puts = record {
    sound = attributes_sound puts.store;
    touches = attributes_touch puts;
    saved = saved.1.is;
    bytes = attributes_keep_bytes;
    acls = attributes_keep_acls;
    used = saved.1.inode_bits n (inode_has_bit sound.consistent.geometry n lt);
  }
