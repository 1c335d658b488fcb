-- What a step leaves alone.
use Rattle.std.proofs.Common.{◌≡◌, ◌≢◌, ℕ, refl, sym, subst, ◌∙◌}
use Rattle.fs_layout.specs.declared.inode.Inode.{Inode}
use Rattle.fs_layout.specs.declared.geometry.Geometry.{Geometry}
use Rattle.fs_layout.specs.Bytes.{SectorMap}
use Rattle.fs_layout.specs.InodeChanges.{Keeps, ChangesBlocks}
use Rattle.fs_layout.proofs.Parts.{owns_acl, owns_default_acl}
use Rattle.fs_layout.proofs.Composes.{apart_after, both_changes}
use Rattle.sector_txn.specs.Sectors.{TxnState, IsUnchanged}
use Rattle.bit_alloc.specs.Inodes.{KeepsFields, KeepsAcls}
use Rattle.block_map.specs.Steps.{MayChange, Alters}
use Rattle.block_map.proofs.Runs.{same_map}

-- an inode has its own attributes
pub fields_same : {v : Inode} → KeepsFields v v
fields_same = record { kind = refl; mode = refl; uid = refl; gid = refl; names = refl; parent = refl; mtime = refl; ctime = refl; atime = refl }

-- the sectors of the ACLs are the same
pub acls_kept : {old new : SectorMap} {v w : Inode} → w.acl ≡ v.acl → w.default_acl ≡ v.default_acl → (v.acl ≢ 0 → new v.acl ≡ old v.acl)
    → (v.default_acl ≢ 0 → new v.default_acl ≡ old v.default_acl) → KeepsAcls old new v w
acls_kept acl default one two = record { access = record { acl = acl; acl_sector = one }; default = record { default = default; default_sector = two } }

-- nothing that the inode owns differs
pub acls_where_kept : {old new : SectorMap} {v w : Inode} → w.acl ≡ v.acl → w.default_acl ≡ v.default_acl → Keeps old new v → KeepsAcls old new v w
acls_where_kept {old} {new} {v} acl default keeps =
    acls_kept acl default (λ some. keeps v.acl (owns_acl old v some)) (λ some. keeps v.default_acl (owns_default_acl old v some))

-- one step after another
pub fields_joined : {u v w : Inode} → KeepsFields u v → KeepsFields v w → KeepsFields u w
fields_joined a b = record {
  kind = b.kind ∙ a.kind;
  mode = b.mode ∙ a.mode;
  uid = b.uid ∙ a.uid;
  gid = b.gid ∙ a.gid;
  names = b.names ∙ a.names;
  parent = b.parent ∙ a.parent;
  mtime = b.mtime ∙ a.mtime;
  ctime = b.ctime ∙ a.ctime;
  atime = b.atime ∙ a.atime;
}

acl_on : (mid new : SectorMap) (s t : ℕ) → t ≡ s → (t ≢ 0 → new t ≡ mid t) → s ≢ 0 → new s ≡ mid s
acl_on mid new s t e same some = subst (λ (u : ℕ). u ≢ 0 → new u ≡ mid u) e same some

pub acls_joined : {old mid new : SectorMap} {u v w : Inode} → KeepsAcls old mid u v → KeepsAcls mid new v w → KeepsAcls old new u w
acls_joined {old} {mid} {new} {u} {v} {w} a b =
    acls_kept (b.access.acl ∙ a.access.acl) (b.default.default ∙ a.default.default)
    (λ some. acl_on mid new u.acl v.acl a.access.acl b.access.acl_sector some ∙ a.access.acl_sector some)
    (λ some. acl_on mid new u.default_acl v.default_acl a.default.default b.default.default_sector some ∙ a.default.default_sector some)

pub alters_joined : {p : Geometry} {old mid new : TxnState} {u v w : Inode} → Alters p old mid u v → Alters p mid new v w → Alters p old new u w
alters_joined a b = record {
  blocks = both_changes a.bitmaps.geometry a.blocks b.blocks;
  fields = fields_joined a.fields b.fields;
  acls = acls_joined a.acls b.acls;
  bitmaps = b.bitmaps;
  fits = b.fits;
}

-- and the inode may be changed again
pub may_after : {p : Geometry} {old new : TxnState} {v w : Inode} → MayChange p old v → Alters p old new v w → MayChange p new w
may_after may a = record {
  bitmaps = a.bitmaps;
  apart = apart_after a.bitmaps.geometry may.apart a.blocks.owned;
  fits = a.fits;
  used = λ e. may.used (sym a.fields.kind ∙ e);
}

-- after reads
pub altered_after : {p : Geometry} {old start mid : TxnState} {v w : Inode} → IsUnchanged old start → Alters p start mid v w → Alters p old mid v w
altered_after {p} {old} {start} {mid} {v} {w} same a =
    let e : start.sectors ≡ old.sectors = same_map old.sectors start.sectors same.sectors in
    record {
      blocks = subst (λ (image : SectorMap). ChangesBlocks p v w image mid.sectors) e a.blocks;
      fields = a.fields;
      acls = subst (λ (image : SectorMap). KeepsAcls image mid.sectors v w) e a.acls;
      bitmaps = a.bitmaps;
      fits = a.fits;
    }
