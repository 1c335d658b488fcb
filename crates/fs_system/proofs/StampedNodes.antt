-- An inode whose times are set, and the node that it holds then.
--     stamps_of, stamps_given        its times
--     given_fits        it may be saved so
--     stamps_fit        times that are given
--     stamped_held        all else of the node stays
use Rattle.std.proofs.Common.{◌≡◌, ◌≢◌, ℕ, Option, refl, sym, ap, subst, ◌∙◌}
use Rattle.std.specs.Prelude.{◌^◌, ◌<◌, Bool, true, false, cond, List, None, Some, unwrap_or}
use Rattle.fs_layout.specs.declared.inode.Inode.{Inode}
use Rattle.fs_layout.specs.declared.inode.Kind.TheVariants as kinds
use Rattle.fs_layout.specs.declared.version.Version.{Version}
use Rattle.fs_layout.specs.AclSector.{HoldsAcl}
use Rattle.fs_layout.specs.Bytes.{SectorMap}
use Rattle.fs_layout.specs.Directories.{HasNames}
use Rattle.fs_layout.specs.Inode.{FitsInode}
use Rattle.fs_layout.proofs.KeptParts.{HoldsAcl-kept}
use Rattle.fs_layout.proofs.UsedInodes.{with_times_fits}
use Rattle.posix_acl.specs.AccessList.{AccessList}
use Rattle.bit_alloc.specs.Inodes.{KeepsBytes, KeepsAcls}
use Rattle.fs_model.specs.declared.reply.Stamps.{Stamps}
use Rattle.fs_model.specs.Nodes.{Body, File, Dir, Link, stamped}
use Rattle.fs_model.specs.Ranges.{IsSomeCount}
use Rattle.fs_model.specs.StoredNodes.{Placed, HoldsBody, HoldsNode}
use Rattle.fs_model.specs.StoredStamps.{stamps_in}
use Rattle.fs_model.specs.Trees.{AreStamps}
use Rattle.call_parts.specs.Times.{with_times}

-- ---- the inode

pub stamps_of : (v : Inode) → record { atime = v.atime; mtime = v.mtime; ctime = v.ctime } ≡ stamps_in v
unfolding stamps_in
stamps_of v = refl

pub stamps_given : (v w : Inode) (x : Stamps) → w ≡ with_times v x → stamps_in w ≡ x
unfolding stamps_in
stamps_given v w x is = ap (λ (u : Inode). record { atime = u.atime; mtime = u.mtime; ctime = u.ctime }) is

time_fits : (o : Option ℕ) (old : ℕ) → IsSomeCount o → old < 2 ^ 64 → unwrap_or o old < 2 ^ 64
time_fits None old given small = small
time_fits (Some k) old given small = given

module _ (atime mtime ctime : Option ℕ) where
  pub given_is : (v w : Inode)
      → w ≡ (record v { atime = unwrap_or atime v.atime; mtime = unwrap_or mtime v.mtime; ctime = unwrap_or ctime v.ctime })
      → w ≡ with_times v (stamped atime mtime ctime (stamps_in v))
  unfolding stamps_in
  given_is v w is = is

  pub given_fits : (v w : Inode) → w ≡ with_times v (stamped atime mtime ctime (stamps_in v)) → IsSomeCount atime → IsSomeCount mtime → IsSomeCount ctime
      → FitsInode v → v.kind ≢ kinds.Free → FitsInode w
  unfolding stamps_in
  given_fits v w is a m c fits used =
      subst FitsInode (sym is)
      (with_times_fits fits used (record {
        mtime_small = time_fits mtime v.mtime m fits.mtime;
        ctime_small = time_fits ctime v.ctime c fits.ctime;
        atime_small = time_fits atime v.atime a fits.atime;
      }))

  pub stamps_fit : (keeps : Bool) (x : Stamps) → IsSomeCount atime → IsSomeCount mtime → IsSomeCount ctime → AreStamps keeps x
      → AreStamps keeps (cond keeps (stamped atime mtime ctime x) x)
  stamps_fit false x a m c h = h
  stamps_fit true x a m c h = record {
    atime = time_fits atime x.atime a h.atime;
    mtime = time_fits mtime x.mtime m h.mtime;
    ctime = time_fits ctime x.ctime c h.ctime;
    none = λ off. absurd cc;
  }

-- ---- the node

module _ (old new : SectorMap) (v w : Inode) (kind : w.kind ≡ v.kind) (bytes : KeepsBytes old new v w) (acls : KeepsAcls old new v w) where
  access_stays : (a : Option AccessList) → HoldsAcl old v.acl a → HoldsAcl new w.acl a
  access_stays a h = subst (λ s. HoldsAcl new s a) (sym acls.access.acl) (HoldsAcl-kept old new v.acl a acls.access.acl_sector h)

  default_stays : (a : Option AccessList) → HoldsAcl old v.default_acl a → HoldsAcl new w.default_acl a
  default_stays a h = subst (λ s. HoldsAcl new s a) (sym acls.default.default) (HoldsAcl-kept old new v.default_acl a acls.default.default_sector h)

  names_stay : {version : Version} {names : List (List ℕ × ℕ)} → HasNames version old v names → HasNames version new w names
  names_stay h = record {
    kind = kind ∙ h.kind;
    slots = h.slots;
    are = h.are;
    apart = h.apart;
    each = h.each;
    few = h.few;
    holds = bytes.bytes _ h.holds;
    whole = bytes.whole h.whole;
  }

  body_stays : (version : Version) (b : Body) → HoldsBody version old v b → HoldsBody version new w b
  body_stays version (File a held) h = record {
    kind = kind ∙ h.kind;
    holds = bytes.bytes held h.holds;
    acl = h.acl;
    has_acl = access_stays _ h.has_acl;
    no_default = acls.default.default ∙ h.no_default;
  }
  body_stays version (Dir a d) h = record {
    names = names_stay h.names;
    acl = h.acl;
    default = h.default;
    has_acl = access_stays _ h.has_acl;
    has_default = default_stays d.default h.has_default;
  }
  body_stays version (Link target) h = record {
    kind = kind ∙ h.kind;
    holds = bytes.bytes target h.holds;
    whole = bytes.whole h.whole;
    no_acl = acls.access.acl ∙ h.no_acl;
    no_default = acls.default.default ∙ h.no_default;
  }

-- after save
pub stamped_held : {version : Version} (old new : SectorMap) (v w : Inode) (x : Placed) (y : Stamps) → HoldsNode version old v x → w ≡ with_times v y
    → KeepsBytes old new v w → KeepsAcls old new v w → HoldsNode version new w (record x { node = record x.node { stamps = y } })
stamped_held {version} old new v w x y h is bytes acls = record {
  owner = ap (λ (i : Inode). i.uid) is ∙ h.owner;
  group = ap (λ (i : Inode). i.gid) is ∙ h.group;
  mode = ap (λ (i : Inode). i.mode) is ∙ h.mode;
  names = ap (λ (i : Inode). i.names) is ∙ h.names;
  parent = ap (λ (i : Inode). i.parent) is ∙ h.parent;
  stamps = stamps_given v w y is;
  body = body_stays old new v w (ap (λ (i : Inode). i.kind) is) bytes acls version x.node.body h.body;
}
