-- The node that an inode holds after a call that changed one thing of it, or made it. v is the inode before, and w after.
--     GivesAcl, special_bits        a body with another access ACL; the bits of a mode above the permission bits
--     acl_held, moded_held, set_acl_held        another access ACL, and of a directory other S_ISGID and S_ISVTX
--     owner_held, owned_held, default_held, bytes_held, names_held        another owner and group, default ACL; other bytes, names
--     counted_held, moved_held        another count of names; another parent
--     same_times, times_kept, times_held        the same times, and others
--     new_file_held, new_directory_held, new_link_held        what was made
use Rattle.std.specs.Prelude.{◌≡◌, ℕ, ◌+◌, ◌*◌, ◌/◌, ◌<◌, Bool, true, false, cond, List, [], Option, None, Some, unwrap_or, if◌then◌else◌, IsTrue, IsFalse}
use Rattle.std.proofs.Common.{refl, sym, ap, arith, ◌∙◌, subst}
use Rattle.posix_acl.specs.AccessList.{AccessList, IsAcl, IsSomeAcl, mode_bits, with_mode_bits}
use Rattle.fs_cred.specs.Credentials.{Credential}
use Rattle.fs_layout.specs.declared.inode.TheConstants.{S_ISGID, S_ISVTX}
use Rattle.fs_layout.specs.declared.inode.Inode.{Inode}
use Rattle.fs_layout.specs.declared.inode.Kind.TheVariants as kinds
use Rattle.fs_layout.specs.declared.version.Version.{Version}
use Rattle.fs_layout.specs.Bytes.{SectorMap}
use Rattle.fs_layout.specs.AclSector.{HoldsAcl, kept_acl}
use Rattle.fs_layout.specs.Directories.{HasNames}
use Rattle.fs_layout.specs.Images.{Holds, HasNoHole}
use Rattle.fs_layout.proofs.KeptParts.{HoldsAcl-kept}
use Rattle.fs_layout.proofs.OneAcl.{mode_small}
use Rattle.fs_model.specs.AttributeCalls.{with_mode, moded, owned}
use Rattle.fs_model.specs.declared.reply.Stamps.{Stamps}
use Rattle.fs_model.specs.declared.touch.Touch.{Touch}
use Rattle.fs_model.specs.declared.touch.Touch.TheVariants.{Untouched, Changed, Modified, Born}
use Rattle.fs_model.specs.StoredStamps.{stamps_in}
use Rattle.fs_model.specs.TreeChanges.{touch_at}
use Rattle.fs_model.specs.Nodes.{no_stamps, Body, File, Dir, Link, Directory, is_directory, is_link, acl_in, with_acl, with_default, with_names, with_bytes, type_of, shown_mode}
use Rattle.fs_model.specs.StoredNodes.{Placed, HoldsBody, HoldsNode, names_field, parent_field}
use Rattle.bit_alloc.specs.Inodes.{KeepsFields, KeepsBytes, KeepsAccess, KeepsDefault, KeepsAcls}
use Rattle.inode_table.specs.Acls.{HasAcl, HasDefaultAcl, with_acl_bits}
use Rattle.block_map.specs.Links.{IsNewLink, HasNoAcls}
use Rattle.call_parts.specs.Times.{with_times}
use Rattle.dir_core.proofs.Empty.{no_names}
use Rattle.path_walk.proofs.HeldNodes.{parent_says}

-- ---- what is kept

module _ {old new : SectorMap} {v w : Inode} where
  access_again : (a : Option AccessList) → KeepsAccess old new v w → HoldsAcl old v.acl a → HoldsAcl new w.acl a
  access_again a keeps h = subst (λ s. HoldsAcl new s a) (sym keeps.acl) (HoldsAcl-kept old new v.acl a keeps.acl_sector h)

  default_again : (a : Option AccessList) → KeepsDefault old new v w → HoldsAcl old v.default_acl a → HoldsAcl new w.default_acl a
  default_again a keeps h = subst (λ s. HoldsAcl new s a) (sym keeps.default) (HoldsAcl-kept old new v.default_acl a keeps.default_sector h)

  names_again : {version : Version} {names : List (List ℕ × ℕ)} → w.kind ≡ v.kind → KeepsBytes old new v w → HasNames version old v names → HasNames version new w names
  names_again kind keeps h = record {
    kind = kind ∙ h.kind;
    slots = h.slots;
    are = h.are;
    apart = h.apart;
    each = h.each;
    few = h.few;
    holds = keeps.bytes _ h.holds;
    whole = keeps.whole h.whole;
  }

  pub body_again : (version : Version) (b : Body) → w.kind ≡ v.kind → KeepsBytes old new v w → KeepsAcls old new v w → HoldsBody version old v b
      → HoldsBody version new w b
  body_again version (File a bytes) kind keeps acls h = record {
    kind = kind ∙ h.kind;
    holds = keeps.bytes bytes h.holds;
    acl = h.acl;
    has_acl = access_again _ acls.access h.has_acl;
    no_default = acls.default.default ∙ h.no_default;
  }
  body_again version (Dir a d) kind keeps acls h = record {
    names = names_again kind keeps h.names;
    acl = h.acl;
    default = h.default;
    has_acl = access_again _ acls.access h.has_acl;
    has_default = default_again d.default acls.default h.has_default;
  }
  body_again version (Link target) kind keeps acls h = record {
    kind = kind ∙ h.kind;
    holds = keeps.bytes target h.holds;
    whole = keeps.whole h.whole;
    no_acl = acls.access.acl ∙ h.no_acl;
    no_default = acls.default.default ∙ h.no_default;
  }

abbrev three_times : ℕ → ℕ → ℕ → Stamps
three_times atime mtime ctime = record { atime = atime; mtime = mtime; ctime = ctime }

-- the times of an inode are these three
pub same_times : (v : Inode) {atime mtime ctime : ℕ} → v.atime ≡ atime → v.mtime ≡ mtime → v.ctime ≡ ctime
    → stamps_in v ≡ record { atime = atime; mtime = mtime; ctime = ctime }
unfolding stamps_in
same_times v {atime} {mtime} {ctime} a m c =
    ap (λ k. three_times k v.mtime v.ctime) a ∙ ap (λ k. three_times atime k v.ctime) m ∙ ap (λ k. three_times atime mtime k) c

pub times_kept : {v w : Inode} → KeepsFields v w → stamps_in w ≡ stamps_in v
unfolding stamps_in
times_kept {v} {w} fields = same_times w fields.atime fields.mtime fields.ctime

-- a free inode has none
new_times : {v w : Inode} → KeepsFields v w → v.atime ≡ 0 → v.mtime ≡ 0 → v.ctime ≡ 0 → stamps_in w ≡ no_stamps
new_times {v} {w} fields a m c = same_times w (fields.atime ∙ a) (fields.mtime ∙ m) (fields.ctime ∙ c)

-- other attributes leave them
owner_leaves_times : (v : Inode) (uid gid : ℕ) → stamps_in (record v { uid = uid; gid = gid }) ≡ stamps_in v
unfolding stamps_in
owner_leaves_times v uid gid = refl

names_leave_times : (v : Inode) (names : ℕ) → stamps_in (record v { names = names }) ≡ stamps_in v
unfolding stamps_in
names_leave_times v names = refl

parent_leaves_times : (v : Inode) (parent : ℕ) → stamps_in (record v { parent = parent }) ≡ stamps_in v
unfolding stamps_in
parent_leaves_times v parent = refl

acl_leaves_times : (v : Inode) (m : ℕ) (a : AccessList) → stamps_in (with_acl_bits (record v { mode = m }) a) ≡ stamps_in v
unfolding stamps_in
acl_leaves_times v m a = refl

-- the times that have moved
touched_times : (time : ℕ) (touch : Touch) (v : Inode) → stamps_in (with_times v (touch_at time touch (stamps_in v))) ≡ touch_at time touch (stamps_in v)
unfolding stamps_in
touched_times time Untouched v = refl
touched_times time Changed v = refl
touched_times time Modified v = refl
touched_times time Born v = refl

-- a body's type says what names field and parent field mean
same_fields : (b c : Body) → type_of c ≡ type_of b → (k : ℕ) → (names_field c k ≡ names_field b k) × (parent_field c k ≡ parent_field b k)
same_fields (File a s) (File b t) e k = (refl, refl)
same_fields (File a s) (Dir b d) e k = absurd (cc)
same_fields (File a s) (Link t) e k = absurd (cc)
same_fields (Dir a d) (File b t) e k = absurd (cc)
same_fields (Dir a d) (Dir b c) e k = (refl, refl)
same_fields (Dir a d) (Link t) e k = absurd (cc)
same_fields (Link s) (File b t) e k = absurd (cc)
same_fields (Link s) (Dir b d) e k = absurd (cc)
same_fields (Link s) (Link t) e k = (refl, refl)

-- w holds a body of b's type
record Becomes (version : Version) (new : SectorMap) (w : Inode) (b next : Body) : Type 0 where
  type : type_of next ≡ type_of b
  mode : shown_mode next ≡ shown_mode b
  body : HoldsBody version new w next

-- a directory with other names and another default ACL
directory_becomes : {version : Version} {new : SectorMap} {w : Inode} (a : AccessList) (d : Directory) (names : List (List ℕ × ℕ)) (default : Option AccessList) → HasNames version new w names
    → IsAcl a → IsSomeAcl default → HoldsAcl new w.acl (kept_acl a) → HoldsAcl new w.default_acl default
    → Becomes version new w (Dir a d) (Dir a (record d { names = names; default = default }))
directory_becomes a d names default has acl valid has_acl has_default = record {
  type = refl;
  mode = refl;
  body = record { names = has; acl = acl; default = valid; has_acl = has_acl; has_default = has_default };
}

-- ---- an inode that held a node

module _ {version : Version} (old new : SectorMap) (v w : Inode) (x : Placed) (h : HoldsNode version old v x) where
  with_body : (u : Inode) (next : Body) → KeepsFields u w → u.uid ≡ v.uid → u.gid ≡ v.gid → u.names ≡ v.names → u.parent ≡ v.parent → stamps_in u ≡ stamps_in v
      → u.mode ≡ shown_mode next → type_of next ≡ type_of x.node.body → HoldsBody version new w next → HoldsNode version new w (record x { node = record x.node { body = next } })
  with_body u next fields owner group names parent times mode type body = record {
    owner = fields.uid ∙ owner ∙ h.owner;
    group = fields.gid ∙ group ∙ h.group;
    mode = fields.mode ∙ mode;
    names = fields.names ∙ names ∙ h.names ∙ sym (same_fields x.node.body next type x.names).0;
    parent = fields.parent ∙ parent ∙ h.parent ∙ sym (same_fields x.node.body next type x.parent).1;
    stamps = times_kept fields ∙ times ∙ h.stamps;
    body = body;
  }

  with_fields : (next : Body) → KeepsFields v w → Becomes version new w x.node.body next → HoldsNode version new w (record x { node = record x.node { body = next } })
  with_fields next fields is = with_body v next fields refl refl refl refl refl (h.mode ∙ sym is.mode) is.type is.body

  -- another owner and group, as after save
  pub owner_held : (owner group : ℕ) → w ≡ record v { uid = owner; gid = group } → KeepsBytes old new v w → KeepsAcls old new v w
      → HoldsNode version new w (record x { node = record x.node { owner = owner; group = group } })
  owner_held owner group is bytes acls = record {
    owner = ap (λ (i : Inode). i.uid) is;
    group = ap (λ (i : Inode). i.gid) is;
    mode = ap (λ (i : Inode). i.mode) is ∙ h.mode;
    names = ap (λ (i : Inode). i.names) is ∙ h.names;
    parent = ap (λ (i : Inode). i.parent) is ∙ h.parent;
    stamps = ap stamps_in is ∙ owner_leaves_times v owner group ∙ h.stamps;
    body = body_again version x.node.body (ap (λ (i : Inode). i.kind) is) bytes acls h.body;
  }

  -- one that isn't given stays
  pub owned_held : (owner group : Option ℕ) → w ≡ record v { uid = unwrap_or owner v.uid; gid = unwrap_or group v.gid } → KeepsBytes old new v w → KeepsAcls old new v w
      → HoldsNode version new w (record x { node = owned owner group x.node })
  owned_held owner group is bytes acls =
      subst (λ k. HoldsNode version new w (record x { node = record x.node { owner = unwrap_or owner k; group = unwrap_or group x.node.group } })) h.owner
      (subst (λ k. HoldsNode version new w (record x { node = record x.node { owner = unwrap_or owner v.uid; group = unwrap_or group k } })) h.group
      (owner_held (unwrap_or owner v.uid) (unwrap_or group v.gid) is bytes acls))

  -- another default ACL, as after save_default_acl
  pub default_held : (d : Option AccessList) → IsTrue (is_directory x.node.body) → KeepsFields v w → KeepsBytes old new v w → KeepsAccess old new v w → HasDefaultAcl new w d
      → HoldsNode version new w (record x { node = record x.node { body = with_default d x.node.body } })
  default_held d is fields bytes access has = with_fields _ fields (go x.node.body is h.body)
    where
      go : (b : Body) → IsTrue (is_directory b) → HoldsBody version old v b → Becomes version new w b (with_default d b)
      go (File a s) is h = absurd (cc)
      go (Dir a e) is h = directory_becomes a e e.names d (names_again fields.kind bytes h.names) h.acl has.valid (access_again _ access h.has_acl) has.stored
      go (Link target) is h = absurd (cc)

  -- other bytes, as after set_size and write_at
  pub bytes_held : (bytes : List ℕ) → v.kind ≡ kinds.File → KeepsFields v w → KeepsAcls old new v w → Holds new w bytes
      → HoldsNode version new w (record x { node = record x.node { body = with_bytes bytes x.node.body } })
  bytes_held bytes is fields acls holds = with_fields _ fields (go x.node.body h.body)
    where
      go : (b : Body) → HoldsBody version old v b → Becomes version new w b (with_bytes bytes b)
      go (File a s) h = record {
        type = refl;
        mode = refl;
        body = record {
          kind = fields.kind ∙ is;
          holds = holds;
          acl = h.acl;
          has_acl = access_again _ acls.access h.has_acl;
          no_default = acls.default.default ∙ h.no_default;
        };
      }
      go (Dir a d) h = absurd (let c : kinds.Directory ≡ kinds.File = sym h.names.kind ∙ is in cc)
      go (Link target) h = absurd (let c : kinds.Link ≡ kinds.File = sym h.kind ∙ is in cc)

  -- other names, as after insert, remove and replace
  pub names_held : (names : List (List ℕ × ℕ)) → IsTrue (is_directory x.node.body) → KeepsFields v w → KeepsAcls old new v w → HasNames version new w names
      → HoldsNode version new w (record x { node = record x.node { body = with_names names x.node.body } })
  names_held names is fields acls has = with_fields _ fields (go x.node.body is h.body)
    where
      go : (b : Body) → IsTrue (is_directory b) → HoldsBody version old v b → Becomes version new w b (with_names names b)
      go (File a s) is h = absurd (cc)
      go (Dir a d) is h = directory_becomes a d names d.default has h.acl h.default (access_again _ acls.access h.has_acl) (default_again d.default acls.default h.has_default)
      go (Link target) is h = absurd (cc)

  -- of what is no directory another count of names, as after save; where it is named isn't stored
  pub counted_held : (names up : ℕ) → IsFalse (is_directory x.node.body) → w ≡ record v { names = names } → KeepsBytes old new v w → KeepsAcls old new v w
      → HoldsNode version new w (record { node = x.node; names = names; parent = up })
  counted_held names up other is bytes acls =
      let fields = go x.node.body other in
      record {
        owner = ap (λ (i : Inode). i.uid) is ∙ h.owner;
        group = ap (λ (i : Inode). i.gid) is ∙ h.group;
        mode = ap (λ (i : Inode). i.mode) is ∙ h.mode;
        names = ap (λ (i : Inode). i.names) is ∙ sym fields.0;
        parent = ap (λ (i : Inode). i.parent) is ∙ h.parent ∙ sym fields.1;
        stamps = ap stamps_in is ∙ names_leave_times v names ∙ h.stamps;
        body = body_again version x.node.body (ap (λ (i : Inode). i.kind) is) bytes acls h.body;
      }
    where
      go : (b : Body) → IsFalse (is_directory b) → (names_field b names ≡ names) × (parent_field b up ≡ parent_field b x.parent)
      go (File a s) other = (refl, refl)
      go (Dir a d) other = absurd (cc)
      go (Link target) other = (refl, refl)

  -- of a directory another parent, as after save
  pub moved_held : (up : ℕ) → IsTrue (is_directory x.node.body) → w ≡ record v { parent = up } → KeepsBytes old new v w → KeepsAcls old new v w
      → HoldsNode version new w (record x { parent = up })
  moved_held up dir_ino is bytes acls = record {
    owner = ap (λ (i : Inode). i.uid) is ∙ h.owner;
    group = ap (λ (i : Inode). i.gid) is ∙ h.group;
    mode = ap (λ (i : Inode). i.mode) is ∙ h.mode;
    names = ap (λ (i : Inode). i.names) is ∙ h.names;
    parent = ap (λ (i : Inode). i.parent) is ∙ sym (parent_says x.node.body up dir_ino);
    stamps = ap stamps_in is ∙ parent_leaves_times v up ∙ h.stamps;
    body = body_again version x.node.body (ap (λ (i : Inode). i.kind) is) bytes acls h.body;
  }

  -- other times, as after save
  pub times_held : (time : ℕ) (touch : Touch) → w ≡ with_times v (touch_at time touch (stamps_in v)) → KeepsBytes old new v w → KeepsAcls old new v w
      → HoldsNode version new w (record x { node = record x.node { stamps = touch_at time touch x.node.stamps } })
  times_held time touch is bytes acls = record {
    owner = ap (λ (i : Inode). i.uid) is ∙ h.owner;
    group = ap (λ (i : Inode). i.gid) is ∙ h.group;
    mode = ap (λ (i : Inode). i.mode) is ∙ h.mode;
    names = ap (λ (i : Inode). i.names) is ∙ h.names;
    parent = ap (λ (i : Inode). i.parent) is ∙ h.parent;
    stamps = ap stamps_in is ∙ touched_times time touch v ∙ ap (touch_at time touch) h.stamps;
    body = body_again version x.node.body (ap (λ (i : Inode). i.kind) is) bytes acls h.body;
  }

-- ---- another access ACL

-- The body with this access ACL, and a directory's with other S_ISGID and S_ISVTX.
pub data GivesAcl (a : AccessList) : Body → Body → Type 0 where
  to_file : (b : AccessList) (bytes : List ℕ) → GivesAcl a (File b bytes) (File a bytes)
  to_directory : (b : AccessList) (d : Directory) (sticky set_group_id : Bool)
      → GivesAcl a (Dir b d) (Dir a (record d { sticky = sticky; set_group_id = set_group_id }))

-- what a body shows above the nine permission bits, in units of 512
abbrev pub special_bits : Body → ℕ
special_bits (File a bytes) = 0
special_bits (Dir a d) = (if d.sticky then 1 else 0) + (if d.set_group_id then 2 else 0)
special_bits (Link target) = 0

put_together : (n k : ℕ) (s g : Bool) → k ≡ cond s 1 0 + cond g 2 0 → 512 * k + n ≡ n + cond s S_ISVTX 0 + cond g S_ISGID 0
put_together n k true true e = omega (arith, e)
put_together n k true false e = omega (arith, e)
put_together n k false true e = omega (arith, e)
put_together n k false false e = omega (arith, e)

taken_apart : (n m : ℕ) (s g : Bool) → n < 512 → m ≡ n + cond s S_ISVTX 0 + cond g S_ISGID 0 → m / 512 ≡ cond s 1 0 + cond g 2 0
taken_apart n m true true lt e = omega (arith, lt, e)
taken_apart n m true false lt e = omega (arith, lt, e)
taken_apart n m false true lt e = omega (arith, lt, e)
taken_apart n m false false lt e = omega (arith, lt, e)

-- the bits of a mode that shows the body
pub special_says : (b : Body) (m : ℕ) → m ≡ shown_mode b → m / 512 ≡ special_bits b
special_says (File a bytes) m e = let lt = mode_small a in omega (arith, lt, e)
special_says (Dir a d) m e = taken_apart (mode_bits a) m d.sticky d.set_group_id (mode_small a) e
special_says (Link target) m e = omega (arith, e)

special_with_acl : (a : AccessList) (b : Body) → special_bits (with_acl a b) ≡ special_bits b
special_with_acl a (File b bytes) = refl
special_with_acl a (Dir b d) = refl
special_with_acl a (Link target) = refl

acl_type : (a : AccessList) (b c : Body) → GivesAcl a b c → type_of c ≡ type_of b
acl_type a b c (to_file x bytes) = refl
acl_type a b c (to_directory x d sticky set_group_id) = refl

acl_mode : (a : AccessList) (b c : Body) (k : ℕ) → GivesAcl a b c → k ≡ special_bits c → 512 * k + mode_bits a ≡ shown_mode c
acl_mode a b c k (to_file x bytes) e = omega (arith, e)
acl_mode a b c k (to_directory x d sticky set_group_id) e = put_together (mode_bits a) k sticky set_group_id e

acl_body : (version : Version) (old new : SectorMap) (v w : Inode) (a : AccessList) (b c : Body) → GivesAcl a b c → HoldsBody version old v b → w.kind ≡ v.kind
    → KeepsBytes old new v w → KeepsDefault old new v w → HasAcl new w a → HoldsBody version new w c
acl_body version old new v w a b c (to_file x bytes) h kind keeps default has = record {
  kind = kind ∙ h.kind;
  holds = keeps.bytes bytes h.holds;
  acl = has.valid;
  has_acl = has.stored;
  no_default = default.default ∙ h.no_default;
}
acl_body version old new v w a b c (to_directory x d sticky set_group_id) h kind keeps default has = record {
  names = names_again kind keeps h.names;
  acl = has.valid;
  default = h.default;
  has_acl = has.stored;
  has_default = default_again d.default default h.has_default;
}

module _ {version : Version} (old new : SectorMap) (v w : Inode) (x : Placed) (h : HoldsNode version old v x) where
  -- another access ACL, and bits of the mode, as after save_acl
  pub acl_held : (m : ℕ) (a : AccessList) (next : Body) → GivesAcl a x.node.body next → m / 512 ≡ special_bits next
      → KeepsFields (with_acl_bits (record v { mode = m }) a) w → KeepsBytes old new v w → KeepsDefault old new v w → HasAcl new w a
      → HoldsNode version new w (record x { node = record x.node { body = next } })
  acl_held m a next gives bits fields bytes default has =
      with_body old new v w x h (with_acl_bits (record v { mode = m }) a) next fields refl refl refl refl (acl_leaves_times v m a) (acl_mode a x.node.body next (m / 512) gives bits)
      (acl_type a x.node.body next gives) (acl_body version old new v w a x.node.body next gives h.body fields.kind bytes default has)

  -- after chmod: the bits in the ACL that the node had, and S_ISGID and S_ISVTX
  pub moded_held : (cred : Credential) (mode m : ℕ) (a : AccessList) → acl_in x.node.body ≡ Some a → m / 512 ≡ special_bits (with_mode cred x.node.group mode x.node.body)
      → KeepsFields (with_acl_bits (record v { mode = m }) (with_mode_bits a mode)) w → KeepsBytes old new v w → KeepsDefault old new v w → HasAcl new w (with_mode_bits a mode)
      → HoldsNode version new w (record x { node = moded cred mode x.node })
  moded_held cred mode m a is bits = acl_held m (with_mode_bits a mode) (with_mode cred x.node.group mode x.node.body) (go x.node.body is) bits
    where
      go : (b : Body) → acl_in b ≡ Some a → GivesAcl (with_mode_bits a mode) b (with_mode cred x.node.group mode b)
      go (File b bytes) is =
          let same : b ≡ a = cc in
          subst (λ c. GivesAcl (with_mode_bits c mode) (File b bytes) (with_mode cred x.node.group mode (File b bytes))) same (to_file b bytes)
      go (Dir b d) is =
          let same : b ≡ a = cc in
          subst (λ c. GivesAcl (with_mode_bits c mode) (Dir b d) (with_mode cred x.node.group mode (Dir b d))) same (to_directory b d _ _)
      go (Link target) is = absurd (cc)

  -- after set_acl: the ACL that is given
  pub set_acl_held : (a : AccessList) → IsFalse (is_link x.node.body) → KeepsFields (with_acl_bits v a) w → KeepsBytes old new v w → KeepsDefault old new v w → HasAcl new w a
      → HoldsNode version new w (record x { node = record x.node { body = with_acl a x.node.body } })
  set_acl_held a other = acl_held v.mode a (with_acl a x.node.body) (go x.node.body other) (special_says x.node.body v.mode h.mode ∙ sym (special_with_acl a x.node.body))
    where
      go : (b : Body) → IsFalse (is_link b) → GivesAcl a b (with_acl a b)
      go (File b bytes) other = to_file b bytes
      go (Dir b d) other = to_directory b d d.sticky d.set_group_id
      go (Link target) other = absurd (cc)

-- ---- what was made

module _ (image : SectorMap) (v w : Inode) (owner group : ℕ) (uid : v.uid ≡ owner) (gid : v.gid ≡ group) (names : v.names ≡ 1)
    (times : (v.atime ≡ 0) × (v.mtime ≡ 0) × (v.ctime ≡ 0)) (a : AccessList) (fields : KeepsFields (with_acl_bits v a) w) (empty : Holds image w []) (access : HasAcl image w a) where
  -- a file, as after new_inode
  pub new_file_held : {version : Version} (up : ℕ) → v.kind ≡ kinds.File → v.mode ≡ 0 → v.parent ≡ 0 → HasDefaultAcl image w None
      → HoldsNode version image w (record { node = record { owner = owner; group = group; body = File a []; stamps = no_stamps }; names = 1; parent = up })
  new_file_held up kind mode parent default = record {
    owner = fields.uid ∙ uid;
    group = fields.gid ∙ gid;
    mode = let is = fields.mode in omega (arith, is, mode);
    names = fields.names ∙ names;
    parent = fields.parent ∙ parent;
    stamps = new_times fields times.0 times.1 times.2;
    body = record { kind = fields.kind ∙ kind; holds = empty; acl = access.valid; has_acl = access.stored; no_default = default.stored };
  }

  -- a directory, as after new_inode
  pub new_directory_held : {version : Version} (up : ℕ) (default : Option AccessList) (sticky set_group_id : Bool) → v.kind ≡ kinds.Directory
      → v.mode / 512 ≡ (if sticky then 1 else 0) + (if set_group_id then 2 else 0) → v.parent ≡ up → HasDefaultAcl image w default
      → HoldsNode version image w (record {
        node = record {
          owner = owner;
          group = group;
          body = Dir a (record { names = []; default = default; set_group_id = set_group_id; sticky = sticky });
          stamps = no_stamps;
        };
        names = 1;
        parent = up;
      })
  new_directory_held up default sticky set_group_id kind mode parent has = record {
    owner = fields.uid ∙ uid;
    group = fields.gid ∙ gid;
    mode = fields.mode ∙ put_together (mode_bits a) (v.mode / 512) sticky set_group_id mode;
    names = fields.names ∙ names;
    parent = fields.parent ∙ parent;
    stamps = new_times fields times.0 times.1 times.2;
    body = record {
      names = no_names (fields.kind ∙ kind) empty;
      acl = access.valid;
      default = has.valid;
      has_acl = access.stored;
      has_default = has.stored;
    };
  }

-- a link, as after new_link
pub new_link_held : {version : Version} (image : SectorMap) (w : Inode) (owner group up : ℕ) (target : List ℕ) → IsNewLink owner group w → HasNoAcls w → Holds image w target → HasNoHole image w
    → HoldsNode version image w (record { node = record { owner = owner; group = group; body = Link target; stamps = no_stamps }; names = 1; parent = up })
new_link_held image w owner group up target is acls holds whole = record {
  owner = is.uid;
  group = is.gid;
  mode = is.mode;
  names = is.names;
  parent = is.parent;
  stamps = same_times w is.atime is.mtime is.ctime;
  body = record { kind = is.kind; holds = holds; whole = whole; no_acl = acls.acl; no_default = acls.default };
}
