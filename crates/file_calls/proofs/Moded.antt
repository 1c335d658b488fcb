-- Another mode of what was found.
use Rattle.call_parts.specs.BothTables.{Tables}
use Rattle.std.specs.Prelude.{false}
use Rattle.call_parts.specs.Callers.{Who}
use Rattle.std.specs.Prelude.{◌≡◌, ◌≢◌, ℕ, ◌+◌, ◌/◌, ◌%◌, ◌==◌, ◌<◌, ◌≤◌, nat_le, nat_eq, zero, suc, Bool, true, false, not, ◌&&◌, ◌||◌, cond, if◌then◌else◌, List, [], ◌∷◌, length, Option, None, Some, is_some}
use Rattle.std.proofs.Common.{refl, sym, ap, subst, arith, ◌∙◌}
use Rattle.posix_acl.specs.declared.entry.Perms.{Perms}
use Rattle.posix_acl.specs.AccessList.{AccessList, with_mode_bits, is_extended}
use Rattle.posix_acl.specs.Entries.{perms_of}
use Rattle.sector_disk.specs.Disk.{DiskState, HasFailed}
use Rattle.fs_cred.specs.Credentials.{Credential}
use Rattle.fs_cred.specs.Ownership.{keeps_set_group_id}
use Rattle.fs_cred.specs.declared.node.Node.{Node as AccessNode}
use Rattle.fs_cred.specs.declared.node.NodeKind.{NodeKind}
use Rattle.fs_cred.specs.declared.node.NodeKind.TheVariants as nodes
use Rattle.fs_layout.specs.declared.slot.TheConstants.{SLOT_SIZE}
use Rattle.fs_layout.specs.declared.inode.TheConstants.{MAX_DIRECTORY_SIZE, MAX_FILE_SIZE, S_ISGID, S_ISVTX}
use Rattle.fs_layout.specs.declared.inode.Inode.{Inode}
use Rattle.fs_layout.specs.declared.inode.Kind.{Kind}
use Rattle.fs_layout.specs.declared.inode.Kind.TheVariants as kinds
use Rattle.fs_layout.specs.declared.geometry.Geometry.{Geometry}
use Rattle.fs_layout.specs.AclSector.{HoldsAcl, kept_acl}
use Rattle.fs_layout.specs.Bytes.{SectorMap}
use Rattle.fs_layout.specs.Images.{inode_at}
use Rattle.fs_layout.specs.Inode.{FitsInode, inode_fits, numbers_fit}
use Rattle.fs_model.specs.declared.reply.Reply.TheVariants.{Done}
use Rattle.fs_model.specs.declared.touch.Touch.TheVariants.{Changed}
use Rattle.fs_model.specs.declared.walk.Form.TheVariants.{Follow}
use Rattle.fs_model.specs.declared.walk.Found.{Found}
use Rattle.fs_model.specs.AttributeCalls.{chmod_demands, chmod_effect, with_mode, moded}
use Rattle.fs_model.specs.Births.{the_node}
use Rattle.fs_model.specs.Kinds.{kind_of_type}
use Rattle.fs_model.specs.Nodes.{Body, File, Dir, Link, acl_in, accessed_body, type_of}
use Rattle.fs_model.specs.Processes.{Process}
use Rattle.fs_model.specs.States.{State}
use Rattle.fs_model.proofs.StepsBodies.{mode_may_replace}
use Rattle.bit_alloc.specs.declared.bitmap.TakeFault.{TakeFault}
use Rattle.bit_alloc.specs.declared.bitmap.TakeFault.TheVariants as faults
use Rattle.inode_table.specs.Acls.{HasAcl, acl_takes}
use Rattle.inode_table.specs.Inodes.{DiffersInAttributes}
use Rattle.inode_table.proofs.Bits.{with_acls_fits}
use Rattle.path_walk.specs.HeldTrees.{stored_kind}
use Rattle.call_parts.specs.Paths.{scene_at, HasFound}
use Rattle.call_parts.specs.Performing.{IsStateOf}
use Rattle.call_parts.proofs.Calling.{state_tree}
use Rattle.call_parts.proofs.HeldChanges.{special_bits, moded_held}
use Rattle.path_walk.proofs.HeldNodes.{held_node, held_access}
use Rattle.call_parts.specs.Asked.{own_asked}
use Rattle.call_parts.specs.Given.{SavesAcl, special_mode}
use Rattle.call_parts.proofs.Changed.{IsChange, rewrites_found}
use Rattle.call_parts.proofs.Followed.{accessed_is, followed_access}
use Rattle.call_parts.proofs.Ownership.{own_met}
use Rattle.call_parts.proofs.Shown.{body_kind, the_node_is}
use Rattle.call_parts.specs.Reaching.{IsInodeFound}

-- ---- an access ACL is saved

pub attributes_of : (v w : Inode) → w ≡ record v { mode = w.mode } → DiffersInAttributes v w
attributes_of v w e = subst (λ (u : Inode). DiffersInAttributes v u) (sym e) refl

-- taking fails only where the disk does, where there is space
pub taking_fails : (old new : DiskState) (e : TakeFault) (takes free : ℕ) → takes ≤ free → (e ≡ faults.Full → free < takes)
    → (e ≡ faults.DiskFault → HasFailed old new) → HasFailed old new
taking_fails old new faults.Full takes free room full failed = let lacks = full refl in absurd (omega (arith, room, lacks))
taking_fails old new faults.DiskFault takes free room full failed = failed refl

-- on what access is decided is neither free nor a link
pub accessed_kind : (k : NodeKind) (v : Kind) → v ≡ stored_kind k → (v ≢ kinds.Free) × (v ≢ kinds.Link)
accessed_kind nodes.File v e = (λ f. let c : kinds.File ≡ kinds.Free = sym e ∙ f in cc, λ f. let c : kinds.File ≡ kinds.Link = sym e ∙ f in cc)
accessed_kind nodes.Directory v e = (λ f. let c : kinds.Directory ≡ kinds.Free = sym e ∙ f in cc, λ f. let c : kinds.Directory ≡ kinds.Link = sym e ∙ f in cc)

-- ---- another mode has the ACL's sector

extended_same : (a : AccessList) (mode : ℕ) → is_extended (with_mode_bits a mode) ≡ is_extended a
extended_same a mode = ap (λ b. b || not (length a.users + length a.groups == 0)) (go a.mask)
  where
    go : (m : Option Perms) → is_some (if is_some m then Some (perms_of (mode / 8)) else None) ≡ is_some m
    go None = refl
    go (Some p) = refl

pub mode_takes_none : (image : SectorMap) (s : ℕ) (a : AccessList) (mode : ℕ) → HoldsAcl image s (kept_acl a) → acl_takes s (kept_acl (with_mode_bits a mode)) ≡ 0
mode_takes_none image s a mode h =
    ap (λ (e : Bool). acl_takes s (if e then Some (with_mode_bits a mode) else None)) (extended_same a mode) ∙ go s (is_extended a) h
  where
    go : (s : ℕ) (e : Bool) → HoldsAcl image s (if e then Some a else None) → acl_takes s (if e then Some (with_mode_bits a mode) else None) ≡ 0
    go s false h = refl
    go zero true h = absurd (h.0 refl)
    go (suc s) true h = refl

-- ---- the bits above the permission bits

first_instead : (a b c : Bool) → (a && b) ≡ true → c ≡ true → (c && b) ≡ true
first_instead true true true e f = refl
first_instead a b false e f = absurd cc
first_instead false b true e f = absurd cc
first_instead true false true e f = absurd cc

first_part : (a b : Bool) → (a && b) ≡ true → a ≡ true
first_part true b e = refl
first_part false b e = absurd cc

few : (s g : Bool) → nat_le (cond s S_ISVTX 0 + cond g S_ISGID 0) 2047 ≡ true
few true true = refl
few true false = refl
few false true = refl
few false false = refl

numbers_moded : (kind : Kind) (mode size : ℕ) (cred : Credential) (group m : ℕ) → kind ≢ kinds.Link → numbers_fit kind mode size ≡ true
    → numbers_fit kind (special_mode cred kind group m) size ≡ true
numbers_moded kinds.Free mode size cred group m other fits = refl
numbers_moded kinds.File mode size cred group m other fits = first_instead (nat_le mode 511) (nat_le size MAX_FILE_SIZE) (nat_le 0 511) fits refl
numbers_moded kinds.Directory mode size cred group m other fits =
    let now = special_mode cred kinds.Directory group m in
    let both = first_part (nat_le mode 2047 && nat_le size MAX_DIRECTORY_SIZE) (nat_eq (size % SLOT_SIZE) 0) fits in
    first_instead (nat_le mode 2047 && nat_le size MAX_DIRECTORY_SIZE) (nat_eq (size % SLOT_SIZE) 0) (nat_le now 2047 && nat_le size MAX_DIRECTORY_SIZE) fits
    (first_instead (nat_le mode 2047) (nat_le size MAX_DIRECTORY_SIZE) (nat_le now 2047) both
    (few (m / S_ISVTX % 2 == 1) (m / S_ISGID % 2 == 1 && keeps_set_group_id cred group)))
numbers_moded kinds.Link mode size cred group m other fits = absurd (other refl)

small : (kind : Kind) (cred : Credential) (group m : ℕ) → special_mode cred kind group m ≤ 1536
small kinds.Free cred group m = omega arith
small kinds.File cred group m = omega arith
small kinds.Directory cred group m = go (m / S_ISVTX % 2 == 1) (m / S_ISGID % 2 == 1 && keeps_set_group_id cred group)
  where
    go : (s g : Bool) → cond s S_ISVTX 0 + cond g S_ISGID 0 ≤ 1536
    go true true = omega arith
    go true false = omega arith
    go false true = omega arith
    go false false = omega arith
small kinds.Link cred group m = omega arith

-- an inode with a new mode fits its fields
pub mode_fits : (v : Inode) (cred : Credential) (m : ℕ) → FitsInode v → v.kind ≢ kinds.Free → v.kind ≢ kinds.Link
    → FitsInode (record v { mode = special_mode cred v.kind v.gid m })
unfolding inode_fits
mode_fits v cred m fits used other =
    with_acls_fits v (special_mode cred v.kind v.gid m) v.acl v.default_acl fits used (numbers_moded v.kind v.mode v.size cred v.gid m other fits.valid.numbers)
    (let le = small v.kind cred v.gid m in omega (arith, le)) fits.acl fits.default_acl

-- and shows the bits that the call gives
special_is : (b : Body) (kind : Kind) (cred : Credential) (group m : ℕ) → kind ≡ kind_of_type (type_of b)
    → special_mode cred kind group m / 512 ≡ special_bits (with_mode cred group m b)
special_is (File a bytes) kind cred group m e = ap (λ (k : Kind). special_mode cred k group m / 512) e
special_is (Dir a d) kind cred group m e =
    ap (λ (k : Kind). special_mode cred k group m / 512) e ∙ go (m / S_ISVTX % 2 == 1) (m / S_ISGID % 2 == 1 && keeps_set_group_id cred group)
  where
    go : (s g : Bool) → (cond s S_ISVTX 0 + cond g S_ISGID 0) / 512 ≡ cond s 1 0 + cond g 2 0
    go true true = omega arith
    go true false = omega arith
    go false true = omega arith
    go false false = omega arith
special_is (Link target) kind cred group m e = ap (λ (k : Kind). special_mode cred k group m / 512) e

acl_told : (owner group : ℕ) (b : Body) (x : AccessNode) → accessed_body owner group b ≡ Some x → acl_in b ≡ Some x.acl
acl_told owner group (File a bytes) x e =
    let is : record { kind = nodes.File; owner = owner; group = group; acl = a } ≡ x = cc in ap (λ (n : AccessNode). Some n.acl) is
acl_told owner group (Dir a d) x e =
    let is : record { kind = nodes.Directory; owner = owner; group = group; acl = a } ≡ x = cc in ap (λ (n : AccessNode). Some n.acl) is
acl_told owner group (Link target) x e = absurd (cc)

module _ {p : Geometry} {map : SectorMap} {tables : Tables} {s : State} {who : Who} {q : Process} {path : List ℕ} {f : Found} {n : ℕ} {v : Inode}
    (at : IsStateOf p map tables s) (has : HasFound s who q false Follow path f) (i : IsInodeFound p map f n v) where
  -- the mode is given
  pub mode_changed : (cred : Credential) (mode : ℕ) (new : SectorMap) → cred ≡ q.cred
      → own_asked q.cred v.uid f.step ≡ None
      → ((a : AccessList) → HasAcl map v a → SavesAcl p n (special_mode cred v.kind v.gid mode) (with_mode_bits a mode) map new)
      → IsChange p new tables s q (chmod_demands (scene_at s q f)) (chmod_effect mode (scene_at s q f)) Done ((n, Changed) ∷ [])
  mode_changed cred mode new same met gives =
      let a = followed_access n at has i.some in
      let u = inode_at p map n in
      let held = held_node (state_tree at) n a.node a.at in
      let saves = gives a.access.acl (subst (λ (w : Inode). HasAcl map w a.access.acl) (sym i.inode)
      (held_access (state_tree at) n a.access (accessed_is s.tree n a)).acl) in
      let bits = ap (λ (w : Inode). special_mode cred w.kind w.gid mode / 512) i.inode
      ∙ ap (λ (k : ℕ). special_mode cred u.kind k mode / 512) held.group
      ∙ ap (λ (c : Credential). special_mode c u.kind a.node.group mode / 512) same
      ∙ special_is a.node.body u.kind q.cred a.node.group mode (body_kind p.version map u a.node.body held.body) in
      rewrites_found at new Changed n a.node (moded q.cred mode a.node) a.at
      (mode_may_replace s.room s.tree n a.node ((at.is_state.tree).each n a.node a.at) q.cred mode) saves.one
      (moded_held map new u (inode_at p new n) _ held q.cred mode (special_mode cred v.kind v.gid mode) a.access.acl
      (acl_told a.node.owner a.node.group a.node.body a.access a.is) bits saves.fields saves.bytes saves.default saves.access)
      q f (chmod_demands (scene_at s q f)) (moded q.cred mode) (own_met at has i met) i.number (ap (the_node s.tree) i.number ∙ the_node_is s.tree n a.node a.at) refl
