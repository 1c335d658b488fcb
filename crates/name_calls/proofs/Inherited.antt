-- What a directory gives to what is made in it.
--     set_group_is, group_is        its group, where it has S_ISGID
--     default_held        its default ACL
--     bits_below, directory_is, link_is        what is made
--     may_then        it may be made, since before reads
use Rattle.std.specs.Prelude.{◌≡◌, ℕ, ◌+◌, ◌-◌, ◌/◌, ◌%◌, ◌<◌, ◌==◌, cond, if◌then◌else◌, Bool, true, false, List, [], Option, None}
use Rattle.std.proofs.Common.{refl, sym, ap, subst, arith, ◌∙◌}
use Rattle.posix_acl.specs.AccessList.{AccessList}
use Rattle.fs_cred.specs.Credentials.{Credential}
use Rattle.fs_layout.specs.declared.inode.TheConstants.{S_ISGID, S_ISVTX}
use Rattle.fs_layout.specs.declared.inode.Inode.{Inode}
use Rattle.fs_layout.specs.declared.geometry.Geometry.{Geometry}
use Rattle.fs_layout.specs.Bytes.{SectorMap}
use Rattle.fs_layout.specs.Images.{inode_at}
use Rattle.sector_txn.specs.Sectors.{TxnState, IsUnchanged}
use Rattle.inode_table.specs.Acls.{HasDefaultAcl}
use Rattle.fs_model.specs.declared.walk.Found.{Found}
use Rattle.fs_model.specs.Demands.{first_of}
use Rattle.fs_model.specs.Births.{the_node, the_directory, born_acl, born_directory, born_link}
use Rattle.fs_model.specs.Nodes.{no_stamps, Node, Dir, Link, default_in}
use Rattle.fs_model.specs.StoredNodes.{HoldsNode}
use Rattle.fs_model.specs.Trees.{Tree, names_of, parent}
use Rattle.path_walk.specs.HeldTrees.{HoldsTree}
use Rattle.path_walk.proofs.HeldNodes.{held_node, default_says}
use Rattle.path_walk.proofs.Kept.{kept}
use Rattle.call_parts.specs.Makings.{CanMake, make_asked}
use Rattle.call_parts.proofs.Makeable.{may_make}
use Rattle.call_parts.proofs.NewFile.{set_group_says, default_is}
use Rattle.call_parts.proofs.Shown.{the_node_is}
use Rattle.call_parts.specs.NewNodes.{IsNewIn, directory_made, link_made}

sticky_says : (s g : Bool) → ((cond s S_ISVTX 0 + cond g S_ISGID 0) / S_ISVTX % 2 == 1) ≡ s
sticky_says true true = refl
sticky_says true false = refl
sticky_says false true = refl
sticky_says false false = refl

group_says : (s g : Bool) → ((cond s S_ISVTX 0 + cond g S_ISGID 0) / S_ISGID % 2 == 1) ≡ g
group_says true true = refl
group_says true false = refl
group_says false true = refl
group_says false false = refl

pub bits_below : (s g : Bool) → cond s S_ISVTX 0 + cond g S_ISGID 0 < 2048
bits_below true true = omega arith
bits_below true false = omega arith
bits_below false true = omega arith
bits_below false false = omega arith

module _ {p : Geometry} {map : SectorMap} {t : Tree} (h : HoldsTree p map t) {dir_ino : ℕ} {name : List ℕ} (i : IsNewIn p t dir_ino name) (v : Inode) (is : v ≡ inode_at p map dir_ino) where
  abbrev node : Node
  node = i.directory.node

  held : HoldsNode p.version map v (record { node = node; names = names_of t dir_ino; parent = parent t dir_ino })
  held = subst (λ (w : Inode). HoldsNode p.version map w (record { node = node; names = names_of t dir_ino; parent = parent t dir_ino })) (sym is) (held_node h dir_ino node i.directory.is_there)

  it_is : the_node t dir_ino ≡ node
  it_is = the_node_is t dir_ino node i.directory.is_there

  pub set_group_is : (v.mode / S_ISGID % 2 == 1) ≡ (the_directory (the_node t dir_ino)).set_group_id
  set_group_is =
      set_group_says node.owner node.group node.body node.stamps v.mode i.directory.directory held.mode
      ∙ sym (ap (λ (u : Node). (the_directory u).set_group_id) it_is)

  abbrev group_of : Credential → ℕ
  group_of cred = if (the_directory (the_node t dir_ino)).set_group_id then (the_node t dir_ino).group else cred.gid

  pub group_is : (cred : Credential) → (if v.mode / S_ISGID % 2 == 1 then v.gid else cred.gid)
      ≡ (if (the_directory (the_node t dir_ino)).set_group_id then (the_node t dir_ino).group else cred.gid)
  group_is cred =
      ap (λ (b : Bool). if b then v.gid else cred.gid) set_group_is
      ∙ ap (λ (k : ℕ). if (the_directory (the_node t dir_ino)).set_group_id then k else cred.gid) (held.group ∙ sym (ap (λ (u : Node). u.group) it_is))

  pub default_held : HasDefaultAcl map v (default_in node.body)
  default_held = default_says p.version map v node.body i.directory.directory held.body

  default_given : default_in node.body ≡ (the_directory (the_node t dir_ino)).default
  default_given = default_is node.owner node.group node.body node.stamps i.directory.directory ∙ sym (ap (λ (u : Node). (the_directory u).default) it_is)

  abbrev directory_of : ℕ → ℕ → Bool → Bool → AccessList → Option AccessList → Node
  directory_of uid gid sticky set_group_id access default = record {
    owner = uid;
    group = gid;
    body = Dir access (record { names = []; default = default; set_group_id = set_group_id; sticky = sticky });
    stamps = no_stamps;
  }

  pub directory_is : (cred : Credential) (umask mode uid gid bits : ℕ) (access : AccessList) (default : Option AccessList) → uid ≡ cred.uid
      → gid ≡ (if v.mode / S_ISGID % 2 == 1 then v.gid else cred.gid) → bits ≡ cond (mode / S_ISVTX % 2 == 1) S_ISVTX 0 + cond (v.mode / S_ISGID % 2 == 1) S_ISGID 0
      → default ≡ default_in node.body → access ≡ born_acl default mode umask
      → directory_made uid gid bits access default ≡ born_directory cred umask mode (the_node t dir_ino)
  directory_is cred umask mode uid gid bits access default owner group both inherits born =
      let s = mode / S_ISVTX % 2 == 1 in
      let g = v.mode / S_ISGID % 2 == 1 in
      let d = (the_directory (the_node t dir_ino)).default in
      let given = inherits ∙ default_given in
      let sticky : (bits / S_ISVTX % 2 == 1) ≡ s = ap (λ (k : ℕ). k / S_ISVTX % 2 == 1) both ∙ sticky_says s g in
      let set_group : (bits / S_ISGID % 2 == 1) ≡ (the_directory (the_node t dir_ino)).set_group_id = ap (λ (k : ℕ). k / S_ISGID % 2 == 1) both ∙ group_says s g ∙ set_group_is in
      ap (λ (k : ℕ). directory_of k gid (bits / S_ISVTX % 2 == 1) (bits / S_ISGID % 2 == 1) access default) owner
      ∙ ap (λ (k : ℕ). directory_of cred.uid k (bits / S_ISVTX % 2 == 1) (bits / S_ISGID % 2 == 1) access default) (group ∙ group_is cred)
      ∙ ap (λ (b : Bool). directory_of cred.uid (group_of cred) b (bits / S_ISGID % 2 == 1) access default) sticky
      ∙ ap (λ (b : Bool). directory_of cred.uid (group_of cred) s b access default) set_group
      ∙ ap (λ (a : AccessList). directory_of cred.uid (group_of cred) s (the_directory (the_node t dir_ino)).set_group_id a default)
      (born ∙ ap (λ (o : Option AccessList). born_acl o mode umask) given)
      ∙ ap (λ (o : Option AccessList). directory_of cred.uid (group_of cred) s (the_directory (the_node t dir_ino)).set_group_id (born_acl d mode umask) o) given

  abbrev link_of : ℕ → ℕ → List ℕ → Node
  link_of uid gid target = record { owner = uid; group = gid; body = Link target; stamps = no_stamps }

  pub link_is : (cred who : Credential) (target bytes : List ℕ) → who ≡ cred → bytes ≡ target → link_made v who bytes ≡ born_link cred target (the_node t dir_ino)
  link_is cred who target bytes caller told =
      ap (λ (b : List ℕ). link_made v who b) told ∙ ap (λ (k : Credential). link_made v k target) caller ∙ ap (λ (k : ℕ). link_of cred.uid k target) (group_is cred)

-- ---- since before reads

module _ (p : Geometry) {old mid : TxnState} {t : Tree} (h : HoldsTree p old.sectors t) (f : Found) (i : IsNewIn p t f.dir_ino f.name) (same : IsUnchanged old mid) where
  pub may_then : (cred : Credential) → first_of (make_asked p old.sectors cred t f.dir_ino (f.step - 1)) ≡ None → (u : Tree) × CanMake p mid.sectors u f.dir_ino f.name
  may_then cred met = (t, kept (λ (m : SectorMap). CanMake p m t f.dir_ino f.name) same (may_make cred (f.step - 1) met h i.directory f.name i.is_name i.short i.is_new))
