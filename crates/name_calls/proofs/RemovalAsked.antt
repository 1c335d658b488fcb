-- What is asked before a name is removed, as the inodes say it.
--     body_kind_is        an inode has the kind of a directory where its body is one
--     yields        what S_ISVTX of a directory asks
--     removal_absent, removal_slashed, removal_denied, removal_sticky        one of the demands refuses
--     removal_met        all are met
--     directory_checked        what remains to be asked of a directory
use Rattle.std.specs.Prelude.{◌≡◌, ℕ, ◌+◌, ◌-◌, ◌/◌, ◌%◌, ◌<◌, ◌==◌, Bool, true, false, not, ◌&&◌, cond, List, [], ◌∷◌, Option, None, is_some, IsTrue, Ok}
use Rattle.std.proofs.Common.{refl, sym, ap, arith, ◌∙◌}
use Rattle.fs_cred.specs.declared.errno.Errno.TheVariants.{EBUSY, ENOTDIR, ENOTEMPTY}
use Rattle.fs_cred.specs.declared.refusal.Need.TheVariants.{Remove}
use Rattle.fs_cred.specs.declared.refusal.Refusal.{Refusal}
use Rattle.fs_cred.specs.Credentials.{Credential}
use Rattle.fs_cred.specs.Ownership.{sticky_allows}
use Rattle.posix_acl.specs.AccessList.{mode_bits}
use Rattle.fs_layout.specs.declared.inode.TheConstants.{S_ISGID, S_ISVTX}
use Rattle.fs_layout.specs.declared.inode.Inode.{Inode}
use Rattle.fs_layout.specs.declared.inode.Kind.TheVariants as kinds
use Rattle.fs_layout.specs.declared.geometry.Geometry.{Geometry}
use Rattle.fs_layout.specs.declared.version.Version.{Version}
use Rattle.fs_layout.specs.Bytes.{SectorMap}
use Rattle.fs_layout.specs.Directories.{HasNames}
use Rattle.fs_layout.specs.Images.{inode_at}
use Rattle.fs_layout.proofs.OneAcl.{mode_small}
use Rattle.fs_model.specs.declared.walk.Found.{Found}
use Rattle.fs_model.specs.Births.{the_node, the_directory}
use Rattle.fs_model.specs.Demands.{Demand, refuse, or_else, first_of, allowed_by, permission_on, write_and_search}
use Rattle.fs_model.specs.Kinds.{kind_of_type}
use Rattle.fs_model.specs.declared.reply.Stamps.{Stamps}
use Rattle.fs_model.specs.Nodes.{Node, Body, File, Dir, Link, is_directory, type_of, shown_mode}
use Rattle.fs_model.specs.Parts.{is_empty}
use Rattle.fs_model.specs.Rules.{is_directory_kind}
use Rattle.fs_model.specs.Scenes.{is_found, found_ino, must_be_there}
use Rattle.fs_model.specs.StoredNodes.{HoldsBody}
use Rattle.fs_model.specs.Trees.{Tree, IsDirectoryAt}
use Rattle.path_walk.specs.HeldTrees.{HoldsTree}
use Rattle.call_parts.proofs.Calling.{or_else-none, both_met}
use Rattle.call_parts.proofs.Refuses.{Refuses, refuses_first, refuses_next, demand_met}
use Rattle.path_walk.proofs.HeldNodes.{held_node}
use Rattle.call_parts.specs.Telling.{checked}
use Rattle.call_parts.specs.Reaching.{IsInodeFound}
use Rattle.call_parts.proofs.Ownership.{IsNode, node_of}
use Rattle.call_parts.proofs.Shown.{body_kind, the_node_is}
use Rattle.name_calls.specs.Removing.{IsNamedThere, removal_asked, directory_asked}
use Rattle.call_parts.specs.Asked.{sticky_asked}

-- ---- what an inode says

type_says : (b : Body) → is_directory_kind (kind_of_type (type_of b)) ≡ is_directory b
type_says (File a bytes) = refl
type_says (Dir a d) = refl
type_says (Link target) = refl

pub body_kind_is : (version : Version) (image : SectorMap) (v : Inode) (b : Body) → HoldsBody version image v b → is_directory_kind v.kind ≡ is_directory b
body_kind_is version image v b h = ap is_directory_kind (body_kind version image v b h) ∙ type_says b

sticky_bit : (n : ℕ) (s g : Bool) → n < 512 → ((n + cond s S_ISVTX 0 + cond g S_ISGID 0) / S_ISVTX % 2 == 1) ≡ s
sticky_bit n true true lt = let e : (n + 512 + 1024) / S_ISVTX % 2 ≡ 1 = omega (arith, lt) in ap (λ (k : ℕ). k == 1) e
sticky_bit n true false lt = let e : (n + 512 + 0) / S_ISVTX % 2 ≡ 1 = omega (arith, lt) in ap (λ (k : ℕ). k == 1) e
sticky_bit n false true lt = let e : (n + 0 + 1024) / S_ISVTX % 2 ≡ 0 = omega (arith, lt) in ap (λ (k : ℕ). k == 1) e
sticky_bit n false false lt = let e : (n + 0 + 0) / S_ISVTX % 2 ≡ 0 = omega (arith, lt) in ap (λ (k : ℕ). k == 1) e

-- S_ISVTX of its mode is that of the directory
sticky_says : (owner group : ℕ) (b : Body) (stamps : Stamps) (m : ℕ) → IsTrue (is_directory b) → m ≡ shown_mode b
    → (m / S_ISVTX % 2 == 1) ≡ (the_directory (record { owner = owner; group = group; body = b; stamps = stamps })).sticky
sticky_says owner group (File a bytes) stamps m is e = absurd (cc)
sticky_says owner group (Dir a d) stamps m is e = ap (λ (k : ℕ). k / S_ISVTX % 2 == 1) e ∙ sticky_bit (mode_bits a) d.sticky d.set_group_id (mode_small a)
sticky_says owner group (Link target) stamps m is e = absurd (cc)

-- what S_ISVTX of a directory asks
pub yields : {p : Geometry} {map : SectorMap} {t : Tree} (h : HoldsTree p map t) (cred : Credential) {f : Found} (directory : IsDirectoryAt t f.dir_ino)
    {n : ℕ} {v : Inode} (node : IsNode p.version map t f n v) {d : Inode} → d ≡ inode_at p map f.dir_ino → (walk : ℕ)
    → allowed_by walk (f.step - 1) Remove (sticky_allows cred (the_directory (the_node t f.dir_ino)).sticky (the_node t f.dir_ino).owner (the_node t (found_ino f)).owner)
    ≡ sticky_asked cred d v walk (f.step - 1)
yields {p} {map} {t} h cred {f} directory {n} {v} node {d} d_is walk =
    let step = f.step - 1 in
    let dir_ino = directory.node in
    let held = held_node h f.dir_ino dir_ino directory.is_there in
    let w = inode_at p map f.dir_ino in
    let here = the_node_is t f.dir_ino dir_ino directory.is_there in
    ap (λ (u : Node). allowed_by walk step Remove (sticky_allows cred (the_directory u).sticky u.owner (the_node t (found_ino f)).owner)) here
    ∙ ap (λ (u : Node). allowed_by walk step Remove (sticky_allows cred (the_directory dir_ino).sticky dir_ino.owner u.owner)) node.is
    ∙ ap (λ (k : ℕ). allowed_by walk step Remove (sticky_allows cred (the_directory dir_ino).sticky dir_ino.owner k)) (sym node.holds.owner)
    ∙ ap (λ (k : ℕ). allowed_by walk step Remove (sticky_allows cred (the_directory dir_ino).sticky k v.uid)) (sym held.owner)
    ∙ ap (λ (b : Bool). allowed_by walk step Remove (sticky_allows cred b w.uid v.uid))
    (sym (sticky_says dir_ino.owner dir_ino.group dir_ino.body dir_ino.stamps w.mode directory.directory held.mode))
    ∙ ap (λ (u : Inode). sticky_asked cred u v walk step) (sym d_is)

-- ---- what is asked

module _ {p : Geometry} {map : SectorMap} {t : Tree} (h : HoldsTree p map t) {f : Found} (named : IsNamedThere t f) (cred : Credential) where
  abbrev absent : Demand
  absent = must_be_there f

  abbrev slashed : Demand
  slashed = refuse ENOTDIR (f.slash && (is_found f && not (is_directory (the_node t (found_ino f)).body)))

  abbrev allowed : Demand
  allowed = permission_on cred t f.dir_ino write_and_search 1 (f.step - 1)

  abbrev yielded : Demand
  yielded =
      allowed_by 1 (f.step - 1) Remove (sticky_allows cred (the_directory (the_node t f.dir_ino)).sticky (the_node t f.dir_ino).owner (the_node t (found_ino f)).owner)

  -- nothing is there
  pub removal_absent : Refuses absent (first_of (removal_asked cred t f))
  removal_absent = refuses_first absent (slashed ∷ allowed ∷ yielded ∷ [])

  module _ {n : ℕ} {v : Inode} (i : IsInodeFound p map f n v) where
    node : IsNode p.version map t f n v
    node = node_of h f n v i.number i.inode (named.found n i.some)

    slash_is : slashed ≡ refuse ENOTDIR (f.slash && not (is_directory_kind v.kind))
    slash_is =
        ap (λ (o : Option ℕ). refuse ENOTDIR (f.slash && (is_some o && not (is_directory (the_node t (found_ino f)).body)))) i.some
        ∙ ap (λ (u : Node). refuse ENOTDIR (f.slash && not (is_directory u.body))) node.is
        ∙ ap (λ (b : Bool). refuse ENOTDIR (f.slash && not b)) (sym (body_kind_is p.version map v node.node.body node.holds.body))

    -- what is removed is no directory, and named as one
    pub removal_slashed : Refuses (refuse ENOTDIR (f.slash && not (is_directory_kind v.kind))) (first_of (removal_asked cred t f))
    removal_slashed =
        refuses_next absent (slashed ∷ allowed ∷ yielded ∷ []) i.met
        (λ (e : Refusal) is. refuses_first slashed (allowed ∷ yielded ∷ []) e (slash_is ∙ is))

    module _ (no_slash : checked (refuse ENOTDIR (f.slash && not (is_directory_kind v.kind))) ≡ Ok tt) where
      slash_met : slashed ≡ None
      slash_met = slash_is ∙ demand_met (refuse ENOTDIR (f.slash && not (is_directory_kind v.kind))) no_slash

      -- the directory may not be written, or not searched
      pub removal_denied : Refuses (permission_on cred t f.dir_ino write_and_search 1 (f.step - 1)) (first_of (removal_asked cred t f))
      removal_denied =
          refuses_next absent (slashed ∷ allowed ∷ yielded ∷ []) i.met
          (refuses_next slashed (allowed ∷ yielded ∷ []) slash_met (refuses_first allowed (yielded ∷ [])))

      module _ (granted : permission_on cred t f.dir_ino write_and_search 1 (f.step - 1) ≡ None) {d : Inode} (d_is : d ≡ inode_at p map f.dir_ino) where
        yielded_is : yielded ≡ sticky_asked cred d v 1 (f.step - 1)
        yielded_is = yields h cred named.directory node d_is 1

        -- the directory keeps it from the caller
        pub removal_sticky : Refuses (sticky_asked cred d v 1 (f.step - 1)) (first_of (removal_asked cred t f))
        removal_sticky =
            refuses_next absent (slashed ∷ allowed ∷ yielded ∷ []) i.met
            (refuses_next slashed (allowed ∷ yielded ∷ []) slash_met
            (refuses_next allowed (yielded ∷ []) granted (λ (e : Refusal) is. refuses_first yielded [] e (yielded_is ∙ is))))

        -- nothing refuses
        pub removal_met : checked (sticky_asked cred d v 1 (f.step - 1)) ≡ Ok tt → first_of (removal_asked cred t f) ≡ None
        removal_met is =
            both_met absent (slashed ∷ allowed ∷ yielded ∷ []) i.met
            (both_met slashed (allowed ∷ yielded ∷ []) slash_met
            (both_met allowed (yielded ∷ []) granted
            (or_else-none yielded ∙ yielded_is ∙ demand_met (sticky_asked cred d v 1 (f.step - 1)) is)))

-- ---- a directory that is to go

empty_says : {X : Type 0} (xs : List X) (empty : Bool) → (IsTrue empty → xs ≡ []) × (xs ≡ [] → IsTrue empty) → is_empty xs ≡ empty
empty_says [] empty says = sym (says.1 refl)
empty_says (x ∷ xs) true says = let none = says.0 refl in absurd (cc)
empty_says (x ∷ xs) false says = refl

-- what is removed is a directory that isn't in use, and a test says whether it has names
pub directory_checked : (version : Version) (image : SectorMap) (v : Inode) (b : Body) → HoldsBody version image v b → v.kind ≡ kinds.Directory → (used empty : Bool) → used ≡ false
    → ((names : List (List ℕ × ℕ)) → HasNames version image v names → (IsTrue empty → names ≡ []) × (names ≡ [] → IsTrue empty))
    → first_of (directory_asked b used) ≡ refuse ENOTEMPTY (not empty)
directory_checked version image v (File a bytes) h is used empty free says = absurd (let c : kinds.File ≡ kinds.Directory = sym h.kind ∙ is in cc)
directory_checked version image v (Dir a d) h is used empty free says =
    ap (λ (u : Bool). or_else (refuse EBUSY u) (or_else (refuse ENOTEMPTY (not (is_empty d.names))) None)) free
    ∙ or_else-none (refuse ENOTEMPTY (not (is_empty d.names)))
    ∙ ap (λ (e : Bool). refuse ENOTEMPTY (not e)) (empty_says d.names empty (says d.names h.names))
directory_checked version image v (Link target) h is used empty free says = absurd (let c : kinds.Link ≡ kinds.Directory = sym h.kind ∙ is in cc)
