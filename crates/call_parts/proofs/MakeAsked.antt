-- What is asked of a directory before something is made in it.
use Rattle.std.specs.Prelude.{◌≡◌, ℕ, ◌*◌, ◌≤◌, ◌==◌, nat_lt, nat_le, Bool, true, false, [], ◌∷◌, length, None, Some, Ok}
use Rattle.std.proofs.Common.{refl, sym, ap, subst, arith, ◌∙◌}
use Rattle.std.proofs.lemmas.Bool.{leb-true, leb-false}
use Rattle.fs_cred.specs.declared.errno.Errno.TheVariants.{ENOSPC}
use Rattle.fs_cred.specs.declared.refusal.Refusal.{Refusal}
use Rattle.fs_cred.specs.Credentials.{Credential}
use Rattle.fs_layout.specs.declared.inode.Inode.{Inode}
use Rattle.fs_layout.specs.declared.geometry.Geometry.{Geometry}
use Rattle.fs_layout.specs.declared.version.Version.{Version}
use Rattle.fs_layout.specs.declared.version.Version.TheVariants.{One, Two, Three}
use Rattle.fs_layout.specs.Bytes.{SectorMap}
use Rattle.fs_layout.specs.Images.{inode_at, free_sectors}
use Rattle.fs_layout.specs.Version.{slot_size, max_names, max_directory_size}
use Rattle.sector_txn.specs.Sectors.{TxnState, IsUnchanged}
use Rattle.bit_alloc.specs.declared.bitmap.Bitmap.TheVariants.{Inodes}
use Rattle.bit_alloc.specs.Bitmaps.{free_numbers}
use Rattle.fs_model.specs.Births.{the_node}
use Rattle.fs_model.specs.Demands.{Demand, refuse, first_of, permission_on, write_and_search}
use Rattle.fs_model.specs.Limits.{least_free}
use Rattle.fs_model.specs.Nodes.{Node, Body, File, Dir, Link, is_directory, is_link, names_of_body}
use Rattle.fs_model.specs.Stands.{room_of}
use Rattle.fs_model.specs.Trees.{Tree, free_inodes, IsDirectoryAt}
use Rattle.fs_model.proofs.FreeInodes.{free_are_clear}
use Rattle.path_walk.specs.Answers.{refused_or}
use Rattle.path_walk.specs.HeldTrees.{HoldsTree, HasAccess}
use Rattle.call_parts.proofs.Calling.{met_ok, or_else-none, both_met}
use Rattle.path_walk.proofs.HeldNodes.{held_names, held_access}
use Rattle.path_walk.proofs.Kept.{kept, kept_back}
use Rattle.call_parts.specs.Makings.{make_asked}
use Rattle.call_parts.specs.Telling.{Checked, checked}
use Rattle.call_parts.proofs.Followed.{IsAccessed, accessed_is, accessible}
use Rattle.call_parts.proofs.Refuses.{Refuses, refuses_first, refuses_next}
use Rattle.call_parts.proofs.Shown.{the_node_is, names_size}

no_link : (b : Body) → is_directory b ≡ true → is_link b ≡ false
no_link (File a bytes) e = refl
no_link (Dir a d) e = refl
no_link (Link target) e = absurd (cc)

-- two tests of which each follows from the other
same_tests : (a b c d : ℕ) → (a ≤ b → c ≤ d) → (c ≤ d → a ≤ b) → nat_le a b ≡ nat_le c d
same_tests a b c d to from = go (nat_le a b) refl (nat_le c d) refl
  where
    go : (x : Bool) → nat_le a b ≡ x → (y : Bool) → nat_le c d ≡ y → nat_le a b ≡ nat_le c d
    go true e true f = e ∙ sym f
    go false e false f = e ∙ sym f
    go true e false f = absurd (let low = to (leb-true a b e) in let high = leb-false c d f in omega (arith, low, high))
    go false e true f = absurd (let low = from (leb-true c d f) in let high = leb-false a b e in omega (arith, low, high))

-- a directory is as large as can be where it has as many names as can be
same_test : (version : Version) (k size : ℕ) → size ≡ slot_size version * k → nat_le (max_directory_size version) size ≡ nat_le (max_names version) k
same_test One k size e = same_tests (max_directory_size One) size (max_names One) k (λ h. omega (arith, e, h)) (λ h. omega (arith, e, h))
same_test Two k size e = same_tests (max_directory_size Two) size (max_names Two) k (λ h. omega (arith, e, h)) (λ h. omega (arith, e, h))
same_test Three k size e = same_tests (max_directory_size Three) size (max_names Three) k (λ h. omega (arith, e, h)) (λ h. omega (arith, e, h))

-- ---- the inode of the directory

-- the inode that was asked for is answered
pub answered_as : (d : Demand) {v w : Inode} → refused_or d (Ok v) ≡ Ok w → w ≡ v
answered_as d {v} {w} is = sym (met_ok {A = Inode} d v w is).1

-- the inode was asked for after reads
pub directory_met : (p : Geometry) {old mid : TxnState} (dir_ino : ℕ) {d : Inode} (asked : Demand) → IsUnchanged old mid
    → refused_or asked (Ok (inode_at p mid.sectors dir_ino)) ≡ Ok d → (asked ≡ None) × (d ≡ inode_at p old.sectors dir_ino)
directory_met p {old} {mid} dir_ino {d} asked same is =
    let x = met_ok {A = Inode} asked (inode_at p mid.sectors dir_ino) d is in
    (x.0, kept_back (λ (m : SectorMap). d ≡ inode_at p m dir_ino) same (sym x.1))

pub size_as : (most : ℕ) {v w : Inode} {r : Checked} → w ≡ v → checked (refuse ENOSPC (nat_le most w.size)) ≡ r → checked (refuse ENOSPC (nat_le most v.size)) ≡ r
size_as most {v} {w} {r} same is = subst (λ (u : Inode). checked (refuse ENOSPC (nat_le most u.size)) ≡ r) same is

-- the size of its inode says whether a directory has place for one more name
pub names_are : {p : Geometry} {map : SectorMap} {t : Tree} → HoldsTree p map t → (dir_ino : ℕ) → IsDirectoryAt t dir_ino
    → refuse ENOSPC (nat_le (max_directory_size p.version) (inode_at p map dir_ino).size) ≡ refuse ENOSPC (nat_le (max_names p.version) (length (names_of_body (the_node t dir_ino).body)))
names_are {p} {map} {t} h dir_ino d =
    let size = names_size (held_names h dir_ino d) in
    ap (refuse ENOSPC) (same_test p.version (length (names_of_body d.node.body)) (inode_at p map dir_ino).size size)
    ∙ sym (ap (λ (u : Node). refuse ENOSPC (nat_le (max_names p.version) (length (names_of_body u.body)))) (the_node_is t dir_ino d.node d.is_there))

-- it has place for none
pub names_full : {p : Geometry} {map : SectorMap} {t : Tree} → HoldsTree p map t → (dir_ino : ℕ) → IsDirectoryAt t dir_ino → {v : Inode} {e : Refusal} → v ≡ inode_at p map dir_ino
    → refuse ENOSPC (nat_le (max_directory_size p.version) v.size) ≡ Some e → refuse ENOSPC (nat_le (max_names p.version) (length (names_of_body (the_node t dir_ino).body))) ≡ Some e
names_full {p} h dir_ino d is full =
    sym (names_are h dir_ino d) ∙ ap (λ (u : Inode). refuse ENOSPC (nat_le (max_directory_size p.version) u.size)) (sym is) ∙ full

module _ {p : Geometry} {map : SectorMap} {t : Tree} (h : HoldsTree p map t) (dir_ino : ℕ) (d : IsDirectoryAt t dir_ino) (cred : Credential) (step : ℕ) where
  pub dir_access : IsAccessed t dir_ino
  dir_access =
      let a = accessible d.node.owner d.node.group d.node.body (no_link d.node.body d.directory) in
      record { node = d.node; at = d.is_there; access = a.0; is = a.1 }

  pub dir_held : HasAccess map (inode_at p map dir_ino) dir_access.access
  dir_held = held_access h dir_ino dir_access.access (accessed_is t dir_ino dir_access)

  abbrev allowed : Demand
  allowed = permission_on cred t dir_ino write_and_search 1 step

  abbrev sectors : Demand
  sectors = refuse ENOSPC (nat_lt (free_sectors p map) least_free)

  abbrev inodes : Demand
  inodes = refuse ENOSPC (free_inodes (room_of p) t == 0)

  abbrev names : Demand
  names = refuse ENOSPC (nat_le (max_names p.version) (length (names_of_body (the_node t dir_ino).body)))

  inodes_are : refuse ENOSPC (free_numbers p Inodes map == 0) ≡ inodes
  inodes_are = ap (λ (n : ℕ). refuse ENOSPC (n == 0)) (sym (free_are_clear p map t h.holds h.tree))

  pub denied_refuses : Refuses (permission_on cred t dir_ino write_and_search 1 step) (first_of (make_asked p map cred t dir_ino step))
  denied_refuses = refuses_first allowed (sectors ∷ inodes ∷ names ∷ [])

  module _ (granted : allowed ≡ None) where
    pub few_refuses : Refuses (refuse ENOSPC (nat_lt (free_sectors p map) least_free)) (first_of (make_asked p map cred t dir_ino step))
    few_refuses = refuses_next allowed (sectors ∷ inodes ∷ names ∷ []) granted (refuses_first sectors (inodes ∷ names ∷ []))

    module _ (enough : sectors ≡ None) where
      pub none_refuses : Refuses (refuse ENOSPC (free_numbers p Inodes map == 0)) (first_of (make_asked p map cred t dir_ino step))
      none_refuses =
          refuses_next allowed (sectors ∷ inodes ∷ names ∷ []) granted
          (refuses_next sectors (inodes ∷ names ∷ []) enough (λ (e : Refusal) is. refuses_first inodes (names ∷ []) e (sym inodes_are ∙ is)))

      pub crowded_refuses : inodes ≡ None → {v : Inode} → v ≡ inode_at p map dir_ino
          → Refuses (refuse ENOSPC (nat_le (max_directory_size p.version) v.size)) (first_of (make_asked p map cred t dir_ino step))
      crowded_refuses some is =
          refuses_next allowed (sectors ∷ inodes ∷ names ∷ []) granted
          (refuses_next sectors (inodes ∷ names ∷ []) enough
          (refuses_next inodes (names ∷ []) some (λ (e : Refusal) full. refuses_first names [] e (names_full h dir_ino d is full))))

  pub make_granted : (v w : Inode) → refused_or allowed (Ok v) ≡ Ok w → allowed ≡ None
  make_granted v w is = (met_ok {A = Inode} allowed v w is).0

  pub make_met : allowed ≡ None → sectors ≡ None → inodes ≡ None → checked (refuse ENOSPC (nat_le (max_directory_size p.version) (inode_at p map dir_ino).size)) ≡ Ok tt
      → first_of (make_asked p map cred t dir_ino step) ≡ None
  make_met granted enough some is =
      both_met allowed (sectors ∷ inodes ∷ names ∷ []) granted
      (both_met sectors (inodes ∷ names ∷ []) enough
      (both_met inodes (names ∷ []) some
      (or_else-none names ∙ sym (names_are h dir_ino d) ∙ (met_ok {A = Unit {0}} (refuse ENOSPC (nat_le (max_directory_size p.version) (inode_at p map dir_ino).size)) tt tt is).0)))

module _ {p : Geometry} {old : TxnState} {t : Tree} (h : HoldsTree p old.sectors t) (dir_ino : ℕ) (d : IsDirectoryAt t dir_ino) (cred : Credential) (step : ℕ)
    {mid : TxnState} (same : IsUnchanged old mid) where
  pub held_later : (v : Inode) → v ≡ inode_at p old.sectors dir_ino → HasAccess mid.sectors v (dir_access h dir_ino d cred step).access
  held_later v is =
      let a = dir_access h dir_ino d cred step in
      kept (λ (m : SectorMap). HasAccess m v a.access) same
      (subst (λ (w : Inode). HasAccess old.sectors w a.access) (sym is) (dir_held h dir_ino d cred step))

  pub make_enough : checked (refuse ENOSPC (nat_lt (free_sectors p mid.sectors) least_free)) ≡ Ok tt → refuse ENOSPC (nat_lt (free_sectors p old.sectors) least_free) ≡ None
  make_enough is =
      kept_back (λ (m : SectorMap). refuse ENOSPC (nat_lt (free_sectors p m) least_free) ≡ None) same
      (met_ok {A = Unit {0}} (refuse ENOSPC (nat_lt (free_sectors p mid.sectors) least_free)) tt tt is).0

  pub make_some : checked (refuse ENOSPC (free_numbers p Inodes mid.sectors == 0)) ≡ Ok tt → refuse ENOSPC (free_inodes (room_of p) t == 0) ≡ None
  make_some is =
      sym (inodes_are h dir_ino d cred step)
      ∙ kept_back (λ (m : SectorMap). refuse ENOSPC (free_numbers p Inodes m == 0) ≡ None) same
      (met_ok {A = Unit {0}} (refuse ENOSPC (free_numbers p Inodes mid.sectors == 0)) tt tt is).0

  -- where it refuses after reads
  pub few_later : permission_on cred t dir_ino write_and_search 1 step ≡ None
      → Refuses (refuse ENOSPC (nat_lt (free_sectors p mid.sectors) least_free)) (first_of (make_asked p old.sectors cred t dir_ino step))
  few_later granted =
      kept (λ (m : SectorMap). Refuses (refuse ENOSPC (nat_lt (free_sectors p m) least_free)) (first_of (make_asked p old.sectors cred t dir_ino step))) same
      (few_refuses h dir_ino d cred step granted)

  pub none_later : permission_on cred t dir_ino write_and_search 1 step ≡ None → refuse ENOSPC (nat_lt (free_sectors p old.sectors) least_free) ≡ None
      → Refuses (refuse ENOSPC (free_numbers p Inodes mid.sectors == 0)) (first_of (make_asked p old.sectors cred t dir_ino step))
  none_later granted enough =
      kept (λ (m : SectorMap). Refuses (refuse ENOSPC (free_numbers p Inodes m == 0)) (first_of (make_asked p old.sectors cred t dir_ino step))) same
      (none_refuses h dir_ino d cred step granted enough)
