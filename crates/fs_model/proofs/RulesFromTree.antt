-- An image that holds a tree obeys the rules.
use Rattle.fs_model.specs.StoredStamps.{stamps_in}
use Rattle.fs_model.proofs.StoredStamps.{free_stamps}
use Rattle.std.specs.Prelude.{◌≡◌, ◌≢◌, ℕ, ◌+◌, ◌*◌, ◌%◌, ◌<◌, ◌≤◌, ◌==◌, ◌||◌, nat_lt, nat_le, nat_eq, not, Bool, true, false, cond, List, length, get_or, Option, Some, None, is_some, IsTrue, Ok, IsFalse}
use Rattle.std.proofs.Common.{refl, sym, ap, arith, ◌∙◌, subst, inl, inr}
use Rattle.std.specs.Option.{option_map}
use Rattle.std.proofs.lemmas.Bool.{cases_eq, cases_lt}
use Rattle.std.proofs.lemmas.Bool.Decides.{nat_tests}
use Rattle.std.proofs.lemmas.List.{get_or_past}
use Rattle.posix_acl.specs.AccessList.{AccessList, IsAcl, is_extended, mode_bits, IsSomeAcl}
use Rattle.fs_layout.specs.declared.inode.TheConstants.{S_ISGID, S_ISVTX}
use Rattle.fs_layout.specs.declared.inode.Kind.TheVariants as kinds
use Rattle.fs_layout.specs.declared.inode.Inode.{Inode}
use Rattle.fs_layout.specs.declared.version.Version.{Version}
use Rattle.fs_layout.specs.declared.geometry.Geometry.{Geometry}
use Rattle.fs_layout.specs.Bytes.{SectorMap, u16_of}
use Rattle.fs_layout.specs.Inode.{FitsInode, free_inode}
use Rattle.fs_layout.specs.AclSector.{acl_sector_of, acl_content, HoldsAcl}
use Rattle.fs_layout.specs.Images.{inode_map_bits, stored, inode_at, pointer, Holds, HasNoHole}
use Rattle.fs_layout.proofs.AclSectorLaw.{acl_sector_codec}
use Rattle.fs_layout.proofs.Free.{free_has_no_sector, holds_nothing, inode_fits_there}
use Rattle.fs_layout.proofs.Parts.{owns_block}
use Rattle.fs_layout.proofs.Pointers.{trimmed_named}
use Rattle.fs_layout.proofs.Versions.{file_bounds, file_least}
use Rattle.fs_layout.specs.Version.{max_file_size, max_inode_names, max_directory_size, slot_size, keeps_times}
use Rattle.fs_model.specs.Limits.{root}
use Rattle.fs_layout.specs.Maps.{name_cmp, get}
use Rattle.fs_model.specs.Nodes.{Node, Body, File, Dir, Link, Directory, shown_mode, no_stamps}
use Rattle.fs_model.specs.Trees.{Tree, Room, node_at, names_of, parent, IsBody, NamesFit, IsUnderRoot, is_root, is_in, IsDirectoryAt, IsTree, IsTarget, IsDirectory}
use Rattle.fs_model.specs.StoredNodes.{Placed, HoldsBody, HoldsNode, names_field, parent_field}
use Rattle.fs_model.specs.Stands.{HoldsPlaced, HoldsAll, placed, room_of}
use Rattle.fs_layout.proofs.OneAcl.{sector_fits, mode_small}
use Rattle.fs_model.proofs.StepsParents.{parent_names, parent_at, under_root}
use Rattle.fs_layout.specs.Directories.{HasNames, stored_slot, slot_at, slot_count, NamedInode, slot_of}
use Rattle.fs_model.specs.Rules.{ImageRule, InodeBits, Inodes, InData, OwnedOnce, BlockBits, LaidOut, Acls, Slots, NamesApart, Names, Parents, Ways, ObeysEach, IsBit, IsLaidOut, IsStoredAcl, HasSomeAccessAcl, HasSomeDefaultAcl, HasAcls, IsAllowed, IsGoodInode, IsGoodSlot, HasNameCount, HasParent, AreNamesApart, GoesUp, at_root, above, namings, namings_in}
use Rattle.fs_layout.proofs.SlotNames.{slot_leads}
use Rattle.fs_model.specs.Summaries.{is_used}
use Rattle.fs_model.proofs.BuiltNodes.{link_fits}
use Rattle.fs_model.proofs.KindFields.{kind_field}
use Rattle.fs_model.proofs.Marks.{marks}
use Rattle.fs_layout.proofs.ImageSlots.{length-slots, slot_is, count_is}
use Rattle.fs_layout.proofs.SlotSizes.{slots_most}
use Rattle.fs_model.proofs.VersionLimits.{slots_even}
use Rattle.fs_model.proofs.StoredTrees.{StoresAt, Stores, unnamed, names_there, names_are_slots, used_is, directory_there, directory_stored, below_if}

-- ---- one inode

free_laid_out : (m : SectorMap) → IsLaidOut m free_inode
free_laid_out m =
    let h = holds_nothing m free_inode free_has_no_sector refl in
    record {
      trim = h.trim;
      rest = λ i le. h.byte i;
      whole = λ ne k lt. absurd (omega (arith, lt));
      target = λ e. absurd (let c : kinds.Free ≡ kinds.Link = e in cc);
    }

laid_out_if : (m : SectorMap) (v : Inode) (bytes : List ℕ) → Holds m v bytes → (v.kind ≢ kinds.File → HasNoHole m v)
    → (v.kind ≡ kinds.Link → IsTarget bytes) → IsLaidOut m v
laid_out_if m v bytes h whole target = record {
  trim = h.trim;
  rest = λ i le. let size = h.size in h.byte i ∙ get_or_past bytes i 0 (omega (arith, le, size));
  whole = whole;
  target = λ e i lt zero.
      let size = h.size in
      let below : i < length bytes = omega (arith, lt, size) in
      (target e).no_zero i 0 below (sym (h.byte i) ∙ zero);
}

body_laid_out : (version : Version) (room : Room) (t : Tree) (m : SectorMap) (v : Inode) (b : Body) → HoldsBody version m v b → IsBody room t b → IsLaidOut m v
body_laid_out version room t m v (File a bytes) h is =
    laid_out_if m v bytes h.holds (λ ne. absurd (ne h.kind)) (λ e. absurd (let c : kinds.File ≡ kinds.Link = sym h.kind ∙ e in cc))
body_laid_out version room t m v (Dir a d) h is =
    laid_out_if m v _ h.names.holds (λ ne. h.names.whole) (λ e. absurd (let c : kinds.Directory ≡ kinds.Link = sym h.names.kind ∙ e in cc))
body_laid_out version room t m v (Link target) h is = laid_out_if m v target h.holds (λ ne. h.whole) (λ e. is)

stored_acl : (s : List ℕ) (a : AccessList) → IsAcl a → s ≡ acl_content a → IsStoredAcl s a
unfolding acl_content
stored_acl s a valid e = record { valid = valid; entries = ap acl_sector_of e ∙ acl_sector_codec.again _ (sector_fits a valid) }

-- the access ACL of a file or a directory
access_stored : (m : SectorMap) (v : Inode) (a : AccessList) (more : Bool) → is_extended a ≡ more → IsAcl a → mode_bits a ≡ v.mode % 512
    → HoldsAcl m v.acl (cond more (Some a) None) → v.acl ≢ 0 → HasSomeAccessAcl m v
access_stored m v a true e valid bits h some = record { acl = a; stored = stored_acl (m v.acl) a valid h.1; more = e; bits = bits }
access_stored m v a false e valid bits h some = absurd (some h)

default_stored : (m : SectorMap) (v : Inode) (d : Option AccessList) → IsSomeAcl d → HoldsAcl m v.default_acl d → v.default_acl ≢ 0 → HasSomeDefaultAcl m v
default_stored m v None valid h some = absurd (some h)
default_stored m v (Some a) valid h some = record { acl = a; stored = stored_acl (m v.default_acl) a valid h.1 }

low_bits : (mode low : ℕ) (s g : Bool) → low < 512 → mode ≡ low + cond s S_ISVTX 0 + cond g S_ISGID 0 → low ≡ mode % 512
low_bits mode low true true small e = omega (arith, small, e)
low_bits mode low true false small e = omega (arith, small, e)
low_bits mode low false true small e = omega (arith, small, e)
low_bits mode low false false small e = omega (arith, small, e)

body_acls : (version : Version) (m : SectorMap) (v : Inode) (b : Body) → HoldsBody version m v b → v.mode ≡ shown_mode b → HasAcls m v
body_acls version m v (File a bytes) h mode =
    let small = mode_small a in
    record {
      access = access_stored m v a (is_extended a) refl h.acl (omega (arith, small, mode)) h.has_acl;
      default = λ some. absurd (some h.no_default);
      no_link = λ e. absurd (let c : kinds.File ≡ kinds.Link = sym h.kind ∙ e in cc);
      only_directory = λ ne. h.no_default;
    }
body_acls version m v (Dir a d) h mode = record {
  access = access_stored m v a (is_extended a) refl h.acl (low_bits v.mode (mode_bits a) d.sticky d.set_group_id (mode_small a) mode) h.has_acl;
  default = default_stored m v d.default h.default h.has_default;
  no_link = λ e. absurd (let c : kinds.Directory ≡ kinds.Link = sym h.names.kind ∙ e in cc);
  only_directory = λ ne. absurd (ne h.names.kind);
}
body_acls version m v (Link target) h mode = record {
  access = λ some. absurd (some h.no_acl);
  default = λ some. absurd (some h.no_default);
  no_link = λ e. h.no_acl;
  only_directory = λ ne. h.no_default;
}

free_acls : (m : SectorMap) → HasAcls m free_inode
free_acls m = record {
  access = λ some. absurd (some refl);
  default = λ some. absurd (some refl);
  no_link = λ e. refl;
  only_directory = λ ne. refl;
}

body_has_names : (version : Version) (room : Room) → room.names_limit ≡ max_inode_names version
    → (n : ℕ) (m : SectorMap) (v : Inode) (b : Body) (count : ℕ) → HoldsBody version m v b → NamesFit room n b count → v.names ≡ names_field b count
    → HasNameCount version v.kind n v.names count
body_has_names version room same n m v (File a bytes) count h fit e =
    subst (λ k. HasNameCount version k n v.names count) (sym h.kind) (e, subst (λ q. count ≤ q) same fit)
body_has_names version room same n m v (Dir a d) count h fit e = subst (λ k. HasNameCount version k n v.names count) (sym h.names.kind) (e, fit)
body_has_names version room same n m v (Link target) count h fit e =
    subst (λ k. HasNameCount version k n v.names count) (sym h.kind) (e, fit.0, subst (λ q. count ≤ q) same fit.1)

no_parent : (version : Version) (m : SectorMap) (v : Inode) (b : Body) (parent : ℕ) → HoldsBody version m v b
    → v.parent ≡ parent_field b parent → v.kind ≢ kinds.Directory → v.parent ≡ 0
no_parent version m v (File a bytes) parent h e ne = e
no_parent version m v (Dir a d) parent h e ne = absurd (ne h.names.kind)
no_parent version m v (Link target) parent h e ne = e

its_parent : (version : Version) (m : SectorMap) (v : Inode) (b : Body) (parent : ℕ) → HoldsBody version m v b
    → v.parent ≡ parent_field b parent → v.kind ≡ kinds.Directory → v.parent ≡ parent
its_parent version m v (File a bytes) parent h e k = absurd (let c : kinds.File ≡ kinds.Directory = sym h.kind ∙ k in cc)
its_parent version m v (Dir a d) parent h e k = e
its_parent version m v (Link target) parent h e k = absurd (let c : kinds.Link ≡ kinds.Directory = sym h.kind ∙ k in cc)

-- what a version allows
body_allowed : (version : Version) (room : Room) → room.file_limit ≡ max_file_size version
    → (t : Tree) (m : SectorMap) (v : Inode) (b : Body) → HoldsBody version m v b → IsBody room t b → FitsInode v
    → (IsFalse (keeps_times version) → stamps_in v ≡ no_stamps) → IsAllowed version v
body_allowed version room same t m v (File a bytes) h is fits none =
    let size = h.holds.size in
    let few = is.1 in
    record {
      size = λ e. omega (arith, size, few, same);
      indirect = λ level low. trimmed_named m v fits.indirect_len h.holds.trim level (omega (arith, size, few, same, low));
      directory = λ e. absurd (let c : kinds.File ≡ kinds.Directory = sym h.kind ∙ e in cc);
      slots = λ e. absurd (let c : kinds.File ≡ kinds.Directory = sym h.kind ∙ e in cc);
      stamps = none;
    }
body_allowed version room same t m v (Dir a d) h is fits none =
    let n = h.names in
    let size : v.size ≡ slot_size version * length n.slots = n.holds.size ∙ length-slots version n.slots n.each in
    let few : v.size ≤ max_directory_size version = subst (λ q. q ≤ max_directory_size version) (sym size) (slots_most version (length n.slots) n.few) in
    record {
      size = λ e. absurd (let c : kinds.Directory ≡ kinds.File = sym h.names.kind ∙ e in cc);
      indirect = λ level low. trimmed_named m v fits.indirect_len n.holds.trim level (let most = (file_bounds version).0 in omega (arith, few, most, low));
      directory = λ e. few;
      slots = λ e. slots_even version (length n.slots) v.size size;
      stamps = none;
    }
body_allowed version room same t m v (Link target) h is fits none =
    let few = (link_fits v h.kind fits.valid.numbers).2 in
    record {
      size = λ e. absurd (let c : kinds.Link ≡ kinds.File = sym h.kind ∙ e in cc);
      indirect = λ level low. trimmed_named m v fits.indirect_len h.holds.trim level (let least = file_least version in omega (arith, few, least, low));
      directory = λ e. absurd (let c : kinds.Link ≡ kinds.Directory = sym h.kind ∙ e in cc);
      slots = λ e. absurd (let c : kinds.Link ≡ kinds.Directory = sym h.kind ∙ e in cc);
      stamps = none;
    }

free_allowed : (version : Version) → IsAllowed version free_inode
free_allowed version = record {
  size = λ e. absurd (let c : kinds.Free ≡ kinds.File = e in cc);
  indirect = λ level low. free_has_no_sector.indirect level;
  directory = λ e. absurd (let c : kinds.Free ≡ kinds.Directory = e in cc);
  slots = λ e. absurd (let c : kinds.Free ≡ kinds.Directory = e in cc);
  stamps = λ less. free_stamps;
}

-- ---- the whole tree

module _ (p : Geometry) (m : SectorMap) (t : Tree) (held : HoldsAll p m (placed t)) (is : IsTree (room_of p) t) where
  abbrev pub put : ℕ → Node → Placed
  put n node = record { node = node; names = names_of t n; parent = parent t n }

  past : (n : ℕ) → p.inodes ≤ n → node_at t n ≡ None
  past n ge = go (node_at t n) refl
    where
      go : (o : Option Node) → node_at t n ≡ o → o ≡ None
      go None e = refl
      go (Some node) e = absurd (let below = (is.each n node e).below in omega (arith, ge, below))

  stored_if : (n : ℕ) (o : Option Node) → HoldsPlaced p m n (option_map (put n) o) → StoresAt p.version m (inode_at p m n) o
  stored_if n None h = h
  stored_if n (Some node) h = record { owner = h.owner; group = h.group; mode = h.mode; stamps = h.stamps; body = h.body }

  pub stores : Stores p m t
  stores = record {
    numbers = is.numbers;
    past = past;
    blocks = λ n lt k some. held.consistent.owned_sectors n (pointer m (inode_at p m n) k) lt (owns_block m (inode_at p m n) k some);
    nodes = λ n lt. stored_if n (node_at t n) (held.nodes n lt);
  }

  -- a fact of each inode, free or not
  by_node : (Q : ℕ → Type 0) (n : ℕ) → n < p.inodes → (inode_at p m n ≡ free_inode → Q n)
      → ((node : Node) → node_at t n ≡ Some node → HoldsNode p.version m (inode_at p m n) (put n node) → Q n) → Q n
  by_node Q n lt free used = go (node_at t n) refl (held.nodes n lt)
    where
      go : (o : Option Node) → node_at t n ≡ o → HoldsPlaced p m n (option_map (put n) o) → Q n
      go None e h = free h
      go (Some node) e h = used node e h

  count_there : (n : ℕ) → namings p m n ≡ names_of t n
  count_there n = sym (names_are_slots p m t stores n)

  good : (n : ℕ) → n < p.inodes → IsGoodInode p m n
  good n lt = record {
    is = held.consistent.valid n lt;
    allowed = by_node (λ q. IsAllowed p.version (inode_at p m q)) n lt
        (λ free. subst (IsAllowed p.version) (sym free) (free_allowed p.version))
        (λ node at h. body_allowed p.version (room_of p) refl t m (inode_at p m n) node.body h.body (is.each n node at).body (inode_fits_there held.consistent n lt)
        (λ less. h.stamps ∙ (is.each n node at).stamps.none less));
    none = λ e. by_node (λ q. (inode_at p m q).kind ≡ kinds.Free) n lt (λ free. ap (λ (v : Inode). v.kind) free)
        (λ node at h. absurd (let positive = (is.each n node at).positive in omega (arith, positive, e)));
    top = λ e. subst (λ q. (inode_at p m q).kind ≡ kinds.Directory) (sym e) (directory_stored p m t stores root is.root_is_there).1;
  }

  placed_some : (n : ℕ) → is_some (placed t n) ≡ is_some (node_at t n)
  placed_some n = go (node_at t n)
    where
      go : (o : Option Node) → is_some (option_map (put n) o) ≡ is_some o
      go None = refl
      go (Some node) = refl

  inode_bit : (n : ℕ) → n < inode_map_bits p → IsBit p m n
  inode_bit n small = elim (cases_lt n p.inodes) [
    | inl lt ↦
        let used : is_some (placed t n) ≡ not (nat_eq (u16_of (stored p m n) 0) 0) =
        placed_some n ∙ used_is p m t stores n lt ∙ sym (kind_field (stored p m n) (inode_at p m n) (good n lt).is) in
        held.inode_bits n small
        ∙ ap (λ c. nat_eq n 0 || nat_le p.inodes n || c) used
        ∙ sym (marks n (nat_le p.inodes n) (not (nat_eq (u16_of (stored p m n) 0) 0))
        (λ e. kind_field (stored p m n) (inode_at p m n) (good n lt).is ∙ ap is_used ((good n lt).top e)))
    | inr ge ↦
        let over : nat_le p.inodes n ≡ true = grind (arith, nat_tests) in
        held.inode_bits n small ∙ ap (λ b. nat_eq n 0 || b || is_some (placed t n)) over
        ∙ either (nat_eq n 0) (is_some (placed t n)) ∙ sym (either (nat_lt n 2) (not (nat_eq (u16_of (stored p m n) 0) 0)))
        ∙ ap (λ b. nat_lt n 2 || b || not (nat_eq (u16_of (stored p m n) 0) 0)) (sym over)
  ]
    where
      either : (a c : Bool) → (a || true || c) ≡ true
      either true c = refl
      either false c = refl

  laid_out : (n : ℕ) → n < p.inodes → IsLaidOut m (inode_at p m n)
  laid_out n lt =
      by_node (λ q. IsLaidOut m (inode_at p m q)) n lt (λ free. subst (IsLaidOut m) (sym free) (free_laid_out m))
      (λ node at h. body_laid_out p.version (room_of p) t m (inode_at p m n) node.body h.body (is.each n node at).body)

  acls : (n : ℕ) → n < p.inodes → HasAcls m (inode_at p m n)
  acls n lt =
      by_node (λ q. HasAcls m (inode_at p m q)) n lt (λ free. subst (HasAcls m) (sym free) (free_acls m))
      (λ node at h. body_acls p.version m (inode_at p m n) node.body h.body h.mode)

  names : (n : ℕ) → n < p.inodes → HasNameCount p.version (inode_at p m n).kind n (inode_at p m n).names (namings p m n)
  names n lt =
      by_node (λ q. HasNameCount p.version (inode_at p m q).kind q (inode_at p m q).names (namings p m q)) n lt
      (λ free. subst (λ v. HasNameCount p.version v.kind n v.names (namings p m n)) (sym free) tt)
      (λ node at h. subst (HasNameCount p.version (inode_at p m n).kind n (inode_at p m n).names) (sym (count_there n))
      (body_has_names p.version (room_of p) refl n m (inode_at p m n) node.body (names_of t n) h.body (is.each n node at).names h.names))

  -- ---- directories

  -- what stands at a directory's number
  record DirectoryAt (n : ℕ) : Type 0 where
    dir : Directory
    names : HasNames p.version m (inode_at p m n) dir.names
    valid : IsDirectory (room_of p) t dir

  directory_at : (n : ℕ) → n < p.inodes → (inode_at p m n).kind ≡ kinds.Directory → DirectoryAt n
  directory_at n lt kind =
      by_node DirectoryAt n lt (λ free. absurd (let c : kinds.Free ≡ kinds.Directory = sym (ap (λ (v : Inode). v.kind) free) ∙ kind in cc))
      (λ node at h. go node.body h.body (is.each n node at).body)
    where
      go : (b : Body) → HoldsBody p.version m (inode_at p m n) b → IsBody (room_of p) t b → DirectoryAt n
      go (File a bytes) h is = absurd (let c : kinds.File ≡ kinds.Directory = sym h.kind ∙ kind in cc)
      go (Dir a d) h is = record { dir = d; names = h.names; valid = is.2 }
      go (Link target) h is = absurd (let c : kinds.Link ≡ kinds.Directory = sym h.kind ∙ kind in cc)

  read_slot : (n : ℕ) (lt : n < p.inodes) (x : DirectoryAt n) (k : ℕ) (d : NamedInode) → k < slot_count p.version (inode_at p m n)
      → (k < length x.names.slots) × (slot_of p.version (stored_slot p.version m (inode_at p m n) k) ≡ Ok (slot_at p.version m (inode_at p m n) k))
      × (slot_at p.version m (inode_at p m n) k ≡ get_or x.names.slots k d)
  read_slot n lt x k d below =
      let h = x.names in
      let count = count_is p.version m (inode_at p m n) h.slots h.whole (stores.blocks n lt) h.each h.holds in
      let there : k < length x.names.slots = omega (arith, below, count) in
      let both = slot_is p.version m (inode_at p m n) h.slots h.whole (stores.blocks n lt) h.each h.holds k d there in
      (there, both.0, both.1)

  slot : (n : ℕ) → n < p.inodes → (inode_at p m n).kind ≡ kinds.Directory → (k : ℕ) → k < slot_count p.version (inode_at p m n)
      → IsGoodSlot p m (inode_at p m n) k
  slot n lt kind k below =
      let x = directory_at n lt kind in
      let none = slot_at p.version m (inode_at p m n) k in
      let r = read_slot n lt x k none below in
      let s = get_or x.names.slots k none in
      let leads : get name_cmp x.dir.names s.name ≡ Some s.ino =
      ap (λ q. get name_cmp q s.name) x.names.are ∙ slot_leads x.names.slots none k x.names.apart r.0 in
      let entry = (x.valid.each s.name s.ino leads).leads in
      let number : s.ino ≡ (slot_at p.version m (inode_at p m n) k).ino = ap (λ (q : NamedInode). q.ino) (sym r.2) in
      let few : s.ino < p.inodes = there s.ino entry.1 in
      let used : is_used (inode_at p m s.ino).kind ≡ true = sym (used_is p m t stores s.ino few) ∙ entry.1 in
      record {
        is = r.1;
        below = subst (λ q. q < p.inodes) number few;
        used = subst (λ q. (inode_at p m q).kind ≢ kinds.Free) number (λ e. let c : false ≡ true = sym (ap is_used e) ∙ used in cc);
        not_root = subst (λ q. q ≢ root) number entry.0;
      }
    where
      there : (q : ℕ) → IsTrue (is_some (node_at t q)) → q < p.inodes
      there q some = go (node_at t q) refl some
        where
          go : (o : Option Node) → node_at t q ≡ o → IsTrue (is_some o) → q < p.inodes
          go None e some = absurd (let c : false ≡ true = some in cc)
          go (Some node) e some = below_if p m t stores q node e

  apart_names : (n : ℕ) → n < p.inodes → (inode_at p m n).kind ≡ kinds.Directory → AreNamesApart p.version m (inode_at p m n)
  apart_names n lt kind j k less below =
      let x = directory_at n lt kind in
      let none = slot_at p.version m (inode_at p m n) k in
      let a = read_slot n lt x j none (omega (arith, less, below)) in
      let b = read_slot n lt x k none below in
      λ e. x.names.apart j k none less b.0 (ap (λ (q : NamedInode). q.name) (sym a.2) ∙ e ∙ ap (λ (q : NamedInode). q.name) b.2)

  parent_there : (n : ℕ) → n < p.inodes → (inode_at p m n).kind ≡ kinds.Directory → (inode_at p m n).parent ≡ parent t n
  parent_there n lt kind =
      by_node (λ q. (inode_at p m q).parent ≡ parent t q) n lt
      (λ free. absurd (let c : kinds.Free ≡ kinds.Directory = sym (ap (λ (v : Inode). v.kind) free) ∙ kind in cc))
      (λ node at h. its_parent p.version m (inode_at p m n) node.body (parent t n) h.body h.parent kind)

  its_names : (n : ℕ) → n < p.inodes → (inode_at p m n).kind ≡ kinds.Directory → names_of t n ≡ (cond (n == root) 0 1)
  its_names n lt kind = sym (count_there n) ∙ (subst (λ k. HasNameCount p.version k n (inode_at p m n).names (namings p m n)) kind (names n lt)).1

  parents : (n : ℕ) → n < p.inodes → HasParent p m n
  parents n lt = record {
    named = λ kind ne.
        let d = directory_there p m t stores n lt kind in
        let up = directory_stored p m t stores (parent t n) (parent_at (room_of p) t is n d ne) in
        let other : (n == root) ≡ false = grind (arith, nat_tests) in
        let one : names_of t n ≡ 1 = its_names n lt kind ∙ ap (λ b. cond b 0 1) other in
        let some = parent_names t n is.numbers (omega (arith, one)) in
        let here = names_there p m t stores (parent t n) n up.0 in
        let same = parent_there n lt kind in
        subst (λ q. (q < p.inodes) × (1 ≤ namings_in p.version m (inode_at p m q) n)) (sym same) (up.0, omega (arith, some, here));
    top = λ e.
        let kind = (good n lt).top e in
        let top : (n == root) ≡ true = grind (arith, nat_tests) in
        parent_there n lt kind ∙ unnamed t n (its_names n lt kind ∙ ap (λ b. cond b 0 1) top);
    none = λ ne.
        by_node (λ q. (inode_at p m q).parent ≡ 0) n lt (λ free. ap (λ (v : Inode). v.parent) free)
        (λ node at h. no_parent p.version m (inode_at p m n) node.body (parent t n) h.body h.parent ne);
  }

  goes_up : {d : ℕ} → IsUnderRoot t d → IsDirectoryAt t d → GoesUp p m d
  goes_up is_root d_at = at_root
  goes_up (is_in d below) d_at = elim (cases_eq d root) [
    | inl e ↦ subst (GoesUp p m) (sym e) at_root
    | inr ne ↦
        let here = directory_stored p m t stores d d_at in
        let rest = goes_up below (parent_at (room_of p) t is d d_at ne) in
        above d (subst (GoesUp p m) (sym (parent_there d here.0 here.1)) rest)
  ]

  ways : (n : ℕ) → n < p.inodes → (inode_at p m n).kind ≡ kinds.Directory → GoesUp p m n
  ways n lt kind =
      let d = directory_there p m t stores n lt kind in
      goes_up (under_root (room_of p) t is n d) d

  pub obeys : (r : ImageRule) → ObeysEach p m r
  obeys InodeBits n = inode_bit n
  obeys Inodes n = good n
  obeys InData n = λ lt s o. held.consistent.in_data n s lt o
  obeys OwnedOnce s = λ j k a b x y. held.consistent.sole j k s a b x y
  obeys BlockBits s = λ lt. held.consistent.block_bits s lt
  obeys LaidOut n = laid_out n
  obeys Acls n = acls n
  obeys Slots n = slot n
  obeys NamesApart n = apart_names n
  obeys Names n = names n
  obeys Parents n = parents n
  obeys Ways n = ways n
