-- An image of another version, whose files may be as large and whose slots take as many bytes, stands for the same tree.
use Rattle.std.specs.Prelude.{◌≡◌, ℕ, ◌<◌, ◌≤◌, ◌*◌, Bool, true, false, not, ◌&&◌, nat_le, nat_lt, List, length, get_or, Option, None, Some, if◌then◌else◌}
use Rattle.std.proofs.Common.{◌+◌, ◌⊎◌, refl, sym, ap, subst, arith, inl, inr, ◌∙◌}
use Rattle.fs_layout.specs.declared.superblock.Super.{Super}
use Rattle.fs_layout.specs.declared.geometry.Geometry.{Geometry}
use Rattle.fs_layout.specs.declared.geometry.TheConstants.{COMMIT_SECTOR}
use Rattle.fs_layout.specs.declared.version.Version.{Version}
use Rattle.fs_layout.specs.Commit.{named_area, named_start, targets_in}
use Rattle.fs_layout.specs.Header.{header_of, log_end}
use Rattle.fs_layout.specs.Bytes.{SectorMap}
use Rattle.fs_layout.specs.Directories.{HasNames}
use Rattle.fs_layout.specs.declared.inode.Inode.{Inode}
use Rattle.fs_layout.specs.Images.{inode_at, stored, Owns, Holds}
use Rattle.fs_layout.specs.Ownership.{IsOwned, IsConsistent, Agrees}
use Rattle.fs_layout.specs.Geometry.{IsGeometry, are_in_range, allows_header, geometry_in, laid_out_in}
use Rattle.fs_layout.specs.Recovered.{recovered}
use Rattle.fs_layout.specs.Superblock.{super_bytes, super_of, FitsSuper, with_version}
use Rattle.fs_layout.specs.Version.{max_sectors, max_inodes, max_file_size, max_name, max_names, max_inode_names, slot_size, keeps_times}
use Rattle.fs_layout.proofs.Codecs.{same_spelling}
use Rattle.fs_layout.proofs.SuperLaw.{super_codec}
use Rattle.fs_layout.proofs.Agree.{same_agrees, agree_free_sectors}
use Rattle.fs_layout.proofs.Targets.{area_room, targets_in-valid}
use Rattle.fs_layout.proofs.Places.{after_map, before_data, geometry_is_laid_out, is_a_geometry}
use Rattle.fs_layout.proofs.RecoveryLaw.{header_of-super_bytes, log_start, log_there, recovered-alike, valid_alike}
use Rattle.fs_model.specs.Nodes.{Node, Body, File, Dir, Link, Directory}
use Rattle.fs_model.specs.Stands.{HoldsPlaced, HoldsAll, placed, room_of, room_in, Stands}
use Rattle.fs_model.specs.StoredNodes.{Placed, HoldsBody}
use Rattle.fs_model.specs.Trees.{Tree, Room, names_of, IsDirectory, AreStamps, IsBody, NamesFit, IsNode, IsTree}
use Rattle.fs_model.specs.Laws.{IsInVersion}
use Rattle.fs_model.proofs.Frame.{agreed}
use Rattle.fs_model.proofs.NodesHeld.{node_held}
use Rattle.fs_model.proofs.VersionLimits.{HasSameNames, HasSameRange, same_names, same_range, same_slots, same_times}

-- ---- the geometry

abbrev in_version : Version → Geometry → Geometry
in_version version p = record p { version = version }

abbrev some_unless : Bool → Bool → Bool → Geometry → Option Geometry
some_unless a b c p = if a then None else (if b then None else (if c then None else Some p))

placed_in : (a b c : Bool) (x y p : Geometry) → some_unless a b c x ≡ Some p → some_unless a b c y ≡ Some y
placed_in true b c x y p is = absurd (cc)
placed_in false true c x y p is = absurd (cc)
placed_in false false true x y p is = absurd (cc)
placed_in false false false x y p is = refl

-- a disk with these numbers has a geometry in each version with the same range
geometry_in_version : (old new : Version) (header sectors inodes : ℕ) (p : Geometry) → HasSameRange old new → geometry_in old header sectors inodes ≡ Some p
    → geometry_in new header sectors inodes ≡ Some (laid_out_in new header sectors inodes)
unfolding geometry_in
geometry_in_version old new header sectors inodes p same is =
    let in_range : are_in_range old sectors inodes ≡ are_in_range new sectors inodes =
    ap (λ n. (nat_le 1024 sectors && nat_le sectors n) && (nat_le 16 inodes && nat_le inodes (max_inodes old))) same.sectors
    ∙ ap (λ n. (nat_le 1024 sectors && nat_le sectors (max_sectors new)) && (nat_le 16 inodes && nat_le inodes n)) same.inodes in
    let past = nat_lt sectors ((laid_out_in new header sectors inodes).first_data + 64) in
    ap (λ b. some_unless (not b) (not (allows_header new header sectors inodes)) past (laid_out_in new header sectors inodes)) (sym in_range)
    ∙ ap (λ b. some_unless (not (are_in_range old sectors inodes)) (not b) past (laid_out_in new header sectors inodes)) (sym (same.header header sectors inodes))
    ∙ placed_in (not (are_in_range old sectors inodes)) (not (allows_header old header sectors inodes)) past
    (laid_out_in old header sectors inodes) (laid_out_in new header sectors inodes) p is

-- ---- what is held doesn't rest on the version

module _ (version : Version) (p : Geometry) (image : SectorMap) where
  same_inode : (n : ℕ) → inode_at (in_version version p) image n ≡ inode_at p image n
  unfolding inode_at stored
  same_inode n = refl

  same_bytes : (n : ℕ) → stored (in_version version p) image n ≡ stored p image n
  unfolding stored
  same_bytes n = refl

  geometry_is_geometry_in : HasSameRange p.version version → IsGeometry p → IsGeometry (in_version version p)
  geometry_is_geometry_in same is = record {
    least_sectors = is.least_sectors;
    most_sectors = subst (λ n. p.sectors ≤ n) same.sectors is.most_sectors;
    least_inodes = is.least_inodes;
    most_inodes = subst (λ n. p.inodes ≤ n) same.inodes is.most_inodes;
    header = is.header;
    log = is.log;
    inode_bits = is.inode_bits;
    bits = is.bits;
    slots = is.slots;
    room = is.room;
    data_sectors = is.data_sectors;
  }

  owned_in : (n : ℕ) {s : ℕ} → Owns image (inode_at (in_version version p) image n) s → Owns image (inode_at p image n) s
  unfolding inode_at stored
  owned_in n owns = owns

  owned_by : {s : ℕ} → IsOwned p image s → IsOwned (in_version version p) image s
  unfolding inode_at stored
  owned_by o = record { by = o.by; below = o.below; is = o.is }

  owned_back : {s : ℕ} → IsOwned (in_version version p) image s → IsOwned p image s
  unfolding inode_at stored
  owned_back o = record { by = o.by; below = o.below; is = o.is }

  consistent_in : HasSameRange p.version version → IsConsistent p image → IsConsistent (in_version version p) image
  unfolding inode_at stored
  consistent_in same c = record {
    geometry = geometry_is_geometry_in same c.geometry;
    sectors = c.sectors;
    owned_sectors = c.owned_sectors;
    valid = c.valid;
    in_data = c.in_data;
    sole = c.sole;
    block_bits = λ s fits. (
      λ t. owned_with owned_by ((c.block_bits s fits).0 t),
      λ o. (c.block_bits s fits).1 (owned_with owned_back o),
    );
  }
    where
      owned_with : {A B C D : Type 0} → (C → D) → A ⊎ (B ⊎ C) → A ⊎ (B ⊎ D)
      owned_with f (inl a) = inl a
      owned_with f (inr (inl b)) = inr (inl b)
      owned_with f (inr (inr c)) = inr (inr (f c))

  names_in_version : (v : Inode) (names : List (List ℕ × ℕ)) → HasSameNames p.version version → HasNames p.version image v names
      → HasNames version image v names
  names_in_version v names same h = record {
    kind = h.kind;
    slots = h.slots;
    are = h.are;
    apart = h.apart;
    each = λ k d lt.
        let fits = h.each k d lt in
        record { ino = fits.ino; name = fits.name; short = subst (λ n. length (get_or h.slots k d).name ≤ n) same.name fits.short; bytes = fits.bytes };
    few = subst (λ n. length h.slots ≤ n) same.names h.few;
    holds = subst (Holds image v) (same_slots p.version version h.slots same) h.holds;
    whole = h.whole;
  }

  body_in_version : (v : Inode) (b : Body) → HasSameNames p.version version → HoldsBody p.version image v b → HoldsBody version image v b
  body_in_version v (File a bytes) same h = h
  body_in_version v (Dir a d) same h = record {
    names = names_in_version v d.names same h.names;
    acl = h.acl;
    default = h.default;
    has_acl = h.has_acl;
    has_default = h.has_default;
  }
  body_in_version v (Link target) same h = h

  placed_in_version : (n : ℕ) (o : Option Placed) → HasSameNames p.version version → HoldsPlaced p image n o → HoldsPlaced (in_version version p) image n o
  unfolding inode_at stored
  placed_in_version n None same h = h
  placed_in_version n (Some x) same h =
      node_held version image (inode_at p image n) x h.owner h.group h.mode h.names h.parent h.stamps (body_in_version (inode_at p image n) x.node.body same h.body)

  all_held_in : (what : ℕ → Option Placed) → HasSameNames p.version version → HasSameRange p.version version → HoldsAll p image what
      → HoldsAll (in_version version p) image what
  all_held_in what names range h = record {
    consistent = consistent_in range h.consistent;
    nodes = λ n lt. placed_in_version n (what n) names (h.nodes n lt);
    inode_bits = h.inode_bits;
  }

-- ---- a tree has room where each limit is as large

record HasRoomFor (old new : Room) : Type 0 where
  inodes : new.inodes ≡ old.inodes
  files : old.file_limit ≤ new.file_limit
  name : old.name_limit ≤ new.name_limit
  entries : old.entries_limit ≤ new.entries_limit
  names : old.names_limit ≤ new.names_limit
  times : old.keeps_times ≡ new.keeps_times

module _ (old new : Room) (larger : HasRoomFor old new) (t : Tree) where
  directory_fits : (d : Directory) → IsDirectory old t d → IsDirectory new t d
  directory_fits d is = record {
    names = is.names;
    few = let few = is.few in let more = larger.entries in omega (arith, few, more);
    each = λ name n e.
        let entry = is.each name n e in
        record {
          is_name = entry.is_name;
          short = (let short = entry.short in let more = larger.name in omega (arith, short, more));
          bytes = entry.bytes;
          leads = entry.leads;
        };
  }

  body_fits : (b : Body) → IsBody old t b → IsBody new t b
  body_fits (File a bytes) is = (is.0, let few = is.1 in let more = larger.files in omega (arith, few, more), is.2)
  body_fits (Dir a d) is = (is.0, is.1, directory_fits d is.2)
  body_fits (Link target) is = is

  names_fit : (n : ℕ) (b : Body) (names : ℕ) → NamesFit old n b names → NamesFit new n b names
  names_fit n (File a bytes) names few = let more = larger.names in omega (arith, few, more)
  names_fit n (Dir a d) names fits = fits
  names_fit n (Link target) names fits = (fits.0, let few = fits.1 in let more = larger.names in omega (arith, few, more))

  node_fits : (n : ℕ) (node : Node) → IsNode old t n node → IsNode new t n node
  node_fits n node is = record {
    positive = is.positive;
    below = subst (λ (k : ℕ). n < k) (sym larger.inodes) is.below;
    owner = is.owner;
    group = is.group;
    stamps = subst (λ keeps. AreStamps keeps node.stamps) larger.times is.stamps;
    body = body_fits node.body is.body;
    names = names_fit n node.body (names_of t n) is.names;
    under_root = is.under_root;
  }

  tree_fits : IsTree old t → IsTree new t
  tree_fits is = record { numbers = is.numbers; root_is_there = is.root_is_there; each = λ n node at. node_fits n node (is.each n node at) }

-- the room of a disk in a version with the same limits of names, and files as large, which keeps times if the other does
has_room : (version : Version) (p : Geometry) {room : Room} → room ≡ room_of p → max_file_size p.version ≤ max_file_size version
    → HasSameNames p.version version → keeps_times p.version ≡ keeps_times version → HasRoomFor room (room_in version room)
has_room version p {room = room} is larger same keeps =
    let files : room.file_limit ≡ max_file_size p.version = ap (λ (r : Room). r.file_limit) is in
    let name : room.name_limit ≡ max_name p.version = ap (λ (r : Room). r.name_limit) is in
    let entries : room.entries_limit ≡ max_names p.version = ap (λ (r : Room). r.entries_limit) is in
    let names : room.names_limit ≡ max_inode_names p.version = ap (λ (r : Room). r.names_limit) is in
    let times : room.keeps_times ≡ keeps_times p.version = ap (λ (r : Room). r.keeps_times) is in
    let a = same.name in
    let b = same.names in
    let c = same.inode_names in
    record {
      inodes = refl;
      files = omega (arith, files, larger);
      name = omega (arith, name, a);
      entries = omega (arith, entries, b);
      names = omega (arith, names, c);
      times = times ∙ keeps;
    }

-- ---- the image

-- the superblock says the other version as well as it says its own
super_in_version : (version : Version) (super : Super) → slot_size super.version ≡ slot_size version → FitsSuper super → FitsSuper (with_version version super)
super_in_version version super slots fits = record {
  sectors = fits.sectors;
  inodes = fits.inodes;
  header = fits.header;
  no_header = λ e. fits.no_header ((same_range super.version version slots).numbers ∙ e);
}

module _ (version : Version) (sectors : ℕ) (old new : SectorMap) (super : Super) (room : Room) (t : Tree) (free : ℕ)
    (x : Stands sectors old room t free) (is : IsInVersion version sectors old new super) where
  there : x.geometry ≡ laid_out_in x.super.version x.super.header sectors x.super.inodes
  there = geometry_is_laid_out sectors x.super.inodes x.has_geometry

  geometry : IsGeometry x.geometry
  geometry = is_a_geometry x.super.version x.super.header sectors x.super.inodes x.has_geometry

  size : x.geometry.sectors ≡ sectors
  size = ap (λ (q : Geometry). q.sectors) there

  same_super : super ≡ x.super
  same_super = same_spelling 512 FitsSuper super_bytes super_of super_codec super x.super is.fits x.super_fits (sym is.was ∙ x.super_is)

  same_slot_size : slot_size x.super.version ≡ slot_size version
  same_slot_size = ap (λ (v : Super). slot_size v.version) (sym same_super) ∙ is.slots

  own_version : x.geometry.version ≡ x.super.version
  own_version = ap (λ (q : Geometry). q.version) there

  own_slot_size : slot_size x.geometry.version ≡ slot_size version
  own_slot_size = ap slot_size own_version ∙ same_slot_size

  -- ---- superblock, commit sector and log

  headers : header_of (new 0) ≡ header_of (old 0)
  headers =
      ap header_of is.says ∙ header_of-super_bytes (with_version version super) (super_in_version version super is.slots is.fits)
      ∙ sym (ap header_of is.was ∙ header_of-super_bytes super is.fits)

  commit : new COMMIT_SECTOR ≡ old COMMIT_SECTOR
  commit = is.others COMMIT_SECTOR (omega arith) (let least = geometry.least_sectors in omega (arith, least, size))

  log_area : (k : ℕ) → k < 126 + 129 * header_of (old 0) → new (named_start old + k) ≡ old (named_start old + k)
  log_area k lt =
      let between : (2 ≤ named_start old) × (named_start old + 126 + 129 * header_of (old 0) ≤ log_end (header_of (old 0))) =
      area_room (header_of (old 0)) (named_area old) in
      let log : log_end (header_of (old 0)) ≡ x.geometry.inode_bitmap = log_there x.super (old 0) sectors x.super_fits x.super_is x.has_geometry in
      let order = after_map geometry in
      let table = before_data geometry in
      let room_behind = geometry.data_sectors in
      is.others (named_start old + k) (omega (arith, between.0)) (omega (arith, lt, between.1, log, order.1, order.2, table, room_behind, size))

  header : (k : ℕ) → k < header_of (old 0) → new (named_start old + k) ≡ old (named_start old + k)
  header k lt = log_area k (omega (arith, lt))

  contents : (k : ℕ) → k < length (targets_in sectors old) → new (log_start old + k) ≡ old (log_start old + k)
  contents k lt =
      let few = (targets_in-valid sectors old).few in
      ap new (omega arith) ∙ log_area (header_of (old 0) + k) (omega (arith, few, lt)) ∙ ap old (omega arith)

  -- ---- what is read after recovery

  alike : Agrees x.geometry (recovered sectors old) (recovered sectors new)
  alike =
      same_agrees geometry (λ s past lt.
      recovered-alike sectors old new s headers commit header contents
      (is.others s (let order = after_map geometry in omega (arith, past, order.0)) (omega (arith, lt, size))))

  held : HoldsAll x.geometry (recovered sectors new) (placed t)
  held = agreed x.geometry (recovered sectors old) (recovered sectors new) (placed t) x.holds alike

  pub stands_in_version : Stands sectors new (room_in version room) t free
  stands_in_version =
      let names : HasSameNames x.geometry.version version = same_names x.geometry.version version own_slot_size in
      let larger : max_file_size x.geometry.version ≤ max_file_size version =
      subst (λ v. max_file_size v ≤ max_file_size version) (ap (λ (v : Super). v.version) same_super ∙ sym own_version) is.larger in
      record {
        super = with_version version x.super;
        geometry = in_version version x.geometry;
        super_is = is.says ∙ ap (λ (v : Super). super_bytes (with_version version v)) same_super;
        super_fits = super_in_version version x.super same_slot_size x.super_fits;
        same_size = x.same_size;
        has_geometry =
            geometry_in_version x.super.version version x.super.header sectors x.super.inodes x.geometry (same_range x.super.version version same_slot_size) x.has_geometry
            ∙ ap (λ (q : Geometry). Some (in_version version q)) (sym there);
        commit_is = valid_alike sectors old new headers commit header x.commit_is;
        room_is = ap (room_in version) x.room_is;
        holds = all_held_in version x.geometry (recovered sectors new) (placed t) names (same_range x.geometry.version version own_slot_size) held;
        tree_is = tree_fits room (room_in version room) (has_room version x.geometry x.room_is larger names (same_times x.geometry.version version own_slot_size)) t x.tree_is;
        free_is = x.free_is ∙ sym (agree_free_sectors x.holds.consistent alike);
      }
