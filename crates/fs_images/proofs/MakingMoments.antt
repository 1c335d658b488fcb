-- What images stand on the disk while a new file system is made.
use Rattle.std.proofs.Common.{◌≡◌, ◌≢◌, ℕ, ◌+◌, ◌-◌, ◌<◌, ◌≤◌, List, [], length, sym, ap, subst, ◌∙◌, arith, inl, inr, ◌⊎◌, ⊎_elim, Some, set, get_or-set_same, get_or-set_other}
use Rattle.std.proofs.lemmas.Bool.{cases_eq}
use Rattle.std.proofs.lemmas.List.{length-set}
use Rattle.sector_disk.specs.Disk.{DiskState, Image, sector, AddsOnly, ChangesOnly, Elapses, IsImage, IsImageOr, IsStable, IsWrite, LeavesOnly}
use Rattle.sector_disk.proofs.Moments.{adds_nothing, adds_write, goes_on, image_or, joined, started, stays, stays_or, weaker}
use Rattle.fs_layout.specs.declared.geometry.Geometry.{Geometry}
use Rattle.fs_layout.specs.Bytes.{zeros}
use Rattle.fs_layout.specs.Commit.{commit_bytes}
use Rattle.fs_layout.specs.declared.version.Version.{Version}
use Rattle.fs_layout.specs.Geometry.{IsGeometry, new_header, super_for, the_geometry}
use Rattle.fs_layout.specs.Superblock.{super_bytes}
use Rattle.fs_layout.proofs.Places.{after_map, before_data, geometry_is_laid_out, is_a_geometry}
use Rattle.fs_model.specs.NewDisk.{empty_tree, IsNewImage}
use Rattle.fs_model.specs.Stands.{room_of, Stands}
use Rattle.fs_model.proofs.NewDiskStands.{new_disk_stands}
use Rattle.fs_images.specs.Making.{BehindSuperblock, HasNoSuperblock, HoldsNewTables, IsCleared, IsNewDisk, IsPrepared, KeepsBehind, KeepsBesideTables, KeepsRest}
use Rattle.fs_images.specs.NewTables.{IsNewTable}
use Rattle.fs_images.proofs.MakingTables.{new_image}

-- while zeros are written over the superblock, an image is one of before, or has none
pub before_or_cleared : (old : DiskState) (content : List ℕ) → 0 < old.size → content ≡ zeros 512 → (image : Image) → IsImageOr (IsWrite 0 content) old image
    → IsImage old image ⊎ HasNoSuperblock image
before_or_cleared old content room zero image is = ⊎_elim (λ was. inl (before was)) (λ new. inr (new.1 ∙ zero)) (is.each 0 room)
  where
    before : old.may_hold 0 (sector image 0) → IsImage old image
    before was = record {
      size = is.size;
      each = λ n below. ⊎_elim (λ same. same) (λ here. subst (λ (k : ℕ). old.may_hold k (sector image k)) (sym here.0) was) (is.each n below);
    }

-- once that is stable, there is none
pub cleared : (old new : DiskState) (content : List ℕ) → 0 < old.size → content ≡ zeros 512 → new.size ≡ old.size → length old.seen ≡ old.size
    → new.seen ≡ set old.seen 0 content → IsStable new → IsCleared new
cleared old new content room zero size whole put stable = record {
  room = omega (arith, room, size);
  whole = ap length put ∙ length-set old.seen 0 content ∙ whole ∙ sym size;
  stable = stable;
  cleared = ap (λ (i : Image). sector i 0) put ∙ get_or-set_same old.seen 0 content [] (omega (arith, room, whole)) ∙ zero;
}

-- then it has none while all else is written
pub still_cleared : (old : DiskState) → IsCleared old → (image : Image) → IsImageOr BehindSuperblock old image → HasNoSuperblock image
still_cleared old at_rest image is = stays at_rest.stable at_rest.whole is 0 (λ content lt. omega (arith, lt)) ∙ at_rest.cleared

-- what several writes add, and then what more of them add
pub adds_joined : {R : ℕ → List ℕ → Type 0} {old mid new : DiskState} → AddsOnly R old mid → AddsOnly R mid new → AddsOnly R old new
adds_joined first second = record {
  size = second.size ∙ first.size;
  nothing_else = λ n content holds. ⊎_elim (first.nothing_else n content) (λ more. inr more) (second.nothing_else n content holds);
}

pub image_joined : {R : ℕ → List ℕ → Type 0} {old mid : DiskState} → AddsOnly R old mid → (image : Image) → IsImageOr R mid image → IsImageOr R old image
image_joined {old = old} {mid} first image is = record {
  size = is.size ∙ first.size;
  each = λ n below. ⊎_elim (first.nothing_else n (sector image n)) (λ more. inr more) (is.each n (omega (arith, below, first.size)));
}

-- a sector behind the superblock is written, and then more of them
module _ {old mid : DiskState} {n : ℕ} {content : List ℕ} (later : 1 ≤ n) (changes : ChangesOnly old mid n content) where
  pub adds_one : AddsOnly BehindSuperblock old mid
  adds_one = adds_write adds_nothing changes (λ k c is same. omega (arith, is, later))

  module _ (only_now : (image : Image) → old.left_since old.moment image → IsImage old image) (at_rest : IsCleared old) (time : Elapses old mid) where
    pub leaves_none : LeavesOnly old mid HasNoSuperblock
    leaves_none =
        let start = started only_now (λ image is. still_cleared old at_rest image (image_or (adds_nothing {R = BehindSuperblock}) image is)) in
        goes_on start time (λ image is. still_cleared old at_rest image (image_or adds_one image is))

    pub leaves_none_then : {new : DiskState} → LeavesOnly mid new (IsImageOr BehindSuperblock mid) → LeavesOnly old new HasNoSuperblock
    leaves_none_then run = joined leaves_none (weaker (λ image is. still_cleared old at_rest image (image_joined adds_one image is)) run)

-- one sector of the tables more
pub table_more : (p : Geometry) (old new : Image) (n : ℕ) (content : List ℕ) → n < length old → new ≡ set old n content → IsNewTable p n content
    → ((s : ℕ) → p.inode_bitmap ≤ s → s < n → IsNewTable p s (sector old s)) → (s : ℕ) → p.inode_bitmap ≤ s → s < n + 1
    → IsNewTable p s (sector new s)
table_more p old new n content fits put is so_far s ge lt = elim (cases_eq s n) [
  | inl here ↦
      let e : sector new s ≡ content = ap (sector new) here ∙ ap (λ (i : Image). sector i n) put ∙ get_or-set_same old n content [] fits in
      subst (IsNewTable p s) (sym e) (subst (λ (k : ℕ). IsNewTable p k content) (sym here) is)
  | inr there ↦
      let e : sector new s ≡ sector old s = ap (λ (i : Image). sector i s) put ∙ get_or-set_other old n s content [] there in
      subst (IsNewTable p s) (sym e) (so_far s ge (omega (arith, lt, there)))
]

-- another sector is the same
pub same_beside : (old new : Image) (n k : ℕ) (content : List ℕ) → new ≡ set old n content → k ≢ n → sector new k ≡ sector old k
same_beside old new n k content put ne = ap (λ (i : Image). sector i k) put ∙ get_or-set_other old n k content [] ne

-- ---- what stays as it was
-- each sector but the superblock, which is written
pub behind_kept : (old new : Image) (content : List ℕ) → new ≡ set old 0 content → KeepsBehind old new
behind_kept old new content put n some = same_beside old new 0 n content put (λ e. omega (arith, e, some))

-- one sector of the tables more
pub beside_tables_kept : (p : Geometry) (first old new : Image) (n : ℕ) (content : List ℕ) → p.inode_bitmap ≤ n → n < p.first_data → new ≡ set old n content
    → KeepsBesideTables p first old → KeepsBesideTables p first new
beside_tables_kept p first old new n content from to put so_far = record {
  before_tables = λ k lt. same_beside old new n k content put (λ e. omega (arith, e, lt, from)) ∙ so_far.before_tables k lt;
  data_sectors = λ k ge. same_beside old new n k content put (λ e. omega (arith, e, ge, to)) ∙ so_far.data_sectors k ge;
}

-- the commit and the tables are written
pub rest_kept : (p : Geometry) (old idle tables new : Image) (content : List ℕ) → IsGeometry p → idle ≡ set old 1 content → KeepsBesideTables p idle tables
    → new ≡ tables → KeepsRest p old new
rest_kept p old idle tables new content geometry put beside same =
    let front = after_map geometry in
    let end = before_data geometry in
    record {
      log = λ n from to.
          ap (λ (i : Image). sector i n) same ∙ beside.before_tables n to ∙ same_beside old idle 1 n content put (λ e. omega (arith, e, from));
      data_sectors = λ n from.
          ap (λ (i : Image). sector i n) same ∙ beside.data_sectors n from ∙ same_beside old idle 1 n content put (λ e. omega (arith, e, from, front, end));
    }

-- and the superblock before and behind that
pub all_rest_kept : (p : Geometry) (old cleared prepared new : Image) → IsGeometry p → KeepsBehind old cleared → KeepsRest p cleared prepared
    → KeepsBehind prepared new → KeepsRest p old new
all_rest_kept p old cleared prepared new geometry first second last =
    let front = after_map geometry in
    let end = before_data geometry in
    record {
      log = λ n from to. let some : 0 < n = omega (arith, from) in last n some ∙ second.log n from to ∙ first n some;
      data_sectors = λ n from. let some : 0 < n = omega (arith, from, front, end) in last n some ∙ second.data_sectors n from ∙ first n some;
    }

-- ---- what was asked for
-- the geometry of a disk has its size
pub geometry_size : (version : Version) (size inodes : ℕ) (p : Geometry) → the_geometry version size inodes ≡ Some p → p.sectors ≡ size
geometry_size version size inodes p e = ap (λ (q : Geometry). q.sectors) (geometry_is_laid_out size inodes e)

-- of its version
pub geometry_version : (version : Version) (size inodes : ℕ) (p : Geometry) → the_geometry version size inodes ≡ Some p → p.version ≡ version
geometry_version version size inodes p e = ap (λ (q : Geometry). q.version) (geometry_is_laid_out size inodes e)

-- and of so many inodes
pub geometry_inodes : (version : Version) (size inodes : ℕ) (p : Geometry) → the_geometry version size inodes ≡ Some p → p.inodes ≡ inodes
geometry_inodes version size inodes p e = ap (λ (q : Geometry). q.inodes) (geometry_is_laid_out size inodes e)

-- what is so of these is so of what was asked for
pub as_asked : (P : Version → ℕ → Type 0) (version : Version) (size inodes : ℕ) (p : Geometry) → the_geometry version size inodes ≡ Some p
    → P p.version p.inodes → P version inodes
as_asked P version size inodes p e x =
    subst (λ (v : Version). P v inodes) (geometry_version version size inodes p e) (subst (λ (k : ℕ). P p.version k) (geometry_inodes version size inodes p e) x)

-- the parts of the layout are on the disk
pub record IsOnDisk (p : Geometry) (size : ℕ) : Type 0 where
  pub least : 1024 ≤ size
  pub first_data : p.first_data ≤ size

pub geometry_on_disk : (version : Version) (size inodes : ℕ) (p : Geometry) → the_geometry version size inodes ≡ Some p → IsOnDisk p size
geometry_on_disk version size inodes p e =
    let geometry = is_a_geometry version (new_header version size inodes) size inodes e in
    let same = geometry_size version size inodes p e in
    record { least = omega (arith, geometry.least_sectors, same); first_data = omega (arith, geometry.data_sectors, same) }

-- with the superblock a prepared disk is a new one
pub is_new_disk : (p : Geometry) (old : DiskState) → IsPrepared p old → (image : Image) → length image ≡ old.size
    → sector image 0 ≡ super_bytes (super_for p)
    → ((n : ℕ) → 0 < n → n < old.size → sector image n ≡ sector old.seen n) → IsNewDisk p.version p.inodes image
is_new_disk p old ready image size super others = record {
  geometry = p;
  has_geometry = ap (λ (k : ℕ). the_geometry p.version k p.inodes) size ∙ ready.has_geometry;
  new = new;
  stands = subst (λ (k : ℕ). Stands k (sector image) (room_of p) empty_tree (p.sectors - p.first_data)) (sectors ∙ sym size) (new_disk_stands p (sector image) new);
}
  where
    sectors : p.sectors ≡ old.size
    sectors = geometry_size p.version old.size p.inodes p ready.has_geometry

    geometry : IsGeometry p
    geometry = is_a_geometry p.version (new_header p.version old.size p.inodes) old.size p.inodes ready.has_geometry

    new : IsNewImage p (sector image)
    new =
        new_image p (sector image) (ap (λ (k : ℕ). the_geometry p.version k p.inodes) sectors ∙ ready.has_geometry) super
        (others 1 (omega arith) (omega (arith, sectors, geometry.least_sectors)) ∙ ready.commit)
        (λ s ge lt. subst (IsNewTable p s) (sym (others s (omega (arith, ge, (after_map geometry).0)) (omega (arith, lt, sectors, geometry.data_sectors)))) (ready.tables s ge lt))

-- while the superblock is written, an image has none, or is that of a new disk
pub cleared_or_new : (p : Geometry) (old : DiskState) (content : List ℕ) → IsPrepared p old → content ≡ super_bytes (super_for p)
    → (image : Image) → IsImageOr (IsWrite 0 content) old image → HasNoSuperblock image ⊎ IsNewDisk p.version p.inodes image
cleared_or_new p old content ready super image is =
    ⊎_elim (λ was. inl (was ∙ ready.at_rest.cleared))
    (λ new. inr (is_new_disk p old ready image is.size (new.1 ∙ super) (λ n some below.
    ⊎_elim (λ same. same) (λ (here : IsWrite 0 content n (sector image n)). absurd (omega (arith, some, here.0))) (stays_or ready.at_rest.stable is n below))))
    (stays_or ready.at_rest.stable is 0 ready.at_rest.room)

-- once it is written
pub written_new : (p : Geometry) (old : DiskState) (content : List ℕ) → IsPrepared p old → content ≡ super_bytes (super_for p)
    → (image : Image) → image ≡ set old.seen 0 content → IsNewDisk p.version p.inodes image
written_new p old content ready super image put =
    let room : 0 < length old.seen = omega (arith, ready.at_rest.room, ready.at_rest.whole) in
    is_new_disk p old ready image (ap length put ∙ length-set old.seen 0 content ∙ ready.at_rest.whole)
    (ap (λ (i : Image). sector i 0) put ∙ get_or-set_same old.seen 0 content [] room ∙ super)
    (λ n some below. ap (λ (i : Image). sector i n) put ∙ get_or-set_other old.seen 0 n content [] (λ (e : n ≡ 0). omega (arith, some, e)))

-- the disk once all but the superblock is stable
pub prepared : (p : Geometry) (old new : DiskState) → the_geometry p.version old.size p.inodes ≡ Some p → IsCleared old → AddsOnly BehindSuperblock old new → IsImage new new.seen
    → sector new.seen 1 ≡ commit_bytes [] → HoldsNewTables p new.seen → IsStable new → IsPrepared p new
prepared p old new has_geometry at_rest adds seen commit tables stable = record {
  has_geometry = ap (λ (k : ℕ). the_geometry p.version k p.inodes) adds.size ∙ has_geometry;
  at_rest = record {
    room = omega (arith, adds.size, at_rest.room);
    whole = seen.size;
    stable = stable;
    cleared = still_cleared old at_rest new.seen (image_or adds new.seen seen);
  };
  commit = commit;
  tables = tables;
}
