-- Where an inode stands on the disk, what is read there, and what is written.
use Rattle.std.proofs.Common.{◌≡◌, ℕ, ◌+◌, ◌*◌, ◌/◌, ◌%◌, ◌<◌, ◌≤◌, List, length, Ok, sym, ap, subst, ◌∙◌, arith}
use Rattle.fs_layout.specs.declared.inode.TheConstants.{INODE_SIZE}
use Rattle.fs_layout.specs.declared.inode.Inode.{Inode}
use Rattle.fs_layout.specs.declared.geometry.Geometry.{Geometry}
use Rattle.fs_layout.specs.Bytes.{SectorMap, IsSector, window, splice}
use Rattle.fs_layout.specs.Inode.{inode_of, inode_bytes}
use Rattle.fs_layout.specs.Geometry.{IsGeometry}
use Rattle.fs_layout.specs.Images.{stored, inode_at}
use Rattle.fs_layout.specs.Ownership.{IsConsistent}
use Rattle.fs_layout.specs.InodeChanges.{Puts, Saves}
use Rattle.fs_layout.proofs.Fields.{part_len, IsBytes-part}
use Rattle.fs_layout.proofs.InodeLaw.{inode_takes}
use Rattle.fs_layout.proofs.Places.{after_map}
use Rattle.fs_layout.proofs.Saves.{in_table, put_saves}

-- the inode's sector is one of the map, and on the disk
pub inode_on_disk : {p : Geometry} {n size at : ℕ} → at ≡ p.table + n / 4 → IsGeometry p → n < p.inodes → p.sectors ≤ size → at < size
inode_on_disk {p} {n} is geometry lt disk = let i = in_table p n geometry lt in let d = geometry.data_sectors in omega (arith, i, d, disk, is)

pub inode_above : {p : Geometry} (n : ℕ) → IsGeometry p → p.inode_bitmap ≤ p.table + n / 4
inode_above n geometry = let a = after_map geometry in omega (arith, a)

-- a sector of the table is read: where the inode stands in it, there are its bytes
pub inode_stands : {p : Geometry} {image : SectorMap} {n at from : ℕ} {s : List ℕ} → IsConsistent p image → n < p.inodes → at ≡ p.table + n / 4 → from ≡ INODE_SIZE * (n % 4)
    → s ≡ image at → inode_of (window s from INODE_SIZE) ≡ Ok (inode_at p image n)
unfolding stored
inode_stands {p} {image} {n} {at} {from} {s} h lt sector begin is =
    ap (λ (k : ℕ). inode_of (window s k INODE_SIZE)) begin ∙ ap (λ (b : List ℕ). inode_of (window b (INODE_SIZE * (n % 4)) INODE_SIZE)) (is ∙ ap image sector)
    ∙ h.valid n lt

pub inode_spelled : {p : Geometry} {image : SectorMap} {n at from : ℕ} {s : List ℕ} → IsConsistent p image → n < p.inodes → at ≡ p.table + n / 4 → from ≡ INODE_SIZE * (n % 4)
    → s ≡ image at → window s from INODE_SIZE ≡ inode_bytes (inode_at p image n)
inode_spelled {p} {image} {n} {at} {from} {s} h lt sector begin is =
    let i = in_table p n h.geometry lt in
    let above = after_map h.geometry in
    let there : IsSector (image (p.table + n / 4)) = h.sectors (p.table + n / 4) (omega (arith, above)) i.1 in
    let whole : IsSector s = subst IsSector (sym (is ∙ ap image sector)) there in
    let room : from + INODE_SIZE ≤ length s = omega (arith, begin, whole.len) in
    (inode_takes (window s from INODE_SIZE) (inode_at p image n) (part_len INODE_SIZE from s room) (IsBytes-part INODE_SIZE from s whole.bytes)
    (inode_stands h lt sector begin is)).0

-- an inode is written into its sector, and the sector is put
pub sector_saves : {p : Geometry} {n at from : ℕ} {v : Inode} {old mid new : SectorMap} {s t : List ℕ} → at ≡ p.table + n / 4 → from ≡ INODE_SIZE * (n % 4)
    → ((m : ℕ) → mid m ≡ old m) → s ≡ old at → t ≡ splice s from (inode_bytes v) → Puts at t mid new → Saves p n v old new
sector_saves {p} {n} {at} {from} {v} {old} {mid} {new} {s} {t} sector begin same is written put =
    let there : Puts (p.table + n / 4) t mid new = subst (λ (k : ℕ). Puts k t mid new) sector put in
    let was : s ≡ old (p.table + n / 4) = is ∙ ap old sector in
    let bytes : t ≡ splice s (INODE_SIZE * (n % 4)) (inode_bytes v) = written ∙ ap (λ (k : ℕ). splice s k (inode_bytes v)) begin in
    put_saves (record {
      here = there.here ∙ bytes ∙ ap (λ (b : List ℕ). splice b (INODE_SIZE * (n % 4)) (inode_bytes v)) was;
      others = λ m ne. there.others m ne ∙ same m;
    })
