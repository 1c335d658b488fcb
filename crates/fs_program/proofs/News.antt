-- What a mount finds on a new disk.
use Rattle.std.specs.Prelude.{◌≡◌, ℕ, ◌+◌, ◌*◌, length, Ok}
use Rattle.std.proofs.Common.{refl, ap, ◌∙◌, arith}
use Rattle.sector_disk.specs.Disk.{DiskState, IsStable}
use Rattle.fs_layout.specs.declared.geometry.Geometry.{Geometry}
use Rattle.fs_layout.specs.declared.version.Version.{Version}
use Rattle.fs_layout.specs.Geometry.{laid_out}
use Rattle.fs_layout.proofs.Places.{geometry_is_laid_out}
use Rattle.fs_model.specs.Nodes.{sectors_for}
use Rattle.fs_model.specs.Trees.{Room, sectors_needed}
use Rattle.fs_model.specs.TreeChanges.{pruned}
use Rattle.fs_model.specs.States.{State}
use Rattle.fs_model.specs.Stands.{room_of}
use Rattle.fs_model.specs.NewDisk.{empty_tree}
use Rattle.fs_images.specs.Making.{IsNewDisk}
use Rattle.fs_system.specs.Playing.{IsConfig}
use Rattle.fs_system.specs.Histories.{Config, Up}
use Rattle.fs_system.specs.Mounts.{Mounts}
use Rattle.fs_system.specs.Seen.{System, disk_in, IsIn}
use Rattle.fs_system.proofs.Played.{seen_in, the_disk}
use Rattle.fs_program.specs.Programs.{IsNew, Begins}

none_of : (slot : ℕ) → slot * 0 ≡ 0
none_of slot = omega arith

none_needed : (room : Room) → sectors_needed room (pruned empty_tree) ≡ 0
none_needed room = ap (λ (k : ℕ). 0 + ((sectors_for k + 0) + 0)) (none_of room.slot_size)

mounted_is_new : (before now : DiskState) (version : Version) (sectors inodes : ℕ) (s : State) → length before.seen ≡ sectors
    → IsNewDisk version inodes before.seen → Mounts before now s → IsNew version sectors inodes s
mounted_is_new before now version sectors inodes s size new mounts =
    let found = mounts.each (room_of new.geometry) empty_tree _ new.stands in
    let is = found.is_mounted in
    let geometry : new.geometry ≡ laid_out version sectors inodes =
    geometry_is_laid_out (length before.seen) inodes new.has_geometry ∙ ap (λ (n : ℕ). laid_out version n inodes) size in
    let room : s.room ≡ room_of new.geometry = ap (λ x. x.room) is in
    let least = found.free.least in
    let most = found.free.most in
    let same : s.room.sectors ≡ (room_of new.geometry).sectors = ap (λ r. r.sectors) room in
    record {
      room = room ∙ ap (λ (p : Geometry). room_of p) geometry;
      tree = ap (λ x. x.tree) is;
      processes = ap (λ x. x.processes) is;
      free = omega (arith, least, most, none_needed s.room, same);
      running = ap (λ x. x.halted) is;
    }

-- so a run begins
pub begins : {D : Type 0} (state : D → DiskState) (made : D) (fs : System D) (version : Version) (sectors inodes : ℕ) (s : State)
    → IsIn state fs s → length (state made).seen ≡ sectors → IsNewDisk version inodes (state made).seen → IsStable (state made)
    → Mounts (state made) (disk_in state fs.base) s → (c : Config D) × IsConfig state (Ok fs) c × Begins state version sectors inodes c
begins state made fs version sectors inodes s here size new stable mounts =
    let there = the_disk state fs s here in (
      Up s there.0,
      (there.1, here),
      record {
        made = made;
        is_new_disk = new;
        stable = stable;
        now = there.0;
        s = s;
        mounts = seen_in state (λ d. Mounts (state made) d s) fs.base there.0 there.1 mounts;
        is_new = mounted_is_new (state made) (disk_in state fs.base) version sectors inodes s size new mounts;
        is_start = refl;
      },
    )
