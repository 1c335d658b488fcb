use Rattle.std.proofs.Common.{◌≡◌, ◌∙◌, ap, ℕ, None}
use Rattle.fs_layout.specs.declared.version.Version.TheVariants.{Two}
use Rattle.fs_model.specs.NewDisk.{empty_tree}
use Rattle.fs_model.specs.Stands.{room_of}
use Rattle.fs_images.specs.Making.{mkfs_refusal}
use Rattle.fs_system.proofs.Played.{fault_of_restart}
use Rattle.fs_program.proofs.News.{begins}
use Rattle.fs_program.proofs.memory.new_file_system.Goals as goal

pub returns-in-Ok : goal.returns-in-Ok
returns-in-Ok g c =
    let m = c.in-Ok.ensures.mounted in
    let whole = (g.met.D.Disk.seen_is_image c.mkfs.new.disk).size in
    begins g.D.Disk.state c.mkfs.new.disk c.in-Ok.fs Two 1024 64 m.0 m.1 (whole ∙ c.mkfs.ensures.size ∙ c.requires) c.in_default.ensures.made c.in_default.ensures.stable m.2

-- with these numbers mkfs refuses nothing
pub returns-in-Err : goal.returns-in-Err
unfolding mkfs_refusal
returns-in-Err g c =
    let none : mkfs_refusal Two (g.D.Disk.state c.args.disk).size 64 ≡ None = ap (λ (n : ℕ). mkfs_refusal Two n 64) c.requires in
    ((c.in-Err.ensures.fault none).0, tt)

-- what mkfs has made stands for a tree
pub returns : goal.returns
returns g c =
    let made = c.in_default.ensures.made in
    let whole = (g.met.D.Disk.seen_is_image c.mkfs.new.disk).size in (
      fault_of_restart (g.D.Disk.state c.mkfs.new.disk) (g.D.Disk.state c.in-Err-mount.field-0-1) whole
          (room_of made.geometry, empty_tree, _, made.stands) c.in-Err-mount.fault c.in-Err-mount.ensures.failed,
      tt,
    )
