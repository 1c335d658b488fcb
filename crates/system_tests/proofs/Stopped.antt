-- What a stop of a new disk leaves.
use Rattle.std.proofs.Common.{ℕ, sym, subst}
use Rattle.sector_disk.specs.Disk.{DiskState, Image, IsImage, IsStable}
use Rattle.sector_disk.proofs.Moments.{stable_image}
use Rattle.fs_images.specs.Making.{IsNewDisk}
use Rattle.fs_layout.specs.declared.version.Version.{Version}

-- a stop leaves the new disk once it is stable
pub each_is_new : {version : Version} {inodes : ℕ} {disk : DiskState} → IsNewDisk version inodes disk.seen → IsStable disk → IsImage disk disk.seen → (image : Image)
    → IsImage disk image → IsNewDisk version inodes image
each_is_new {version} {inodes} made stable seen image is = subst (IsNewDisk version inodes) (sym (stable_image stable seen.size is)) made
