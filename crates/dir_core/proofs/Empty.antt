-- A directory without names.
use Rattle.std.proofs.Common.{◌≡◌, [], refl, arith}
use Rattle.fs_layout.specs.declared.version.Version.{Version}
use Rattle.fs_layout.specs.declared.inode.Inode.{Inode}
use Rattle.fs_layout.specs.declared.inode.Kind.TheVariants as kinds
use Rattle.fs_layout.specs.Bytes.{SectorMap}
use Rattle.fs_layout.specs.Images.{Holds}
use Rattle.fs_layout.specs.Directories.{HasNames, names_of_slots}

-- an inode that holds nothing has no names
pub no_names : {version : Version} {image : SectorMap} {v : Inode} → v.kind ≡ kinds.Directory → Holds image v [] → HasNames version image v []
unfolding names_of_slots
no_names kind h = record {
  kind = kind;
  slots = [];
  are = refl;
  apart = λ i j d less lt. absurd (omega (arith, lt));
  each = λ k d lt. absurd (omega (arith, lt));
  few = omega arith;
  holds = h;
  whole = λ k lt. let size = h.size in absurd (omega (arith, lt, size));
}
