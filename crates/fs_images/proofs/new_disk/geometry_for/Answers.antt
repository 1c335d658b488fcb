use Rattle.std.proofs.Common.{◌≡◌, Some, None, sym, subst, arith}
use Rattle.std.specs.Prelude.{MatchResult, Result}
use Rattle.fs_layout.specs.declared.geometry.Geometry.{Geometry}
use Rattle.fs_layout.specs.Geometry.{the_geometry}
use Rattle.fs_layout.specs.Version.{max_sectors, max_inodes}
use Rattle.fs_images.specs.declared.faults.MkfsFault.{MkfsFault}
use Rattle.fs_images.specs.Making.{mkfs_refusal}
use Rattle.fs_images.proofs.MakingRefusals.{bad_size, bad_inodes, is_above, is_below, geometry_or_too_small}
use Rattle.fs_images.proofs.new_disk.geometry_for.Goals as goal
use Rattle.fs_images.proofs.new_disk.geometry_for.Goals.{then-sectors-lt1024-via-then-sectors-lt1024, then-sectors-lt1024-via-else-sectors-lt1024+then-max_sectors-sectors, then-inodes-lt16-via-then-inodes-lt16, then-inodes-lt16-via-else-inodes-lt16+then-max_inodes-inodes}

pub returns-then-sectors-lt1024 : goal.returns-then-sectors-lt1024
returns-then-sectors-lt1024 c =
    bad_size c.args.version c.args.sectors c.args.inodes (elim c.then-sectors-lt1024.branch [
      | then-sectors-lt1024-via-then-sectors-lt1024 w ↦ is_below 1024 (max_sectors c.args.version) c.args.sectors w.if-sectors-lt1024.true
      | then-sectors-lt1024-via-else-sectors-lt1024+then-max_sectors-sectors w ↦ is_above 1024 (max_sectors c.args.version) c.args.sectors (omega (arith, w.if-max_sectors-sectors.true, w.max_sectors.ensures))
    ])

pub returns-then-inodes-lt16 : goal.returns-then-inodes-lt16
returns-then-inodes-lt16 c =
    bad_inodes c.args.version c.args.sectors c.args.inodes (record { least = c.if-sectors-lt1024.false; most = omega (arith, c.if-max_sectors-sectors.false, c.max_sectors.ensures) })
    (elim c.then-inodes-lt16.branch [
      | then-inodes-lt16-via-then-inodes-lt16 w ↦ is_below 16 (max_inodes c.args.version) c.args.inodes w.if-inodes-lt16.true
      | then-inodes-lt16-via-else-inodes-lt16+then-max_inodes-inodes w ↦ is_above 16 (max_inodes c.args.version) c.args.inodes (omega (arith, w.if-max_inodes-inodes.true, w.max_inodes.ensures))
    ])

pub returns : goal.returns
returns c =
    let version = c.args.version in
    let sectors = c.args.sectors in
    let inodes = c.args.inodes in
    subst (λ (r : Result Geometry MkfsFault). MatchResult r (λ p. (mkfs_refusal version sectors inodes ≡ None) × (the_geometry version sectors inodes ≡ Some p)) (λ f. mkfs_refusal version sectors inodes ≡ Some f))
    (sym c.ok_or.ensures.value)
    (geometry_or_too_small version sectors inodes (record {
      size = record { least = c.if-sectors-lt1024.false; most = omega (arith, c.if-max_sectors-sectors.false, c.max_sectors.ensures) };
      least = c.if-inodes-lt16.false;
      most = omega (arith, c.if-max_inodes-inodes.false, c.max_inodes.ensures);
    }) c.geometry_of.result c.geometry_of.ensures.value)
