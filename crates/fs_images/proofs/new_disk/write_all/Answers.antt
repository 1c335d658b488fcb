use Rattle.std.proofs.Common.{ℕ, inl, inr, arith, ◌∙◌}
use Rattle.std.proofs.lemmas.Result.{on_ok_weaker}
use Rattle.fs_layout.proofs.Places.{is_a_geometry}
use Rattle.sector_disk.specs.Disk.{DiskState, Image, LeavesOnly}
use Rattle.sector_disk.proofs.Moments.{joined, weaker}
use Rattle.fs_layout.specs.declared.version.Version.{Version}
use Rattle.fs_images.specs.Making.{HasNoSuperblock, IsHalfCleared, IsHalfDone, IsHalfMade}
use Rattle.fs_images.proofs.Causes.{first_cause, later_cause}
use Rattle.fs_images.proofs.MakingMoments.{all_rest_kept, geometry_on_disk}
use Rattle.fs_images.proofs.new_disk.write_all.Goals as goal

pub clear_superblock-requires : goal.clear_superblock-requires
clear_superblock-requires g c = omega (arith, (geometry_on_disk _ _ c.args.geometry.inodes c.args.geometry c.requires).least)

-- what the first two steps leave
half_cleared : (old new : DiskState) (version : Version) (inodes : ℕ) → LeavesOnly old new (IsHalfCleared old) → LeavesOnly old new (IsHalfMade old version inodes)
half_cleared old new version inodes run =
    weaker (λ (image : Image) (half : IsHalfCleared old image). elim half [ inl was ↦ inl was | inr none ↦ inr (inl none) ]) run

half_prepared : (old mid new : DiskState) (version : Version) (inodes : ℕ) → LeavesOnly old mid (IsHalfCleared old) → LeavesOnly mid new HasNoSuperblock
    → LeavesOnly old new (IsHalfMade old version inodes)
half_prepared old mid new version inodes first run =
    joined (half_cleared old mid version inodes first) (weaker (λ (image : Image) (none : HasNoSuperblock image). inr (inl none)) run)

pub returns-in_err-clear_superblock-clause-any_moment : goal.returns-in_err-clear_superblock-clause-any_moment
returns-in_err-clear_superblock-clause-any_moment g c =
    half_cleared (g.D.Disk.state c.args.disk.now) (g.D.Disk.state c.clear_superblock.new.disk) c.args.geometry.version c.args.geometry.inodes
    c.in_err-clear_superblock.ensures.any_moment

pub returns-in_err-prepare-clause-any_moment : goal.returns-in_err-prepare-clause-any_moment
returns-in_err-prepare-clause-any_moment g c =
    half_prepared (g.D.Disk.state c.args.disk.now) (g.D.Disk.state c.clear_superblock.new.disk) (g.D.Disk.state c.prepare.new.disk) c.args.geometry.version
    c.args.geometry.inodes c.in_ok-clear_superblock.ensures.any_moment c.in_err-prepare.ensures.any_moment

pub returns-clause-any_moment : goal.returns-clause-any_moment
returns-clause-any_moment g c =
    let old = g.D.Disk.state c.args.disk.now in
    let version = c.args.geometry.version in
    let inodes = c.args.geometry.inodes in
    let last : LeavesOnly (g.D.Disk.state c.prepare.new.disk) (g.D.Disk.state c.write_superblock.new.disk) (IsHalfMade old version inodes) =
    weaker (λ (image : Image) (half : IsHalfDone version inodes image). inr half) c.write_superblock.ensures.any_moment in
    joined
    (half_prepared old (g.D.Disk.state c.clear_superblock.new.disk) (g.D.Disk.state c.prepare.new.disk) version inodes c.in_ok-clear_superblock.ensures.any_moment
    c.in_ok-prepare.ensures.any_moment) last

pub returns-in_err-clear_superblock-clause-cause : goal.returns-in_err-clear_superblock-clause-cause
returns-in_err-clear_superblock-clause-cause g c =
    first_cause (g.D.Disk.state c.args.disk.now) (g.D.Disk.state c.clear_superblock.new.disk) c.in_err-clear_superblock.ensures.cause c.from_residual.result

pub returns-in_err-prepare-clause-cause : goal.returns-in_err-prepare-clause-cause
returns-in_err-prepare-clause-cause g c =
    later_cause (g.D.Disk.state c.args.disk.now) (g.D.Disk.state c.clear_superblock.new.disk) (g.D.Disk.state c.prepare.new.disk)
    c.clear_superblock.ensures.cause.later c.in_err-prepare.ensures.cause c.from_residual-in_err-prepare.result

pub returns-in_err-prepare-clause-size : goal.returns-in_err-prepare-clause-size
returns-in_err-prepare-clause-size g c = c.prepare.ensures.size ∙ c.clear_superblock.ensures.size

pub returns-clause-size : goal.returns-clause-size
returns-clause-size g c = c.write_superblock.ensures.size ∙ c.prepare.ensures.size ∙ c.clear_superblock.ensures.size

pub returns-clause-kept : goal.returns-clause-kept
returns-clause-kept g c =
    on_ok_weaker c.write_superblock.result
    (all_rest_kept c.args.geometry (g.D.Disk.state c.args.disk.now).seen (g.D.Disk.state c.clear_superblock.new.disk).seen (g.D.Disk.state c.prepare.new.disk).seen
    (g.D.Disk.state c.write_superblock.new.disk).seen (is_a_geometry _ _ _ c.args.geometry.inodes c.requires) c.in_ok-clear_superblock.ensures.kept
    c.in_ok-prepare.ensures.kept)
    c.write_superblock.ensures.kept
