use Rattle.std.proofs.Common.{◌≡◌, ◌∙◌, Err, inl, inr, refl, sym, ap}
use Rattle.fs_layout.specs.declared.geometry.Geometry.{Geometry}
use Rattle.fs_layout.proofs.Places.{geometry_is_laid_out}
use Rattle.fs_program.specs.Jobs.{exists, has_no_geometry, is_created, is_not_created}
use Rattle.fs_program.proofs.Ends.{no_layout, placed, sectors_most}
use Rattle.fs_program.proofs.jobs.make_image.Goals as goal

pub create_image-requires : goal.create_image-requires
create_image-requires g c = sectors_most (rw c.in-Some.is at c.requires)

pub make_on_disk-requires : goal.make_on_disk-requires
make_on_disk-requires g c = placed (rw c.in-Some.is at c.requires) c.in-Ok.ensures.made.size

pub returns-in_default : goal.returns-in_default
returns-in_default g c = λ version sectors inodes is. has_no_geometry (sym is ∙ no_layout _ c.in_default.not-Some) (refl, refl)

pub returns-in-Ok : goal.returns-in-Ok
returns-in-Ok g c = λ version sectors inodes has.
    let is = geometry_is_laid_out sectors inodes (sym has ∙ c.in-Some.is) in
    let same_inodes : c.in-Some.geometry.inodes ≡ inodes = ap (λ (p : Geometry). p.inodes) is in
    let same_version : c.in-Some.geometry.version ≡ version = ap (λ (p : Geometry). p.version) is in
    let same_size : c.in-Some.geometry.sectors ≡ sectors = ap (λ (p : Geometry). p.sectors) is in
    is_created c.in-Ok.disk c.make_on_disk.new.disk (rw same_size at c.in-Ok.ensures.made)
    (rw (same_version, same_inodes) at c.make_on_disk.ensures)

pub returns-in-Err : goal.returns-in-Err
returns-in-Err g c = λ version sectors inodes has. elim c.in-Err.ensures.failed [
  | inl is ↦ exists (refl, ap (λ f. Err f) is)
  | inr is ↦ is_not_created (refl, ap (λ f. Err f) is)
]
