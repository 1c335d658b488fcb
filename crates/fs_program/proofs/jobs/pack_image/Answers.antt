use Rattle.std.proofs.Common.{◌∙◌, Err, inl, inr, refl, sym, ap}
use Rattle.fs_layout.specs.declared.geometry.Geometry.{Geometry}
use Rattle.fs_layout.proofs.Places.{geometry_is_laid_out}
use Rattle.fs_program.specs.Copying.{cannot_create, has_no_geometry, is_there, packs}
use Rattle.fs_program.proofs.Ends.{no_layout, placed, sectors_most}
use Rattle.fs_program.proofs.jobs.pack_image.Goals as goal

pub create_image-requires : goal.create_image-requires
create_image-requires g c = sectors_most (rw c.in-Some.is at c.requires)

pub pack_on_disk-requires : goal.pack_on_disk-requires
pack_on_disk-requires g c = placed (rw c.in-Some.is at c.requires) c.in-Ok.ensures.made.size

pub returns-in_default : goal.returns-in_default
returns-in_default g c = λ sectors inodes is. has_no_geometry (sym is ∙ no_layout _ c.in_default.not-Some) refl

pub returns-in-Ok : goal.returns-in-Ok
returns-in-Ok g c = λ sectors inodes has.
    let found = sym has ∙ c.in-Some.is in
    let is = geometry_is_laid_out sectors inodes found in
    packs c.in-Ok.disk c.in-Some.geometry found (c.in-Ok.ensures.made.size ∙ ap (λ (p : Geometry). p.sectors) is) c.pack_on_disk.ensures

pub returns-in-Err : goal.returns-in-Err
returns-in-Err g c = λ sectors inodes has. elim c.in-Err.ensures.failed [
  | inl is ↦ is_there (ap (λ f. Err f) is)
  | inr is ↦ cannot_create (ap (λ f. Err f) is)
]
