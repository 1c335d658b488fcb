use Rattle.std.proofs.Common.{ℕ, rules, sym, subst, ◌∙◌, ap}
use Rattle.std.proofs.lemmas.Result.{on_ok_weaker}
use Rattle.std.specs.Prelude.{OnOk}
use Rattle.sector_disk.specs.Disk.{LeavesOnly}
use Rattle.fs_layout.specs.declared.geometry.Geometry.{Geometry}
use Rattle.fs_layout.specs.declared.version.Version.{Version}
use Rattle.fs_layout.specs.Geometry.{the_geometry}
use Rattle.fs_images.specs.Making.{IsHalfMade, IsNewDisk, KeepsLogAndData, KeepsRest}
use Rattle.fs_images.proofs.MakingMoments.{as_asked, geometry_inodes, geometry_version}
use Rattle.fs_images.proofs.Places.{some_same}
use Rattle.fs_images.proofs.new_disk.mkfs.Goals as goal

pub write_all-requires : goal.write_all-requires
write_all-requires g c =
    let there = c.in_ok-geometry.ensures.1 in
    let geometry = c.in_ok-geometry.geometry in
    let size = (g.D.Disk.state c.args.disk.now).size in
    ap (λ (v : Version). the_geometry v size geometry.inodes) (geometry_version c.args.version c.size.result c.args.inodes geometry there)
    ∙ ap (the_geometry c.args.version size) (geometry_inodes c.args.version c.size.result c.args.inodes geometry there)
    ∙ ap (λ (k : ℕ). the_geometry c.args.version k c.args.inodes) (sym c.size.ensures) ∙ there

pub returns-clause-any_moment : goal.returns-clause-any_moment
returns-clause-any_moment g c =
    as_asked (λ version inodes. LeavesOnly (g.D.Disk.state c.args.disk.now) (g.D.Disk.state c.write_all.new.disk) (IsHalfMade (g.D.Disk.state c.args.disk.now) version inodes))
    c.args.version c.size.result c.args.inodes c.in_ok-geometry.geometry c.in_ok-geometry.ensures.1 c.write_all.ensures.any_moment

pub returns-clause-made : goal.returns-clause-made
returns-clause-made g c =
    let made = as_asked (λ version inodes. OnOk c.write_all.result (IsNewDisk version inodes (g.D.Disk.state c.write_all.new.disk).seen))
    c.args.version c.size.result c.args.inodes c.in_ok-geometry.geometry c.in_ok-geometry.ensures.1 c.write_all.ensures.made in
    search rules

pub returns-clause-kept : goal.returns-clause-kept
returns-clause-kept g c =
    let old = g.D.Disk.state c.args.disk.now in
    let new = g.D.Disk.state c.write_all.new.disk in
    let geometry = c.in_ok-geometry.geometry in
    let found = ap (λ (k : ℕ). the_geometry c.args.version k c.args.inodes) (sym c.size.ensures) ∙ c.in_ok-geometry.ensures.1 in
    let kept : OnOk c.write_all.result (KeepsLogAndData c.args.version c.args.inodes old new) =
    on_ok_weaker c.write_all.result
    (λ (kept : KeepsRest geometry old.seen new.seen) (p : Geometry) is. subst (λ (q : Geometry). KeepsRest q old.seen new.seen) (some_same geometry p _ found is) kept)
    c.write_all.ensures.kept in
    search rules
