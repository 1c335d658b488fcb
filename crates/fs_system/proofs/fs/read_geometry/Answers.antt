use Rattle.std.proofs.Common.{rules, arith, ◌≡◌, ◌∙◌}
use Rattle.sector_disk.specs.Disk.{sector}
use Rattle.fs_layout.proofs.Codecs.{same_ok}
use Rattle.fs_images.proofs.Places.{some_sectors, geometry_found, some_same, ok_or_err, some_or_none}
use Rattle.fs_system.proofs.fs.read_geometry.Goals as goal

pub read-requires : goal.read-requires
read-requires g c =
    let some = some_sectors (g.D.Disk.state c.args.disk.now).seen c.requires.0 c.requires.1 c.requires.2 c.requires.3 in
    let size = (g.met.D.Disk.seen_is_image c.args.disk.now).size in
    omega (arith, some, size)

pub unreachable-requires : goal.unreachable-requires
unreachable-requires g c =
    let to : c.read.new.to ≡ sector (g.D.Disk.state c.args.disk.now).seen 0 = search rules in
    let st = c.requires.3 in
    ok_or_err st.super c.in_default.field-0 c.read_from.result (c.read_from.ensures.only st.super st.super_fits (to ∙ st.super_is)) c.in_default.is

pub unreachable-requires-in_default-geometry : goal.unreachable-requires-in_default-geometry
unreachable-requires-in_default-geometry g c =
    let to : c.read.new.to ≡ sector (g.D.Disk.state c.args.disk.now).seen 0 = search rules in
    let st = c.requires.3 in
    let same : c.in-Ok.superblock ≡ st.super =
    same_ok c.in-Ok.superblock st.super c.read_from.result c.in-Ok.is (c.read_from.ensures.only st.super st.super_fits (to ∙ st.super_is)) in
    some_or_none st.geometry c.geometry.result
    (c.geometry.ensures.value ∙ geometry_found (g.D.Disk.state c.args.disk.now).seen c.requires.0 c.requires.1 c.requires.2 st c.in-Ok.superblock same)
    c.in_default-geometry.is

pub returns-clause-found : goal.returns-clause-found
returns-clause-found g c = λ room t free st.
    let to : c.read.new.to ≡ sector (g.D.Disk.state c.args.disk.now).seen 0 = search rules in
    let same : c.in-Ok.superblock ≡ st.super =
    same_ok c.in-Ok.superblock st.super c.read_from.result c.in-Ok.is (c.read_from.ensures.only st.super st.super_fits (to ∙ st.super_is)) in
    some_same st.geometry c.in-Some.geometry c.geometry.result
    (c.geometry.ensures.value ∙ geometry_found (g.D.Disk.state c.args.disk.now).seen room t free st c.in-Ok.superblock same) c.in-Some.is
