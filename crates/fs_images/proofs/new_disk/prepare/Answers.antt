use Rattle.std.proofs.Common.{◌≡◌, ◌<◌, ◌∙◌, [], length, arith, ap, sym, subst, get_or-set_same}
use Rattle.std.proofs.lemmas.Result.{on_ok_weaker}
use Rattle.sector_disk.specs.Disk.{Image, sector}
use Rattle.sector_disk.proofs.Moments.{adds_narrowed, goes_on, image_or}
use Rattle.fs_layout.specs.Commit.{commit_bytes}
use Rattle.fs_layout.proofs.Places.{after_map, is_a_geometry}
use Rattle.fs_images.specs.Making.{HoldsNewTables}
use Rattle.fs_images.proofs.MakingMoments.{adds_joined, adds_one, leaves_none, leaves_none_then, geometry_on_disk, prepared, rest_kept, still_cleared}
use Rattle.fs_images.proofs.new_disk.prepare.Goals as goal

pub write-requires : goal.write-requires
write-requires g c = omega (arith, (geometry_on_disk _ _ c.args.geometry.inodes c.args.geometry c.requires.geometry).least)

pub write_tables-requires-clause-geometry : goal.write_tables-requires-clause-geometry
write_tables-requires-clause-geometry g c = is_a_geometry _ _ _ c.args.geometry.inodes c.requires.geometry

pub write_tables-requires-clause-room : goal.write_tables-requires-clause-room
write_tables-requires-clause-room g c =
    omega (arith, (geometry_on_disk _ _ c.args.geometry.inodes c.args.geometry c.requires.geometry).first_data, c.write.ensures.changes.size)

pub returns-clause-any_moment : goal.returns-clause-any_moment
returns-clause-any_moment g c =
    let all = adds_narrowed (adds_joined (adds_one (omega arith) c.write.ensures.changes) c.write_tables.ensures.adds) c.sync.ensures.changes in
    goes_on
    (leaves_none_then (omega arith) c.write.ensures.changes (g.met.D.Disk.only_now c.args.disk.now) c.requires.cleared c.write.ensures.time c.write_tables.ensures.any_moment)
    c.sync.ensures.time (λ image is. still_cleared (g.D.Disk.state c.args.disk.now) c.requires.cleared image (image_or all image is))

pub returns-clause-prepared : goal.returns-clause-prepared
returns-clause-prepared g c =
    let before = g.D.Disk.state c.args.disk.now in
    let written = g.D.Disk.state c.write.new.self in
    let after = g.D.Disk.state c.sync.new.self in
    let seen = c.sync.ensures.changes.seen in
    let all = adds_narrowed (adds_joined (adds_one (omega arith) c.write.ensures.changes) c.write_tables.ensures.adds) c.sync.ensures.changes in
    let front = (after_map (is_a_geometry _ _ _ c.args.geometry.inodes c.requires.geometry)).0 in
    let room : 1 < length before.seen = omega (arith, (geometry_on_disk _ _ c.args.geometry.inodes c.args.geometry c.requires.geometry).least, c.requires.cleared.whole) in
    let commit : sector written.seen 1 ≡ commit_bytes [] =
    ap (λ (i : Image). sector i 1) c.in_ok-write.ensures.written.seen ∙ get_or-set_same before.seen 1 c.to_sector.result [] room ∙ c.to_sector.ensures ∙ ap commit_bytes c.idle.ensures in
    on_ok_weaker c.sync.result
    (prepared c.args.geometry before after c.requires.geometry c.requires.cleared all (g.met.D.Disk.seen_is_image c.sync.new.self)
    (ap (λ (i : Image). sector i 1) seen ∙ c.in_ok-write_tables.ensures.kept.before_tables 1 (omega (arith, front)) ∙ commit)
    (subst (HoldsNewTables c.args.geometry) (sym seen) c.in_ok-write_tables.ensures.written))
    c.sync.ensures.stable

pub returns-in_err-write-clause-any_moment : goal.returns-in_err-write-clause-any_moment
returns-in_err-write-clause-any_moment g c =
    leaves_none (omega arith) c.write.ensures.changes (g.met.D.Disk.only_now c.args.disk.now) c.requires.cleared c.write.ensures.time

pub returns-in_err-write_tables-clause-any_moment : goal.returns-in_err-write_tables-clause-any_moment
returns-in_err-write_tables-clause-any_moment g c =
    leaves_none_then (omega arith) c.write.ensures.changes (g.met.D.Disk.only_now c.args.disk.now) c.requires.cleared c.write.ensures.time
    c.write_tables.ensures.any_moment

pub returns-clause-size : goal.returns-clause-size
returns-clause-size g c = c.sync.ensures.changes.size ∙ c.write_tables.ensures.adds.size ∙ c.write.ensures.changes.size

pub returns-clause-kept : goal.returns-clause-kept
returns-clause-kept g c =
    on_ok_weaker c.sync.result
    (λ stable. rest_kept c.args.geometry (g.D.Disk.state c.args.disk.now).seen (g.D.Disk.state c.write.new.self).seen (g.D.Disk.state c.write_tables.new.disk).seen
    (g.D.Disk.state c.sync.new.self).seen c.to_sector.result (is_a_geometry _ _ _ c.args.geometry.inodes c.requires.geometry)
    c.in_ok-write.ensures.written.seen c.in_ok-write_tables.ensures.kept c.sync.ensures.changes.seen)
    c.sync.ensures.stable
