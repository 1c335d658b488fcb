use Rattle.std.proofs.Common.{◌≡◌, ◌-◌, ◌∙◌, ap, sym, arith}
use Rattle.fs_layout.specs.Bytes.{SectorMap}
use Rattle.fs_layout.specs.Images.{free_sectors}
use Rattle.fs_layout.proofs.Places.{is_a_geometry}
use Rattle.fs_layout.proofs.Targets.{targets_in-commit}
use Rattle.fs_model.specs.Summaries.{some_target}
use Rattle.sector_disk.specs.Disk.{sector}
use Rattle.fs_check.specs.Checks.{meaning}
use Rattle.fs_check.proofs.BitTests.{maps_geometry}
use Rattle.fs_check.proofs.Carrying.{meaning_same}
use Rattle.fs_info.specs.Infos.{clear_bits}
use Rattle.fs_info.proofs.OfTrees.{free_there, inodes_there}
use Rattle.fs_info.proofs.info.count_free.Goals as goal

pub count_clear-requires-clause-order : goal.count_clear-requires-clause-order
count_clear-requires-clause-order g c =
    let at = c.requires.geometry in
    let room = (is_a_geometry _ _ _ at.super.inodes at.has_geometry).data_sectors in
    omega (arith, room)

pub count_clear-requires-clause-on_disk : goal.count_clear-requires-clause-on_disk
count_clear-requires-clause-on_disk g c = λ n lt.
    let at = c.requires.geometry in
    let bits = (is_a_geometry _ _ _ at.super.inodes at.has_geometry).bits in
    let maps = maps_geometry _ _ c.args.opened.now.geometry at in
    let on_disk = maps.on_disk in
    omega (arith, bits, lt, on_disk)

pub count_clear-requires-2-clause-on_disk : goal.count_clear-requires-2-clause-on_disk
count_clear-requires-2-clause-on_disk g c = λ n lt.
    let at = c.requires.geometry in
    let bits = (is_a_geometry _ _ _ at.super.inodes at.has_geometry).inode_bits in
    let maps = maps_geometry _ _ c.args.opened.now.geometry at in
    let on_disk = maps.on_disk in
    let order = maps.block_map in
    let size = c.count_clear.ensures.reads.narrowed.size in
    omega (arith, bits, lt, on_disk, order, size)

pub returns-clause-info : goal.returns-clause-info
returns-clause-info g c =
    let s0 = g.D.Disk.state c.args.disk.now in
    let p = c.args.opened.now.geometry in
    let at = c.requires.geometry in
    let small = g.met.D.Disk.size_fits c.args.disk.now in
    let sectors : c.in_ok-free_sectors.free_sectors ≡ free_sectors p (meaning s0) = c.in_ok-free_sectors.ensures.count in
    let all : p.inodes - 0 ≡ p.inodes = omega arith in
    let inodes : c.in_ok-free_inodes.free_inodes ≡ clear_bits (meaning s0) p.inode_bitmap 0 p.inodes =
    c.in_ok-free_inodes.ensures.count
    ∙ ap (λ (m : SectorMap). clear_bits m p.inode_bitmap 0 (p.inodes - 0)) (meaning_same c.count_clear.ensures.reads)
    ∙ ap (λ k. clear_bits (meaning s0) p.inode_bitmap 0 k) all in
    record {
      geometry = at;
      commit = record { targets = c.args.opened.now.commit; is = c.requires.commit };
      sectors = sectors;
      inodes = inodes;
      pending =
          c.has_targets.ensures ∙ ap some_target c.targets.ensures.value
          ∙ ap some_target (sym (targets_in-commit s0.size (sector s0.seen) c.args.opened.now.commit small c.requires.commit));
      of_tree = λ room t free x. (
        sectors ∙ free_there s0.size (sector s0.seen) p at room t free x,
        inodes ∙ inodes_there s0.size (sector s0.seen) p at room t free x,
      );
    }
