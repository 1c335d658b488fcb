use Rattle.std.proofs.lemmas.Result.{on_ok_weaker}
use Rattle.sector_disk.proofs.Moments.{weaker}
use Rattle.fs_layout.proofs.Places.{layout_fits}
use Rattle.fs_images.proofs.MakingMoments.{behind_kept, cleared_or_new, written_new}
use Rattle.fs_images.proofs.new_disk.write_superblock.Goals as goal

pub superblock-requires : goal.superblock-requires
superblock-requires g c = layout_fits _ _ (g.D.Disk.state c.args.disk.now).size c.args.geometry.inodes c.requires.has_geometry

pub returns-clause-made : goal.returns-clause-made
returns-clause-made g c =
    on_ok_weaker c.write_synced.result
    (written_new c.args.geometry (g.D.Disk.state c.args.disk.now) c.superblock.result c.requires c.superblock.ensures (g.D.Disk.state c.write_synced.new.disk).seen)
    c.write_synced.ensures.written

pub returns-clause-any_moment : goal.returns-clause-any_moment
returns-clause-any_moment g c =
    weaker (cleared_or_new c.args.geometry (g.D.Disk.state c.args.disk.now) c.superblock.result c.requires c.superblock.ensures) c.write_synced.ensures.any_moment

pub returns-clause-kept : goal.returns-clause-kept
returns-clause-kept g c =
    on_ok_weaker c.write_synced.result
    (behind_kept (g.D.Disk.state c.args.disk.now).seen (g.D.Disk.state c.write_synced.new.disk).seen c.superblock.result)
    c.write_synced.ensures.written
