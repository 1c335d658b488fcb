use Rattle.std.proofs.Common.{refl}
use Rattle.std.proofs.lemmas.Result.{on_ok_weaker}
use Rattle.sector_disk.proofs.Moments.{weaker}
use Rattle.fs_layout.specs.Bytes.{zeros}
use Rattle.fs_images.proofs.MakingMoments.{before_or_cleared, behind_kept, cleared}
use Rattle.fs_images.proofs.Both.{on_ok_both}
use Rattle.fs_images.proofs.new_disk.clear_superblock.Goals as goal

pub returns-clause-cleared : goal.returns-clause-cleared
unfolding zeros
returns-clause-cleared g c =
    let before = g.D.Disk.state c.args.disk.now in
    let after = g.D.Disk.state c.write_synced.new.disk in
    on_ok_both c.write_synced.result
    (cleared before after _ c.requires refl c.write_synced.ensures.adds.size (g.met.D.Disk.seen_is_image c.args.disk.now).size)
    c.write_synced.ensures.written c.write_synced.ensures.stable

pub returns-clause-any_moment : goal.returns-clause-any_moment
unfolding zeros
returns-clause-any_moment g c = weaker (before_or_cleared (g.D.Disk.state c.args.disk.now) _ c.requires refl) c.write_synced.ensures.any_moment

pub returns-clause-kept : goal.returns-clause-kept
returns-clause-kept g c =
    on_ok_weaker c.write_synced.result (behind_kept (g.D.Disk.state c.args.disk.now).seen (g.D.Disk.state c.write_synced.new.disk).seen _) c.write_synced.ensures.written
