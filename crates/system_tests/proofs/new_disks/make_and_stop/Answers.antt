use Rattle.sector_disk.proofs.Moments.{holds_now}
use Rattle.fs_images.proofs.Both.{on_ok_both}
use Rattle.system_tests.proofs.Stopped.{each_is_new}
use Rattle.system_tests.proofs.new_disks.make_and_stop.Goals as goal

pub returns-clause-made : goal.returns-clause-made
returns-clause-made g c =
    let stopped = g.D.Disk.state c.crash.new.self in
    on_ok_both c.mkfs-made.result (λ made stable. each_is_new made stable (g.met.D.Disk.seen_is_image c.mkfs-made.new.disk) stopped.seen c.crash.ensures.image) c.mkfs-made.ensures.made
    c.mkfs-made.ensures.stable

pub returns-clause-half_made : goal.returns-clause-half_made
returns-clause-half_made g c = holds_now c.mkfs-made.ensures.any_moment (g.met.D.Disk.counts_now c.mkfs-made.new.disk) c.crash.ensures.image
