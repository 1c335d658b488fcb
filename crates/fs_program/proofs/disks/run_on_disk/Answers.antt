use Rattle.std.proofs.Common.{refl, ap, ◌∙◌}
use Rattle.fs_system.specs.Replies.{unmounted}
use Rattle.fs_program.specs.Jobs.{cannot_mount, has_run}
use Rattle.fs_program.specs.Streams.{reading, writing}
use Rattle.fs_program.specs.Unmounts.{unmount_end}
use Rattle.fs_program.proofs.Ends.{runs_on}
use Rattle.fs_program.proofs.disks.run_on_disk.Goals as goal

pub returns-in-Err : goal.returns-in-Err
returns-in-Err g c = cannot_mount c.in-Err.field-0-1 c.in-Err.fault c.in-Err.ensures.failed (refl, refl)

pub returns : goal.returns
returns g c =
    let ran = c.run-ran.result in
    let errno = c.unmount-errno.result.1 in
    has_run ran (unmounted errno)
    (runs_on g.D.Disk.state c.args.disk c.unmount-errno.result.0 c.in-Ok.fs c.run-ran.new.fs (reading g.I.Read.remaining c.args.input.now c.run-ran.new.reader)
    (writing g.O.Write.contents c.args.out.now c.run-ran.new.writer) ran (unmounted errno)
    c.in-Ok.ensures.mounted c.run-ran.ensures.ran c.run-ran.ensures.read_fault c.run-ran.ensures.write_fault c.run-ran.ensures.flushed
    c.unmount-errno.ensures.does)
    (c.unmount_end.ensures ∙ ap (λ s. unmount_end s (unmounted errno)) c.tell_run.ensures)
