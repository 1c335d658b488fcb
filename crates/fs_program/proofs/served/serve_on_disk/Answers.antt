use Rattle.std.proofs.Common.{refl, ap, ◌∙◌}
use Rattle.fs_system.specs.Replies.{unmounted}
use Rattle.fs_program.specs.Serving.{cannot_begin, cannot_mount, has_served, settings_of}
use Rattle.fs_program.specs.Unmounts.{unmount_end}
use Rattle.fs_program.proofs.Sessions.{serves_on}
use Rattle.fs_program.proofs.served.serve_on_disk.Goals as goal

pub returns-in_default : goal.returns-in_default
returns-in_default g c = cannot_begin _ refl

pub returns-in-Err : goal.returns-in-Err
returns-in-Err g c = cannot_begin _ refl

pub returns-in-Err-mount_salted : goal.returns-in-Err-mount_salted
returns-in-Err-mount_salted g c = cannot_mount c.in-Err-mount_salted.field-0-1 c.in-Err-mount_salted.fault c.in-Err-mount_salted.ensures.failed refl

pub returns : goal.returns
returns g c =
    let first = c.in-Ok-mount_salted.fs in
    let start = c.in-Ok-now.start in
    let served = c.serve_requests-served.result.0 in
    let errno = c.unmount-errno.result.1 in
    has_served served (unmounted errno)
    (serves_on g.D.Disk.state g.K.Kernel.Does c.args.disk c.unmount-errno.result.0 first c.serve_requests-served.result.1 c.args.own_rules
    c.args.commit c.args.kernel.now c.now.new.self c.serve_requests-served.new.kernel start c.settings_of-settings.result served (unmounted errno)
    c.in-Ok-now.ensures c.in-Ok-mount_salted.ensures.mounted
    (c.settings_of-settings.ensures ∙ ap (λ p. settings_of p c.args.own_rules c.args.commit start) c.geometry.ensures)
    c.serve_requests-served.ensures c.unmount-errno.ensures.does)
    (c.unmount_end.ensures ∙ ap (λ s. unmount_end s (unmounted errno)) c.tell_served.ensures)
