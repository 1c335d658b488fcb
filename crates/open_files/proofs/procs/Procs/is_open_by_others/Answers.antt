use Rattle.std.proofs.Common.{◌≢◌, arith, ap, ◌∙◌, ◌==◌, ◌-◌, ◌&&◌, not}
use Rattle.std.specs.List.{list_any}
use Rattle.std.specs.Ordering.{nat_cmp}
use Rattle.fs_layout.specs.Maps.{without}
use Rattle.fs_model.specs.Processes.{is_open}
use Rattle.open_files.proofs.Numbered.{positive, open_by_others}
use Rattle.open_files.proofs.procs.Procs.is_open_by_others.Goals as goal

pub overflow_sub-own : goal.overflow_sub-own
overflow_sub-own c =
    let some : c.args.pid ≢ 0 = positive c.self.inside.slab.slots c.args.self.now c.self.view_is c.args.pid c.requires.found in
    omega (arith, some)

pub loop-key-init : goal.loop-key-init
loop-key-init c =
    let left = c.into_iter-key-iterator.ensures.into_iter_gives ∙ c.iter-key-items.ensures.rest in
    let some : c.args.pid ≢ 0 = positive c.self.inside.slab.slots c.args.self.now c.self.view_is c.args.pid c.requires.found in (
      tt,
      tt,
      ap (list_any (λ e. not (e.0 == c.args.pid - 1) && list_any (λ d. d.1.ino == c.args.ino) e.1.descriptors)) left
          ∙ open_by_others c.self.inside.slab.slots c.args.pid c.args.ino some
          ∙ ap (λ m. is_open (without nat_cmp m c.args.pid) c.args.ino) c.self.view_is,
    )
