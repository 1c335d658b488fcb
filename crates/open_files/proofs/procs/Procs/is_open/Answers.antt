use Rattle.std.proofs.Common.{ap, ◌∙◌, ◌==◌}
use Rattle.std.specs.List.{list_any}
use Rattle.fs_model.specs.Processes.{is_open}
use Rattle.open_files.proofs.Numbered.{open_by_some}
use Rattle.open_files.proofs.procs.Procs.is_open.Goals as goal

pub loop-process-init : goal.loop-process-init
loop-process-init c =
    let left = c.into_iter-process-iterator.ensures.into_iter_gives ∙ c.iter-process-items.ensures.rest in (
      tt,
      tt,
      ap (list_any (λ e. list_any (λ d. d.1.ino == c.args.ino) e.1.descriptors)) left ∙ open_by_some c.self.inside.slab.slots c.args.ino ∙ ap (λ m. is_open m c.args.ino) c.self.view_is,
    )
