use Rattle.std.proofs.Common.{ap, ◌∙◌, ◌==◌}
use Rattle.std.specs.List.{list_any}
use Rattle.open_files.proofs.Numbered.{current_of_some}
use Rattle.open_files.proofs.procs.Procs.is_current.Goals as goal

pub loop-process-init : goal.loop-process-init
loop-process-init c =
    let left = c.into_iter-process-iterator.ensures.into_iter_gives ∙ c.iter-process-items.ensures.rest in (
      tt,
      tt,
      ap (list_any (λ e. e.1.cwd == c.args.ino)) left ∙ current_of_some c.self.inside.slab.slots c.args.ino ∙ ap (λ m. list_any (λ p. p.1.cwd == c.args.ino) m) c.self.view_is,
    )
