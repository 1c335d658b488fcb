use Rattle.std.proofs.Common.{◌∙◌, List, ℕ, replicate}
use Rattle.std.proofs.lemmas.List.{length-replicate}
use Rattle.fs_program.proofs.jobs.create_image.Goals as goal

pub returns-in-Ok-clause-made : goal.returns-in-Ok-clause-made
returns-in-Ok-clause-made g c = record {
  size = c.in-Ok.ensures.size ∙ length-replicate {A = List ℕ} c.args.sectors (replicate 512 0);
  seen = c.in-Ok.ensures.seen;
}
