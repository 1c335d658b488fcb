use Rattle.std.proofs.Common.{◌∙◌, ℕ, List, ap}
use Rattle.std.specs.Prelude.{slice_set}
use Rattle.std.proofs.lemmas.List.{set-set, set-get_or}
use Rattle.sector_disk.specs.Places.{KeptSectors}
use Rattle.sector_disk.proofs.part_file.put_loaded.Goals as goal

pub returns-clause-loaded : goal.returns-clause-loaded
returns-clause-loaded c = c.in_ok-add.ensures.ok

pub returns-in-Err-clause-same : goal.returns-in-Err-clause-same
returns-in-Err-clause-same c =
    let loaded = c.args.loaded.now in
    let n = c.args.n in (
      ap (λ (s : KeptSectors). s.shown) c.in-Err.ensures.err,
      c.replace.ensures ∙ ap (λ (l : List ℕ). slice_set l n c.get-was.result) c.in_ok-add.ensures.ok ∙ set-set loaded n 1 c.get-was.result
          ∙ ap (slice_set loaded n) c.get-was.ensures ∙ set-get_or loaded n 0,
    )
