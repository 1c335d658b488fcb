use Rattle.std.proofs.Common.{length, refl, sym, ap, ◌∙◌}
use Rattle.fs_program.proofs.Findings.{image_before}
use Rattle.fs_program.proofs.jobs.check_part.Goals as goal

pub returns-then-failures-eq0 : goal.returns-then-failures-eq0
returns-then-failures-eq0 g c =
    let fresh = c.new-disk.ensures in
    record {
      old = c.new-disk.result;
      now = c.check-found.new.disk;
      is_image = image_before (g.R.File.DiskFile.held c.into_file.result) _ _ c.check-found.ensures.passed.reads c.into_file.ensures;
      fresh = record { size = fresh.size ∙ ap length (sym fresh.seen); seen = refl; stable = fresh.stable; failures = fresh.failures };
      clean = c.check-found.ensures.clean;
      passed = c.check-found.ensures.passed;
      quiet = sym c.failures.ensures ∙ c.if-failures-eq0.true;
    }
