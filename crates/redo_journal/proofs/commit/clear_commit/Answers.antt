use Rattle.std.proofs.Common.{◌∙◌, []}
use Rattle.fs_layout.proofs.CommitLaw.{in_first}
use Rattle.sector_disk.proofs.Moments.{weaker}
use Rattle.redo_journal.proofs.Both.{on_ok_both}
use Rattle.redo_journal.proofs.Meaning.{clear_keeps, cleared_from}
use Rattle.redo_journal.proofs.commit.clear_commit.Goals as goal

pub returns-clause-any_moment : goal.returns-clause-any_moment
returns-clause-any_moment g c = weaker (clear_keeps c.requires.0 _ (g.D.Disk.state c.args.disk.now) (c.sector_with.ensures ∙ in_first []) c.requires.1) c.write_synced.ensures.any_moment

pub returns-clause-idle : goal.returns-clause-idle
returns-clause-idle g c =
    on_ok_both c.write_synced.result
    (cleared_from c.requires.0 c.sector_with.result (g.D.Disk.state c.args.disk.now) (g.D.Disk.state c.write_synced.new.disk) c.requires.1 (c.sector_with.ensures ∙ in_first []) c.write_synced.ensures.adds
    (g.met.D.Disk.seen_is_image c.write_synced.new.disk).size)
    c.write_synced.ensures.written c.write_synced.ensures.stable
