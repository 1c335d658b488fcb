use Rattle.std.proofs.lemmas.Result.{IfOk-weaker}
use Rattle.sector_disk.proofs.Moments.{reads_joined}
use Rattle.fs_info.proofs.OfReads.{info_back}
use Rattle.fs_info.proofs.info.read_info.Goals as goal

pub returns-clause-info : goal.returns-clause-info
returns-clause-info g c =
    IfOk-weaker c.count_free.result _ _ (λ info is. info_back (reads_joined c.open_geometry.ensures.reads c.open_commit.ensures.reads) is) c.count_free.ensures.info
