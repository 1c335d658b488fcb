use Rattle.std.proofs.Common.{arith}
use Rattle.fs_check.proofs.Openings.{has_header, many_sectors}
use Rattle.fs_check.proofs.recovering.commit_said.Goals as goal

pub read_commit-requires-clause-room : goal.read_commit-requires-clause-room
read_commit-requires-clause-room g c = let many = many_sectors _ _ (record { geometry = c.args.geometry; is = c.requires }) in omega (arith, many)

pub read_commit-requires-clause-header : goal.read_commit-requires-clause-header
read_commit-requires-clause-header g c = has_header (g.D.Disk.state c.args.disk.now) c.args.geometry c.requires
