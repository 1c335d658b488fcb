use Rattle.std.proofs.Common.{refl}
use Rattle.fs_model.specs.Rules.{no_commit}
use Rattle.fs_check.proofs.Openings.{commit_in, none_valid}
use Rattle.fs_info.proofs.opening.open_commit.Goals as goal

pub returns-in-Some-clause-targets : goal.returns-in-Some-clause-targets
returns-in-Some-clause-targets g c = commit_in (g.D.Disk.state c.args.disk.now) _ _ c.in-Some.is c.in_ok-area.ensures.commit

pub returns-in-None-clause-fault : goal.returns-in-None-clause-fault
returns-in-None-clause-fault g c =
    let none = none_valid (g.D.Disk.state c.args.disk.now) _ c.in-None.is c.in_ok-area.ensures.commit in
    (refl, no_commit (record { geometry = c.args.geometry; is = c.requires }) none)
