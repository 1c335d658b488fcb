use Rattle.fs_model.proofs.FollowedActors.{actors_follow}
use Rattle.fs_model.proofs.SpecialFinds.{links_ask_as_before}
use Rattle.fs_model.proofs.ActorsAsProcesses.{actors_call_as_processes}
use Rattle.fs_model.proofs.laws.actors_call_as_processes.Goals as goal

pub returns : goal.returns
returns c = record { calls = actors_call_as_processes; follow = actors_follow; links = links_ask_as_before }
