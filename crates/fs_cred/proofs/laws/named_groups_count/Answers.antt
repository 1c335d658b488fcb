use Rattle.fs_cred.proofs.NamedGroups.{same_verdict, same_owner, just_alike}
use Rattle.fs_cred.proofs.laws.named_groups_count.Goals as goal

pub returns : goal.returns
returns c = record { decided = same_verdict; owned = same_owner; just = just_alike }
