use Rattle.fs_layout.proofs.StoredLists.{has_sector}
use Rattle.fs_layout.proofs.OneAcl.{default_same, access_same}
use Rattle.fs_layout.proofs.laws.sectors_say_the_acls.Goals as goal

pub returns : goal.returns
returns c = record { content = has_sector; one = default_same; access = access_same }
