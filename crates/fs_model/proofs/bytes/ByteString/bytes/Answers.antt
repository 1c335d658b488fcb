use Rattle.std.proofs.Common.{rules}
use Rattle.fs_model.proofs.bytes.ByteString.bytes.Goals as goal

pub returns-clause-all : goal.returns-clause-all
returns-clause-all g c = search rules

pub returns-clause-valid : goal.returns-clause-valid
returns-clause-valid g c = search rules
