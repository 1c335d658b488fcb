use Rattle.std.proofs.Common.{rules}
use Rattle.fs_model.proofs.bytes.ByteString.new.Goals as goal

pub returns : goal.returns
returns g c = search rules
