use Rattle.std.proofs.Common.{sym, ap, length, ◌∙◌}
use Rattle.fuse_protocol.proofs.Batches.{length_forgets}
use Rattle.fuse_protocol.proofs.batch.Batch.len.Goals as goal

pub returns : goal.returns
returns c = sym (length_forgets c.self.inside.count c.self.inside.bytes.now) ∙ ap length c.self.view_is
