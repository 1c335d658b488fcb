use Rattle.std.proofs.Common.{◌∙◌, ap, sym, length}
use Rattle.std.proofs.lemmas.List.{length-map}
use Rattle.fuse_state.proofs.server.Server.count_directories.Goals as goal

pub returns : goal.returns
returns c = ap length (c.entries.ensures.all ∙ ap (λ k. k.server.directories) c.self.view_is) ∙ sym (length-map c.args.self.now.server.directories (λ e. e.1.owner))
