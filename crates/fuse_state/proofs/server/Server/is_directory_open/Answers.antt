use Rattle.std.proofs.Common.{ℕ, ◌==◌, ◌∙◌, ap, rules, tests}
use Rattle.std.specs.List.{list_any}
use Rattle.std.proofs.lemmas.Iterator.{YieldsList-from_slice}
use Rattle.std.proofs.lemmas.Iterator.Search.{any_from_yields_List}
use Rattle.fuse_state.specs.declared.directory.OpenDirectory.{OpenDirectory}
use Rattle.fuse_state.proofs.server.Server.is_directory_open.Goals as goal

pub returns : goal.returns
returns c =
    let test = λ (e : ℕ × OpenDirectory). e.1.node == c.args.node in
    let same = c.entries.ensures.all ∙ ap (λ k. k.server.directories) c.self.view_is in
    any_from_yields_List test _ _ c.any.result c.any.ensures.ran (YieldsList-from_slice c.entries.result.now c.iter.ensures.rest) (λ x b f called. search (rules, tests))
    ∙ ap (list_any test) same
