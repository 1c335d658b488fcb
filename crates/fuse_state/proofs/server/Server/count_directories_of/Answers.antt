use Rattle.std.proofs.Common.{ℕ, ◌==◌, ◌∙◌, ap, length, rules, tests}
use Rattle.std.proofs.lemmas.Iterator.{YieldsList-from_slice}
use Rattle.std.proofs.lemmas.Iterator.Consumers.{YieldsList-at, YieldsList-from_filter, count_from_yields_List}
use Rattle.std.specs.List.{filter}
use Rattle.fuse_state.specs.declared.directory.OpenDirectory.{OpenDirectory}
use Rattle.fuse_state.proofs.Chosen.{counted_of}
use Rattle.fuse_state.proofs.server.Server.count_directories_of.Goals as goal

pub returns : goal.returns
returns c =
    let s = c.args.self.now.server in
    let test = λ (e : ℕ × OpenDirectory). e.1.owner == c.args.uid in
    let same = c.entries.ensures.all ∙ ap (λ k. k.server.directories) c.self.view_is in
    count_from_yields_List c.filter.result _ c.count.ensures.ran (YieldsList-from_filter _ test (YieldsList-at c.filter.ensures.source (YieldsList-from_slice c.entries.result.now c.iter.ensures.rest)) c.filter.ensures.closure (λ x b f called. search (rules, tests)))
    ∙ ap (λ m. length (filter test m)) same
    ∙ counted_of (λ (e : ℕ × OpenDirectory). e.1.owner) c.args.uid s.directories
