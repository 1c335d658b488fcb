use Rattle.std.proofs.Common.{◌∙◌, ap, List}
use Rattle.sector_disk.specs.Record.{Past, since_sync}
use Rattle.sector_disk.specs.Steps.{past_of}
use Rattle.sector_disk.specs.declared.history.Step.{Step}
use Rattle.sector_disk.proofs.Undone.{past-forget, record-forget}
use Rattle.sector_disk.proofs.history.History.forget.Goals as goal

pub invariant_of-self : goal.invariant_of-self
invariant_of-self c =
    let i = c.self.inside in
    record-forget i.seen i.done.items c.drop_first.new.done.items i.synced c.drop_first.ensures c.self.invariant

pub returns : goal.returns
returns c =
    let i = c.self.inside in
    ap (λ (l : List Step). past_of i.seen.shown l) c.drop_first.ensures ∙ past-forget i.seen.shown i.done.items i.synced c.self.invariant.log ∙ ap (λ (p : Past). since_sync p) c.self.view_is
