use Rattle.std.proofs.Common.{◌∙◌, ◌++◌, ◌∷◌, [], ap, arith, drop, subst, sym, List, length}
use Rattle.std.proofs.lemmas.List.{drop_all, take_rest}
use Rattle.sector_disk.specs.Disk.{Image}
use Rattle.sector_disk.specs.Record.{Past, Synced}
use Rattle.sector_disk.specs.Steps.{past_of, IsLog, CanPutBack}
use Rattle.sector_disk.specs.declared.history.Step.{Step}
use Rattle.sector_disk.proofs.Undone.{past-sync, log-sync, back-sync, none_back}
use Rattle.sector_disk.proofs.history.History.sync.Goals as goal

pub invariant_of-self-2 : goal.invariant_of-self-2
invariant_of-self-2 c =
    let i = c.self.inside in
    let now = c.len-self-inside.result in
    let done = c.push.new.self.items in
    let all = c.len-self-inside.ensures ∙ c.push.new.self.ok.0 in
    let log = log-sync i.seen.shown i.done.items i.synced now (all ∙ ap (λ (l : List Step). length l) c.in_ok-push.ensures.items) c.self.invariant.log in
    record {
      log = subst (λ (s : Image). IsLog s done now) (sym c.release_places.ensures) (subst (λ (l : List Step). IsLog i.seen.shown l now) (sym c.in_ok-push.ensures.items) log);
      back = none_back c.release_places.new.image (drop now done) (drop_all now done (omega (arith, all)));
    }

pub returns-clause-ok : goal.returns-clause-ok
returns-clause-ok c =
    let i = c.self.inside in
    ap (λ (s : Image). past_of s c.push.new.self.items) c.release_places.ensures
    ∙ ap (λ (l : List Step). past_of i.seen.shown l) c.in_ok-push.ensures.items ∙ past-sync i.seen.shown i.done.items
    ∙ ap (λ (p : Past). record p { events = p.events ++ Synced ∷ [] }) c.self.view_is

pub release_places-requires : goal.release_places-requires
release_places-requires c =
    let i = c.self.inside in
    let tail = take_rest c.deref.result.now i.synced ∙ ap (λ (l : List Step). drop i.synced l) (c.deref.ensures.value ∙ c.in_ok-push.ensures.items) in
    subst (λ (l : List Step). CanPutBack i.seen l) (sym tail) (back-sync i.seen i.done.items i.synced c.self.invariant.log.synced_fits c.self.invariant.back)
