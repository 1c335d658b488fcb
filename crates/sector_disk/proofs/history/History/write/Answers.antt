use Rattle.std.proofs.Common.{◌∙◌, ◌<◌, ◌++◌, ◌∷◌, [], ap, arith, drop, length, List, slice_set, subst, sym}
use Rattle.sector_disk.specs.Disk.{Image}
use Rattle.sector_disk.specs.Record.{Past, Written}
use Rattle.sector_disk.specs.Steps.{past_of, IsLog, CanPutBack}
use Rattle.sector_disk.specs.declared.history.Step.{Step}
use Rattle.sector_disk.specs.declared.history.Step.TheVariants.{Replaced}
use Rattle.sector_disk.proofs.Placed.{unpushed}
use Rattle.sector_disk.proofs.Recorded.{recorded, unrecorded, record_as, past_as}
use Rattle.sector_disk.proofs.Undone.{past-write, log-write, back-write}
use Rattle.sector_disk.proofs.history.History.write.Goals as goal

pub invariant_of-self-2 : goal.invariant_of-self-2
invariant_of-self-2 c =
    let i = c.self.inside in
    let n = c.args.n in
    let content = c.args.content.now in
    let size = ap (λ (p : Past). length p.start) c.self.view_is in
    let len = c.self.invariant.log.len in
    let below : n < length i.seen.shown = let fits = c.requires in omega (arith, fits, size, len) in
    let step = c.in_ok-extend_from_slice.ensures.items ∙ ap (λ was. i.done.items ++ Replaced n was ∷ []) c.get.ensures.content in
    let set = recorded c.set.result (sym c.is_err.ensures.value ∙ c.if-is_err.false) c.set.ensures.ok in
    let now = c.set.new.self in
    let keeps = λ (zeros_not : _). c.get.ensures.placed (λ zeros. zeros_not (sym c.get.ensures.content ∙ zeros)) in
    record {
      log = subst (λ (seen : Image). IsLog seen c.extend_from_slice.new.self.items i.synced) (sym set)
          (subst (λ (l : List Step). IsLog (slice_set i.seen.shown n content) l i.synced) (sym step) (log-write i.seen.shown n content i.done.items i.synced below c.self.invariant.log));
      back = subst (λ (l : List Step). CanPutBack now (drop i.synced l)) (sym step)
          (back-write i.seen now n content i.done.items i.synced below c.self.invariant.log.synced_fits keeps set c.set.ensures.keeps c.self.invariant.back);
    }

pub returns-clause-ok : goal.returns-clause-ok
returns-clause-ok c =
    let i = c.self.inside in
    let n = c.args.n in
    let content = c.args.content.now in
    let size = ap (λ (p : Past). length p.start) c.self.view_is in
    let len = c.self.invariant.log.len in
    let below : n < length i.seen.shown = let fits = c.requires in omega (arith, fits, size, len) in
    let step = c.in_ok-extend_from_slice.ensures.items ∙ ap (λ was. i.done.items ++ Replaced n was ∷ []) c.get.ensures.content in
    let set = recorded c.set.result (sym c.is_err.ensures.value ∙ c.if-is_err.false) c.set.ensures.ok in
    ap (λ (seen : Image). past_of seen c.extend_from_slice.new.self.items) set ∙ ap (λ (l : List Step). past_of (slice_set i.seen.shown n content) l) step
    ∙ past-write i.seen.shown n content i.done.items below ∙ ap (λ (p : Past). record p { events = p.events ++ Written n content ∷ [] }) c.self.view_is

-- the step is taken back
pub invariant_of-self-then-is_err : goal.invariant_of-self-then-is_err
invariant_of-self-then-is_err c =
    let i = c.self.inside in
    let grown = c.extend_from_slice.new.self in
    let same = unrecorded c.set.result (sym c.is_err.ensures.value ∙ c.if-is_err.true) c.set.ensures.err in
    let step = c.in_ok-extend_from_slice.ensures.items in
    record_as same
    (unpushed i.done.items (Replaced c.args.n c.get.result.now) step grown.ok.0 c.pop.ensures.rest)
    c.self.invariant

pub returns-then-is_err-clause-err : goal.returns-then-is_err-clause-err
returns-then-is_err-clause-err c =
    let i = c.self.inside in
    let grown = c.extend_from_slice.new.self in
    let same = unrecorded c.set.result (sym c.is_err.ensures.value ∙ c.if-is_err.true) c.set.ensures.err in
    let step = c.in_ok-extend_from_slice.ensures.items in
    past_as same
    (unpushed i.done.items (Replaced c.args.n c.get.result.now) step grown.ok.0 c.pop.ensures.rest)
    c.self.view_is
