use Rattle.std.proofs.Common.{◌∙◌, ap, arith, refl, sym, subst}
use Rattle.fs_layout.specs.Bytes.{SectorMap}
use Rattle.fs_layout.specs.Header.{max_delta, max_targets}
use Rattle.redo_journal.specs.States.{header_at}
use Rattle.redo_journal.specs.Batch.{with_batch}
use Rattle.redo_journal.specs.Meaning.{EachReadsAs, SameMap, data_of}
use Rattle.sector_txn.specs.Stores.{all_waiting, present}
use Rattle.sector_txn.proofs.Commits.{map_none, nothing_waits}
use Rattle.sector_txn.proofs.store.Store.new.Goals as goal

pub returns-in-Ok-clause-map : goal.returns-in-Ok-clause-map
unfolding present
returns-in-Ok-clause-map g c =
    let state = g.D.Disk.state in
    let placed = c.in-Ok.waiting.placed.value.entries in
    let logged = c.in-Ok.waiting.logged.value.entries in
    let map = data_of (state c.args.journal) in
    subst (λ of. SameMap (with_batch (all_waiting placed logged) (data_of (state of))) map) (sym c.new.ensures)
    (subst (λ (f : SectorMap). SameMap f map) (sym (map_none placed logged map c.in-Ok.ensures.placed c.in-Ok.ensures.logged)) (λ n part i. map n))

pub returns-in-Ok-clause-lasting : goal.returns-in-Ok-clause-lasting
unfolding present
returns-in-Ok-clause-lasting g c =
    let state = g.D.Disk.state in
    let disk = state c.args.journal in
    let placed = c.in-Ok.waiting.placed.value.entries in
    let logged = c.in-Ok.waiting.logged.value.entries in
    subst (λ of. EachReadsAs (with_batch (all_waiting placed logged) (data_of (state of))) (state of)) (sym c.new.ensures)
    (subst (λ (f : SectorMap). EachReadsAs f disk) (sym (map_none placed logged (data_of disk) c.in-Ok.ensures.placed c.in-Ok.ensures.logged)) c.tell_ready.ensures)

pub invariant_of-result : goal.invariant_of-result
invariant_of-result g c =
    let parts = c.in-Ok.ensures in
    let header = c.header.ensures.is ∙ ap (λ d. header_at (g.D.Disk.state d).seen) (sym c.new.ensures) in
    (parts.delta, nothing_waits (g.D.Disk.state c.new.result) c.in-Ok.waiting.placed.value c.in-Ok.waiting.logged.value parts.placed parts.logged (parts.log ∙ ap max_targets header) (omega (arith, parts.places, header)), parts.most ∙ ap max_delta header)

pub returns-in-Err : goal.returns-in-Err
returns-in-Err g c = record { disk = refl; map = tt; lasting = tt }

pub new-requires : goal.new-requires
new-requires g c = c.in-Ok.ensures.last ∙ ap max_targets c.header.ensures.is

pub returns-in-Ok-clause-disk : goal.returns-in-Ok-clause-disk
returns-in-Ok-clause-disk g c = c.new.ensures

pub reserved-requires : goal.reserved-requires
reserved-requires g c = c.header.ensures.most
