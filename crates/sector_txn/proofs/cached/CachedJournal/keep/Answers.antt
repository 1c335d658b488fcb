use Rattle.std.proofs.Common.{◌∙◌, ◌+◌, ◌≤◌, length, ap, sym, subst}
use Rattle.std.specs.Prelude.{All, IfSome, Option}
use Rattle.fs_layout.specs.declared.geometry.Geometry.{Geometry}
use Rattle.fs_layout.specs.Bytes.{SectorMap}
use Rattle.redo_journal.specs.Batch.{BatchView, IsOnDisk, added, targets, with_batch}
use Rattle.redo_journal.specs.Meaning.{HasLayout, IsSpare, data_of}
use Rattle.redo_journal.specs.States.{IsNoTarget, StandsIn, header_at}
use Rattle.sector_txn.specs.Stores.{IsWaiting}
use Rattle.sector_txn.proofs.Commits.{kept_beside, kept_logged, map_both, over_both}
use Rattle.sector_txn.proofs.cached.CachedJournal.keep.Goals as goal

pub absorb_beside-requires-clause-stands : goal.absorb_beside-requires-clause-stands
absorb_beside-requires-clause-stands g c =
    let disk = g.D.Disk.state c.self.inside.journal in
    let known = subst (λ (o : Option Geometry). IfSome o (λ p. HasLayout (data_of disk) p × (p.sectors ≤ disk.size) × StandsIn (targets c.self.inside.last.value.entries) disk)) c.in-Some.is c.self.invariant.1.known in
    subst (λ (b : BatchView). StandsIn (targets b.entries) disk) (sym c.deref.ensures) known.2

pub absorb_beside-requires-clause-spare : goal.absorb_beside-requires-clause-spare
absorb_beside-requires-clause-spare g c =
    let disk = g.D.Disk.state c.self.inside.journal in
    let waits = subst (λ d. IsWaiting (g.D.Disk.state d) c.args.waiting.now.placed.value c.args.waiting.now.logged.value) (sym c.self.view_is) c.requires.waits in
    subst (λ (b : BatchView). All (IsSpare (data_of disk)) (targets b.entries)) (sym c.deref_mut.ensures.value) waits.spare

pub absorb_beside-requires-clause-beside : goal.absorb_beside-requires-clause-beside
absorb_beside-requires-clause-beside g c =
    let disk = g.D.Disk.state c.self.inside.journal in
    let waits = subst (λ d. IsWaiting (g.D.Disk.state d) c.args.waiting.now.placed.value c.args.waiting.now.logged.value) (sym c.self.view_is) c.requires.waits in
    subst (λ (b : BatchView). All (IsNoTarget disk) (targets b.entries)) (sym c.deref_mut.ensures.value) waits.beside

pub returns-in-Some-clause-waits : goal.returns-in-Some-clause-waits
returns-in-Some-clause-waits g c =
    let disk = g.D.Disk.state c.self.inside.journal in
    let delta = c.args.delta.now.entries in
    let waiting = c.args.waiting.now in
    let placed = c.deref_mut.result.now in
    let logged = c.deref_mut-in-Some.result.now in
    let waits = subst (λ d. IsWaiting (g.D.Disk.state d) waiting.placed.value waiting.logged.value) (sym c.self.view_is) c.requires.waits in
    let there = subst (λ d. IsOnDisk (header_at (g.D.Disk.state d).seen) (g.D.Disk.state d).size delta) (sym c.self.view_is) c.requires.on_disk in
    let room = subst (λ (b : BatchView). length b.entries + added b.entries delta ≤ b.most) (sym c.deref_mut-in-Some.ensures.value) c.requires.room in
    let here = subst (λ (b : BatchView). IsWaiting disk b logged) (sym c.deref_mut.ensures.value) (subst (λ (b : BatchView). IsWaiting disk waiting.placed.value b) (sym c.deref_mut-in-Some.ensures.value) waits) in
    let done = c.absorb_beside.ensures in
    subst (λ d. IsWaiting (g.D.Disk.state d) c.absorb_beside.new.placed c.absorb_beside.new.logged) c.self.view_is
    (kept_beside disk placed logged c.absorb_beside.new.placed c.absorb_beside.new.logged delta here there room done.spare done.beside (λ header. let other : ⊥ = cc (sym (c.self.invariant.1.alone header) ∙ c.in-Some.is) in absurd other) done.few done.on_disk done.most.0 done.most.1)

pub returns-in-Some-clause-map : goal.returns-in-Some-clause-map
returns-in-Some-clause-map g c = λ f n.
    let delta = c.args.delta.now.entries in
    let placed = c.args.waiting.now.placed.value.entries in
    let logged = c.args.waiting.now.logged.value.entries in
    over_both c.absorb_beside.new.logged.entries c.absorb_beside.new.placed.entries f n ∙ c.absorb_beside.ensures.map f n
    ∙ ap (λ (b : BatchView). with_batch delta (with_batch b.entries (with_batch c.deref_mut.result.now.entries f)) n) c.deref_mut-in-Some.ensures.value
    ∙ ap (λ (b : BatchView). with_batch delta (with_batch logged (with_batch b.entries f)) n) c.deref_mut.ensures.value
    ∙ ap (λ (h : SectorMap). with_batch delta h n) (sym (map_both logged placed f))

pub returns-in-None-clause-waits : goal.returns-in-None-clause-waits
returns-in-None-clause-waits g c =
    let disk = g.D.Disk.state c.args.self.now in
    let delta = c.args.delta.now.entries in
    let waiting = c.args.waiting.now in
    let room = subst (λ (b : BatchView). length b.entries + added b.entries delta ≤ b.most) (sym c.deref_mut-in-None.ensures.value) c.requires.room in
    let here = subst (λ (b : BatchView). IsWaiting disk waiting.placed.value b) (sym c.deref_mut-in-None.ensures.value) c.requires.waits in
    kept_logged disk waiting.placed.value c.deref_mut-in-None.result.now c.absorb.new.self delta here c.requires.on_disk room c.absorb.ensures.len c.absorb.ensures.on_disk c.absorb.ensures.most

pub returns-in-None-clause-map : goal.returns-in-None-clause-map
returns-in-None-clause-map g c = λ f n.
    let delta = c.args.delta.now.entries in
    let placed = c.args.waiting.now.placed.value.entries in
    let logged = c.args.waiting.now.logged.value.entries in
    over_both c.absorb.new.self.entries placed f n ∙ c.absorb.ensures.map (with_batch placed f) n
    ∙ ap (λ (b : BatchView). with_batch delta (with_batch b.entries (with_batch placed f)) n) c.deref_mut-in-None.ensures.value
    ∙ ap (λ (h : SectorMap). with_batch delta h n) (sym (map_both logged placed f))
