use Rattle.std.proofs.Common.{◌∙◌, length, arith, ap, sym, List, refl, subst}
use Rattle.std.proofs.lemmas.Bool.{true≢false}
use Rattle.redo_journal.specs.Batch.{BatchView, added, Entry}
use Rattle.fs_layout.specs.Bytes.{SectorMap}
use Rattle.redo_journal.specs.Meaning.{data_of}
use Rattle.redo_journal.proofs.Causes.{cause_of_none, told_of_none}
use Rattle.sector_txn.specs.Waits.{EntriesHavePlaces}
use Rattle.sector_txn.proofs.Commits.{added_few, map_none}
use Rattle.sector_txn.proofs.Images.{if_ok_each, nothing_left, nothing_logs}
use Rattle.sector_txn.proofs.commit.commit_if_full.Goals as goal

pub returns-clause-due : goal.returns-clause-due
returns-clause-due g c = λ none room.
    let delta = c.args.delta.now.entries in
    let fit = c.fits.ensures.fits.1 (
      omega (arith, none, c.requires.few, c.requires.waits.room, ap (λ (b : BatchView). length b.entries) c.deref.ensures, ap (λ (b : BatchView). b.most) c.deref.ensures),
      omega (arith, room, c.requires.waits.log, c.max_targets-most.ensures, c.header.ensures.is, ap (λ (b : BatchView). length b.entries) c.deref-2.ensures, ap (λ (b : BatchView). added b.entries delta) c.deref-2.ensures),
    ) in
    absurd (true≢false (sym fit ∙ c.if-fits.false))

-- where the changes fit
pub returns-then-fits-clause-places : goal.returns-then-fits-clause-places
returns-then-fits-clause-places g c = subst (λ (b : BatchView). EntriesHavePlaces b c.args.delta.now.entries) c.deref.ensures (c.fits.ensures.fits.0 c.if-fits.true).0

pub returns-then-fits-clause-room : goal.returns-then-fits-clause-room
returns-then-fits-clause-room g c =
    let delta = c.args.delta.now.entries in
    let room = (c.fits.ensures.fits.0 c.if-fits.true).1 in
    omega (arith, room, c.requires.waits.log, c.max_targets-most.ensures, c.header.ensures.is, ap (λ (b : BatchView). length b.entries) c.deref-2.ensures, ap (λ (b : BatchView). added b.entries delta) c.deref-2.ensures)

pub returns-then-fits-clause-waits : goal.returns-then-fits-clause-waits
returns-then-fits-clause-waits g c = c.requires.waits

pub returns-then-fits-clause-due : goal.returns-then-fits-clause-due
returns-then-fits-clause-due g c = λ none room. refl

pub returns-then-fits-clause-header : goal.returns-then-fits-clause-header
returns-then-fits-clause-header g c = refl

pub returns-then-fits-clause-same : goal.returns-then-fits-clause-same
returns-then-fits-clause-same g c = λ n part. refl

pub returns-then-fits-clause-images : goal.returns-then-fits-clause-images
returns-then-fits-clause-images g c = nothing_left (g.met.D.Disk.only_now c.args.journal)

pub returns-then-fits-clause-alone : goal.returns-then-fits-clause-alone
returns-then-fits-clause-alone g c = nothing_logs c.requires.waits (g.met.D.Disk.only_now c.args.journal) c.tell_ready.ensures

pub returns-then-fits-clause-empty : goal.returns-then-fits-clause-empty
returns-then-fits-clause-empty g c = λ none. refl

pub returns-then-fits-clause-cause : goal.returns-then-fits-clause-cause
returns-then-fits-clause-cause g c = cause_of_none

pub returns-then-fits-clause-told : goal.returns-then-fits-clause-told
returns-then-fits-clause-told g c = told_of_none

-- where what waited was committed
pub returns-clause-places : goal.returns-clause-places
returns-clause-places g c =
    if_ok_each c.commit.result
    (λ after none waits header. let few = c.requires.few in let len = ap (λ (l : List Entry). length l) none in let room = waits.room in omega (arith, few, len, room, header))
    c.commit.ensures.placed c.commit.ensures.waits c.commit.ensures.header

pub returns-clause-room : goal.returns-clause-room
returns-clause-room g c =
    let delta = c.args.delta.now.entries in
    if_ok_each c.commit.result
    (λ after none waits header.
    let few = c.requires.few in
    let len = ap (λ (l : List Entry). length l) none in
    let more = added_few c.commit.new.waiting.logged.value.entries delta in
    let log = waits.log in
    omega (arith, few, len, more, log, header))
    c.commit.ensures.logged c.commit.ensures.waits c.commit.ensures.header

pub returns-clause-same : goal.returns-clause-same
returns-clause-same g c =
    let now = c.commit.new.waiting in
    if_ok_each c.commit.result
    (λ after unplaced unlogged changed n part.
    ap (λ (f : SectorMap). f n) (map_none now.placed.value.entries now.logged.value.entries (data_of (g.D.Disk.state after)) unplaced unlogged) ∙ changed n part)
    c.commit.ensures.placed c.commit.ensures.logged c.commit.ensures.changed

pub returns-clause-waits : goal.returns-clause-waits
returns-clause-waits g c = c.commit.ensures.waits

pub returns-clause-header : goal.returns-clause-header
returns-clause-header g c = c.commit.ensures.header

pub returns-clause-images : goal.returns-clause-images
returns-clause-images g c = c.commit.ensures.images

pub returns-clause-alone : goal.returns-clause-alone
returns-clause-alone g c = c.commit.ensures.alone

pub returns-clause-empty : goal.returns-clause-empty
returns-clause-empty g c = λ none. absurd (true≢false (sym (c.fits.ensures.empty none) ∙ c.if-fits.false))

pub returns-clause-cause : goal.returns-clause-cause
returns-clause-cause g c = c.commit.ensures.cause

pub returns-clause-told : goal.returns-clause-told
returns-clause-told g c = c.commit.ensures.told
