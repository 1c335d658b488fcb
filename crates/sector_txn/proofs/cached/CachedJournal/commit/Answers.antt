use Rattle.std.proofs.Common.{◌≡◌, ℕ, ◌∙◌, Contains, arith, ap, sym, subst, ◌<◌, List, [], length, refl}
use Rattle.std.proofs.lemmas.Option.{IfSome_then}
use Rattle.sector_disk.specs.Disk.{DiskState, IsImage, LeavesOnly}
use Rattle.fs_layout.specs.Bytes.{SectorMap}
use Rattle.fs_layout.specs.Header.{max_targets}
use Rattle.redo_journal.specs.Batch.{BatchView, Entry, targets, with_batch}
use Rattle.redo_journal.specs.Meaning.{IsEither, IsMapped, IsSpare, LeavesAllOrNone, LeavesUsedOr, SameMap, data_of}
use Rattle.redo_journal.specs.States.{StandsIn, header_at}
use Rattle.redo_journal.proofs.Meaning.{header_after, mapped_after, same_chain}
use Rattle.sector_txn.specs.Images.{LeavesOldOr, LogsAll}
use Rattle.sector_txn.specs.Stores.{IsWaiting, all_waiting}
use Rattle.sector_txn.specs.Waits.{Waits, with_waiting}
use Rattle.sector_txn.specs.declared.waiting.Waiting.{Waiting}
use Rattle.sector_txn.proofs.Commits.{beside_all, both_on_disk, each_of, few_waits, map_both, map_none, nothing_waits, over_both, some_logged}
use Rattle.sector_txn.proofs.Pairs.{with_batch_apart}
use Rattle.std.proofs.lemmas.Bool.{true≢false}
use Rattle.sector_txn.proofs.Images.{nothing_left, nothing_logs, used_left}
use Rattle.redo_journal.proofs.Causes.{cause_as, cause_at_err, cause_at_ok, cause_of_none, told_as, told_at_err, told_at_ok, told_of_none}
use Rattle.sector_txn.proofs.cached.CachedJournal.commit.Goals as goal

-- the two batches that are committed, as one over a map
committed : (placed logged : BatchView) (now : Waiting) (f : SectorMap) → placed ≡ now.placed.value → logged ≡ now.logged.value → with_batch logged.entries (with_batch placed.entries f) ≡ with_waiting now f
committed placed logged now f in_place in_log =
    (λ i. with_batch (in_log i).entries (with_batch (in_place i).entries f)) ∙ sym (map_both now.logged.value.entries now.placed.value.entries f)

pub commit_beside-requires : goal.commit_beside-requires
commit_beside-requires g c =
    let disk = g.D.Disk.state c.self.inside.journal in
    let was = c.args.waiting.now in
    let now = c.log_some.new.self in
    let waits = subst (λ d. IsWaiting (g.D.Disk.state d) was.placed.value was.logged.value) (sym c.self.view_is) c.requires.waits in
    let waited = some_logged disk was.placed.value was.logged.value now.placed.value now.logged.value waits c.log_some.ensures.placed c.log_some.ensures.few c.log_some.ensures.on_disk c.log_some.ensures.most in
    let here = subst (λ (b : BatchView). IsWaiting disk b c.deref-4.result.now) (sym c.deref-3.ensures) (subst (λ (b : BatchView). IsWaiting disk now.placed.value b) (sym c.deref-4.ensures) waited) in
    let places = targets c.deref-3.result.now.entries in
    record {
      some = subst (λ (b : BatchView). 0 < length b.entries) (sym c.deref-4.ensures) c.log_some.ensures.some;
      on_disk = here.on_disk;
      few = here.few;
      places = here.places;
      spare = each_of (IsSpare (data_of disk)) places here.spare;
      beside = beside_all places disk here.beside;
    }

pub invariant_of-result : goal.invariant_of-result
invariant_of-result g c =
    let old = g.D.Disk.state c.self.inside.journal in
    let new = g.D.Disk.state c.in-Ok.journal in
    let before = data_of old in
    let was = c.args.waiting.now in
    let now = c.log_some.new.self in
    let placed = now.placed.value.entries in
    let logged = now.logged.value.entries in
    let entries = all_waiting placed logged in
    let waits = subst (λ d. IsWaiting (g.D.Disk.state d) was.placed.value was.logged.value) (sym c.self.view_is) c.requires.waits in
    let here = some_logged old was.placed.value was.logged.value now.placed.value now.logged.value waits c.log_some.ensures.placed c.log_some.ensures.few c.log_some.ensures.on_disk c.log_some.ensures.most in
    let changed = subst (λ (f : SectorMap). SameMap (data_of new) f) (committed c.deref-3.result.now c.deref-4.result.now now before c.deref-3.ensures c.deref-4.ensures) c.in-Ok.ensures.changed in
    let header = header_after entries _ _ old new (both_on_disk _ _ placed logged here.places here.on_disk) changed in (
      λ pair has part.
          let kept = c.forget_all-2.ensures.kept pair has in
          let in_place = c.sectors.ensures.sectors ∙ ap (λ (b : BatchView). targets b.entries) c.deref.ensures in
          let in_log = c.sectors-2.ensures.sectors ∙ ap (λ (b : BatchView). targets b.entries) c.deref-2.ensures in
          let apart = over_both logged placed before pair.0
          ∙ with_batch_apart logged (with_batch placed before) pair.0 (λ there. c.forget_all-2.ensures.gone pair has (subst (λ ns. Contains ns pair.0) (sym in_log) there))
          ∙ with_batch_apart placed before pair.0 (λ there. c.forget_all.ensures.gone pair kept (subst (λ ns. Contains ns pair.0) (sym in_place) there)) in
          let mapped = subst (λ h. IsMapped h pair.0) header part in
          c.self.invariant.0 pair (c.forget_all.ensures.kept pair kept) mapped ∙ sym apart ∙ sym (changed pair.0 (mapped_after entries old new pair.0 changed part)),
      record {
        room = ap (λ (b : BatchView). b.most) c.hand_over.ensures.last ∙ c.log_some.ensures.most ∙ waits.log ∙ ap max_targets (sym header);
        known = IfSome_then c.layout-layout.result c.layout-layout.ensures.told
            (λ p both. (both.0, both.1, subst (λ (b : BatchView). StandsIn (targets b.entries) new) (c.deref-4.ensures ∙ sym c.hand_over.ensures.last) c.in-Ok.ensures.stands));
        alone = c.layout-layout.ensures.alone;
      },
    )

pub returns-in-Ok-clause-header : goal.returns-in-Ok-clause-header
returns-in-Ok-clause-header g c =
    let old = g.D.Disk.state c.self.inside.journal in
    let new = g.D.Disk.state c.in-Ok.journal in
    let was = c.args.waiting.now in
    let now = c.log_some.new.self in
    let placed = now.placed.value.entries in
    let logged = now.logged.value.entries in
    let waits = subst (λ d. IsWaiting (g.D.Disk.state d) was.placed.value was.logged.value) (sym c.self.view_is) c.requires.waits in
    let here = some_logged old was.placed.value was.logged.value now.placed.value now.logged.value waits c.log_some.ensures.placed c.log_some.ensures.few c.log_some.ensures.on_disk c.log_some.ensures.most in
    let changed = subst (λ (f : SectorMap). SameMap (data_of new) f) (committed c.deref-3.result.now c.deref-4.result.now now (data_of old) c.deref-3.ensures c.deref-4.ensures) c.in-Ok.ensures.changed in
    subst (λ d. header_at new.seen ≡ header_at (g.D.Disk.state d).seen) c.self.view_is
    (header_after (all_waiting placed logged) _ _ old new (both_on_disk _ _ placed logged here.places here.on_disk) changed)

pub returns-in-Ok-clause-waits : goal.returns-in-Ok-clause-waits
returns-in-Ok-clause-waits g c =
    let old = g.D.Disk.state c.self.inside.journal in
    let new = g.D.Disk.state c.in-Ok.journal in
    let was = c.args.waiting.now in
    let done = c.hand_over.ensures in
    let waits = subst (λ d. IsWaiting (g.D.Disk.state d) was.placed.value was.logged.value) (sym c.self.view_is) c.requires.waits in
    let header : header_at new.seen ≡ header_at old.seen = returns-in-Ok-clause-header g c ∙ ap (λ d. header_at (g.D.Disk.state d).seen) (sym c.self.view_is) in
    nothing_waits new c.hand_over.new.self.placed.value c.hand_over.new.self.logged.value done.placed done.logged (done.most.1 ∙ c.self.invariant.1.room ∙ ap max_targets (sym header))
    (omega (arith, waits.room, header, done.most.0, ap (λ (b : BatchView). b.most) c.log_some.ensures.placed))

-- what the commit leaves, said of what waited
module _ (old new : DiskState) (was now : Waiting) (placed logged : BatchView) (same : (f : SectorMap) (n : ℕ) → with_waiting now f n ≡ with_waiting was f n)
    (in_place : placed ≡ now.placed.value) (in_log : logged ≡ now.logged.value) where
  left_map : with_batch logged.entries (with_batch placed.entries (data_of old)) ≡ with_waiting was (data_of old)
  left_map = committed placed logged now (data_of old) in_place in_log ∙ (λ i n. same (data_of old) n i)

  left : IsImage old old.seen → new.size ≡ old.size → LeavesUsedOr (with_batch logged.entries (with_batch placed.entries (data_of old))) old new → LeavesOldOr (with_waiting was (data_of old)) old new
  left seen size images = subst (λ (f : SectorMap). LeavesOldOr f old new) left_map (used_left _ old new seen size images)

  -- where nothing goes to its place alone
  left_alone : Waits old was → now.placed.value ≡ was.placed.value → (length placed.entries ≡ 0 → LeavesAllOrNone logged.entries old new) → header_at old.seen ≡ 0
      → LogsAll (all_waiting was.placed.value.entries was.logged.value.entries) old new
  left_alone waits kept images header =
      let none : placed.entries ≡ [] = (λ i. (in_place i).entries) ∙ (λ i. (kept i).entries) ∙ waits.alone header in
      let map : with_batch logged.entries (data_of old) ≡ with_waiting was (data_of old) = (λ i. with_batch logged.entries (with_batch (sym none i) (data_of old))) ∙ left_map in
      record {
        few = few_waits old was.placed.value was.logged.value waits header;
        any_moment = subst (λ (f : SectorMap). LeavesOnly old new (IsEither old.size (data_of old) f)) map (images (ap (λ (l : List Entry). length l) none));
      }

pub returns-in-Ok-clause-images : goal.returns-in-Ok-clause-images
returns-in-Ok-clause-images g c =
    let old = g.D.Disk.state c.self.inside.journal in
    let new = g.D.Disk.state c.in-Ok.journal in
    subst (λ d. LeavesOldOr (with_waiting c.args.waiting.now (data_of (g.D.Disk.state d))) (g.D.Disk.state d) new) c.self.view_is
    (left old new c.args.waiting.now c.log_some.new.self c.deref-3.result.now c.deref-4.result.now c.log_some.ensures.map c.deref-3.ensures c.deref-4.ensures
    (g.met.D.Disk.seen_is_image c.self.inside.journal) c.in-Ok.ensures.size c.in-Ok.ensures.images)

pub returns-in-Err-clause-images : goal.returns-in-Err-clause-images
returns-in-Err-clause-images g c =
    let old = g.D.Disk.state c.self.inside.journal in
    let new = g.D.Disk.state c.in-Err.broken in
    subst (λ d. LeavesOldOr (with_waiting c.args.waiting.now (data_of (g.D.Disk.state d))) (g.D.Disk.state d) new) c.self.view_is
    (left old new c.args.waiting.now c.log_some.new.self c.deref-3.result.now c.deref-4.result.now c.log_some.ensures.map c.deref-3.ensures c.deref-4.ensures
    (g.met.D.Disk.seen_is_image c.self.inside.journal) c.in-Err.ensures.size c.in-Err.ensures.images)

pub returns-in-Ok-clause-alone : goal.returns-in-Ok-clause-alone
returns-in-Ok-clause-alone g c =
    let was = c.args.waiting.now in
    let new = g.D.Disk.state c.in-Ok.journal in
    let waits = subst (λ d. IsWaiting (g.D.Disk.state d) was.placed.value was.logged.value) (sym c.self.view_is) c.requires.waits in
    subst (λ d. header_at (g.D.Disk.state d).seen ≡ 0 → LogsAll (all_waiting was.placed.value.entries was.logged.value.entries) (g.D.Disk.state d) new) c.self.view_is
    (left_alone (g.D.Disk.state c.self.inside.journal) new was c.log_some.new.self c.deref-3.result.now c.deref-4.result.now c.log_some.ensures.map c.deref-3.ensures c.deref-4.ensures
    waits c.log_some.ensures.placed c.in-Ok.ensures.none_placed)

pub returns-in-Err-clause-alone : goal.returns-in-Err-clause-alone
returns-in-Err-clause-alone g c =
    let was = c.args.waiting.now in
    let new = g.D.Disk.state c.in-Err.broken in
    let waits = subst (λ d. IsWaiting (g.D.Disk.state d) was.placed.value was.logged.value) (sym c.self.view_is) c.requires.waits in
    subst (λ d. header_at (g.D.Disk.state d).seen ≡ 0 → LogsAll (all_waiting was.placed.value.entries was.logged.value.entries) (g.D.Disk.state d) new) c.self.view_is
    (left_alone (g.D.Disk.state c.self.inside.journal) new was c.log_some.new.self c.deref-3.result.now c.deref-4.result.now c.log_some.ensures.map c.deref-3.ensures c.deref-4.ensures
    waits c.log_some.ensures.placed c.in-Err.ensures.none_placed)

pub log_some-requires-clause-some : goal.log_some-requires-clause-some
log_some-requires-clause-some g c = λ none. true≢false (sym (c.if-is_empty.ensures.1 none))

-- with nothing to commit
pub returns-then-is_empty-clause-changed : goal.returns-then-is_empty-clause-changed
returns-then-is_empty-clause-changed g c = λ n part.
    let none = c.if-is_empty.ensures.0 refl in
    sym (ap (λ (f : SectorMap). f n) (map_none c.args.waiting.now.placed.value.entries c.args.waiting.now.logged.value.entries (data_of (g.D.Disk.state c.args.self)) none.0 none.1))

pub returns-then-is_empty-clause-waits : goal.returns-then-is_empty-clause-waits
returns-then-is_empty-clause-waits g c = c.requires.waits

pub returns-then-is_empty-clause-placed : goal.returns-then-is_empty-clause-placed
returns-then-is_empty-clause-placed g c = (c.if-is_empty.ensures.0 refl).0

pub returns-then-is_empty-clause-logged : goal.returns-then-is_empty-clause-logged
returns-then-is_empty-clause-logged g c = (c.if-is_empty.ensures.0 refl).1

pub returns-then-is_empty-clause-header : goal.returns-then-is_empty-clause-header
returns-then-is_empty-clause-header g c = refl

pub returns-then-is_empty-clause-images : goal.returns-then-is_empty-clause-images
returns-then-is_empty-clause-images g c = nothing_left (g.met.D.Disk.only_now c.args.self)

pub returns-then-is_empty-clause-alone : goal.returns-then-is_empty-clause-alone
returns-then-is_empty-clause-alone g c = nothing_logs c.requires.waits (g.met.D.Disk.only_now c.args.self) c.tell_ready.ensures

pub returns-then-is_empty-clause-cause : goal.returns-then-is_empty-clause-cause
returns-then-is_empty-clause-cause g c = cause_of_none

pub returns-then-is_empty-clause-told : goal.returns-then-is_empty-clause-told
returns-then-is_empty-clause-told g c = told_of_none

-- with what waits committed
pub returns-in-Ok-clause-changed : goal.returns-in-Ok-clause-changed
returns-in-Ok-clause-changed g c =
    let before = data_of (g.D.Disk.state c.self.inside.journal) in
    let new = data_of (g.D.Disk.state c.in-Ok.journal) in
    let now = c.log_some.new.self in
    let changed = subst (λ (f : SectorMap). SameMap new f) (committed c.deref-3.result.now c.deref-4.result.now now before c.deref-3.ensures c.deref-4.ensures) c.in-Ok.ensures.changed in
    subst (λ d. SameMap new (with_waiting c.args.waiting.now (data_of (g.D.Disk.state d)))) c.self.view_is
    (same_chain new (with_waiting now before) (with_waiting c.args.waiting.now before) changed (λ n part. c.log_some.ensures.map before n))

pub returns-in-Ok-clause-placed : goal.returns-in-Ok-clause-placed
returns-in-Ok-clause-placed g c = c.hand_over.ensures.placed

pub returns-in-Ok-clause-logged : goal.returns-in-Ok-clause-logged
returns-in-Ok-clause-logged g c = c.hand_over.ensures.logged

pub returns-in-Ok-clause-cause : goal.returns-in-Ok-clause-cause
returns-in-Ok-clause-cause g c = cause_as g.D.Disk.state c.self.view_is (cause_at_ok c.in-Ok.ensures.cause)

pub returns-in-Ok-clause-told : goal.returns-in-Ok-clause-told
returns-in-Ok-clause-told g c = told_as g.D.Disk.state c.self.view_is (told_at_ok c.in-Ok.ensures.told)

pub returns-in-Err-clause-cause : goal.returns-in-Err-clause-cause
returns-in-Err-clause-cause g c = cause_as g.D.Disk.state c.self.view_is (cause_at_err c.in-Err.ensures.cause)

pub returns-in-Err-clause-told : goal.returns-in-Err-clause-told
returns-in-Err-clause-told g c = told_as g.D.Disk.state c.self.view_is (told_at_err c.in-Err.ensures.told)
