-- What waits, and the commit that stands.
use Rattle.std.proofs.Common.{◌≡◌, ◌∙◌, ◌+◌, ◌≤◌, ◌<◌, ℕ, List, [], ◌∷◌, ◌++◌, length, cond, eqb, not, ap, arith, refl, sym, subst}
use Rattle.std.proofs.lemmas.List.{length-append, map-append}
use Rattle.std.proofs.lemmas.List.Elements.{All-append, All-nil}
use Rattle.std.proofs.lemmas.List.Sums.{count_by-le-length}
use Rattle.std.specs.Prelude.{All, Contains, Option, Some, None, IfSome, IfNone}
use Rattle.fs_layout.specs.declared.commit.TheConstants.{MAX_TARGETS}
use Rattle.fs_layout.specs.declared.geometry.Geometry.{Geometry}
use Rattle.fs_layout.specs.Bytes.{SectorMap}
use Rattle.fs_layout.specs.Recovered.{recovered}
use Rattle.fs_layout.specs.Commit.{IsCommit}
use Rattle.fs_layout.specs.Header.{log_end, max_delta, max_targets}
use Rattle.sector_disk.specs.Disk.{DiskState, Image, IsSame, sector}
use Rattle.redo_journal.specs.Batch.{BatchView, Entry, IsOnDisk, added, has_entry, targets, with_batch}
use Rattle.redo_journal.proofs.Entries.{length-targets}
use Rattle.redo_journal.specs.Meaning.{HasLayout, IsMapped, IsSpare, data_of}
use Rattle.redo_journal.specs.States.{IsBeside, IsNoTarget, header_at}
use Rattle.sector_txn.specs.Clean.{IsPartOf}
use Rattle.sector_txn.specs.Last.{HasLast}
use Rattle.sector_txn.specs.Stores.{IsTxn, IsWaiting, all_waiting}

-- ---- two batches as one map
-- one batch behind another
pub over_both : (logged placed : List Entry) (f : SectorMap) (n : ℕ) → with_batch (logged ++ placed) f n ≡ with_batch logged (with_batch placed f) n
over_both [] placed f n = refl
over_both (e ∷ logged) placed f n = ap (λ (content : List ℕ). cond (eqb n e.0) e.1 content) (over_both logged placed f n)

pub map_both : (logged placed : List Entry) (f : SectorMap) → with_batch (all_waiting placed logged) f ≡ with_batch logged (with_batch placed f)
map_both logged placed f = λ i n. over_both logged placed f n i

-- what is on the disk
pub both_on_disk : (header size : ℕ) (placed logged : List Entry) → IsOnDisk header size placed → IsOnDisk header size logged → IsOnDisk header size (all_waiting placed logged)
both_on_disk header size placed logged places on_disk =
    subst (All (λ t. (log_end header ≤ t) × (t < size))) (sym (map-append (λ (e : Entry). e.0) logged placed))
    (All-append (λ t. (log_end header ≤ t) × (t < size)) (targets logged) (targets placed) on_disk places)

-- what holds of all holds of each
pub each_of : (P : ℕ → Type 0) (sectors : List ℕ) → All P sectors → (n : ℕ) → Contains sectors n → P n
each_of P sectors all n among = subst P among.2 (all among.0 n among.1)

pub beside_all : (sectors : List ℕ) (disk : DiskState) → All (IsNoTarget disk) sectors → IsBeside sectors disk
beside_all sectors disk all ts n commit among target = each_of (IsNoTarget disk) sectors all n among ts commit target

-- ---- a disk that shows the same
-- has the same in its sectors,
pub still_part : (old new : DiskState) (pairs : List (ℕ × List ℕ)) → IsSame old new → IsPartOf (header_at old.seen) (data_of old) pairs → IsPartOf (header_at new.seen) (data_of new) pairs
still_part old new pairs same part pair has mapped =
    part pair has (subst (λ (i : Image). IsMapped (header_at i) pair.0) same.narrowed.seen mapped)
    ∙ ap (λ (k : ℕ). recovered k (sector old.seen) pair.0) (sym same.narrowed.size)
    ∙ ap (λ (i : Image). recovered new.size (sector i) pair.0) (sym same.narrowed.seen)

-- what is told of by size and image is so later
shown : (P : ℕ → Image → Type 0) (old new : DiskState) → IsSame old new → P old.size old.seen → P new.size new.seen
shown P old new same here = subst (P new.size) (sym same.narrowed.seen) (subst (λ (k : ℕ). P k old.seen) (sym same.narrowed.size) here)

-- the same commit stands,
pub still_last : (old new : DiskState) (layout : Option Geometry) (last : BatchView) → IsSame old new → HasLast old layout last → HasLast new layout last
still_last old new layout last same has = record {
  room = shown (λ size image. last.most ≡ max_targets (header_at image)) old new same has.room;
  known = shown (λ size image. IfSome layout (λ p. HasLayout (recovered size (sector image)) p × (p.sectors ≤ size)
      × ((ts : List ℕ) (n : ℕ) → IsCommit size (sector image) ts → Contains ts n → Contains (targets last.entries) n))) old new same has.known;
  alone = shown (λ size image. header_at image ≡ 0 → layout ≡ None) old new same has.alone;
}

-- and the same may wait
pub still_waiting : (old new : DiskState) (placed logged : BatchView) → IsSame old new → IsWaiting old placed logged → IsWaiting new placed logged
still_waiting old new placed logged same waits = record {
  places = shown (λ size image. IsOnDisk (header_at image) size placed.entries) old new same waits.places;
  on_disk = shown (λ size image. IsOnDisk (header_at image) size logged.entries) old new same waits.on_disk;
  spare = shown (λ size image. All (IsSpare (recovered size (sector image))) (targets placed.entries)) old new same waits.spare;
  beside = shown (λ size image. All (λ n. (ts : List ℕ) → IsCommit size (sector image) ts → Contains ts n → ⊥) (targets placed.entries)) old new same waits.beside;
  alone = shown (λ size image. header_at image ≡ 0 → placed.entries ≡ []) old new same waits.alone;
  few = shown (λ size image. length logged.entries ≤ max_targets (header_at image)) old new same waits.few;
  log = shown (λ size image. logged.most ≡ max_targets (header_at image)) old new same waits.log;
  room = shown (λ size image. max_delta (header_at image) ≤ placed.most) old new same waits.room;
}

-- where the log has one area no more waits than a commit sector names
pub few_waits : (disk : DiskState) (placed logged : BatchView) → IsWaiting disk placed logged → header_at disk.seen ≡ 0 → length (all_waiting placed.entries logged.entries) ≤ MAX_TARGETS
few_waits disk placed logged waits header =
    let few = waits.few in
    let none = ap (λ (l : List Entry). length l) (waits.alone header) in
    omega (arith, few, header, none, length-append logged.entries placed.entries)

-- ---- after a commit
none_at : (P : ℕ → Type 0) (entries : List Entry) → entries ≡ [] → All P (targets entries)
none_at P entries none = subst (λ (l : List Entry). All P (targets l)) (sym none) (All-nil P)

-- nothing waits
pub nothing_waits : (disk : DiskState) (placed logged : BatchView) → placed.entries ≡ [] → logged.entries ≡ [] → logged.most ≡ max_targets (header_at disk.seen) → max_delta (header_at disk.seen) ≤ placed.most
    → IsWaiting disk placed logged
nothing_waits disk placed logged unplaced unlogged log room = record {
  places = none_at (λ t. (log_end (header_at disk.seen) ≤ t) × (t < disk.size)) placed.entries unplaced;
  on_disk = none_at (λ t. (log_end (header_at disk.seen) ≤ t) × (t < disk.size)) logged.entries unlogged;
  spare = none_at (IsSpare (data_of disk)) placed.entries unplaced;
  beside = none_at (IsNoTarget disk) placed.entries unplaced;
  alone = λ header. unplaced;
  few = omega (arith, ap (λ (l : List Entry). length l) unlogged);
  log = log;
  room = room;
}

-- and nothing is over the map
pub map_none : (placed logged : List Entry) (f : SectorMap) → placed ≡ [] → logged ≡ [] → with_batch (all_waiting placed logged) f ≡ f
map_none placed logged f unplaced unlogged =
    map_both logged placed f ∙ ap (λ (l : List Entry). with_batch l (with_batch placed f)) unlogged ∙ ap (λ (l : List Entry). with_batch l f) unplaced

-- no more is added than there is
pub added_few : (logged delta : List Entry) → added logged delta ≤ length delta
added_few logged delta = omega (arith, count_by-le-length (λ n. not (has_entry logged n)) (targets delta), length-targets delta)

-- ---- what a look-up doesn't find
pub none_then : {X P Q : Type 0} (r : Option X) → (P → Q) → IfNone r P → IfNone r Q
none_then None implies none = implies none
none_then (Some x) implies none = none

-- ---- what a transaction changed is kept
-- in both batches,
pub kept_beside : (disk : DiskState) (placed logged placed_now logged_now : BatchView) (delta : List Entry) → IsWaiting disk placed logged → IsOnDisk (header_at disk.seen) disk.size delta
    → length logged.entries + added logged.entries delta ≤ logged.most
    → All (IsSpare (data_of disk)) (targets placed_now.entries) → All (IsNoTarget disk) (targets placed_now.entries) → (header_at disk.seen ≡ 0 → placed_now.entries ≡ []) → length logged_now.entries ≤ length logged.entries + added logged.entries delta
    → ((header size : ℕ) → IsOnDisk header size placed.entries → IsOnDisk header size logged.entries → IsOnDisk header size delta → IsOnDisk header size placed_now.entries × IsOnDisk header size logged_now.entries)
    → placed_now.most ≡ placed.most → logged_now.most ≡ logged.most → IsWaiting disk placed_now logged_now
kept_beside disk placed logged placed_now logged_now delta waits there room spare beside alone few on_disk places log =
    let both = on_disk (header_at disk.seen) disk.size waits.places waits.on_disk there in
    record {
      places = both.0;
      on_disk = both.1;
      spare = spare;
      beside = beside;
      alone = alone;
      few = omega (arith, few, room, waits.log);
      log = log ∙ waits.log;
      room = omega (arith, places, waits.room);
    }

-- or all of it to be logged
pub kept_logged : (disk : DiskState) (placed logged logged_now : BatchView) (delta : List Entry) → IsWaiting disk placed logged → IsOnDisk (header_at disk.seen) disk.size delta
    → length logged.entries + added logged.entries delta ≤ logged.most → length logged_now.entries ≡ length logged.entries + added logged.entries delta
    → ((header size : ℕ) → IsOnDisk header size logged.entries → IsOnDisk header size delta → IsOnDisk header size logged_now.entries) → logged_now.most ≡ logged.most → IsWaiting disk placed logged_now
kept_logged disk placed logged logged_now delta waits there room len on_disk log = record {
  places = waits.places;
  on_disk = on_disk (header_at disk.seen) disk.size waits.on_disk there;
  spare = waits.spare;
  beside = waits.beside;
  alone = waits.alone;
  few = omega (arith, len, room, waits.log);
  log = log ∙ waits.log;
  room = waits.room;
}

-- a sector of those that go to their places may be logged too
pub some_logged : (disk : DiskState) (placed logged placed_now logged_now : BatchView) → IsWaiting disk placed logged → placed_now ≡ placed → length logged_now.entries ≤ logged_now.most
    → ((header size : ℕ) → IsOnDisk header size placed.entries → IsOnDisk header size logged.entries → IsOnDisk header size logged_now.entries) → logged_now.most ≡ logged.most → IsWaiting disk placed_now logged_now
some_logged disk placed logged placed_now logged_now waits same few on_disk log =
    subst (λ (b : BatchView). IsWaiting disk b logged_now) (sym same) (record {
      places = waits.places;
      on_disk = on_disk (header_at disk.seen) disk.size waits.places waits.on_disk;
      spare = waits.spare;
      beside = waits.beside;
      alone = waits.alone;
      few = omega (arith, few, log, waits.log);
      log = log ∙ waits.log;
      room = waits.room;
    })

-- a transaction's changes, on a disk that shows the same
still_txn : (old new : DiskState) (delta : List Entry) → IsSame old new → IsTxn old delta → IsTxn new delta
still_txn old new delta same txn = record {
  few = shown (λ size image. length delta ≤ max_delta (header_at image)) old new same txn.few;
  on_disk = shown (λ size image. IsOnDisk (header_at image) size delta) old new same txn.on_disk;
}

pub still_room : (old new : DiskState) (most : ℕ) → IsSame old new → most ≡ max_delta (header_at old.seen) → most ≡ max_delta (header_at new.seen)
still_room old new most same is = shown (λ size image. most ≡ max_delta (header_at image)) old new same is

-- and so all that a transaction has
pub still_all : {old new : DiskState} {delta : List Entry} {placed logged : BatchView} {most : ℕ} → IsSame old new
    → IsTxn old delta × IsWaiting old placed logged × (most ≡ max_delta (header_at old.seen)) → IsTxn new delta × IsWaiting new placed logged × (most ≡ max_delta (header_at new.seen))
still_all {old} {new} {delta} {placed} {logged} {most} same was = (still_txn old new delta same was.0, still_waiting old new placed logged same was.1, still_room old new most same was.2)
