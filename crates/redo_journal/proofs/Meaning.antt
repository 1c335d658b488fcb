-- What images mean, a lemma for each step of a commit.
use Rattle.std.proofs.Common.{◌≡◌, inl, inr, ⊎_elim, ℕ, suc, ◌+◌, ◌*◌, ◌/◌, ◌%◌, ◌^◌, ◌≤◌, ◌<◌, cond, List, [], ◌∷◌, length, eqb, get_or, get_or-set_same, set, arith, refl, sym, ◌∙◌, ap, subst}
use Rattle.std.proofs.lemmas.Bool.{cases_eq, cases_lt, cond-false, ne_eqb}
use Rattle.std.proofs.lemmas.List.{ext_get_or, get_or_past}
use Rattle.std.proofs.lemmas.List.Elements.{All-head, All-tail}
use Rattle.std.specs.Prelude.{All, Contains}
use Rattle.fs_layout.specs.Bytes.{SectorMap, u32_of}
use Rattle.fs_layout.specs.Header.{header_of, log_end, max_targets, area_start, next_area, other_area}
use Rattle.fs_layout.specs.Commit.{AreTargets, IsArea, IsCommit, IsValidCommit, named_area, named_start, commit_bytes, commit_bytes_in}
use Rattle.fs_layout.specs.Recovered.{replayed, recovered}
use Rattle.fs_layout.proofs.RecoveryLaw.{contains_at, idle_commit, low_no_target, target_or_none, recovered-commit, recovered-idle, recovered-installed, recovered-same, recovered-super}
use Rattle.sector_disk.specs.Disk.{DiskState, Image, sector, AddsOnly, Elapses, IsImage, IsImageOr, IsNarrowed, IsStable, LeavesOnly, IsWrite, OnlyReads}
use Rattle.sector_disk.proofs.Moments.{adds_narrowed, goes_on, holds_now, image_or, joined, narrowed, one_call, stays, stays_or, stable_image, weaker}
use Rattle.redo_journal.specs.Batch.{Entry, IsBatch, IsOnDisk, targets, content_at, with_batch}
use Rattle.redo_journal.specs.Meaning.{IsMapped, SameMap, data_of, HasValidCommit, ReadsAs, IsEither, LeavesSameMap, MeansAs, MeansAsBefore}
use Rattle.redo_journal.specs.States.{log_at, next_at, HasHeader, HasNext, IsAtRest, IsIdle, IsInPlace, IsReady, IsLogged, IsSealed, IsInstalled, HoldsHeader, HoldsLog, HoldsTargets, HasReplayed, InLog, InTargets}
use Rattle.fs_layout.proofs.CommitLaw.{number_of_word}
use Rattle.fs_layout.proofs.Targets.{area_room, header_most, no_targets, same_start, word_of}
use Rattle.redo_journal.proofs.Areas.{area_spelled, next_alone, next_idle, next_small, next_other, areas_apart}
use Rattle.redo_journal.proofs.Writing.{written_other}
use Rattle.redo_journal.proofs.Entries.{length-targets, target_is}

-- ---- which sectors a map has
-- so many header sectors
abbrev pub header_on : DiskState → ℕ
header_on disk = header_of (sector disk.seen 0)

-- a sector of a map is one of each map with the same sector 0
pub mapped_by : (f h : SectorMap) (n : ℕ) → f 0 ≡ h 0 → IsMapped (header_of (f 0)) n → IsMapped (header_of (h 0)) n
mapped_by f h n same part = subst (λ s. IsMapped (header_of s) n) same part

pub data_super : (disk : DiskState) → data_of disk 0 ≡ sector disk.seen 0
data_super disk = recovered-super disk.size (sector disk.seen)

-- what is written lies elsewhere
pub data_is_not : (disk : DiskState) (n at : ℕ) → IsMapped (header_of (data_of disk 0)) n → 1 ≤ at → at < log_end (header_on disk) → n ≡ at → ⊥
data_is_not disk n at part low high is =
    ⊎_elim (λ (e : n ≡ 0). omega (arith, e, is, low)) (λ (le : log_end (header_on disk) ≤ n). omega (arith, le, is, high))
    (mapped_by (data_of disk) (sector disk.seen) n (data_super disk) part)

-- ---- at rest
pub valid_with : (size : ℕ) (image : SectorMap) (ts : List ℕ) → IsCommit size image ts → IsValidCommit size image
valid_with size image ts is = record { targets = ts; is = is }

pub rest_valid : (ts : List ℕ) (disk : DiskState) → IsAtRest ts disk → IsValidCommit disk.size (sector disk.seen)
rest_valid ts disk rest = valid_with disk.size (sector disk.seen) ts rest.commit

-- what a stop leaves of a disk at rest reads as the disk does
pub rest_reads : (ts : List ℕ) (disk : DiskState) → IsAtRest ts disk → (image : Image) → IsImage disk image → ReadsAs disk.size (data_of disk) image
rest_reads ts disk rest image is =
    let same : image ≡ disk.seen = stable_image rest.stable rest.whole is in
    record {
      whole = is.size;
      commit = subst (λ (l : Image). IsValidCommit disk.size (sector l)) (sym same) (rest_valid ts disk rest);
      reads = λ n part. ap (λ (l : Image). recovered disk.size (sector l) n) same;
    }

-- a commit is that of each image with the same superblock, commit sector, and numbers in the header
pub commit_stays : (size : ℕ) (old new : SectorMap) (ts : List ℕ) → new 0 ≡ old 0 → new 1 ≡ old 1 → ((k : ℕ) → 126 + k < length ts → new (named_start old + k / 128) ≡ old (named_start old + k / 128))
    → IsCommit size old ts → IsCommit size new ts
commit_stays size old new ts super commit header is =
    let start : named_start new ≡ named_start old = same_start old new (ap header_of super) commit in
    record {
      bytes = commit ∙ is.bytes ∙ (λ j. commit_bytes_in (u32_of (sym commit j) 4 / 0x8000_0000) ts);
      area = subst (λ s. IsArea (header_of s) (named_area new) ts) (sym super) (subst (λ s. IsArea (header_of (old 0)) (u32_of s 4 / 0x8000_0000) ts) (sym commit) is.area);
      more = λ k lt. ap (λ (at : ℕ). u32_of (new (at + k / 128)) (4 * (k % 128))) start ∙ ap (λ s. u32_of s (4 * (k % 128))) (header k lt) ∙ is.more k lt;
      valid = subst (λ s. AreTargets (header_of s) size ts) (sym super) is.valid;
    }

-- the commit stays where all is the same before the bitmaps
pub commit_stays_low : (size : ℕ) (old new : SectorMap) (ts : List ℕ) → ((n : ℕ) → n < log_end (header_of (old 0)) → new n ≡ old n) → IsCommit size old ts → IsCommit size new ts
commit_stays_low size old new ts low is =
    let room = area_room (header_of (old 0)) (named_area old) in
    commit_stays size old new ts (low 0 (omega arith)) (low 1 (omega arith)) (λ k lt. let few = is.valid.few in low (named_start old + k / 128) (omega (arith, lt, few, room.1))) is

-- a call after which reads give the same, and a stop may leave nothing else, leaves a disk at rest
pub rest_stays : (ts : List ℕ) (old new : DiskState) → IsNarrowed old new → IsAtRest ts old → IsAtRest ts new
rest_stays ts old new changes rest = record {
  room = omega (arith, rest.room, changes.size);
  small = omega (arith, rest.small, changes.size);
  whole = ap length changes.seen ∙ rest.whole ∙ sym changes.size;
  stable = λ n content below may.
      rest.stable n content (omega (arith, below, changes.size)) (changes.nothing_else n content may) ∙ ap (λ (l : Image). sector l n) (sym changes.seen);
  commit = subst (λ k. IsCommit k (sector new.seen) ts) (sym changes.size) (subst (λ (l : Image). IsCommit old.size (sector l) ts) (sym changes.seen) rest.commit);
}

-- and so many header sectors
pub has_stays : (old new : DiskState) (header : ℕ) → IsNarrowed old new → HasHeader header old → HasHeader header new
has_stays old new header changes has = record { is = has.is ∙ ap (λ (l : Image). header_of (sector l 0)) (sym changes.seen); most = has.most }

-- ---- between two commits
-- what is not written is what reads give, but for the commit's targets
pub kept : {R : ℕ → List ℕ → Type 0} (ts : List ℕ) (disk : DiskState) → IsInPlace ts disk → (image : Image) → IsImageOr R disk image
    → (n : ℕ) → ((c : List ℕ) → R n c → ⊥) → (Contains ts n → ⊥) → sector image n ≡ sector disk.seen n
kept {R} ts disk place image is n none other = elim (cases_lt n disk.size) [
  | inl below ↦
      ⊎_elim (λ was. ⊎_elim (λ same. same) (λ target. absurd (other target)) (place.stable n (sector image n) below was)) (λ new. absurd (none (sector image n) new)) (is.each n below)
  | inr past ↦ get_or_past image n [] (omega (arith, past, is.size)) ∙ sym (get_or_past disk.seen n [] (omega (arith, past, place.whole)))
]

-- a disk reads as what reads give
pub place_data : (ts : List ℕ) (disk : DiskState) → IsInPlace ts disk → (n : ℕ) → data_of disk n ≡ sector disk.seen n
place_data ts disk place n = recovered-installed disk.size (sector disk.seen) ts n place.small place.commit place.in_place

pub ready_data : (disk : DiskState) → IsReady disk → (n : ℕ) → data_of disk n ≡ sector disk.seen n
ready_data disk ready n = place_data ready.sectors disk ready.is n

-- what is written beside superblock, commit sector, the log in use and the map leaves all images reading as before
pub place_keeps : {R : ℕ → List ℕ → Type 0} (ts : List ℕ) (disk : DiskState) → IsInPlace ts disk
    → ((n : ℕ) (c : List ℕ) → R n c → (2 ≤ n) × (n < log_end (header_on disk))
    × (0 < length ts → named_start (sector disk.seen) ≤ n → n < named_start (sector disk.seen) + 126 + 129 * header_on disk → ⊥))
    → (image : Image) → IsImageOr R disk image → ReadsAs disk.size (data_of disk) image
place_keeps {R} ts disk place apart image is =
    let header = header_on disk in
    let start = named_start (sector disk.seen) in
    let valid = place.commit.valid in
    let few = valid.few in
    let room = area_room header (named_area (sector disk.seen)) in
    let low : (n : ℕ) → n < log_end header → ((c : List ℕ) → R n c → ⊥) → sector image n ≡ sector disk.seen n =
    λ n below none. kept ts disk place image is n none (λ target. low_no_target header disk.size ts n valid below target) in
    let super : sector image 0 ≡ sector disk.seen 0 = low 0 (omega arith) (λ c r. let a = (apart 0 c r).0 in omega (arith, a)) in
    let one : sector image 1 ≡ sector disk.seen 1 = low 1 (omega arith) (λ c r. let a = (apart 1 c r).0 in omega (arith, a)) in
    let used : (k : ℕ) → 0 < length ts → k < 126 + 129 * header → sector image (start + k) ≡ sector disk.seen (start + k) =
    λ k some lt. low (start + k) (omega (arith, lt, room.1)) (λ c r. (apart (start + k) c r).2 some (omega arith) (omega (arith, lt))) in
    let commit = commit_stays disk.size (sector disk.seen) (sector image) ts super one (λ k lt. used (k / 128) (omega (arith, lt)) (omega (arith, lt, few))) place.commit in
    record {
      whole = is.size;
      commit = valid_with disk.size (sector image) ts commit;
      reads = λ n part.
          recovered-same disk.size (sector disk.seen) (sector image) ts n place.small place.commit commit super one
          (λ k lt. ap (sector image) (omega arith) ∙ used (header + k) (omega (arith, lt)) (omega (arith, lt, few)) ∙ ap (sector disk.seen) (omega arith))
          (λ none. kept ts disk place image is n (λ c r. let a = apart n c r in data_is_not disk n n part (omega (arith, a.0)) a.1 refl) none);
    }

abbrev Nothing : ℕ → List ℕ → Type 0
Nothing n content = ⊥

-- so at rest
pub ready_reads : (disk : DiskState) → IsReady disk → (image : Image) → IsImage disk image → ReadsAs disk.size (data_of disk) image
ready_reads disk ready image is =
    place_keeps {R = Nothing} ready.sectors disk ready.is (λ n c none. absurd none) image (record { size = is.size; each = λ n below. inl (is.each n below) })

-- the log in use isn't the next one
pub next_apart : (disk : DiskState) (ready : IsReady disk) → (n : ℕ) → 0 < length ready.sectors → named_start (sector disk.seen) ≤ n → n < named_start (sector disk.seen) + 126 + 129 * header_on disk
    → (content : List ℕ) → InLog (header_on disk) (next_at disk.seen) n content → ⊥
next_apart disk ready n some low high content log =
    let commit = ready.is.commit in
    let header = header_on disk in
    let few = commit.valid.few in
    let word = word_of disk.size (sector disk.seen) ready.sectors commit in
    elim (cases_lt 0 header) [
      | inl there ↦
          areas_apart header (named_area (sector disk.seen)) (length ready.sectors) (u32_of (sector disk.seen 1) 4) n word.0 some (omega (arith, few, header_most (sector disk.seen 0))) commit.area.one there low high log.0 log.1
      | inr none ↦ let empty = ready.alone (omega (arith, none)) in omega (arith, empty, some)
    ]

-- a call after which reads give the same, and a stop may leave nothing else
pub ready_stays : (old new : DiskState) → IsNarrowed old new → IsReady old → IsReady new
ready_stays old new changes ready =
    let is = ready.is in
    let seen : new.seen ≡ old.seen = changes.seen in
    record {
      sectors = ready.sectors;
      is = record {
        room = omega (arith, is.room, changes.size);
        small = omega (arith, is.small, changes.size);
        whole = ap length seen ∙ is.whole ∙ sym changes.size;
        stable = λ n content below may.
            ⊎_elim (λ same. inl (same ∙ ap (λ (l : Image). sector l n) (sym seen))) (λ target. inr target)
            (is.stable n content (omega (arith, below, changes.size)) (changes.nothing_else n content may));
        commit = subst (λ k. IsCommit k (sector new.seen) ready.sectors) (sym changes.size) (subst (λ (l : Image). IsCommit old.size (sector l) ready.sectors) (sym seen) is.commit);
        in_place = subst (λ (l : Image). HasReplayed (log_at l) ready.sectors (sector l) l) (sym seen) is.in_place;
      };
      alone = λ none. ready.alone (ap (λ (l : Image). header_of (sector l 0)) (sym seen) ∙ none);
    }

pub next_stays : (old new : DiskState) (area : ℕ) → IsNarrowed old new → HasNext area old → HasNext area new
next_stays old new area changes next = next ∙ ap next_at (sym changes.seen)

-- where the commit sector is idle
pub idle_ready : (disk : DiskState) → IsIdle disk → IsReady disk
idle_ready disk idle = record {
  sectors = [];
  is = record {
    room = idle.room;
    small = idle.small;
    whole = idle.whole;
    stable = λ n content below may. inl (idle.stable n content below may);
    commit = idle.commit;
    in_place = λ k lt. absurd (omega (arith, lt));
  };
  alone = λ none. refl;
}

pub ready_idle : (disk : DiskState) → IsReady disk → header_on disk ≡ 0 → IsIdle disk
ready_idle disk ready alone = of ready.sectors ready.is (ready.alone alone)
  where
    of : (ts : List ℕ) → IsInPlace ts disk → length ts ≡ 0 → IsIdle disk
    of [] is none = record {
      room = is.room;
      small = is.small;
      whole = is.whole;
      stable = λ n content below may. ⊎_elim (λ same. same) (λ target. absurd (omega (arith, target.1))) (is.stable n content below may);
      commit = is.commit;
    }
    of (t ∷ ts) is none = absurd (omega (arith, none))

pub idle_next : (disk : DiskState) → IsIdle disk → HasNext 0 disk
idle_next disk idle =
    let word : u32_of (sector disk.seen 1) 4 ≡ 0 = (word_of disk.size (sector disk.seen) [] idle.commit).0 ∙ omega (arith, idle.commit.area.some) in
    sym (next_idle (header_on disk) (u32_of (sector disk.seen 1) 4) word)

-- with all stable
pub ready_installed : (ts : List ℕ) (disk : DiskState) → IsInPlace ts disk → IsStable disk → IsInstalled ts disk
ready_installed ts disk place stable = record {
  at_rest = record { room = place.room; small = place.small; whole = place.whole; stable = stable; commit = place.commit };
  in_place = place.in_place;
}

pub settled_from : (old new : DiskState) → IsReady old → IsNarrowed old new → IsStable new → (sectors : List ℕ) × IsInstalled sectors new
settled_from old new ready changes stable = let after = ready_stays old new changes ready in (after.sectors, ready_installed after.sectors new after.is stable)

-- ---- while the log is written
pub log_keeps : (disk : DiskState) → IsReady disk → (image : Image) → IsImageOr (InLog (header_on disk) (next_at disk.seen)) disk image → ReadsAs disk.size (data_of disk) image
log_keeps disk ready image is =
    let room = area_room (header_on disk) (next_at disk.seen) in
    place_keeps {R = InLog (header_on disk) (next_at disk.seen)} ready.sectors disk ready.is (λ n c log. (omega (arith, log.0, room.0), omega (arith, log.1, room.1), λ some low high. next_apart disk ready n some low high c log)) image is

-- two steps that write there
pub adds_joined : {R : ℕ → List ℕ → Type 0} {old mid new : DiskState} → AddsOnly R old mid → AddsOnly R mid new → AddsOnly R old new
adds_joined first second = record {
  size = second.size ∙ first.size;
  nothing_else = λ n content holds. ⊎_elim (λ was. first.nothing_else n content was) (λ new. inr new) (second.nothing_else n content holds);
}

pub or_joined : {R : ℕ → List ℕ → Type 0} {old mid : DiskState} → AddsOnly R old mid → (image : Image) → IsImageOr R mid image → IsImageOr R old image
or_joined first image is = record {
  size = is.size ∙ first.size;
  each = λ n below. ⊎_elim (λ was. first.nothing_else n (sector image n) was) (λ new. inr new) (is.each n (omega (arith, below, first.size)));
}

-- with header and log written and all stable, the batch is logged
pub others_low : (header area : ℕ) (old new : Image) → ((n : ℕ) → (area_start header area ≤ n → n < area_start header area + 126 + 129 * header → ⊥) → sector new n ≡ sector old n)
    → (n : ℕ) → n < 2 → sector new n ≡ sector old n
others_low header area old new others n low = let room = area_room header area in others n (λ le lt. omega (arith, le, low, room.0))

pub next_same : (old new : Image) → sector new 0 ≡ sector old 0 → sector new 1 ≡ sector old 1 → next_at new ≡ next_at old
next_same old new super one = λ j. next_area (header_of (super j)) (u32_of (one j) 4)

pub logged_from : (entries : List Entry) (header area : ℕ) (old new : DiskState) → IsReady old → HasHeader header old → HasNext area old → length entries ≤ max_targets header → IsBatch entries
    → IsOnDisk header old.size entries → new.size ≡ old.size → length new.seen ≡ new.size
    → ((n : ℕ) → (area_start header area ≤ n → n < area_start header area + 126 + 129 * header → ⊥) → sector new.seen n ≡ sector old.seen n)
    → HoldsHeader (area_start header area) entries new.seen → HoldsLog (area_start header area + header) entries new.seen → IsStable new → IsLogged entries new
logged_from entries header area old new ready has next few batch on_disk size whole others in_header in_log stable =
    let place = ready.is in
    let ts = ready.sectors in
    let valid = place.commit.valid in
    let short = valid.few in
    let super : sector new.seen 0 ≡ sector old.seen 0 = others_low header area old.seen new.seen others 0 (omega arith) in
    let one : sector new.seen 1 ≡ sector old.seen 1 = others_low header area old.seen new.seen others 1 (omega arith) in
    let is : header ≡ header_on new = has.is ∙ ap header_of (sym super) in
    let to : area ≡ next_at new.seen = next ∙ sym (next_same old.seen new.seen super one) in
    let old_start = named_start (sector old.seen) in
    let start : named_start (sector new.seen) ≡ old_start = same_start (sector old.seen) (sector new.seen) (ap header_of super) one in
    let used : (k : ℕ) → 0 < length ts → k < 126 + 129 * header_on old → sector new.seen (old_start + k) ≡ sector old.seen (old_start + k) =
    λ k some lt. others (old_start + k) (λ le high.
    next_apart old ready (old_start + k) some (omega arith) (omega (arith, lt)) []
    (subst (λ (h : ℕ). InLog h (next_at old.seen) (old_start + k) []) has.is (subst (λ (a : ℕ). InLog header a (old_start + k) []) next (le, high)))) in
    let high : (n : ℕ) → log_end header ≤ n → sector new.seen n ≡ sector old.seen n = λ n le. let room = area_room header area in others n (λ _ lt. omega (arith, le, lt, room.1)) in
    record {
      valid = subst (λ h. AreTargets h new.size (targets entries)) is (record {
        few = omega (arith, few, length-targets entries);
        in_range = λ k d lt. let t = on_disk k d lt in (t.0, omega (arith, t.1, size));
        apart = batch.apart;
      });
      ready = record {
        sectors = ts;
        is = record {
          room = omega (arith, place.room, size);
          small = omega (arith, place.small, size);
          whole = whole;
          stable = λ n content below may. inl (stable n content below may);
          commit = subst (λ k. IsCommit k (sector new.seen) ts) (sym size)
              (commit_stays old.size (sector old.seen) (sector new.seen) ts super one (λ k lt. used (k / 128) (omega (arith, lt)) (omega (arith, lt, short))) place.commit);
          in_place = λ k lt.
              let range = valid.in_range k 0 lt in
              high (get_or ts k 0) (subst (λ h. log_end h ≤ get_or ts k 0) (sym has.is) range.0)
              ∙ place.in_place k lt
              ∙ ap (sector old.seen) (omega arith) ∙ sym (used (header_on old + k) (omega (arith, lt)) (omega (arith, lt, short)))
              ∙ (λ j. sector new.seen (sym start j + (header_of (sym super j) + k))) ∙ ap (sector new.seen) (omega arith);
        };
        alone = λ none. ready.alone (sym has.is ∙ is ∙ none);
      };
      stable = λ _. stable;
      header = λ k lt. (λ j. u32_of (sector new.seen (area_start (sym is j) (sym to j) + k / 128)) (4 * (k % 128))) ∙ in_header k lt;
      log = λ k lt. (λ j. sector new.seen (area_start (sym is j) (sym to j) + sym is j + k)) ∙ in_log k lt;
    }

-- an empty batch is
pub nothing_valid : (entries : List Entry) (header size : ℕ) → length entries ≡ 0 → AreTargets header size (targets entries)
nothing_valid [] header size none = no_targets header size
nothing_valid (e ∷ entries) header size none = absurd (omega (arith, none))

-- a batch that isn't empty
pub filled : (entries : List Entry) → (entries ≡ [] → ⊥) → 0 < length entries
filled [] some = absurd (some refl)
filled (e ∷ entries) some = omega arith

pub nothing_logged : (entries : List Entry) (disk : DiskState) → IsReady disk → length entries ≡ 0 → AreTargets (header_on disk) disk.size (targets entries) → IsLogged entries disk
nothing_logged entries disk ready none valid = record {
  valid = valid;
  ready = ready;
  stable = λ some. absurd (omega (arith, some, none));
  header = λ k lt. absurd (omega (arith, lt, none));
  log = λ k lt. absurd (omega (arith, lt, none));
}

-- what lies before the log, after a step that leaves the same map
pub header_same : (old new : DiskState) (header : ℕ) → SameMap (data_of new) (data_of old) → HasHeader header old → HasHeader header new
header_same old new header same has = record {
  is = has.is ∙ ap header_of (sym (data_super old) ∙ sym (same 0 (inl refl)) ∙ data_super new);
  most = has.most;
}

-- and after one that leaves the map with a batch
pub header_sealed : (entries : List Entry) (old new : DiskState) (header : ℕ) → with_batch entries (data_of old) 0 ≡ data_of old 0 → SameMap (data_of new) (with_batch entries (data_of old))
    → HasHeader header old → HasHeader header new
header_sealed entries old new header super same has = record {
  is = has.is ∙ ap header_of (sym (data_super old) ∙ sym super ∙ sym (same 0 (inl refl)) ∙ data_super new);
  most = has.most;
}

-- ---- while the commit is written
-- a sealed image reads as the batch over what it has
replayed_batch : (image : SectorMap) (at : ℕ) (entries : List Entry) → ((k : ℕ) → k < length entries → image (at + k) ≡ content_at entries k) → (n : ℕ) → replayed image at (targets entries) n ≡ with_batch entries image n
replayed_batch image at [] log n = refl
replayed_batch image at (e ∷ entries) log n =
    let here : image at ≡ e.1 = ap image (omega arith) ∙ log 0 (omega arith) in
    let rest : replayed image (at + 1) (targets entries) n ≡ with_batch entries image n =
    replayed_batch image (at + 1) entries (λ k lt. ap image (omega arith) ∙ log (suc k) (omega (arith, lt))) n in
    λ i. cond (eqb n e.0) (here i) (rest i)

-- a batch over two maps that agree at a sector
pub with_batch_same : (entries : List Entry) (f h : SectorMap) (n : ℕ) → f n ≡ h n → with_batch entries f n ≡ with_batch entries h n
with_batch_same [] f h n same = same
with_batch_same (e ∷ entries) f h n same = let rest = with_batch_same entries f h n same in λ i. cond (eqb n e.0) e.1 (rest i)

-- no entry is for sector 0
super_apart : (entries : List Entry) (f : SectorMap) → All (λ t. 1 ≤ t) (targets entries) → with_batch entries f 0 ≡ f 0
super_apart [] f high = refl
super_apart (e ∷ entries) f high =
    let first : 1 ≤ e.0 = All-head (λ t. 1 ≤ t) e.0 (targets entries) high in
    cond-false (eqb 0 e.0) e.1 (with_batch entries f 0) (ne_eqb 0 e.0 (λ is. omega (arith, first, is)))
    ∙ super_apart entries f (All-tail (λ t. 1 ≤ t) e.0 (targets entries) high)

pub super_on_disk : (entries : List Entry) (header size : ℕ) (f : SectorMap) → IsOnDisk header size entries → with_batch entries f 0 ≡ f 0
super_on_disk entries header size f on_disk = super_apart entries f (λ k d lt. let t = (on_disk k d lt).0 in omega (arith, t))

pub batch_super : (entries : List Entry) (header size : ℕ) (f : SectorMap) → AreTargets header size (targets entries) → with_batch entries f 0 ≡ f 0
batch_super entries header size f valid = super_on_disk entries header size f valid.in_range

-- with the commit sector as it was
not_sealed : (entries : List Entry) (content : List ℕ) (disk : DiskState) → 0 < length entries → IsLogged entries disk → (image : Image) → IsImageOr (IsWrite 1 content) disk image → sector image 1 ≡ sector disk.seen 1 → ReadsAs disk.size (data_of disk) image
not_sealed entries content disk some logged image is old =
    let place = logged.ready.is in
    let same : image ≡ disk.seen = ext_get_or [] image disk.seen (is.size ∙ sym place.whole) (λ n below. elim (cases_eq n 1) [
      | inl here ↦ ap (sector image) here ∙ old ∙ ap (sector disk.seen) (sym here)
      | inr there ↦ stays (logged.stable some) place.whole is n (λ c write. there write.0)
    ]) in
    record {
      whole = is.size;
      commit = subst (λ (l : Image). IsValidCommit disk.size (sector l)) (sym same) (valid_with disk.size (sector disk.seen) logged.ready.sectors place.commit);
      reads = λ n part. ap (λ (l : Image). recovered disk.size (sector l) n) same;
    }

-- with the new one: the batch's commit, in the next area
sealed_commit : (entries : List Entry) (disk : DiskState) → 0 < length entries → IsLogged entries disk → (image : Image) → sector image 1 ≡ commit_bytes_in (next_at disk.seen) (targets entries)
    → ((n : ℕ) → (n ≡ 1 → ⊥) → sector image n ≡ sector disk.seen n)
    → (IsCommit disk.size (sector image) (targets entries)) × (named_start (sector image) ≡ area_start (header_on disk) (next_at disk.seen))
sealed_commit entries disk some logged image written stay =
    let header = header_on disk in
    let next = next_at disk.seen in
    let ts = targets entries in
    let few = logged.valid.few in
    let small = next_small header (u32_of (sector disk.seen 1) 4) in
    let room = area_room header next in
    let super : sector image 0 ≡ sector disk.seen 0 = stay 0 (λ e. omega (arith, e)) in
    let short : length ts < 0x8000_0000 = omega (arith, few, header_most (sector disk.seen 0)) in
    let area : named_area (sector image) ≡ next = area_spelled (sector image 1) ts next written short small.0 in
    let start : named_start (sector image) ≡ area_start header next = (λ j. area_start (header_of (super j)) (area j)) in (
      record {
        bytes = written ∙ ap (λ (a : ℕ). commit_bytes_in a ts) (sym area);
        area = subst (λ s. IsArea (header_of s) (named_area (sector image)) ts) (sym super)
            (subst (λ (a : ℕ). IsArea header a ts) (sym area) (record { one = small.0; there = small.1; some = omega (arith, small.0, some, length-targets entries) }));
        more = λ k lt.
            let fits : 126 + k < length entries = omega (arith, lt, length-targets entries) in
            ap (λ (at : ℕ). u32_of (sector image (at + k / 128)) (4 * (k % 128))) start
            ∙ ap (λ s. u32_of s (4 * (k % 128))) (stay (area_start header next + k / 128) (λ e. omega (arith, e, room.0))) ∙ logged.header k fits ∙ sym (target_is entries (126 + k) fits);
        valid = subst (λ s. AreTargets (header_of s) disk.size ts) (sym super) logged.valid;
      },
      start,
    )

-- and its log
sealed_log : (entries : List Entry) (disk : DiskState) → IsLogged entries disk → (image : Image) → named_start (sector image) ≡ area_start (header_on disk) (next_at disk.seen)
    → ((n : ℕ) → (n ≡ 1 → ⊥) → sector image n ≡ sector disk.seen n) → HoldsLog (log_at image) entries image
sealed_log entries disk logged image start stay k lt =
    let header = header_on disk in
    let from = area_start header (next_at disk.seen) in
    let room = area_room header (next_at disk.seen) in
    let super : sector image 0 ≡ sector disk.seen 0 = stay 0 (λ e. omega (arith, e)) in
    (λ j. sector image (start j + header_of (super j) + k)) ∙ stay (from + header + k) (λ e. omega (arith, e, room.0)) ∙ logged.log k lt

pub sealed_reads : (entries : List Entry) (content : List ℕ) (disk : DiskState) → 0 < length entries → IsLogged entries disk → (image : Image) → IsImageOr (IsWrite 1 content) disk image
    → sector image 1 ≡ commit_bytes_in (next_at disk.seen) (targets entries) → ReadsAs disk.size (with_batch entries (data_of disk)) image
sealed_reads entries content disk some logged image is written =
    let place = logged.ready.is in
    let header = header_on disk in
    let stay : (n : ℕ) → (n ≡ 1 → ⊥) → sector image n ≡ sector disk.seen n = λ n other. stays (logged.stable some) place.whole is n (λ c write. other write.0) in
    let commit = sealed_commit entries disk some logged image written stay in
    let log = sealed_log entries disk logged image commit.1 stay in
    record {
      whole = is.size;
      commit = valid_with disk.size (sector image) (targets entries) commit.0;
      reads = λ n part.
          let here : IsMapped (header_of (data_of disk 0)) n = mapped_by (with_batch entries (data_of disk)) (data_of disk) n (batch_super entries header disk.size (data_of disk) logged.valid) part in
          recovered-commit disk.size (sector image) (targets entries) n place.small commit.0
          ∙ replayed_batch (sector image) (log_at image) entries log n
          ∙ with_batch_same entries (sector image) (data_of disk) n (stay n (data_is_not disk n 1 here (omega arith) (omega arith)) ∙ sym (ready_data disk logged.ready n));
    }

-- the commit is there, and all is stable
pub sealed_from : (entries : List Entry) (content : List ℕ) (area : ℕ) (old new : DiskState) → 0 < length entries → IsLogged entries old → HasNext area old → content ≡ commit_bytes_in area (targets entries)
    → AddsOnly (IsWrite 1 content) old new → length new.seen ≡ new.size → new.seen ≡ set old.seen 1 content → IsStable new → IsSealed entries new
sealed_from entries content area old new some logged next spelled adds whole put stable =
    let place = logged.ready.is in
    let stay : (n : ℕ) → (n ≡ 1 → ⊥) → sector new.seen n ≡ sector old.seen n = λ n other. written_other old.seen new.seen 1 n content put other in
    let written : sector new.seen 1 ≡ commit_bytes_in (next_at old.seen) (targets entries) =
    ap (λ (l : Image). sector l 1) put ∙ get_or-set_same old.seen 1 content [] (omega (arith, place.whole, place.room)) ∙ spelled ∙ ap (λ (a : ℕ). commit_bytes_in a (targets entries)) next in
    let commit = sealed_commit entries old some logged new.seen written stay in
    record {
      none = λ none. absurd (omega (arith, none, some));
      at_rest = λ _. record {
        room = omega (arith, place.room, adds.size);
        small = omega (arith, place.small, adds.size);
        whole = whole;
        stable = stable;
        commit = subst (λ k. IsCommit k (sector new.seen) (targets entries)) (sym adds.size) commit.0;
      };
      log = sealed_log entries old logged new.seen commit.1 stay;
    }

-- and the next area is the other one
pub sealed_next : (entries : List Entry) (content : List ℕ) (header area : ℕ) (old new : DiskState) → 0 < length entries → IsLogged entries old → HasHeader header old → HasNext area old
    → content ≡ commit_bytes_in area (targets entries) → new.seen ≡ set old.seen 1 content → HasNext (other_area header area) new
sealed_next entries content header area old new some logged has next spelled put =
    let place = logged.ready.is in
    let few = logged.valid.few in
    let small = next_small (header_on old) (u32_of (sector old.seen 1) 4) in
    let one : area ≤ 1 = omega (arith, next, small.0) in
    let short : length (targets entries) < 0x8000_0000 = omega (arith, few, header_most (sector old.seen 0)) in
    let super : sector new.seen 0 ≡ sector old.seen 0 = written_other old.seen new.seen 1 0 content put (λ e. omega (arith, e)) in
    let written : sector new.seen 1 ≡ commit_bytes_in area (targets entries) =
    ap (λ (l : Image). sector l 1) put ∙ get_or-set_same old.seen 1 content [] (omega (arith, place.whole, place.room)) ∙ spelled in
    let word : u32_of (sector new.seen 1) 4 ≡ length (targets entries) + 0x8000_0000 * area = ap (λ s. u32_of s 4) written ∙ number_of_word area (targets entries) (omega (arith, short, one)) in
    next_other header area (length (targets entries)) (u32_of (sector new.seen 1) 4) word (omega (arith, some, length-targets entries)) short one
    ∙ ap (λ (h : ℕ). next_area h (u32_of (sector new.seen 1) 4)) (has.is ∙ ap header_of (sym super))

-- an empty batch changes nothing
with_nothing : (entries : List Entry) (f : SectorMap) (n : ℕ) → length entries ≡ 0 → with_batch entries f n ≡ f n
with_nothing [] f n none = refl
with_nothing (e ∷ entries) f n none = absurd (omega (arith, none))

pub nothing_sealed : (entries : List Entry) (disk : DiskState) → IsLogged entries disk → length entries ≡ 0 → (image : Image) → IsImage disk image → ReadsAs disk.size (with_batch entries (data_of disk)) image
nothing_sealed entries disk logged none image is =
    let reads = ready_reads disk logged.ready image is in
    let map = with_batch entries (data_of disk) in
    record {
      whole = reads.whole;
      commit = reads.commit;
      reads = λ n part. reads.reads n (mapped_by map (data_of disk) n (with_nothing entries (data_of disk) 0 none) part) ∙ sym (with_nothing entries (data_of disk) n none);
    }

pub nothing_is_sealed : (entries : List Entry) (disk : DiskState) → IsLogged entries disk → length entries ≡ 0 → IsSealed entries disk
nothing_is_sealed entries disk logged none = record { none = λ _. logged.ready; at_rest = λ some. absurd (omega (arith, some, none)); log = λ k lt. absurd (omega (arith, lt, none)) }

pub seal_either : (entries : List Entry) (content : List ℕ) (area : ℕ) (disk : DiskState) → 0 < length entries → HasNext area disk → content ≡ commit_bytes_in area (targets entries) → IsLogged entries disk → (image : Image) → IsImageOr (IsWrite 1 content) disk image
    → IsEither disk.size (data_of disk) (with_batch entries (data_of disk)) image
seal_either entries content area disk some next same logged image is =
    ⊎_elim (λ (old : sector image 1 ≡ sector disk.seen 1). inl (not_sealed entries content disk some logged image is old))
    (λ (new : IsWrite 1 content 1 (sector image 1)). inr (sealed_reads entries content disk some logged image is (new.1 ∙ same ∙ ap (λ (a : ℕ). commit_bytes_in a (targets entries)) next)))
    (stays_or (logged.stable some) is 1 (omega (arith, logged.ready.is.room)))

-- ---- while the targets are written
low_stays : (ts : List ℕ) (disk : DiskState) → IsAtRest ts disk → (image : Image) → IsImageOr (InTargets ts) disk image → (n : ℕ) → n < log_end (header_on disk) → sector image n ≡ sector disk.seen n
low_stays ts disk rest image is n low = stays rest.stable rest.whole is n (λ content target. low_no_target (header_on disk) disk.size ts n rest.commit.valid low target)

pub targets_keep : (ts : List ℕ) (disk : DiskState) → IsAtRest ts disk → (image : Image) → IsImageOr (InTargets ts) disk image → ReadsAs disk.size (data_of disk) image
targets_keep ts disk rest image is =
    let low = low_stays ts disk rest image is in
    let few = rest.commit.valid.few in
    let commit = commit_stays_low disk.size (sector disk.seen) (sector image) ts low rest.commit in
    record {
      whole = is.size;
      commit = valid_with disk.size (sector image) ts commit;
      reads = λ n part.
          recovered-same disk.size (sector disk.seen) (sector image) ts n rest.small rest.commit commit (low 0 (omega arith)) (low 1 (omega arith))
          (λ k lt. let room = area_room (header_on disk) (named_area (sector disk.seen)) in low (log_at disk.seen + k) (omega (arith, lt, few, room.1)))
          (λ none. stays rest.stable rest.whole is n (λ content target. none target));
    }

-- while they are written, and then a sync is tried
pub targets_synced : (ts : List ℕ) (old mid new : DiskState) → IsAtRest ts old → AddsOnly (InTargets ts) old mid → LeavesOnly old mid (IsImageOr (InTargets ts) old) → IsNarrowed mid new → Elapses mid new
    → LeavesSameMap old new
targets_synced ts old mid new rest adds run changes time =
    goes_on {old = old} {mid = mid} {new = new} (weaker (targets_keep ts old rest) run) time (λ image is. targets_keep ts old rest image (image_or (adds_narrowed adds changes) image is))

-- with the targets written they have the contents of the log that is named then
written_stays : (ts : List ℕ) (old new : DiskState) → IsAtRest ts old → IsImageOr (InTargets ts) old new.seen → HasReplayed (log_at old.seen) ts (sector old.seen) new.seen
    → HasReplayed (log_at new.seen) ts (sector new.seen) new.seen
written_stays ts old new rest is in_place k lt =
    let low = low_stays ts old rest new.seen is in
    let few = rest.commit.valid.few in
    let header : header_on new ≡ header_on old = ap header_of (low 0 (omega arith)) in
    let start : named_start (sector new.seen) ≡ named_start (sector old.seen) = same_start (sector old.seen) (sector new.seen) header (low 1 (omega arith)) in
    let room = area_room (header_on old) (named_area (sector old.seen)) in
    in_place k lt ∙ sym (low (log_at old.seen + k) (omega (arith, lt, few, room.1))) ∙ (λ j. sector new.seen (sym start j + sym header j + k))

-- with the targets written and all stable, the commit is installed
pub installed_from : (ts : List ℕ) (old new : DiskState) → IsAtRest ts old → IsImageOr (InTargets ts) old new.seen → new.size ≡ old.size → HasReplayed (log_at old.seen) ts (sector old.seen) new.seen
    → IsStable new → IsInstalled ts new
installed_from ts old new rest is size in_place stable =
    let low = low_stays ts old rest new.seen is in
    record {
      at_rest = record {
        room = omega (arith, rest.room, size);
        small = omega (arith, rest.small, size);
        whole = is.size ∙ sym size;
        stable = stable;
        commit = subst (λ n. IsCommit n (sector new.seen) ts) (sym size) (commit_stays_low old.size (sector old.seen) (sector new.seen) ts low rest.commit);
      };
      in_place = written_stays ts old new rest is in_place;
    }

-- with the targets written, though not stable
pub placed_from : (ts : List ℕ) (old new : DiskState) → IsAtRest ts old → 0 < header_on old → AddsOnly (InTargets ts) old new → IsImage new new.seen → HasReplayed (log_at old.seen) ts (sector old.seen) new.seen → IsReady new
placed_from ts old new rest there adds shown in_place =
    let is = image_or adds new.seen shown in
    let low = low_stays ts old rest new.seen is in
    let header : header_on new ≡ header_on old = ap header_of (low 0 (omega arith)) in
    record {
      sectors = ts;
      is = record {
        room = omega (arith, rest.room, adds.size);
        small = omega (arith, rest.small, adds.size);
        whole = shown.size;
        stable = λ n content below may. elim (target_or_none ts n) [
          | inl found ↦ inr (contains_at ts found.0 n found.1.0 found.1.1)
          | inr none ↦
              ⊎_elim (λ was. inl (rest.stable n content (omega (arith, below, adds.size)) was ∙ sym (stays rest.stable rest.whole is n (λ c target. none target)))) (λ target. inr target) (adds.nothing_else n content may)
        ];
        commit = subst (λ n. IsCommit n (sector new.seen) ts) (sym adds.size) (commit_stays_low old.size (sector old.seen) (sector new.seen) ts low rest.commit);
        in_place = written_stays ts old new rest is in_place;
      };
      alone = λ none. absurd (omega (arith, none, header, there));
    }

pub placed_next : (ts : List ℕ) (old new : DiskState) → IsAtRest ts old → AddsOnly (InTargets ts) old new → IsImage new new.seen → next_at new.seen ≡ next_at old.seen
placed_next ts old new rest adds shown = let low = low_stays ts old rest new.seen (image_or adds new.seen shown) in next_same old.seen new.seen (low 0 (omega arith)) (low 1 (omega arith))

-- a batch that is in its place and in the log
pub batch_replayed : (from : ℕ) (entries : List Entry) (old new : Image) → HoldsLog from entries old → HoldsTargets entries new → HasReplayed from (targets entries) (sector old) new
batch_replayed from entries old new log in_place k lt =
    let fits : k < length entries = omega (arith, lt, length-targets entries) in
    ap (sector new) (target_is entries k fits) ∙ in_place k fits ∙ sym (log k fits)

-- ---- while the commit is taken away
pub clear_keeps : (ts : List ℕ) (content : List ℕ) (disk : DiskState) → content ≡ commit_bytes [] → IsInstalled ts disk → (image : Image) → IsImageOr (IsWrite 1 content) disk image → ReadsAs disk.size (data_of disk) image
clear_keeps ts content disk same installed image is =
    let rest = installed.at_rest in
    let stay : (n : ℕ) → (n ≡ 1 → ⊥) → sector image n ≡ sector disk.seen n = λ n other. stays rest.stable rest.whole is n (λ c write. other write.0) in
    let apart : (n : ℕ) → IsMapped (header_of (data_of disk 0)) n → n ≡ 1 → ⊥ = λ n part. data_is_not disk n 1 part (omega arith) (omega arith) in
    let super : sector image 0 ≡ sector disk.seen 0 = stay 0 (λ e. omega (arith, e)) in
    let room = area_room (header_on disk) (named_area (sector disk.seen)) in
    ⊎_elim
    (λ (old : sector image 1 ≡ sector disk.seen 1).
    let commit = commit_stays disk.size (sector disk.seen) (sector image) ts super old (λ k lt. stay (named_start (sector disk.seen) + k / 128) (λ e. omega (arith, e, room.0))) rest.commit in
    record {
      whole = is.size;
      commit = valid_with disk.size (sector image) ts commit;
      reads = λ n part.
          recovered-same disk.size (sector disk.seen) (sector image) ts n rest.small rest.commit commit super old
          (λ k lt. stay (log_at disk.seen + k) (λ e. omega (arith, e, room.0))) (λ none. stay n (apart n part));
    })
    (λ (new : IsWrite 1 content 1 (sector image 1)). record {
      whole = is.size;
      commit = valid_with disk.size (sector image) [] (idle_commit disk.size (sector image) (new.1 ∙ same));
      reads = λ n part.
          recovered-idle disk.size (sector image) n rest.small (new.1 ∙ same)
          ∙ stay n (apart n part)
          ∙ sym (recovered-installed disk.size (sector disk.seen) ts n rest.small rest.commit installed.in_place);
    })
    (stays_or rest.stable is 1 (omega (arith, rest.room)))

-- after it
pub cleared_from : (ts : List ℕ) (content : List ℕ) (old new : DiskState) → IsInstalled ts old → content ≡ commit_bytes [] → AddsOnly (IsWrite 1 content) old new → length new.seen ≡ new.size
    → new.seen ≡ set old.seen 1 content → IsStable new → IsIdle new
cleared_from ts content old new installed same adds whole put stable =
    let rest = installed.at_rest in
    record {
      room = omega (arith, rest.room, adds.size);
      small = omega (arith, rest.small, adds.size);
      whole = whole;
      stable = stable;
      commit = idle_commit new.size (sector new.seen) (ap (λ (l : Image). sector l 1) put ∙ get_or-set_same old.seen 1 content [] (omega (arith, rest.whole, rest.room)) ∙ same);
    }

-- one log area is always the next one
pub alone_next : (old new : DiskState) (header : ℕ) → header ≡ 0 → HasHeader header old → HasHeader header new → next_at new.seen ≡ next_at old.seen
alone_next old new header zero was is =
    let none : header_on old ≡ 0 = sym was.is ∙ zero in
    let same : header_on new ≡ header_on old = sym is.is ∙ was.is in
    next_alone (header_on new) (u32_of (sector new.seen 1) 4) (same ∙ none) ∙ sym (next_alone (header_on old) (u32_of (sector old.seen 1) 4) none)

-- ---- what means the same
-- what reads as a later disk reads as the earlier one
pub reads_on : (old new : DiskState) → new.size ≡ old.size → ReadsAs old.size (data_of old) new.seen → (image : Image) → ReadsAs new.size (data_of new) image → ReadsAs old.size (data_of old) image
reads_on old new size here image reads =
    let same : (n : ℕ) → data_of new n ≡ recovered old.size (sector new.seen) n = λ n. ap (λ k. recovered k (sector new.seen) n) size in
    record {
      whole = reads.whole ∙ size;
      commit = subst (λ k. IsValidCommit k (sector image)) size reads.commit;
      reads = λ n part.
          let there : IsMapped (header_of (data_of new 0)) n = mapped_by (data_of old) (data_of new) n (sym (same 0 ∙ here.reads 0 (inl refl))) part in
          ap (λ k. recovered k (sector image) n) (sym size) ∙ reads.reads n there ∙ same n ∙ here.reads n part;
    }

pub reads_means : (disk : DiskState) (image : Image) → IsValidCommit disk.size (sector disk.seen) → ReadsAs disk.size (data_of disk) image → MeansAs disk.size disk.seen image
reads_means disk image valid reads = record { whole = reads.whole; commit = (λ _. reads.commit, λ _. valid); reads = reads.reads }

pub same_means : (size : ℕ) (from image : Image) → length from ≡ size → image ≡ from → MeansAs size from image
same_means size from image whole same = record {
  whole = ap length same ∙ whole;
  commit = (λ valid. subst (λ (l : Image). IsValidCommit size (sector l)) (sym same) valid, λ valid. subst (λ (l : Image). IsValidCommit size (sector l)) same valid);
  reads = λ n part. ap (λ (l : Image). recovered size (sector l) n) same;
}

-- what reads as a later disk that shows the same means what the earlier one shows
pub later_means : (old new : DiskState) → IsNarrowed old new → length old.seen ≡ old.size → IsValidCommit old.size (sector old.seen) → (image : Image) → ReadsAs new.size (data_of new) image → MeansAs old.size old.seen image
later_means old new same whole valid image reads =
    let seen = same.seen in
    let here : ReadsAs old.size (data_of old) new.seen = record {
      whole = ap length seen ∙ whole;
      commit = subst (λ (l : Image). IsValidCommit old.size (sector l)) (sym seen) valid;
      reads = λ n part. ap (λ (l : Image). recovered old.size (sector l) n) seen;
    } in
    reads_means old image valid (reads_on old new same.size here image reads)

-- calls that only read a stable disk
pub still_means : (old new : DiskState) → ((image : Image) → old.left_since old.moment image → IsImage old image) → IsStable old → length old.seen ≡ old.size → OnlyReads old new
    → LeavesOnly old new (MeansAs old.size old.seen)
still_means old new only_now stable whole reads = record {
  later = reads.later;
  each = λ image left. same_means old.size old.seen image whole (stable_image stable whole (only_now image (reads.since old.moment image (omega arith) left)));
  before = λ t image earlier left. inl (reads.since t image earlier left);
}

-- a sync
pub synced_means : (old new : DiskState) → ((image : Image) → old.left_since old.moment image → IsImage old image) → IsNarrowed old new → Elapses old new → LeavesOnly old new (MeansAsBefore old)
synced_means old new only_now changes time =
    one_call only_now (λ image is. (image, is, same_means old.size image image is.size refl)) time
    (λ image is. let was = narrowed changes is in (image, was, same_means old.size image image was.size refl))

-- what means the same as a later disk shows
pub means_before : (old new : DiskState) → IsNarrowed old new → IsImage new new.seen → (image : Image) → MeansAs new.size new.seen image → MeansAsBefore old image
means_before old new changes shown image means = (new.seen, narrowed changes shown, subst (λ k. MeansAs k new.seen image) changes.size means)

-- ---- one step after another
-- a call after which reads give the same leaves what the disk means
pub data_stays : (old new : DiskState) → IsNarrowed old new → (n : ℕ) → data_of new n ≡ data_of old n
data_stays old new changes n = λ i. recovered (changes.size i) (sector (changes.seen i)) n

-- what reads as a map reads as each map with the same data
pub reads_same : (n m : ℕ) (f h : SectorMap) → m ≡ n → SameMap f h → (image : Image) → ReadsAs m f image → ReadsAs n h image
reads_same n m f h size same image reads = record {
  whole = reads.whole ∙ size;
  commit = subst (λ k. IsValidCommit k (sector image)) size reads.commit;
  reads = λ l part. ap (λ k. recovered k (sector image) l) (sym size) ∙ reads.reads l (mapped_by h f l (sym (same 0 (inl refl))) part) ∙ same l part;
}

-- after a step in which each image reads as before, so does the disk
pub same_map : (old new : DiskState) → ((t : ℕ) (image : Image) → t ≤ new.moment → IsImage new image → new.left_since t image) → IsImage new new.seen
    → new.size ≡ old.size → LeavesSameMap old new → SameMap (data_of new) (data_of old)
same_map old new counts_now seen size run = λ n part. ap (λ k. recovered k (sector new.seen) n) size ∙ (holds_now run counts_now seen).reads n part

-- and as a disk is seen
pub same_since : {D : Type 0} (state : D → DiskState) {inside seen : D} (new : D) → inside ≡ seen
    → ((t : ℕ) (image : Image) → t ≤ (state new).moment → IsImage (state new) image → (state new).left_since t image) → IsImage (state new) (state new).seen
    → (state new).size ≡ (state inside).size → LeavesSameMap (state inside) (state new) → SameMap (data_of (state new)) (data_of (state seen))
same_since state {inside} new is counts_now image size run =
    subst (λ d. SameMap (data_of (state new)) (data_of (state d))) is (same_map (state inside) (state new) counts_now image size run)

-- one such step after another
pub same_joined : (old mid new : DiskState) → ((t : ℕ) (image : Image) → t ≤ mid.moment → IsImage mid image → mid.left_since t image) → IsImage mid mid.seen
    → mid.size ≡ old.size → LeavesSameMap old mid → LeavesSameMap mid new → LeavesSameMap old new
same_joined old mid new counts_now seen size first then =
    joined first (weaker (reads_same old.size mid.size (data_of mid) (data_of old) size (same_map old mid counts_now seen size first)) then)

-- reads of a stable disk with a valid commit, and such a step
pub read_then : (old read new : DiskState) → ((image : Image) → old.left_since old.moment image → IsImage old image) → IsStable old → length old.seen ≡ old.size
    → OnlyReads old read → HasValidCommit old.size old.seen → LeavesSameMap read new → LeavesOnly old new (MeansAs old.size old.seen)
read_then old read new only_now stable whole reads valid then =
    joined (still_means old read only_now stable whole reads) (weaker (later_means old read reads.narrowed whole valid) then)

-- a disk of which is read only is at rest where it was stable, and has its commit
pub rest_read : (ts : List ℕ) (old read : DiskState) → 128 ≤ old.size → old.size < 2 ^ 32 → length old.seen ≡ old.size → IsStable old → OnlyReads old read → IsCommit old.size (sector old.seen) ts → IsAtRest ts read
rest_read ts old read room small whole stable reads commit =
    rest_stays ts old read reads.narrowed (record { room = room; small = small; whole = whole; stable = stable; commit = commit })

-- a batch over two maps with the same data
pub batch_same : (entries : List Entry) (f h : SectorMap) → with_batch entries h 0 ≡ h 0 → SameMap f h → SameMap (with_batch entries f) (with_batch entries h)
batch_same entries f h super same n part = with_batch_same entries f h n (same n (mapped_by (with_batch entries h) h n super part))

-- maps with the same data as a third one
pub same_back : (f h : SectorMap) → SameMap f h → SameMap h f
same_back f h same n part = sym (same n (mapped_by f h n (same 0 (inl refl)) part))

pub same_chain : (f h k : SectorMap) → SameMap f h → SameMap h k → SameMap f k
same_chain f h k first second n part = first n (mapped_by k h n (sym (second 0 (inl refl))) part) ∙ second n part

-- before and after a batch, seen from an earlier disk with the same data
pub either_on : (entries : List Entry) (header : ℕ) (old new : DiskState) → IsOnDisk header old.size entries → new.size ≡ old.size → SameMap (data_of new) (data_of old) → (image : Image)
    → IsEither new.size (data_of new) (with_batch entries (data_of new)) image → IsEither old.size (data_of old) (with_batch entries (data_of old)) image
either_on entries header old new on_disk size same image =
    ⊎_elim (λ before. inl (reads_same old.size new.size (data_of new) (data_of old) size same image before))
    (λ after. inr (reads_same old.size new.size (with_batch entries (data_of new)) (with_batch entries (data_of old)) size
    (batch_same entries (data_of new) (data_of old) (super_on_disk entries header old.size (data_of old) on_disk) same) image after))

-- what a batch leaves: the header, and the sectors of its map
pub header_after : (entries : List Entry) (header size : ℕ) (old new : DiskState) → IsOnDisk header size entries → SameMap (data_of new) (with_batch entries (data_of old)) → header_on new ≡ header_on old
header_after entries header size old new on_disk same =
    ap header_of (sym (data_super new) ∙ same 0 (inl refl) ∙ super_on_disk entries header size (data_of old) on_disk ∙ data_super old)

pub mapped_after : (entries : List Entry) (old new : DiskState) (n : ℕ) → SameMap (data_of new) (with_batch entries (data_of old)) → IsMapped (header_on new) n
    → IsMapped (header_of (with_batch entries (data_of old) 0)) n
mapped_after entries old new n same part = mapped_by (sector new.seen) (with_batch entries (data_of old)) n (sym (data_super new) ∙ same 0 (inl refl)) part
