-- Sectors that are written to their places while a batch is logged.
use Rattle.std.proofs.Common.{◌≡◌, ◌⊎◌, inl, inr, ⊎_elim, ℕ, suc, ◌+◌, ◌*◌, ◌/◌, ◌≤◌, ◌<◌, List, [], ◌∷◌, length, eqb, get_or, arith, refl, sym, ◌∙◌, ap, subst}
use Rattle.std.proofs.lemmas.Bool.{cases_eq, cond-true, cond-false, eq-eqb, ne_eqb}
use Rattle.std.proofs.lemmas.Map.Made.{Contains-tail}
use Rattle.std.specs.Prelude.{All, Contains}
use Rattle.fs_layout.specs.Bytes.{SectorMap}
use Rattle.fs_layout.specs.Header.{header_of, log_end, max_targets, area_start}
use Rattle.fs_layout.specs.Commit.{named_area, named_start}
use Rattle.fs_layout.proofs.RecoveryLaw.{contains_at, low_no_target, recovered-same}
use Rattle.fs_layout.proofs.Targets.{area_room, same_start}
use Rattle.sector_disk.specs.Disk.{DiskState, Image, sector, AddsOnly, IsImageOr, IsStable}
use Rattle.redo_journal.specs.Batch.{Entry, IsBatch, IsOnDisk, targets, target_at, content_at, with_batch}
use Rattle.redo_journal.specs.Meaning.{IsMapped, SameMap, data_of, ReadsBut}
use Rattle.redo_journal.specs.States.{log_at, next_at, HasHeader, HasNext, IsBeside, IsInPlace, IsReady, IsLogged, HoldsHeader, HoldsLog, HoldsTargets, InLogOr}
use Rattle.redo_journal.proofs.Entries.{length-targets}
use Rattle.redo_journal.proofs.Meaning.{commit_stays, commit_stays_low, data_is_not, data_super, header_on, kept, logged_from, next_apart, next_same, others_low, ready_data, valid_with}

-- ---- what a stop leaves meanwhile
-- what is written beside superblock, commit sector and the log in use leaves each image reading as before, but for what is written of the map
place_keeps_but : {R : ℕ → List ℕ → Type 0} (F : ℕ → Type 0) (ts : List ℕ) (disk : DiskState) → IsInPlace ts disk → ((n : ℕ) → F n → log_end (header_on disk) ≤ n)
    → ((n : ℕ) (c : List ℕ) → R n c → F n ⊎ ((2 ≤ n) × (n < log_end (header_on disk))
    × (0 < length ts → named_start (sector disk.seen) ≤ n → n < named_start (sector disk.seen) + 126 + 129 * header_on disk → ⊥)))
    → (image : Image) → IsImageOr R disk image → ReadsBut F disk.size (data_of disk) image
place_keeps_but {R} F ts disk place high apart image is =
    let header = header_on disk in
    let valid = place.commit.valid in
    let few = valid.few in
    let start = named_start (sector disk.seen) in
    let room = area_room header (named_area (sector disk.seen)) in
    let low : (n : ℕ) → n < log_end header → ((c : List ℕ) → R n c → ⊥) → sector image n ≡ sector disk.seen n =
    λ n below none. kept ts disk place image is n none (λ target. low_no_target header disk.size ts n valid below target) in
    let super : sector image 0 ≡ sector disk.seen 0 =
    low 0 (omega arith) (λ c r. elim (apart 0 c r) [ inl f ↦ let le = high 0 f in omega (arith, le) | inr a ↦ let two = a.0 in omega (arith, two) ]) in
    let one : sector image 1 ≡ sector disk.seen 1 =
    low 1 (omega arith) (λ c r. elim (apart 1 c r) [ inl f ↦ let le = high 1 f in omega (arith, le) | inr a ↦ let two = a.0 in omega (arith, two) ]) in
    let used : (k : ℕ) → 0 < length ts → k < 126 + 129 * header → sector image (start + k) ≡ sector disk.seen (start + k) =
    λ k some lt. low (start + k) (omega (arith, lt, room.1)) (λ c r. elim (apart (start + k) c r) [
      | inl f ↦ let le = high (start + k) f in omega (arith, le, lt, room.1)
      | inr a ↦ a.2 some (omega arith) (omega (arith, lt))
    ]) in
    let commit = commit_stays disk.size (sector disk.seen) (sector image) ts super one (λ k lt. used (k / 128) (omega (arith, lt)) (omega (arith, lt, few))) place.commit in
    record {
      whole = is.size;
      commit = valid_with disk.size (sector image) ts commit;
      reads = λ n part other.
          recovered-same disk.size (sector disk.seen) (sector image) ts n place.small place.commit commit super one
          (λ k lt. ap (sector image) (omega arith) ∙ used (header + k) (omega (arith, lt)) (omega (arith, lt, few)) ∙ ap (sector disk.seen) (omega arith))
          (λ none. kept ts disk place image is n (λ c r. elim (apart n c r) [
            | inl f ↦ other f
            | inr a ↦ data_is_not disk n n part (let two = a.0 in omega (arith, two)) a.1 refl
          ]) none);
    }

-- sectors that lie behind the log of a disk
abbrev AreBehind : ℕ → ℕ → List ℕ → Type 0
AreBehind header size sectors = All (λ t. (log_end header ≤ t) × (t < size)) sectors

behind_high : (header size : ℕ) (sectors : List ℕ) → AreBehind header size sectors → (n : ℕ) → Contains sectors n → log_end header ≤ n
behind_high header size sectors valid n among = subst (λ (t : ℕ). log_end header ≤ t) among.2 (valid among.0 n among.1).0

none_low : (header size : ℕ) (sectors : List ℕ) (n : ℕ) → AreBehind header size sectors → n < log_end header → Contains sectors n → ⊥
none_low header size sectors n valid low among = let high = behind_high header size sectors valid n among in omega (arith, high, low)

-- so while a batch is logged and these sectors are written
pub beside_keeps : (sectors : List ℕ) (header area : ℕ) (disk : DiskState) → IsReady disk → HasHeader header disk → HasNext area disk → AreBehind (header_on disk) disk.size sectors
    → (image : Image) → IsImageOr (InLogOr header area sectors) disk image → ReadsBut (Contains sectors) disk.size (data_of disk) image
beside_keeps sectors header area disk ready has next valid image is =
    let room = area_room (header_on disk) (next_at disk.seen) in
    place_keeps_but {R = InLogOr (header_on disk) (next_at disk.seen) sectors} (Contains sectors) ready.sectors disk ready.is (behind_high (header_on disk) disk.size sectors valid)
    (λ n c. ⊎_elim (λ log. inr (omega (arith, log.0, room.0), omega (arith, log.1, room.1), λ some low high. next_apart disk ready n some low high c log)) (λ among. inl among))
    image (subst (λ (a : ℕ). IsImageOr (InLogOr (header_on disk) a sectors) disk image) next (subst (λ (h : ℕ). IsImageOr (InLogOr h area sectors) disk image) has.is is))

-- writes of one of both kinds are writes of either
pub adds_more : {R S : ℕ → List ℕ → Type 0} {old new : DiskState} → ((n : ℕ) (c : List ℕ) → R n c → S n c) → AddsOnly R old new → AddsOnly S old new
adds_more implies adds = record { size = adds.size; nothing_else = λ n c holds. ⊎_elim (λ was. inl was) (λ new. inr (implies n c new)) (adds.nothing_else n c holds) }

pub image_more : {R S : ℕ → List ℕ → Type 0} {disk : DiskState} {image : Image} → ((n : ℕ) (c : List ℕ) → R n c → S n c) → IsImageOr R disk image → IsImageOr S disk image
image_more {R} {S} {disk} {image} implies is = record { size = is.size; each = λ n below. ⊎_elim (λ was. inl was) (λ new. inr (implies n (sector image n) new)) (is.each n below) }

-- where the disk has the sectors of a batch, it has the log
pub log_fits : (entries : List Entry) (header size : ℕ) → 0 < length entries → IsOnDisk header size entries → log_end header ≤ size
log_fits entries header size some on_disk = let t = on_disk 0 0 (omega (arith, some, length-targets entries)) in omega (arith, t.0, t.1)

-- ---- with all written and stable
-- a disk as it would be with these contents, all of them stable
abbrev pub as_written : DiskState → Image → DiskState
as_written disk image = record disk { seen = image; may_hold = λ n content. content ≡ sector image n }

-- where sectors behind the log are written that are no targets of the commit that stands, that commit stays in place
module _ (sectors : List ℕ) (disk : DiskState) (ready : IsReady disk) (valid : AreBehind (header_on disk) disk.size sectors) (beside : IsBeside sectors disk) (image : Image)
    (whole : length image ≡ disk.size) (others : (n : ℕ) → (Contains sectors n → ⊥) → sector image n ≡ sector disk.seen n) where
  pub low_same : (n : ℕ) → n < log_end (header_on disk) → sector image n ≡ sector disk.seen n
  low_same n low = others n (λ among. none_low (header_on disk) disk.size sectors n valid low among)

  pub super_same : sector image 0 ≡ sector disk.seen 0
  super_same = low_same 0 (omega arith)

  pub next_is_same : next_at image ≡ next_at disk.seen
  next_is_same = next_same disk.seen image super_same (low_same 1 (omega arith))

  log_same : log_at image ≡ log_at disk.seen
  log_same = let start = same_start (sector disk.seen) (sector image) (ap header_of super_same) (low_same 1 (omega arith)) in (λ j. start j + header_of (super_same j))

  pub ready_written : IsReady (as_written disk image)
  ready_written =
      let place = ready.is in
      let ts = ready.sectors in
      let few = place.commit.valid.few in
      let room = area_room (header_on disk) (named_area (sector disk.seen)) in
      record {
        sectors = ts;
        is = record {
          room = place.room;
          small = place.small;
          whole = whole;
          stable = λ n content below may. inl may;
          commit = commit_stays_low disk.size (sector disk.seen) (sector image) ts low_same place.commit;
          in_place = λ k lt.
              others (get_or ts k 0) (λ among. beside ts (get_or ts k 0) place.commit among (contains_at ts k (get_or ts k 0) lt refl)) ∙ place.in_place k lt
              ∙ sym (low_same (log_at disk.seen + k) (omega (arith, lt, few, room.1))) ∙ ap (λ (at : ℕ). sector image (at + k)) (sym log_same);
        };
        alone = λ none. ready.alone (ap header_of (sym super_same) ∙ none);
      }

-- a map with the batch's contents in its sectors
written_batch : (entries : List Entry) (f h : SectorMap) → ((k : ℕ) → k < length entries → h (target_at entries k) ≡ content_at entries k) → (n : ℕ)
    → ((Contains (targets entries) n → ⊥) → h n ≡ f n) → h n ≡ with_batch entries f n
written_batch [] f h placed n other = other (λ c. omega (arith, c.1))
written_batch (e ∷ entries) f h placed n other = elim (cases_eq n e.0) [
  | inl here ↦ ap h here ∙ placed 0 (omega arith) ∙ sym (cond-true (eqb n e.0) e.1 (with_batch entries f n) (eq-eqb n e.0 here))
  | inr there ↦
      written_batch entries f h (λ k lt. placed (suc k) (omega (arith, lt))) n
      (λ none. other (λ among. none (Contains-tail e.0 (targets entries) n (λ same. there (sym same)) among)))
      ∙ sym (cond-false (eqb n e.0) e.1 (with_batch entries f n) (ne_eqb n e.0 there))
]

-- one batch is written to its sectors, the other logged, and all is stable
module _ (placed entries : List Entry) (header area : ℕ) (old wrote new : DiskState) (ready : IsReady old) (has : HasHeader header old) (next : HasNext area old)
    (valid : IsOnDisk (header_on old) old.size placed) (beside : IsBeside (targets placed) old) (whole : length wrote.seen ≡ old.size)
    (written : HoldsTargets placed wrote.seen) (others : (n : ℕ) → (Contains (targets placed) n → ⊥) → sector wrote.seen n ≡ sector old.seen n) where
  has_written : HasHeader header (as_written old wrote.seen)
  has_written = record { is = has.is ∙ ap header_of (sym (super_same (targets placed) old ready valid beside wrote.seen whole others)); most = has.most }

  next_written : HasNext area (as_written old wrote.seen)
  next_written = next ∙ sym (next_is_same (targets placed) old ready valid beside wrote.seen whole others)

  module _ (log : (n : ℕ) → (area_start header area ≤ n → n < area_start header area + 126 + 129 * header → ⊥) → sector new.seen n ≡ sector wrote.seen n) where
    pub logged_beside : length entries ≤ max_targets header → IsBatch entries → IsOnDisk header old.size entries → new.size ≡ old.size → length new.seen ≡ new.size
        → HoldsHeader (area_start header area) entries new.seen → HoldsLog (area_start header area + header) entries new.seen → IsStable new → IsLogged entries new
    logged_beside few batch on_disk size full =
        logged_from entries header area (as_written old wrote.seen) new (ready_written (targets placed) old ready valid beside wrote.seen whole others) has_written next_written few batch on_disk size full log

    -- it reads as with the first batch
    pub placed_beside : IsLogged entries new → SameMap (data_of new) (with_batch placed (data_of old))
    placed_beside is_logged n part =
        let room = area_room header area in
        let super : with_batch placed (data_of old) 0 ≡ sector old.seen 0 =
        sym (written_batch placed (data_of old) (sector wrote.seen) written 0 (λ none. others 0 none ∙ sym (data_super old))) ∙ super_same (targets placed) old ready valid beside wrote.seen whole others in
        let here : IsMapped header n = subst (λ (h : ℕ). IsMapped h n) (ap header_of super ∙ sym has.is) part in
        let out : area_start header area ≤ n → n < area_start header area + 126 + 129 * header → ⊥ =
        λ low high. ⊎_elim (λ (zero : n ≡ 0). omega (arith, zero, low, room.0)) (λ (le : log_end header ≤ n). omega (arith, le, high, room.1)) here in
        ready_data new is_logged.ready n ∙ log n out ∙ written_batch placed (data_of old) (sector wrote.seen) written n (λ none. others n none ∙ sym (ready_data old ready n))

    -- and the next log area is the same
    pub next_beside : HasNext area new
    next_beside = next_written ∙ sym (next_same wrote.seen new.seen (others_low header area wrote.seen new.seen log 0 (omega arith)) (others_low header area wrote.seen new.seen log 1 (omega arith)))
