-- One write more.
use Rattle.std.proofs.Common.{◌≡◌, ◌≤◌, ◌⊎◌, ⊎_elim, inl, inr, ℕ, ◌+◌, ◌*◌, ◌/◌, ◌%◌, ◌<◌, List, [], length, get_or, set, arith, ◌∙◌, sym, ap, get_or-set_other, get_or-set_same}
use Rattle.std.proofs.lemmas.Bool.{cases_eq, cases_lt}
use Rattle.fs_layout.specs.Bytes.{u32_of}
use Rattle.sector_disk.specs.Disk.{AddsOnly, DiskState, Elapses, Image, IsImage, IsImageOr, LeavesOnly, sector}
use Rattle.sector_disk.proofs.Moments.{adds_nothing, goes_on, image_or, started}
use Rattle.redo_journal.proofs.Causes.{WentWell, well_more, well_none}

-- The first i contents are in their sectors. A write puts the next one into a sector of its own.
pub written_more : (at : ℕ → ℕ) (content : ℕ → List ℕ) (old new : Image) (i : ℕ) → at i < length old → new ≡ set old (at i) (content i)
    → ((k : ℕ) → k < i → at k ≡ at i → ⊥) → ((k : ℕ) → k < i → sector old (at k) ≡ content k) → (k : ℕ) → k < i + 1 → sector new (at k) ≡ content k
written_more at content old new i fits written apart before k lt = elim (cases_eq k i) [
  | inl here ↦
      ap (λ (l : Image). sector l (at k)) written
      ∙ ap (λ (j : ℕ). get_or (set old (at i) (content i)) (at j) []) here
      ∙ get_or-set_same old (at i) (content i) [] fits
      ∙ ap content (sym here)
  | inr there ↦
      ap (λ (l : Image). sector l (at k)) written
      ∙ get_or-set_other old (at i) (at k) (content i) [] (apart k (omega (arith, lt, there)))
      ∙ before k (omega (arith, lt, there))
]

-- The first header sectors have their numbers. A write puts the next one.
pub header_more : (from : ℕ) (number : ℕ → ℕ) (count at : ℕ) (content : List ℕ) (old new : Image) → from + at < length old → new ≡ set old (from + at) content
    → ((k : ℕ) → k < 128 → 126 + 128 * at + k < count → u32_of content (4 * k) ≡ number (128 * at + k))
    → ((k : ℕ) → k < 128 * at → 126 + k < count → u32_of (sector old (from + k / 128)) (4 * (k % 128)) ≡ number k)
    → (k : ℕ) → k < 128 * (at + 1) → 126 + k < count → u32_of (sector new (from + k / 128)) (4 * (k % 128)) ≡ number k
header_more from number count at content old new fits written numbers before k near lt = elim (cases_lt k (128 * at)) [
  | inl low ↦
      ap (λ s. u32_of s (4 * (k % 128)))
      (ap (λ (l : Image). sector l (from + k / 128)) written ∙ get_or-set_other old (from + at) (from + k / 128) content [] (λ (e : from + k / 128 ≡ from + at). omega (arith, low, e)))
      ∙ before k low lt
  | inr high ↦
      let here : k / 128 ≡ at = omega (arith, near, high) in
      let back : 128 * at + k % 128 ≡ k = omega (arith, near, high) in
      ap (λ s. u32_of s (4 * (k % 128)))
      (ap (λ j. sector new (from + j)) here ∙ ap (λ (l : Image). sector l (from + at)) written ∙ get_or-set_same old (from + at) content [] fits)
      ∙ numbers (k % 128) (omega arith) (omega (arith, back, lt)) ∙ ap number back
]

-- The numbers of the first header sectors were read. Those of the next one are read too.
pub header_read : (from count at : ℕ) (old new : List ℕ) (image : Image) → ((i : ℕ) → i < 126 + 128 * at → get_or new i 0 ≡ get_or old i 0)
    → ((k : ℕ) → k < 128 * at → 126 + k < count → u32_of (sector image (from + k / 128)) (4 * (k % 128)) ≡ get_or old (126 + k) 0)
    → ((k : ℕ) → k < 128 → 126 + 128 * at + k < count → get_or new (126 + 128 * at + k) 0 ≡ u32_of (sector image (from + at)) (4 * k))
    → (k : ℕ) → k < 128 * (at + 1) → 126 + k < count → u32_of (sector image (from + k / 128)) (4 * (k % 128)) ≡ get_or new (126 + k) 0
header_read from count at old new image kept before read k near lt = elim (cases_lt k (128 * at)) [
  | inl low ↦ before k low lt ∙ sym (kept (126 + k) (omega (arith, low)))
  | inr high ↦
      let here : k / 128 ≡ at = omega (arith, near, high) in
      let back : 126 + 128 * at + k % 128 ≡ 126 + k = omega (arith, near, high) in
      ap (λ j. u32_of (sector image (from + j)) (4 * (k % 128))) here
      ∙ sym (read (k % 128) (omega arith) (omega (arith, back, lt))) ∙ ap (λ j. get_or new j 0) back
]

-- a write to this sector of this content
pub written_so : (old new : Image) (at n : ℕ) (content next : List ℕ) → new ≡ set old at content → at ≡ n → content ≡ next → new ≡ set old n next
written_so old new at n content next written is same = written ∙ (λ j. set old (is j) (same j))

-- a sector that isn't written
pub written_other : (old new : Image) (at n : ℕ) (content : List ℕ) → new ≡ set old at content → (n ≡ at → ⊥) → sector new n ≡ sector old n
written_other old new at n content written other = ap (λ (l : Image). sector l n) written ∙ get_or-set_other old at n content [] other

-- a sector beside a write, whether that went well
pub other_kept : (old new : Image) (at n : ℕ) (content : List ℕ) → (new ≡ old) ⊎ (new ≡ set old at content) → (n ≡ at → ⊥) → sector new n ≡ sector old n
other_kept old new at n content wrote other = ⊎_elim (λ same. ap (λ (l : Image). sector l n) same) (λ put. written_other old new at n content put other) wrote

-- ---- a loop of writes that went well, of contents that R allows
pub record HasRun (R : ℕ → List ℕ → Type 0) (old new : DiskState) : Type 0 where
  pub adds : AddsOnly R old new
  pub since : LeavesOnly old new (IsImageOr R old)
  pub well : WentWell old new

pub run_none : {R : ℕ → List ℕ → Type 0} {disk : DiskState} → ((image : Image) → disk.left_since disk.moment image → IsImage disk image) → HasRun R disk disk
run_none only_now = record { adds = adds_nothing; since = started only_now (image_or adds_nothing); well = well_none }

-- one call more
pub run_more : {R : ℕ → List ℕ → Type 0} {old mid new : DiskState} → HasRun R old mid → AddsOnly R old new → Elapses mid new → mid.failures ≤ new.failures → new.failed_writes ≡ mid.failed_writes → HasRun R old new
run_more so_far adds time later quiet = record { adds = adds; since = goes_on so_far.since time (image_or adds); well = well_more so_far.well later quiet }
