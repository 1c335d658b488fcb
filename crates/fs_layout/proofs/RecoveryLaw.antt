-- What a recovered image is, and what it depends on.
use Rattle.std.proofs.Common.{◌≡◌, ℕ, zero, suc, ◌+◌, ◌*◌, ◌/◌, ◌%◌, ◌^◌, ◌<◌, ◌≤◌, ◌⊎◌, List, [], ◌∷◌, length, get_or, refl, sym, ap, subst, ◌∙◌, arith, inl, inr, false, cond, nat_eq, Ok, Some}
use Rattle.std.specs.Prelude.{Contains}
use Rattle.std.proofs.lemmas.Bool.{cases_eq, cond-true, cond-false, eq-eqb, le-leb, ne_eqb}
use Rattle.std.proofs.lemmas.List.{get_or_default}
use Rattle.fs_layout.specs.Bytes.{SectorMap, u32_of}
use Rattle.fs_layout.specs.declared.superblock.Super.{Super}
use Rattle.fs_layout.specs.Header.{log_end, area_start, header_for, header_of}
use Rattle.fs_layout.specs.Superblock.{FitsSuper, super_bytes}
use Rattle.fs_layout.specs.declared.header.TheConstants.{MAX_HEADER}
use Rattle.fs_layout.specs.declared.geometry.Geometry.{Geometry}
use Rattle.fs_layout.specs.Geometry.{geometry_in}
use Rattle.fs_layout.proofs.Places.{geometry_is_laid_out, is_a_geometry}
use Rattle.fs_layout.proofs.SuperLaw.{super_codec}
use Rattle.fs_layout.specs.Commit.{AreDistinct, AreTargets, IsArea, IsCommit, IsValidCommit, area_in, commit_bytes, commit_bytes_in, named_area, named_start, targets_in}
use Rattle.fs_layout.specs.Recovered.{replayed, recovered}
use Rattle.fs_layout.proofs.CommitLaw.{in_first, number_of_word}
use Rattle.fs_layout.proofs.Targets.{no_targets, same_start, targets_in-alike, targets_in-commit, targets_in-invalid, targets_in-valid}

-- ---- sectors that are targets
-- a sector is a target, at some index of the list, or it is none
pub target_or_none : (ts : List ℕ) (s : ℕ) → ((k : ℕ) × ((k < length ts) × (get_or ts k 0 ≡ s))) ⊎ (Contains ts s → ⊥)
target_or_none [] s = inr (λ c. omega (arith, c.1))
target_or_none (t ∷ ts) s = elim (cases_eq t s) [
  | inl here ↦ inl (0, (omega arith, here))
  | inr there ↦ elim (target_or_none ts s) [
    | inl found ↦ inl (suc found.0, (omega (arith, found.1.0), found.1.1))
    | inr none ↦ inr (past there none)
  ]
]
  where
    past : (t ≡ s → ⊥) → (Contains ts s → ⊥) → Contains (t ∷ ts) s → ⊥
    past there none (zero, lt, is) = there is
    past there none (suc k, lt, is) = none (k, omega (arith, lt), is)

pub contains_at : (ts : List ℕ) (k s : ℕ) → k < length ts → get_or ts k 0 ≡ s → Contains ts s
contains_at ts k s lt is = (k, lt, get_or_default ts k s 0 lt ∙ is)

behind : (t : ℕ) (ts : List ℕ) (s : ℕ) → Contains ts s → Contains (t ∷ ts) s
behind t ts s c = (suc c.0, omega (arith, c.1), c.2)

pub low_no_target : (header size : ℕ) (ts : List ℕ) (s : ℕ) → AreTargets header size ts → s < log_end header → Contains ts s → ⊥
low_no_target header size ts s valid low c = let r : log_end header ≤ get_or ts c.0 s = (valid.in_range c.0 s c.1).0 in omega (arith, r, c.2, low)

pub past_no_target : (header size : ℕ) (ts : List ℕ) (s : ℕ) → AreTargets header size ts → size ≤ s → Contains ts s → ⊥
past_no_target header size ts s valid high c = let r : get_or ts c.0 s < size = (valid.in_range c.0 s c.1).1 in omega (arith, r, c.2)

-- ---- replayed
pub replayed-other : (image : SectorMap) (log : ℕ) (ts : List ℕ) (s : ℕ) → (Contains ts s → ⊥) → replayed image log ts s ≡ image s
replayed-other image log [] s none = refl
replayed-other image log (t ∷ ts) s none =
    let there : nat_eq s t ≡ false = ne_eqb s t (λ e. none (0, omega arith, sym e)) in
    cond-false (nat_eq s t) (image log) (replayed image (log + 1) ts s) there
    ∙ replayed-other image (log + 1) ts s (λ c. none (behind t ts s c))

tail_apart : (t : ℕ) (ts : List ℕ) → AreDistinct (t ∷ ts) → AreDistinct ts
tail_apart t ts apart i j d lt fits = apart (suc i) (suc j) d (omega (arith, lt)) (omega (arith, fits))

pub replayed-target : (image : SectorMap) (log : ℕ) (ts : List ℕ) (k : ℕ) → AreDistinct ts → k < length ts
    → replayed image log ts (get_or ts k 0) ≡ image (log + k)
replayed-target image log [] k apart lt = absurd (omega (arith, lt))
replayed-target image log (t ∷ ts) zero apart lt =
    cond-true (nat_eq t t) (image log) (replayed image (log + 1) ts t) (eq-eqb t t refl) ∙ ap image (omega arith)
replayed-target image log (t ∷ ts) (suc k) apart lt =
    let n = get_or ts k 0 in
    let other : nat_eq n t ≡ false = ne_eqb n t (λ e. apart 0 (suc k) 0 (omega arith) lt (sym e)) in
    cond-false (nat_eq n t) (image log) (replayed image (log + 1) ts n) other
    ∙ replayed-target image (log + 1) ts k (tail_apart t ts apart) (omega (arith, lt)) ∙ ap image (omega arith)

pub replayed-same : (image new : SectorMap) (log : ℕ) (ts : List ℕ) (s : ℕ) → ((k : ℕ) → k < length ts → new (log + k) ≡ image (log + k))
    → ((Contains ts s → ⊥) → new s ≡ image s)
    → replayed new log ts s ≡ replayed image log ts s
replayed-same image new log [] s logs own = own (λ c. omega (arith, c.1))
replayed-same image new log (t ∷ ts) s logs own = elim (cases_eq s t) [
  | inl here ↦
      cond-true (nat_eq s t) (new log) (replayed new (log + 1) ts s) (eq-eqb s t here)
      ∙ ap new (omega arith) ∙ logs 0 (omega arith) ∙ ap image (omega arith)
      ∙ sym (cond-true (nat_eq s t) (image log) (replayed image (log + 1) ts s) (eq-eqb s t here))
  | inr there ↦
      cond-false (nat_eq s t) (new log) (replayed new (log + 1) ts s) (ne_eqb s t there)
      ∙ replayed-same image new (log + 1) ts s (λ k lt. ap new (omega arith) ∙ logs (suc k) (omega (arith, lt)) ∙ ap image (omega arith))
      (λ none. own (past there none))
      ∙ sym (cond-false (nat_eq s t) (image log) (replayed image (log + 1) ts s) (ne_eqb s t there))
]
  where
    past : (s ≡ t → ⊥) → (Contains ts s → ⊥) → Contains (t ∷ ts) s → ⊥
    past there none (zero, lt, is) = there (sym is)
    past there none (suc k, lt, is) = none (k, omega (arith, lt), is)

-- ---- recovered
-- the first log sector of an image
abbrev pub log_start : SectorMap → ℕ
log_start image = named_start image + header_of (image 0)

-- an image whose commit has these targets
pub recovered-commit : (size : ℕ) (image : SectorMap) (ts : List ℕ) (s : ℕ) → size < 2 ^ 32 → IsCommit size image ts
    → recovered size image s ≡ replayed image (log_start image) ts s
unfolding recovered
recovered-commit size image ts s small is = ap (λ (l : List ℕ). replayed image (log_start image) l s) (targets_in-commit size image ts small is)

-- a target has its log sector's content
pub recovered-target : (size : ℕ) (image : SectorMap) (ts : List ℕ) (k : ℕ) → size < 2 ^ 32 → IsCommit size image ts → k < length ts
    → recovered size image (get_or ts k 0) ≡ image (log_start image + k)
recovered-target size image ts k small is lt =
    recovered-commit size image ts (get_or ts k 0) small is ∙ replayed-target image (log_start image) ts k is.valid.apart lt

-- a sector that is no target has its own
pub recovered-other : (size : ℕ) (image : SectorMap) (ts : List ℕ) (s : ℕ) → size < 2 ^ 32 → IsCommit size image ts
    → (Contains ts s → ⊥) → recovered size image s ≡ image s
recovered-other size image ts s small is none = recovered-commit size image ts s small is ∙ replayed-other image (log_start image) ts s none

-- an image with an idle commit sector
pub area_idle : (image : SectorMap) → image 1 ≡ commit_bytes [] → named_area image ≡ 0
area_idle image idle =
    let word : u32_of (image 1) 4 ≡ 0 = ap (λ s. u32_of s 4) (idle ∙ sym (in_first [])) ∙ number_of_word 0 [] (omega arith) ∙ omega arith in
    omega (arith, word)

pub idle_commit : (size : ℕ) (image : SectorMap) → image 1 ≡ commit_bytes [] → IsCommit size image []
idle_commit size image idle =
    let none : named_area image ≡ 0 = area_idle image idle in
    record {
      bytes = idle ∙ sym (in_first []) ∙ ap (λ (a : ℕ). commit_bytes_in a []) (sym none);
      area = record { one = omega (arith, none); there = omega (arith, none); some = omega (arith, none) };
      more = λ k lt. absurd (omega (arith, lt));
      valid = no_targets (header_of (image 0)) size;
    }

-- an idle image is recovered
pub recovered-idle : (size : ℕ) (image : SectorMap) (s : ℕ) → size < 2 ^ 32 → image 1 ≡ commit_bytes [] → recovered size image s ≡ image s
recovered-idle size image s small idle = recovered-commit size image [] s small (idle_commit size image idle)

-- and so is one whose commit is not valid
pub recovered-invalid : (size : ℕ) (image : SectorMap) (s : ℕ) → (IsValidCommit size image → ⊥) → recovered size image s ≡ image s
unfolding recovered
recovered-invalid size image s none = ap (λ (l : List ℕ). replayed image (log_start image) l s) (targets_in-invalid size image none)

-- superblock, commit sector, header and log are never targets, whatever they hold
pub recovered-low : (size : ℕ) (image : SectorMap) (s : ℕ) → s < log_end (header_of (image 0)) → recovered size image s ≡ image s
unfolding recovered
recovered-low size image s low =
    replayed-other image (log_start image) (targets_in size image) s (low_no_target (header_of (image 0)) size (targets_in size image) s (targets_in-valid size image) low)

pub recovered-super : (size : ℕ) (image : SectorMap) → recovered size image 0 ≡ image 0
recovered-super size image = recovered-low size image 0 (omega arith)

-- nor are sectors past the disk's end
pub recovered-past : (size : ℕ) (image : SectorMap) (s : ℕ) → size ≤ s → recovered size image s ≡ image s
unfolding recovered
recovered-past size image s high =
    replayed-other image (log_start image) (targets_in size image) s (past_no_target (header_of (image 0)) size (targets_in size image) s (targets_in-valid size image) high)

-- A recovered sector depends on the targets, on the log sectors in use and, where it is no target, on itself. So a sealed
-- image stays the same while its targets are written, and an idle one while the log is.
pub recovered-same : (size : ℕ) (image new : SectorMap) (ts : List ℕ) (s : ℕ) → size < 2 ^ 32 → IsCommit size image ts → IsCommit size new ts → new 0 ≡ image 0 → new 1 ≡ image 1
    → ((k : ℕ) → k < length ts → new (log_start image + k) ≡ image (log_start image + k))
    → ((Contains ts s → ⊥) → new s ≡ image s) → recovered size new s ≡ recovered size image s
recovered-same size image new ts s small is now super one logs own =
    recovered-commit size new ts s small now
    ∙ (λ j. replayed new (area_start (header_of (super j)) (area_in (one j)) + header_of (super j)) ts s)
    ∙ replayed-same image new (log_start image) ts s logs own
    ∙ sym (recovered-commit size image ts s small is)

-- an image whose targets have the log's contents is recovered
pub recovered-installed : (size : ℕ) (image : SectorMap) (ts : List ℕ) (s : ℕ) → size < 2 ^ 32 → IsCommit size image ts
    → ((k : ℕ) → k < length ts → image (get_or ts k 0) ≡ image (log_start image + k))
    → recovered size image s ≡ image s
recovered-installed size image ts s small is in_place =
    recovered-commit size image ts s small is
    ∙ elim (target_or_none ts s) [
      | inl found ↦
          ap (λ (n : ℕ). replayed image (log_start image) ts n) (sym found.1.1)
          ∙ replayed-target image (log_start image) ts found.0 is.valid.apart found.1.0
          ∙ sym (in_place found.0 found.1.0) ∙ ap image found.1.1
      | inr none ↦ replayed-other image (log_start image) ts s none
    ]

-- what holds of the log sectors in use, and of a sector itself, holds of the recovered sector
pub recovered-has : (P : List ℕ → Type 0) (size : ℕ) (image : SectorMap) (s : ℕ)
    → ((k : ℕ) → k < length (targets_in size image) → P (image (log_start image + k))) → P (image s) → P (recovered size image s)
unfolding recovered
recovered-has P size image s logs own =
    let ts = targets_in size image in
    elim (target_or_none ts s) [
      | inl found ↦
          subst P
          (sym (ap (λ (n : ℕ). replayed image (log_start image) ts n) (sym found.1.1)
          ∙ replayed-target image (log_start image) ts found.0 (targets_in-valid size image).apart found.1.0))
          (logs found.0 found.1.0)
      | inr none ↦ subst P (sym (replayed-other image (log_start image) ts s none)) own
    ]

-- A recovered sector depends on how many header sectors there are, on commit sector, header, the log sectors in use, and
-- on itself, whether the commit is valid or not.
pub recovered-alike : (size : ℕ) (image new : SectorMap) (s : ℕ) → header_of (new 0) ≡ header_of (image 0) → new 1 ≡ image 1
    → ((k : ℕ) → k < header_of (image 0) → new (named_start image + k) ≡ image (named_start image + k))
    → ((k : ℕ) → k < length (targets_in size image) → new (log_start image + k) ≡ image (log_start image + k)) → new s ≡ image s → recovered size new s ≡ recovered size image s
unfolding recovered
recovered-alike size image new s super one header logs own =
    (λ j. replayed new (area_start (super j) (area_in (one j)) + super j) (targets_in-alike size image new super one header j) s)
    ∙ replayed-same image new (log_start image) (targets_in size image) s logs (λ _. own)

-- how many header sectors a superblock tells
pub header_of-super_bytes : (v : Super) → FitsSuper v → header_of (super_bytes v) ≡ header_for (Ok v)
unfolding header_of
header_of-super_bytes v fits = ap header_for (super_codec.again v fits)

-- as many as the layout has that it gives,
pub header_there : {p : Geometry} (v : Super) (content : List ℕ) (sectors : ℕ) → FitsSuper v → content ≡ super_bytes v
    → geometry_in v.version v.header sectors v.inodes ≡ Some p → header_of content ≡ p.header
header_there {p} v content sectors fits is has =
    let same : p.header ≡ v.header = ap (λ (q : Geometry). q.header) (geometry_is_laid_out sectors v.inodes has) in
    let few = (is_a_geometry v.version v.header sectors v.inodes has).header in
    ap header_of is ∙ header_of-super_bytes v fits ∙ ap (λ b. cond b v.header 0) (le-leb v.header MAX_HEADER (omega (arith, same, few))) ∙ sym same

-- and the log that it tells ends where the bitmaps begin
pub log_there : {p : Geometry} (v : Super) (content : List ℕ) (sectors : ℕ) → FitsSuper v → content ≡ super_bytes v
    → geometry_in v.version v.header sectors v.inodes ≡ Some p → log_end (header_of content) ≡ p.inode_bitmap
log_there {p} v content sectors fits is has =
    ap log_end (header_there v content sectors fits is has) ∙ sym (is_a_geometry v.version v.header sectors v.inodes has).log

-- a valid commit stays one where superblock, commit sector and header stay
pub valid_alike : (size : ℕ) (image new : SectorMap) → header_of (new 0) ≡ header_of (image 0) → new 1 ≡ image 1
    → ((k : ℕ) → k < header_of (image 0) → new (named_start image + k) ≡ image (named_start image + k))
    → IsValidCommit size image → IsValidCommit size new
valid_alike size image new super one header valid =
    let is = valid.is in
    let few = is.valid.few in
    record {
      targets = valid.targets;
      is = record {
        bytes = one ∙ is.bytes ∙ (λ j. commit_bytes_in (area_in (sym one j)) valid.targets);
        area = subst (λ h. IsArea h (named_area new) valid.targets) (sym super) (subst (λ s. IsArea (header_of (image 0)) (area_in s) valid.targets) (sym one) is.area);
        more = λ k lt. ap (λ (at : ℕ). u32_of (new (at + k / 128)) (4 * (k % 128))) (same_start image new super one) ∙ ap (λ s. u32_of s (4 * (k % 128))) (header (k / 128) (omega (arith, lt, few))) ∙ is.more k lt;
        valid = subst (λ h. AreTargets h size valid.targets) (sym super) is.valid;
      };
    }
