-- How a run of disk calls goes on, one line of a proof for each call, and what its images are.
use Rattle.std.proofs.Common.{◌≡◌, ◌⊎◌, inl, inr, ⊎_elim, ℕ, ◌<◌, ◌≤◌, ◌^◌, List, [], length, arith, refl, sym, ◌∙◌}
use Rattle.std.proofs.lemmas.Bool.{cases_lt}
use Rattle.std.proofs.lemmas.List.{ext_get_or, get_or_past}
use Rattle.sector_disk.specs.Disk.{DiskState, Image, sector, IsImage, IsStable, IsNarrowed, IsSame, ChangesOnly, Elapses, HasFailed, LeavesOnly, OnlyReads, AddsOnly, IsImageOr}

-- ---- what a stop leaves at any moment of a run

-- before the first call
pub started : {disk : DiskState} {P : Image → Type 0} → ((image : Image) → disk.left_since disk.moment image → IsImage disk image)
    → ((image : Image) → IsImage disk image → P image) → LeavesOnly disk disk P
started only_now here = record {
  later = omega arith;
  each = λ image left. here image (only_now image left);
  before = λ t image le left. inl left;
}

-- one call more, after which a stop leaves what has P
pub goes_on : {old mid new : DiskState} {P : Image → Type 0} → LeavesOnly old mid P → Elapses mid new
    → ((image : Image) → IsImage new image → P image) → LeavesOnly old new P
goes_on {old} {mid} {new} {P} so_far time here = record {
  later = omega (arith, so_far.later, time.later);
  each = λ image left. ⊎_elim (so_far.each image) (here image) (time.nothing_else old.moment image so_far.later left);
  before = λ t image le left.
      ⊎_elim (so_far.before t image le) (λ now. inr (here image now))
      (time.nothing_else t image (omega (arith, le, so_far.later)) left);
}

-- one call alone, before and after which a stop leaves what has P
pub one_call : {old new : DiskState} {P : Image → Type 0} → ((image : Image) → old.left_since old.moment image → IsImage old image)
    → ((image : Image) → IsImage old image → P image) → Elapses old new → ((image : Image) → IsImage new image → P image) → LeavesOnly old new P
one_call only_now before time after = goes_on (started only_now before) time after

-- one run after another
pub joined : {old mid new : DiskState} {P : Image → Type 0} → LeavesOnly old mid P → LeavesOnly mid new P → LeavesOnly old new P
joined {old} {mid} {new} {P} first second = record {
  later = omega (arith, first.later, second.later);
  each = λ image left. ⊎_elim (first.each image) (λ has. has) (second.before old.moment image first.later left);
  before = λ t image le left.
      ⊎_elim (first.before t image le) (λ has. inr has) (second.before t image (omega (arith, le, first.later)) left);
}

-- what holds of each image, for a caller that asks for less
pub weaker : {old new : DiskState} {P Q : Image → Type 0} → ((image : Image) → P image → Q image) → LeavesOnly old new P → LeavesOnly old new Q
weaker implies run = record {
  later = run.later;
  each = λ image left. implies image (run.each image left);
  before = λ t image le left. ⊎_elim (λ was. inl was) (λ has. inr (implies image has)) (run.before t image le left);
}

-- what holds of each image since then holds of what a stop may leave now
pub holds_now : {old new : DiskState} {P : Image → Type 0} {image : Image} → LeavesOnly old new P
    → ((t : ℕ) (image : Image) → t ≤ new.moment → IsImage new image → new.left_since t image) → IsImage new image → P image
holds_now {old} {new} {P} {image} run counts_now is = run.each image (counts_now old.moment image run.later is)

-- ---- images of one moment and of the next

-- an image after a sync was one before it
pub narrowed : {old new : DiskState} {image : Image} → IsNarrowed old new → IsImage new image → IsImage old image
narrowed {old} {new} {image} changes is = record {
  size = is.size ∙ changes.size;
  each = λ n below. changes.nothing_else n (sector image n) (is.each n (omega (arith, below, changes.size)));
}

-- an image after a call that changes nothing was one before it, and the other way round
pub unchanged : {old new : DiskState} {image : Image} → IsSame old new → IsImage new image → IsImage old image
unchanged same is = narrowed same.narrowed is

pub still : {old new : DiskState} {image : Image} → IsSame old new → IsImage old image → IsImage new image
still {old} {new} {image} same is = record {
  size = is.size ∙ sym same.narrowed.size;
  each = λ n below. same.kept n (sector image n) (is.each n (omega (arith, below, same.narrowed.size)));
}

-- what a stop leaves of a stable disk is what reads give
pub stable_image : {disk : DiskState} {image : Image} → IsStable disk → length disk.seen ≡ disk.size → IsImage disk image → image ≡ disk.seen
stable_image {disk} {image} stable whole is =
    ext_get_or [] image disk.seen (is.size ∙ sym whole)
    (λ n below. stable n (sector image n) (omega (arith, is.size)) (is.each n (omega (arith, is.size))))

-- ---- contents that several writes may add

pub adds_nothing : {R : ℕ → List ℕ → Type 0} {disk : DiskState} → AddsOnly R disk disk
adds_nothing = record { size = refl; nothing_else = λ n content holds. inl holds }

-- a write more
pub adds_write : {R : ℕ → List ℕ → Type 0} {old mid new : DiskState} {n : ℕ} {content : List ℕ} → AddsOnly R old mid
    → ChangesOnly mid new n content → ((k : ℕ) (c : List ℕ) → k ≡ n → c ≡ content → R k c) → AddsOnly R old new
adds_write so_far changes allowed = record {
  size = changes.size ∙ so_far.size;
  nothing_else = λ k c holds.
      ⊎_elim (so_far.nothing_else k c) (λ (is : (k ≡ _) × (c ≡ _)). inr (allowed k c is.0 is.1)) (changes.nothing_else k c holds);
}

-- a read or a sync more
pub adds_narrowed : {R : ℕ → List ℕ → Type 0} {old mid new : DiskState} → AddsOnly R old mid → IsNarrowed mid new → AddsOnly R old new
adds_narrowed so_far changes = record {
  size = changes.size ∙ so_far.size;
  nothing_else = λ k c holds. so_far.nothing_else k c (changes.nothing_else k c holds);
}

-- what a stop leaves after them
pub image_or : {R : ℕ → List ℕ → Type 0} {old new : DiskState} → AddsOnly R old new → (image : Image) → IsImage new image → IsImageOr R old image
image_or {R} {old} {new} adds image is = record {
  size = is.size ∙ adds.size;
  each = λ n below. adds.nothing_else n (sector image n) (is.each n (omega (arith, below, adds.size)));
}

-- a sector of a stable disk is as it was, or it has what R allows
pub stays_or : {R : ℕ → List ℕ → Type 0} {disk : DiskState} {image : Image} → IsStable disk → IsImageOr R disk image
    → (n : ℕ) → n < disk.size → (sector image n ≡ sector disk.seen n) ⊎ R n (sector image n)
stays_or {R} {disk} {image} stable is n below = ⊎_elim (λ was. inl (stable n (sector image n) below was)) (λ new. inr new) (is.each n below)

-- where R allows nothing, a sector of a stable disk is as it was, also past its end
pub stays : {R : ℕ → List ℕ → Type 0} {disk : DiskState} {image : Image} → IsStable disk → length disk.seen ≡ disk.size → IsImageOr R disk image
    → (n : ℕ) → ((content : List ℕ) → R n content → ⊥) → sector image n ≡ sector disk.seen n
stays {R} {disk} {image} stable whole is n none = elim (cases_lt n disk.size) [
  | inl below ↦ ⊎_elim (λ was. was) (λ new. absurd (none (sector image n) new)) (stays_or stable is n below)
  | inr past ↦ get_or_past image n [] (omega (arith, past, is.size)) ∙ sym (get_or_past disk.seen n [] (omega (arith, past, whole)))
]

-- ---- reads alone

pub reads_nothing : {disk : DiskState} → OnlyReads disk disk
reads_nothing = record {
  narrowed = record { size = refl; seen = refl; nothing_else = λ n content holds. holds };
  later = omega arith;
  since = λ t image le left. left;
  failures = omega arith;
  failed_writes = refl;
}

-- a read more
pub reads_more : {old mid new : DiskState} → OnlyReads old mid → IsSame mid new → Elapses mid new → mid.failures ≤ new.failures
    → new.failed_writes ≡ mid.failed_writes → ((t : ℕ) (image : Image) → t ≤ mid.moment → IsImage mid image → mid.left_since t image) → OnlyReads old new
reads_more {old} {mid} {new} so_far same time counted none counts_now = record {
  narrowed = record {
    size = same.narrowed.size ∙ so_far.narrowed.size;
    seen = same.narrowed.seen ∙ so_far.narrowed.seen;
    nothing_else = λ n content holds. so_far.narrowed.nothing_else n content (same.narrowed.nothing_else n content holds);
  };
  later = omega (arith, so_far.later, time.later);
  since = λ t image le left.
      let before : t ≤ mid.moment = omega (arith, le, so_far.later) in
      so_far.since t image le (⊎_elim (λ was. was) (λ now. counts_now t image before (unchanged same now)) (time.nothing_else t image before left));
  failures = omega (arith, so_far.failures, counted);
  failed_writes = none ∙ so_far.failed_writes;
}

-- one after the other
pub reads_joined : {old mid new : DiskState} → OnlyReads old mid → OnlyReads mid new → OnlyReads old new
reads_joined {old} {mid} {new} first second = record {
  narrowed = record {
    size = second.narrowed.size ∙ first.narrowed.size;
    seen = second.narrowed.seen ∙ first.narrowed.seen;
    nothing_else = λ n content holds. first.narrowed.nothing_else n content (second.narrowed.nothing_else n content holds);
  };
  later = omega (arith, first.later, second.later);
  since = λ t image le left. first.since t image le (second.since t image (omega (arith, le, first.later)) left);
  failures = omega (arith, first.failures, second.failures);
  failed_writes = second.failed_writes ∙ first.failed_writes;
}

-- a run after reads leaves only what it would have left had it begun before them
pub reads_then : {old mid new : DiskState} {P : Image → Type 0} → OnlyReads old mid → LeavesOnly mid new P
    → ((image : Image) → old.left_since old.moment image → P image) → LeavesOnly old new P
reads_then {old} {mid} {new} {P} reads run here = record {
  later = omega (arith, reads.later, run.later);
  each = λ image left. ⊎_elim (λ was. here image (reads.since old.moment image (omega arith) was)) (λ has. has) (run.before old.moment image reads.later left);
  before = λ t image le left.
      ⊎_elim (λ was. inl (reads.since t image le was)) (λ has. inr has) (run.before t image (omega (arith, le, reads.later)) left);
}

-- ---- faults

-- a fault in the later part is one of the whole, and so is one in the earlier part
pub failed_later : (old mid new : DiskState) → old.failures ≤ mid.failures → HasFailed mid new → HasFailed old new
failed_later old mid new grows failed = ⊎_elim (λ more. inl (omega (arith, grows, more))) (λ worn. inr worn) failed

pub failed_earlier : (old mid new : DiskState) → HasFailed old mid → mid.failures ≤ new.failures → new.failures < 2 ^ 64 → HasFailed old new
failed_earlier old mid new failed grows fits = ⊎_elim (λ more. inl (omega (arith, grows, more))) (λ worn. inr (omega (arith, worn, grows, fits))) failed
