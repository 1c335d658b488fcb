-- A file that follows its disk: what a run and a sync of the file keep.
use Rattle.std.proofs.Common.{◌≡◌, ◌⊎◌, inl, inr, ⊎_elim, ℕ, zero, ◌+◌, ◌-◌, ◌<◌, ◌≤◌, Bool, true, false, List, [], ◌∷◌, ◌++◌, length, drop, take, refl, sym, ◌∙◌, ap, subst, arith, get_or, get_or-set_other, length-drop, length-take, slice_index, replicate}
use Rattle.std.specs.Prelude.{Option, Some, None, IfSome, All, Contains, Result, Ok, Err, OnOk, IsPermutation, slice_range, slice_set, if◌then◌else◌}
use Rattle.std.specs.Prelude.{min}
use Rattle.std.specs.Result.{is_ok}
use Rattle.std.proofs.Math.Logic.{∥∥₁_map}
use Rattle.std.proofs.lemmas.Bool.{cases_lt, cases_eq}
use Rattle.std.proofs.lemmas.Grind.{merely, get_or_default_zero}
use Rattle.std.proofs.lemmas.List.{set-get_or, get_or-drop, get_or-take, get_or-replicate, length-replicate}
use Rattle.std.proofs.lemmas.List.Elements.{All-push, Contains-append_left, Contains-append_right}
use Rattle.std.proofs.lemmas.List.Sorted.{Contains-permutation}
use Rattle.sector_disk.specs.Disk.{DiskState, Image, sector, IsImage, IsSame, ChangesOnly}
use Rattle.sector_disk.specs.Record.{Past, Held, recorded_state}
use Rattle.sector_disk.specs.Places.{IsRunSet}
use Rattle.sector_disk.specs.declared.memory.MemDisk.{MemDisk}
use Rattle.sector_disk.specs.Files.{file_seen, IfKnown, IsRun, IsRunTried, HasRun, IsHeldNarrowed, IsHeldSynced, IsHeldStable, HasSectors, HasStable, Lacks, KeepsFile, KeepsKnown, KeepsBefore, FollowsBefore}

-- ---- what may be known
pub goes : {P : Held → Held → Type 0} {K L : Held → Type 0} (old new : Option Held) → IfKnown P old new → IfSome old K → ((h g : Held) → P h g → K h → L g) → IfSome new L
goes None None is was step = tt
goes (Some h) (Some g) is was step = step h g is was
goes (Some h) None is was step = absurd is
goes None (Some g) is was step = absurd is

pub both : {K L M : Held → Type 0} (file : Option Held) → IfSome file K → IfSome file L → ((h : Held) → K h → L h → M h) → IfSome file M
both None k l step = tt
both (Some h) k l step = step h k l

-- ---- the disk
-- a file whose sectors are stable, and those that reads of the disk give
pub stable_keeps : (disk : DiskState) (waiting : List ℕ) (all_wait : Bool) (held : Held) → IsImage disk disk.seen → HasStable disk.seen held → KeepsFile disk waiting all_wait held
stable_keeps disk waiting all_wait held image is = record {
  allowed = λ n content below may.
      subst (λ c. disk.may_hold n c) (sym (is.stable n content (omega (arith, below, image.size)) may)) (image.each n below);
  same = λ n below. inr (is.seen n (omega (arith, below, image.size)));
}

-- a write of a sector that waits
pub wrote : (old new : DiskState) (n : ℕ) (content : List ℕ) (waiting : List ℕ) (all_wait : Bool) (held : Held) → ChangesOnly old new n content → Contains waiting n
    → KeepsFile old waiting all_wait held → KeepsFile new waiting all_wait held
wrote old new n content waiting all_wait held changes waits keeps = record {
  allowed = λ k c below may. changes.kept k c (keeps.allowed k c (omega (arith, below, changes.size)) may);
  same = λ k below. elim (cases_eq k n) [
    | inl here ↦ inl (inr (subst (λ m. Contains waiting m) (sym here) waits))
    | inr other ↦
        ⊎_elim (λ lacks. inl lacks)
        (λ same. inr (same ∙ sym (⊎_elim (λ is. ap (λ (i : Image). sector i k) is) (λ is. ap (λ (i : Image). sector i k) is ∙ get_or-set_other old.seen n k content [] other) changes.seen)))
        (keeps.same k (omega (arith, below, changes.size)))
  ];
}

-- a write of what reads give already
pub rewritten : (old new : DiskState) (n : ℕ) (content : List ℕ) (waiting : List ℕ) (all_wait : Bool) (held : Held) → ChangesOnly old new n content → content ≡ sector old.seen n
    → KeepsFile old waiting all_wait held → KeepsFile new waiting all_wait held
rewritten old new n content waiting all_wait held changes is keeps = record {
  allowed = λ k c below may. changes.kept k c (keeps.allowed k c (omega (arith, below, changes.size)) may);
  same = λ k below.
      ⊎_elim (λ lacks. inl lacks) (λ same. inr (same ∙ ap (λ (i : Image). sector i k) (sym seen))) (keeps.same k (omega (arith, below, changes.size)));
}
  where
    seen : new.seen ≡ old.seen
    seen = ⊎_elim (λ same. same) (λ set. set ∙ ap (λ c. slice_set old.seen n c) is ∙ set-get_or old.seen n []) changes.seen

pub more_waits : (disk : DiskState) (waiting more : List ℕ) (all_wait : Bool) (held : Held) → ((n : ℕ) → Contains waiting n → Contains more n)
    → KeepsFile disk waiting all_wait held → KeepsFile disk more all_wait held
more_waits disk waiting more all_wait held among keeps = record {
  allowed = keeps.allowed;
  same = λ n below. ⊎_elim (λ lacks. inl (⊎_elim (λ all. inl all) (λ waits. inr (among n waits)) lacks)) (λ same. inr same) (keeps.same n below);
}

-- ---- a run
-- a run of what reads of the disk give
sector_of_range : (image : Image) (first end n : ℕ) → first ≤ n → n < end → sector (slice_range image first end) (n - first) ≡ sector image n
sector_of_range image first end n from to =
    get_or-take (end - first) (drop first image) (n - first) [] (omega (arith, from, to)) ∙ get_or-drop first image (n - first) []
    ∙ ap (λ k. sector image k) (omega (arith, from))

length-range : (image : Image) (first end : ℕ) → first ≤ end → end ≤ length image → first + length (slice_range image first end) ≡ end
length-range image first end order fits = omega (arith, order, fits, length-take (end - first) (drop first image), length-drop first image)

from_disk : (disk : DiskState) (first end n : ℕ) (content : List ℕ) → first ≤ end → end ≤ length disk.seen → IsRun first (slice_range disk.seen first end) n content
    → content ≡ sector disk.seen n
from_disk disk first end n content order fits run =
    run.2 ∙ sector_of_range disk.seen first end n run.0 (let len = length-range disk.seen first end order fits in let below = run.1 in omega (arith, len, below))

pub tried_keeps : (disk : DiskState) (waiting : List ℕ) (all_wait : Bool) (first end : ℕ) (old new : Held) → IsImage disk disk.seen → first ≤ end → end ≤ disk.size
    → IsRunTried first (slice_range disk.seen first end) old new → KeepsFile disk waiting all_wait old → KeepsFile disk waiting all_wait new
tried_keeps disk waiting all_wait first end old new image order fits tried keeps = record {
  allowed = λ n content below may.
      ⊎_elim (λ was. keeps.allowed n content below was)
      (λ run. subst (λ c. disk.may_hold n c) (sym (from_disk disk first end n content order within run)) (image.each n below))
      (tried.nothing_else n content may);
  same = λ n below.
      ⊎_elim (λ lacks. inl lacks)
      (λ same. inr (⊎_elim (λ is. is ∙ same) (λ run. from_disk disk first end n (sector (file_seen new) n) order within run) (tried.seen n)))
      (keeps.same n below);
}
  where
    within : end ≤ length disk.seen
    within = let size = image.size in omega (arith, fits, size)

-- the run is written, and nothing waits but what is behind it in the list
pub run_keeps : (disk : DiskState) (waiting rest : List ℕ) (all_wait : Bool) (first end : ℕ) (held : Held) → IsImage disk disk.seen → first ≤ end → end ≤ disk.size
    → ((n : ℕ) → n < disk.size → Lacks waiting all_wait n → ((first ≤ n) × (n < end)) ⊎ Contains rest n)
    → HasRun first (slice_range disk.seen first end) held → KeepsFile disk waiting all_wait held → KeepsFile disk rest false held
run_keeps disk waiting rest all_wait first end held image order fits covers has keeps = record {
  allowed = keeps.allowed;
  same = λ n below.
      ⊎_elim (λ lacks. ⊎_elim (λ run. inr (has n run.0 (len n run.1) ∙ sector_of_range disk.seen first end n run.0 run.1)) (λ waits. inl (inr waits)) (covers n below lacks))
      (λ same. inr same) (keeps.same n below);
}
  where
    len : (n : ℕ) → n < end → n < first + length (slice_range disk.seen first end)
    len n below = let size = image.size in let length = length-range disk.seen first end order (omega (arith, fits, size)) in omega (arith, length, below)

-- ---- a sync
pub synced : (disk : DiskState) (old new : Held) → IsImage disk disk.seen → IsHeldSynced old new → KeepsFile disk [] false old → HasStable disk.seen new
synced disk old new image is keeps = record { seen = seen; stable = λ n content below may. is.stable n content may ∙ seen n below }
  where
    none : (n : ℕ) → Contains [] n → ⊥
    none n (k, below, is) = absurd (omega (arith, below))

    seen : (n : ℕ) → n < length disk.seen → sector (file_seen new) n ≡ sector disk.seen n
    seen n below =
        is.seen n
        ∙ ⊎_elim (λ lacks. ⊎_elim (λ all. cc) (λ waits. absurd (none n waits)) lacks) (λ same. same) (keeps.same n (let size = image.size in omega (arith, below, size)))

-- a sync that fails: all sectors wait
pub narrowed : (disk : DiskState) (waiting : List ℕ) (all_wait : Bool) (old new : Held) → IsHeldNarrowed old new → KeepsFile disk waiting all_wait old → KeepsFile disk waiting true new
narrowed disk waiting all_wait old new is keeps = record { allowed = λ n content below may. keeps.allowed n content below (is n content may); same = λ n below. inl (inl refl) }

-- what is read from a file that is stable
pub read_stable : (image : Image) (held : Held) → IsHeldStable held → HasSectors image held → HasStable image held
read_stable image held stable has = record { seen = has; stable = λ n content below may. stable n content may ∙ has n below }

-- ---- the same of a file of which it may be known what it holds
pub follows_tried : (disk : DiskState) (waiting : List ℕ) (all_wait : Bool) (first end : ℕ) (old new : Option Held) → IsImage disk disk.seen → first ≤ end → end ≤ disk.size
    → IfKnown (IsRunTried first (slice_range disk.seen first end)) old new → KeepsKnown disk waiting all_wait old → KeepsKnown disk waiting all_wait new
follows_tried disk waiting all_wait first end old new image order fits is was =
    ∥∥₁_map was (λ keeps. goes old new is keeps (λ h g tried k. tried_keeps disk waiting all_wait first end h g image order fits tried k))

pub follows_run : (disk : DiskState) (waiting rest : List ℕ) (all_wait : Bool) (first end : ℕ) (file : Option Held) → IsImage disk disk.seen → first ≤ end → end ≤ disk.size
    → ((n : ℕ) → n < disk.size → Lacks waiting all_wait n → ((first ≤ n) × (n < end)) ⊎ Contains rest n)
    → IfSome file (HasRun first (slice_range disk.seen first end)) → KeepsKnown disk waiting all_wait file → KeepsKnown disk rest false file
follows_run disk waiting rest all_wait first end file image order fits covers has was =
    ∥∥₁_map was (λ keeps. both file has keeps (λ h run k. run_keeps disk waiting rest all_wait first end h image order fits covers run k))

pub follows_more : (disk : DiskState) (waiting more : List ℕ) (all_wait : Bool) (file : Option Held) → ((n : ℕ) → Contains waiting n → Contains more n)
    → KeepsKnown disk waiting all_wait file → KeepsKnown disk more all_wait file
follows_more disk waiting more all_wait file among was = ∥∥₁_map was (λ keeps. both file keeps keeps (λ h k l. more_waits disk waiting more all_wait h among k))

pub follows_write : (old new : DiskState) (n : ℕ) (content : List ℕ) (waiting : List ℕ) (all_wait : Bool) (file : Option Held) → ChangesOnly old new n content
    → Contains waiting n ⊎ (content ≡ sector old.seen n) → KeepsKnown old waiting all_wait file → KeepsKnown new waiting all_wait file
follows_write old new n content waiting all_wait file changes waits was =
    ∥∥₁_map was (λ keeps. both file keeps keeps (λ h k l.
    ⊎_elim (λ is. wrote old new n content waiting all_wait h changes is k) (λ same. rewritten old new n content waiting all_wait h changes same k) waits))

pub follows_stable : (disk : DiskState) (image : Image) (waiting : List ℕ) (all_wait : Bool) (file : Option Held) → IsImage disk disk.seen → disk.seen ≡ image → IfSome file (HasStable image)
    → KeepsKnown disk waiting all_wait file
follows_stable disk image waiting all_wait file sound seen is =
    merely (both file is is (λ h k l. stable_keeps disk waiting all_wait h sound (subst (λ (i : Image). HasStable i h) (sym seen) k)))

pub follows_failed : (disk : DiskState) (waiting : List ℕ) (all_wait : Bool) (old new : Option Held) → IfKnown IsHeldNarrowed old new → KeepsKnown disk waiting all_wait old → KeepsKnown disk waiting true new
follows_failed disk waiting all_wait old new is was = ∥∥₁_map was (λ keeps. goes old new is keeps (λ h g n k. narrowed disk waiting all_wait h g n k))

-- a file that has nothing else to get is synced, and then the disk
pub follows_synced : (disk later : DiskState) (waiting : List ℕ) (all_wait : Bool) (old new : Option Held) → IsImage disk disk.seen → IsImage later later.seen → later.seen ≡ disk.seen
    → IfKnown IsHeldSynced old new → KeepsKnown disk [] false old → KeepsKnown later waiting all_wait new
follows_synced disk later waiting all_wait old new image sound same is was =
    ∥∥₁_map was (λ keeps. goes old new is keeps (λ h g sync k. stable_keeps later waiting all_wait g sound (subst (λ (i : Image). HasStable i g) (sym same) (synced disk h g image sync k))))

-- ---- the sectors that wait, one run after the other
pub later : (waiting : List ℕ) (at n : ℕ) → Contains (drop at waiting) n → Contains waiting n
later waiting at n (k, below, is) = (at + k, (let len = length-drop at waiting in omega (arith, len, below)), sym (get_or-drop at waiting k n) ∙ is)

-- the number is in the run, or behind it in the list
behind : (waiting : List ℕ) (at count first end n : ℕ) → ((i : ℕ) → i < count → (first ≤ slice_index (drop at waiting) i) × (slice_index (drop at waiting) i < end))
    → Contains (drop at waiting) n → ((first ≤ n) × (n < end)) ⊎ Contains (drop (at + count) waiting) n
behind waiting at count first end n within (k, below, is) = elim (cases_lt k count) [
  | inl early ↦
      let here : slice_index (drop at waiting) k ≡ n = sym (get_or_default_zero (drop at waiting) k n below) ∙ is in
      let both = within k early in
      let from = both.0 in
      let to = both.1 in
      inl (omega (arith, here, from), omega (arith, here, to))
  | inr late ↦
      let len = length-drop at waiting in
      let rest = length-drop (at + count) waiting in
      inr (
        k - count,
        omega (arith, len, rest, below, late),
        get_or-drop (at + count) waiting (k - count) n ∙ ap (λ i. get_or waiting i n) (let sum : (at + count) + (k - count) ≡ at + k = omega (arith, late) in sum) ∙ sym (get_or-drop at waiting k n) ∙ is,
      )
]

-- a run that is cut from a buffer ends there
pub run_to : (seen : Image) (first end n : ℕ) (buffer run : Image) → run ≡ slice_range seen first (first + n) → n ≡ length (take (end - first) buffer) → first ≤ end → end ≤ first + length buffer
    → run ≡ slice_range seen first end
run_to seen first end n buffer run is cut order room =
    is ∙ ap (λ k. slice_range seen first k) (let here : first + n ≡ end = omega (arith, cut, order, room, length-take (end - first) buffer) in here)

pub run_failed : (disk : DiskState) (waiting : List ℕ) (at first end : ℕ) (old new : Option Held) → IsImage disk disk.seen → first ≤ end → end ≤ disk.size
    → IfKnown (IsRunTried first (slice_range disk.seen first end)) old new → KeepsKnown disk (drop at waiting) false old → KeepsKnown disk waiting false new
run_failed disk waiting at first end old new image order fits tried was =
    follows_tried disk waiting false first end old new image order fits tried (follows_more disk (drop at waiting) waiting false old (later waiting at) was)

pub run_done : (disk : DiskState) (waiting : List ℕ) (at count first end : ℕ) (old new : Option Held) → IsImage disk disk.seen → first ≤ end → end ≤ disk.size
    → ((i : ℕ) → i < count → (first ≤ slice_index (drop at waiting) i) × (slice_index (drop at waiting) i < end))
    → IfKnown (IsRunTried first (slice_range disk.seen first end)) old new → IfSome new (HasRun first (slice_range disk.seen first end)) → KeepsKnown disk (drop at waiting) false old
    → KeepsKnown disk (drop (at + count) waiting) false new
run_done disk waiting at count first end old new image order fits within tried done was =
    follows_run disk (drop at waiting) (drop (at + count) waiting) false first end new image order fits
    (λ n below lacks. ⊎_elim (λ all. cc) (λ waits. behind waiting at count first end n within waits) lacks)
    done
    (follows_tried disk (drop at waiting) false first end old new image order fits tried was)

pub follows_all : (disk : DiskState) (waiting : List ℕ) (at : ℕ) (file : Option Held) → length waiting ≤ at → KeepsKnown disk (drop at waiting) false file → KeepsKnown disk [] false file
follows_all disk waiting at file past was = follows_more disk (drop at waiting) [] false file (λ n has. let len = length-drop at waiting in let below = has.1 in absurd (omega (arith, len, past, below))) was

-- ---- a disk in memory, before a call and after it: what is known of the file stays known
pub stays_in : (waiting : List ℕ) (old new : ℕ) → new ≡ old → All (λ n. n < old) waiting → All (λ n. n < new) waiting
stays_in waiting old new same is = subst (λ size. All (λ n. n < size) waiting) (sym same) is

same_keeps : (old new : DiskState) (waiting : List ℕ) (all_wait : Bool) (held : Held) → IsSame old new → KeepsFile old waiting all_wait held → KeepsFile new waiting all_wait held
same_keeps old new waiting all_wait held is keeps = record {
  allowed = λ n content below may. is.kept n content (keeps.allowed n content (omega (arith, below, is.narrowed.size)) may);
  same = λ n below.
      ⊎_elim (λ lacks. inl lacks) (λ same. inr (same ∙ sym (ap (λ (i : Image). sector i n) is.narrowed.seen)))
      (keeps.same n (omega (arith, below, is.narrowed.size)));
}

follows_same : (old new : DiskState) (waiting : List ℕ) (all_wait : Bool) (file : Option Held) → IsSame old new → KeepsKnown old waiting all_wait file → KeepsKnown new waiting all_wait file
follows_same old new waiting all_wait file is was = ∥∥₁_map was (λ keeps. both file keeps keeps (λ h k l. same_keeps old new waiting all_wait h is k))

-- as a disk in memory has it
pub memory_in : {was old : MemDisk} (new : MemDisk) (waiting : List ℕ) → was ≡ old → IsSame (recorded_state was.history was.failures) (recorded_state new.history new.failures)
    → All (λ n. n < length old.history.start) waiting → All (λ n. n < length new.history.start) waiting
memory_in {was} {old} new waiting here same is =
    stays_in waiting (length old.history.start) (length new.history.start) (same.narrowed.size ∙ ap (λ (m : MemDisk). length m.history.start) here) is

pub memory_follows : {was old : MemDisk} (new : MemDisk) (waiting : List ℕ) (all_wait : Bool) (file : Option Held) → was ≡ old
    → IsSame (recorded_state was.history was.failures) (recorded_state new.history new.failures)
    → KeepsKnown (recorded_state old.history old.failures) waiting all_wait file → KeepsKnown (recorded_state new.history new.failures) waiting all_wait file
memory_follows {was} {old} new waiting all_wait file here same =
    follows_same (recorded_state old.history old.failures) (recorded_state new.history new.failures) waiting all_wait file
    (subst (λ (m : MemDisk). IsSame (recorded_state m.history m.failures) (recorded_state new.history new.failures)) here same)

counted_keeps : (past : Past) (f g : ℕ) (waiting : List ℕ) (all_wait : Bool) (held : Held) → KeepsFile (recorded_state past f) waiting all_wait held → KeepsFile (recorded_state past g) waiting all_wait held
counted_keeps past f g waiting all_wait held keeps = record { allowed = keeps.allowed; same = keeps.same }

-- but for the count of failures
pub follows_counted : (past new : Past) (f g : ℕ) (waiting : List ℕ) (all_wait : Bool) (file : Option Held) → new ≡ past → KeepsKnown (recorded_state past f) waiting all_wait file
    → KeepsKnown (recorded_state new g) waiting all_wait file
follows_counted past new f g waiting all_wait file same was =
    subst (λ (p : Past). KeepsKnown (recorded_state p g) waiting all_wait file) (sym same) (∥∥₁_map was (λ keeps. both file keeps keeps (λ h k l. counted_keeps past f g waiting all_wait h k)))

-- ---- one sector more waits, or isn't let in
pub pushed_in : (size n : ℕ) (old new : List ℕ) (ok : Bool) → new ≡ (if ok then old ++ n ∷ [] else old) → All (λ k. k < size) old → n < size → All (λ k. k < size) new
pushed_in size n old new true is all below = subst (All (λ k. k < size)) (sym is) (All-push (λ k. k < size) old n all below)
pushed_in size n old new false is all below = subst (All (λ k. k < size)) (sym is) all

pub pushed_more : (n : ℕ) (old new : List ℕ) (ok : Bool) → new ≡ (if ok then old ++ n ∷ [] else old) → (k : ℕ) → Contains old k → Contains new k
pushed_more n old new true is k has = subst (λ l. Contains l k) (sym is) (Contains-append_left old (n ∷ []) k has)
pushed_more n old new false is k has = subst (λ l. Contains l k) (sym is) has

pub pushed_waits : {E : Type 0} (n : ℕ) (old new : List ℕ) (r : Result (Unit {0}) E) → new ≡ (if is_ok r then old ++ n ∷ [] else old) → OnOk r (Contains new n)
pushed_waits n old new (Ok x) is = subst (λ l. Contains l n) (sym is) (Contains-append_right old (n ∷ []) n (zero, omega arith, refl))
pushed_waits n old new (Err e) is = tt

-- the order of those that wait
pub sorted_more : (disk : DiskState) (waiting sorted : List ℕ) (all_wait : Bool) (file : Option Held) → IsPermutation waiting sorted → KeepsKnown disk waiting all_wait file → KeepsKnown disk sorted all_wait file
sorted_more disk waiting sorted all_wait file is was = follows_more disk waiting sorted all_wait file (λ n has. Contains-permutation waiting sorted n is has) was

-- ---- all sectors, from the first on
pub before_none : (disk : DiskState) (waiting : List ℕ) (all_wait : Bool) (file : Option Held) → KeepsKnown disk waiting all_wait file → FollowsBefore disk 0 file
before_none disk waiting all_wait file was =
    ∥∥₁_map was (λ keeps. both file keeps keeps (λ h k l. record { allowed = k.allowed; same = λ n below early. absurd (omega (arith, early)) }))

-- all may wait
pub before_lacks : (disk : DiskState) (waiting : List ℕ) (all_wait : Bool) (first : ℕ) (file : Option Held) → all_wait ≡ true → FollowsBefore disk first file → KeepsKnown disk waiting all_wait file
before_lacks disk waiting all_wait first file all was = ∥∥₁_map was (λ keeps. both file keeps keeps (λ h k l. record { allowed = k.allowed; same = λ n below. inl (inl all) }))

-- and where these are all, none waits
pub before_all : (disk : DiskState) (first : ℕ) (file : Option Held) → disk.size ≤ first → FollowsBefore disk first file → KeepsKnown disk [] false file
before_all disk first file past was =
    ∥∥₁_map was (λ keeps. both file keeps keeps (λ h k l. record { allowed = k.allowed; same = λ n below. inr (k.same n below (omega (arith, below, past))) }))

tried_before : (disk : DiskState) (kept first end : ℕ) (old new : Held) → IsImage disk disk.seen → first ≤ end → end ≤ disk.size
    → IsRunTried first (slice_range disk.seen first end) old new → KeepsBefore disk kept old → KeepsBefore disk kept new
tried_before disk kept first end old new image order fits tried keeps = record {
  allowed = λ n content below may.
      ⊎_elim (λ was. keeps.allowed n content below was)
      (λ run. subst (λ c. disk.may_hold n c) (sym (from_disk disk first end n content order within run)) (image.each n below))
      (tried.nothing_else n content may);
  same = λ n below early.
      ⊎_elim (λ is. is ∙ keeps.same n below early) (λ run. from_disk disk first end n (sector (file_seen new) n) order within run) (tried.seen n);
}
  where
    within : end ≤ length disk.seen
    within = let size = image.size in omega (arith, fits, size)

done_before : (disk : DiskState) (first end : ℕ) (held : Held) → IsImage disk disk.seen → first ≤ end → end ≤ disk.size
    → HasRun first (slice_range disk.seen first end) held → KeepsBefore disk first held → KeepsBefore disk end held
done_before disk first end held image order fits has keeps = record {
  allowed = keeps.allowed;
  same = λ n below early. elim (cases_lt n first) [
    | inl sooner ↦ keeps.same n below sooner
    | inr from ↦ has n from (len n early) ∙ sector_of_range disk.seen first end n from early
  ];
}
  where
    len : (n : ℕ) → n < end → n < first + length (slice_range disk.seen first end)
    len n below = let size = image.size in let length = length-range disk.seen first end order (omega (arith, fits, size)) in omega (arith, length, below)

pub follows_tried_before : (disk : DiskState) (kept first end : ℕ) (old new : Option Held) → IsImage disk disk.seen → first ≤ end → end ≤ disk.size
    → IfKnown (IsRunTried first (slice_range disk.seen first end)) old new → FollowsBefore disk kept old → FollowsBefore disk kept new
follows_tried_before disk kept first end old new image order fits is was =
    ∥∥₁_map was (λ keeps. goes old new is keeps (λ h g tried k. tried_before disk kept first end h g image order fits tried k))

pub follows_done_before : (disk : DiskState) (first end : ℕ) (file : Option Held) → IsImage disk disk.seen → first ≤ end → end ≤ disk.size
    → IfSome file (HasRun first (slice_range disk.seen first end)) → FollowsBefore disk first file → FollowsBefore disk end file
follows_done_before disk first end file image order fits has was =
    ∥∥₁_map was (λ keeps. both file has keeps (λ h run k. done_before disk first end h image order fits run k))

-- less than these
pub before_less : (disk : DiskState) (first less : ℕ) (file : Option Held) → less ≤ first → FollowsBefore disk first file → FollowsBefore disk less file
before_less disk first less file order was =
    ∥∥₁_map was (λ keeps. both file keeps keeps (λ h k l. record { allowed = k.allowed; same = λ n below early. k.same n below (omega (arith, early, order)) }))

-- ---- what is read
-- The first sectors are as the file has them, and those behind are zeros still.
pub record IsReadTo (at count : ℕ) (sectors : Image) (first file : Option Held) : Type 0 where
  pub fits : at ≤ count
  pub len : length sectors ≡ count
  pub behind : (n : ℕ) → at ≤ n → n < count → sector sectors n ≡ replicate 512 0
  pub same : file ≡ first
  pub read : IfSome file (λ held. (n : ℕ) → n < at → sector (file_seen held) n ≡ sector sectors n)

pub read_none : (count : ℕ) (sectors : Image) (file : Option Held) → sectors ≡ replicate count (replicate 512 0) → IsReadTo 0 count sectors file file
read_none count sectors file zeros = record {
  fits = omega arith;
  len = ap (λ (i : Image). length i) zeros ∙ length-replicate count (replicate 512 0);
  behind = λ n from below. ap (λ (i : Image). sector i n) zeros ∙ get_or-replicate count n (replicate 512 0) [] below;
  same = refl;
  read = nothing file;
}
  where
    nothing : (file : Option Held) → IfSome file (λ held. (n : ℕ) → n < 0 → sector (file_seen held) n ≡ sector sectors n)
    nothing None = tt
    nothing (Some held) = λ n below. absurd (omega (arith, below))

-- a piece is as long as the buffer, or as what is left
pub piece_fits : (at count len : ℕ) (buffer piece : Image) → at ≤ count
    → len ≡ min (length buffer) (count - at) → length piece ≡ length (take len buffer)
    → (length piece ≡ len) × (at + length piece ≤ count)
piece_fits at count len buffer piece fits is size =
    (omega (arith, is, size, length-take len buffer), omega (arith, fits, is, size, length-take len buffer))

pub read_more : (at count end : ℕ) (piece sectors more : Image) (first old new : Option Held) → IsReadTo at count sectors first old → at + length piece ≤ count → end ≡ at + length piece
    → new ≡ old → IfSome new (HasRun at piece) → IsRunSet at piece sectors more → IsReadTo end count more first new
read_more at count end piece sectors more first old new was fits is same has set = record {
  fits = omega (arith, fits, is);
  len = set.len ∙ was.len;
  behind = λ n past below. set.behind n (omega (arith, past, is)) ∙ was.behind n (omega (arith, past, is)) below;
  same = same ∙ was.same;
  read = both new has (subst (λ (o : Option Held). IfSome o (λ held. (n : ℕ) → n < at → sector (file_seen held) n ≡ sector sectors n)) (sym same) was.read) each;
}
  where
    each : (h : Held) → HasRun at piece h → ((n : ℕ) → n < at → sector (file_seen h) n ≡ sector sectors n) → (n : ℕ) → n < end → sector (file_seen h) n ≡ sector more n
    each h known read n below = elim (cases_lt n at) [
      | inl early ↦ read n early ∙ sym (set.before n early)
      | inr past ↦ known n past (omega (arith, below, is)) ∙ sym (set.inside n past (omega (arith, below, is)))
    ]

pub read_all : (at count : ℕ) (sectors : Image) (first file : Option Held) → count ≤ at → IsReadTo at count sectors first file → IfSome file (HasSectors sectors)
read_all at count sectors first file past was = both file was.read was.read (λ h r s. λ n below. r n (let len = was.len in omega (arith, below, past, len)))
