-- What a stop leaves of a store, from one call to the next.
use Rattle.std.proofs.Common.{◌≡◌, inl, inr, ⊎_elim, List, refl, ◌∙◌, subst}
use Rattle.std.specs.Prelude.{Result, Ok, Err, IfOk}
use Rattle.fs_layout.specs.Bytes.{SectorMap}
use Rattle.sector_disk.specs.Disk.{DiskState, Image, IsImage, IsNarrowed, OnlyReads}
use Rattle.sector_disk.proofs.Moments.{joined, narrowed, reads_then, started, weaker}
use Rattle.redo_journal.specs.Batch.{BatchView, Entry, with_batch}
use Rattle.redo_journal.specs.States.{header_at}
use Rattle.redo_journal.specs.Meaning.{EachReadsAs, SameMap, LeavesSameMap, LeavesUsedOr, MeansUsed, data_of}
use Rattle.redo_journal.proofs.Meaning.{reads_same}
use Rattle.sector_txn.specs.Images.{IsOneOf, LeavesOldOr, LeavesOneOf, LogsAll, MeansUsedBefore}
use Rattle.sector_txn.specs.Stores.{IsWaiting, StoreView, all_waiting, present}
use Rattle.sector_txn.proofs.Commits.{few_waits}

-- an image means what it means itself
pub means_itself : {disk : DiskState} {image : Image} → IsImage disk image → MeansUsedBefore disk image
means_itself {disk} {image} is = (image, is, record { whole = is.size; commit = (λ valid. valid, λ valid. valid); reads = λ n part used. refl })

-- a call that does nothing
pub nothing_left : {before after : SectorMap} {disk : DiskState} → ((image : Image) → disk.left_since disk.moment image → IsImage disk image) → LeavesOneOf before after disk disk
nothing_left only_now = record { size = refl; any_moment = started only_now (λ image is. inl (means_itself is)) }

-- ---- a commit

-- what a commit leaves that writes free sectors to their places
pub used_left : (sectors : SectorMap) (old new : DiskState) → IsImage old old.seen → new.size ≡ old.size → LeavesUsedOr sectors old new → LeavesOldOr sectors old new
used_left sectors old new seen size run = record {
  size = size;
  any_moment = weaker (λ image. ⊎_elim (λ means. inl (old.seen, seen, means)) (λ reads. inr (inl reads))) run;
}

-- two facts of what a call gave
pub if_ok_both : {A E : Type 0} {P Q R : A → Type 0} (r : Result A E) → ((a : A) → P a → Q a → R a) → IfOk r P → IfOk r Q → IfOk r R
if_ok_both (Ok a) both p q = both a p q
if_ok_both (Err e) both p q = p

-- and three
pub if_ok_each : {A E : Type 0} {P Q R S : A → Type 0} (r : Result A E) → ((a : A) → P a → Q a → R a → S a) → IfOk r P → IfOk r Q → IfOk r R → IfOk r S
if_ok_each (Ok a) all p q r = all a p q r
if_ok_each (Err e) all p q r = p

-- after a commit, a step that leaves the same map
pub closed_left : (after : SectorMap) (old mid new : DiskState) → new.size ≡ mid.size → SameMap (data_of mid) after → LeavesOldOr after old mid → LeavesSameMap mid new → LeavesOldOr after old new
closed_left after old mid new size same first then = record {
  size = size ∙ first.size;
  any_moment = joined first.any_moment (weaker (λ image reads. inr (inl (reads_same old.size mid.size (data_of mid) after first.size same image reads))) then);
}

-- for a caller that speaks of one map more
pub second_map : {before after : SectorMap} {old new : DiskState} → LeavesOldOr after old new → LeavesOneOf before after old new
second_map run = record { size = run.size; any_moment = weaker (λ image. ⊎_elim (λ means. inl means) (⊎_elim (λ reads. inr (inr reads)) (λ reads. inr (inr reads)))) run.any_moment }

pub first_map : {before after : SectorMap} {old new : DiskState} → LeavesOldOr before old new → LeavesOneOf before after old new
first_map run = record { size = run.size; any_moment = weaker (λ image. ⊎_elim (λ means. inl means) (⊎_elim (λ reads. inr (inl reads)) (λ reads. inr (inl reads)))) run.any_moment }

-- what is left is so of maps with the same data
pub maps_same : {before after before' after' : SectorMap} {old new : DiskState} → SameMap before before' → SameMap after after' → LeavesOneOf before after old new → LeavesOneOf before' after' old new
maps_same {before} {after} {before'} {after'} {old} {new} same_before same_after run = record {
  size = run.size;
  any_moment = weaker
      (λ image. ⊎_elim (λ means. inl means)
      (⊎_elim (λ reads. inr (inl (reads_same old.size old.size before before' refl same_before image reads)))
      (λ reads. inr (inr (reads_same old.size old.size after after' refl same_after image reads)))))
      run.any_moment;
}

-- an image of a later moment, before which the disk was only read
one_of_earlier : {before after : SectorMap} {old new : DiskState} → IsNarrowed old new → (image : Image) → IsOneOf new before after image → IsOneOf old before after image
one_of_earlier {before} {after} {old} {new} changes image =
    ⊎_elim (λ (means : MeansUsedBefore new image). inl (means.0, narrowed changes means.1, subst (λ k. MeansUsed k means.0 image) changes.size means.2))
    (⊎_elim (λ reads. inr (inl (reads_same old.size new.size before before changes.size (λ n part. refl) image reads)))
    (λ reads. inr (inr (reads_same old.size new.size after after changes.size (λ n part. refl) image reads))))

-- a call that begins with reads alone
pub after_reads : {before after : SectorMap} {old mid new : DiskState} → ((image : Image) → old.left_since old.moment image → IsImage old image) → OnlyReads old mid → LeavesOneOf before after mid new → LeavesOneOf before after old new
after_reads only_now reads run = record {
  size = run.size ∙ reads.narrowed.size;
  any_moment = reads_then reads (weaker (one_of_earlier reads.narrowed) run.any_moment) (λ image left. inl (means_itself (only_now image left)));
}

-- what a stop leaves of a store, as it is seen
pub store_left : {D : Type 0} (state : D → DiskState) {inside seen : StoreView D} {new : DiskState} → inside ≡ seen → LeavesOldOr (present state inside) (state inside.disk) new
    → LeavesOldOr (present state seen) (state seen.disk) new
store_left state {new = new} is left = subst (λ store. LeavesOldOr (present state store) (state store.disk) new) is left

-- ---- where all that waits goes through the log
-- a commit of nothing
pub nothing_logs : {placed logged : BatchView} {disk : DiskState} → IsWaiting disk placed logged → ((image : Image) → disk.left_since disk.moment image → IsImage disk image) → EachReadsAs (data_of disk) disk
    → header_at disk.seen ≡ 0 → LogsAll (all_waiting placed.entries logged.entries) disk disk
nothing_logs {placed} {logged} {disk} waits only_now ready header = record {
  few = few_waits disk placed logged waits header;
  any_moment = started only_now (λ image is. inl (ready image is));
}

-- after a commit, a step that leaves the same map
pub logs_closed : (waiting : List Entry) (old mid new : DiskState) → mid.size ≡ old.size → SameMap (data_of mid) (with_batch waiting (data_of old)) → LogsAll waiting old mid → LeavesSameMap mid new → LogsAll waiting old new
logs_closed waiting old mid new size same first then = record {
  few = first.few;
  any_moment = joined first.any_moment (weaker (λ image reads. inr (reads_same old.size mid.size (data_of mid) (with_batch waiting (data_of old)) size same image reads)) then);
}

-- and a store's, as it is seen
pub store_logs : {D : Type 0} (state : D → DiskState) {inside seen : StoreView D} {new : DiskState} → inside ≡ seen
    → (header_at (state inside.disk).seen ≡ 0 → LogsAll inside.waiting (state inside.disk) new) → header_at (state seen.disk).seen ≡ 0 → LogsAll seen.waiting (state seen.disk) new
store_logs state {new = new} is run = subst (λ store. header_at (state store.disk).seen ≡ 0 → LogsAll store.waiting (state store.disk) new) is run
