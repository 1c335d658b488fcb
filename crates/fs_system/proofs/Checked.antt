-- A mount after a check, which only reads.
use Rattle.std.proofs.Common.{◌≡◌, ℕ, length, refl, sym, subst, arith, ◌∙◌}
use Rattle.sector_disk.specs.Disk.{DiskState, Image, sector, IsImage, LeavesOnly, OnlyReads}
use Rattle.sector_disk.proofs.Moments.{failed_later, narrowed, reads_then, weaker}
use Rattle.fs_model.specs.declared.event.RestartFault.{RestartFault}
use Rattle.fs_model.specs.declared.event.RestartFault.TheVariants as restarts
use Rattle.fs_model.specs.States.{State}
use Rattle.fs_model.specs.Stands.{Stands}
use Rattle.fs_model.specs.Trees.{Tree, Room}
use Rattle.fs_system.specs.Mounts.{IsNotMounted, Mounts, FailsToMount}
use Rattle.fs_system.specs.Mounting.{StandsAsBefore, fault_of}
use Rattle.fs_images.specs.Standing.{StandsFor, StandsForSome}

module _ (old mid : DiskState) (reads : OnlyReads old mid) where
  -- what a mount finds then is what was there before the check
  pub then_mounts : (now : DiskState) (s : State) → Mounts mid now s → Mounts old now s
  then_mounts now s found = record {
    some = subst StandsForSome reads.narrowed.seen found.some;
    each = λ room t free stands. found.each room t free (subst (λ (image : Image). StandsFor room image t free) (sym reads.narrowed.seen) stands);
    later = let first = reads.failures in let then = found.later in omega (arith, first, then);
    unhalted = found.unhalted ∙ reads.failed_writes;
  }

  pub then_fails : (now : DiskState) (fault : RestartFault) → FailsToMount mid now fault → FailsToMount old now fault
  then_fails now fault failed = record {
    images = λ image is. let from = failed.images image is in (from.0, narrowed reads.narrowed from.1, from.2);
    later = let first = reads.failures in let then = failed.later in omega (arith, first, then);
    cause = λ is. failed_later old mid now reads.failures (failed.cause is);
  }

  pub then_refused : (now : DiskState) (fault : RestartFault) → FailsToMount mid now fault → IsNotMounted old now (fault_of fault)
  then_refused now restarts.DiskFault failed = then_fails now restarts.DiskFault failed
  then_refused now restarts.OutOfMemory failed = then_fails now restarts.OutOfMemory failed

  -- a disk that was found clean stands for a tree then
  pub then_stands_for_some : length old.seen ≡ old.size → (room : Room) (t : Tree) (free : ℕ) → Stands old.size (sector old.seen) room t free → StandsForSome mid.seen
  then_stands_for_some size room t free stands =
      subst StandsForSome (sym reads.narrowed.seen) (room, t, free, subst (λ n. Stands n (sector old.seen) room t free) (sym size) stands)

  -- at any moment
  module _ (only_now : (image : Image) → old.left_since old.moment image → IsImage old image) where
    as_it_was : (image : Image) → old.left_since old.moment image → StandsAsBefore old image
    as_it_was image left = (image, only_now image left, λ room t free stands. (t, free, stands, refl))

    pub then_stands : (new : DiskState) → LeavesOnly mid new (StandsAsBefore mid) → LeavesOnly old new (StandsAsBefore old)
    then_stands new run = reads_then reads (weaker (λ image from. (from.0, narrowed reads.narrowed from.1, from.2)) run) as_it_was
