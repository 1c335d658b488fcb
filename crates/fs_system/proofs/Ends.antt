-- What an event comes to: a state, and what was done to the disk.
use Rattle.call_parts.specs.BothTables.{Tables}
use Rattle.std.proofs.Common.{◌≡◌, ◌≤◌, ℕ, Bool, true, false, None, IsTrue, refl, sym, ap, subst, ◌∙◌, arith, inl, inr}
use Rattle.std.specs.Prelude.{IsFalse, ◌&&◌}
use Rattle.sector_disk.specs.Disk.{DiskState, Image, IsImage, IsSame, LeavesOnly, OnlyReads, HasFailed, HasFailedToWrite}
use Rattle.sector_disk.proofs.Moments.{holds_now, reads_nothing}
use Rattle.fs_layout.specs.declared.geometry.Geometry.{Geometry}
use Rattle.fs_layout.specs.Bytes.{SectorMap}
use Rattle.fs_cred.specs.declared.errno.Errno.TheVariants.{EIO}
use Rattle.fs_cred.specs.declared.refusal.Refusal.TheVariants.{Failed}
use Rattle.redo_journal.specs.Meaning.{SameMap, EachReadsAs}
use Rattle.sector_txn.specs.Images.{LeavesOldOr}
use Rattle.fs_model.specs.declared.reply.Reply.{Reply}
use Rattle.fs_model.specs.declared.reply.Reply.TheVariants.{Done, Space, Refused}
use Rattle.fs_model.specs.declared.event.Event.{Event}
use Rattle.fs_model.specs.declared.event.Event.TheVariants.{Statfs}
use Rattle.fs_model.specs.Trees.{Tree, Room, IsTree, free_inodes}
use Rattle.fs_model.specs.States.{State, IsState}
use Rattle.fs_model.specs.Steps.{Step, is_of_machine, firm_refusal}
use Rattle.fs_model.specs.Stops.{asks_stable, makes_stable, is_io_error}
use Rattle.call_parts.specs.Performing.{IsStateOf}
use Rattle.fs_system.specs.Doing.{Does, IsFound}
use Rattle.fs_system.specs.Layouts.{IsDiskOf}
use Rattle.fs_system.specs.Running.{IsRunning}
use Rattle.fs_images.specs.Standing.{EachStandsForSome, StandsForSome, EachStandsFor}
use Rattle.fs_system.proofs.Acting.{halted_answers, flushes, flush_halts, tells_space, space_unread}
use Rattle.fs_system.proofs.Joining.{HoldsCounted, holds_same, disk_same, leaves_found, each_stands}

-- ---- what a stop leaves

pub found_before : (old : DiskState) (s : State) (added : Tree) (image : Image) → IsImage old image → IsFound old s added image
found_before old s added image is = inl (image, is, λ room t free stands. stands)

-- what was found stands for some tree
found_stands : (old : DiskState) (s : State) (added : Tree) → EachStandsForSome old → (image : Image) → IsFound old s added image → StandsForSome image
found_stands old s added may image (inl (from, is, stand)) =
    let was = may from is in
    (was.0, was.1, was.2, stand was.0 was.1 was.2 was.3)
found_stands old s added may image (inr (inl (up, (free, stands)))) = (s.room, s.tree, free, stands)
found_stands old s added may image (inr (inr (free, stands))) = (s.room, added, free, stands)

-- so that what is left may be mounted
pub mountable_then : (old new : DiskState) (s : State) (added : Tree)
    → ((t : ℕ) (image : Image) → t ≤ new.moment → IsImage new image → new.left_since t image)
    → EachStandsForSome old → LeavesOnly old new (IsFound old s added) → EachStandsForSome new
mountable_then old new s added counts_now may run = λ image is. found_stands old s added may image (holds_now run counts_now is)

-- ---- where the disk is only read

module _ (old new : DiskState) (only_now : (image : Image) → old.left_since old.moment image → IsImage old image) (reads : OnlyReads old new) where
  read_images : (s : State) (added : Tree) → LeavesOnly old new (IsFound old s added)
  read_images s added = record {
    later = reads.later;
    each = λ image left. found_before old s added image (only_now image (reads.since old.moment image (omega arith) left));
    before = λ t image le left. inl (reads.since t image le left);
  }

  pub does_reading : (s t : State) (e : Event) (r : Reply) → IsFalse s.halted → IsFalse t.halted → Step s e r t → makes_stable e r ≡ false
      → (IsTrue (is_io_error r) → HasFailed old new) → Does old new s e r t
  does_reading s t e r up still steps unstable cause = record {
    serves = steps;
    added = t.tree;
    is_added = inl refl;
    images = read_images s t.tree;
    synced = λ stable. absurd (let c = sym unstable ∙ stable in cc);
    cause = λ io running. cause io;
    halts = λ running halted. absurd (let c = sym still ∙ halted in cc);
    unhalted = λ running. reads.failed_writes;
    unread = λ io running. reads;
    later = reads.failures;
    still = λ halted. absurd (let c = sym up ∙ halted in cc);
  }

-- ---- where the disk isn't called

pub same_disk : (disk : DiskState) → IsSame disk disk
same_disk disk = record { narrowed = record { size = refl; seen = refl; nothing_else = λ n content holds. holds }; kept = λ n content holds. holds }

and_false : (b c : Bool) → c ≡ false → (b && c) ≡ false
and_false true c e = e
and_false false c e = refl

module _ (disk : DiskState) (only_now : (image : Image) → disk.left_since disk.moment image → IsImage disk image) where
  pub does_nothing : (s t : State) (e : Event) (r : Reply) → IsFalse s.halted → IsFalse t.halted → Step s e r t → makes_stable e r ≡ false
      → is_io_error r ≡ false → Does disk disk s e r t
  does_nothing s t e r up still steps unstable no_fault =
      does_reading disk disk only_now reads_nothing s t e r up still steps unstable (λ io. absurd (let c = sym no_fault ∙ io in cc))

  pub does_halted : (s : State) (e : Event) → IsTrue (is_of_machine e) → IsTrue s.halted → Does disk disk s e (Refused (Failed EIO)) s
  does_halted s e machine halted = record {
    serves = halted_answers s e machine halted;
    added = s.tree;
    is_added = inl refl;
    images = read_images disk disk only_now reads_nothing s s.tree;
    synced = λ stable. absurd (let c = sym (and_false (asks_stable e) false refl) ∙ stable in cc);
    cause = λ io up. absurd (let c = sym halted ∙ up in cc);
    halts = λ up now. absurd (let c = sym halted ∙ up in cc);
    unhalted = λ up. refl;
    unread = λ io up. absurd (let c = sym halted ∙ up in cc);
    later = omega arith;
    still = λ h. same_disk disk;
  }

-- ---- maps with the same data

pub tree_held : (p : Geometry) (map : SectorMap) (tables : Tables) (s : State) → IsStateOf p map tables s → HoldsCounted p map s.tree s.free
tree_held p map tables s at =
    record { holds = at.holds; tree_is = subst (λ (r : Room). IsTree r s.tree) at.same_room at.is_state.tree; free_is = at.free_is }

pub running_same : (size size' : ℕ) (p : Geometry) (old new : SectorMap) (tables tables' : Tables) (s : State) → size' ≡ size → SameMap new old → tables' ≡ tables
    → IsRunning size p old tables s → IsRunning size' p new tables' s
running_same size size' p old new tables tables' s sized same tabled r =
    let held = holds_same size p old new s.tree s.free same r.disk_is (tree_held p old tables s r.state_of) in
    record {
      disk_is = subst (λ n. IsDiskOf n p new) (sym sized) (disk_same size p old new same r.disk_is);
      state_of = record {
        is_state = r.state_of.is_state;
        up = r.state_of.up;
        same_tables = r.state_of.same_tables ∙ sym tabled;
        same_room = r.state_of.same_room;
        holds = held.holds;
        free_is = held.free_is;
      };
    }

-- a running system with other tables
pub running_with : (size : ℕ) (p : Geometry) (map : SectorMap) (tables tables' : Tables) (s : State) → IsState (record s { processes = tables'.processes; openings = tables'.openings })
    → IsRunning size p map tables s → IsRunning size p map tables' (record s { processes = tables'.processes; openings = tables'.openings })
running_with size p map tables tables' s is r = record {
  disk_is = r.disk_is;
  state_of = record {
    is_state = is;
    up = r.state_of.up;
    same_tables = refl;
    same_room = r.state_of.same_room;
    holds = r.state_of.holds;
    free_is = r.state_of.free_is;
  };
}

-- a running system at another time
pub running_at : (size : ℕ) (p : Geometry) (map : SectorMap) (tables : Tables) (time : ℕ) (s : State) → IsState (record s { now = time })
    → IsRunning size p map tables s → IsRunning size p map tables (record s { now = time })
running_at size p map tables time s is r = record {
  disk_is = r.disk_is;
  state_of = record {
    is_state = is;
    up = r.state_of.up;
    same_tables = r.state_of.same_tables;
    same_room = r.state_of.same_room;
    holds = r.state_of.holds;
    free_is = r.state_of.free_is;
  };
}

-- ---- what a flush leaves may be mounted

pub flush_mountable : (old new : DiskState) (p : Geometry) (map : SectorMap) (tables : Tables) (s : State) → IsRunning old.size p map tables s
    → LeavesOldOr map old new → ((t : ℕ) (image : Image) → t ≤ new.moment → IsImage new image → new.left_since t image) → EachStandsForSome old → EachStandsForSome new
flush_mountable old new p map tables s r run counts_now may =
    let held = tree_held p map tables s r.state_of in
    mountable_then old new s s.tree counts_now may
    (leaves_found p map map s s.tree s.free old new r.state_of.same_room r.state_of.up r.disk_is held r.disk_is held run)

-- ---- sync and fsync, from a store whose map is `map` on the disk `old`

module _ (old new : DiskState) (p : Geometry) (map : SectorMap) (tables : Tables) (s : State) (r : IsRunning old.size p map tables s)
    (run : LeavesOldOr map old new) (later : old.failures ≤ new.failures) (e : Event) (asks : IsTrue (asks_stable e)) (firm : firm_refusal s e ≡ None) where
  flush_images : LeavesOnly old new (IsFound old s s.tree)
  flush_images =
      let held = tree_held p map tables s r.state_of in
      leaves_found p map map s s.tree s.free old new r.state_of.same_room r.state_of.up r.disk_is held r.disk_is held run

  pub does_flush : EachReadsAs map new → new.failed_writes ≡ old.failed_writes → Does old new s e Done s
  does_flush lasting quiet = record {
    serves = flushes s r.state_of.is_state r.state_of.up e asks firm;
    added = s.tree;
    is_added = inl refl;
    images = flush_images;
    synced = λ stable. subst (λ (q : Room). EachStandsFor q new s.tree) (sym r.state_of.same_room)
        (each_stands p map s.tree s.free new (subst (λ n. IsDiskOf n p map) (sym run.size) r.disk_is) (tree_held p map tables s r.state_of) lasting);
    cause = λ io up. absurd cc;
    halts = λ up halted. absurd (let c = sym up ∙ halted in cc);
    unhalted = λ up. quiet;
    unread = λ io up. absurd cc;
    later = later;
    still = λ halted. absurd (let c = sym r.state_of.up ∙ halted in cc);
  }

  pub does_flush_halt : HasFailed old new → HasFailedToWrite old new → Does old new s e (Refused (Failed EIO)) (record s { halted = true })
  does_flush_halt failed unwritten = record {
    serves = flush_halts s r.state_of.is_state r.state_of.up e asks firm;
    added = s.tree;
    is_added = inl refl;
    images = flush_images;
    synced = λ stable. absurd (let c = sym (and_false (asks_stable e) false refl) ∙ stable in cc);
    cause = λ io up. failed;
    halts = λ up halted. unwritten;
    unhalted = λ up. absurd cc;
    unread = λ io up. absurd cc;
    later = later;
    still = λ halted. absurd (let c = sym r.state_of.up ∙ halted in cc);
  }

-- ---- statfs

module _ (old new : DiskState) (only_now : (image : Image) → old.left_since old.moment image → IsImage old image) (reads : OnlyReads old new)
    (size : ℕ) (p : Geometry) (map : SectorMap) (tables : Tables) (s : State) (r : IsRunning size p map tables s) where
  -- where these are the numbers
  pub does_told : (sectors inodes : ℕ) → s.free ≡ sectors → free_inodes s.room s.tree ≡ inodes → Does old new s Statfs (Space sectors inodes) s
  does_told sectors inodes all numbers =
      let told : Space s.free (free_inodes s.room s.tree) ≡ Space sectors inodes =
      ap (λ n. Space n (free_inodes s.room s.tree)) all ∙ ap (λ n. Space sectors n) numbers in
      does_reading old new only_now reads s s Statfs (Space sectors inodes) r.state_of.up r.state_of.up
      (subst (λ (q : Reply). Step s Statfs q s) told (tells_space s r.state_of.up r.state_of.is_state)) refl (λ io. absurd cc)

  pub does_uncounted : HasFailed old new → Does old new s Statfs (Refused (Failed EIO)) s
  does_uncounted failed =
      does_reading old new only_now reads s s Statfs (Refused (Failed EIO)) r.state_of.up r.state_of.up (space_unread s r.state_of.up) refl (λ io. failed)
