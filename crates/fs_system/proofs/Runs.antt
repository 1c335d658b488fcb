-- Histories are runs of the machine.
use Rattle.std.proofs.Common.{◌≡◌, ◌≤◌, inl, inr, ◌+◌, ℕ, List, [], ◌∷◌, ◌++◌, Bool, true, false, cond, IsTrue, refl, sym, ap, subst, ◌∙◌, arith}
use Rattle.std.specs.Prelude.{IsFalse, Contains, ◌&&◌, not, Option}
use Rattle.std.proofs.lemmas.List.Elements.{Contains-append_left, Contains-append_right}
use Rattle.sector_disk.specs.Disk.{DiskState, Image, IsImage, IsSame, HasFailed}
use Rattle.sector_disk.proofs.Moments.{holds_now, unchanged}
use Rattle.fs_model.specs.declared.reply.Reply.{Reply}
use Rattle.fs_model.specs.declared.event.Event.{Event}
use Rattle.fs_model.specs.declared.event.Event.TheVariants.{Restart}
use Rattle.fs_model.specs.declared.event.EventReply.{EventReply}
use Rattle.fs_model.specs.declared.event.EventReply.TheVariants.{Reply as Replies, Mounted, MountFailed}
use Rattle.fs_model.specs.declared.event.RestartFault.{RestartFault}
use Rattle.fs_model.specs.declared.event.RestartFault.TheVariants.{DiskFault, OutOfMemory}
use Rattle.fs_model.specs.Trees.{Tree, Room}
use Rattle.fs_model.specs.TreeChanges.{pruned}
use Rattle.fs_model.specs.States.{State, MayBeFree}
use Rattle.fs_model.specs.Steps.{Step, Answers, Choice, after, tree_after, is_of_machine}
use Rattle.fs_model.specs.Steps as step
use Rattle.fs_model.specs.Stops.{Machine, MachineStep, MachineRun, Stops, Halts, trees_after, makes_stable, is_io_error, faults_in, mount_faults, stepped, restarted}
use Rattle.fs_model.specs.Stops as machine
use Rattle.fs_model.proofs.Swept.{pruned_twice}
use Rattle.fs_system.specs.Played.{CountsFor}
use Rattle.fs_system.specs.Histories.{Stopped, Config, Up, Off, device, Goes, does, is_down, arms_up, arms_off, restarts, fails, on_disk, ends, goes, forgets, Follows, HistoriesAreRuns}
use Rattle.fs_system.specs.Mounts.{Mounts, FailsToMount}
use Rattle.fs_images.specs.Standing.{StandsFor, Covers}
use Rattle.fs_system.specs.Doing.{Does, Adds, IsFound}

-- ---- steps

-- a step keeps the room
room_kept : (old new : State) (e : Event) (r : Reply) → Answers old e r new → new.room ≡ old.room
room_kept old new e r (step.is_halted h i j) = ap (λ s. s.room) j
room_kept old new e r (step.refuses_early h q f i j) = ap (λ s. s.room) j
room_kept old new e r (step.refuses_late h q f o i j) = ap (λ s. s.room) j
room_kept old new e r (step.acts c a i j) = ap (λ s. s.room) j
room_kept old new e r (step.lacks_memory h f q i j) = ap (λ s. s.room) j
room_kept old new e r (step.read_fails h f i j) = ap (λ s. s.room) j
room_kept old new e r (step.write_fails c a i d o q j) = ap (λ s. s.room) j

-- one that was not halted was not halted before
stayed : {A : Type 0} (old new : State) → IsFalse old.halted → new ≡ old → IsTrue new.halted → A
stayed old new runs same halted = let e : new.halted ≡ old.halted = ap (λ s. s.halted) same in absurd cc

-- what halts the machine is answered EIO
halting : (old new : State) (e : Event) (r : Reply) → Answers old e r new → IsFalse old.halted → IsTrue new.halted → is_io_error r ≡ true
halting old new e r (step.is_halted h i j) runs x = ap is_io_error i
halting old new e r (step.refuses_early h q f i j) runs x = stayed old new runs j x
halting old new e r (step.refuses_late h q f o i j) runs x = stayed old new runs j x
halting old new e r (step.acts c a i j) runs x = let same : new.halted ≡ old.halted = ap (λ s. s.halted) j in absurd cc
halting old new e r (step.lacks_memory h f q i j) runs x = stayed old new runs j x
halting old new e r (step.read_fails h f i j) runs x = ap is_io_error i
halting old new e r (step.write_fails c a i d o q j) runs x = ap is_io_error i

pub only_here : (t : Tree) → Contains (t ∷ []) t
only_here t = (0, omega arith, refl)

-- ---- images

-- what was found is covered by the trees of before, with the one that is added
found_covered : (room : Room) (before : DiskState) (old : State) (added : Tree) (trees more : List Tree) (image : Image) → old.room ≡ room
    → Covers room trees before → (IsFalse old.halted → Contains trees old.tree)
    → Contains more added → ((t : Tree) → Contains trees t → Contains more t) → IsFound before old added image
    → (t : Tree) × (free : ℕ) × StandsFor room image t free × (u : Tree) × Contains more u × (pruned t ≡ pruned u)
found_covered room before old added trees more image same covers present there all (inl was) =
    let c = covers was.0 was.1 in
    (c.0, c.1, was.2 room c.0 c.1 c.2, c.3, all c.3 c.4, c.5)
found_covered room before old added trees more image same covers present there all (inr (inl now)) =
    (old.tree, now.1.0, subst (λ (r : Room). StandsFor r image old.tree now.1.0) same now.1.1, old.tree, all old.tree (present now.0), refl)
found_covered room before old added trees more image same covers present there all (inr (inr new)) =
    (added, new.0, subst (λ (r : Room). StandsFor r image added new.0) same new.1, added, there, refl)

-- ---- the count of faults

counted : (faults : ℕ) (start before now : DiskState) → CountsFor faults start before → before.failures ≤ now.failures → CountsFor faults start now
counted faults start before now (inl few) later = inl (omega (arith, few, later))
counted faults start before now (inr worn) later = inr (omega (arith, worn, later))

one_more : (faults : ℕ) (start before now : DiskState) → CountsFor faults start before → before.failures ≤ now.failures → HasFailed before now
    → CountsFor (faults + 1) start now
one_more faults start before now (inl few) later (inl more) = inl (omega (arith, few, more))
one_more faults start before now (inl few) later (inr worn) = inr (omega (arith, worn))
one_more faults start before now (inr worn) later f = inr (omega (arith, worn, later))

first_true : (a b : Bool) → (a && not b) ≡ true → a ≡ true
first_true true b e = refl
first_true false b e = absurd cc

second_false : (a b : Bool) → (a && not b) ≡ true → b ≡ false
second_false true true e = absurd cc
second_false true false e = refl
second_false false b e = absurd cc

-- EIO counts where the machine was not halted
faults_counted : (faults : ℕ) (start before now : DiskState) (s : State) (r : Reply) (b : Bool) → (is_io_error r && not s.halted) ≡ b
    → CountsFor faults start before → before.failures ≤ now.failures
    → (IsTrue (is_io_error r) → IsFalse s.halted → HasFailed before now) → CountsFor (faults + faults_in s r) start now
faults_counted faults start before now s r true k few later cause =
    subst (λ (q : Bool). CountsFor (faults + cond q 1 0) start now) (sym k)
    (one_more faults start before now few later (cause (first_true _ _ k) (second_false _ _ k)))
faults_counted faults start before now s r false k few later cause =
    subst (λ (q : Bool). CountsFor (faults + cond q 1 0) start now) (sym k)
    (let same : faults ≡ faults + 0 = omega arith in subst (λ (n : ℕ). CountsFor n start now) same (counted faults start before now few later))

-- ---- one event after another

module _ {D : Type 0} (state : D → DiskState) (counts_now : (disk : D) (t : ℕ) (image : Image) → t ≤ (state disk).moment → IsImage (state disk) image → (state disk).left_since t image) where
  -- the machine goes along
  abbrev Next : Room → DiskState → Machine → Event → EventReply → Config D → Type 0
  Next room start m e reply new = (next : Machine) × MachineStep m e reply next × Follows state room start next new

  module _ (room : Room) (start : DiskState) (m : Machine) (before now : D) (s t : State) (e : Event) (r : Reply) (fs : Follows state room start m (Up s before))
      (d : Does (state before) (state now) s e r t) where
    same : m.state ≡ s
    same = fs.has_config.1

    in_room : s.room ≡ room
    in_room = ap (λ q. q.room) (sym same) ∙ fs.same_room

    kept : t.room ≡ s.room
    kept = room_kept s t e r d.serves.1

    from : Step m.state e r t
    from = subst (λ q. Step q e r t) (sym same) d.serves

    faulty : CountsFor (m.faults + faults_in m.state r) start (state now)
    faulty = subst (λ q. CountsFor (m.faults + faults_in q r) start (state now)) (sym same)
        (faults_counted m.faults start (state before) (state now) s r _ refl fs.faults d.later d.cause)

    -- the tree that is added is the present one
    module _ (is : d.added ≡ t.tree) where
      there : (b : Bool) → makes_stable e r ≡ b → Contains (trees_after e r m.trees t.tree) t.tree
      there true k = subst (λ (q : Bool). Contains (cond q (t.tree ∷ []) (m.trees ++ t.tree ∷ [])) t.tree) (sym k) (only_here t.tree)
      there false k =
          subst (λ (q : Bool). Contains (cond q (t.tree ∷ []) (m.trees ++ t.tree ∷ [])) t.tree) (sym k)
          (Contains-append_right m.trees (t.tree ∷ []) t.tree (only_here t.tree))

      covered : (b : Bool) → makes_stable e r ≡ b → (image : Image) → IsImage (state now) image
          → (u : Tree) × (free : ℕ) × StandsFor room image u free × (v : Tree) × Contains (trees_after e r m.trees t.tree) v × (pruned u ≡ pruned v)
      covered true k image left =
          let one = d.synced k image left in
          (t.tree, one.0, subst (λ (q : Room). StandsFor q image t.tree one.0) (kept ∙ in_room) one.1, t.tree, there true k, refl)
      covered false k image left =
          found_covered room (state before) s d.added m.trees (trees_after e r m.trees t.tree) image in_room fs.covers fs.has_config.2
          (subst (λ (u : Tree). Contains (trees_after e r m.trees t.tree) u) (sym is) (there false k))
          (λ u was. subst (λ (q : Bool). Contains (cond q (t.tree ∷ []) (m.trees ++ t.tree ∷ [])) u) (sym k) (Contains-append_left m.trees (t.tree ∷ []) u was))
          (holds_now d.images (counts_now now) left)

      steps_on : Next room start m e (Replies r) (Up t now)
      steps_on = (
        stepped m t r (trees_after e r m.trees t.tree),
        machine.steps fs.has_config.0 r refl t from refl,
        record {
          same_room = kept ∙ in_room;
          has_config = (refl, refl, λ up. there _ refl);
          covers = λ image left. covered _ refl image left;
          faults = faulty;
        },
      )

    -- the event halts the machine, and what it would have given may be found
    module _ (choice : Choice) (h : Halts s e t choice) (is : d.added ≡ tree_after s (after s e choice)) where
      abbrev trees_then : List Tree
      trees_then = m.trees ++ t.tree ∷ tree_after m.state (after m.state e choice) ∷ []

      last : Contains trees_then (tree_after m.state (after m.state e choice))
      last =
          Contains-append_right m.trees (t.tree ∷ tree_after m.state (after m.state e choice) ∷ []) (tree_after m.state (after m.state e choice))
          (1, omega arith, refl)

      halts_on : Next room start m e (Replies r) (Up t now)
      halts_on = (
        stepped m t r trees_then,
        machine.halts fs.has_config.0 r refl t from choice (subst (λ q. Halts q e t choice) (sym same) h) refl,
        record {
          same_room = kept ∙ in_room;
          has_config = (refl, refl, λ up. absurd (let a = h.halted in cc));
          covers = λ image left.
              found_covered room (state before) s d.added m.trees trees_then image in_room fs.covers fs.has_config.2
              (subst (λ (u : Tree). Contains trees_then u) (ap (λ q. tree_after q (after q e choice)) same ∙ sym is) last)
              (λ u was. Contains-append_left m.trees _ u was) (holds_now d.images (counts_now now) left);
          faults = faulty;
        },
      )

    does_on : Adds s e t d.added → Next room start m e (Replies r) (Up t now)
    does_on (inl is) = steps_on is
    does_on (inr is) = halts_on is.0 is.1 is.2

  -- calls that change nothing that a stop leaves
  same_covered : (room : Room) (trees : List Tree) (before now : D) → IsSame (state before) (state now) → Covers room trees (state before) → Covers room trees (state now)
  same_covered room trees before now same covers image left = covers image (unchanged same left)

  -- a stop and a mount
  mounts_on : (room : Room) (start : DiskState) (m : Machine) (c : Config D) (mid now : D) (s : State) (bytes : List ℕ) (arm : Option ℕ)
      → Follows state room start m c → Stopped (state (device c)) (state mid) → Mounts (state mid) (state now) s
      → Next room start m (Restart bytes arm) Mounted (Up s now)
  mounts_on room start m c mid now s bytes arm fs stop d =
      let found = fs.covers (state mid).seen stop.image in
      let t = found.0 in
      let u = found.3 in
      let as_mounted = d.each room t found.1 found.2 in
      let tree : s.tree ≡ pruned t = ap (λ q. q.tree) as_mounted.is_mounted in
      let is : s ≡ record { room = m.state.room; tree = pruned u; processes = []; openings = []; free = s.free; now = 0; halted = false } =
      as_mounted.is_mounted ∙ ap (λ (q : Room). record { room = q; tree = pruned t; processes = []; openings = []; free = s.free; now = 0; halted = false }) (sym fs.same_room)
      ∙ ap (λ (q : Tree). record { room = m.state.room; tree = q; processes = []; openings = []; free = s.free; now = 0; halted = false }) found.5 in
      let free : MayBeFree m.state.room (pruned u) s.free =
      subst (λ (q : Tree). MayBeFree m.state.room q s.free) found.5 (subst (λ (q : Room). MayBeFree q (pruned t) s.free) (sym fs.same_room) as_mounted.free) in (
        restarted m s true 0,
        machine.mounts bytes arm refl refl s (record { tree = u; is_one = found.4; free = s.free; may_be_free = free; is = is }) refl,
        record {
          same_room = ap (λ q. q.room) as_mounted.is_mounted;
          has_config = (refl, refl, λ up. only_here s.tree);
          covers = λ image left. let one = as_mounted.images image left in (pruned t, one.0, one.1, s.tree, only_here s.tree, ap pruned (sym tree));
          faults = (let none : m.faults ≡ m.faults + 0 = omega arith in subst (λ (n : ℕ). CountsFor n start (state now)) none
              (counted m.faults start (state (device c)) (state now) fs.faults (let a = stop.later in let b = d.later in omega (arith, a, b))));
        },
      )

  after_fault : (start before mid now : DiskState) (m : Machine) (f : RestartFault) → CountsFor m.faults start before → before.failures ≤ mid.failures
      → mid.failures ≤ now.failures → (f ≡ DiskFault → HasFailed mid now) → CountsFor (m.faults + mount_faults f) start now
  after_fault start before mid now m DiskFault few first later cause = one_more m.faults start mid now (counted m.faults start before mid few first) later (cause refl)
  after_fault start before mid now m OutOfMemory few first later cause =
      let none : m.faults ≡ m.faults + 0 = omega arith in
      subst (λ (n : ℕ). CountsFor n start now) none (counted m.faults start before now few (omega (arith, first, later)))

  -- a stop and a mount that fails
  mount_fails_on : (room : Room) (start : DiskState) (m : Machine) (c : Config D) (mid now : D) (fault : RestartFault) (bytes : List ℕ) (arm : Option ℕ)
      → Follows state room start m c → Stopped (state (device c)) (state mid) → FailsToMount (state mid) (state now) fault
      → Next room start m (Restart bytes arm) (MountFailed fault) (Off now)
  mount_fails_on room start m c mid now fault bytes arm fs stop d =
      let found = fs.covers (state mid).seen stop.image in
      let t = found.0 in
      let u = found.3 in
      let s : State = record { room = m.state.room; tree = pruned u; processes = []; openings = []; free = m.state.room.sectors; now = 0; halted = false } in (
        restarted m s false (mount_faults fault),
        machine.mount_fails bytes arm refl fault refl s
            (record { tree = u; is_one = found.4; free = m.state.room.sectors; may_be_free = record { least = omega arith; most = omega arith }; is = refl }) refl,
        record {
          same_room = fs.same_room;
          has_config = refl;
          covers = λ image left.
              let from = d.images image left in
              let here : StandsFor room from.0 t found.1 = subst (λ (i : Image). StandsFor room i t found.1) (sym (stop.each from.0 from.1)) found.2 in
              let now_is = from.2 room t found.1 here in
              (now_is.0, now_is.1, now_is.2, pruned u, only_here (pruned u), now_is.3 ∙ sym (pruned_twice _ t found.2.tree_is) ∙ ap pruned found.5);
          faults = after_fault start (state (device c)) (state mid) (state now) m fault fs.faults stop.later d.later d.cause;
        },
      )

  -- the disk is another in the same state, or lets go of its past
  forgotten : (room : Room) (start : DiskState) (m : Machine) (old : Config D) (now : D) → Follows state room start m old
      → IsSame (state (device old)) (state now) → (state (device old)).failures ≤ (state now).failures → Follows state room start m (on_disk old now)
  forgotten room start m (Up s before) now fs same later = record {
    same_room = fs.same_room;
    has_config = fs.has_config;
    covers = same_covered room m.trees before now same fs.covers;
    faults = counted m.faults start (state before) (state now) fs.faults later;
  }
  forgotten room start m (Off before) now fs same later = record {
    same_room = fs.same_room;
    has_config = fs.has_config;
    covers = same_covered room m.trees before now same fs.covers;
    faults = counted m.faults start (state before) (state now) fs.faults later;
  }

  -- one event
  goes_on : (room : Room) (start : DiskState) (m : Machine) (old new : Config D) (e : Event) (reply : EventReply) → Follows state room start m old
      → Goes state old e reply new → Next room start m e reply new
  goes_on room start m old new e reply fs (does before now s t _ r d) = does_on room start m before now s t e r fs d d.is_added
  goes_on room start m old new e reply fs (is_down disk _ of) = (m, machine.is_down fs.has_config of refl refl, fs)
  goes_on room start m old new e reply fs (arms_up before now s k same later) = (m, machine.arms k refl refl refl, forgotten room start m (Up s before) now fs same later)
  goes_on room start m old new e reply fs (arms_off before now k same later) = (m, machine.arms k refl refl refl, forgotten room start m (Off before) now fs same later)
  goes_on room start m old new e reply fs (restarts _ mid now s bytes arm stop d) = mounts_on room start m old mid now s bytes arm fs stop d
  goes_on room start m old new e reply fs (fails _ mid now fault bytes arm stop d) = mount_fails_on room start m old mid now fault bytes arm fs stop d

  pub histories_are_runs : HistoriesAreRuns state
  histories_are_runs room start m old new es replies fs (ends _) = (m, refl, fs)
  histories_are_runs room start m old new es replies fs (goes _ mid _ e reply es' replies' first rest) =
      let next = goes_on room (state start) m old mid e reply fs first in
      let all = histories_are_runs room start next.0 mid new es' replies' next.2 rest in
      (all.0, (next.0, next.1, all.1), all.2)
  histories_are_runs room start m old new es replies fs (forgets _ _ now _ _ same later rest) =
      histories_are_runs room start m (on_disk old now) new es replies (forgotten room (state start) m old now fs same later) rest
