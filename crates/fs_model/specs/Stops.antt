-- The machine with a disk that may stop: which trees a stop may leave. POSIX.1-2017, fsync(), and our own rules.
--     Machine        a state, the trees that a stop may leave, and how often the disk was seen to fail
--     Stops        what a stop leaves
--     MachineStep, MachineRun        one event, and several
use Rattle.std.specs.Prelude.{◌≡◌, ℕ, ◌+◌, Bool, true, false, not, ◌&&◌, List, [], ◌∷◌, ◌++◌, Option, IsTrue, IsFalse, Contains, if◌then◌else◌}
use Rattle.fs_cred.specs.declared.errno.Errno.TheVariants.{EIO}
use Rattle.fs_cred.specs.declared.refusal.Refusal.TheVariants.{Failed}
use Rattle.fs_model.specs.declared.reply.Reply.{Reply}
use Rattle.fs_model.specs.declared.reply.Reply.TheVariants.{Done, Refused}
use Rattle.fs_model.specs.declared.event.RestartFault.{RestartFault}
use Rattle.fs_model.specs.declared.event.RestartFault.TheVariants.{DiskFault, OutOfMemory}
use Rattle.fs_model.specs.declared.event.Event.{Event}
use Rattle.fs_model.specs.declared.event.Event.TheVariants.{Fsync, Sync, Arm, Restart}
use Rattle.fs_model.specs.declared.event.EventReply.{EventReply}
use Rattle.fs_model.specs.declared.event.EventReply.TheVariants.{Reply as Replies, Armed, Mounted, MountFailed, Down}
use Rattle.fs_model.specs.Trees.{Tree}
use Rattle.fs_model.specs.TreeChanges.{pruned}
use Rattle.fs_model.specs.States.{State, MayBeFree}
use Rattle.fs_model.specs.Steps.{Step, Choice, Acts, after, tree_after, is_of_machine}

-- While it is up and not halted the last tree is the present one. `faults` counts.
pub record Machine : Type 0 where
  pub state : State
  pub trees : List Tree
  pub is_up : Bool
  pub faults : ℕ

-- fsync and sync, where they answer ok, make all that was done before stable
abbrev pub asks_stable : Event → Bool
asks_stable (Fsync _ _) = true
asks_stable Sync = true
asks_stable _ = false

abbrev pub is_ok : Reply → Bool
is_ok Done = true
is_ok _ = false

abbrev pub makes_stable : Event → Reply → Bool
makes_stable e reply = asks_stable e && is_ok reply

-- a stop may leave one more tree, or, once all is stable, no other
abbrev pub trees_after : Event → Reply → List Tree → Tree → List Tree
trees_after e reply trees t = if makes_stable e reply then t ∷ [] else trees ++ t ∷ []

-- EIO counts as a fault where the machine isn't halted yet
abbrev pub is_io_error : Reply → Bool
is_io_error (Refused (Failed EIO)) = true
is_io_error _ = false

abbrev pub faults_in : State → Reply → ℕ
faults_in s reply = if is_io_error reply && not s.halted then 1 else 0

-- so does a mount that the disk refuses
abbrev pub mount_faults : RestartFault → ℕ
mount_faults DiskFault = 1
mount_faults OutOfMemory = 0

-- the step halts the machine, after which the tree of its effect may be found all the same
pub record Halts (old : State) (e : Event) (new : State) (choice : Choice) : Type 0 where
  pub halted : IsTrue new.halted
  pub acts : Acts old e choice

-- what a stop leaves: one of the trees, pruned, no process, and nothing open
abbrev pub stopped : State → Tree → ℕ → State
stopped s t free = record { room = s.room; tree = pruned t; processes = []; openings = []; free = free; now = 0; halted = false }

pub record Stops (m : Machine) (s : State) : Type 0 where
  pub tree : Tree
  pub is_one : Contains m.trees tree
  pub free : ℕ
  pub may_be_free : MayBeFree m.state.room (pruned tree) free
  pub is : s ≡ stopped m.state tree free

abbrev pub restarted : Machine → State → Bool → ℕ → Machine
restarted old s is_up faults = record { state = s; trees = s.tree ∷ []; is_up = is_up; faults = old.faults + faults }

abbrev pub stepped : Machine → State → Reply → List Tree → Machine
stepped old s reply trees =
    record { state = s; trees = trees; is_up = true; faults = old.faults + faults_in old.state reply }

-- From old, the machine may answer the event so and go on to new.
pub data MachineStep (old : Machine) (e : Event) (reply : EventReply) (new : Machine) : Type 0 where
  is_down : IsFalse old.is_up → IsTrue (is_of_machine e) → reply ≡ Down → new ≡ old → MachineStep old e reply new
  arms : (k : ℕ) → e ≡ Arm k → reply ≡ Armed → new ≡ old → MachineStep old e reply new
  steps : IsTrue old.is_up → (r : Reply) → reply ≡ Replies r → (s : State) → Step old.state e r s
      → new ≡ stepped old s r (trees_after e r old.trees s.tree) → MachineStep old e reply new
  halts : IsTrue old.is_up → (r : Reply) → reply ≡ Replies r → (s : State) → Step old.state e r s
      → (choice : Choice) → Halts old.state e s choice
      → new ≡ stepped old s r (old.trees ++ s.tree ∷ tree_after old.state (after old.state e choice) ∷ [])
      → MachineStep old e reply new
  mounts : (bytes : List ℕ) (arm : Option ℕ) → e ≡ Restart bytes arm → reply ≡ Mounted
      → (s : State) → Stops old s → new ≡ restarted old s true 0 → MachineStep old e reply new
  mount_fails : (bytes : List ℕ) (arm : Option ℕ) → e ≡ Restart bytes arm
      → (fault : RestartFault) → reply ≡ MountFailed fault
      → (s : State) → Stops old s → new ≡ restarted old s false (mount_faults fault) → MachineStep old e reply new

-- one event after another, restarts among them
abbrev pub MachineRun : Machine → List Event → List EventReply → Machine → Type 0
MachineRun old [] [] new = new ≡ old
MachineRun old (e ∷ es) (reply ∷ replies) new = (mid : Machine) × MachineStep old e reply mid × MachineRun mid es replies new
MachineRun old [] (_ ∷ _) new = ⊥
MachineRun old (_ ∷ _) [] new = ⊥
