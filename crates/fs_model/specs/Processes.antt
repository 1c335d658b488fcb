-- Processes and their open file descriptions: POSIX.1-2017, Base Definitions (Process, Open File
-- Description).
--     Descriptor, Process, ProcessTable        an open file; a process; all processes
--     new_process, IsNewPid        a process as it begins, and its number
--     descriptor, the_descriptor, with_descriptor, with_offset, least_unused        one descriptor of a process
--     Openings, process_holding        what actors have opened; who has it
--     users        all who use nodes
--     is_open, is_in_use        who uses a node
use Rattle.std.specs.Prelude.{◌≡◌, ℕ, ◌+◌, ◌≤◌, ◌==◌, Bool, false, ◌||◌, List, [], ◌∷◌, if◌then◌else◌, Option, None, unwrap_or}
use Rattle.std.specs.List.{list_any}
use Rattle.std.specs.Ordering.{nat_cmp}
use Rattle.fs_cred.specs.Credentials.{Credential, usual_credential}
use Rattle.fs_model.specs.Limits.{root, processes_limit}
use Rattle.fs_layout.specs.Maps.{get, with_entry}

-- the node, the offset, what it was opened for, and O_APPEND
pub record Descriptor : Type 0 where
  pub ino : ℕ
  pub offset : ℕ
  pub read : Bool
  pub write : Bool
  pub append : Bool

pub record Process : Type 0 where
  pub cred : Credential
  pub umask : ℕ
  pub cwd : ℕ
  pub descriptors : List (ℕ × Descriptor)

-- the processes by their numbers
abbrev pub ProcessTable : Type 0
ProcessTable = List (ℕ × Process)

-- our own rule: at the root, with umask 022 and nothing open
abbrev pub new_process : Credential → Process
new_process cred = record { cred = cred; umask = 18; cwd = root; descriptors = [] }

-- our own rule: a new process gets a number from 1 to 64 that no process has
abbrev pub IsNewPid : ProcessTable → ℕ → Type 0
IsNewPid processes pid = (1 ≤ pid) × (pid ≤ processes_limit) × (get nat_cmp processes pid ≡ None)

abbrev pub descriptor : Process → ℕ → Option Descriptor
descriptor p fd = get nat_cmp p.descriptors fd

abbrev pub no_descriptor : Descriptor
no_descriptor = record { ino = 0; offset = 0; read = false; write = false; append = false }

-- where one is known to be there
abbrev pub the_descriptor : Process → ℕ → Descriptor
the_descriptor p fd = unwrap_or (descriptor p fd) no_descriptor

abbrev pub with_descriptor : Process → ℕ → Descriptor → Process
with_descriptor p fd d = record p { descriptors = with_entry nat_cmp p.descriptors fd d }

abbrev pub with_offset : Process → ℕ → ℕ → Process
with_offset p fd offset = with_descriptor p fd (record (the_descriptor p fd) { offset = offset })

-- the least number from k on that is none of the rising keys: File Descriptor Allocation
abbrev pub least_unused : {X : Type 0} → ℕ → List (ℕ × X) → ℕ
least_unused k [] = k
least_unused k (e ∷ es) = if e.0 == k then least_unused (k + 1) es else k

-- ---- what actors have opened

-- by the handles
abbrev pub Openings : Type 0
Openings = List (ℕ × Descriptor)

-- Who is no process, and has these open. Nothing is asked of its credential.
abbrev pub process_holding : List (ℕ × Descriptor) → Process
process_holding descriptors = record (new_process (usual_credential 65534 65534 [])) { descriptors = descriptors }

-- the processes, and before them one who has all that actors have opened; the numbers aren't read
abbrev pub users : ProcessTable → Openings → ProcessTable
users processes openings = (0, process_holding openings) ∷ processes

-- ---- who uses a node

-- some descriptor is for n
abbrev pub is_open : ProcessTable → ℕ → Bool
is_open processes n = list_any (λ p. list_any (λ d. d.1.ino == n) p.1.descriptors) processes

-- our own rule: the directory n is the root, the current one of a process, or open
abbrev pub is_in_use : ProcessTable → ℕ → Bool
is_in_use processes n = n == root || list_any (λ p. p.1.cwd == n) processes || is_open processes n
