-- What a system shows of its processes, and what a server learns by it of who asks.
--     Showing        the status of a process, or the name of a user namespace
--     HasShown        it was shown at some time
--     IsUnknown        nothing is known of who asks
--     SharesUsers        a process is in the user namespace of the server
--     ShowsCaller        what is known was shown of that process
--     IsLearnt        either
--     LearnsBy        what passes at a server that learns so
use Rattle.std.specs.Prelude.{◌≡◌, ℕ, List, ◌⊎◌, None}
use Rattle.fs_cred.specs.Capabilities.{no_caps}
use Rattle.fuse_serving.specs.declared.caller.Caller.{Caller}
use Rattle.fuse_serving.specs.Exchanges.{Exchange, Reads, ReadsEnd, Writes, Learns, SeesTime}
use Rattle.fuse_serving.specs.Status.{SaysCaller}

pub data Showing : Type 0 where
  -- the text of the status of the process with this number, or the front of a long one: proc(5)
  Status : ℕ → List ℕ → Showing
  -- the name of the user namespace that it is in: user_namespaces(7)
  Users : ℕ → List ℕ → Showing
  -- the name of that of the server
  OwnUsers : List ℕ → Showing

abbrev pub HasShown : {P : Type 0} → (P → Showing → P → Type 0) → Showing → Type 0
HasShown {P} Shows showing = ∥ ((old : P) × (new : P) × Shows old showing new) ∥₁

abbrev pub IsUnknown : Caller → Type 0
IsUnknown caller = (caller.groups ≡ None) × (caller.caps ≡ no_caps)

-- The name that is shown now for the process is the one that was shown for the server, which stays in its namespace.
pub record SharesUsers {P : Type 0} (Shows : P → Showing → P → Type 0) (now : P) (pid : ℕ) : Type 0 where
  pub name : List ℕ
  pub reached : P
  pub theirs : Shows now (Users pid name) reached
  pub own : HasShown Shows (OwnUsers name)

-- The status that is shown now for the process says what is known of it, as which user and group it acts on files; and capabilities
-- count only of a process in the server's user namespace.
pub record ShowsCaller {P : Type 0} (Shows : P → Showing → P → Type 0) (now : P) (pid uid gid : ℕ) (caller : Caller) : Type 0 where
  pub text : List ℕ
  pub reached : P
  pub shown : Shows now (Status pid text) reached
  pub said : SaysCaller text uid gid caller
  pub caps : (caller.caps ≡ no_caps) ⊎ SharesUsers Shows reached pid

abbrev pub IsLearnt : {P : Type 0} → (P → Showing → P → Type 0) → P → ℕ → ℕ → ℕ → Caller → Type 0
IsLearnt Shows now pid uid gid caller = IsUnknown caller ⊎ ShowsCaller Shows now pid uid gid caller

-- Nothing is learnt of who asks but what is shown then. Of what is read and written, and of the time, nothing is claimed.
abbrev pub LearnsBy : {P : Type 0} → (P → Showing → P → Type 0) → P → Exchange → P → Type 0
LearnsBy Shows old (Reads bytes) new = Unit {0}
LearnsBy Shows old ReadsEnd new = Unit {0}
LearnsBy Shows old (Writes bytes taken) new = Unit {0}
LearnsBy Shows old (Learns pid uid gid caller) new = IsLearnt Shows old pid uid gid caller
LearnsBy Shows old (SeesTime time) new = Unit {0}
