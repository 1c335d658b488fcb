-- Who asks.
use Rattle.std.specs.Prelude.{ℕ, ◌<◌, ◌≤◌, ◌^◌, ◌==◌, Bool, ◌||◌, List, length, All}
use Rattle.std.specs.List.{list_any}
use Rattle.fs_cred.specs.declared.caps.Caps.{Caps}
use Rattle.fs_cred.specs.Capabilities.{holds_caps, usual_caps}

-- one user, one group and some more groups, and the capabilities
pub record Credential : Type 0 where
  pub uid : ℕ
  pub gid : ℕ
  pub groups : List ℕ
  pub caps : Caps

-- how many more groups a process has at most: NGROUPS_MAX of Linux
abbrev pub groups_limit : ℕ
groups_limit = 65536

-- ids and sets of capabilities are numbers of 32 bits, and there are no more groups than a process of the system has
pub record IsCredential (cred : Credential) : Type 0 where
  pub uid : cred.uid < 2 ^ 32
  pub gid : cred.gid < 2 ^ 32
  pub groups : All (λ group. group < 2 ^ 32) cred.groups
  pub few : length cred.groups ≤ groups_limit
  pub caps : cred.caps.0 < 2 ^ 32

abbrev pub credential : ℕ → ℕ → List ℕ → Caps → Credential
credential uid gid groups caps = record { uid = uid; gid = gid; groups = groups; caps = caps }

-- the one where no capabilities are named
abbrev pub usual_credential : ℕ → ℕ → List ℕ → Credential
usual_credential uid gid groups = credential uid gid groups (usual_caps uid)

-- the credential has all of these capabilities
abbrev pub is_capable : Credential → Caps → Bool
is_capable cred caps = holds_caps cred.caps caps

-- the groups of a credential are its gid and the others
abbrev pub is_member : Credential → ℕ → Bool
is_member cred group = cred.gid == group || list_any (λ g. g == group) cred.groups
