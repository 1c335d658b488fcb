-- What calls make of a node may stand where it stood: other bytes, another mode, ACL, owner or group.
use Rattle.std.specs.Prelude.{◌≡◌, ℕ, ◌+◌, ◌-◌, ◌/◌, ◌^◌, ◌<◌, ◌≤◌, List, ◌++◌, length, take, drop, replicate, Option, None, Some, unwrap_or}
use Rattle.std.proofs.Common.{refl, arith, inl, inr}
use Rattle.std.proofs.lemmas.Bool.{cases_lt}
use Rattle.std.proofs.lemmas.List.{length-append, length-take, length-drop, length-replicate, get_or-replicate, get_or_past}
use Rattle.posix_acl.specs.AccessList.{AccessList, IsAcl, with_mode_bits, IsSomeAcl}
use Rattle.posix_acl.specs.Entries.{perms_of}
use Rattle.posix_acl.proofs.Classes.{IsAcl-with_classes}
use Rattle.fs_cred.specs.Credentials.{Credential}
use Rattle.fs_layout.specs.Bytes.{IsBytes, resized, overwritten}
use Rattle.fs_layout.proofs.Sectors.{IsBytes-append, IsBytes-take, IsBytes-drop}
use Rattle.fs_model.specs.declared.call.AclType.{AclType}
use Rattle.fs_model.specs.declared.call.AclType.TheVariants.{Access, Default}
use Rattle.fs_model.specs.Nodes.{Node, Body, File, Dir, Link, Directory, names_of_body, bytes_in, type_of, with_bytes}
use Rattle.fs_model.specs.declared.reply.Stamps.{Stamps}
use Rattle.fs_model.specs.Trees.{Tree, Room, IsBody, IsDirectory, IsNode, AreStamps}
use Rattle.fs_model.specs.AttributeCalls.{with_mode, moded, owned, with_set_acl}
use Rattle.fs_model.specs.Ranges.{IsSomeId}
use Rattle.fs_model.proofs.StepsKinds.{MayReplace}

-- ---- bytes

pub length-resized : (bytes : List ℕ) (size : ℕ) → length (resized bytes size) ≡ size
length-resized bytes size =
    omega (arith, length-append (take size bytes) (replicate (size - length bytes) 0), length-take size bytes, length-replicate {A = ℕ} (size - length bytes) 0)

IsBytes-zeros : (n : ℕ) → IsBytes (replicate n 0)
IsBytes-zeros n i = elim (cases_lt i n) [
  | inl lt ↦ rw (get_or-replicate {A = ℕ} n i 0 0 lt) (omega arith)
  | inr le ↦ rw (get_or_past {X = ℕ} (replicate n 0) i 0 (omega (arith, length-replicate {A = ℕ} n 0))) (omega arith)
]

pub IsBytes-resized : (bytes : List ℕ) (size : ℕ) → IsBytes bytes → IsBytes (resized bytes size)
IsBytes-resized bytes size are =
    IsBytes-append (take size bytes) (replicate (size - length bytes) 0) (IsBytes-take size bytes are) (IsBytes-zeros (size - length bytes))

-- up to the end of what is written over them, and what is left past it
pub length-overwritten_all : (bytes : List ℕ) (offset : ℕ) (new : List ℕ) → length (overwritten bytes offset new) ≡ offset + length new + (length bytes - (offset + length new))
length-overwritten_all bytes offset new =
    omega (
      arith,
      length-append (resized bytes offset ++ new) (drop (offset + length new) bytes),
      length-append (resized bytes offset) new,
      length-resized bytes offset,
      length-drop (offset + length new) bytes,
    )

pub length-overwritten : (bytes : List ℕ) (offset : ℕ) (new : List ℕ) (limit : ℕ) → length bytes ≤ limit → offset + length new ≤ limit
    → length (overwritten bytes offset new) ≤ limit
length-overwritten bytes offset new limit few fits = let all = length-overwritten_all bytes offset new in omega (arith, all, few, fits)

pub IsBytes-overwritten : (bytes : List ℕ) (offset : ℕ) (new : List ℕ) → IsBytes bytes → IsBytes new → IsBytes (overwritten bytes offset new)
IsBytes-overwritten bytes offset new are fresh =
    IsBytes-append (resized bytes offset ++ new) (drop (offset + length new) bytes)
    (IsBytes-append (resized bytes offset) new (IsBytes-resized bytes offset are) fresh)
    (IsBytes-drop (offset + length new) bytes are)

-- what a node has for bytes
pub bytes_are_few : (room : Room) (t : Tree) (b : Body) → IsBody room t b → length (bytes_in b) ≤ room.file_limit
bytes_are_few room t (File a bytes) is = is.1
bytes_are_few room t (Dir a d) is = omega arith
bytes_are_few room t (Link target) is = omega arith

pub bytes_are_bytes : (room : Room) (t : Tree) (b : Body) → IsBody room t b → IsBytes (bytes_in b)
bytes_are_bytes room t (File a bytes) is = is.2
bytes_are_bytes room t (Dir a d) is = λ i. omega arith
bytes_are_bytes room t (Link target) is = λ i. omega arith

-- ---- bodies

type_with_bytes : (bytes : List ℕ) (b : Body) → type_of (with_bytes bytes b) ≡ type_of b
type_with_bytes bytes (File a s) = refl
type_with_bytes bytes (Dir a d) = refl
type_with_bytes bytes (Link target) = refl

names_with_bytes : (bytes : List ℕ) (b : Body) → names_of_body (with_bytes bytes b) ≡ names_of_body b
names_with_bytes bytes (File a s) = refl
names_with_bytes bytes (Dir a d) = refl
names_with_bytes bytes (Link target) = refl

body_with_bytes : (room : Room) (t : Tree) (bytes : List ℕ) (b : Body) → length bytes ≤ room.file_limit → IsBytes bytes → IsBody room t b
    → IsBody room t (with_bytes bytes b)
body_with_bytes room t bytes (File a s) few are is = (is.0, few, are)
body_with_bytes room t bytes (Dir a d) few are is = is
body_with_bytes room t bytes (Link target) few are is = is

type_with_mode : (cred : Credential) (group mode : ℕ) (b : Body) → type_of (with_mode cred group mode b) ≡ type_of b
type_with_mode cred group mode (File a s) = refl
type_with_mode cred group mode (Dir a d) = refl
type_with_mode cred group mode (Link target) = refl

names_with_mode : (cred : Credential) (group mode : ℕ) (b : Body) → names_of_body (with_mode cred group mode b) ≡ names_of_body b
names_with_mode cred group mode (File a s) = refl
names_with_mode cred group mode (Dir a d) = refl
names_with_mode cred group mode (Link target) = refl

IsAcl-with_mode_bits : (a : AccessList) (mode : ℕ) → IsAcl a → IsAcl (with_mode_bits a mode)
IsAcl-with_mode_bits a mode is = IsAcl-with_classes a (perms_of (mode / 64)) (perms_of (mode / 8)) (perms_of mode) is

-- a directory with the same names
same_names : (room : Room) (t : Tree) (d e : Directory) → e.names ≡ d.names → IsDirectory room t d → IsDirectory room t e
same_names room t d e same is = record {
  names = rw same is.names;
  few = rw same is.few;
  each = rw same is.each;
}

body_with_mode : (room : Room) (t : Tree) (cred : Credential) (group mode : ℕ) (b : Body) → IsBody room t b
    → IsBody room t (with_mode cred group mode b)
body_with_mode room t cred group mode (File a s) is = (IsAcl-with_mode_bits a mode is.0, is.1, is.2)
body_with_mode room t cred group mode (Dir a d) is = (IsAcl-with_mode_bits a mode is.0, is.1, same_names room t d _ refl is.2)
body_with_mode room t cred group mode (Link target) is = is

acl_keeps : (which : AclType) (acl : Option AccessList) (b : Body)
    → (type_of (with_set_acl which acl b) ≡ type_of b) × (names_of_body (with_set_acl which acl b) ≡ names_of_body b)
acl_keeps Default acl (File a s) = (refl, refl)
acl_keeps Default acl (Dir a d) = (refl, refl)
acl_keeps Default acl (Link target) = (refl, refl)
acl_keeps Access None b = (refl, refl)
acl_keeps Access (Some acl) (File a s) = (refl, refl)
acl_keeps Access (Some acl) (Dir a d) = (refl, refl)
acl_keeps Access (Some acl) (Link target) = (refl, refl)

body_with_acl : (room : Room) (t : Tree) (which : AclType) (acl : Option AccessList) (b : Body) → IsSomeAcl acl → IsBody room t b
    → IsBody room t (with_set_acl which acl b)
body_with_acl room t Default acl (File a s) valid is = is
body_with_acl room t Default acl (Dir a d) valid is = (is.0, valid, same_names room t d _ refl is.2)
body_with_acl room t Default acl (Link target) valid is = is
body_with_acl room t Access None b valid is = is
body_with_acl room t Access (Some acl) (File a s) valid is = (valid, is.1, is.2)
body_with_acl room t Access (Some acl) (Dir a d) valid is = (valid, is.1, is.2)
body_with_acl room t Access (Some acl) (Link target) valid is = is

id_is : (id : Option ℕ) (old : ℕ) → IsSomeId id → old < 2 ^ 32 → unwrap_or id old < 2 ^ 32
id_is None old valid small = small
id_is (Some id) old valid small = valid

-- ---- nodes

module _ (room : Room) (t : Tree) (n : ℕ) (node : Node) (is : IsNode room t n node) where
  body_may_replace : (b : Body) → type_of b ≡ type_of node.body → names_of_body b ≡ names_of_body node.body → IsBody room t b
      → MayReplace room t node (record node { body = b })
  body_may_replace b type names body = record { same = type; names = names; owner = is.owner; group = is.group; stamps = is.stamps; body = body }

  pub bytes_may_replace : (bytes : List ℕ) → length bytes ≤ room.file_limit → IsBytes bytes
      → MayReplace room t node (record node { body = with_bytes bytes node.body })
  bytes_may_replace bytes few are =
      body_may_replace (with_bytes bytes node.body) (type_with_bytes bytes node.body) (names_with_bytes bytes node.body) (body_with_bytes room t bytes node.body few are is.body)

  pub mode_may_replace : (cred : Credential) (mode : ℕ) → MayReplace room t node (moded cred mode node)
  mode_may_replace cred mode =
      body_may_replace (moded cred mode node).body (type_with_mode cred node.group mode node.body) (names_with_mode cred node.group mode node.body)
      (body_with_mode room t cred node.group mode node.body is.body)

  pub acl_may_replace : (which : AclType) (acl : Option AccessList) → IsSomeAcl acl
      → MayReplace room t node (record node { body = with_set_acl which acl node.body })
  acl_may_replace which acl valid =
      let keeps = acl_keeps which acl node.body in
      body_may_replace (with_set_acl which acl node.body) keeps.0 keeps.1 (body_with_acl room t which acl node.body valid is.body)

  pub stamps_may_replace : (x : Stamps) → AreStamps room.keeps_times x → MayReplace room t node (record node { stamps = x })
  stamps_may_replace x fit = record { same = refl; names = refl; owner = is.owner; group = is.group; stamps = fit; body = is.body }

  pub owner_may_replace : (owner group : Option ℕ) → IsSomeId owner → IsSomeId group → MayReplace room t node (owned owner group node)
  owner_may_replace owner group o g = record {
    same = refl;
    names = refl;
    owner = id_is owner node.owner o is.owner;
    group = id_is group node.group g is.group;
    stamps = is.stamps;
    body = is.body;
  }
