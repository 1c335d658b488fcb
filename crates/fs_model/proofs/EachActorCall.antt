-- What the laws over actors need of each: the one place in proofs that names every call of them.
--     IsByCredential        what is asked and done rests on the credential and the mask of the caller alone, who has no more than what it opens
--     each_actor_call        each call's case
use Rattle.std.specs.Prelude.{◌≡◌, ℕ, nat_le, ◌&&◌, List, [], ◌∷◌, length, unwrap_or, IsTrue}
use Rattle.std.proofs.Common.{refl, sym, ap, ◌∙◌, subst}
use Rattle.std.specs.Ordering.{nat_cmp}
use Rattle.fs_cred.specs.declared.errno.Errno.TheVariants.{EISDIR, EMFILE}
use Rattle.fs_layout.specs.Maps.{get, with_entry}
use Rattle.fs_model.specs.declared.call.Flags.{Flags}
use Rattle.fs_model.specs.declared.reply.Reply.TheVariants.{Opened}
use Rattle.fs_model.specs.declared.call.Call.{Call}
use Rattle.fs_model.specs.declared.call.Call.TheVariants.{Open, Read, Write, Lseek, Close, Fstat, Stat, Lstat, Access, Truncate, Ftruncate, Chmod, Chown, GetAcl, SetAcl, Readdir, Mkdir, Rmdir, Link as LinkCall, Symlink, Readlink, Unlink, Rename, Chdir, Umask}
use Rattle.fs_model.specs.Limits.{root, descriptors_limit}
use Rattle.fs_model.specs.Processes.{Process, Descriptor, Openings, no_descriptor, the_descriptor, with_descriptor, least_unused}
use Rattle.fs_model.specs.Scenes.{Scene, Row}
use Rattle.fs_model.specs.Rows.{row_of}
use Rattle.fs_model.specs.Actors.{is_actor_call, opened_by, actor_reply}
use Rattle.fs_model.specs.States.{IsState}
use Rattle.fs_model.specs.Demands.{refuse}
use Rattle.fs_model.specs.Parts.{ends_with_slash}
use Rattle.fs_model.specs.OpenCall.{open_row}
use Rattle.fs_model.specs.Confinement.{IsConfined}
use Rattle.fs_model.proofs.StepsDemands.{AreMet}
use Rattle.fs_model.proofs.ConfinedSteps.{IsConfinedAt}
use Rattle.fs_model.proofs.ConfinedOpens.{open_confined_at}
use Rattle.fs_model.proofs.EachCall.{each_call}

-- the caller at the root, with nothing open
abbrev pub bare : Process → Process
bare p = record p { cwd = root; descriptors = [] }

abbrev pub bare_scene : Scene → Scene
bare_scene c = record c { process = bare c.process }

-- what is opened becomes descriptor 0, before what was open
abbrev pub TakesZero : List (ℕ × Descriptor) → Type 0
TakesZero ds = (d : Descriptor) → with_entry nat_cmp ds (least_unused 0 ds) d ≡ (0, d) ∷ ds

-- the caller with what it opened
abbrev pub with_opened : Call → Process → Process → Process
with_opened (Open path flags mode) q p = record p { descriptors = (0, the_descriptor q 0) ∷ p.descriptors }
with_opened _ q p = p

pub record IsByCredential (call : Call) (row : Row) : Type 0 where
  pub early : (p : Process) → p.descriptors ≡ [] → row.early (bare p) ≡ row.early p
  pub demands : (c : Scene) → row.demands (bare_scene c) ≡ row.demands c
  pub change : (c : Scene) (n : ℕ) → (row.effect (bare_scene c) n).change ≡ (row.effect c n).change
  pub told : (c : Scene) (handle n : ℕ) → TakesZero c.process.descriptors → actor_reply call handle n (row.effect (bare_scene c) n) ≡ actor_reply call handle n (row.effect c n)
  pub opened : (c : Scene) (handle n : ℕ) (openings : Openings) → TakesZero c.process.descriptors
      → opened_by call handle (row.effect (bare_scene c) n).process openings ≡ opened_by call handle (row.effect c n).process openings
  pub process : (c : Scene) (n : ℕ) → TakesZero c.process.descriptors → (row.effect c n).process ≡ with_opened call (row.effect c n).process c.process
  -- who has a lot open is confined too
  pub confines : (c : Scene) (n : ℕ) → IsState c.state → IsConfined c.process.cred → AreMet (row.demands c) → IsConfinedAt c row n

unasked : (call : Call) → ((p : Process) → (row_of call).early p ≡ []) → (c : Scene) (n : ℕ) → IsState c.state → IsConfined c.process.cred
    → AreMet ((row_of call).demands c) → IsConfinedAt c (row_of call) n
unasked call none c n is confined met = (each_call call).confines c n is confined (subst AreMet (sym (none c.process)) tt) met

-- what is at descriptor 0 then
at_zero : (p : Process) → TakesZero p.descriptors → (d : Descriptor) → the_descriptor (with_descriptor p (least_unused 0 p.descriptors) d) 0 ≡ d
at_zero p takes d = ap (λ ds. unwrap_or (get nat_cmp ds 0) no_descriptor) (takes d)

open_is_by_credential : (path : List ℕ) (flags : Flags) (mode : ℕ) → IsByCredential (Open path flags mode) (open_row path flags mode)
open_is_by_credential path flags mode = record {
  early = λ p none. ap (λ ds. refuse EISDIR (flags.create && ends_with_slash path) ∷ refuse EMFILE (nat_le descriptors_limit (length ds)) ∷ []) (sym none);
  demands = λ c. refl;
  change = λ c n. refl;
  told = λ c handle n takes. ap (λ (d : Descriptor). Opened handle d.ino) (sym (at_zero c.process takes (new_one c n)));
  opened = λ c handle n openings takes. ap (with_entry nat_cmp openings handle) (sym (at_zero c.process takes (new_one c n)));
  process = λ c n takes.
      ap (λ ds. record c.process { descriptors = ds }) (takes (new_one c n))
      ∙ ap (λ d. record c.process { descriptors = (0, d) ∷ c.process.descriptors }) (sym (at_zero c.process takes (new_one c n)));
  confines = open_confined_at path flags mode;
}
  where
    new_one : Scene → ℕ → Descriptor
    new_one c n = record { ino = unwrap_or c.first.ino n; offset = 0; read = flags.read; write = flags.write; append = flags.append }

pub each_actor_call : (call : Call) → IsTrue (is_actor_call call) → IsByCredential call (row_of call)
unfolding row_of
each_actor_call (Open path flags mode) is = open_is_by_credential path flags mode
each_actor_call (Stat path) is = record { early = λ p none. refl; demands = λ c. refl; change = λ c n. refl; told = λ c h n z. refl; opened = λ c h n os z. refl; process = λ c n z. refl; confines = unasked (Stat path) (λ p. refl) }
each_actor_call (Lstat path) is = record { early = λ p none. refl; demands = λ c. refl; change = λ c n. refl; told = λ c h n z. refl; opened = λ c h n os z. refl; process = λ c n z. refl; confines = unasked (Lstat path) (λ p. refl) }
each_actor_call (Access path want) is = record { early = λ p none. refl; demands = λ c. refl; change = λ c n. refl; told = λ c h n z. refl; opened = λ c h n os z. refl; process = λ c n z. refl; confines = unasked (Access path want) (λ p. refl) }
each_actor_call (Truncate path size) is = record { early = λ p none. refl; demands = λ c. refl; change = λ c n. refl; told = λ c h n z. refl; opened = λ c h n os z. refl; process = λ c n z. refl; confines = unasked (Truncate path size) (λ p. refl) }
each_actor_call (Chmod path mode) is = record { early = λ p none. refl; demands = λ c. refl; change = λ c n. refl; told = λ c h n z. refl; opened = λ c h n os z. refl; process = λ c n z. refl; confines = unasked (Chmod path mode) (λ p. refl) }
each_actor_call (Chown path owner group) is = record { early = λ p none. refl; demands = λ c. refl; change = λ c n. refl; told = λ c h n z. refl; opened = λ c h n os z. refl; process = λ c n z. refl; confines = unasked (Chown path owner group) (λ p. refl) }
each_actor_call (GetAcl path which) is = record { early = λ p none. refl; demands = λ c. refl; change = λ c n. refl; told = λ c h n z. refl; opened = λ c h n os z. refl; process = λ c n z. refl; confines = unasked (GetAcl path which) (λ p. refl) }
each_actor_call (SetAcl path which acl) is = record { early = λ p none. refl; demands = λ c. refl; change = λ c n. refl; told = λ c h n z. refl; opened = λ c h n os z. refl; process = λ c n z. refl; confines = unasked (SetAcl path which acl) (λ p. refl) }
each_actor_call (Mkdir path mode) is = record { early = λ p none. refl; demands = λ c. refl; change = λ c n. refl; told = λ c h n z. refl; opened = λ c h n os z. refl; process = λ c n z. refl; confines = unasked (Mkdir path mode) (λ p. refl) }
each_actor_call (Rmdir path) is = record { early = λ p none. refl; demands = λ c. refl; change = λ c n. refl; told = λ c h n z. refl; opened = λ c h n os z. refl; process = λ c n z. refl; confines = unasked (Rmdir path) (λ p. refl) }
each_actor_call (LinkCall old to) is = record { early = λ p none. refl; demands = λ c. refl; change = λ c n. refl; told = λ c h n z. refl; opened = λ c h n os z. refl; process = λ c n z. refl; confines = unasked (LinkCall old to) (λ p. refl) }
each_actor_call (Symlink target path) is = record { early = λ p none. refl; demands = λ c. refl; change = λ c n. refl; told = λ c h n z. refl; opened = λ c h n os z. refl; process = λ c n z. refl; confines = unasked (Symlink target path) (λ p. refl) }
each_actor_call (Readlink path) is = record { early = λ p none. refl; demands = λ c. refl; change = λ c n. refl; told = λ c h n z. refl; opened = λ c h n os z. refl; process = λ c n z. refl; confines = unasked (Readlink path) (λ p. refl) }
each_actor_call (Unlink path) is = record { early = λ p none. refl; demands = λ c. refl; change = λ c n. refl; told = λ c h n z. refl; opened = λ c h n os z. refl; process = λ c n z. refl; confines = unasked (Unlink path) (λ p. refl) }
each_actor_call (Rename old to) is = record { early = λ p none. refl; demands = λ c. refl; change = λ c n. refl; told = λ c h n z. refl; opened = λ c h n os z. refl; process = λ c n z. refl; confines = unasked (Rename old to) (λ p. refl) }
each_actor_call (Read fd len) is = absurd cc
each_actor_call (Write fd bytes) is = absurd cc
each_actor_call (Lseek fd whence by) is = absurd cc
each_actor_call (Close fd) is = absurd cc
each_actor_call (Fstat fd) is = absurd cc
each_actor_call (Ftruncate fd size) is = absurd cc
each_actor_call (Readdir fd) is = absurd cc
each_actor_call (Chdir path) is = absurd cc
each_actor_call (Umask mask) is = absurd cc
