-- What a process sees into, and which states are alike to it, computed.
use Rattle.std.specs.Prelude.{◌≡◌, ℕ, Bool, true, false, List, [], ◌∷◌, codes, map, get_or, Option, None, Some}
use Rattle.std.proofs.Common.{refl, ap, arith}
use Rattle.posix_acl.specs.Entries.{perms_of}
use Rattle.posix_acl.specs.AccessList.{AccessList, minimal}
use Rattle.fs_cred.specs.declared.caps.Caps.{Caps}
use Rattle.fs_cred.specs.Capabilities.{cap_chown, cap_dac_override, cap_dac_read_search, cap_fowner, cap_fsetid, no_caps}
use Rattle.fs_cred.specs.Credentials.{credential, usual_credential}
use Rattle.fs_cred.specs.Verdicts.{verdict}
use Rattle.fs_model.specs.Nodes.{Node, Body, File, Dir, Link, bytes_in, no_stamps}
use Rattle.fs_model.specs.Trees.{node_at}
use Rattle.fs_model.specs.Processes.{Process, Descriptor, no_descriptor, new_process, with_descriptor}
use Rattle.fs_model.specs.States.{State}
use Rattle.fs_model.specs.Alike.{sees_into, node_seen, AreAlike}
use Rattle.fs_model.proofs.Machine.{fresh}

-- all objects here belong to user 1000 and group 100
abbrev object : Body → Node
object body = record { owner = 1000; group = 100; body = body; stamps = no_stamps }

abbrev file : ℕ → List ℕ → Node
file mode bytes = object (File (minimal mode) bytes)

abbrev directory : ℕ → List (List ℕ × ℕ) → Node
directory mode names = object (Dir (minimal mode) (record { names = names; default = None; set_group_id = false; sticky = false }))

abbrev process : ℕ → ℕ → List ℕ → Process
process uid gid groups = new_process (usual_credential uid gid groups)

abbrev owner : Process
owner = process 1000 100 []

abbrev stranger : Process
stranger = process 1001 101 []

-- whether it sees into a file, for each of these modes
abbrev sees_modes : Process → List ℕ → List Bool
sees_modes p modes = map (λ mode. sees_into p 2 (file mode (codes "x"))) modes

-- another user sees into what others may read
pub a_stranger : sees_modes stranger (0o602 ∷ 0o604 ∷ 0o773 ∷ []) ≡ false ∷ true ∷ false ∷ []
unfolding verdict
a_stranger = refl

-- a group with the owner's number isn't the owner
pub a_group_of_that_number : sees_modes (process 1001 1000 (1000 ∷ [])) (0o602 ∷ []) ≡ false ∷ []
unfolding verdict
a_group_of_that_number = refl

-- the owner sees into it whatever the mode
pub the_owner : sees_modes owner (0o602 ∷ 0o000 ∷ []) ≡ true ∷ true ∷ []
unfolding verdict
the_owner = refl

-- a member of the group sees into what the group may read, even where others may read more
pub a_member : sees_modes (process 1001 100 []) (0o640 ∷ 0o602 ∷ 0o604 ∷ []) ≡ true ∷ false ∷ false ∷ []
unfolding verdict
a_member = refl

pub a_member_by_another_group : sees_modes (process 1001 101 (99 ∷ 100 ∷ [])) (0o640 ∷ 0o602 ∷ 0o604 ∷ []) ≡ true ∷ false ∷ false ∷ []
unfolding verdict
a_member_by_another_group = refl

abbrev sees_by : Caps → Bool
sees_by caps = sees_into (new_process (credential 1001 101 [] caps)) 2 (file 0o602 (codes "x"))

-- of the capabilities, CAP_DAC_OVERRIDE and CAP_DAC_READ_SEARCH alone see into it
pub capabilities : map sees_by (cap_dac_override ∷ cap_dac_read_search ∷ cap_chown ∷ cap_fowner ∷ cap_fsetid ∷ no_caps ∷ []) ≡
    true ∷ true ∷ false ∷ false ∷ false ∷ false ∷ []
unfolding verdict
capabilities = refl

abbrev for_the_stranger : ℕ → ℕ → AccessList
for_the_stranger perms mask = record (minimal 0o604) { users = (1001, perms_of perms) ∷ []; mask = Some (perms_of mask) }

abbrev sees_named : ℕ → ℕ → Bool
sees_named perms mask = sees_into stranger 2 (object (File (for_the_stranger perms mask) (codes "x")))

-- a named user sees into it where both the entry and the mask let it be read
pub a_named_user : sees_named 4 4 ∷ sees_named 4 2 ∷ sees_named 2 6 ∷ [] ≡ true ∷ false ∷ false ∷ []
unfolding verdict
a_named_user = refl

-- ---- descriptors

abbrev to_read : ℕ → Descriptor
to_read n = record no_descriptor { ino = n; read = true }

abbrev to_write : ℕ → Descriptor
to_write n = record no_descriptor { ino = n; write = true }

-- with these two descriptors it sees into file 2, which has this mode
abbrev sees_with : Descriptor → Descriptor → ℕ → Bool
sees_with d e mode = sees_into (with_descriptor (with_descriptor stranger 0 d) 1 e) 2 (file mode (codes "x"))

-- what it has opened for reading it sees into, whatever the mode is by then
pub opened_for_reading : map (sees_with (to_read 2) (to_write 3)) (0o602 ∷ 0o600 ∷ 0o000 ∷ []) ≡ true ∷ true ∷ true ∷ []
unfolding verdict
opened_for_reading = refl

-- what it has opened for writing alone it doesn't, nor by a descriptor for another file
pub opened_for_writing : map (λ d. sees_with (to_write 2) d 0o602) (to_write 2 ∷ to_read 3 ∷ to_read 2 ∷ []) ≡ false ∷ false ∷ true ∷ []
unfolding verdict
opened_for_writing = refl

-- ---- what is seen of a node

-- to who doesn't see into it a file is zeros, as many as it has bytes
pub a_file_is_blotted : map (λ p. node_seen p 2 (file 0o602 (codes "hi"))) (stranger ∷ owner ∷ []) ≡ file 0o602 (0 ∷ 0 ∷ []) ∷ file 0o602 (codes "hi") ∷ []
unfolding verdict
a_file_is_blotted = refl

-- a directory is seen into by who may read it,
pub a_directory : map (λ mode. sees_into stranger 2 (directory mode [])) (0o700 ∷ 0o704 ∷ []) ≡ false ∷ true ∷ []
unfolding verdict
a_directory = refl

-- and is shown whole to the others too;
pub a_directory_stays : node_seen stranger 2 (directory 0o700 ((codes "f", 3) ∷ [])) ≡ directory 0o700 ((codes "f", 3) ∷ [])
unfolding verdict
a_directory_stays = refl

-- a link is seen into by all
pub a_link : sees_into stranger 2 (object (Link (codes "t"))) ≡ true
unfolding verdict
a_link = refl

-- ---- states

-- a file /f with these bytes, process 1 of another user, and process 2 of its owner, which has opened it for reading
abbrev holding : ℕ → List ℕ → State
holding mode bytes = record fresh {
  tree = (1, directory 0o755 ((codes "f", 2) ∷ [])) ∷ (2, file mode bytes) ∷ [];
  processes = (1, stranger) ∷ (2, with_descriptor owner 0 (to_read 2)) ∷ [];
  openings = [];
  free = 877;
}

abbrev bytes_of : Option Node → List ℕ
bytes_of None = []
bytes_of (Some node) = bytes_in node.body

-- a byte of /f; behind its end 7
abbrev byte : State → ℕ → ℕ
byte s i = get_or (bytes_of (node_at s.tree 2)) i 7

-- states are alike where other bytes stand in a file that the process doesn't see into,
pub alike_to_a_stranger : AreAlike 1 (holding 0o602 (codes "a")) (holding 0o602 (codes "b"))
unfolding verdict
alike_to_a_stranger = record { first_runs = refl; second_runs = refl; same = refl }

-- and not where it sees into it,
pub not_alike_to_a_reader : AreAlike 1 (holding 0o604 (codes "a")) (holding 0o604 (codes "b")) → ⊥
unfolding verdict
not_alike_to_a_reader h = let differs : 97 ≡ 98 = ap (λ s. byte s 0) h.same in omega (arith, differs)

pub not_alike_to_the_owner : AreAlike 2 (holding 0o602 (codes "a")) (holding 0o602 (codes "b")) → ⊥
unfolding verdict
not_alike_to_the_owner h = let differs : 97 ≡ 98 = ap (λ s. byte s 0) h.same in omega (arith, differs)

-- nor where the file has another size
pub sizes_show : AreAlike 1 (holding 0o602 (codes "a")) (holding 0o602 (codes "ab")) → ⊥
unfolding verdict
sizes_show h = let differs : 7 ≡ 0 = ap (λ s. byte s 1) h.same in omega (arith, differs)

-- to a number that no process has only equal states are alike
pub not_alike_to_nobody : AreAlike 3 (holding 0o602 (codes "a")) (holding 0o602 (codes "b")) → ⊥
unfolding verdict
not_alike_to_nobody h = let differs : 97 ≡ 98 = ap (λ s. byte s 0) h.same in omega (arith, differs)
