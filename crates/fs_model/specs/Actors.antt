-- Actors: who makes a call and is no process, from objects that are given. Our own rule.
--     judged_as, start_of_walk        as whom an actor is judged, and where its paths start
--     is_actor_call        the calls that an actor makes
--     is_look        those of them that only look
--     opened_by, actor_reply        what it has open then, and what it is answered
--     checks_from        what is asked of a path that starts at an object
--     start_demands        what is asked of the objects
use Rattle.std.specs.Prelude.{ℕ, ◌%◌, ◌==◌, if◌then◌else◌, Bool, true, false, not, ◌&&◌, List, [], ◌∷◌, Option, None, Some, is_some}
use Rattle.fs_cred.specs.declared.errno.Errno.TheVariants.{ENOENT, ELOOP}
use Rattle.fs_model.specs.declared.call.Call.{Call}
use Rattle.fs_model.specs.declared.call.Call.TheVariants.{Open as OpenCall, Stat, Lstat, Access, Truncate, Chmod, Chown, GetAcl, SetAcl, Mkdir, Rmdir, Link as LinkCall, Symlink, Readlink, Unlink, Rename}
use Rattle.fs_model.specs.declared.event.Actor.{Actor}
use Rattle.fs_model.specs.declared.walk.Form.{Form}
use Rattle.fs_model.specs.Nodes.{Node, is_link}
use Rattle.fs_model.specs.Trees.{Tree, node_at}
use Rattle.fs_model.specs.Processes.{Process, Openings, new_process, the_descriptor}
use Rattle.fs_model.specs.Demands.{Demand, refuse, only_if}
use Rattle.fs_model.specs.Scenes.{Effect}
use Rattle.fs_model.specs.declared.reply.Reply.{Reply}
use Rattle.fs_model.specs.declared.reply.Reply.TheVariants.{Opened, Made}
use Rattle.fs_layout.specs.Maps.{with_entry}
use Rattle.std.specs.Ordering.{nat_cmp}
use Rattle.fs_model.specs.Parts.{is_empty, path_checks}

-- at the root, with nothing open
abbrev pub judged_as : Actor → Process
judged_as actor = record (new_process actor.cred) { umask = actor.umask % 512 }

-- where walk k starts
abbrev pub start_of_walk : Actor → ℕ → ℕ
start_of_walk actor k = if k == 1 then actor.start else actor.second_start

-- Those by paths but chdir: an actor has no descriptors, and nothing of it lasts but what it opens.
abbrev pub is_actor_call : Call → Bool
is_actor_call (OpenCall path flags mode) = true
is_actor_call (Stat path) = true
is_actor_call (Lstat path) = true
is_actor_call (Access path want) = true
is_actor_call (Truncate path size) = true
is_actor_call (Chmod path mode) = true
is_actor_call (Chown path owner group) = true
is_actor_call (GetAcl path which) = true
is_actor_call (SetAcl path which acl) = true
is_actor_call (Mkdir path mode) = true
is_actor_call (Rmdir path) = true
is_actor_call (LinkCall old new) = true
is_actor_call (Symlink target path) = true
is_actor_call (Readlink path) = true
is_actor_call (Unlink path) = true
is_actor_call (Rename old new) = true
is_actor_call _ = false

-- those that change nothing, and show no byte of a file
abbrev pub is_look : Call → Bool
is_look (Stat path) = true
is_look (Lstat path) = true
is_look (Access path want) = true
is_look (GetAcl path which) = true
is_look (Readlink path) = true
is_look _ = false

-- an empty path leads to the object
abbrev pub checks_from : List ℕ → List Demand
checks_from path = only_if (not (is_empty path)) (path_checks path)

-- A link itself is what these calls act on. Of the others none does what the link leads to, as open(2) with O_NOFOLLOW.
abbrev pub acts_on_links : Call → Bool
acts_on_links (Stat path) = true
acts_on_links (Lstat path) = true
acts_on_links (Chown path owner group) = true
acts_on_links (LinkCall old new) = true
acts_on_links (Readlink path) = true
acts_on_links _ = false

-- the first path is empty
abbrev pub starts_at_end : List (Form × List ℕ) → Bool
starts_at_end [] = false
starts_at_end (walk ∷ _) = is_empty walk.1

abbrev pub is_link_node : Option Node → Bool
is_link_node None = false
is_link_node (Some node) = is_link node.body

-- what it opens it has by a handle
abbrev pub opened_by : Call → ℕ → Process → Openings → Openings
opened_by (OpenCall path flags mode) handle p openings = with_entry nat_cmp openings handle (the_descriptor p 0)
opened_by _ handle p openings = openings

-- what it opens and what it makes it is told the number of
abbrev pub actor_reply : Call → ℕ → ℕ → Effect → Reply
actor_reply (OpenCall path flags mode) handle n effect = Opened handle (the_descriptor effect.process 0).ino
actor_reply (Mkdir path mode) handle n effect = Made n
actor_reply (Symlink target path) handle n effect = Made n
actor_reply _ handle n effect = effect.reply

abbrev pub start_demands : Tree → Actor → Call → List (Form × List ℕ) → List Demand
start_demands t actor call walks =
    refuse ENOENT (not (is_some (node_at t actor.start)))
    ∷ refuse ENOENT (not (is_some (node_at t actor.second_start)))
    ∷ refuse ELOOP (starts_at_end walks && is_link_node (node_at t actor.start) && not (acts_on_links call))
    ∷ []
