-- What a stop leaves, computed.
--     mounted        the machine with a disk that was just mounted in this state
--     runs        it after events, none of which fails
--     halts_at        it after one more event, in which a write or a sync fails
--     left        the trees that a stop may leave
use Rattle.std.specs.Prelude.{◌≡◌, ℕ, true, List, [], ◌∷◌, ◌++◌, codes, map}
use Rattle.std.proofs.Common.{refl}
use Rattle.fs_cred.specs.declared.errno.Errno.TheVariants.{ENOENT, EIO, EBADF}
use Rattle.fs_cred.specs.Credentials.{usual_credential}
use Rattle.fs_cred.specs.Verdicts.{verdict}
use Rattle.fs_model.specs.declared.event.HandleCall.TheVariants.{Read as ReadBy, Write as WriteBy}
use Rattle.fs_model.specs.HandleCalls.{handle_call_row}
use Rattle.fs_model.specs.declared.call.Call.TheVariants.{Open, Read, Write, Stat, Chmod, Mkdir, Unlink}
use Rattle.fs_model.specs.declared.reply.Reply.{Reply}
use Rattle.fs_model.specs.declared.reply.Reply.TheVariants.{Pid, Fd, Data, Space}
use Rattle.fs_model.specs.declared.event.Event.{Event}
use Rattle.fs_model.specs.declared.event.Event.TheVariants.{Call as Calls, CallAt, CallBy, Fsync, Sync, Statfs}
use Rattle.fs_model.specs.Limits.{root}
use Rattle.fs_model.specs.Nodes.{names_of_body, shown_mode}
use Rattle.fs_model.specs.Trees.{Tree}
use Rattle.fs_model.specs.Births.{the_node}
use Rattle.fs_model.specs.TreeChanges.{pruned}
use Rattle.fs_model.specs.States.{State}
use Rattle.fs_model.specs.Trails.{trail_of}
use Rattle.fs_model.specs.Walks.{first_refusal, found_of}
use Rattle.fs_model.specs.Rows.{row_of}
use Rattle.fs_model.specs.Steps.{firm_refusal, other_refusal, after, tree_after}
use Rattle.fs_model.specs.Stops.{Machine, trees_after, stopped, stepped}
use Rattle.fs_model.proofs.Machine.{fresh, replies, went, least_choice, user, to_read, to_read_write, failed}

abbrev mounted : State → Machine
mounted s = record { state = s; trees = s.tree ∷ []; is_up = true; faults = 0 }

abbrev runs : Machine → List Event → Machine
runs m [] = m
runs m (e ∷ es) =
    let r = went m.state e (firm_refusal m.state e) (other_refusal m.state e) in
    runs (stepped m r.1 r.0 (trees_after e r.0 m.trees r.1.tree)) es

abbrev halts_at : Machine → Event → Machine
halts_at m e =
    let s = record m.state { halted = true } in
    stepped m s (failed EIO) (m.trees ++ s.tree ∷ tree_after m.state (after m.state e (least_choice m.state)) ∷ [])

abbrev left : Machine → List Tree
left m = map pruned m.trees

-- the names in the root, and its mode
abbrev root_names : Tree → List (List ℕ × ℕ)
root_names t = names_of_body (the_node t root).body

abbrev root_mode : Tree → ℕ
root_mode t = shown_mode (the_node t root).body

-- what was done before a sync stays; of what was done since, a stop leaves the first part
pub calls_after_a_sync : map root_names (left (runs (mounted fresh) (
    user 0 0 [] ∷ Calls 1 (Mkdir (codes "/a") 0o755) ∷ Calls 1 (Mkdir (codes "/b") 0o755) ∷ Sync
    ∷ Calls 1 (Mkdir (codes "/c") 0o755) ∷ Calls 1 (Mkdir (codes "/d") 0o755) ∷ []))) ≡
    ((codes "a", 2) ∷ (codes "b", 3) ∷ [])
    ∷ ((codes "a", 2) ∷ (codes "b", 3) ∷ (codes "c", 4) ∷ [])
    ∷ ((codes "a", 2) ∷ (codes "b", 3) ∷ (codes "c", 4) ∷ (codes "d", 5) ∷ [])
    ∷ []
unfolding verdict trail_of first_refusal found_of row_of firm_refusal other_refusal after
calls_after_a_sync = refl

abbrev changes_the_root : List Event
changes_the_root = user 0 0 [] ∷ Calls 1 (Chmod (codes "/") 0o711) ∷ Sync ∷ []

-- a change that fails is there after a stop, or it isn't
pub a_change_that_fails : map root_mode (left (halts_at (runs (mounted fresh) changes_the_root) (Calls 1 (Chmod (codes "/") 0o700)))) ≡
    0o711 ∷ 0o711 ∷ 0o700 ∷ []
unfolding verdict trail_of first_refusal found_of row_of firm_refusal other_refusal after
a_change_that_fails = refl

-- and so is one whose sync fails; it counts as one fault
pub a_sync_that_fails : map root_mode (left (halts_at (runs (mounted fresh) (changes_the_root ++ Calls 1 (Chmod (codes "/") 0o700) ∷ [])) Sync)) ≡
    0o711 ∷ 0o700 ∷ 0o700 ∷ 0o700 ∷ []
unfolding verdict trail_of first_refusal found_of row_of firm_refusal other_refusal after
a_sync_that_fails = refl

pub a_sync_that_succeeds : map root_mode (left (runs (mounted fresh) (changes_the_root ++ Calls 1 (Chmod (codes "/") 0o700) ∷ Sync ∷ []))) ≡ 0o700 ∷ []
unfolding verdict trail_of first_refusal found_of row_of firm_refusal other_refusal after
a_sync_that_succeeds = refl

pub one_fault : (halts_at (runs (mounted fresh) changes_the_root) Sync).faults ≡ 1
unfolding verdict trail_of first_refusal found_of row_of firm_refusal other_refusal after
one_fault = refl

-- what a disk that was stopped answers, where it has so many free sectors
abbrev replies_after_a_stop : List Event → ℕ → List Event → List (List Reply)
replies_after_a_stop es free then =
    let m = runs (mounted fresh) es in
    map (λ t. replies (stopped m.state t free) then) m.trees

-- what a file held when it was synced is read after a stop
pub a_synced_file : replies_after_a_stop (
    user 0 0 [] ∷ Calls 1 (Mkdir (codes "/d") 0o755) ∷ Calls 1 (Open (codes "/d/f") to_read_write 0o644)
    ∷ Calls 1 (Write 0 (codes "hello")) ∷ Fsync 1 0 ∷ []) 875
    (user 0 0 [] ∷ Calls 1 (Open (codes "/d/f") to_read 0) ∷ Calls 1 (Read 0 100) ∷ []) ≡
    (Pid 1 ∷ Fd 0 ∷ Data (codes "hello") ∷ []) ∷ []
unfolding verdict trail_of first_refusal found_of row_of firm_refusal other_refusal after
a_synced_file = refl

-- a file without a name doesn't outlive a stop, even where it was open and synced
pub an_open_file_without_a_name : replies_after_a_stop (
    user 0 0 [] ∷ Calls 1 (Open (codes "/f") to_read_write 0o644) ∷ Calls 1 (Write 0 (codes "hello")) ∷ Calls 1 (Unlink (codes "/f")) ∷ Fsync 1 0 ∷ []) 878
    (user 0 0 [] ∷ Calls 1 (Stat (codes "/f")) ∷ Statfs ∷ []) ≡
    (Pid 1 ∷ failed ENOENT ∷ Space 878 62 ∷ []) ∷ []
unfolding verdict trail_of first_refusal found_of row_of firm_refusal other_refusal after
an_open_file_without_a_name = refl

-- nor does one that was open by a handle, which is none then
pub a_handle_does_not_outlive_a_stop : replies_after_a_stop (
    CallAt (record { cred = usual_credential 0 0 []; umask = 0; start = root; second_start = root }) (Open (codes "f") to_read_write 0o644)
    ∷ CallBy 1 (WriteBy 0 (codes "hello"))
    ∷ CallAt (record { cred = usual_credential 0 0 []; umask = 0; start = root; second_start = root }) (Unlink (codes "f")) ∷ CallBy 1 (ReadBy 0 9) ∷ Sync ∷ []) 878
    (CallBy 1 (ReadBy 0 9) ∷ Statfs ∷ []) ≡
    (failed EBADF ∷ Space 878 62 ∷ []) ∷ []
unfolding verdict trail_of first_refusal found_of row_of handle_call_row firm_refusal other_refusal after
a_handle_does_not_outlive_a_stop = refl
