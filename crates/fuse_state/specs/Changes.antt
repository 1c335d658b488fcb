-- What requests for names change of what a server keeps.
--     with_new_object        what is made
--     removed, moved, linked, opened_or_made        where a name goes, leads elsewhere, is added, or is found or made by its opening
use Rattle.std.specs.Prelude.{ℕ, Bool, true, false, Option, None, Some}
use Rattle.fuse_protocol.specs.declared.reply.Time.{Time}
use Rattle.fuse_state.specs.declared.removed.RemovedDirectory.{RemovedDirectory}
use Rattle.fuse_state.specs.Servers.{Server, with_generation, with_times_of, with_new_contents, with_change_time, with_removed_directory}

-- a new object of a directory has the number
abbrev pub with_new_object : Time → ℕ → ℕ → Server → Server
with_new_object now d n s = with_new_contents now d (with_times_of n (record { atime = now; mtime = now; ctime = now }) (with_generation n s))

-- the object that had a name, if there was one
abbrev pub changed_if : Time → Option ℕ → Server → Server
changed_if now None s = s
changed_if now (Some n) s = with_change_time now n s

-- a directory may be open still
abbrev pub removed : Time → ℕ → Option ℕ → Option RemovedDirectory → Server → Server
removed now d gone last s = with_removed_directory last (with_new_contents now d (changed_if now gone s))

-- the object that had the name, and the one that it replaces
abbrev pub moved : Time → ℕ → ℕ → Option ℕ → Option ℕ → Option RemovedDirectory → Server → Server
moved now old_d new_d object replaced last s =
    with_removed_directory last (with_new_contents now new_d (with_new_contents now old_d (changed_if now object (changed_if now replaced s))))

abbrev pub linked : Time → ℕ → ℕ → Server → Server
linked now d n s = with_new_contents now d (with_change_time now n s)

-- what was opened by a name in a directory is new, or lost its bytes, or is as it was
abbrev pub opened_or_made : Time → ℕ → ℕ → Bool → Bool → Server → Server
opened_or_made now d n true is_cut s = with_new_object now d n s
opened_or_made now d n false true s = with_new_contents now n s
opened_or_made now d n false false s = s
