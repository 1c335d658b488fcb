-- What is asked of what is open at a descriptor, or by a handle.
--     offset_at        the offset that a handle comes with
--     read_through, write_through, resize_through, show_through, list_through, close_through        each request
--     read_most, write_most        the most bytes of one
use Rattle.std.specs.Prelude.{ℕ, List}
use Rattle.fs_model.specs.declared.call.Call.TheVariants as calls
use Rattle.fs_model.specs.declared.event.HandleCall.TheVariants as handles
use Rattle.fs_model.specs.Limits.{move_limit, handle_read_limit, handle_write_limit}
use Rattle.call_parts.specs.Callers.{ByProcess, AnyCall, ByCaller, ByHandle}
use Rattle.call_parts.specs.declared.reaching.OpenAt.{OpenAt}
use Rattle.call_parts.specs.declared.reaching.OpenAt.TheVariants.{Descriptor, Handle}

-- where none is asked for it is 0
abbrev pub offset_at : OpenAt → ℕ
offset_at (Descriptor pid fd) = 0
offset_at (Handle handle offset) = offset

abbrev pub read_through : OpenAt → ℕ → AnyCall
read_through (Descriptor pid fd) len = ByCaller (ByProcess pid) (calls.Read fd len)
read_through (Handle handle offset) len = ByHandle handle (handles.Read offset len)

abbrev pub write_through : OpenAt → List ℕ → AnyCall
write_through (Descriptor pid fd) bytes = ByCaller (ByProcess pid) (calls.Write fd bytes)
write_through (Handle handle offset) bytes = ByHandle handle (handles.Write offset bytes)

abbrev pub resize_through : OpenAt → ℕ → AnyCall
resize_through (Descriptor pid fd) size = ByCaller (ByProcess pid) (calls.Ftruncate fd size)
resize_through (Handle handle offset) size = ByHandle handle (handles.Resize size)

abbrev pub show_through : OpenAt → AnyCall
show_through (Descriptor pid fd) = ByCaller (ByProcess pid) (calls.Fstat fd)
show_through (Handle handle offset) = ByHandle handle handles.Show

abbrev pub list_through : OpenAt → AnyCall
list_through (Descriptor pid fd) = ByCaller (ByProcess pid) (calls.Readdir fd)
list_through (Handle handle offset) = ByHandle handle handles.List

abbrev pub close_through : OpenAt → AnyCall
close_through (Descriptor pid fd) = ByCaller (ByProcess pid) (calls.Close fd)
close_through (Handle handle offset) = ByHandle handle handles.Close

-- of a process no more than a move
abbrev pub read_most : OpenAt → ℕ
read_most (Descriptor pid fd) = move_limit
read_most (Handle handle offset) = handle_read_limit

abbrev pub write_most : OpenAt → ℕ
write_most (Descriptor pid fd) = move_limit
write_most (Handle handle offset) = handle_write_limit
