-- What is done by a handle: the calls on a descriptor, by one who has just that open, at descriptor 0. Our own rule.
--     doer        who does it
--     handle_call_row        each handle_call's demands and effect
--     kept_by        what actors have open then
use Rattle.std.specs.Prelude.{ℕ, [], ◌∷◌, Option, None, Some}
use Rattle.std.specs.Ordering.{nat_cmp}
use Rattle.fs_layout.specs.Maps.{get, without}
use Rattle.fs_model.specs.declared.event.HandleCall.{HandleCall}
use Rattle.fs_model.specs.declared.event.HandleCall.TheVariants.{Read, Write, Resize, Show, List as ListNames, Close}
use Rattle.fs_model.specs.Limits.{handle_read_limit, handle_write_limit}
use Rattle.fs_model.specs.Processes.{Process, Descriptor, Openings, process_holding}
use Rattle.fs_model.specs.Scenes.{Row}
use Rattle.fs_model.specs.DescriptorCalls.{read_within, write_within, close_row, fstat_row, ftruncate_row, readdir_row}

-- from where on; the others ask for no offset
abbrev pub offset_of_call : HandleCall → ℕ
offset_of_call (Read offset len) = offset
offset_of_call (Write offset bytes) = offset
offset_of_call _ = 0

-- with nothing open where the handle isn't
abbrev pub doer_with : ℕ → Option Descriptor → Process
doer_with offset None = process_holding []
doer_with offset (Some d) = process_holding ((0, record d { offset = offset }) ∷ [])

abbrev pub doer : Openings → ℕ → HandleCall → Process
doer openings handle handle_call = doer_with (offset_of_call handle_call) (get nat_cmp openings handle)

unfoldable pub handle_call_row : HandleCall → Row
handle_call_row (Read offset len) = read_within handle_read_limit 0 len
handle_call_row (Write offset bytes) = write_within handle_write_limit 0 bytes
handle_call_row (Resize size) = ftruncate_row 0 size
handle_call_row Show = fstat_row 0
handle_call_row ListNames = readdir_row 0
handle_call_row Close = close_row 0

-- no offset is kept
abbrev pub kept_by : HandleCall → ℕ → Openings → Openings
kept_by Close handle openings = without nat_cmp openings handle
kept_by _ handle openings = openings
