-- What is done by a handle, as the machine has it.
--     handle_call        a call, or a write
use Rattle.fs_model.specs.declared.event.HandleCall.{HandleCall}
use Rattle.fs_model.specs.declared.event.HandleCall.TheVariants.{Write}
use Rattle.fs_system.specs.declared.calls.AskedByHandle.{AskedByHandle}
use Rattle.fs_system.specs.declared.calls.AskedByHandle.TheVariants as asked

abbrev pub handle_call : AskedByHandle → HandleCall
handle_call (asked.Call call) = call.now
handle_call (asked.Write offset bytes) = Write offset bytes.now
