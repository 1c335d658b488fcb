-- What the unmount after a job is answered, and how the job ends then.
--     unmount_end        with its own status, or that what was done may not last
use Rattle.std.specs.Prelude.{Result, Ok, Err}
use Rattle.fs_model.specs.declared.reply.Reply.{Reply}
use Rattle.fs_model.specs.declared.reply.Reply.TheVariants.{Done}
use Rattle.fs_command.specs.declared.status.Status.{Status}
use Rattle.fs_program.specs.declared.failure.Failure.{Failure}
use Rattle.fs_program.specs.declared.failure.Failure.TheVariants.{Unmount}

abbrev pub unmount_end : Status → Reply → Result Status Failure
unmount_end status Done = Ok status
unmount_end status reply = Err Unmount
