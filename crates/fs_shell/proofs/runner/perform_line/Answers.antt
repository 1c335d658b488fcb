use Rattle.std.proofs.Common.{◌∷◌, [], Ok}
use Rattle.fs_model.specs.declared.event.EventReply.TheVariants.{Reply as Replies}
use Rattle.fs_system.proofs.Played.{plays_nothing}
use Rattle.fs_shell.specs.Runs.{is_blank, is_performed}
use Rattle.fs_shell.proofs.Faulty.{answers_fault}
use Rattle.fs_shell.proofs.runner.perform_line.Goals as goal

pub returns-in-Ok-Event : goal.returns-in-Ok-Event
returns-in-Ok-Event g c = record {
  events = c.in-Ok-Event.event ∷ [];
  replies = Replies c.serve-reply.result ∷ [];
  answered = is_performed c.in-Ok-Event.event c.serve-reply.result (rw c.in-Ok-Event.field-0-is at c.in-Ok-Event.ensures.said);
  plays = c.serve-reply.ensures;
}

pub returns-in-Err : goal.returns-in-Err
returns-in-Err g c = record {
  events = [];
  replies = [];
  answered = answers_fault c.args.line.now _ c.parse_line.result c.in-Err.is c.in-Err.ensures.said c.parse_line.ensures.memory;
  plays = plays_nothing g.D.Disk.state (Ok c.args.fs.now);
}

pub returns-in-Ok-Blank : goal.returns-in-Ok-Blank
returns-in-Ok-Blank g c = record {
  events = [];
  replies = [];
  answered = is_blank (rw c.in-Ok-Blank.field-0-is at c.in-Ok-Blank.ensures.said);
  plays = plays_nothing g.D.Disk.state (Ok c.args.fs.now);
}
