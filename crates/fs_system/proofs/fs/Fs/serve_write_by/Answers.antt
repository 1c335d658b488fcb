use Rattle.std.proofs.Common.{◌∷◌, [], Ok}
use Rattle.fs_model.specs.declared.event.Event.TheVariants.{CallBy}
use Rattle.fs_model.specs.declared.event.HandleCall.TheVariants.{Write as WriteAt}
use Rattle.fs_model.specs.declared.event.EventReply.TheVariants.{Reply as Replies}
use Rattle.fs_system.proofs.Played.{system_answers, forgotten_then}
use Rattle.fs_system.proofs.fs.Fs.serve_write_by.Goals as goal

pub returns : goal.returns
returns g c =
    let state = g.D.Disk.state in
    let kept = c.forget.ensures in
    let event = CallBy c.args.handle (WriteAt c.args.offset c.args.bytes.now) in
    let reply = c.write_by.result in
    forgotten_then state c.args.self.now c.forget.new.self kept.state kept.past.same kept.past.failures (Ok c.write_by.new.self) (event ∷ []) (Replies reply ∷ [])
    (system_answers state c.forget.new.self c.write_by.new.self event reply c.write_by.ensures.does)
