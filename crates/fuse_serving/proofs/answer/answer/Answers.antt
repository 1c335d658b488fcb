use Rattle.std.proofs.Common.{true, false, None, Some, ap}
use Rattle.fuse_state.specs.Servers.{Server}
use Rattle.fuse_plans.specs.declared.request.Asked.{Asked}
use Rattle.fuse_plans.specs.Requests.{credential_for}
use Rattle.fuse_plans.specs.Serving.{answered, asked_for}
use Rattle.fuse_serving.specs.Pieces.{known}
use Rattle.fuse_serving.proofs.Carried.{nothing_asked}
use Rattle.fuse_serving.proofs.answer.answer.Goals as goal

pub returns-in-Ok : goal.returns-in-Ok
returns-in-Ok g c =
    let with = c.in-Ok.ensures.answered in
    record { memory = true; acl = with.acl; has_value = λ _. with.has_value; performs = with.performs }

pub returns-in-Err : goal.returns-in-Err
returns-in-Err g c =
    let p = g.P.Performer in
    let spoken = c.args.spoken.now in
    let asked : Asked = record { node = spoken.node; needs_nobody = c.args.asker.now.needs_nobody; cred = credential_for spoken.uid spoken.gid (known c.args.asker.now.caller c.args.asker.now.time false); now = c.args.asker.now.time } in
    let before : Server = p.server c.args.performer.now in
    record {
      memory = false;
      acl = None;
      has_value = λ is. absurd (cc);
      performs = nothing_asked p.Serves (answered false (asked_for asked None (Some spoken.operation)) before) (p.machine c.args.performer.now) (p.machine c.ask.new.performer)
          (c.refused.result, before) (c.refused.result, p.server c.ask.new.performer) (c.refused.ensures asked None before) c.in-Err.ensures.machine (ap (λ (s : Server). (c.refused.result, s)) c.in-Err.ensures.kept);
    }
