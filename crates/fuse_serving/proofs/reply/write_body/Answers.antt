use Rattle.std.proofs.Common.{◌≡◌, ◌∙◌, ap, rules}
use Rattle.fuse_protocol.specs.Replies.{reply_bytes}
use Rattle.fuse_plans.specs.Protocol.{reply_of_body}
use Rattle.fuse_serving.proofs.reply.write_body.Goals as goal
use Rattle.fuse_serving.proofs.reply.write_body.Goals.{in-Nothing, in-Found, in-Absent, in-Shown, in-Opened, in-Created, in-Space, in-Agreed}

pub returns : goal.returns
returns c =
    let same : c.match-body.reply ≡ reply_of_body c.args.body.now = elim c.match-body.branch [
      | in-Nothing w ↦ search rules
      | in-Found w ↦ search rules
      | in-Absent w ↦ search rules
      | in-Shown w ↦ search rules
      | in-Opened w ↦ search rules
      | in-Created w ↦ search rules
      | in-Space w ↦ search rules
      | in-Agreed w ↦ search rules
    ] in
    c.in_ok-write_one.ensures ∙ ap (reply_bytes c.args.unique) same
