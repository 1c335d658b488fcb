-- What the kernel may keep of names, whatever is replied.
--     name_valid_in        for how many seconds a name is told
--     MayKeepName, NamesAreKeptWhereJudged        a name, or that nothing has it
--     IsMissing, OnlyMissingNamesAreAbsent        that nothing has it
use Rattle.std.specs.Prelude.{◌≡◌, ℕ, ◌<◌, true, false, List, ◌++◌, Some, Ok, IsTrue}
use Rattle.fs_cred.specs.declared.errno.Errno.TheVariants.{ENOENT}
use Rattle.fs_model.specs.declared.event.Event.{Event}
use Rattle.fs_model.specs.declared.reply.Reply.{Reply}
use Rattle.fuse_protocol.specs.declared.operation.Operation.TheVariants.{Lookup}
use Rattle.fuse_state.specs.Servers.{Server, number_of_node}
use Rattle.fuse_plans.specs.declared.reply.ReplyBody.{ReplyBody}
use Rattle.fuse_plans.specs.declared.reply.ReplyBody.TheVariants.{Found, Absent, Created}
use Rattle.fuse_plans.specs.declared.reply.Response.TheVariants.{Says}
use Rattle.fuse_plans.specs.Plans.{IsRunOf}
use Rattle.fuse_plans.specs.Works.{◌>>◌}
use Rattle.fuse_plans.specs.Requests.{Request}
use Rattle.fuse_plans.specs.Masks.{list_hides}
use Rattle.fuse_plans.specs.Nobody.{is_judged}
use Rattle.fuse_plans.specs.Times.{tell_time}
use Rattle.fuse_plans.specs.Serving.{request_plan}
use Rattle.fuse_plans.specs.Laws.{WasRefused}

-- for so many seconds the kernel may keep a name, or that nothing has it; 0 where none is told
abbrev pub name_valid_in : ReplyBody → ℕ
name_valid_in (Found node name_valid shown) = name_valid
name_valid_in (Created node name_valid shown handle flags) = name_valid
name_valid_in (Absent valid) = valid
name_valid_in _ = 0

-- Why it may: with the first replies it was found that the kernel follows the access list of the directory. Before what is made the
-- machine may be told the time.
pub data MayKeepName (r : Request) (s : Server) : List Event → List Reply → Type 0 where
  -- who looks a name up doesn't count
  is_looked_up : (name : List ℕ) (first after : List Event) (replied rest : List Reply) → r.operation ≡ Some (Lookup name)
      → IsRunOf (is_judged r.node true s) first replied true → MayKeepName r s (first ++ after) (replied ++ rest)
  -- what has the name is new, and the server has seen the directory before
  is_new : (d : ℕ) (t : Server) (first after : List Event) (replied rest : List Reply) → number_of_node s r.node ≡ Some d
      → IsRunOf ((tell_time r.now >> list_hides d) s) first replied (Ok false, t) → MayKeepName r s (first ++ after) (replied ++ rest)

-- Whatever was replied: what is told of a name may be kept only where the kernel judges before it asks, and by a list that it follows.
abbrev pub NamesAreKeptWhereJudged : Type 0
NamesAreKeptWhereJudged =
    (r : Request) (s t : Server) (body : ReplyBody) (es : List Event) (replies : List Reply) → 0 < name_valid_in body
    → IsRunOf (request_plan r s) es replies (Says body, t) → IsTrue s.settings.posix_acl × MayKeepName r s es replies

-- The server was refused, since nothing has the name.
abbrev pub IsMissing : List Event → List Reply → Type 0
IsMissing es replies = WasRefused ENOENT es replies

-- Whatever was replied: it is told that nothing has a name only where the server finds nothing.
abbrev pub OnlyMissingNamesAreAbsent : Type 0
OnlyMissingNamesAreAbsent =
    (r : Request) (s t : Server) (valid : ℕ) (es : List Event) (replies : List Reply)
    → IsRunOf (request_plan r s) es replies (Says (Absent valid), t) → IsMissing es replies
