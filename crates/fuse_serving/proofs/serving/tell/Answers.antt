use Rattle.std.proofs.Common.{◌≡◌, ◌∙◌, true, false, sym, rules}
use Rattle.fuse_serving.specs.Rounds.{has_reply}
use Rattle.fuse_serving.proofs.Passing.{tells_nothing, tells_one}
use Rattle.fuse_serving.proofs.serving.tell.Goals as goal

pub returns-then-not-branch-clause-told : goal.returns-then-not-branch-clause-told
returns-then-not-branch-clause-told g c =
    let none : has_reply c.args.response.now ≡ false = sym c.in_ok-write_response.ensures.is ∙ search rules in
    tells_nothing g.K.Kernel.Does c.args.kernel.now c.args.unique c.args.response.now true none

pub returns-in-Ok-clause-told : goal.returns-in-Ok-clause-told
returns-in-Ok-clause-told g c =
    let some : c.in_ok-write_response.field-0 ≡ true = search rules in
    tells_one g.K.Kernel.Does c.args.kernel.now c.write.new.self c.args.unique c.args.response.now c.deref.result.now c.in-Ok.taken
    (sym c.in_ok-write_response.ensures.is ∙ some) (c.deref.ensures.value ∙ c.in_ok-write_response.ensures.bytes some) c.in-Ok.ensures
