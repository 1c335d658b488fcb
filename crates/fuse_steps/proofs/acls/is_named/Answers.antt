use Rattle.std.proofs.Common.{◌≡◌, rules, tests, ap, ◌∙◌}
use Rattle.std.specs.List.{list_any}
use Rattle.std.proofs.lemmas.Iterator.{YieldsList-from_slice}
use Rattle.std.proofs.lemmas.Iterator.Search.{any_from_yields_List}
use Rattle.fuse_steps.proofs.GrantedUsers.{is_for, named-found}
use Rattle.fuse_steps.proofs.acls.is_named.Goals as goal

pub returns : goal.returns
returns c =
    let found : c.any.result ≡ list_any (is_for c.args.uid) c.entries.result.now =
    any_from_yields_List (is_for c.args.uid) _ _ c.any.result c.any.ensures.ran (YieldsList-from_slice c.entries.result.now cc) (λ x b q k. search (rules, tests)) in
    found ∙ (ap (list_any (is_for c.args.uid)) c.entries.ensures.all ∙ named-found c.args.uid c.args.acl.now)
