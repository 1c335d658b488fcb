use Rattle.std.proofs.Common.{◌≡◌, rules, tests, ap, ◌∙◌}
use Rattle.std.specs.List.{list_all}
use Rattle.std.proofs.lemmas.Iterator.{YieldsList-from_slice}
use Rattle.std.proofs.lemmas.Iterator.Search.{all_from_yields_List}
use Rattle.fuse_steps.proofs.GrantedUsers.{passes_named, named-granted}
use Rattle.fuse_steps.proofs.acls.entries_hold.Goals as goal

pub returns : goal.returns
returns c =
    let each : c.all.result ≡ list_all (passes_named c.args.uid c.args.want) c.entries.result.now =
    all_from_yields_List (passes_named c.args.uid c.args.want) _ _ c.all.result c.all.ensures.ran (YieldsList-from_slice c.entries.result.now cc) (λ x b q k. search (rules, tests)) in
    each ∙ (ap (list_all (passes_named c.args.uid c.args.want)) c.entries.ensures.all ∙ named-granted c.args.uid c.args.want c.args.acl.now)
