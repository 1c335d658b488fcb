use Rattle.std.proofs.Common.{◌≡◌, ◌==◌, rules, tests, arith}
use Rattle.std.specs.List.{list_any}
use Rattle.std.proofs.lemmas.Iterator.{YieldsList-from_slice}
use Rattle.std.proofs.lemmas.Iterator.Search.{any_from_yields_List}
use Rattle.std.proofs.lemmas.Bool.Decides.{nat_tests}
use Rattle.fs_cred.proofs.cred.Cred.is_member.Goals as goal

pub returns-else-self-group : goal.returns-else-self-group
returns-else-self-group c =
    let found : c.any.result ≡ list_any (λ g. g == c.args.group) c.self.inside.groups.items =
    any_from_yields_List (λ g. g == c.args.group) _ _ c.any.result c.any.ensures.ran (YieldsList-from_slice c.self.inside.groups.items cc) (λ x b q k. search (rules, tests)) in
    rw (← c.self.view_is) (grind (arith, nat_tests))
