use Rattle.std.proofs.Common.{sym, ap, ◌∙◌}
use Rattle.std.proofs.lemmas.List.{at_drop_all}
use Rattle.fs_cred.proofs.Scanned.{group_in, group_found}
use Rattle.fs_cred.proofs.access.first_of_groups.Goals as goal

pub loop-entry-init : goal.loop-entry-init
loop-entry-init c =
    ap (group_in c.args.cred.now c.args.node.now.group c.args.want) c.entries-entry-items.ensures.all
    ∙ group_found c.args.cred.now c.args.node.now c.args.want

pub returns : goal.returns
returns c =
    sym (at_drop_all (group_in c.args.cred.now c.args.node.now.group c.args.want)
    c.entries-entry-items.result.now
    c.loop-entry.entry-index c.loop-entry-test.false) ∙ c.loop-entry.invariant
