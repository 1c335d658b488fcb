use Rattle.std.proofs.Common.{arith, sym, ap, ◌∙◌, ◌++◌, ◌∷◌, [], append_assoc}
use Rattle.std.proofs.lemmas.List.{append-nil, take_all}
use Rattle.fuse_protocol.specs.Bytes.{bytes_of_u32s}
use Rattle.fuse_protocol.specs.AclValues.{acl_entry_bytes, acl_value_bytes}
use Rattle.fuse_protocol.proofs.Runs.{one_more}
use Rattle.fuse_protocol.proofs.acl_value.push_acl_value.Goals as goal

pub loop-entry-init : goal.loop-entry-init
loop-entry-init c = c.in_ok-push_u32s.ensures.items ∙ sym (append-nil (c.args.to.now.items ++ bytes_of_u32s (2 ∷ [])))

pub loop-entry-preserved : goal.loop-entry-preserved
loop-entry-preserved c =
    one_more acl_entry_bytes (c.args.to.now.items ++ bytes_of_u32s (2 ∷ [])) c.entries-entries.result.now c.loop-entry.to.items _ c.loop-entry.entry-index _ (omega arith)
    c.loop-entry.invariant c.in_ok-push_acl_entry.ensures

pub returns : goal.returns
unfolding acl_value_bytes
returns c =
    c.loop-entry.invariant ∙ append_assoc c.args.to.now.items (bytes_of_u32s (2 ∷ [])) _
    ∙ ap (λ es. c.args.to.now.items ++ acl_value_bytes es) (take_all c.loop-entry.entry-index c.entries-entries.result.now (omega arith) ∙ c.entries-entries.ensures.all)
