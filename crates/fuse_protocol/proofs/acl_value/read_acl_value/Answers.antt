use Rattle.std.proofs.Common.{arith, ap, map, ◌∙◌}
use Rattle.posix_acl.specs.Entries.{numbers_of}
use Rattle.fuse_protocol.proofs.AclEntries.{has_entry, none_is_some, none_first, one_entry_more}
use Rattle.fuse_protocol.proofs.acl_value.read_acl_value.Goals as goal

pub loop-i-init : goal.loop-i-init
loop-i-init c = record { len = omega (arith, c.in_ok-entries.ensures.len); numbers = ap (map numbers_of) c.in_ok-entries.ensures.items ∙ none_first c.args.value.now }

pub returns-in_default-clause-malformed : goal.returns-in_default-clause-malformed
returns-in_default-clause-malformed c = λ _ es is.
    let there = has_entry c.args.value.now es c.loop-i.i _ is (omega arith) c.loop-i-test.true in
    none_is_some _ _ c.in_default.is (c.entry_at.ensures.only there.0 there.1)

pub loop-i-preserved : goal.loop-i-preserved
loop-i-preserved c = record {
  len = omega (arith, c.in_ok-push.ensures.len);
  numbers = one_entry_more c.args.value.now c.loop-i.entries.items _ c.in-Some.entry c.loop-i.i c.loop-i.invariant.numbers c.in-Some.ensures.found c.in_ok-push.ensures.items;
}
