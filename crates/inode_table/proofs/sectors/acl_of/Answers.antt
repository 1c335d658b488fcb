use Rattle.std.proofs.Common.{◌∙◌, sym, arith, get_or}
use Rattle.posix_acl.specs.AccessList.{entries_of, list_numbers}
use Rattle.posix_acl.proofs.Ordering.{blank}
use Rattle.fs_layout.proofs.Codecs.{same_ok}
use Rattle.inode_table.proofs.Numbers.{numbers_read, entry_known, entries_read, entries_make, entries_faultless}
use Rattle.inode_table.proofs.sectors.acl_of.Goals as goal

pub unreachable-requires : goal.unreachable-requires
unreachable-requires c =
    let a = c.requires in
    let good = numbers_read a.0 c.args.content.now c.read_from.result a.1 a.2 c.read_from.ensures.only in
    let bad = c.in_default.is in
    absurd cc

pub unreachable-requires-in_default-from_numbers : goal.unreachable-requires-in_default-from_numbers
unreachable-requires-in_default-from_numbers c =
    let a = c.requires in
    let good = numbers_read a.0 c.args.content.now c.read_from.result a.1 a.2 c.read_from.ensures.only in
    let is = c.entries-numbers-items.ensures.value ∙ same_ok c.in-Ok.sector (list_numbers a.0) c.read_from.result c.in-Ok.is good in
    let some = c.from_numbers.ensures.only (get_or (entries_of a.0) c.loop-numbers.numbers-index blank)
    (entry_known a.0 c.entries-numbers-items.result.now c.loop-numbers.numbers-index _ blank is c.loop-numbers-test.true) in
    let none = c.in_default-from_numbers.is in
    absurd cc

pub returns-in-Ok-from_entries : goal.returns-in-Ok-from_entries
returns-in-Ok-from_entries c = λ a is same.
    let good = numbers_read a c.args.content.now c.read_from.result is same c.read_from.ensures.only in
    let ns = c.entries-numbers-items.ensures.value ∙ same_ok c.in-Ok.sector (list_numbers a) c.read_from.result c.in-Ok.is good in
    let end = c.loop-numbers-test.false in
    let most = c.loop-numbers.auto.numbers-index-end in
    let es = c.deref.ensures.value ∙ entries_read a c.loop-numbers.entries.items c.entries-numbers-items.result.now c.loop-numbers.numbers-index ns
    (omega (arith, end, most)) c.loop-numbers.invariant in
    sym (c.in-Ok-from_entries.ensures.only a (entries_make a c.deref.result.now is es))

pub unreachable-requires-in_default-fault : goal.unreachable-requires-in_default-fault
unreachable-requires-in_default-fault c =
    let a = c.requires in
    let good = numbers_read a.0 c.args.content.now c.read_from.result a.1 a.2 c.read_from.ensures.only in
    let ns = c.entries-numbers-items.ensures.value ∙ same_ok c.in-Ok.sector (list_numbers a.0) c.read_from.result c.in-Ok.is good in
    let end = c.loop-numbers-test.false in
    let most = c.loop-numbers.auto.numbers-index-end in
    let es = c.deref.ensures.value ∙ entries_read a.0 c.loop-numbers.entries.items c.entries-numbers-items.result.now c.loop-numbers.numbers-index ns
    (omega (arith, end, most)) c.loop-numbers.invariant in
    entries_faultless a.0 c.deref.result.now c.in-Err.fault a.1 es (c.in-Err.ensures.err c.in_default-fault.not-OutOfMemory)
