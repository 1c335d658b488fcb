use Rattle.std.proofs.Common.{◌∙◌, ◌<◌, arith, length, ap}
use Rattle.std.proofs.lemmas.List.{length-set, length-map}
use Rattle.posix_acl.specs.AccessList.{entries_of}
use Rattle.posix_acl.specs.Entries.{numbers_of}
use Rattle.fs_layout.proofs.OneAcl.{sector_fits}
use Rattle.inode_table.proofs.Numbers.{numbers_more, all_numbers_written}
use Rattle.inode_table.proofs.sectors.sector_of.Goals as goal

pub loop-i-preserved : goal.loop-i-preserved
loop-i-preserved c =
    let few = (sector_fits c.args.acl.now c.entries-entries.ensures.valid).few in
    let same = c.entries-entries.ensures.all in
    let lt = c.loop-i-test.true in
    let room : c.loop-i.i < length c.loop-i.numbers = omega (arith, few, ap length same, length-map (entries_of c.args.acl.now) numbers_of, c.loop-i.invariant.len, lt) in
    record {
      len = length-set c.loop-i.numbers c.loop-i.i c.numbers.result ∙ c.loop-i.invariant.len;
      so_far = numbers_more c.entries-entries.result.now c.loop-i.numbers c.loop-i.i c.numbers.result _ room lt c.loop-i.invariant.so_far c.numbers.ensures;
    }

pub returns-clause-content : goal.returns-clause-content
returns-clause-content c =
    let end = c.loop-i-test.false in
    let most = c.loop-i.auto.i-end in
    all_numbers_written c.args.acl.now c.entries-entries.result.now c.loop-i.numbers c.new.result c.loop-i.i c.write_to.new.to c.entries-entries.ensures.all
    (omega (arith, end, most)) c.loop-i.invariant.so_far c.new.ensures c.write_to.ensures
