use Rattle.fs_layout.specs.AclSector.{entries_bytes}
use Rattle.fs_layout.proofs.Writes.{nothing_put}
use Rattle.fs_layout.proofs.Entries.{put_more}
use Rattle.fs_layout.proofs.acl_sector.put_entries.Goals as goal

pub loop-i-init : goal.loop-i-init
unfolding entries_bytes
loop-i-init c = nothing_put c.args.to.now c.args.at

pub loop-i-preserved : goal.loop-i-preserved
loop-i-preserved c =
    put_more c.args.to.now c.loop-i.to c.put_entry.new.to c.args.entries.now _ c.args.at c.loop-i.i
    c.requires c.loop-i-test.true c.loop-i.invariant c.put_entry.ensures
