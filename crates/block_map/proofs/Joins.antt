-- Calls on what one inode holds, one after another.
use Rattle.std.proofs.Common.{◌≡◌, ℕ, ◌+◌, ◌≤◌, sym, ap, subst, ◌∙◌, arith}
use Rattle.fs_layout.specs.declared.inode.Inode.{Inode}
use Rattle.fs_layout.specs.declared.geometry.Geometry.{Geometry}
use Rattle.fs_layout.specs.Bytes.{SectorMap}
use Rattle.fs_layout.specs.Images.{bit}
use Rattle.fs_layout.specs.Ownership.{IsConsistent}
use Rattle.fs_layout.specs.InodeChanges.{ChangesInode}
use Rattle.sector_txn.specs.Sectors.{TxnState, IsUnchanged}
use Rattle.sector_txn.proofs.TransactionRuns.{changes_weaker}
use Rattle.bit_alloc.specs.Inodes.{IsSound, KeepsAcls}
use Rattle.bit_alloc.proofs.Soundness.{touches_joined}
use Rattle.bit_alloc.proofs.Transactions.{map_unchanged, bitmaps_unchanged, puts_after}
use Rattle.block_map.specs.Contents.{ChangesContent}
use Rattle.block_map.proofs.Alterings.{fields_joined, acls_joined}
use Rattle.block_map.proofs.Wrote.{free_same}

-- after reads the map is sound
pub sound_after_reads : {p : Geometry} {old new : TxnState} → IsSound p old → IsUnchanged old new → IsSound p new
sound_after_reads {p} {old} {new} sound same = record {
  consistent = subst (IsConsistent p) (map_unchanged same) sound.consistent;
  bitmaps = bitmaps_unchanged p old new sound.bitmaps same;
}

-- a change after reads
pub content_after_reads : {p : Geometry} {n taken more : ℕ} {old mid new : TxnState} {v w : Inode} → IsUnchanged old mid → ChangesContent p n taken more mid new v w
    → ChangesContent p n taken more old new v w
content_after_reads {p} {n} {old = old} {mid} {new} {v} {w} same c =
    let e : mid.sectors ≡ old.sectors = sym (map_unchanged same) in
    record {
      sound = c.sound;
      touches = record {
        puts = puts_after same c.touches.puts;
        super = c.touches.super ∙ same.sectors 0;
        inode = subst (λ (image : SectorMap). ChangesInode p n image new.sectors) e c.touches.inode;
        free = let f = c.touches.free in let g = free_same p old mid same in omega (arith, f, g);
      };
      now = c.now;
      fields = c.fields;
      acls = subst (λ (image : SectorMap). KeepsAcls image new.sectors v w) e c.acls;
      used = c.used ∙ ap (λ (image : SectorMap). bit image p.inode_bitmap n) e;
    }

-- one change after another
pub content_joined : {p : Geometry} {n first then few more : ℕ} {old mid new : TxnState} {u v w : Inode} → ChangesContent p n first few old mid u v
    → ChangesContent p n then more mid new v w → ChangesContent p n (first + then) (few + more) old new u w
content_joined {p} {n} {first} {then} {few} {more} {old} {mid} {new} a b = record {
  sound = b.sound;
  touches = touches_joined p n first then few more old mid new a.sound.bitmaps.geometry a.touches b.touches;
  now = b.now;
  fields = fields_joined a.fields b.fields;
  acls = acls_joined a.acls b.acls;
  used = b.used ∙ a.used;
}

-- what puts few sectors puts no more than more
pub content_at_most : {p : Geometry} {n taken few more : ℕ} {old new : TxnState} {v w : Inode} → few ≤ more → ChangesContent p n taken few old new v w
    → ChangesContent p n taken more old new v w
content_at_most le c = record {
  sound = c.sound;
  touches = record { puts = changes_weaker (λ t r. r) le c.touches.puts; super = c.touches.super; inode = c.touches.inode; free = c.touches.free };
  now = c.now;
  fields = c.fields;
  acls = c.acls;
  used = c.used;
}
