use Rattle.std.proofs.Common.{◌≡◌, ◌<◌, ℕ, subst, arith, IsTrue}
use Rattle.std.proofs.lemmas.Bool.{leb-true}
use Rattle.fs_layout.specs.declared.geometry.Geometry.{Geometry}
use Rattle.fs_layout.specs.Bytes.{SectorMap}
use Rattle.fs_layout.specs.Images.{HasWholeTables, inode_map_bits, map_bits, bit}
use Rattle.bit_alloc.specs.declared.bitmap.Bitmap.TheVariants.{Inodes, Blocks}
use Rattle.bit_alloc.specs.Bitmaps.{IsNumber, HasRestSet}
use Rattle.bit_alloc.proofs.Transactions.{unchanged_joined, map_unchanged}
use Rattle.blank_map.proofs.Placed.{placed_after, has_spare}
use Rattle.storage_tests.proofs.tests.bitmaps.is_ready.Goals as goal

-- what each check says of the map that it has left is so at the end
rest_of : (p : Geometry) (a b : SectorMap) → a ≡ b
    → ((n : ℕ) → n < inode_map_bits p → (IsNumber p Inodes n → ⊥) → IsTrue (bit a p.inode_bitmap n))
    → ((n : ℕ) → n < map_bits p → (IsNumber p Blocks n → ⊥) → IsTrue (bit b p.block_bitmap n)) → HasRestSet p b
rest_of p a b same inodes blocks Inodes n low ban = subst (λ (image : SectorMap). IsTrue (bit image p.inode_bitmap n)) same (inodes n low ban)
rest_of p a b same inodes blocks Blocks n low ban = blocks n low ban

pub has_rest_set-requires : goal.has_rest_set-requires
has_rest_set-requires g c = placed_after c.requires c.in_ok-read_tables.ensures.same.store

pub has_rest_set-requires-2 : goal.has_rest_set-requires-2
has_rest_set-requires-2 g c = placed_after c.requires (unchanged_joined c.in_ok-read_tables.ensures.same c.in_ok-inodes.ensures.same).store

pub returns-clause-bitmaps : goal.returns-clause-bitmaps
returns-clause-bitmaps g c = λ yes.
    let read = c.in_ok-read_tables.ensures in
    let first = c.in_ok-inodes.ensures in
    let second = c.in_ok-blocks.ensures in
    let last = unchanged_joined first.same second.same in
    let placed = placed_after c.requires (unchanged_joined read.same last).store in
    record {
      geometry = placed.geometry;
      disk = placed.disk;
      header = placed.header;
      tables = subst (HasWholeTables c.args.geometry) (map_unchanged last) read.tables;
      rest = rest_of c.args.geometry (g.S.Sectors.state c.has_rest_set.new.s).sectors (g.S.Sectors.state c.has_rest_set-2.new.s).sectors (map_unchanged second.same)
          (first.set c.if-not-inodes.false) (second.set c.if-not-blocks.false);
    }

pub returns-clause-room : goal.returns-clause-room
returns-clause-room g c = λ yes.
    omega (arith, has_spare c.args.geometry 0 (g.S.Sectors.state c.has_rest_set-2.new.s) (omega (arith, leb-true _ _ yes, c.room.ensures)))
