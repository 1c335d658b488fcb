use Rattle.std.proofs.Common.{◌≡◌, ◌<◌, ◌≤◌, ◌+◌, ◌/◌, ℕ, replicate, subst, arith, inl, inr, ◌⊎◌, ◌↔◌, IsTrue}
use Rattle.std.proofs.lemmas.Bool.{leb-true, cases_lt}
use Rattle.fs_layout.specs.declared.geometry.Geometry.{Geometry}
use Rattle.fs_layout.specs.Bytes.{SectorMap, zeros}
use Rattle.fs_layout.specs.Inode.{free_inode}
use Rattle.fs_layout.specs.Geometry.{IsGeometry}
use Rattle.fs_layout.specs.Images.{HasWholeTables, inode_map_bits, map_bits, bit, inode_at, Owns}
use Rattle.fs_layout.proofs.Free.{free_where_zeros, free_has_no_sector, owns_nothing, consistent_without_owners}
use Rattle.fs_layout.proofs.Saves.{in_table}
use Rattle.sector_txn.specs.Sectors.{TxnState}
use Rattle.bit_alloc.specs.declared.bitmap.Bitmap.TheVariants.{Inodes, Blocks}
use Rattle.bit_alloc.specs.Bitmaps.{IsNumber}
use Rattle.bit_alloc.specs.Inodes.{IsSound}
use Rattle.bit_alloc.proofs.Transactions.{unchanged_joined, map_unchanged}
use Rattle.bit_alloc.proofs.Soundness.{sound_from}
use Rattle.blank_map.specs.Maps.{IsPlaced}
use Rattle.blank_map.proofs.Placed.{placed_after, has_spare}
use Rattle.blank_map.proofs.is_blank.Goals as goal

-- each inode of a table of zeros is one that is not used
zero_there : (p : Geometry) (image : SectorMap) → IsGeometry p → ((t : ℕ) → p.table ≤ t → t < p.first_data → image t ≡ replicate 512 0)
    → (n : ℕ) → n < p.inodes → image (p.table + n / 4) ≡ zeros 512
unfolding zeros
zero_there p image geometry zero n lt = let i = in_table p n geometry lt in zero (p.table + n / 4) i.0 i.1

blank_is_sound : (p : Geometry) (t : TxnState) → IsPlaced p t → HasWholeTables p t.sectors
    → ((n : ℕ) → n < p.inodes → t.sectors (p.table + n / 4) ≡ zeros 512)
    → ((n : ℕ) → n < inode_map_bits p → IsTrue (bit t.sectors p.inode_bitmap n) ↔ (IsNumber p Inodes n → ⊥))
    → ((n : ℕ) → n < map_bits p → IsTrue (bit t.sectors p.block_bitmap n) ↔ (IsNumber p Blocks n → ⊥)) → IsSound p t
blank_is_sound p t placed whole zero inodes blocks =
    sound_from p t (consistent_without_owners p t.sectors placed.geometry whole (λ n lt. (free_where_zeros p t.sectors n (zero n lt)).1) none bits) placed.disk placed.header outside
  where
    none : (n s : ℕ) → n < p.inodes → Owns t.sectors (inode_at p t.sectors n) s → ⊥
    none n s lt o =
        owns_nothing t.sectors free_inode s free_has_no_sector (subst (λ v. Owns t.sectors v s) (free_where_zeros p t.sectors n (zero n lt)).0 o)

    outside : (n : ℕ) → n < inode_map_bits p → (n ≡ 0) ⊎ (p.inodes ≤ n) → IsTrue (bit t.sectors p.inode_bitmap n)
    outside n low (inl e) = (inodes n low).1 (λ is. let from = is.0 in omega (arith, from, e))
    outside n low (inr past) = (inodes n low).1 (λ is. let below = is.1 in omega (arith, below, past))

    side : (s : ℕ) → (IsNumber p Blocks s → ⊥) → (s < p.first_data) ⊎ (p.sectors ≤ s)
    side s ban = elim (cases_lt s p.first_data) [
      | inl low ↦ inl low
      | inr from ↦ elim (cases_lt s p.sectors) [ inl below ↦ absurd (ban (from, below)) | inr past ↦ inr past ]
    ]

    apart : (s : ℕ) → (s < p.first_data) ⊎ (p.sectors ≤ s) → IsNumber p Blocks s → ⊥
    apart s (inl low) is = let from = is.0 in omega (arith, from, low)
    apart s (inr past) is = let below = is.1 in omega (arith, below, past)

    bits : (s : ℕ) → s < map_bits p → IsTrue (bit t.sectors p.block_bitmap s) ↔ ((s < p.first_data) ⊎ (p.sectors ≤ s))
    bits s fits = (λ yes. side s ((blocks s fits).0 yes), λ o. (blocks s fits).1 (apart s o))

pub has_zero_table-requires : goal.has_zero_table-requires
has_zero_table-requires g c = placed_after c.requires c.in_ok-read_tables.ensures.same.store

pub has_bits-requires : goal.has_bits-requires
has_bits-requires g c = placed_after c.requires (unchanged_joined c.in_ok-read_tables.ensures.same c.in_ok-zero.ensures.same).store

pub has_bits-requires-2 : goal.has_bits-requires-2
has_bits-requires-2 g c =
    placed_after c.requires (unchanged_joined c.in_ok-read_tables.ensures.same (unchanged_joined c.in_ok-zero.ensures.same c.in_ok-inodes.ensures.same)).store

pub returns : goal.returns
returns g c = λ yes.
    let p = c.args.geometry in
    let t = g.S.Sectors.state c.has_bits-2.new.s in
    let read = c.in_ok-read_tables.ensures in
    let first = c.in_ok-zero.ensures in
    let second = c.in_ok-inodes.ensures in
    let third = c.in_ok-blocks.ensures in
    let last = unchanged_joined second.same third.same in
    let later = unchanged_joined first.same last in
    let placed = placed_after c.requires (unchanged_joined read.same later).store in
    let zero = subst (λ (image : SectorMap). (n : ℕ) → n < p.inodes → image (p.table + n / 4) ≡ zeros 512) (map_unchanged later)
    (zero_there p _ c.requires.geometry (first.zero c.if-not-zero.false)) in
    record {
      sound = blank_is_sound p t placed (subst (HasWholeTables p) (map_unchanged later) read.tables) zero
          (subst (λ (image : SectorMap). (n : ℕ) → n < inode_map_bits p → IsTrue (bit image p.inode_bitmap n) ↔ (IsNumber p Inodes n → ⊥)) (map_unchanged last)
          (second.set c.if-not-inodes.false))
          (subst (λ (image : SectorMap). (n : ℕ) → n < map_bits p → IsTrue (bit image p.block_bitmap n) ↔ (IsNumber p Blocks n → ⊥)) (map_unchanged third.same)
          (third.set c.if-not-blocks.false));
      clear = λ n lt bit_clear. (free_where_zeros p t.sectors n (zero n lt)).0;
      spare = has_spare p 12 t (omega (arith, leb-true _ _ yes, c.room.ensures));
    }
