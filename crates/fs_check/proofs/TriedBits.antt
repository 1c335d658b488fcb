-- The bits of the inode bitmap, tried one after the other.
use Rattle.std.specs.Prelude.{◌≡◌, ◌≢◌, ℕ, ◌+◌, ◌/◌, ◌%◌, ◌<◌, nat_eq, nat_lt, nat_le, not, ◌||◌, Bool, true, false, List, IsTrue, ◌↔◌, Err}
use Rattle.std.proofs.Common.{refl, sym, ap, arith, ◌∙◌}
use Rattle.std.proofs.Math.Bool.{beq}
use Rattle.fs_layout.specs.declared.geometry.Geometry.{Geometry}
use Rattle.fs_layout.specs.Bytes.{SectorMap, u16_of}
use Rattle.fs_layout.specs.Images.{inode_map_bits, bit, stored}
use Rattle.fs_model.specs.Rules.{IsBit, InodeBits}
use Rattle.sector_disk.specs.Disk.{DiskState, OnlyReads}
use Rattle.sector_disk.proofs.Moments.{reads_joined}
use Rattle.fs_check.specs.declared.faults.CheckFault.TheVariants.{Found}
use Rattle.fs_check.specs.Checks.{meaning, Passed, IsLeast}
use Rattle.fs_check.specs.TableSectors.{IsTableSector}
use Rattle.fs_check.proofs.BitTests.{is_bit}
use Rattle.fs_check.proofs.Carrying.{meaning_same}
use Rattle.fs_check.proofs.Tables.{more_good}
use Rattle.fs_check.proofs.TableSectors.{same_sector, sector_back}
use Rattle.fs_check.proofs.Tests.{refuses}

-- The bits below n are as they have to be; the sectors of the bitmap and of the table that were read last are those of n, unless n is
-- the first of its own.
pub record AreBits (p : Geometry) (old now : DiskState) (n : ℕ) (map table : List ℕ) : Type 0 where
  pub reads : OnlyReads old now
  pub map_kept : n % 4096 ≢ 0 → map ≡ meaning old (p.inode_bitmap + n / 4096)
  pub kept : n % 4 ≢ 0 → IsTableSector p (meaning old) n table
  pub good : (k : ℕ) → k < n → IsBit p (meaning old) k

-- the test of a bit
are_same : (b t : Bool) → IsTrue (beq b t) ↔ b ≡ t
are_same true true = ((λ h. refl), (λ h. refl))
are_same true false = ((λ h. sym h), (λ h. sym h))
are_same false true = ((λ h. h), (λ h. h))
are_same false false = ((λ h. refl), (λ h. refl))

pub right_bit : (p : Geometry) (m : SectorMap) (n : ℕ) (map table : List ℕ) (b t r : Bool) → r ≡ beq b t → map ≡ m (p.inode_bitmap + n / 4096)
    → IsTableSector p m n table → ((q : SectorMap) (start : ℕ) → map ≡ q (start + n / 4096) → b ≡ bit q start n)
    → ((q : SectorMap) → IsTableSector p q n table → t ≡ (nat_lt n 2 || nat_le p.inodes n || not (nat_eq (u16_of (stored p q n) 0) 0)))
    → IsTrue r ↔ IsBit p m n
right_bit p m n map table b t r is read there set taken =
    let same = are_same b t in
    let test = is_bit p m n map table b t read there set taken in
    ((λ h. test.0 (same.0 (sym is ∙ h))), (λ h. is ∙ same.1 (test.1 h)))

-- a test of bit n, where those before it have passed
module _ {s0 s1 s2 s3 : DiskState} {p : Geometry} {n : ℕ} {map table new_map new : List ℕ} (b : Bool) (so_far : AreBits p s0 s1 n map table)
    (first : OnlyReads s1 s2) (second : OnlyReads s2 s3) (read : new_map ≡ meaning s1 (p.inode_bitmap + n / 4096)) (there : IsTableSector p (meaning s2) n new)
    (right : (m : SectorMap) → new_map ≡ m (p.inode_bitmap + n / 4096) → IsTableSector p m n new → IsTrue b ↔ IsBit p m n) where
  map_here : new_map ≡ meaning s0 (p.inode_bitmap + n / 4096)
  map_here = read ∙ ap (λ (m : SectorMap). m (p.inode_bitmap + n / 4096)) (meaning_same so_far.reads)

  here : IsTableSector p (meaning s0) n new
  here = sector_back s0 s2 p n new (reads_joined so_far.reads first) there

  reads : OnlyReads s0 s3
  reads = reads_joined so_far.reads (reads_joined first second)

  pub next_bits : b ≡ true → AreBits p s0 s3 (n + 1) new_map new
  next_bits e = record {
    reads = reads;
    map_kept = λ inside.
        let same : n / 4096 ≡ (n + 1) / 4096 = omega (arith, inside) in
        map_here ∙ ap (λ (k : ℕ). meaning s0 (p.inode_bitmap + k)) same;
    kept = same_sector p (meaning s0) n new here;
    good = more_good (IsBit p (meaning s0)) n so_far.good ((right (meaning s0) map_here here).0 e);
  }

  -- the bit is the first that is wrong
  pub wrong_bit : n < inode_map_bits p → b ≡ false → Passed {T = Unit {0}} (IsLeast p InodeBits) s0 s3 (Err (Found (record { rule = 3; at = n })))
  wrong_bit lt e = record {
    reads = reads;
    reason = (
      refl,
      record { fails = λ h. refuses (IsBit p (meaning s0) n) b e (right (meaning s0) map_here here) (h lt); least = λ k low below. so_far.good k low },
    );
  }
