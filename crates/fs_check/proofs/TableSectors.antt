-- The table's sectors, read one after the other.
use Rattle.std.specs.Prelude.{◌≡◌, ◌≢◌, ℕ, ◌+◌, ◌/◌, ◌%◌, List, length, ◌++◌, ◌∷◌, []}
use Rattle.std.proofs.Common.{ap, sym, arith, ◌∙◌, subst}
use Rattle.std.proofs.lemmas.List.{length-append}
use Rattle.fs_layout.specs.declared.geometry.Geometry.{Geometry}
use Rattle.fs_layout.specs.Bytes.{SectorMap}
use Rattle.sector_disk.specs.Disk.{DiskState, OnlyReads}
use Rattle.fs_check.specs.Checks.{meaning}
use Rattle.fs_check.specs.TableSectors.{IsTableSector}
use Rattle.fs_check.proofs.Carrying.{meaning_same}

-- the next inode stands in the same sector, unless it is its first
pub same_sector : (p : Geometry) (m : SectorMap) (n : ℕ) (content : List ℕ) → IsTableSector p m n content → (n + 1) % 4 ≢ 0 → IsTableSector p m (n + 1) content
same_sector p m n content there inside lt =
    let same : n / 4 ≡ (n + 1) / 4 = omega (arith, inside) in
    there (omega (arith, lt)) ∙ ap (λ (k : ℕ). m (p.table + k)) same

-- a sector that was read later
pub sector_back : (old mid : DiskState) (p : Geometry) (n : ℕ) (content : List ℕ) → OnlyReads old mid → IsTableSector p (meaning mid) n content
    → IsTableSector p (meaning old) n content
sector_back old mid p n content reads there = subst (λ m. IsTableSector p m n content) (meaning_same reads) there

pub sector_still : (old mid : DiskState) (p : Geometry) (n : ℕ) (content : List ℕ) → OnlyReads old mid → IsTableSector p (meaning old) n content
    → IsTableSector p (meaning mid) n content
sector_still old mid p n content reads there = subst (λ m. IsTableSector p m n content) (sym (meaning_same reads)) there

-- one more in a vector
pub one_longer : {A : Type 0} (xs ys : List A) (x : A) (n : ℕ) → ys ≡ xs ++ x ∷ [] → length xs ≡ n → length ys ≡ n + 1
one_longer xs ys x n is len = ap length is ∙ length-append xs (x ∷ []) ∙ ap (λ (k : ℕ). k + 1) len
