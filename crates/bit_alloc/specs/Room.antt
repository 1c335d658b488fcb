-- The room that changes take.
--     bitmaps        the sectors of the bitmaps
--     HasSpare        how many sectors can be put besides those
--     TakesSpare        how many were put
use Rattle.std.specs.Prelude.{ℕ, ◌+◌, ◌-◌, ◌≤◌, List}
use Rattle.std.specs.List.{range_with_len}
use Rattle.fs_layout.specs.declared.geometry.Geometry.{Geometry}
use Rattle.sector_txn.specs.Sectors.{TxnState, lacking}

-- the sectors of both bitmaps
abbrev pub bitmaps : Geometry → List ℕ
bitmaps p = range_with_len p.inode_bitmap (p.table - p.inode_bitmap)

-- all sectors of the bitmaps can be put, and so many more
abbrev pub HasSpare : Geometry → ℕ → TxnState → Type 0
HasSpare p more txn = lacking txn (bitmaps p) + more ≤ txn.room

-- besides sectors of the bitmaps at most so many were put
abbrev pub TakesSpare : Geometry → ℕ → TxnState → TxnState → Type 0
TakesSpare p more old new = old.room + lacking new (bitmaps p) ≤ new.room + lacking old (bitmaps p) + more
