-- A transaction's sectors: what its steps change, and what they leave alone.
--     TxnState        what is known of a transaction at one moment
--     SameStore        the store below it is the same
--     IsUnchanged, IsPut        what a `get` and a `put` do
--     lacking        how much room sectors need
--     PutsOnly        what several gets and puts do
use Rattle.std.specs.Prelude.{◌≡◌, ◌≢◌, ◌⊎◌, ℕ, ◌+◌, ◌≤◌, List, [], ◌∷◌, Bool, true, false, if◌then◌else◌}
use Rattle.fs_layout.specs.Bytes.{SectorMap}
use Rattle.fs_layout.specs.InodeChanges.{Puts}
use Rattle.sector_disk.specs.Disk.{DiskState, OnlyReads}

-- what is known of a transaction at one moment
pub record TxnState : Type 1 where
  -- the content of each sector, as a `get` gives it
  pub sectors : SectorMap
  -- the content that each sector had before the transaction
  pub before : SectorMap
  -- whether a sector was put
  pub has_put : ℕ → Bool
  -- how many sectors can still be put that weren't yet
  pub room : ℕ
  -- how many header sectors the disk has
  pub header : ℕ
  -- the disk below
  pub disk : DiskState

-- what the transaction began with is the same, and the disk was only read
pub record SameStore (old new : TxnState) : Type 0 where
  pub before : (n : ℕ) → new.before n ≡ old.before n
  pub header : new.header ≡ old.header
  pub reads : OnlyReads old.disk new.disk

-- the map is the same, and so are the sectors that were put
pub record IsUnchanged (old new : TxnState) : Type 0 where
  pub store : SameStore old new
  pub sectors : (n : ℕ) → new.sectors n ≡ old.sectors n
  pub delta : (n : ℕ) → new.has_put n ≡ old.has_put n
  pub room : new.room ≡ old.room

-- sector n has the content and was put, which takes room the first time; nothing else differs
pub record IsPut (n : ℕ) (content : List ℕ) (old new : TxnState) : Type 0 where
  pub store : SameStore old new
  pub sectors : Puts n content old.sectors new.sectors
  pub has : new.has_put n ≡ true
  pub others : (m : ℕ) → m ≢ n → new.has_put m ≡ old.has_put m
  pub first : old.has_put n ≡ false → new.room + 1 ≡ old.room
  pub again : old.has_put n ≡ true → new.room ≡ old.room

-- how many of these sectors weren't put yet
abbrev pub lacking : TxnState → List ℕ → ℕ
lacking txn [] = 0
lacking txn (n ∷ ns) = if txn.has_put n then lacking txn ns else lacking txn ns + 1

-- Only sectors with R differ or were put. They have taken the room of those that were put from `shared`, and of at most
-- so many more.
pub record PutsOnly (R : ℕ → Type 0) (shared : List ℕ) (more : ℕ) (old new : TxnState) : Type 0 where
  pub store : SameStore old new
  pub others : (n : ℕ) → (R n → ⊥) → new.sectors n ≡ old.sectors n
  pub delta : (n : ℕ) → new.has_put n ≡ true → (old.has_put n ≡ true) ⊎ R n
  pub kept : (n : ℕ) → old.has_put n ≡ true → new.has_put n ≡ true
  pub room : old.room + lacking new shared ≤ new.room + lacking old shared + more
