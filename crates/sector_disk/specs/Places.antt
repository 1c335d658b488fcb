-- Sectors in memory that are kept by places: a number for each sector, and each content that isn't zeros once.
--     sectors_at        the sectors that the places stand for
--     KeptSectors, OwnsPlace        sectors and their places, as a contract sees them
--     IsKept        zeros stand at place 0, and each other place has one owner
--     IsOut        one sector has no place any more
--     IsRunSet        neighbours got other contents
use Rattle.std.specs.Prelude.{◌≡◌, ◌≢◌, ℕ, ◌+◌, ◌-◌, ◌<◌, ◌≤◌, List, length, map, get_or, replicate, slice_set}
use Rattle.sector_disk.specs.Disk.{Image, sector}
use Rattle.sector_disk.specs.Whole.{AreSectors}

-- the content at each place
abbrev pub sectors_at : Image → List ℕ → Image
sectors_at contents places = map (sector contents) places

-- the content of each sector, and its place
pub record KeptSectors : Type 0 where
  pub shown : Image
  pub places : List ℕ

-- a sector has a place of its own, so that another content of it needs no memory
abbrev pub OwnsPlace : KeptSectors → ℕ → Type 0
OwnsPlace sectors n = get_or sectors.places n 0 ≢ 0

-- Place 0 has zeros. Each other place is that of one sector, its owner.
pub record IsKept (places : List ℕ) (contents : Image) (owners : List ℕ) : Type 0 where
  pub some : 0 < length contents
  pub len : length owners ≡ length contents
  pub whole : AreSectors contents
  pub zeros : sector contents 0 ≡ replicate 512 0
  pub placed : (n : ℕ) → n < length places → get_or places n 0 < length contents
  pub owned : (n : ℕ) → n < length places → get_or places n 0 ≢ 0 → get_or owners (get_or places n 0) 0 ≡ n
  pub owner : (k : ℕ) → k < length contents → k ≢ 0 → get_or owners k 0 < length places
  pub owns : (k : ℕ) → k < length contents → k ≢ 0 → get_or places (get_or owners k 0) 0 ≡ k

-- Sector n has no place any more, and shows zeros. Each other sector shows what it did, and has a place if it had one.
pub record IsOut (n : ℕ) (old : List ℕ) (before : Image) (new : List ℕ) (now : Image) (owners : List ℕ) : Type 0 where
  pub kept : IsKept new now owners
  pub shown : sectors_at now new ≡ slice_set (sectors_at before old) n (replicate 512 0)
  pub keeps : (k : ℕ) → k ≢ n → get_or old k 0 ≢ 0 → get_or new k 0 ≢ 0

-- The sectors from `first` on got the contents of the run, and the others stay.
pub record IsRunSet (first : ℕ) (run old new : Image) : Type 0 where
  pub len : length new ≡ length old
  pub inside : (n : ℕ) → first ≤ n → n < first + length run → sector new n ≡ sector run (n - first)
  pub before : (n : ℕ) → n < first → sector new n ≡ sector old n
  pub behind : (n : ℕ) → first + length run ≤ n → sector new n ≡ sector old n
