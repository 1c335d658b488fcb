-- A batch: sectors, and the contents that they are to have.
--     Entry, BatchView        a sector with its content; a batch's value
--     targets, contents, target_at, content_at        the sectors of the entries, and their contents
--     IsBatch, IsOnDisk        what each batch is; and a batch whose sectors a disk has
--     HasPlaces, with_content        sectors and contents of which a batch is made; contents with one more, or another one
--     has_entry, put_entry, with_batch        a batch as a map
--     added        how many sectors another batch adds
use Rattle.std.specs.Prelude.{ℕ, zero, suc, ◌<◌, ◌≤◌, ◌+◌, Bool, true, false, List, [], ◌∷◌, length, map, All, slice_index_or, if◌then◌else◌, nat_eq, not, count_by}
use Rattle.std.specs.List.{zip}
use Rattle.redo_journal.specs.declared.batch.TheConstants.{MOST_SECTORS}
use Rattle.fs_layout.specs.declared.header.TheConstants.{LEAST_LOG_END}
use Rattle.fs_layout.specs.Bytes.{SectorMap}
use Rattle.fs_layout.specs.Commit.{AreDistinct}
use Rattle.fs_layout.specs.Header.{log_end}

abbrev pub Entry : Type 0
Entry = ℕ × List ℕ

-- a batch: its entries, and how many it has room for
pub record BatchView : Type 0 where
  pub entries : List Entry
  pub most : ℕ

abbrev pub targets : List Entry → List ℕ
targets entries = map (λ e. e.0) entries

abbrev pub contents : List Entry → List (List ℕ)
contents entries = map (λ e. e.1) entries

abbrev pub target_at : List Entry → ℕ → ℕ
target_at entries k = (slice_index_or entries k (0, [])).0

abbrev pub content_at : List Entry → ℕ → List ℕ
content_at entries k = (slice_index_or entries k (0, [])).1

-- at most so many sectors, each once, and none before the bitmaps
pub record IsBatch (entries : List Entry) : Type 0 where
  pub few : length entries ≤ MOST_SECTORS
  pub high : All (λ t. LEAST_LOG_END ≤ t) (targets entries)
  pub apart : AreDistinct (targets entries)

-- a disk of so many sectors, so many of them header sectors, has each of them behind its log
abbrev pub IsOnDisk : ℕ → ℕ → List Entry → Type 0
IsOnDisk header size entries = All (λ t. (log_end header ≤ t) × (t < size)) (targets entries)

-- sectors, each beside its content, of a batch with room for so many: so many more sectors fit, and so many contents
pub record HasPlaces (most : ℕ) (sectors : List ℕ) (contents : List (List ℕ)) (spare capacity : ℕ) : Type 0 where
  pub batch : IsBatch (zip sectors contents)
  pub few : length sectors ≤ most
  pub all : length sectors ≤ length contents
  pub limit : most ≤ MOST_SECTORS
  pub room : most ≤ length sectors + spare
  pub reserved : most ≤ capacity

-- contents, with this one at a place among them, or behind all
abbrev pub with_content : List (List ℕ) → ℕ → List ℕ → List (List ℕ)
with_content [] at content = content ∷ []
with_content (first ∷ contents) zero content = content ∷ contents
with_content (first ∷ contents) (suc at) content = first ∷ with_content contents at content

-- one of the entries is for this sector
abbrev pub has_entry : List Entry → ℕ → Bool
has_entry [] n = false
has_entry (e ∷ es) n = if nat_eq n e.0 then true else has_entry es n

-- the entries with this content for this sector
abbrev pub put_entry : List Entry → ℕ → List ℕ → List Entry
put_entry [] n content = (n, content) ∷ []
put_entry (e ∷ es) n content = if nat_eq n e.0 then (n, content) ∷ es else e ∷ put_entry es n content

-- a map of sectors, with the batch's contents in place of its own
abbrev pub with_batch : List Entry → SectorMap → SectorMap
with_batch [] sectors n = sectors n
with_batch (e ∷ es) sectors n = if nat_eq n e.0 then e.1 else with_batch es sectors n

-- how many of the others' sectors the entries don't have
abbrev pub added : List Entry → List Entry → ℕ
added entries others = count_by (λ n. not (has_entry entries n)) (targets others)
