-- What a bitmap's bits depend on, and how the count of free sectors follows them.
use Rattle.std.proofs.Common.{◌≡◌, ◌≢◌, ℕ, ◌+◌, ◌-◌, ◌/◌, ◌%◌, ◌<◌, ◌≤◌, nat_eq}
use Rattle.std.proofs.Common.{Bool, true, false, cond, not, List, length, get_or, set, refl, sym, ap, ◌∙◌, arith, inl, inr, ◌⊎◌, IsTrue}
use Rattle.std.specs.Prelude.{count_by}
use Rattle.std.specs.Int.{bit_at}
use Rattle.std.specs.List.{range_with_len}
use Rattle.std.proofs.lemmas.Bool.{cases_eq, eq-eqb, ne_eqb}
use Rattle.std.proofs.lemmas.List.{get_or-set_same, get_or-set_other}
use Rattle.fs_layout.specs.declared.geometry.Geometry.{Geometry}
use Rattle.fs_layout.specs.Bytes.{SectorMap}
use Rattle.fs_layout.specs.Geometry.{IsGeometry}
use Rattle.fs_layout.specs.Images.{IsData, inode_map_bits, map_bits, bit, free_sectors}
use Rattle.fs_layout.specs.InodeChanges.{IsInodeMap, IsBlockMap, IsFree}
use Rattle.fs_layout.proofs.Counting.{count_same, count_one_more, count_all}

-- a bit is set or clear, and not both
pub set_or_clear : (b : Bool) → IsTrue b ⊎ (b ≡ false)
set_or_clear true = inl refl
set_or_clear false = inr refl

-- no bit is both
pub not_both : {b : Bool} → IsTrue b → b ≡ false → ⊥
not_both h e = cc

-- a bit depends on its sector alone
pub bit_kept : (old new : SectorMap) (start n : ℕ) → new (start + n / 4096) ≡ old (start + n / 4096) → bit new start n ≡ bit old start n
unfolding bit
bit_kept old new start n e = ap (λ (s : List ℕ). nat_eq (bit_at (get_or s (n % 4096 / 8) 0) (n % 8)) 1) e

-- the bit of an inode stands in the inode bitmap, and that of a sector in the block bitmap
pub in_inode_map : (p : Geometry) (n : ℕ) → n < inode_map_bits p → IsInodeMap p (p.inode_bitmap + n / 4096)
in_inode_map p n lt = (omega arith, omega arith)

pub in_block_map : (p : Geometry) (s : ℕ) → s < map_bits p → IsBlockMap p (p.block_bitmap + s / 4096)
in_block_map p s lt = (omega arith, omega arith)

-- each inode has a bit there, and each sector of the disk
pub inode_has_bit : {p : Geometry} → IsGeometry p → (n : ℕ) → n < p.inodes → n < inode_map_bits p
inode_has_bit geometry n lt = let fits = geometry.inode_bits in omega (arith, fits, lt)

pub has_bit : {p : Geometry} → IsGeometry p → (s : ℕ) → s < p.sectors → s < map_bits p
has_bit geometry s lt = let fits = geometry.bits in omega (arith, fits, lt)

-- the bits of a bitmap depend on its sectors alone
pub inode_bit_kept : (p : Geometry) (old new : SectorMap) (n : ℕ) → n < inode_map_bits p → ((t : ℕ) → IsInodeMap p t → new t ≡ old t)
    → bit new p.inode_bitmap n ≡ bit old p.inode_bitmap n
inode_bit_kept p old new n lt same = bit_kept old new p.inode_bitmap n (same (p.inode_bitmap + n / 4096) (in_inode_map p n lt))

pub block_bit_kept : (p : Geometry) (old new : SectorMap) (s : ℕ) → s < map_bits p → ((t : ℕ) → IsBlockMap p t → new t ≡ old t)
    → bit new p.block_bitmap s ≡ bit old p.block_bitmap s
block_bit_kept p old new s lt same = bit_kept old new p.block_bitmap s (same (p.block_bitmap + s / 4096) (in_block_map p s lt))

-- ---- a write of one byte of a bitmap
-- new has b for the byte in which bit n of the bitmap stands, and nothing else differs
pub record PutsByte (start n b : ℕ) (old new : SectorMap) : Type 0 where
  pub here : new (start + n / 4096) ≡ set (old (start + n / 4096)) (n % 4096 / 8) b
  pub len : length (old (start + n / 4096)) ≡ 512
  pub others : (s : ℕ) → s ≢ start + n / 4096 → new s ≡ old s

-- bit n is that of b
pub bit_put_same : {start n b : ℕ} {old new : SectorMap} → PutsByte start n b old new → bit new start n ≡ nat_eq (bit_at b (n % 8)) 1
unfolding bit
bit_put_same {start} {n} {b} {old} {new} p =
    let e : get_or (new (start + n / 4096)) (n % 4096 / 8) 0 ≡ b =
    ap (λ (s : List ℕ). get_or s (n % 4096 / 8) 0) p.here ∙ get_or-set_same (old (start + n / 4096)) (n % 4096 / 8) b 0 (omega (arith, p.len)) in
    ap (λ (k : ℕ). nat_eq (bit_at k (n % 8)) 1) e

-- another bit is the same, if the other bits of the byte are
pub bit_put_other : {start n b : ℕ} {old new : SectorMap} → PutsByte start n b old new
    → ((i : ℕ) → i < 8 → i ≢ n % 8 → bit_at b i ≡ bit_at (get_or (old (start + n / 4096)) (n % 4096 / 8) 0) i)
    → (m : ℕ) → m ≢ n → bit new start m ≡ bit old start m
unfolding bit
bit_put_other {start} {n} {b} {old} {new} p same m ne =
    elim (cases_eq (m / 4096) (n / 4096)) [
      | inr away ↦ bit_kept old new start m (p.others (start + m / 4096) (λ e. away (omega (arith, e))))
      | inl e ↦
          let k : start + m / 4096 ≡ start + n / 4096 = ap (λ (q : ℕ). start + q) e in
          let sector : new (start + m / 4096) ≡ set (old (start + m / 4096)) (n % 4096 / 8) b = ap new k ∙ p.here ∙ ap (λ (q : ℕ). set (old q) (n % 4096 / 8) b) (sym k) in
          elim (cases_eq (m % 4096 / 8) (n % 4096 / 8)) [
            | inr away ↦ ap (λ (x : ℕ). nat_eq (bit_at x (m % 8)) 1)
                (ap (λ (s : List ℕ). get_or s (m % 4096 / 8) 0) sector ∙ get_or-set_other (old (start + m / 4096)) (n % 4096 / 8) (m % 4096 / 8) b 0 away)
            | inl there ↦
                let byte : get_or (new (start + m / 4096)) (m % 4096 / 8) 0 ≡ b =
                ap (λ (s : List ℕ). get_or s (m % 4096 / 8) 0) sector ∙ ap (λ (j : ℕ). get_or (set (old (start + m / 4096)) (n % 4096 / 8) b) j 0) there
                ∙ get_or-set_same (old (start + m / 4096)) (n % 4096 / 8) b 0 (omega (arith, ap (λ (q : ℕ). length (old q)) k, p.len)) in
                let was : get_or (old (start + m / 4096)) (m % 4096 / 8) 0 ≡ get_or (old (start + n / 4096)) (n % 4096 / 8) 0 =
                ap (λ (q : ℕ). get_or (old q) (m % 4096 / 8) 0) k ∙ ap (λ (j : ℕ). get_or (old (start + n / 4096)) j 0) there in
                ap (λ (x : ℕ). nat_eq x 1) (ap (λ (x : ℕ). bit_at x (m % 8)) byte ∙ same (m % 8) (omega arith) (apart e there ne) ∙ sym (ap (λ (x : ℕ). bit_at x (m % 8)) was))
          ]
    ]
  where
    apart : m / 4096 ≡ n / 4096 → m % 4096 / 8 ≡ n % 4096 / 8 → m ≢ n → m % 8 ≢ n % 8
    apart e f ne g = ne (omega (arith, e, f, g))

-- ---- free sectors
free_bit : Geometry → SectorMap → ℕ → Bool
free_bit p image s = not (bit image p.block_bitmap s)

-- free, and not s
all_but : Geometry → SectorMap → ℕ → ℕ → Bool
all_but p image s t = cond (nat_eq t s) false (free_bit p image t)

but_one : (p : Geometry) (image : SectorMap) (s : ℕ) → all_but p image s s ≡ false
unfolding all_but
but_one p image s = rw (eq-eqb s s refl) refl

but_other : (p : Geometry) (image : SectorMap) (s t : ℕ) → t ≢ s → free_bit p image t ≡ all_but p image s t
unfolding all_but
but_other p image s t ne = rw (ne_eqb t s ne) refl

-- a data sector lies between the first one and the end
in_range : (p : Geometry) (s : ℕ) → p.first_data ≤ s → s < p.first_data + (p.sectors - p.first_data) → IsData p s
in_range p s low high = (low, omega arith)

above : (p : Geometry) (s : ℕ) → p.first_data ≤ s → s < p.sectors → s < p.first_data + (p.sectors - p.first_data)
above p s low high = omega arith

-- the count of free sectors depends on the bits of data sectors alone
pub free_sectors_kept : (p : Geometry) (old new : SectorMap) → ((s : ℕ) → IsData p s → bit new p.block_bitmap s ≡ bit old p.block_bitmap s)
    → free_sectors p new ≡ free_sectors p old
unfolding free_bit
free_sectors_kept p old new same =
    count_same (free_bit p new) (free_bit p old) p.first_data (p.sectors - p.first_data) (λ s low high. ap not (same s (in_range p s low high)))

-- the bit of data sector s is set, and was clear; then one sector less is free
pub free_sectors_less : (p : Geometry) (old new : SectorMap) (s : ℕ) → IsFree p old s → IsTrue (bit new p.block_bitmap s)
    → ((t : ℕ) → IsData p t → t ≢ s → bit new p.block_bitmap t ≡ bit old p.block_bitmap t) → free_sectors p old ≡ free_sectors p new + 1
unfolding free_bit
free_sectors_less p old new s free set same =
    count_one_more (free_bit p old) (free_bit p new) p.first_data (p.sectors - p.first_data) s free.0 (above p s free.0 free.1) (ap not free.2) (ap not set)
    (λ t low high ne. ap not (sym (same t (in_range p t low high) ne)))

-- the bit of data sector s is clear, and was set; then one sector more is free
pub free_sectors_more : (p : Geometry) (old new : SectorMap) (s : ℕ) → IsData p s → IsTrue (bit old p.block_bitmap s) → bit new p.block_bitmap s ≡ false
    → ((t : ℕ) → IsData p t → t ≢ s → bit new p.block_bitmap t ≡ bit old p.block_bitmap t) → free_sectors p new ≡ free_sectors p old + 1
free_sectors_more p old new s at set clear same = free_sectors_less p new old s (at.0, at.1, clear) set (λ t here ne. sym (same t here ne))

-- where a sector is free there are free sectors
pub free_sectors_some : (p : Geometry) (image : SectorMap) (s : ℕ) → IsFree p image s → 0 < free_sectors p image
unfolding free_bit
free_sectors_some p image s free =
    let all : List ℕ = range_with_len p.first_data (p.sectors - p.first_data) in
    let one : count_by (free_bit p image) all ≡ count_by (all_but p image s) all + 1 =
    count_one_more (free_bit p image) (all_but p image s) p.first_data (p.sectors - p.first_data) s free.0 (above p s free.0 free.1) (ap not free.2) (but_one p image s)
    (λ t low high ne. but_other p image s t ne) in
    omega (arith, one)

-- where there is none, each data sector's bit is set
pub free_sectors_none : (p : Geometry) (image : SectorMap) → free_sectors p image ≡ 0 → (s : ℕ) → IsData p s → IsTrue (bit image p.block_bitmap s)
free_sectors_none p image none s at = elim (set_or_clear (bit image p.block_bitmap s)) [
  | inl set ↦ set
  | inr clear ↦ absurd (let some = free_sectors_some p image s (at.0, at.1, clear) in omega (arith, none, some))
]

-- where each data sector's bit is clear, all are free
pub free_sectors_all : (p : Geometry) (image : SectorMap) → ((s : ℕ) → IsData p s → bit image p.block_bitmap s ≡ false)
    → free_sectors p image ≡ p.sectors - p.first_data
unfolding free_bit
free_sectors_all p image clear =
    count_same (free_bit p image) (λ (s : ℕ). true) p.first_data (p.sectors - p.first_data) (λ s low high. ap not (clear s (in_range p s low high)))
    ∙ count_all p.first_data (p.sectors - p.first_data)
