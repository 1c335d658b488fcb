-- What calls in a row put and take.
use Rattle.std.proofs.Common.{◌≡◌, ℕ, ◌+◌, ◌/◌, ◌<◌, ◌≤◌, List, [], refl, arith, inl, inr}
use Rattle.fs_layout.specs.declared.geometry.Geometry.{Geometry}
use Rattle.fs_layout.specs.Geometry.{IsGeometry}
use Rattle.fs_layout.specs.Images.{IsData, map_bits}
use Rattle.fs_layout.proofs.Places.{after_map}
use Rattle.sector_txn.specs.Sectors.{TxnState, IsUnchanged, IsPut, PutsOnly}
use Rattle.sector_txn.proofs.TransactionRuns.{changes_nothing, changes_read, changes_put, changes_joined, changes_beside, changes_weaker}
use Rattle.bit_alloc.specs.Room.{bitmaps, HasSpare, TakesSpare}
use Rattle.bit_alloc.specs.Inodes.{IsSectorFor}
use Rattle.inode_table.specs.Storing.{IsForAcl, IsForSaving}

-- ---- one put
-- a data sector is put
pub puts_data : (p : Geometry) (shared : List ℕ) {s : ℕ} {x : List ℕ} {old new : TxnState} → IsPut s x old new → IsData p s → PutsOnly (IsForAcl p s) shared 1 old new
puts_data p shared {s} put at = changes_put {R = IsForAcl p s} (changes_nothing shared) put (inr (at, refl))

-- a sector of the block bitmap is put
pub puts_bitmap : (p : Geometry) (x : ℕ) {s : ℕ} {old new : TxnState} → IsGeometry p → s < map_bits p → PutsOnly (λ t. t ≡ p.block_bitmap + s / 4096) (bitmaps p) 0 old new
    → PutsOnly (IsForAcl p x) (bitmaps p) 0 old new
puts_bitmap p x geometry few puts =
    let after = after_map geometry in
    changes_weaker {Q = IsForAcl p x} (λ t e. inl (omega (arith, e, after), omega (arith, e, few))) (omega arith) puts

-- a sector is read and put
pub reads_and_puts : {n : ℕ} {x : List ℕ} {old mid new : TxnState} → IsUnchanged old mid → IsPut n x mid new → PutsOnly (λ t. t ≡ n) [] 1 old new
reads_and_puts {n} same put = changes_put {R = λ t. t ≡ n} (changes_read (changes_nothing []) same) put refl

-- the inode's sector is put
pub puts_inode : (p : Geometry) (n : ℕ) {old new : TxnState} → PutsOnly (λ t. t ≡ p.table + n / 4) [] 1 old new
    → PutsOnly (IsSectorFor p n) (bitmaps p) 1 old new
puts_inode p n puts = changes_weaker {Q = IsSectorFor p n} (λ t e. inr (inl e)) (omega arith) (changes_beside puts (bitmaps p))

-- there is room for one more
pub room_left : (p : Geometry) (more : ℕ) (txn : TxnState) → HasSpare p more txn → 1 ≤ more → 0 < txn.room
room_left p more txn spare some = omega (arith, spare, some)

-- ---- several calls
-- nothing has been put
pub puts_nothing : {R : ℕ → Type 0} (p : Geometry) {old new : TxnState} → IsUnchanged old new → PutsOnly R (bitmaps p) 0 old new
puts_nothing p same = changes_read (changes_nothing (bitmaps p)) same

-- the sectors of an ACL are some of those that a call on an inode may put
pub puts_acl : (p : Geometry) (n : ℕ) {x more : ℕ} {old new : TxnState} → PutsOnly (IsForAcl p x) (bitmaps p) more old new
    → PutsOnly (IsSectorFor p n) (bitmaps p) more old new
puts_acl p n puts = changes_weaker {Q = IsSectorFor p n} (λ t way. elim way [ inl map ↦ inl map | inr at ↦ inr (inr at.0) ]) (omega arith) puts

-- and with the inode's they are those that saving it may put
pub puts_saving : (p : Geometry) (n x : ℕ) {few more : ℕ} {old mid new : TxnState} → PutsOnly (IsForAcl p x) (bitmaps p) few old mid
    → PutsOnly (λ t. t ≡ p.table + n / 4) [] more mid new → PutsOnly (IsForSaving p n x) (bitmaps p) (few + more) old new
puts_saving p n x acl inode =
    changes_joined (changes_weaker {Q = IsForSaving p n x} (λ t way. inr way) (omega arith) acl)
    (changes_weaker {Q = IsForSaving p n x} (λ t e. inl e) (omega arith) (changes_beside inode (bitmaps p)))

-- the room that both take
pub spare_saving : (p : Geometry) (n : ℕ) (old mid new : TxnState) → TakesSpare p 0 old mid → PutsOnly (λ t. t ≡ p.table + n / 4) [] 1 mid new → TakesSpare p 1 old new
spare_saving p n old mid new taken inode = let beside = (changes_beside inode (bitmaps p)).room in omega (arith, taken, beside)

-- the sectors that a save puts are some of those too
pub puts_saved : (p : Geometry) (n x : ℕ) {more : ℕ} {old new : TxnState} → PutsOnly (IsForSaving p n x) (bitmaps p) more old new
    → PutsOnly (IsSectorFor p n) (bitmaps p) more old new
puts_saved p n x puts =
    changes_weaker {Q = IsSectorFor p n} (λ t way. elim way [ inl e ↦ inr (inl e) | inr (inl map) ↦ inl map | inr (inr at) ↦ inr (inr at.0) ]) (omega arith) puts

-- the sector of the inode bitmap is that of a bitmap
pub puts_inode_map : {p : Geometry} (m : ℕ) {old new : TxnState} → IsGeometry p → m < p.inodes → PutsOnly (λ t. t ≡ p.inode_bitmap + m / 4096) (bitmaps p) 0 old new
    → PutsOnly (IsForAcl p 0) (bitmaps p) 0 old new
puts_inode_map {p} m geometry lt puts =
    let from = after_map geometry in
    let few = geometry.inode_bits in
    changes_weaker {Q = IsForAcl p 0} (λ t e. inl (omega (arith, e), omega (arith, e, from, few, lt))) (omega arith) puts

pub puts_inode_bit : {p : Geometry} (n m : ℕ) {old new : TxnState} → IsGeometry p → m < p.inodes → PutsOnly (λ t. t ≡ p.inode_bitmap + m / 4096) (bitmaps p) 0 old new
    → PutsOnly (IsSectorFor p n) (bitmaps p) 0 old new
puts_inode_bit {p} n m geometry lt puts = puts_acl p n (puts_inode_map m geometry lt puts)
