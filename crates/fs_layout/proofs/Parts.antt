-- What an inode's parts and bytes depend on: its own sectors alone.
use Rattle.std.proofs.Common.{◌≡◌, ◌≢◌, ℕ, zero, suc, ◌/◌, ◌%◌, List, drop, get_or, refl, sym, ap, subst, ◌∙◌, arith, inl, inr, ◌⊎◌}
use Rattle.fs_layout.specs.declared.inode.Inode.{Inode}
use Rattle.fs_layout.specs.Bytes.{SectorMap}
use Rattle.fs_layout.specs.Images.{levels, number_at, number_on, pointer, part, Owns, byte_in, byte_at, Holds, HasNoHole}
use Rattle.fs_layout.specs.Images.{Part, AccessAcl, DefaultAcl, OnLevel, Block, Part-discrete}
use Rattle.fs_layout.specs.InodeChanges.{Keeps}
use Rattle.fs_layout.proofs.Levels.{KeepsEntries, Alike, Alike-refl, numbers_alike_above, entry_kept}
use native.Mathlib.Decide.{ℕ_discrete}

-- ---- parts are told apart
either : {A : Type 0} → Dec A → A ⊎ (A → ⊥)
either (yes a) = inl a
either (no n) = inr n

-- two parts are one, or they are not
pub same_part_or_not : (a b : Part) → (a ≡ b) ⊎ (a ≢ b)
same_part_or_not a b = either (Part-discrete ℕ_discrete a b)

-- the level of a part, and its number there; an ACL is on none
level_of : Part → ℕ
level_of AccessAcl = 0
level_of DefaultAcl = 0
level_of (OnLevel level i) = level

index_of : Part → ℕ
index_of AccessAcl = 0
index_of DefaultAcl = 0
index_of (OnLevel level i) = i

-- a number of a level is one part
pub level_is_one : (n t i j : ℕ) → OnLevel n i ≡ OnLevel t j → n ≡ t
unfolding level_of
level_is_one n t i j e = ap level_of e

pub index_is_one : (n t i j : ℕ) → OnLevel n i ≡ OnLevel t j → i ≡ j
unfolding index_of
index_is_one n t i j e = ap index_of e

-- so is a block
pub block_is_one : (j k : ℕ) → Block j ≡ Block k → j ≡ k
block_is_one j k e = index_is_one 0 0 j k e

-- what is no number of a sector of pointers
abbrev pub HasNoPointers : Part → Type 0
HasNoPointers at = (level i : ℕ) → at ≢ OnLevel (suc level) i

-- blocks
pub block_has_no_pointers : (k : ℕ) → HasNoPointers (Block k)
block_has_no_pointers k level i e = let z : 0 ≡ suc level = level_is_one 0 (suc level) k i e in omega (arith, z)

-- and ACLs
pub access_acl_has_no_pointers : HasNoPointers AccessAcl
access_acl_has_no_pointers level i e = cc

pub default_acl_has_no_pointers : HasNoPointers DefaultAcl
default_acl_has_no_pointers level i e = cc

-- ---- what is read of a sector depends on it alone
-- a byte of a sector
pub byte_in_kept : (old new : SectorMap) (s i : ℕ) → (s ≢ 0 → new s ≡ old s) → byte_in new s i ≡ byte_in old s i
byte_in_kept old new zero i h = refl
byte_in_kept old new (suc s) i h = ap (λ (r : List ℕ). get_or r i 0) (h (λ e. absurd (omega arith)))

-- a byte of a sector whose content is known
pub byte_in_is : (image : SectorMap) (s i : ℕ) (x : List ℕ) → image s ≡ x → s ≢ 0 → byte_in image s i ≡ get_or x i 0
byte_in_is image zero i x e some = absurd (some refl)
byte_in_is image (suc s) i x e some = ap (λ (r : List ℕ). get_or r i 0) e

-- ---- parts depend on the sectors of pointers alone
-- the sectors of pointers are the same
abbrev pub KeepsPointers : SectorMap → SectorMap → Inode → Type 0
KeepsPointers old new v = (level i : ℕ) → number_on old v (suc level) i ≢ 0 → new (number_on old v (suc level) i) ≡ old (number_on old v (suc level) i)

-- so are the numbers in them
pub entries_kept : (old new : SectorMap) (v : Inode) → KeepsPointers old new v → KeepsEntries old new (levels v)
unfolding number_on
entries_kept old new v h n p q lt = entry_kept old new (number_at old (drop (suc n) (levels v)) p) q (h n p)

-- two inodes in which the same numbers stand have the same on each level
pub number_on_alike : (old new : SectorMap) (v w : Inode) → levels w ≡ levels v → KeepsPointers old new v → (level i : ℕ)
    → number_on new w level i ≡ number_on old v level i
unfolding number_on
number_on_alike old new v w same kept level i =
    numbers_alike_above old new (levels v) (levels w) (subst (Alike (levels v)) (sym same) (Alike-refl (levels v))) (entries_kept old new v kept) level i

-- and one inode
pub number_on_same : (old new : SectorMap) (v : Inode) → KeepsPointers old new v → (level i : ℕ) → number_on new v level i ≡ number_on old v level i
number_on_same old new v h level i = number_on_alike old new v v refl h level i

pub pointer_same : (old new : SectorMap) (v : Inode) → KeepsPointers old new v → (k : ℕ) → pointer new v k ≡ pointer old v k
pointer_same old new v h k = number_on_same old new v h 0 k

-- each part is the same then
pub part_same : (old new : SectorMap) (v : Inode) → KeepsPointers old new v → (a : Part) → part new v a ≡ part old v a
unfolding part
part_same old new v h AccessAcl = refl
part_same old new v h DefaultAcl = refl
part_same old new v h (OnLevel level i) = number_on_same old new v h level i

-- ---- what is owned
-- a sector that the inode has for something
pub owns_part : (image : SectorMap) (v : Inode) (a : Part) → part image v a ≢ 0 → Owns image v (part image v a)
owns_part image v a some = record { at = a; is = refl; some = some }

-- so for a block
pub owns_block : (image : SectorMap) (v : Inode) (k : ℕ) → pointer image v k ≢ 0 → Owns image v (pointer image v k)
unfolding part
owns_block image v k some = record { at = Block k; is = refl; some = some }

-- and for the sectors of the ACLs
pub owns_acl : (image : SectorMap) (v : Inode) → v.acl ≢ 0 → Owns image v v.acl
unfolding part
owns_acl image v some = record { at = AccessAcl; is = refl; some = some }

pub owns_default_acl : (image : SectorMap) (v : Inode) → v.default_acl ≢ 0 → Owns image v v.default_acl
unfolding part
owns_default_acl image v some = record { at = DefaultAcl; is = refl; some = some }

-- and for the sectors of pointers
pub owns_on_level : (image : SectorMap) (v : Inode) (level i : ℕ) → number_on image v level i ≢ 0 → Owns image v (number_on image v level i)
unfolding part
owns_on_level image v level i some = record { at = OnLevel level i; is = refl; some = some }

module _ {old new : SectorMap} {v : Inode} (keeps : Keeps old new v) where
  -- the sectors of pointers are the same
  pub pointers_kept : KeepsPointers old new v
  pointers_kept level i some = keeps (number_on old v (suc level) i) (owns_on_level old v (suc level) i some)

  -- each number is the same
  pub number_on_kept : (level i : ℕ) → number_on new v level i ≡ number_on old v level i
  number_on_kept level i = number_on_same old new v pointers_kept level i

  -- each pointer is the same
  pub pointer_kept : (k : ℕ) → pointer new v k ≡ pointer old v k
  pointer_kept k = pointer_same old new v pointers_kept k

  -- each part is the same
  pub part_kept : (a : Part) → part new v a ≡ part old v a
  part_kept a = part_same old new v pointers_kept a

  -- the inode owns what it owned, for the same
  abbrev pub owns_still : {s : ℕ} → Owns old v s → Owns new v s
  owns_still o = record { at = o.at; is = part_kept o.at ∙ o.is; some = o.some }

  -- what the inode owns it owned, for the same
  abbrev pub owned_before : {s : ℕ} → Owns new v s → Owns old v s
  owned_before o = record { at = o.at; is = sym (part_kept o.at) ∙ o.is; some = o.some }

  -- each byte is the same
  pub byte_at_kept : (i : ℕ) → byte_at new v i ≡ byte_at old v i
  unfolding byte_at
  byte_at_kept i =
      ap (λ (s : ℕ). byte_in new s (i % 512)) (pointer_kept (i / 512))
      ∙ byte_in_kept old new (pointer old v (i / 512)) (i % 512) (λ some. keeps (pointer old v (i / 512)) (owns_block old v (i / 512) some))

  -- the inode holds what it held
  pub Holds-kept : {bytes : List ℕ} → Holds old v bytes → Holds new v bytes
  Holds-kept h = record {
    size = h.size;
    byte = λ i. byte_at_kept i ∙ h.byte i;
    trim = λ level i le. number_on_kept level i ∙ h.trim level i le;
  }

  -- and has no hole if it had none
  pub HasNoHole-kept : HasNoHole old v → HasNoHole new v
  HasNoHole-kept h k lt e = h k lt (sym (pointer_kept k) ∙ e)

-- an inode keeps its sectors from new to old too
pub keeps_back : {old new : SectorMap} {v : Inode} → Keeps old new v → Keeps new old v
keeps_back keeps s o = sym (keeps s (owned_before keeps o))

-- and from the first to the third, where it does so from each to the next
pub keeps_on : {a b c : SectorMap} {v : Inode} → Keeps a b v → Keeps b c v → Keeps a c v
keeps_on x y s o = y s (owns_still x o) ∙ x s o
