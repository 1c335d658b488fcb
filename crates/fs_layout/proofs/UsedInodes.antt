-- What an inode in use fits: its numbers, those of its blocks, and its times.
use Rattle.std.proofs.Common.{◌≡◌, ◌≢◌, ℕ, ◌^◌, ◌<◌, List, length, get_or, set, refl, ap, ◌∙◌, arith, inl, inr, IsTrue}
use Rattle.std.proofs.lemmas.Bool.{cases_eq, cases_lt}
use Rattle.std.proofs.lemmas.Bool.Decides.{nat_tests}
use Rattle.std.proofs.lemmas.List.{get_or-set_same, get_or-set_other, length-set, get_or_past}
use Rattle.fs_layout.specs.declared.inode.TheConstants.{DIRECT_BLOCKS, POINTER_LEVELS}
use Rattle.fs_layout.specs.declared.inode.Kind.{Kind}
use Rattle.fs_layout.specs.declared.inode.Kind.TheVariants.{Free, File, Directory, Link}
use Rattle.fs_layout.specs.declared.inode.Inode.{Inode}
use Rattle.fs_layout.specs.Inode.{FitsInode, free_inode, inode_fits, numbers_fit}
use Rattle.fs_layout.specs.InodeChanges.{with_direct, with_indirect}
use Rattle.fs_layout.proofs.Free.{free_fits}

-- the numbers of its blocks fit their fields
pub record FitsBlocks (direct indirect : List ℕ) : Type 0 where
  pub direct_len : length direct ≡ DIRECT_BLOCKS
  pub direct_small : (i : ℕ) → get_or direct i 0 < 2 ^ 32
  pub indirect_len : length indirect ≡ POINTER_LEVELS
  pub indirect_small : (level : ℕ) → get_or indirect level 0 < 2 ^ 32

pub blocks_fit : {v : Inode} → FitsInode v → FitsBlocks v.direct v.indirect
blocks_fit fits = record { direct_len = fits.direct_len; direct_small = fits.direct; indirect_len = fits.indirect_len; indirect_small = fits.indirect }

-- and its times
pub record FitsTimes (mtime ctime atime : ℕ) : Type 0 where
  pub mtime_small : mtime < 2 ^ 64
  pub ctime_small : ctime < 2 ^ 64
  pub atime_small : atime < 2 ^ 64

pub times_fit : {v : Inode} → FitsInode v → FitsTimes v.mtime v.ctime v.atime
times_fit fits = record { mtime_small = fits.mtime; ctime_small = fits.ctime; atime_small = fits.atime }

-- An inode in use fits its fields where mode and size are in the range of its kind, and each number is small.
pub used_fits : {v : Inode} → v.kind ≢ Free → IsTrue (inode_fits v) → v.mode < 2 ^ 16 → v.uid < 2 ^ 32 → v.gid < 2 ^ 32 → v.names < 2 ^ 32 → v.size < 2 ^ 64
    → v.parent < 2 ^ 32 → v.acl < 2 ^ 32 → v.default_acl < 2 ^ 32 → FitsBlocks v.direct v.indirect → FitsTimes v.mtime v.ctime v.atime → FitsInode v
used_fits used numbers mode uid gid names size parent acl default_acl blocks times = record {
  valid = record { numbers = numbers; free = λ e. absurd (used e) };
  mode = mode;
  uid = uid;
  gid = gid;
  names = names;
  size = size;
  parent = parent;
  acl = acl;
  default_acl = default_acl;
  direct_len = blocks.direct_len;
  direct = blocks.direct_small;
  indirect_len = blocks.indirect_len;
  indirect = blocks.indirect_small;
  mtime = times.mtime_small;
  ctime = times.ctime_small;
  atime = times.atime_small;
}

-- ---- a free inode is put to use
numbers_small : (kind : Kind) (mode size : ℕ) → kind ≢ Free → IsTrue (numbers_fit kind mode size) → (mode < 2 ^ 16) × (size < 2 ^ 64)
numbers_small Free mode size used fits = absurd (used refl)
numbers_small File mode size used fits = (grind (arith, nat_tests), grind (arith, nat_tests))
numbers_small Directory mode size used fits = (grind (arith, nat_tests), grind (arith, nat_tests))
numbers_small Link mode size used fits = (grind (arith, nat_tests), grind (arith, nat_tests))

pub made_fits : {kind : Kind} {mode uid gid names size parent : ℕ} → kind ≢ Free → IsTrue (numbers_fit kind mode size) → uid < 2 ^ 32 → gid < 2 ^ 32
    → names < 2 ^ 32 → parent < 2 ^ 32
    → FitsInode (record free_inode { kind = kind; mode = mode; uid = uid; gid = gid; names = names; size = size; parent = parent })
unfolding inode_fits
made_fits {kind} {mode} {size = size} used numbers uid gid names parent =
    let small = numbers_small kind mode size used numbers in
    used_fits used numbers small.0 uid gid names small.1 parent free_fits.acl free_fits.default_acl (blocks_fit free_fits) (times_fit free_fits)

-- ---- an inode gets other times
pub with_times_fits : {v : Inode} {mtime ctime atime : ℕ} → FitsInode v → v.kind ≢ Free → FitsTimes mtime ctime atime
    → FitsInode (record v { mtime = mtime; ctime = ctime; atime = atime })
unfolding inode_fits
with_times_fits fits used times =
    used_fits used fits.valid.numbers fits.mode fits.uid fits.gid fits.names fits.size fits.parent fits.acl fits.default_acl (blocks_fit fits) times

-- ---- an inode gets other blocks
pub with_blocks_fits : {v : Inode} {direct indirect : List ℕ} → FitsInode v → v.kind ≢ Free → FitsBlocks direct indirect
    → FitsInode (record v { direct = direct; indirect = indirect })
unfolding inode_fits
with_blocks_fits fits used blocks =
    used_fits used fits.valid.numbers fits.mode fits.uid fits.gid fits.names fits.size fits.parent fits.acl fits.default_acl blocks (times_fit fits)

-- a number of a list becomes another one
small_set : (xs : List ℕ) (k s : ℕ) → ((i : ℕ) → get_or xs i 0 < 2 ^ 32) → s < 2 ^ 32 → (i : ℕ) → get_or (set xs k s) i 0 < 2 ^ 32
small_set xs k s few small i = elim (cases_eq i k) [
  | inr ne ↦ let e = get_or-set_other xs k i s 0 ne in let b = few i in omega (arith, e, b)
  | inl here ↦ elim (cases_lt k (length xs)) [
    | inl lt ↦ let e = ap (λ (j : ℕ). get_or (set xs k s) j 0) here ∙ get_or-set_same xs k s 0 lt in omega (arith, e, small)
    | inr ge ↦ let e = get_or_past (set xs k s) i 0 (omega (arith, length-set xs k s, here, ge)) in omega (arith, e)
  ]
]

-- another direct block
pub with_direct_fits : (v : Inode) (k s : ℕ) → FitsInode v → v.kind ≢ Free → s < 2 ^ 32 → FitsInode (with_direct v k s)
with_direct_fits v k s fits used small = with_blocks_fits fits used (record {
  direct_len = length-set v.direct k s ∙ fits.direct_len;
  direct_small = small_set v.direct k s fits.direct small;
  indirect_len = fits.indirect_len;
  indirect_small = fits.indirect;
})

-- another sector of pointers
pub with_indirect_fits : (v : Inode) (level s : ℕ) → FitsInode v → v.kind ≢ Free → s < 2 ^ 32 → FitsInode (with_indirect v level s)
with_indirect_fits v level s fits used small = with_blocks_fits fits used (record {
  direct_len = fits.direct_len;
  direct_small = fits.direct;
  indirect_len = length-set v.indirect level s ∙ fits.indirect_len;
  indirect_small = small_set v.indirect level s fits.indirect small;
})
