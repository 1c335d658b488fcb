-- Times: of an inode, and of a node that is stamped.
use Rattle.std.specs.Prelude.{◌≡◌, ℕ, ◌<◌, ◌^◌, Bool, true, false, cond, Option, None, Some, unwrap_or, IsTrue, IsFalse}
use Rattle.std.proofs.Common.{refl, sym, arith, subst}
use Rattle.fs_layout.specs.declared.inode.Inode.{Inode}
use Rattle.fs_layout.specs.Inode.{FitsInode, free_inode}
use Rattle.fs_model.specs.declared.reply.Stamps.{Stamps}
use Rattle.fs_model.specs.Nodes.{no_stamps, stamped}
use Rattle.fs_model.specs.NewDisk.{root_inode}
use Rattle.fs_model.specs.Ranges.{IsSomeCount}
use Rattle.fs_model.specs.StoredStamps.{stamps_in}
use Rattle.fs_model.specs.Trees.{AreStamps}

pub no_stamps_fit : (keeps : Bool) → AreStamps keeps no_stamps
no_stamps_fit keeps = record { atime = omega arith; mtime = omega arith; ctime = omega arith; none = λ e. refl }

-- what an inode holds
pub stamps_fit : (keeps : Bool) (v : Inode) → FitsInode v → (IsFalse keeps → stamps_in v ≡ no_stamps) → AreStamps keeps (stamps_in v)
unfolding stamps_in
stamps_fit keeps v fits none = record { atime = fits.atime; mtime = fits.mtime; ctime = fits.ctime; none = none }

pub free_stamps : stamps_in free_inode ≡ no_stamps
unfolding stamps_in
free_stamps = refl

pub root_stamps : stamps_in root_inode ≡ no_stamps
unfolding stamps_in
root_stamps = refl

-- equal times
pub stamps_move : (keeps : Bool) (x y : Stamps) → y ≡ x → AreStamps keeps x → AreStamps keeps y
stamps_move keeps x y e h = subst (AreStamps keeps) (sym e) h

-- a disk that keeps times where another did
not_kept : (b c : Bool) → (IsTrue b → IsTrue c) → IsFalse c → IsFalse b
not_kept true c keeps none = absurd (let yes = keeps refl in cc)
not_kept false c keeps none = refl

pub stamps_in_more : (old new : Bool) (x : Stamps) → (IsTrue old → IsTrue new) → AreStamps old x → AreStamps new x
stamps_in_more old new x keeps h = record { atime = h.atime; mtime = h.mtime; ctime = h.ctime; none = λ less. h.none (not_kept old new keeps less) }

-- some are set
count_is : (o : Option ℕ) (old : ℕ) → IsSomeCount o → old < 2 ^ 64 → unwrap_or o old < 2 ^ 64
count_is None old valid small = small
count_is (Some k) old valid small = valid

pub stamped_fit : (keeps : Bool) (atime mtime ctime : Option ℕ) (x : Stamps) → IsSomeCount atime → IsSomeCount mtime → IsSomeCount ctime → AreStamps keeps x
    → AreStamps keeps (cond keeps (stamped atime mtime ctime x) x)
stamped_fit false atime mtime ctime x a m c h = h
stamped_fit true atime mtime ctime x a m c h =
    record { atime = count_is atime x.atime a h.atime; mtime = count_is mtime x.mtime m h.mtime; ctime = count_is ctime x.ctime c h.ctime; none = λ e. absurd cc }
