-- Sectors of the inode table that are zeros, and what is known of the inodes before a number.
use Rattle.std.specs.Prelude.{◌≡◌, ◌≢◌, ℕ, ◌+◌, ◌*◌, ◌/◌, ◌%◌, ◌<◌, ◌≤◌, List, length, get_or, drop, Some}
use Rattle.std.proofs.Common.{refl, sym, ap, arith, ◌∙◌, subst, inl, inr}
use Rattle.std.proofs.lemmas.Bool.{cases_lt}
use Rattle.std.proofs.lemmas.List.{get_or_past, get_or-take, get_or-drop, length-take-le, length-drop}
use Rattle.fs_layout.specs.declared.inode.TheConstants.{INODE_SIZE}
use Rattle.fs_layout.specs.declared.inode.Inode.{Inode}
use Rattle.fs_layout.specs.declared.geometry.Geometry.{Geometry}
use Rattle.fs_layout.specs.Bytes.{SectorMap, window}
use Rattle.fs_layout.specs.Inode.{free_inode}
use Rattle.fs_layout.specs.Images.{inode_at}
use Rattle.fs_model.specs.Rules.{IsGoodInode}
use Rattle.sector_disk.specs.Disk.{DiskState, OnlyReads}
use Rattle.fs_check.specs.Checks.{meaning}
use Rattle.fs_check.specs.TableSectors.{AreFree, AreInodesBefore}
use Rattle.fs_check.proofs.Carrying.{meaning_same}
use Rattle.fs_check.proofs.FreeInodes.{blank_is_free, free_is_allowed}
use Rattle.fs_check.proofs.Tables.{good_is}

-- the bytes of one inode are zeros
inode_zeros : (content : List ℕ) (at : ℕ) → length content ≡ 512 → at + INODE_SIZE ≤ 512 → ((i : ℕ) → i < 512 → get_or content i 0 ≡ 0)
    → (i : ℕ) → i < length (window content at INODE_SIZE) → get_or (window content at INODE_SIZE) i 0 ≡ 0
inode_zeros content at len room zero i lt =
    let left = length-drop at content in
    let long : length (window content at INODE_SIZE) ≡ INODE_SIZE = length-take-le INODE_SIZE (drop at content) (omega (arith, left, len, room)) in
    get_or-take INODE_SIZE (drop at content) i 0 (omega (arith, lt, long)) ∙ get_or-drop at content i 0 ∙ zero (at + i) (omega (arith, lt, long, room))

-- the inodes of a sector of zeros are free, unless it is the first
pub zeros_are_free : (p : Geometry) (m : SectorMap) (k : ℕ) (content : List ℕ) → k ≢ 0 → content ≡ m (p.table + k) → length content ≡ 512
    → ((i : ℕ) → i < 512 → get_or content i 0 ≡ 0) → AreFree p m k
zeros_are_free p m k content other is len zero n here =
    let at = INODE_SIZE * (n % 4) in
    let room : at + INODE_SIZE ≤ 512 = omega arith in
    let found = good_is p m n content (Some free_inode) (is ∙ ap (λ (j : ℕ). m (p.table + j)) (sym here))
    (blank_is_free content at len room (inode_zeros content at len room zero)) (free_is_allowed p.version) (λ z. refl)
    (λ one. absurd (other (sym here ∙ (let low : n / 4 ≡ 0 = omega (arith, one) in low)))) tt in
    (sym found.1, found.0)

-- at first there is none
pub none_before : (p : Geometry) (m : SectorMap) (inodes : List Inode) → length inodes ≡ 0 → AreInodesBefore p m 0 inodes
none_before p m inodes none = record {
  len = omega (arith, none);
  most = omega (arith, none);
  each = λ k lt. absurd (omega (arith, lt));
  good = λ k lt. absurd (omega (arith, lt));
}

-- a sector of free ones is passed over
pub free_before : (p : Geometry) (m : SectorMap) (k : ℕ) (inodes : List Inode) → AreFree p m k → AreInodesBefore p m (4 * k) inodes
    → AreInodesBefore p m (4 * (k + 1)) inodes
free_before p m k inodes free before = record {
  len = let len = before.len in omega (arith, len);
  most = before.most;
  each = λ n lt few. elim (cases_lt n (4 * k)) [
    | inl low ↦ before.each n low few
    | inr past ↦
        let len = before.len in
        get_or_past inodes n free_inode (omega (arith, past, len)) ∙ sym (free n (omega (arith, past, lt))).0
  ];
  good = λ n lt few. elim (cases_lt n (4 * k)) [
    | inl low ↦ before.good n low few
    | inr past ↦ (free n (omega (arith, past, lt))).1
  ];
}

-- where all those before some number are read that there are, the others up to another one don't matter
pub no_more_before : (p : Geometry) (m : SectorMap) (n end : ℕ) (inodes : List Inode) → n ≤ end → ((k : ℕ) → k < end → k < p.inodes → k < n)
    → AreInodesBefore p m n inodes → AreInodesBefore p m end inodes
no_more_before p m n end inodes few all before = record {
  len = let len = before.len in omega (arith, len, few);
  most = before.most;
  each = λ k lt there. before.each k (all k lt there) there;
  good = λ k lt there. before.good k (all k lt there) there;
}

-- one more is read
pub one_more_before : (p : Geometry) (m : SectorMap) (n : ℕ) (old new : List Inode) → AreInodesBefore p m n old → n < p.inodes → length new ≤ n + 1
    → ((k : ℕ) → k < n → get_or new k free_inode ≡ get_or old k free_inode) → get_or new n free_inode ≡ inode_at p m n → IsGoodInode p m n
    → AreInodesBefore p m (n + 1) new
one_more_before p m n old new before inside few earlier here good = record {
  len = few;
  most = omega (arith, few, inside);
  each = λ k lt there. elim (cases_lt k n) [
    | inl low ↦ earlier k low ∙ before.each k low there
    | inr past ↦ subst (λ j. get_or new j free_inode ≡ inode_at p m j) (let same : n ≡ k = omega (arith, past, lt) in same) here
  ];
  good = λ k lt there. elim (cases_lt k n) [
    | inl low ↦ before.good k low there
    | inr past ↦ subst (IsGoodInode p m) (let same : n ≡ k = omega (arith, past, lt) in same) good
  ];
}

-- they stay so while the disk is only read
pub inodes_still : {old mid : DiskState} {p : Geometry} {n : ℕ} {inodes : List Inode} → OnlyReads old mid
    → AreInodesBefore p (meaning old) n inodes → AreInodesBefore p (meaning mid) n inodes
inodes_still {p = p} {n} {inodes} reads before = subst (λ m. AreInodesBefore p m n inodes) (sym (meaning_same reads)) before

pub inodes_back : {old mid : DiskState} {p : Geometry} {n : ℕ} {inodes : List Inode} → OnlyReads old mid
    → AreInodesBefore p (meaning mid) n inodes → AreInodesBefore p (meaning old) n inodes
inodes_back {p = p} {n} {inodes} reads before = subst (λ m. AreInodesBefore p m n inodes) (meaning_same reads) before
