-- The size of an inode that is valid, by its kind.
use Rattle.std.specs.Prelude.{◌≡◌, ℕ, ◌+◌, true, cond, List, drop, get_or, length, Option, Some, None, Ok, Err}
use Rattle.std.proofs.Common.{refl, sym, ap, arith, ◌∙◌, subst}
use Rattle.std.proofs.lemmas.List.{get_or-drop}
use Rattle.fs_layout.specs.declared.inode.Kind.{Kind}
use Rattle.fs_layout.specs.declared.inode.Kind.TheVariants as kinds
use Rattle.fs_layout.specs.declared.inode.Inode.{Inode}
use Rattle.fs_layout.specs.declared.fault.LayoutFault.TheVariants.{BadNumber, NotZero}
use Rattle.fs_layout.specs.declared.geometry.Geometry.{Geometry}
use Rattle.fs_layout.specs.Bytes.{SectorMap, zeros, u16_of, u64_of, are_zero}
use Rattle.fs_layout.specs.Images.{stored, inode_at}
use Rattle.fs_layout.specs.Inode.{inode_of, inode_if, inode_fits, kind_of, fields_of, gaps_are_zero}
use Rattle.fs_layout.proofs.Codecs.{held, same_ok}
use Rattle.fs_layout.proofs.Fields.{are_zero-zeros}
use Rattle.fs_layout.proofs.SplicedBytes.{get_or-zeros}
use Rattle.fs_layout.proofs.Versions.{file_bounds}
use Rattle.fs_model.specs.Rules.{IsGoodInode}
use Rattle.fs_model.proofs.BuiltNodes.{directory_fits, link_fits}
use Rattle.fs_check.specs.LastBlocks.{HasSize}

-- ---- what was read

-- a number of zeros
zero_number : (n at : ℕ) → u64_of (zeros n) at ≡ 0
unfolding u64_of
zero_number n at =
    let zero : (i : ℕ) → get_or (drop at (zeros n)) i 0 ≡ 0 = λ i. get_or-drop at (zeros n) i 0 ∙ get_or-zeros n (at + i) in
    omega (arith, zero 0, zero 1, zero 2, zero 3, zero 4, zero 5, zero 6, zero 7)

record IsRead (s : List ℕ) (v : Inode) : Type 0 where
  fits : inode_fits v ≡ true
  free : v.kind ≡ kinds.Free → v.size ≡ 0

read_if : (o : Option Kind) (s : List ℕ) (v : Inode) → inode_if inode_fits gaps_are_zero o s ≡ Ok v → IsRead s v
read_if None s v e = absurd cc
read_if (Some kind) s v e =
    let a = held (inode_fits (fields_of kind s)) (cond (gaps_are_zero kind s) (Ok (fields_of kind s)) (Err NotZero)) BadNumber v e in
    let b = held (gaps_are_zero kind s) (Ok (fields_of kind s)) NotZero v a.1 in
    let same : fields_of kind s ≡ v = same_ok (fields_of kind s) v (Ok (fields_of kind s)) refl b.1 in
    record {
      fits = sym (ap inode_fits same) ∙ a.0;
      free = λ free.
          let is : kind ≡ kinds.Free = ap (λ (u : Inode). u.kind) same ∙ free in
          let all : are_zero s ≡ true = subst (λ (q : Kind). gaps_are_zero q s ≡ true) is b.0 in
          sym (ap (λ (u : Inode). u.size) same) ∙ ap (λ (q : List ℕ). u64_of q 16) (are_zero-zeros s all) ∙ zero_number (length s) 16;
    }

read_is : (s : List ℕ) (v : Inode) → inode_of s ≡ Ok v → IsRead s v
unfolding inode_of
read_is s v e = read_if (kind_of (u16_of s 0)) s v e

-- ---- what its kind asks

pub good_size : (p : Geometry) (m : SectorMap) (n : ℕ) → IsGoodInode p m n → HasSize (inode_at p m n)
good_size p m n good = go (inode_at p m n).kind refl
  where
    read : IsRead (stored p m n) (inode_at p m n)
    read = read_is (stored p m n) (inode_at p m n) good.is

    go : (k : Kind) → (inode_at p m n).kind ≡ k → HasSize (inode_at p m n)
    go kinds.Free e =
        let none = read.free e in
        record { most = omega (arith, none); short = λ link. omega (arith, none) }
    go kinds.File e =
        let size = good.allowed.size e in
        let bound = (file_bounds p.version).1 in
        record {
          most = omega (arith, size, bound);
          short = λ link. absurd (let c : kinds.File ≡ kinds.Link = sym e ∙ link in cc);
        }
    go kinds.Directory e =
        let size = (directory_fits (inode_at p m n) e read.fits).1 in
        record {
          most = omega (arith, size);
          short = λ link. absurd (let c : kinds.Directory ≡ kinds.Link = sym e ∙ link in cc);
        }
    go kinds.Link e =
        let size = (link_fits (inode_at p m n) e read.fits).2 in
        record { most = omega (arith, size); short = λ link. omega (arith, size) }
