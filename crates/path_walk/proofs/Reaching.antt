-- What may be read of an inode of the table, and of a link.
use Rattle.std.specs.Prelude.{◌≡◌, ℕ, true, ◌&&◌, nat_eq, nat_le, ◌≤◌, ◌++◌, List, length, take, drop}
use Rattle.std.proofs.Common.{sym, ap, subst, arith, ◌∙◌}
use Rattle.std.proofs.lemmas.List.{take_all, take-append-le}
use Rattle.fs_layout.specs.declared.inode.Inode.{Inode}
use Rattle.fs_layout.specs.declared.inode.Kind.{Kind}
use Rattle.fs_layout.specs.declared.inode.Kind.TheVariants as kinds
use Rattle.std.proofs.lemmas.Bool.{and_parts, leb-true}
use Rattle.fs_layout.specs.declared.geometry.Geometry.{Geometry}
use Rattle.fs_layout.specs.Inode.{FitsInode, inode_fits, numbers_fit}
use Rattle.fs_model.proofs.KindFields.{inode_fits_at}
use Rattle.sector_txn.specs.Sectors.{TxnState}
use Rattle.bit_alloc.specs.Inodes.{IsSound}
use Rattle.inode_table.specs.Inodes.{IsInodeOf}
use Rattle.block_map.specs.Blocks.{IsReadOf}

-- all of a buffer that holds more
pub read_whole : (bytes old new : List ℕ) (count : ℕ) → length bytes ≤ length old → IsReadOf bytes 0 old new count → take count new ≡ bytes
read_whole bytes old new count few is =
    let len : count ≡ length bytes = omega (arith, is.len, few) in
    let all : take count (drop 0 bytes) ≡ bytes = ap (λ (n : ℕ). take n bytes) len ∙ take_all (length bytes) bytes (omega arith) in
    ap (take count) (is.content ∙ ap (λ (l : List ℕ). l ++ drop count old) all) ∙ ap (λ (n : ℕ). take n (bytes ++ drop count old)) len
    ∙ take-append-le (length bytes) bytes (drop count old) (omega arith) ∙ take_all (length bytes) bytes (omega arith)

module _ {p : Geometry} {txn : TxnState} {v : Inode} (sound : IsSound p txn) (there : IsInodeOf p txn.sectors v) (link : v.kind ≡ kinds.Link) where
  fits : FitsInode v
  fits =
      subst FitsInode (sym there.2)
      (inode_fits_at p txn.sectors there.0 sound.consistent.geometry sound.consistent.sectors there.1 (sound.consistent.valid there.0 there.1))

  -- a link has at most 512 bytes
  pub link_short : v.size ≤ 512
  unfolding inode_fits
  link_short =
      let e : numbers_fit kinds.Link v.mode v.size ≡ true = sym (ap (λ (k : Kind). numbers_fit k v.mode v.size) link) ∙ fits.valid.numbers in
      leb-true v.size 512 (and_parts (nat_eq v.mode 511 && nat_le 1 v.size) (nat_le v.size 512) e).1
