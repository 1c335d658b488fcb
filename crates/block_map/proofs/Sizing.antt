-- The size of an inode changes.
use Rattle.std.proofs.Common.{◌≡◌, ◌≢◌, ℕ, ◌+◌, ◌-◌, ◌≤◌, ◌<◌, List, [], ◌++◌, length, take, drop, get_or, replicate, refl, sym, ap, subst, ◌∙◌, arith, inl, inr, IsTrue}
use Rattle.std.specs.Prelude.{max}
use Rattle.std.proofs.lemmas.Bool.{cases_lt}
use Rattle.std.proofs.lemmas.Bool.Decides.{nat_tests}
use Rattle.std.proofs.lemmas.List.{ext_get_or, length-append, length-take-le, get_or_append_left, get_or-append_right, get_or_past, get_or-take, take_all, drop_all, append-nil, append_assoc}
use Rattle.fs_layout.specs.declared.inode.TheConstants.{MAX_FILE_SIZE}
use Rattle.fs_layout.specs.declared.inode.Inode.{Inode}
use Rattle.fs_layout.specs.declared.inode.Kind.{Kind}
use Rattle.fs_layout.specs.declared.inode.Kind.TheVariants.{Free, File, Directory, Link}
use Rattle.fs_layout.specs.declared.geometry.Geometry.{Geometry}
use Rattle.fs_layout.specs.Bytes.{SectorMap, splice, zeros, resized, overwritten}
use Rattle.fs_layout.specs.Inode.{FitsInode, inode_fits, numbers_fit}
use Rattle.fs_layout.specs.Images.{number_on, pointer, Holds, inode_at}
use Rattle.fs_layout.specs.InodeChanges.{ChangesBlocks, IsOwnedApart}
use Rattle.fs_layout.proofs.Writes.{length-zeros}
use Rattle.fs_layout.proofs.SplicedBytes.{get_or-zeros}
use Rattle.fs_layout.proofs.Blocks.{fields_change}
use Rattle.fs_layout.proofs.Consistent.{owned_is_apart}
use Rattle.fs_layout.proofs.Free.{inode_fits_there}
use Rattle.fs_layout.proofs.UsedInodes.{used_fits, blocks_fit, times_fit}
use Rattle.fs_layout.proofs.Sizes.{extends}
use Rattle.sector_txn.specs.Sectors.{TxnState, IsUnchanged}
use Rattle.bit_alloc.specs.Inodes.{IsSound}
use Rattle.bit_alloc.proofs.Transactions.{bitmaps_unchanged}
use Rattle.block_map.specs.Contents.{AllowsSize}
use Rattle.block_map.specs.Steps.{MayChange, Alters}
use Rattle.block_map.proofs.Alterings.{acls_kept}
use Rattle.block_map.proofs.Runs.{same_map}

-- ---- an inode with another size
sized_numbers : (k : Kind) (mode size m : ℕ) → IsTrue (numbers_fit k mode size) → AllowsSize k m → m ≤ MAX_FILE_SIZE → IsTrue (numbers_fit k mode m)
sized_numbers Free mode size m fits allowed few = absurd allowed
sized_numbers File mode size m fits allowed few = grind (arith, nat_tests)
sized_numbers Directory mode size m fits allowed few = grind (arith, nat_tests)
sized_numbers Link mode size m fits allowed few = grind (arith, nat_tests)

-- a kind with a size is used
pub is_used : (k : Kind) (m : ℕ) → AllowsSize k m → k ≢ Free
is_used Free m allowed e = allowed
is_used File m allowed e = cc
is_used Directory m allowed e = cc
is_used Link m allowed e = cc

-- an inode of that size fits its fields
pub sized_fits : (v : Inode) (m : ℕ) → FitsInode v → AllowsSize v.kind m → m ≤ MAX_FILE_SIZE → FitsInode (record v { size = m })
unfolding inode_fits
sized_fits v m fits allowed few =
    used_fits (is_used v.kind m allowed) (sized_numbers v.kind v.mode v.size m fits.valid.numbers allowed few) fits.mode fits.uid fits.gid fits.names
    (omega (arith, few)) fits.parent fits.acl fits.default_acl (blocks_fit fits) (times_fit fits)

-- an inode of the table may be changed
pub may_change : {p : Geometry} {n : ℕ} {txn : TxnState} {v : Inode} (m : ℕ) → IsSound p txn → n < p.inodes → v ≡ inode_at p txn.sectors n → AllowsSize v.kind m → MayChange p txn v
may_change {p} {n} {txn} {v} m sound lt is allowed = record {
  bitmaps = sound.bitmaps;
  apart = subst (λ (u : Inode). IsOwnedApart p txn.sectors u) (sym is) (owned_is_apart sound.consistent n lt);
  fits = subst FitsInode (sym is) (inode_fits_there sound.consistent n lt);
  used = is_used v.kind m allowed;
}

number_limit : (k : Kind) (mode size m : ℕ) → IsTrue (numbers_fit k mode size) → AllowsSize k m → size ≤ MAX_FILE_SIZE
number_limit Free mode size m fits allowed = absurd allowed
number_limit File mode size m fits allowed = grind (arith, nat_tests)
number_limit Directory mode size m fits allowed = grind (arith, nat_tests)
number_limit Link mode size m fits allowed = grind (arith, nat_tests)

-- and is within the limit
pub size_limit : {p : Geometry} {n : ℕ} {txn : TxnState} {v : Inode} (m : ℕ) → IsSound p txn → n < p.inodes → v ≡ inode_at p txn.sectors n → AllowsSize v.kind m → v.size ≤ MAX_FILE_SIZE
unfolding inode_fits
size_limit {p} {n} {txn} {v} m sound lt is allowed =
    let fits : FitsInode v = subst FitsInode (sym is) (inode_fits_there sound.consistent n lt) in
    number_limit v.kind v.mode v.size m fits.valid.numbers allowed

-- the size changes in memory, after reads
pub sized : {p : Geometry} {old mid : TxnState} {v : Inode} (m : ℕ) → MayChange p old v → IsUnchanged old mid → AllowsSize v.kind m → m ≤ MAX_FILE_SIZE
    → Alters p old mid v (record v { size = m })
sized {p} {old} {mid} {v} m may same allowed few =
    let e : old.sectors ≡ mid.sectors = sym (same_map old.sectors mid.sectors same.sectors) in
    record {
      blocks = subst (λ (image : SectorMap). ChangesBlocks p v (record v { size = m }) old.sectors image) e
          (fields_change may.bitmaps.geometry may.bitmaps.tables may.apart refl refl refl);
      fields = record { kind = refl; mode = refl; uid = refl; gid = refl; names = refl; parent = refl; mtime = refl; ctime = refl; atime = refl };
      acls = acls_kept refl refl (λ some. same.sectors v.acl) (λ some. same.sectors v.default_acl);
      bitmaps = bitmaps_unchanged p old mid may.bitmaps same;
      fits = sized_fits v m may.fits allowed few;
    }

-- what it holds is made longer by zeros
pub sized_holds : {old mid : TxnState} {v : Inode} (m : ℕ) → IsUnchanged old mid → v.size ≤ m → (bytes : List ℕ) → Holds old.sectors v bytes
    → Holds mid.sectors (record v { size = m }) (bytes ++ zeros (m - length bytes))
sized_holds {old} {mid} {v} m same le bytes h =
    let e : old.sectors ≡ mid.sectors = sym (same_map old.sectors mid.sectors same.sectors) in
    let z = h.size in
    let size : v.size + (m - length bytes) ≡ m = omega (arith, z, le) in
    subst (λ (k : ℕ). Holds mid.sectors (record v { size = k }) (bytes ++ zeros (m - length bytes))) size
    (extends mid.sectors v bytes (m - length bytes) (subst (λ (image : SectorMap). Holds image v bytes) e h))

-- the size says nothing of the numbers
pub sized_number : (image : SectorMap) (v : Inode) (m level i : ℕ) → number_on image (record v { size = m }) level i ≡ number_on image v level i
unfolding number_on
sized_number image v m level i = refl

pub sized_pointer : (image : SectorMap) (v : Inode) (m k : ℕ) → pointer image (record v { size = m }) k ≡ pointer image v k
sized_pointer image v m k = sized_number image v m 0 k

-- ---- the bytes
padded : (bytes : List ℕ) (n i : ℕ) → get_or (bytes ++ zeros n) i 0 ≡ get_or bytes i 0
padded bytes n i =
    elim (cases_lt i (length bytes)) [
      | inl lt ↦ get_or_append_left bytes (zeros n) 0 i lt
      | inr ge ↦ get_or-append_right bytes (zeros n) (length bytes) i 0 refl ge ∙ get_or-zeros n (i - length bytes) ∙ sym (get_or_past bytes i 0 ge)
    ]

length-resized : (bytes : List ℕ) (size : ℕ) → length (resized bytes size) ≡ size
unfolding zeros
length-resized bytes size =
    let a : length (resized bytes size) ≡ length (take size bytes) + length (zeros (size - length bytes)) = length-append (take size bytes) (zeros (size - length bytes)) in
    let z : length (zeros (size - length bytes)) ≡ size - length bytes = length-zeros (size - length bytes) in
    elim (cases_lt (length bytes) size) [
      | inl lt ↦ let t : length (take size bytes) ≡ length bytes = ap length (take_all size bytes (omega (arith, lt))) in omega (arith, a, z, t, lt)
      | inr ge ↦ let t = length-take-le size bytes ge in omega (arith, a, z, t, ge)
    ]

get_or-resized : (bytes : List ℕ) (size i : ℕ) → i < size → get_or (resized bytes size) i 0 ≡ get_or bytes i 0
unfolding zeros
get_or-resized bytes size i lt = elim (cases_lt (length bytes) size) [
  | inl past ↦
      ap (λ (r : List ℕ). get_or (r ++ replicate (size - length bytes) 0) i 0) (take_all size bytes (omega (arith, past)))
      ∙ padded bytes (size - length bytes) i
  | inr ge ↦
      get_or_append_left (take size bytes) (replicate (size - length bytes) 0) 0 i (omega (arith, length-take-le size bytes ge, lt)) ∙ get_or-take size bytes i 0 lt
]

-- bytes made longer and cut are resized
pub take_padded : (bytes : List ℕ) (n size : ℕ) → size ≤ length bytes + n → take size (bytes ++ zeros n) ≡ resized bytes size
take_padded bytes n size le =
    let all : length (bytes ++ zeros n) ≡ length bytes + n = length-append bytes (zeros n) ∙ ap (λ (k : ℕ). length bytes + k) (length-zeros n) in
    let wide : length (take size (bytes ++ zeros n)) ≡ size = length-take-le size (bytes ++ zeros n) (omega (arith, all, le)) in
    ext_get_or 0 (take size (bytes ++ zeros n)) (resized bytes size) (wide ∙ sym (length-resized bytes size)) (λ i lt.
    let less : i < size = omega (arith, wide, lt) in
    get_or-take size (bytes ++ zeros n) i 0 less ∙ padded bytes n i ∙ sym (get_or-resized bytes size i less))

no_zeros : (n : ℕ) → n ≡ 0 → zeros n ≡ []
unfolding zeros
no_zeros n e = ap (λ (k : ℕ). replicate k 0) e

-- bytes written into those made longer
pub spliced_is_overwritten : (bytes x : List ℕ) (offset m : ℕ) → m ≡ max (length bytes) (offset + length x)
    → splice (bytes ++ zeros (m - length bytes)) offset x ≡ overwritten bytes offset x
unfolding splice
spliced_is_overwritten bytes x offset m is =
    let n : ℕ = m - length bytes in
    let all : length (bytes ++ zeros n) ≡ length bytes + n = length-append bytes (zeros n) ∙ ap (λ (k : ℕ). length bytes + k) (length-zeros n) in
    let back : drop (offset + length x) (bytes ++ zeros n) ≡ drop (offset + length x) bytes = elim (cases_lt (length bytes) (offset + length x)) [
      | inl lt ↦ drop_all (offset + length x) (bytes ++ zeros n) (omega (arith, all, is, lt)) ∙ sym (drop_all (offset + length x) bytes (omega (arith, lt)))
      | inr ge ↦ ap (λ (r : List ℕ). drop (offset + length x) (bytes ++ r)) (no_zeros n (omega (arith, is, ge))) ∙ ap (drop (offset + length x)) (append-nil bytes)
    ] in
    ap (λ (r : List ℕ). r ++ (x ++ drop (offset + length x) (bytes ++ zeros n))) (take_padded bytes n offset (omega (arith, is)))
    ∙ ap (λ (r : List ℕ). resized bytes offset ++ (x ++ r)) back
    ∙ sym (append_assoc (resized bytes offset) x (drop (offset + length x) bytes))
