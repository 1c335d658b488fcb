-- What an inode holds where its size or its blocks change: a larger size, a hole filled, a block dropped, a smaller size.
use Rattle.std.proofs.Common.{◌≡◌, ◌≢◌, ℕ, suc, ◌+◌, ◌-◌, ◌*◌, ◌/◌, ◌%◌, ◌<◌, ◌≤◌, List, ◌++◌, length, take, get_or, refl, sym, ap, subst, ◌∙◌, arith, inl, inr}
use Rattle.std.proofs.lemmas.List.{length-append, length-take-le, get_or_append_left, get_or-append_right, get_or_past, get_or-take, take_at, take_all, append-nil}
use Rattle.std.proofs.lemmas.Bool.{cases_eq, cases_lt}
use Rattle.fs_layout.specs.declared.inode.Inode.{Inode}
use Rattle.fs_layout.specs.Bytes.{SectorMap, zeros}
use Rattle.fs_layout.specs.Images.{number_on, pointer, first_block, Part, AccessAcl, DefaultAcl, OnLevel, Block, part, byte_in, byte_at, IsTrimmed, Holds}
use Rattle.fs_layout.specs.InodeChanges.{ReplacesBlock, Turns, Gains, Loses}
use Rattle.fs_layout.proofs.Writes.{length-zeros}
use Rattle.fs_layout.proofs.SplicedBytes.{get_or-zeros}
use Rattle.fs_layout.proofs.Parts.{HasNoPointers, byte_in_is, block_is_one, level_is_one, index_is_one, same_part_or_not, block_has_no_pointers, access_acl_has_no_pointers, default_acl_has_no_pointers}
use Rattle.fs_layout.proofs.Held.{KeepsBlocks, KeepsAllBlocks, NeedsPointers, HasBlock, has_block, HasSameBlocks, Holds-again}

-- ---- a larger size
-- bytes and zeros
get_or-padded : (bytes : List ℕ) (n i : ℕ) → get_or (bytes ++ zeros n) i 0 ≡ get_or bytes i 0
get_or-padded bytes n i =
    elim (cases_lt i (length bytes)) [
      | inl lt ↦ get_or_append_left bytes (zeros n) 0 i lt
      | inr ge ↦ get_or-append_right bytes (zeros n) (length bytes) i 0 refl ge ∙ get_or-zeros n (i - length bytes) ∙ sym (get_or_past bytes i 0 ge)
    ]

-- a larger size: the new bytes are zeros
pub extends : (image : SectorMap) (v : Inode) (bytes : List ℕ) (n : ℕ) → Holds image v bytes → Holds image (record v { size = v.size + n }) (bytes ++ zeros n)
unfolding byte_at number_on
extends image v bytes n h = record {
  size = ap (λ (k : ℕ). k + n) h.size ∙ sym (length-append bytes (zeros n) ∙ ap (λ (k : ℕ). length bytes + k) (length-zeros n));
  byte = λ i. h.byte i ∙ sym (get_or-padded bytes n i);
  trim = λ level i le. h.trim level i (omega (arith, le));
}

-- ---- one block comes or goes
-- one block turns: the others stay
pub other_blocks : {old new : SectorMap} {v w : Inode} {k x y : ℕ} → Turns old new v w (Block k) x y → (j : ℕ) → j ≢ k
    → pointer new w j ≡ pointer old v j
unfolding part
other_blocks {k = k} t j ne = t.others (Block j) (λ e. ne (block_is_one j k e))

-- and it is the one that it turned to
pub now_block : {old new : SectorMap} {v w : Inode} {k x y : ℕ} → Turns old new v w (Block k) x y → pointer new w k ≡ y
unfolding part
now_block t = t.now

-- the sectors of pointers stay
same_needs : {old new : SectorMap} {v w : Inode} {at : Part} {x y : ℕ} → Turns old new v w at x y → HasNoPointers at → NeedsPointers old new v w
unfolding part
same_needs t ne level i le none = t.others (OnLevel (suc level) i) (λ e. ne level i (sym e)) ∙ none

-- A hole within the size is filled, directly or through the sector of pointers: what the inode holds has the
-- sector's content there.
pub fills : {old new : SectorMap} {v w : Inode} {k s : ℕ} {x bytes then : List ℕ} → Gains old new v w (Block k) s → s ≢ 0 → new s ≡ x
    → KeepsBlocks old new v k
    → w.size ≡ v.size → 512 * k < v.size → Holds old v bytes → ReplacesBlock k x bytes then → Holds new w then
fills {old} {new} {v} {w} {k} {s} {x} g some is keeps size inside h r =
    let b : HasBlock old new v w k s x = record {
      now = now_block g;
      here = λ i. byte_in_is new s i x is some;
      others = other_blocks g;
      same = keeps;
      size = size;
      past = λ le. absurd (omega (arith, le, inside));
      pointers = same_needs g (block_has_no_pointers k);
    } in
    has_block b h r

-- a block becomes a hole: what the inode holds has zeros there
pub drops : {old new : SectorMap} {v w : Inode} {k s : ℕ} {bytes then : List ℕ} → Loses old new v w (Block k) s → KeepsBlocks old new v k
    → w.size ≡ v.size → Holds old v bytes → ReplacesBlock k (zeros 512) bytes then → Holds new w then
drops {old} {new} {v} {w} {k} {s} l keeps size h r =
    let b : HasBlock old new v w k 0 (zeros 512) = record {
      now = now_block l;
      here = λ i. sym (get_or-zeros 512 i);
      others = other_blocks l;
      same = keeps;
      size = size;
      past = λ le. refl;
      pointers = same_needs l (block_has_no_pointers k);
    } in
    has_block b h r

-- ---- what is no block comes or goes
-- a part that is no block turns: the blocks are the same
same_blocks : {old new : SectorMap} {v w : Inode} {at : Part} {x y : ℕ} → Turns old new v w at x y → ((k : ℕ) → Block k ≢ at)
    → KeepsAllBlocks old new v
    → w.size ≡ v.size → HasSameBlocks old new v w
unfolding part
same_blocks t none same size = record { pointers = λ k. t.others (Block k) (none k); same = same; size = size }

-- a sector of pointers comes, goes or is another one, where the size allows it, and the inode holds what it held
pub turns_pointers : {old new : SectorMap} {v w : Inode} {level i x y : ℕ} {bytes : List ℕ} → Turns old new v w (OnLevel (suc level) i) x y
    → KeepsAllBlocks old new v → w.size ≡ v.size → (v.size ≤ 512 * first_block (suc level) i → y ≡ 0) → Holds old v bytes → Holds new w bytes
unfolding part
turns_pointers {old} {new} {v} {w} {level} {i} t same size past h = Holds-again (same_blocks t (λ k. block_has_no_pointers k level i) same size) needs h
  where
    needs : NeedsPointers old new v w
    needs n j le none = elim (same_part_or_not (OnLevel (suc n) j) (OnLevel (suc level) i)) [
      | inr away ↦ t.others (OnLevel (suc n) j) away ∙ none
      | inl e ↦
          let a : suc n ≡ suc level = level_is_one (suc n) (suc level) j i e in
          let b : j ≡ i = index_is_one (suc n) (suc level) j i e in
          let le' : v.size ≤ 512 * first_block (suc level) i =
          subst (λ (x : ℕ). v.size ≤ 512 * first_block x i) a (subst (λ (x : ℕ). v.size ≤ 512 * first_block (suc n) x) b le) in
          ap (part new w) e ∙ t.now ∙ past le'
    ]

-- the sector of an ACL comes, goes or is another one, and the inode holds what it held
pub turns_acl_holds : {old new : SectorMap} {v w : Inode} {x y : ℕ} {bytes : List ℕ} → Turns old new v w AccessAcl x y → KeepsAllBlocks old new v
    → w.size ≡ v.size → Holds old v bytes → Holds new w bytes
turns_acl_holds t same size h = Holds-again (same_blocks t (λ k e. cc) same size) (same_needs t access_acl_has_no_pointers) h

-- and so for a default ACL
pub turns_default_acl_holds : {old new : SectorMap} {v w : Inode} {x y : ℕ} {bytes : List ℕ} → Turns old new v w DefaultAcl x y
    → KeepsAllBlocks old new v
    → w.size ≡ v.size → Holds old v bytes → Holds new w bytes
turns_default_acl_holds t same size h = Holds-again (same_blocks t (λ k e. cc) same size) (same_needs t default_acl_has_no_pointers) h

-- ---- a smaller size
-- what bytes are up to an offset, and zeros from there on
unfoldable pub cleared_from : ℕ → List ℕ → List ℕ
cleared_from n bytes = take n bytes ++ zeros (length bytes - n)

-- the length stays
pub length-cleared_from : (n : ℕ) (bytes : List ℕ) → n ≤ length bytes → length (cleared_from n bytes) ≡ length bytes
unfolding cleared_from
length-cleared_from n bytes le = length-append (take n bytes) (zeros (length bytes - n)) ∙ omega (arith, length-take-le n bytes le, length-zeros (length bytes - n))

-- a byte before that offset
pub get_or-cleared_before : (n : ℕ) (bytes : List ℕ) (i : ℕ) → n ≤ length bytes → i < n → get_or (cleared_from n bytes) i 0 ≡ get_or bytes i 0
unfolding cleared_from
get_or-cleared_before n bytes i le lt = get_or_append_left (take n bytes) (zeros (length bytes - n)) 0 i (omega (arith, length-take-le n bytes le)) ∙ get_or-take n bytes i 0 lt

-- a byte from there on
pub get_or-cleared_after : (n : ℕ) (bytes : List ℕ) (i : ℕ) → n ≤ length bytes → n ≤ i → get_or (cleared_from n bytes) i 0 ≡ 0
unfolding cleared_from
get_or-cleared_after n bytes i le ge = get_or-append_right (take n bytes) (zeros (length bytes - n)) n i 0 (length-take-le n bytes le) ge
    ∙ get_or-zeros (length bytes - n) (i - n)

-- nothing is cleared from the end on
pub cleared_from_end : (n : ℕ) (bytes : List ℕ) → length bytes ≡ n → cleared_from n bytes ≡ bytes
unfolding cleared_from zeros
cleared_from_end n bytes e =
    let none : length bytes - n ≡ 0 = omega (arith, e) in
    ap (λ (k : ℕ). take n bytes ++ zeros k) none ∙ append-nil (take n bytes) ∙ take_all n bytes (omega (arith, e))

-- the first bytes are not cleared
pub take-cleared_from : (n : ℕ) (bytes : List ℕ) → n ≤ length bytes → take n (cleared_from n bytes) ≡ take n bytes
unfolding cleared_from
take-cleared_from n bytes le = take_at (take n bytes) (zeros (length bytes - n)) n (length-take-le n bytes le)

-- Blocks are cleared from the last one on: where those past m are cleared, and m stands in block k or right behind
-- it, then with zeros for block k those past its begin are.
pub clears_block : (bytes : List ℕ) (k m : ℕ) → 512 * k ≤ m → m ≤ 512 * k + 512 → m ≤ length bytes
    → ReplacesBlock k (zeros 512) (cleared_from m bytes) (cleared_from (512 * k) bytes)
clears_block bytes k m low high le = record {
  len = length-cleared_from (512 * k) bytes (omega arith) ∙ sym (length-cleared_from m bytes le);
  inside = λ i e. get_or-cleared_after (512 * k) bytes i (omega arith) (omega (arith, e)) ∙ sym (get_or-zeros 512 (i % 512));
  outside = λ i ne. elim (cases_lt (i / 512) k) [
    | inl before ↦ get_or-cleared_before (512 * k) bytes i (omega arith) (omega arith) ∙ sym (get_or-cleared_before m bytes i le (omega arith))
    | inr ge ↦ get_or-cleared_after (512 * k) bytes i (omega arith) (omega arith) ∙ sym (get_or-cleared_after m bytes i le (omega (arith, ne, ge)))
  ];
}

-- The bytes from an offset in block k on are cleared, the blocks past it being so already.
pub clears_rest : (bytes : List ℕ) (block : List ℕ) (k n m : ℕ) → 512 * k ≤ n → n ≤ m → m ≤ 512 * k + 512 → m ≤ length bytes
    → ((i : ℕ) → i / 512 ≡ k → i < n → get_or bytes i 0 ≡ get_or block (i % 512) 0)
    → ((i : ℕ) → i / 512 ≡ k → n ≤ i → get_or block (i % 512) 0 ≡ 0) → ReplacesBlock k block (cleared_from m bytes) (cleared_from n bytes)
clears_rest bytes block k n m from low high le kept clear = record {
  len = length-cleared_from n bytes (omega arith) ∙ sym (length-cleared_from m bytes le);
  inside = λ i e. elim (cases_lt i n) [
    | inl before ↦ get_or-cleared_before n bytes i (omega arith) before ∙ kept i e before
    | inr ge ↦ get_or-cleared_after n bytes i (omega arith) ge ∙ sym (clear i e ge)
  ];
  outside = λ i ne. elim (cases_lt (i / 512) k) [
    | inl before ↦ get_or-cleared_before n bytes i (omega arith) (omega arith) ∙ sym (get_or-cleared_before m bytes i le (omega arith))
    | inr ge ↦ get_or-cleared_after n bytes i (omega arith) (omega (arith, ne, ge)) ∙ sym (get_or-cleared_after m bytes i le (omega (arith, ne, ge)))
  ];
}

-- a smaller size, past which there is no block, and no byte but zero
pub cuts : (image : SectorMap) (v : Inode) (bytes : List ℕ) (n : ℕ) → Holds image v bytes → n ≤ v.size
    → IsTrimmed image (record v { size = n })
    → ((i : ℕ) → n ≤ i → i / 512 ≡ n / 512 → get_or bytes i 0 ≡ 0) → Holds image (record v { size = n }) (take n bytes)
unfolding byte_at number_on
cuts image v bytes n h le trim rest = record {
  size = sym (length-take-le n bytes (let z = h.size in omega (arith, z, le)));
  byte = λ i. elim (cases_lt i n) [
    | inl lt ↦ h.byte i ∙ sym (get_or-take n bytes i 0 lt)
    | inr ge ↦ past i ge ∙ sym (get_or_past (take n bytes) i 0 (omega (arith, length-take-le n bytes (let z = h.size in omega (arith, z, le)))))
  ];
  trim = trim;
}
  where
    past : (i : ℕ) → n ≤ i → byte_at image v i ≡ 0
    past i ge = elim (cases_eq (i / 512) (n / 512)) [
      | inl e ↦ h.byte i ∙ rest i ge e
      | inr ne ↦ ap (λ (s : ℕ). byte_in image s (i % 512)) (trim 0 (i / 512) (omega arith))
    ]

-- A smaller size, past which there is no block, where all bytes past it are cleared already: what is held is cut.
pub cuts_cleared : (image : SectorMap) (v : Inode) (bytes : List ℕ) (n : ℕ) → Holds image v (cleared_from n bytes) → n ≤ length bytes
    → IsTrimmed image (record v { size = n }) → Holds image (record v { size = n }) (take n bytes)
cuts_cleared image v bytes n h le trim =
    let room : n ≤ v.size = omega (arith, h.size, length-cleared_from n bytes le) in
    subst (λ (b : List ℕ). Holds image (record v { size = n }) b) (take-cleared_from n bytes le)
    (cuts image v (cleared_from n bytes) n h room trim (λ i ge e. get_or-cleared_after n bytes i le ge))
