-- The bytes that an inode holds, after one of its blocks is written, and where its blocks stay.
use Rattle.std.proofs.Common.{◌≡◌, ◌≢◌, ℕ, zero, suc, ◌+◌, ◌-◌, ◌*◌, ◌/◌, ◌%◌, ◌<◌, ◌≤◌, List, length, drop, get_or, refl, sym, ap, subst, ◌∙◌, arith, inl, inr}
use Rattle.std.proofs.lemmas.Bool.{cases_eq, cases_lt}
use Rattle.std.proofs.lemmas.List.{ext_get_or, get_or-take, get_or-drop}
use Rattle.fs_layout.specs.declared.inode.Inode.{Inode}
use Rattle.fs_layout.specs.declared.geometry.Geometry.{Geometry}
use Rattle.fs_layout.specs.Bytes.{SectorMap, splice, window, zeros}
use Rattle.fs_layout.specs.Images.{levels, number_on, pointer, first_block, Part, Block, part, byte_in, byte_at, IsTrimmed, Holds, HasNoHole}
use Rattle.fs_layout.specs.InodeChanges.{Keeps, Puts, IsBlockOf, ReplacesBlock, IsOwnedApart}
use Rattle.fs_layout.proofs.Parts.{KeepsPointers, HasNoPointers, number_on_same, number_on_alike, pointer_same, byte_in_kept, byte_in_is, block_is_one, block_has_no_pointers, owns_block}
use Rattle.fs_layout.proofs.Blocks.{pointers_apart, others_kept}
use Rattle.fs_layout.proofs.Fields.{part_len}
use Rattle.fs_layout.proofs.SplicedBytes.{get_or-zeros, length-splice, get_or-splice_before, get_or-splice_inside, get_or-splice_after}

-- ---- blocks apart
-- a sector is one block of the inode
pub one_block : {p : Geometry} {image : SectorMap} {v : Inode} → IsOwnedApart p image v → (j k : ℕ) → pointer image v j ≢ 0
    → pointer image v j ≡ pointer image v k → j ≡ k
unfolding part
one_block {image = image} {v} apart j k some e =
    block_is_one j k (apart.once (pointer image v k) (record { at = Block j; is = e; some = λ z. some (e ∙ z) }) (record { at = Block k; is = refl; some = λ z. some (e ∙ z) }))

-- each block but k has the same sector's content in new as in old
abbrev pub KeepsBlocks : SectorMap → SectorMap → Inode → ℕ → Type 0
KeepsBlocks old new v k = (j : ℕ) → j ≢ k → pointer old v j ≢ 0 → new (pointer old v j) ≡ old (pointer old v j)

-- each block has
abbrev pub KeepsAllBlocks : SectorMap → SectorMap → Inode → Type 0
KeepsAllBlocks old new v = (k : ℕ) → pointer old v k ≢ 0 → new (pointer old v k) ≡ old (pointer old v k)

-- nothing that the inode owns differs
pub keeps_all_blocks : {old new : SectorMap} {v : Inode} → Keeps old new v → KeepsAllBlocks old new v
keeps_all_blocks {old} {v = v} keeps k some = keeps (pointer old v k) (owns_block old v k some)

-- so each block but k keeps its content
pub keeps_other_blocks : {old new : SectorMap} {v : Inode} → Keeps old new v → (k : ℕ) → KeepsBlocks old new v k
keeps_other_blocks keeps k j ne some = keeps_all_blocks keeps j some

-- ---- the bytes
-- an inode holds one thing
pub Holds-unique : (image : SectorMap) (v : Inode) (a b : List ℕ) → Holds image v a → Holds image v b → a ≡ b
Holds-unique image v a b x y = ext_get_or 0 a b (sym x.size ∙ y.size) (λ i lt. sym (x.byte i) ∙ y.byte i)

-- what stands in the sector of a block is that block of the bytes
pub held_block : {image : SectorMap} {v : Inode} {bytes : List ℕ} {s : ℕ} → Holds image v bytes → (k : ℕ) → pointer image v k ≡ s → s ≢ 0
    → IsBlockOf bytes k (image s)
unfolding byte_at
held_block {image} {v} {s = s} h k is some i e =
    sym (h.byte i) ∙ ap (λ (t : ℕ). byte_in image t (i % 512)) (ap (pointer image v) e ∙ is) ∙ byte_in_is image s (i % 512) (image s) refl some

-- a hole is a block of zeros
pub held_hole : {image : SectorMap} {v : Inode} {bytes : List ℕ} → Holds image v bytes → (k : ℕ) → pointer image v k ≡ 0
    → IsBlockOf bytes k (zeros 512)
unfolding byte_at
held_hole {image} {v} h k none i e = sym (h.byte i) ∙ ap (λ (t : ℕ). byte_in image t (i % 512)) (ap (pointer image v) e ∙ none) ∙ sym (get_or-zeros 512 (i % 512))

-- a write inside of one block
pub splice_replaces : (bytes block x : List ℕ) (k at : ℕ) → IsBlockOf bytes k block → length block ≡ 512 → at + length x ≤ 512
    → 512 * k + at + length x ≤ length bytes
    → ReplacesBlock k (splice block at x) bytes (splice bytes (512 * k + at) x)
splice_replaces bytes block x k at is len room fits = record {
  len = length-splice bytes x (512 * k + at) fits;
  inside = λ i e. elim (cases_lt (i % 512) at) [
    | inl before ↦ get_or-splice_before bytes x (512 * k + at) i (omega arith) (omega (arith, e)) ∙ is i e
        ∙ sym (get_or-splice_before block x at (i % 512) (omega (arith, len)) before)
    | inr ge ↦ elim (cases_lt (i % 512) (at + length x)) [
      | inl inside ↦
          let same : i - (512 * k + at) ≡ i % 512 - at = omega (arith, e) in
          get_or-splice_inside bytes x (512 * k + at) i (omega arith) (omega (arith, e)) (omega (arith, e)) ∙ ap (λ (j : ℕ). get_or x j 0) same
          ∙ sym (get_or-splice_inside block x at (i % 512) (omega (arith, len)) ge inside)
      | inr after ↦ get_or-splice_after bytes x (512 * k + at) i (omega arith) (omega (arith, e)) ∙ is i e
          ∙ sym (get_or-splice_after block x at (i % 512) (omega (arith, len)) after)
    ]
  ];
  outside = λ i ne. elim (cases_lt (i / 512) k) [
    | inl before ↦ get_or-splice_before bytes x (512 * k + at) i (omega arith) (omega arith)
    | inr ge ↦ get_or-splice_after bytes x (512 * k + at) i (omega arith) (past i k at (length x) ne ge room)
  ];
}
  where
    past : (i k at n : ℕ) → i / 512 ≢ k → k ≤ i / 512 → at + n ≤ 512 → 512 * k + at + n ≤ i
    past i k at n ne ge room = omega arith

-- ---- blocks and what the inode holds
-- from v to w no sector of pointers comes without need
abbrev pub NeedsPointers : SectorMap → SectorMap → Inode → Inode → Type 0
NeedsPointers old new v w = (level i : ℕ) → v.size ≤ 512 * first_block (suc level) i → number_on old v (suc level) i ≡ 0 → number_on new w (suc level) i ≡ 0

-- Block k of w is sector s (none if 0), which reads as x. Its other blocks are those of v.
pub record HasBlock (old new : SectorMap) (v w : Inode) (k s : ℕ) (x : List ℕ) : Type 0 where
  pub now : pointer new w k ≡ s
  pub here : (i : ℕ) → byte_in new s i ≡ get_or x i 0
  pub others : (j : ℕ) → j ≢ k → pointer new w j ≡ pointer old v j
  pub same : KeepsBlocks old new v k
  pub size : w.size ≡ v.size
  pub past : v.size ≤ 512 * k → s ≡ 0
  pub pointers : NeedsPointers old new v w

-- then it holds the bytes with x for block k
pub has_block : {old new : SectorMap} {v w : Inode} {k s : ℕ} {x bytes then : List ℕ} → HasBlock old new v w k s x → Holds old v bytes
    → ReplacesBlock k x bytes then → Holds new w then
unfolding byte_at
has_block {old} {new} {v} {w} {k} {s} {x} b h r = record {
  size = b.size ∙ h.size ∙ sym r.len;
  byte = λ i. elim (cases_eq (i / 512) k) [
    | inl e ↦ ap (λ (t : ℕ). byte_in new t (i % 512)) (ap (pointer new w) e ∙ b.now) ∙ b.here (i % 512) ∙ sym (r.inside i e)
    | inr ne ↦ ap (λ (t : ℕ). byte_in new t (i % 512)) (b.others (i / 512) ne)
        ∙ byte_in_kept old new (pointer old v (i / 512)) (i % 512) (b.same (i / 512) ne) ∙ h.byte i ∙ sym (r.outside i ne)
  ];
  trim = trim;
}
  where
    trim : IsTrimmed new w
    trim zero j le = elim (cases_eq j k) [
      | inl e ↦ ap (pointer new w) e ∙ b.now ∙ b.past (let z = b.size in omega (arith, z, le, e))
      | inr ne ↦ b.others j ne ∙ h.trim 0 j (let z = b.size in omega (arith, z, le))
    ]
    trim (suc level) i le =
        let same : v.size ≤ 512 * first_block (suc level) i = subst (λ (n : ℕ). n ≤ 512 * first_block (suc level) i) b.size le in
        b.pointers level i same (h.trim (suc level) i same)

-- One block is written: what the inode holds has x there.
pub write_block : {p : Geometry} {old new : SectorMap} {v : Inode} {k s : ℕ} {x bytes then : List ℕ} → IsOwnedApart p old v
    → pointer old v k ≡ s → s ≢ 0 → Puts s x old new
    → Holds old v bytes → ReplacesBlock k x bytes then → Holds new v then
unfolding part
write_block {old = old} {new} {v} {k} {s} {x} apart is some put h r =
    let kept : KeepsPointers old new v = pointers_apart apart (Block k) (block_has_no_pointers k) is some put in
    let same : (j : ℕ) → pointer new v j ≡ pointer old v j = pointer_same old new v kept in
    let b : HasBlock old new v v k s x = record {
      now = same k ∙ is;
      here = λ i. byte_in_is new s i x put.here some;
      others = λ j ne. same j;
      same = λ j ne has. put.others (pointer old v j) (λ e. ne (one_block apart j k has (e ∙ sym is)));
      size = refl;
      past = λ le. sym is ∙ h.trim 0 k le;
      pointers = λ level i le none. number_on_same old new v kept (suc level) i ∙ none;
    } in
    has_block b h r

-- each block keeps its sector and its content
pub record HasSameBlocks (old new : SectorMap) (v w : Inode) : Type 0 where
  pub pointers : (k : ℕ) → pointer new w k ≡ pointer old v k
  pub same : KeepsAllBlocks old new v
  pub size : w.size ≡ v.size

-- then the inode holds what it held, if it has no sector of pointers without need
pub Holds-again : {old new : SectorMap} {v w : Inode} {bytes : List ℕ} → HasSameBlocks old new v w → NeedsPointers old new v w
    → Holds old v bytes
    → Holds new w bytes
unfolding byte_at
Holds-again {old} {new} {v} {w} b pointers h = record {
  size = b.size ∙ h.size;
  byte = λ i. ap (λ (t : ℕ). byte_in new t (i % 512)) (b.pointers (i / 512)) ∙ byte_in_kept old new (pointer old v (i / 512)) (i % 512) (b.same (i / 512)) ∙ h.byte i;
  trim = trim;
}
  where
    trim : IsTrimmed new w
    trim zero k le = b.pointers k ∙ h.trim 0 k (let z = b.size in omega (arith, z, le))
    trim (suc level) i le =
        let same : v.size ≤ 512 * first_block (suc level) i = subst (λ (n : ℕ). n ≤ 512 * first_block (suc level) i) b.size le in
        pointers level i same (h.trim (suc level) i same)

-- and has no hole if it had none
pub HasNoHole-again : {old new : SectorMap} {v w : Inode} → HasSameBlocks old new v w → HasNoHole old v → HasNoHole new w
HasNoHole-again b whole k lt none = whole k (let z = b.size in omega (arith, z, lt)) (sym (b.pointers k) ∙ none)

-- a sector that the inode has for an ACL is written: it holds what it held
pub write_acl : {p : Geometry} {old new : SectorMap} {v : Inode} {s : ℕ} {x bytes : List ℕ} → IsOwnedApart p old v → (at : Part) → HasNoPointers at
    → ((k : ℕ) → Block k ≢ at) → part old v at ≡ s → s ≢ 0 → Puts s x old new
    → Holds old v bytes → Holds new v bytes
unfolding part
write_acl {old = old} {new} {v} apart at ne none is some put h =
    let kept : KeepsPointers old new v = pointers_apart apart at ne is some put in
    let b : HasSameBlocks old new v v = record {
      pointers = pointer_same old new v kept;
      same = λ k has. others_kept apart at is some put (record { at = Block k; is = refl; some = has }) (none k);
      size = refl;
    } in
    Holds-again b (λ level i le gone. number_on_same old new v kept (suc level) i ∙ gone) h

-- the inode differs, and not in its size and blocks: it holds what it held
pub fields_hold : (image : SectorMap) (v w : Inode) (bytes : List ℕ) → w.size ≡ v.size → levels w ≡ levels v
    → Holds image v bytes
    → Holds image w bytes
fields_hold image v w bytes size same h =
    let b : HasSameBlocks image image v w = record { pointers = number_on_alike image image v w same (λ n j some. refl) 0; same = λ k has. refl; size = size } in
    Holds-again b (λ level i le none. number_on_alike image image v w same (λ n j some. refl) (suc level) i ∙ none) h

-- ---- a part of a block
-- a read inside of one block
pub window_of_block : (bytes block : List ℕ) (k at n : ℕ) → IsBlockOf bytes k block → length block ≡ 512 → at + n ≤ 512
    → 512 * k + at + n ≤ length bytes
    → window bytes (512 * k + at) n ≡ window block at n
window_of_block bytes block k at n is len room fits =
    let a : length (window bytes (512 * k + at) n) ≡ n = part_len n (512 * k + at) bytes fits in
    let b : length (window block at n) ≡ n = part_len n at block (omega (arith, len)) in
    ext_get_or 0 (window bytes (512 * k + at) n) (window block at n) (a ∙ sym b) (λ i lt.
    let less : i < n = omega (arith, a, lt) in
    get_or-take n (drop (512 * k + at) bytes) i 0 less ∙ get_or-drop (512 * k + at) bytes i 0
    ∙ is (512 * k + at + i) (omega arith) ∙ ap (λ (j : ℕ). get_or block j 0) (within i less)
    ∙ sym (get_or-take n (drop at block) i 0 less ∙ get_or-drop at block i 0))
  where
    within : (i : ℕ) → i < n → (512 * k + at + i) % 512 ≡ at + i
    within i less = omega (arith, less, room)
