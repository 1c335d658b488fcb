-- What is read of an inode, piece by piece.
use Rattle.std.proofs.Common.{◌≡◌, ℕ, ◌+◌, ◌-◌, ◌*◌, ◌/◌, ◌%◌, ◌<◌, ◌≤◌, zero, suc, List, ◌++◌, length, drop, get_or, refl, sym, ap, ◌∙◌, arith, inl, inr}
use Rattle.std.specs.Prelude.{min}
use Rattle.std.proofs.lemmas.Bool.{cases_lt}
use Rattle.std.proofs.lemmas.List.{ext_get_or, get_or-take, get_or-drop, get_or_append_left, get_or-append_right, length-append, length-drop}
use Rattle.fs_layout.specs.declared.inode.Inode.{Inode}
use Rattle.fs_layout.specs.Bytes.{SectorMap, window, splice}
use Rattle.fs_layout.specs.Images.{pointer, byte_in, byte_at, Holds}
use Rattle.fs_layout.proofs.Fields.{part_len}
use Rattle.fs_layout.proofs.Writes.{part_is_splice}
use Rattle.fs_layout.proofs.SplicedBytes.{length-splice, get_or-splice_before, get_or-splice_inside, get_or-splice_after}
use borrow.Rule.Slice.PartMut.{put_mid}
use Rattle.block_map.specs.Blocks.{IsReadOf}

-- the first `done` bytes of the buffer are those of the inode from an offset on, and the rest is as it was
pub record IsReadSoFar (image : SectorMap) (v : Inode) (offset : ℕ) (old new : List ℕ) (done : ℕ) : Type 0 where
  pub len : length new ≡ length old
  pub bytes : (i : ℕ) → i < done → get_or new i 0 ≡ byte_at image v (offset + i)
  pub rest : (i : ℕ) → done ≤ i → get_or new i 0 ≡ get_or old i 0

-- a byte of a block
pub byte_of_block : (image : SectorMap) (v : Inode) (offset i k at s : ℕ) → offset ≡ 512 * k + at → at + i < 512 → pointer image v k ≡ s
    → byte_in image s (at + i) ≡ byte_at image v (offset + i)
unfolding byte_at
byte_of_block image v offset i k at s is lt e =
    let block : (offset + i) / 512 ≡ k = omega (arith, is, lt) in
    let inside : (offset + i) % 512 ≡ at + i = omega (arith, is, lt) in
    sym (ap (λ (j : ℕ). byte_in image (pointer image v j) ((offset + i) % 512)) block ∙ ap (λ (t : ℕ). byte_in image t ((offset + i) % 512)) e
    ∙ ap (byte_in image s) inside)

-- a whole block
pub block_read : (image : SectorMap) (v : Inode) (piece : List ℕ) (k s : ℕ) → s ≡ pointer image v k → ((i : ℕ) → get_or piece i 0 ≡ byte_in image s i)
    → (i : ℕ) → i < 512 → get_or piece i 0 ≡ byte_at image v (512 * k + i)
block_read image v piece k s is bytes i lt =
    let there : i ≡ 0 + i = omega arith in
    bytes i ∙ ap (byte_in image s) there ∙ byte_of_block image v (512 * k) i k 0 s (omega arith) (omega (arith, lt)) (sym is)

-- a piece more is read, from one block
pub more_read : {image : SectorMap} {v : Inode} {offset done : ℕ} {old to : List ℕ} → IsReadSoFar image v offset old to done
    → (piece : List ℕ) (len k at s seen : ℕ) → length piece ≡ len → done + len ≤ length to → offset + done ≡ 512 * k + at → at + len ≤ 512
    → pointer image v k ≡ s → seen ≡ s → ((i : ℕ) → i < len → get_or piece i 0 ≡ byte_in image seen (at + i))
    → IsReadSoFar image v offset old (put_mid done (done + len - done) to piece) (done + len)
more_read {image} {v} {offset} {done} {old} {to} r piece len k at s seen long room is inside e see bytes =
    let put : put_mid done (done + len - done) to piece ≡ splice to done piece = part_is_splice to piece piece done (done + len - done) len long refl (omega arith) in
    let new : List ℕ = put_mid done (done + len - done) to piece in
    let at_put : (i x : ℕ) → get_or (splice to done piece) i 0 ≡ x → get_or new i 0 ≡ x = λ i x f. ap (λ (l : List ℕ). get_or l i 0) put ∙ f in
    record {
      len = ap length put ∙ length-splice to piece done (omega (arith, long, room)) ∙ r.len;
      bytes = λ i lt. at_put i (byte_at image v (offset + i)) (elim (cases_lt i done) [
        | inl before ↦ get_or-splice_before to piece done i (omega (arith, room)) before ∙ r.bytes i before
        | inr ge ↦
            let less : i - done < len = omega (arith, lt, ge) in
            get_or-splice_inside to piece done i (omega (arith, room)) ge (omega (arith, long, lt))
            ∙ bytes (i - done) less
            ∙ ap (λ (t : ℕ). byte_in image t (at + (i - done))) see
            ∙ byte_of_block image v (offset + done) (i - done) k at s is (omega (arith, less, inside)) e
            ∙ ap (byte_at image v) (omega (arith, ge))
      ]);
      rest = λ i ge. at_put i (get_or old i 0) (get_or-splice_after to piece done i (omega (arith, room)) (omega (arith, long, ge)) ∙ r.rest i (omega (arith, ge)));
    }

-- before the first piece
pub none_read : (image : SectorMap) (v : Inode) (offset : ℕ) (old : List ℕ) → IsReadSoFar image v offset old old 0
none_read image v offset old = record { len = refl; bytes = λ i lt. absurd (omega (arith, lt)); rest = λ i ge. refl }

-- all of it is read
pub all_read : {image : SectorMap} {v : Inode} {offset count done : ℕ} {old new : List ℕ} → IsReadSoFar image v offset old new done
    → done ≡ count → count ≡ min (length old) (v.size - offset) → (bytes : List ℕ) → Holds image v bytes → IsReadOf bytes offset old new count
all_read {image} {v} {offset} {count} {done} {old} {new} r end is bytes h =
    let size : v.size ≡ length bytes = h.size in
    let few : count ≤ length old = omega (arith, is) in
    let inside : (0 < count) → offset + count ≤ length bytes = λ some. omega (arith, is, size, some) in
    let width : length (window bytes offset count) ≡ count = window_len bytes offset count inside in
    let whole : length (window bytes offset count ++ drop count old) ≡ length old =
    omega (arith, length-append (window bytes offset count) (drop count old), width, length-drop count old, few) in
    record {
      len = is ∙ ap (λ (n : ℕ). min (length old) (n - offset)) size;
      content = ext_get_or 0 new (window bytes offset count ++ drop count old) (r.len ∙ sym whole) (λ i lt. elim (cases_lt i count) [
        | inl before ↦
            r.bytes i (omega (arith, end, before)) ∙ h.byte (offset + i)
            ∙ sym (get_or_append_left (window bytes offset count) (drop count old) 0 i (omega (arith, width, before)) ∙ get_or-take count (drop offset bytes) i 0 before
            ∙ get_or-drop offset bytes i 0)
        | inr ge ↦
            r.rest i (omega (arith, end, ge))
            ∙ sym (get_or-append_right (window bytes offset count) (drop count old) count i 0 width ge ∙ get_or-drop count old (i - count) 0
            ∙ ap (λ (j : ℕ). get_or old j 0) (omega (arith, ge)))
      ]);
    }
  where
    window_len : (bytes : List ℕ) (offset count : ℕ) → (0 < count → offset + count ≤ length bytes) → length (window bytes offset count) ≡ count
    window_len bytes offset zero some = refl
    window_len bytes offset (suc n) some = part_len (suc n) offset bytes (some (omega arith))
