-- Where an inode has no hole, after its blocks or its size change.
use Rattle.std.proofs.Common.{◌≡◌, ◌≢◌, ℕ, ◌+◌, ◌*◌, ◌<◌, ◌≤◌, List, refl, sym, ap, ◌∙◌, arith, inl, inr}
use Rattle.std.proofs.lemmas.Bool.{cases_eq}
use Rattle.fs_layout.specs.declared.inode.Inode.{Inode}
use Rattle.fs_layout.specs.declared.geometry.Geometry.{Geometry}
use Rattle.fs_layout.specs.Bytes.{SectorMap}
use Rattle.fs_layout.specs.Images.{levels, number_on, pointer, Block, part, HasNoHole}
use Rattle.fs_layout.specs.InodeChanges.{Puts, Gains, IsOwnedApart}
use Rattle.fs_layout.proofs.Parts.{number_on_alike, pointer_same, block_has_no_pointers}
use Rattle.fs_layout.proofs.Blocks.{pointers_apart}
use Rattle.fs_layout.proofs.Held.{HasSameBlocks}
use Rattle.fs_layout.proofs.Sizes.{now_block, other_blocks}

-- each block within the size has a sector, but for block k
abbrev pub HasNoHoleBut : SectorMap → Inode → ℕ → Type 0
HasNoHoleBut image v k = (j : ℕ) → j ≢ k → 512 * j < v.size → pointer image v j ≢ 0

-- the hole is filled
pub fills_last_hole : {old new : SectorMap} {v w : Inode} {k s : ℕ} → Gains old new v w (Block k) s → s ≢ 0 → w.size ≡ v.size
    → HasNoHoleBut old v k → HasNoHole new w
fills_last_hole {new = new} {w = w} {k = k} g some size whole j lt none = elim (cases_eq j k) [
  | inl e ↦ some (sym (now_block g) ∙ ap (pointer new w) (sym e) ∙ none)
  | inr ne ↦ whole j ne (omega (arith, lt, size)) (sym (other_blocks g j ne) ∙ none)
]

-- a larger size adds one hole at most, if it adds one block at most
pub extends_by_hole : (image : SectorMap) (v : Inode) (n k : ℕ) → HasNoHole image v → 512 * k < v.size + 512 → v.size + n ≤ 512 * k + 512
    → HasNoHoleBut image (record v { size = v.size + n }) k
unfolding number_on
extends_by_hole image v n k whole from to j ne lt = whole j (omega (arith, lt, ne, from, to))

-- and none, if it adds no block
pub extends_no_hole : (image : SectorMap) (v : Inode) (n k : ℕ) → HasNoHole image v → 512 * k < v.size → v.size + n ≤ 512 * k + 512
    → HasNoHole image (record v { size = v.size + n })
unfolding number_on
extends_no_hole image v n k whole from to j lt = whole j (omega (arith, lt, from, to))

-- a smaller size adds no hole
pub cuts_no_hole : (image : SectorMap) (v : Inode) (n : ℕ) → n ≤ v.size → HasNoHole image v → HasNoHole image (record v { size = n })
unfolding number_on
cuts_no_hole image v n le whole j lt = whole j (omega (arith, lt))

-- one block is written
pub put_no_hole : {p : Geometry} {old new : SectorMap} {v : Inode} {s : ℕ} {x : List ℕ} → IsOwnedApart p old v → (k : ℕ) → pointer old v k ≡ s → s ≢ 0
    → Puts s x old new → HasNoHole old v → HasNoHole new v
unfolding part
put_no_hole {old = old} {new} {v} apart k is some put whole j lt none =
    whole j lt (sym (pointer_same old new v (pointers_apart apart (Block k) (block_has_no_pointers k) is some put) j) ∙ none)

-- the blocks are the same
pub HasNoHoleBut-again : {old new : SectorMap} {v w : Inode} {k : ℕ} → HasSameBlocks old new v w → HasNoHoleBut old v k → HasNoHoleBut new w k
HasNoHoleBut-again b whole j ne lt none = whole j ne (let z = b.size in omega (arith, z, lt)) (sym (b.pointers j) ∙ none)

-- the inode differs, and not in its size and blocks
pub fields_no_hole : (image : SectorMap) (v w : Inode) → w.size ≡ v.size → levels w ≡ levels v
    → HasNoHole image v → HasNoHole image w
fields_no_hole image v w size same whole j lt none =
    whole j (omega (arith, lt, size)) (sym (number_on_alike image image v w same (λ n i some. refl) 0 j) ∙ none)
