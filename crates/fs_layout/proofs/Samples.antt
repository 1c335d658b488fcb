-- Worked samples of an image: each word computes what the layout says.
use Rattle.std.proofs.Common.{◌≡◌, ℕ, map, ◌+◌, ◌*◌, true, false, cond, [], ◌∷◌, ◌++◌, replicate, refl, nat_eq}
use Rattle.fs_layout.specs.declared.inode.Inode.{Inode}
use Rattle.fs_layout.specs.declared.inode.TheConstants.{MAX_BLOCKS}
use Rattle.fs_layout.specs.Bytes.{SectorMap, u32_of, zeros}
use Rattle.fs_layout.specs.Inode.{free_inode}
use Rattle.fs_layout.specs.Lacking.{lacks}
use Rattle.fs_layout.specs.declared.version.Version.TheVariants.{Two}
use Rattle.fs_layout.specs.Geometry.{laid_out}
use Rattle.fs_layout.specs.Images.{bit, number_on, pointer, first_block, part, Block, byte_at, stored}

-- 1024 sectors and 64 inodes: the bitmaps begin at 128 and 129, the table at 130, the data at 146
geometry_of_1024 : laid_out Two 1024 64
    ≡ record { version = Two; sectors = 1024; inodes = 64; header = 0; inode_bitmap = 128; block_bitmap = 129; table = 130; first_data = 146 }
geometry_of_1024 = refl

-- sector 130 of the image has byte 6 at offset 1, and no other sector has anything
two_bits : SectorMap
two_bits s = cond (nat_eq s 130) (0 ∷ 6 ∷ []) []

-- bit 4096 + 9 of the bitmap that begins at 129 is bit 1 of byte 1 of its second sector
bits_set : map (bit two_bits 129) (4105 ∷ 4104 ∷ []) ≡ true ∷ false ∷ []
unfolding bit two_bits
bits_set = refl

bit_elsewhere : bit two_bits 128 9 ≡ false
unfolding bit two_bits
bit_elsewhere = refl

-- sector 200 has the pointers 7 and 258, and sector 258 has bytes
pointers : SectorMap
pointers s = cond (nat_eq s 200) (7 ∷ 0 ∷ 0 ∷ 0 ∷ 2 ∷ 1 ∷ 0 ∷ 0 ∷ []) (cond (nat_eq s 258) (65 ∷ 66 ∷ []) (cond (nat_eq s 300) (zeros 508 ++ (45 ∷ 1 ∷ 0 ∷ 0 ∷ []))
    (cond (nat_eq s 301) (zeros 508 ++ (9 ∷ 0 ∷ 0 ∷ 0 ∷ [])) (cond (nat_eq s 302) (zeros 508 ++ (44 ∷ 1 ∷ 0 ∷ 0 ∷ [])) []))))

-- block 0 is sector 150, and the sector of pointers is 200
file : Inode
file = record free_inode { direct = 150 ∷ replicate 11 0; indirect = 200 ∷ 300 ∷ 302 ∷ [] }

block_0 : pointer pointers file 0 ≡ 150
unfolding number_on pointers file
block_0 = refl

-- block 12 is the first of the sector of pointers, block 13 the second
indirect_blocks : map (λ n. part pointers file (Block n)) (12 ∷ 13 ∷ []) ≡ 7 ∷ 258 ∷ []
unfolding part number_on pointers file u32_of
indirect_blocks = refl

-- there is no block past the last
no_block : part pointers file (Block MAX_BLOCKS) ≡ 0
unfolding part number_on pointers file
no_block = refl

-- numbers of a level above the blocks: the sector of pointers is number 0 of the first, and the double indirect sector names 301
-- as its last; the triple indirect sector names 300 as the last of the second
numbers_above : map (λ (at : ℕ × ℕ). number_on pointers file at.0 at.1) ((1, 0) ∷ (1, 128) ∷ (2, 128) ∷ []) ≡ 200 ∷ 301 ∷ 300 ∷ []
unfolding number_on pointers file u32_of zeros
numbers_above = refl

-- the first block that is found by a number: by the first of each level, and by the second and the last of the first level
first_blocks : map (λ (at : ℕ × ℕ). first_block at.0 at.1) ((1, 0) ∷ (2, 0) ∷ (3, 0) ∷ (1, 1) ∷ (1, 128) ∷ []) ≡ 12 ∷ 140 ∷ 16524 ∷ 140 ∷ 16396 ∷ []
first_blocks = refl

-- the last block by the double indirect number, and the hole before it; a block by a number of it that is 0, where all are holes;
-- and the last block of all
blocks_by_levels : map (pointer pointers file) (16523 ∷ 16522 ∷ 140 ∷ 2113675 ∷ []) ≡ 9 ∷ 0 ∷ 0 ∷ 9 ∷ []
unfolding number_on pointers file u32_of zeros
blocks_by_levels = refl

-- byte 1 of block 13
byte_of_block : byte_at pointers file (512 * 13 + 1) ≡ 66
unfolding byte_at number_on pointers file u32_of
byte_of_block = refl

-- a byte of a hole
byte_of_hole : byte_at pointers file 512 ≡ 0
unfolding byte_at number_on pointers file
byte_of_hole = refl

-- inode 5 stands in the second sector of the table, from byte 128 on
second_inode : SectorMap
second_inode s = cond (nat_eq s 131) (zeros 128 ++ (1 ∷ zeros 383)) []

inode_5 : stored (laid_out Two 1024 64) second_inode 5 ≡ 1 ∷ zeros 127
unfolding stored second_inode zeros
inode_5 = refl

-- ---- how many sectors bytes take in an empty file
empty : Inode
empty = free_inode

-- One byte at 0, at 6,144 and at 71,680; 4,096 bytes across the last block of the indirect sector, and across two that the double
-- indirect sector lists; one byte at 8,460,288; and 4,096 bytes across the last block of the double indirect sector.
takes : map (λ (blocks : ℕ × ℕ). lacks pointers empty blocks.0 blocks.1)
    ((0, 1) ∷ (12, 13) ∷ (140, 141) ∷ (132, 141) ∷ (264, 273) ∷ (16524, 16525) ∷ (16516, 16525) ∷ []) ≡ 1 ∷ 2 ∷ 3 ∷ 12 ∷ 12 ∷ 4 ∷ 14 ∷ []
unfolding number_on pointers empty u32_of zeros
takes = refl

-- one byte at 8,460,287, where the double indirect sector is there
takes_last_by_double : lacks pointers (record empty { indirect = 0 ∷ 300 ∷ 0 ∷ [] }) 16395 16396 ≡ 2
unfolding number_on pointers empty u32_of zeros
takes_last_by_double = refl
