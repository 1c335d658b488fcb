-- The laws on numbers as bytes.
use Rattle.std.proofs.Common.{◌≡◌, ℕ, ◌+◌, ◌≤◌, List, ◌++◌, length, take, drop, refl, sym, ap, ◌∙◌, arith}
use Rattle.std.proofs.lemmas.List.{drop_at, length-take-le, take_at}
use Rattle.fs_layout.specs.Bytes.{splice, le16, le32, le64, u16_of, u32_of, u64_of}
use Rattle.fs_layout.specs.Laws.{AreNumbersAsBytes}
use Rattle.fs_layout.proofs.Fields.{back16, back32, back64, read16, read32, read64}

after_splice : (s x : List ℕ) (at : ℕ) → at ≤ length s → drop at (splice s at x) ≡ x ++ drop (at + length x) s
unfolding splice
after_splice s x at room = drop_at (take at s) (x ++ drop (at + length x) s) at (length-take-le at s room)

two_bytes : (x : ℕ) → length (le16 x) ≡ 2
unfolding le16
two_bytes x = refl

four_bytes : (x : ℕ) → length (le32 x) ≡ 4
unfolding le32
four_bytes x = refl

eight_bytes : (x : ℕ) → length (le64 x) ≡ 8
unfolding le64
eight_bytes x = refl

pub are_numbers_16 : AreNumbersAsBytes 2 le16 u16_of
are_numbers_16 = record {
  written = λ s at small room.
      sym (ap (take 2) (back16 s at small room) ∙ take_at (le16 (u16_of s at)) (drop (at + 2) s) 2 (two_bytes (u16_of s at)));
  read = λ s at x room fits. read16 (splice s at (le16 x)) at x _ (after_splice s (le16 x) at (omega arith)) fits;
}

pub are_numbers_32 : AreNumbersAsBytes 4 le32 u32_of
are_numbers_32 = record {
  written = λ s at small room.
      sym (ap (take 4) (back32 s at small room) ∙ take_at (le32 (u32_of s at)) (drop (at + 4) s) 4 (four_bytes (u32_of s at)));
  read = λ s at x room fits. read32 (splice s at (le32 x)) at x _ (after_splice s (le32 x) at (omega arith)) fits;
}

pub are_numbers_64 : AreNumbersAsBytes 8 le64 u64_of
are_numbers_64 = record {
  written = λ s at small room.
      sym (ap (take 8) (back64 s at small room) ∙ take_at (le64 (u64_of s at)) (drop (at + 8) s) 8 (eight_bytes (u64_of s at)));
  read = λ s at x room fits. read64 (splice s at (le64 x)) at x _ (after_splice s (le64 x) at (omega arith)) fits;
}
