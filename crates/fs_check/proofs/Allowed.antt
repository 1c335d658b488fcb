-- Which sectors of pointers an inode may name.
use Rattle.std.specs.Prelude.{◌≡◌, ℕ, zero, suc, ◌*◌, ◌≤◌, Bool, true, false, length, get_or, IsTrue, ◌↔◌}
use Rattle.std.proofs.Common.{arith}
use Rattle.std.proofs.lemmas.List.{get_or_past}
use Rattle.fs_layout.specs.declared.inode.Inode.{Inode}
use Rattle.fs_layout.specs.declared.inode.TheConstants.{DIRECT_BLOCKS, INDIRECT_END, DOUBLE_INDIRECT_END, POINTER_LEVELS}
use Rattle.fs_layout.specs.Images.{first_block}
use Rattle.fs_check.proofs.Tests.{refuses}

abbrev pub NamesNonePast : Inode → ℕ → Type 0
NamesNonePast v most = (level : ℕ) → most ≤ 512 * first_block (suc level) 0 → get_or v.indirect level 0 ≡ 0

module _ (v : Inode) (most : ℕ) where
  abbrev pub Allows : ℕ → ℕ → Type 0
  Allows level first = most ≤ 512 * first → get_or v.indirect level 0 ≡ 0

  pub names_some : (level : ℕ) (r : Bool) → (IsTrue r ↔ Allows level (first_block (suc level) 0)) → r ≡ false → IsTrue false ↔ NamesNonePast v most
  names_some level r test bad = (
    (λ f. absurd (let c : false ≡ true = f in cc)),
    (λ none. absurd (refuses (Allows level (first_block (suc level) 0)) r bad test (none level))),
  )

  pub names_none : length v.indirect ≡ POINTER_LEVELS → Allows 0 DIRECT_BLOCKS → Allows 1 INDIRECT_END → Allows 2 DOUBLE_INDIRECT_END → NamesNonePast v most
  names_none len first second third zero le = first le
  names_none len first second third (suc zero) le = second le
  names_none len first second third (suc (suc zero)) le = third le
  names_none len first second third (suc (suc (suc level))) le = get_or_past v.indirect (suc (suc (suc level))) 0 (omega (arith, len))
