-- Free inodes.
use Rattle.std.specs.Prelude.{◌≡◌, ℕ, ◌+◌, ◌<◌, ◌≤◌, List, length, get_or, drop, Ok}
use Rattle.std.proofs.Common.{refl, sym, ap, arith, ◌∙◌}
use Rattle.std.proofs.lemmas.List.{ext_get_or, length-take-le, length-drop}
use Rattle.fs_layout.specs.declared.inode.TheConstants.{INODE_SIZE}
use Rattle.fs_layout.specs.declared.version.Version.{Version}
use Rattle.fs_layout.specs.Bytes.{SectorMap, window, zeros, le16, le32, le64, le32s}
use Rattle.fs_layout.specs.Inode.{inode_bytes, inode_of, free_inode}
use Rattle.fs_layout.specs.Images.{Owns}
use Rattle.fs_layout.proofs.Free.{free_fits, free_has_no_sector, owns_nothing, holds_nothing}
use Rattle.fs_layout.proofs.InodeLaw.{inode_again}
use Rattle.fs_layout.proofs.SplicedBytes.{get_or-zeros}
use Rattle.fs_layout.proofs.Writes.{length-zeros}
use Rattle.fs_model.specs.Rules.{IsAllowed, IsLaidOut, HasAcls}
use Rattle.fs_model.specs.StoredStamps.{stamps_in}

free_bytes : inode_bytes free_inode ≡ zeros INODE_SIZE
unfolding le16 le32 le64 le32s zeros
free_bytes = refl

zeros_are : (s : List ℕ) → length s ≡ INODE_SIZE → ((i : ℕ) → i < length s → get_or s i 0 ≡ 0) → s ≡ zeros INODE_SIZE
zeros_are s len zero = ext_get_or 0 s (zeros INODE_SIZE) (len ∙ sym (length-zeros INODE_SIZE)) (λ i lt. zero i lt ∙ sym (get_or-zeros INODE_SIZE i))

-- bytes that are all zero are a free one's
pub blank_is_free : (content : List ℕ) (at : ℕ) → length content ≡ 512 → at + INODE_SIZE ≤ 512
    → ((i : ℕ) → i < length (window content at INODE_SIZE) → get_or (window content at INODE_SIZE) i 0 ≡ 0)
    → inode_of (window content at INODE_SIZE) ≡ Ok free_inode
blank_is_free content at len room zero =
    let left = length-drop at content in
    let long : length (window content at INODE_SIZE) ≡ INODE_SIZE = length-take-le INODE_SIZE (drop at content) (omega (arith, left, len, room)) in
    ap inode_of (zeros_are (window content at INODE_SIZE) long zero ∙ sym free_bytes) ∙ inode_again free_inode free_fits

-- one is allowed in each version
pub free_is_allowed : (version : Version) → IsAllowed version free_inode
unfolding stamps_in
free_is_allowed version = record { size = λ e. cc; indirect = λ level le. free_has_no_sector.indirect level; directory = λ e. cc; slots = λ e. cc; stamps = λ e. refl }

-- ---- one obeys the rules

pub free_owns_nothing : (m : SectorMap) (s : ℕ) → Owns m free_inode s → ⊥
free_owns_nothing m s o = owns_nothing m free_inode s free_has_no_sector o

pub free_is_laid_out : (m : SectorMap) → IsLaidOut m free_inode
free_is_laid_out m =
    let held = holds_nothing m free_inode free_has_no_sector refl in
    record { trim = held.trim; rest = λ i past. held.byte i; whole = λ other k below. absurd (omega (arith, below)); target = λ e i below. absurd (omega (arith, below)) }

pub free_has_acls : (m : SectorMap) → HasAcls m free_inode
free_has_acls m = record { access = λ some. absurd (some refl); default = λ some. absurd (some refl); no_link = λ e. refl; only_directory = λ e. refl }
