-- A directory's names and an ACL, where the sectors that they stand in stay.
use Rattle.std.specs.Prelude.{◌≡◌, ◌≢◌, ℕ, List, Option, None, Some}
use Rattle.std.proofs.Common.{◌∙◌}
use Rattle.posix_acl.specs.AccessList.{AccessList}
use Rattle.fs_layout.specs.declared.version.Version.{Version}
use Rattle.fs_layout.specs.declared.inode.Inode.{Inode}
use Rattle.fs_layout.specs.Bytes.{SectorMap}
use Rattle.fs_layout.specs.InodeChanges.{Keeps}
use Rattle.fs_layout.specs.Directories.{HasNames}
use Rattle.fs_layout.specs.AclSector.{HoldsAcl}
use Rattle.fs_layout.proofs.Parts.{Holds-kept, HasNoHole-kept}

pub HasNames-kept : {version : Version} {old new : SectorMap} {v : Inode} {names : List (List ℕ × ℕ)}
    → Keeps old new v → HasNames version old v names → HasNames version new v names
HasNames-kept keeps h = record {
  kind = h.kind;
  slots = h.slots;
  are = h.are;
  apart = h.apart;
  each = h.each;
  few = h.few;
  holds = Holds-kept keeps h.holds;
  whole = HasNoHole-kept keeps h.whole;
}

pub HoldsAcl-kept : (old new : SectorMap) (s : ℕ) (a : Option AccessList) → (s ≢ 0 → new s ≡ old s) → HoldsAcl old s a → HoldsAcl new s a
HoldsAcl-kept old new s None same h = h
HoldsAcl-kept old new s (Some a) same h = (h.0, same h.0 ∙ h.1)
