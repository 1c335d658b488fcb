-- What an inode holds rests on its own sectors alone.
use Rattle.std.specs.Prelude.{◌≡◌, Option, None, Some, MatchOption}
use Rattle.std.proofs.Common.{◌∙◌, sym, subst}
use Rattle.fs_layout.specs.declared.inode.Inode.{Inode}
use Rattle.fs_layout.specs.declared.version.Version.{Version}
use Rattle.fs_layout.specs.Bytes.{SectorMap}
use Rattle.fs_layout.specs.Inode.{free_inode}
use Rattle.fs_layout.specs.InodeChanges.{Keeps}
use Rattle.fs_layout.proofs.Parts.{Holds-kept, HasNoHole-kept, owns_acl, owns_default_acl}
use Rattle.fs_layout.proofs.KeptParts.{HasNames-kept, HoldsAcl-kept}
use Rattle.fs_model.specs.Nodes.{Body, File, Dir, Link}
use Rattle.fs_model.specs.StoredNodes.{Placed, HoldsBody, HoldsNode}
use Rattle.fs_model.proofs.NodesHeld.{node_held}

body_kept : (version : Version) (old new : SectorMap) (v : Inode) (b : Body) → Keeps old new v → HoldsBody version old v b → HoldsBody version new v b
body_kept version old new v (File a bytes) keeps h = record {
  kind = h.kind;
  holds = Holds-kept keeps h.holds;
  acl = h.acl;
  has_acl = HoldsAcl-kept old new v.acl _ (λ some. keeps v.acl (owns_acl old v some)) h.has_acl;
  no_default = h.no_default;
}
body_kept version old new v (Dir a d) keeps h = record {
  names = HasNames-kept keeps h.names;
  acl = h.acl;
  default = h.default;
  has_acl = HoldsAcl-kept old new v.acl _ (λ some. keeps v.acl (owns_acl old v some)) h.has_acl;
  has_default = HoldsAcl-kept old new v.default_acl d.default (λ some. keeps v.default_acl (owns_default_acl old v some)) h.has_default;
}
body_kept version old new v (Link target) keeps h = record {
  kind = h.kind;
  holds = Holds-kept keeps h.holds;
  whole = HasNoHole-kept keeps h.whole;
  no_acl = h.no_acl;
  no_default = h.no_default;
}

pub node_kept : (version : Version) (old new : SectorMap) (v : Inode) (x : Placed) → Keeps old new v → HoldsNode version old v x → HoldsNode version new v x
node_kept version old new v x keeps h = node_held version new v x h.owner h.group h.mode h.names h.parent h.stamps (body_kept version old new v x.node.body keeps h.body)

-- an inode that stays holds what it held, or is free as it was
pub placed_kept : (version : Version) (o : Option Placed) (old new : SectorMap) (v w : Inode) → w ≡ v → Keeps old new v
    → MatchOption o (v ≡ free_inode) (λ x. HoldsNode version old v x) → MatchOption o (w ≡ free_inode) (λ x. HoldsNode version new w x)
placed_kept version None old new v w e keeps h = e ∙ h
placed_kept version (Some x) old new v w e keeps h = subst (λ u. HoldsNode version new u x) (sym e) (node_kept version old new v x keeps h)
