-- An inode holds at most one node.
use Rattle.std.specs.Prelude.{◌≡◌, ℕ, ◌+◌, ◌<◌, Bool, true, false, cond}
use Rattle.std.proofs.Common.{refl, sym, ap, arith, ◌∙◌}
use Rattle.posix_acl.specs.AccessList.{mode_bits}
use Rattle.fs_layout.specs.declared.inode.TheConstants.{S_ISGID, S_ISVTX}
use Rattle.fs_layout.specs.declared.inode.Kind.TheVariants as kinds
use Rattle.fs_layout.specs.declared.inode.Inode.{Inode}
use Rattle.fs_layout.specs.declared.version.Version.{Version}
use Rattle.fs_layout.specs.Bytes.{SectorMap}
use Rattle.fs_layout.proofs.Held.{Holds-unique}
use Rattle.fs_model.specs.Nodes.{Node, Body, File, Dir, Link, Directory, shown_mode}
use Rattle.fs_model.specs.StoredNodes.{Placed, HoldsBody, HoldsNode}
use Rattle.fs_layout.proofs.OneAcl.{access_same, default_same, mode_small}
use Rattle.fs_layout.proofs.OneSlots.{names_same}

directory_same : (x y : Directory) → x.names ≡ y.names → x.default ≡ y.default → x.set_group_id ≡ y.set_group_id → x.sticky ≡ y.sticky → x ≡ y
directory_same x y e f g h =
    let whole : record x { sticky = x.sticky } ≡ record y { sticky = y.sticky } = rw (e, f, g, h) refl in whole

-- a bit above a number is told apart from it
one_bit : (m n k : ℕ) (s t : Bool) → m < k → n < k → m + cond s k 0 ≡ n + cond t k 0 → (m ≡ n) × (s ≡ t)
one_bit m n k true true a b e = (omega (arith, e), refl)
one_bit m n k false false a b e = (omega (arith, e), refl)
one_bit m n k true false a b e = absurd (omega (arith, a, b, e))
one_bit m n k false true a b e = absurd (omega (arith, a, b, e))

below_bit : (m : ℕ) (s : Bool) → m < S_ISVTX → m + cond s S_ISVTX 0 < S_ISGID
below_bit m true a = omega (arith, a)
below_bit m false a = omega (arith, a)

-- the bits of a mode are told apart
bits_same : (m n : ℕ) (s g t h : Bool) → m < S_ISVTX → n < S_ISVTX → m + cond s S_ISVTX 0 + cond g S_ISGID 0 ≡ n + cond t S_ISVTX 0 + cond h S_ISGID 0
    → (m ≡ n) × (s ≡ t) × (g ≡ h)
bits_same m n s g t h a b e =
    let high = one_bit (m + cond s S_ISVTX 0) (n + cond t S_ISVTX 0) S_ISGID g h (below_bit m s a) (below_bit n t b) e in
    let low = one_bit m n S_ISVTX s t a b high.0 in
    (low.0, low.1, high.1)

body_same : (version : Version) (image : SectorMap) (v : Inode) (x y : Body) → shown_mode x ≡ shown_mode y → HoldsBody version image v x
    → HoldsBody version image v y → x ≡ y
body_same version image v (File a s) (File b t) m h k =
    ap (λ z. File z s) (access_same image v.acl a b h.acl k.acl m h.has_acl k.has_acl)
    ∙ ap (λ z. File b z) (Holds-unique image v s t h.holds k.holds)
body_same version image v (Dir a d) (Dir b e) m h k =
    let bits = bits_same (mode_bits a) (mode_bits b) d.sticky d.set_group_id e.sticky e.set_group_id (mode_small a) (mode_small b) m in
    ap (λ z. Dir z d) (access_same image v.acl a b h.acl k.acl bits.0 h.has_acl k.has_acl)
    ∙ ap (λ z. Dir b z) (directory_same d e (names_same version image v d.names e.names h.names k.names) (default_same image v.default_acl d.default e.default h.default k.default h.has_default k.has_default) bits.2 bits.1)
body_same version image v (Link s) (Link t) m h k = ap (λ z. Link z) (Holds-unique image v s t h.holds k.holds)
body_same version image v (File a s) (Dir b e) m h k = let c : kinds.File ≡ kinds.Directory = sym h.kind ∙ k.names.kind in absurd cc
body_same version image v (File a s) (Link t) m h k = let c : kinds.File ≡ kinds.Link = sym h.kind ∙ k.kind in absurd cc
body_same version image v (Dir a d) (File b t) m h k = let c : kinds.Directory ≡ kinds.File = sym h.names.kind ∙ k.kind in absurd cc
body_same version image v (Dir a d) (Link t) m h k = let c : kinds.Directory ≡ kinds.Link = sym h.names.kind ∙ k.kind in absurd cc
body_same version image v (Link s) (File b t) m h k = let c : kinds.Link ≡ kinds.File = sym h.kind ∙ k.kind in absurd cc
body_same version image v (Link s) (Dir b e) m h k = let c : kinds.Link ≡ kinds.Directory = sym h.kind ∙ k.names.kind in absurd cc

node_parts : (x y : Node) → x.owner ≡ y.owner → x.group ≡ y.group → x.body ≡ y.body → x.stamps ≡ y.stamps → x ≡ y
node_parts x y e f g h = let whole : record x { owner = x.owner } ≡ record y { owner = y.owner } = rw (e, f, g, h) refl in whole

pub node_same : (version : Version) (image : SectorMap) (v : Inode) (x y : Placed) → HoldsNode version image v x → HoldsNode version image v y → x.node ≡ y.node
node_same version image v x y h k =
    node_parts x.node y.node (sym h.owner ∙ k.owner) (sym h.group ∙ k.group) (body_same version image v x.node.body y.node.body (sym h.mode ∙ k.mode) h.body k.body)
    (sym h.stamps ∙ k.stamps)

-- a free inode holds no node
pub body_not_free : (version : Version) (image : SectorMap) (v : Inode) (b : Body) → HoldsBody version image v b → v.kind ≡ kinds.Free → ⊥
body_not_free version image v (File a s) h e = let c : kinds.File ≡ kinds.Free = sym h.kind ∙ e in cc
body_not_free version image v (Dir a d) h e = let c : kinds.Directory ≡ kinds.Free = sym h.names.kind ∙ e in cc
body_not_free version image v (Link s) h e = let c : kinds.Link ≡ kinds.Free = sym h.kind ∙ e in cc
