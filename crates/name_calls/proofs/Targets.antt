-- The target of a symbolic link, as its inode holds it.
--     readlink_by_path        the row of readlink
--     is_kind_of_link, other_kind_refused, target_holds, target_told        what it asks and answers
use Rattle.std.specs.Prelude.{true}
use Rattle.call_parts.specs.Callers.{Who}
use Rattle.call_parts.proofs.Starts.{may_make}
use Rattle.std.specs.Prelude.{◌≡◌, ℕ, Bool, true, false, not, List, [], ◌∷◌, None, Ok, Err}
use Rattle.std.proofs.Common.{refl, sym, ap, ◌∙◌, inl}
use Rattle.sector_disk.specs.Disk.{DiskState}
use Rattle.fs_cred.specs.declared.errno.Errno.TheVariants.{EINVAL}
use Rattle.fs_cred.specs.declared.refusal.Refusal.{Refusal}
use Rattle.fs_layout.specs.declared.inode.Inode.{Inode}
use Rattle.fs_layout.specs.declared.inode.Kind.{Kind}
use Rattle.fs_layout.specs.declared.inode.Kind.TheVariants as kinds
use Rattle.fs_layout.specs.declared.geometry.Geometry.{Geometry}
use Rattle.fs_layout.specs.declared.version.Version.{Version}
use Rattle.fs_layout.specs.Bytes.{SectorMap}
use Rattle.fs_layout.specs.Images.{Holds}
use Rattle.fs_model.specs.declared.call.Call.TheVariants.{Readlink}
use Rattle.fs_model.specs.declared.walk.Form.TheVariants.{NoFollow}
use Rattle.fs_model.specs.declared.walk.Found.{Found}
use Rattle.fs_model.specs.Births.{the_node}
use Rattle.fs_model.specs.Demands.{Demand, refuse, first_of}
use Rattle.fs_model.specs.NameCalls.{readlink_row, readlink_demands, readlink_effect}
use Rattle.fs_model.specs.Nodes.{Node, Body, File, Dir, Link, is_link, target_in}
use Rattle.fs_model.specs.Rows.{row_of}
use Rattle.fs_model.specs.Scenes.{found_ino, must_be_there}
use Rattle.fs_model.specs.StoredNodes.{HoldsBody}
use Rattle.fs_model.specs.Trees.{Tree}
use Rattle.fs_model.specs.Summaries.{is_link_kind}
use Rattle.path_walk.specs.Answers.{refused_or, IsAnswered}
use Rattle.path_walk.specs.HeldTrees.{HoldsTree, IsThere}
use Rattle.call_parts.specs.Reaching.{WalksPath, IsInodeFound}
use Rattle.call_parts.proofs.Calling.{or_else-none, first_asked, next_asked, both_met, met_ok}
use Rattle.call_parts.proofs.Checked.{link_says}
use Rattle.call_parts.proofs.Ownership.{IsNode, node_of}

-- ---- its row

readlink_is : (path : List ℕ) → row_of (Readlink path) ≡ readlink_row path
unfolding row_of
readlink_is path = refl

pub readlink_by_path : {who : Who} → (path : List ℕ) → WalksPath who (Readlink path) (Ok tt) true NoFollow path readlink_demands readlink_effect
readlink_by_path {who} path = record { arguments = []; row = readlink_is path; are_checked = refl; asks = refl; opens = refl; may = may_make who _ refl refl }

-- ---- what it asks and answers

no_other : (b : Bool) → refuse EINVAL (not b) ≡ None → b ≡ true
no_other true e = refl
no_other false e = absurd (cc)

link_kind : (k : Kind) → is_link_kind k ≡ true → k ≡ kinds.Link
link_kind kinds.Free e = absurd (cc)
link_kind kinds.File e = absurd (cc)
link_kind kinds.Directory e = absurd (cc)
link_kind kinds.Link e = refl

pub is_kind_of_link : (k : Kind) → refused_or {A = Unit {0}} (refuse EINVAL (not (is_link_kind k))) (Ok tt) ≡ Ok tt → k ≡ kinds.Link
is_kind_of_link k is = link_kind k (no_other (is_link_kind k) (met_ok {A = Unit {0}} (refuse EINVAL (not (is_link_kind k))) tt tt is).0)

target_says : (version : Version) (map : SectorMap) (v : Inode) (b : Body) → is_link b ≡ true → HoldsBody version map v b → Holds map v (target_in b)
target_says version map v (File a bytes) is h = absurd (cc)
target_says version map v (Dir a d) is h = absurd (cc)
target_says version map v (Link target) is h = h.holds

-- what is asked after it is there
abbrev pub readlink_rest : Tree → Found → List Demand
readlink_rest t f = refuse EINVAL (not (is_link (the_node t (found_ino f)).body)) ∷ []

module _ {p : Geometry} {map : SectorMap} {t : Tree} (h : HoldsTree p map t) (f : Found) (n : ℕ) (v : Inode) (i : IsInodeFound p map f n v) (there : IsThere t n) where
  -- the node that was found
  pub node : IsNode p.version map t f n v
  node = node_of h f n v i.number i.inode there

  abbrev pub target_of : List ℕ
  target_of = target_in node.node.body

  abbrev other_kind : Demand
  other_kind = refuse EINVAL (not (is_link (the_node t (found_ino f)).body))

  kind_is : refuse EINVAL (not (is_link_kind v.kind)) ≡ other_kind
  kind_is = ap (λ (b : Bool). refuse EINVAL (not b)) (link_says p.version map v node.node.body node.holds.body ∙ sym (ap (λ (u : Node). is_link u.body) node.is))

  -- what was found is no link
  pub other_kind_refused : {A : Type 0} (x : A) (e : Refusal) (old new : DiskState) → refused_or {A = Unit {0}} (refuse EINVAL (not (is_link_kind v.kind))) (Ok tt) ≡ Err e
      → IsAnswered old new (refused_or {A = A} (first_of (must_be_there f ∷ other_kind ∷ [])) (Ok x)) (Err e)
  other_kind_refused {A} x e old new is =
      next_asked (must_be_there f) (other_kind ∷ []) x e old new i.met
      (first_asked {B = Unit {0}} other_kind [] tt x e old new
      (inl (ap (λ (d : Demand). refused_or {A = Unit {0}} d (Ok tt)) (sym kind_is) ∙ is)))

  module _ (is : refused_or {A = Unit {0}} (refuse EINVAL (not (is_link_kind v.kind))) (Ok tt) ≡ Ok tt) where
    kind_met : other_kind ≡ None
    kind_met = sym kind_is ∙ (met_ok {A = Unit {0}} (refuse EINVAL (not (is_link_kind v.kind))) tt tt is).0

    pub target_holds : Holds map v target_of
    target_holds =
        target_says p.version map v node.node.body
        (ap (λ (u : Node). is_link u.body) (sym node.is) ∙ no_other (is_link (the_node t (found_ino f)).body) kind_met) node.holds.body

    pub target_told : (target : List ℕ) → target_of ≡ target
        → (first_of (must_be_there f ∷ other_kind ∷ []) ≡ None) × (target_in (the_node t (found_ino f)).body ≡ target)
    target_told target same = (
      both_met (must_be_there f) (other_kind ∷ []) i.met (or_else-none other_kind ∙ kind_met),
      ap (λ (u : Node). target_in u.body) node.is ∙ same,
    )
