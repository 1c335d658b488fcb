-- What the caller owns of what it has found, as its inode says it.
use Rattle.call_parts.specs.BothTables.{Tables}
use Rattle.std.specs.Prelude.{Bool}
use Rattle.call_parts.specs.Callers.{Who}
use Rattle.std.specs.Prelude.{◌≡◌, ◌≢◌, ℕ, ◌<◌, ◌^◌, List, [], ◌∷◌, ◌++◌, Option, None, Some, unwrap_or, Ok, Err}
use Rattle.std.proofs.Common.{refl, sym, ap, subst, ◌∙◌, inl, inr}
use Rattle.sector_disk.specs.Disk.{DiskState}
use Rattle.fs_cred.specs.declared.refusal.Refusal.{Refusal}
use Rattle.fs_cred.specs.Credentials.{Credential}
use Rattle.fs_layout.specs.declared.inode.Inode.{Inode}
use Rattle.fs_layout.specs.declared.inode.Kind.TheVariants as kinds
use Rattle.fs_layout.specs.declared.geometry.Geometry.{Geometry}
use Rattle.fs_layout.specs.declared.version.Version.{Version}
use Rattle.fs_layout.specs.Bytes.{SectorMap}
use Rattle.fs_layout.specs.Images.{inode_at}
use Rattle.fs_layout.specs.Inode.{FitsInode}
use Rattle.fs_model.specs.declared.touch.Touch.TheVariants.{Changed}
use Rattle.fs_model.specs.declared.walk.Form.{Form}
use Rattle.fs_model.specs.declared.walk.Found.{Found}
use Rattle.fs_model.specs.AttributeCalls.{chown_demands, chown_effect, owned}
use Rattle.fs_model.specs.Births.{the_node}
use Rattle.fs_model.specs.Demands.{Demand, or_else, first_of}
use Rattle.fs_model.specs.Nodes.{Node}
use Rattle.fs_model.specs.Processes.{Process}
use Rattle.fs_model.specs.Scenes.{found_ino, must_be_there, own_at_end}
use Rattle.fs_model.specs.States.{State}
use Rattle.fs_model.specs.StoredNodes.{HoldsNode}
use Rattle.fs_model.specs.Trees.{Tree, node_at, names_of, parent}
use Rattle.fs_model.specs.declared.reply.Reply.TheVariants.{Done}
use Rattle.path_walk.specs.Answers.{refused_or, IsAnswered}
use Rattle.path_walk.specs.HeldTrees.{HoldsTree, IsThere}
use Rattle.call_parts.specs.Paths.{scene_at, HasFound}
use Rattle.call_parts.specs.Performing.{IsStateOf}
use Rattle.call_parts.proofs.Calling.{state_tree, found_there, first_of-append, refused_err, met_ok, first_asked, next_asked, both_met}
use Rattle.call_parts.proofs.HeldChanges.{owner_held}
use Rattle.path_walk.proofs.HeldNodes.{stands, held_node}
use Rattle.call_parts.specs.Asked.{own_asked, owner_asked}
use Rattle.call_parts.specs.Given.{GivesOwner}
use Rattle.call_parts.proofs.Changed.{IsChange, rewrites_found}
use Rattle.call_parts.proofs.Removed.{attributes_fit}
use Rattle.call_parts.proofs.Shown.{the_node_is}
use Rattle.call_parts.specs.Telling.{checked}
use Rattle.call_parts.specs.Reaching.{IsInodeFound}

-- ---- demands, some and then others

-- the first of them refuse
pub some_asked : {A B : Type 0} (ds es : List Demand) (y : B) (x : A) (e : Refusal) (old new : DiskState)
    → IsAnswered old new (refused_or (first_of ds) (Ok y)) (Err e) → IsAnswered old new (refused_or (first_of (ds ++ es)) (Ok x)) (Err e)
some_asked {A} ds es y x e old new h = elim h [
  | inl is ↦ inl (ap (λ (o : Demand). refused_or {A = A} o (Ok x))
      (first_of-append ds es ∙ ap (λ (o : Demand). or_else o (first_of es)) (refused_err (first_of ds) y e is)))
  | inr way ↦ inr way
]

both_are : (ds es : List Demand) → first_of ds ≡ None → first_of (ds ++ es) ≡ first_of es
both_are ds es none = first_of-append ds es ∙ ap (λ (o : Demand). or_else o (first_of es)) none

-- the first demands are met, and the others refuse
pub others_asked : {A : Type 0} (ds es : List Demand) (x : A) (e : Refusal) (old new : DiskState) → first_of ds ≡ None
    → IsAnswered old new (refused_or (first_of es) (Ok x)) (Err e) → IsAnswered old new (refused_or (first_of (ds ++ es)) (Ok x)) (Err e)
others_asked {A} ds es x e old new none h =
    subst (λ (o : Demand). IsAnswered old new (refused_or {A = A} o (Ok x)) (Err e)) (sym (both_are ds es none)) h

-- all are met
pub all_met : (ds es : List Demand) → first_of ds ≡ None → first_of es ≡ None → first_of (ds ++ es) ≡ None
all_met ds es none rest = both_are ds es none ∙ rest

-- ---- the node that was found

pub record IsNode (version : Version) (map : SectorMap) (t : Tree) (f : Found) (n : ℕ) (v : Inode) : Type 0 where
  pub node : Node
  pub at : node_at t n ≡ Some node
  pub is : the_node t (found_ino f) ≡ node
  pub holds : HoldsNode version map v (record { node = node; names = names_of t n; parent = parent t n })

pub node_of : {p : Geometry} {map : SectorMap} {t : Tree} (h : HoldsTree p map t) (f : Found) (n : ℕ) (v : Inode) → found_ino f ≡ n → v ≡ inode_at p map n
    → IsThere t n → IsNode p.version map t f n v
node_of {p} {map} {t} h f n v is inode there =
    let s = stands t n there in
    record {
      node = s.node;
      at = s.at;
      is = ap (the_node t) is ∙ the_node_is t n s.node s.at;
      holds = subst (λ (w : Inode). HoldsNode p.version map w (record { node = s.node; names = names_of t n; parent = parent t n })) (sym inode) (held_node h n s.node s.at);
    }

-- ---- to own it is asked

module _ {p : Geometry} {map : SectorMap} {tables : Tables} {s : State} {who : Who} {q : Process} {links : Bool} {form : Form} {path : List ℕ} {f : Found} {n : ℕ} {v : Inode}
    (at : IsStateOf p map tables s) (has : HasFound s who q links form path f) (i : IsInodeFound p map f n v) where
  pub found_node : IsNode p.version map s.tree f n v
  found_node = node_of (state_tree at) f n v i.number i.inode (found_there n at has i.some)

  own_is : own_at_end (scene_at s q f) ≡ own_asked q.cred v.uid f.step
  own_is = ap (λ (k : ℕ). own_asked q.cred k f.step) (ap (λ (u : Node). u.owner) found_node.is ∙ sym found_node.holds.owner)

  -- what was found isn't the caller's
  pub own_refused : {A : Type 0} (rest : List Demand) (x : A) (e : Refusal) (old new : DiskState) → checked (own_asked q.cred v.uid f.step) ≡ Err e
      → IsAnswered old new (refused_or (first_of (must_be_there f ∷ own_at_end (scene_at s q f) ∷ rest)) (Ok x)) (Err e)
  own_refused rest x e old new is =
      next_asked (must_be_there f) (own_at_end (scene_at s q f) ∷ rest) x e old new i.met
      (first_asked {B = Unit {0}} (own_at_end (scene_at s q f)) rest tt x e old new (inl (ap checked own_is ∙ is)))

  -- what was found is the caller's
  pub own_met : own_asked q.cred v.uid f.step ≡ None → first_of (must_be_there f ∷ own_at_end (scene_at s q f) ∷ []) ≡ None
  own_met none = both_met (must_be_there f) (own_at_end (scene_at s q f) ∷ []) i.met (both_met (own_at_end (scene_at s q f)) [] (own_is ∙ none) refl)

-- ---- another owner and group

-- what chown() asks after that
abbrev pub owner_rest : Option ℕ → Option ℕ → State → Process → Found → List Demand
owner_rest owner group s q f =
    let node = the_node s.tree (found_ino f) in
    owner_asked q.cred node.owner node.group (unwrap_or owner node.owner) (unwrap_or group node.group) f.step

pub owner_given : (v : Inode) (uid gid : ℕ) → FitsInode v → v.kind ≢ kinds.Free → uid < 2 ^ 32 → gid < 2 ^ 32 → FitsInode (record v { uid = uid; gid = gid })
owner_given v uid gid fits used u g = attributes_fit v uid gid v.names v.parent fits used u g fits.names fits.parent

module _ {p : Geometry} {map : SectorMap} {tables : Tables} {s : State} {who : Who} {q : Process} {links : Bool} {form : Form} {path : List ℕ} {f : Found} {n : ℕ} {v : Inode}
    (at : IsStateOf p map tables s) (has : HasFound s who q links form path f) (i : IsInodeFound p map f n v) where
  module _ (owner group : Option ℕ) (uid gid : ℕ) (uid_is : uid ≡ unwrap_or owner v.uid) (gid_is : gid ≡ unwrap_or group v.gid) where
    owner_is : chown_demands owner group (scene_at s q f) ≡ must_be_there f ∷ owner_asked q.cred v.uid v.gid uid gid f.step
    owner_is =
        ap (λ (k : ℕ). must_be_there f
        ∷ owner_asked q.cred k (the_node s.tree (found_ino f)).group (unwrap_or owner k) (unwrap_or group (the_node s.tree (found_ino f)).group) f.step)
        (ap (λ (u : Node). u.owner) (found_node at has i).is ∙ sym (found_node at has i).holds.owner)
        ∙ ap (λ (k : ℕ). must_be_there f ∷ owner_asked q.cred v.uid k (unwrap_or owner v.uid) (unwrap_or group k) f.step)
        (ap (λ (u : Node). u.group) (found_node at has i).is ∙ sym (found_node at has i).holds.group)
        ∙ ap (λ (k : ℕ). must_be_there f ∷ owner_asked q.cred v.uid v.gid k (unwrap_or group v.gid) f.step) (sym uid_is)
        ∙ ap (λ (k : ℕ). must_be_there f ∷ owner_asked q.cred v.uid v.gid uid k f.step) (sym gid_is)

    -- another owner or group is refused
    pub owner_refused : {A B : Type 0} (cred : Credential) (y : B) (x : A) (e : Refusal) (old new : DiskState) → cred ≡ q.cred
        → refused_or (first_of (owner_asked cred v.uid v.gid uid gid f.step)) (Ok y) ≡ Err e
        → IsAnswered old new (refused_or (first_of (chown_demands owner group (scene_at s q f))) (Ok x)) (Err e)
    owner_refused {A} {B} cred y x e old new same is =
        subst (λ (ds : List Demand). IsAnswered old new (refused_or {A = A} (first_of ds) (Ok x)) (Err e)) (sym owner_is)
        (next_asked (must_be_there f) (owner_asked q.cred v.uid v.gid uid gid f.step) x e old new i.met
        (inl (ap (λ (d : Demand). refused_or {A = A} d (Ok x))
        (ap (λ (k : Credential). first_of (owner_asked k v.uid v.gid uid gid f.step)) (sym same)
        ∙ refused_err (first_of (owner_asked cred v.uid v.gid uid gid f.step)) y e is))))

    -- or it is given
    pub owner_changed : {B : Type 0} (cred : Credential) (y : B) (new : SectorMap) → cred ≡ q.cred
        → refused_or (first_of (owner_asked cred v.uid v.gid uid gid f.step)) (Ok y) ≡ Ok y
        → GivesOwner p n uid gid map new
        → IsChange p new tables s q (chown_demands owner group (scene_at s q f)) (chown_effect owner group (scene_at s q f)) Done ((n, Changed) ∷ [])
    owner_changed {B} cred y new same given gives =
        let x = found_node at has i in
        let is = (at.is_state.tree).each n x.node x.at in
        let held = subst (λ (w : Inode). HoldsNode p.version map w (record { node = x.node; names = names_of s.tree n; parent = parent s.tree n })) i.inode x.holds in
        rewrites_found at new Changed n x.node (record x.node { owner = uid; group = gid }) x.at
        (record { same = refl; names = refl; owner = gives.uid_fits; group = gives.gid_fits; body = is.body; stamps = is.stamps }) gives.one
        (owner_held map new (inode_at p map n) (inode_at p new n) _ held uid gid gives.saved gives.bytes gives.acls)
        q f (chown_demands owner group (scene_at s q f)) (owned owner group)
        (ap first_of owner_is
        ∙ both_met (must_be_there f) (owner_asked q.cred v.uid v.gid uid gid f.step) i.met
        (ap (λ (k : Credential). first_of (owner_asked k v.uid v.gid uid gid f.step)) (sym same)
        ∙ (met_ok (first_of (owner_asked cred v.uid v.gid uid gid f.step)) y y given).0))
        i.number x.is
        (ap (λ (k : ℕ). record x.node { owner = unwrap_or owner k; group = unwrap_or group x.node.group }) (sym x.holds.owner)
        ∙ ap (λ (k : ℕ). record x.node { owner = unwrap_or owner v.uid; group = unwrap_or group k }) (sym x.holds.group)
        ∙ ap (λ (k : ℕ). record x.node { owner = k; group = unwrap_or group v.gid }) (sym uid_is)
        ∙ ap (λ (k : ℕ). record x.node { owner = uid; group = k }) (sym gid_is))
