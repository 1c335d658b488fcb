-- An ACL given to what was found.
--     given_super        the superblock stays
--     acl_rest, holder_refused, space_refused        it is refused
--     acl_changed, acl_given        it is given
use Rattle.call_parts.specs.BothTables.{Tables}
use Rattle.std.specs.Prelude.{false}
use Rattle.call_parts.specs.Callers.{Who}
use Rattle.std.specs.Prelude.{◌≡◌, ℕ, Bool, true, false, not, ◌&&◌, List, [], ◌∷◌, Option, None, Some, IsFalse, Ok, Err}
use Rattle.std.proofs.Common.{refl, sym, ap, subst, inl, ◌∙◌}
use Rattle.posix_acl.specs.AccessList.{AccessList, IsSomeAcl}
use Rattle.sector_disk.specs.Disk.{DiskState}
use Rattle.fs_cred.specs.declared.errno.Errno.TheVariants.{ENOTDIR}
use Rattle.fs_cred.specs.declared.refusal.Refusal.{Refusal}
use Rattle.fs_layout.specs.declared.inode.Inode.{Inode}
use Rattle.fs_layout.specs.declared.geometry.Geometry.{Geometry}
use Rattle.fs_layout.specs.Bytes.{SectorMap}
use Rattle.fs_layout.specs.Images.{inode_at, free_sectors}
use Rattle.sector_txn.specs.Sectors.{TxnState, IsUnchanged}
use Rattle.fs_model.specs.declared.call.AclType.{AclType}
use Rattle.fs_model.specs.declared.call.AclType.TheVariants.{Access, Default}
use Rattle.fs_model.specs.declared.reply.Reply.TheVariants.{Done}
use Rattle.fs_model.specs.declared.touch.Touch.TheVariants.{Changed}
use Rattle.fs_model.specs.declared.walk.Form.TheVariants.{Follow}
use Rattle.fs_model.specs.declared.walk.Found.{Found}
use Rattle.fs_model.specs.AttributeCalls.{is_default, set_acl_arguments, set_acl_demands, set_acl_effect, with_set_acl}
use Rattle.fs_model.specs.Demands.{Demand, refuse, first_of}
use Rattle.fs_model.specs.Nodes.{Node, is_directory, is_link}
use Rattle.fs_model.specs.Processes.{Process}
use Rattle.fs_model.specs.Rules.{is_directory_kind}
use Rattle.fs_model.specs.Scenes.{body_found, must_be_there, own_at_end}
use Rattle.fs_model.specs.States.{State}
use Rattle.fs_model.specs.StoredNodes.{Placed, HoldsNode}
use Rattle.fs_model.specs.Trees.{names_of, parent}
use Rattle.fs_model.proofs.StepsBodies.{acl_may_replace}
use Rattle.path_walk.specs.Answers.{refused_or, IsAnswered}
use Rattle.call_parts.specs.Paths.{scene_at, HasFound}
use Rattle.call_parts.specs.Performing.{IsStateOf}
use Rattle.call_parts.proofs.Calling.{state_tree, met_ok, answered_later, first_asked, next_asked, both_met}
use Rattle.call_parts.proofs.HeldChanges.{default_held, set_acl_held}
use Rattle.path_walk.proofs.HeldNodes.{held_kind, held_node}
use Rattle.path_walk.proofs.Kept.{kept_back}
use Rattle.call_parts.specs.Asked.{own_asked, holder_asked, acl_space_asked}
use Rattle.call_parts.specs.Given.{ChangesOne, SavesAcl, SavesDefaultAcl, SavesOf}
use Rattle.call_parts.proofs.Changed.{IsChange, rewrites_found}
use Rattle.call_parts.proofs.Followed.{directory_is, followed_access, node_is, plain}
use Rattle.call_parts.proofs.Ownership.{own_met, others_asked, all_met}
use Rattle.call_parts.specs.Reaching.{IsInodeFound}
use Rattle.call_parts.specs.Telling.{checked}

-- ---- what the inode holds then

-- the node with this ACL
record IsGiven (p : Geometry) (n : ℕ) (x : Placed) (which : AclType) (acl : Option AccessList) (map new : SectorMap) : Type 0 where
  valid : IsSomeAcl acl
  one : ChangesOne p n map new
  held : HoldsNode p.version new (inode_at p new n) (record x { node = record x.node { body = with_set_acl which acl x.node.body } })

is_given : (p : Geometry) (n : ℕ) (x : Placed) (which : AclType) (acl : Option AccessList) (map new : SectorMap) → HoldsNode p.version map (inode_at p map n) x
    → IsFalse (is_link x.node.body) → (is_default which ≡ true → is_directory x.node.body ≡ true) → first_of (set_acl_arguments which acl) ≡ None
    → (which ≡ Access → (a : AccessList) → acl ≡ Some a → SavesAcl p n (inode_at p map n).mode a map new)
    → (which ≡ Default → SavesDefaultAcl p n acl map new) → IsGiven p n x which acl map new
is_given p n x Access None map new h other directory given access default = absurd (cc)
is_given p n x Access (Some a) map new h other directory given access default =
    let g = access refl a refl in
    record {
      valid = g.access.valid;
      one = g.one;
      held = set_acl_held map new (inode_at p map n) (inode_at p new n) x h a other g.fields g.bytes g.default g.access;
    }
is_given p n x Default acl map new h other directory given access default =
    let g = default refl in
    record {
      valid = g.default.valid;
      one = g.one;
      held = default_held map new (inode_at p map n) (inode_at p new n) x h acl (directory refl) g.fields g.bytes g.access g.default;
    }

-- what gets a default ACL is a directory
gets_default : (d k : Bool) → refuse ENOTDIR (d && not k) ≡ None → d ≡ true → k ≡ true
gets_default true true none is = refl
gets_default true false none is = absurd (cc)
gets_default false k none is = absurd (cc)

-- the superblock stays
pub given_super : (p : Geometry) (n : ℕ) (which : AclType) (acl : Option AccessList) {m : ℕ} {map new : SectorMap} → first_of (set_acl_arguments which acl) ≡ None
    → (which ≡ Access → (a : AccessList) → acl ≡ Some a → SavesAcl p n m a map new) → (which ≡ Default → SavesDefaultAcl p n acl map new) → new 0 ≡ map 0
given_super p n Access None given access default = absurd (cc)
given_super p n Access (Some a) given access default = (access refl a refl).one.super
given_super p n Default acl given access default = (default refl).one.super

-- ---- what is asked after the owner

-- of the state
abbrev pub acl_rest : AclType → Option AccessList → State → Process → Found → List Demand
acl_rest which acl s q f = refuse ENOTDIR (is_default which && not (is_directory (body_found (scene_at s q f) f))) ∷ acl_space_asked which acl s.free

-- since an earlier moment
pub space_later : (p : Geometry) (which : AclType) (acl : Option AccessList) {old mid : TxnState} (new : DiskState) (e : Refusal) → IsUnchanged old mid
    → IsAnswered mid.disk new (refused_or {A = Unit {0}} (first_of (acl_space_asked which acl (free_sectors p mid.sectors))) (Ok tt)) (Err e)
    → IsAnswered old.disk new (refused_or {A = Unit {0}} (first_of (acl_space_asked which acl (free_sectors p old.sectors))) (Ok tt)) (Err e)
space_later p which acl {old} {mid} new e same is =
    kept_back (λ (m : SectorMap). IsAnswered old.disk new (refused_or {A = Unit {0}} (first_of (acl_space_asked which acl (free_sectors p m))) (Ok tt)) (Err e)) same
    (answered_later {A = Unit {0}} new same is)

module _ {p : Geometry} {map : SectorMap} {tables : Tables} {s : State} {who : Who} {q : Process} {path : List ℕ} {f : Found} {n : ℕ} {v : Inode}
    (at : IsStateOf p map tables s) (has : HasFound s who q false Follow path f) (i : IsInodeFound p map f n v)
    (met : own_asked q.cred v.uid f.step ≡ None) (which : AclType) (acl : Option AccessList) where
  abbrev first_two : List Demand
  first_two = must_be_there f ∷ own_at_end (scene_at s q f) ∷ []

  abbrev space : List Demand
  space = acl_space_asked which acl (free_sectors p map)

  demands_are : set_acl_demands which acl (scene_at s q f) ≡ must_be_there f ∷ own_at_end (scene_at s q f) ∷ holder_asked which v.kind ∷ space
  demands_are =
      ap (λ (b : Bool). must_be_there f ∷ own_at_end (scene_at s q f) ∷ refuse ENOTDIR (is_default which && not b) ∷ acl_space_asked which acl s.free)
      (directory_is at has i.some i.number i.inode)
      ∙ ap (λ (k : ℕ). must_be_there f ∷ own_at_end (scene_at s q f) ∷ holder_asked which v.kind ∷ acl_space_asked which acl k) at.free_is

  rest_asked : {A : Type 0} (x : A) (e : Refusal) (old new : DiskState)
      → IsAnswered old new (refused_or {A = A} (first_of (holder_asked which v.kind ∷ space)) (Ok x)) (Err e)
      → IsAnswered old new (refused_or {A = A} (first_of (set_acl_demands which acl (scene_at s q f))) (Ok x)) (Err e)
  rest_asked {A} x e old new h =
      subst (λ (ds : List Demand). IsAnswered old new (refused_or {A = A} (first_of ds) (Ok x)) (Err e)) (sym demands_are)
      (others_asked first_two (holder_asked which v.kind ∷ space) x e old new (own_met at has i met) h)

  -- what is of this kind has no such ACL
  pub holder_refused : {A B : Type 0} (y : B) (x : A) (e : Refusal) (old new : DiskState) → refused_or {A = B} (holder_asked which v.kind) (Ok y) ≡ Err e
      → IsAnswered old new (refused_or {A = A} (first_of (set_acl_demands which acl (scene_at s q f))) (Ok x)) (Err e)
  holder_refused {A} {B} y x e old new is = rest_asked x e old new (first_asked {B = B} (holder_asked which v.kind) space y x e old new (inl is))

  module _ (holder : holder_asked which v.kind ≡ None) where
    -- too few sectors are free
    pub space_refused : {A : Type 0} (x : A) (e : Refusal) (old new : DiskState) → IsAnswered old new (refused_or {A = A} (first_of space) (Ok x)) (Err e)
        → IsAnswered old new (refused_or {A = A} (first_of (set_acl_demands which acl (scene_at s q f))) (Ok x)) (Err e)
    space_refused x e old new h = rest_asked x e old new (next_asked (holder_asked which v.kind) space x e old new holder h)

    -- the list is given
    acl_changed : (new : SectorMap) → first_of space ≡ None → first_of (set_acl_arguments which acl) ≡ None → SavesOf which p n v.mode acl map new
        → IsChange p new tables s q (set_acl_demands which acl (scene_at s q f)) (set_acl_effect which acl (scene_at s q f)) Done ((n, Changed) ∷ [])
    acl_changed new enough given saves =
        let a = followed_access n at has i.some in
        let kind = sym (held_kind (state_tree at) n a.node a.at) ∙ ap (λ (w : Inode). is_directory_kind w.kind) (sym i.inode) in
        let g = is_given p n (record { node = a.node; names = names_of s.tree n; parent = parent s.tree n }) which acl map new
        (held_node (state_tree at) n a.node a.at) (plain a.node.owner a.node.group a.node.body a.access a.is)
        (λ is. kind ∙ gets_default (is_default which) (is_directory_kind v.kind) holder is) given
        (λ w o e. subst (λ (u : Inode). SavesAcl p n u.mode o map new) i.inode (saves.access w o e)) saves.default in
        rewrites_found at new Changed n a.node (record a.node { body = with_set_acl which acl a.node.body }) a.at
        (acl_may_replace s.room s.tree n a.node ((at.is_state.tree).each n a.node a.at) which acl g.valid) g.one g.held
        q f (set_acl_demands which acl (scene_at s q f)) (λ (u : Node). record u { body = with_set_acl which acl u.body })
        (ap first_of demands_are
        ∙ all_met first_two (holder_asked which v.kind ∷ space) (own_met at has i met) (both_met (holder_asked which v.kind) space holder enough))
        i.number (node_is s q f n i.number a) refl

-- so it is after what was asked
pub acl_given : {p : Geometry} {mid last : TxnState} {tables : Tables} {s : State} {who : Who} {q : Process} {path : List ℕ} {f : Found} {n : ℕ} {v : Inode}
    → IsStateOf p mid.sectors tables s → HasFound s who q false Follow path f → IsInodeFound p mid.sectors f n v → own_asked q.cred v.uid f.step ≡ None → (which : AclType) (acl : Option AccessList)
    → checked (first_of (set_acl_arguments which acl)) ≡ Ok tt → checked (holder_asked which v.kind) ≡ Ok tt → IsUnchanged mid last
    → checked (first_of (acl_space_asked which acl (free_sectors p mid.sectors))) ≡ Ok tt → {new : SectorMap} → SavesOf which p n v.mode acl last.sectors new
    → IsChange p new tables s q (set_acl_demands which acl (scene_at s q f)) (set_acl_effect which acl (scene_at s q f)) Done ((n, Changed) ∷ [])
acl_given {p} {mid} {n = n} {v = v} at has i met which acl given holder same enough {new} saves =
    acl_changed at has i met which acl (met_ok (holder_asked which v.kind) tt tt holder).0 new (met_ok (first_of (acl_space_asked which acl (free_sectors p mid.sectors))) tt tt enough).0
    (met_ok (first_of (set_acl_arguments which acl)) tt tt given).0 (kept_back (λ (m : SectorMap). SavesOf which p n v.mode acl m new) same saves)
