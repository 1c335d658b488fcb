-- Another size of a file that was found.
use Rattle.call_parts.specs.BothTables.{Tables}
use Rattle.std.specs.Prelude.{false}
use Rattle.call_parts.specs.Callers.{Who}
use Rattle.std.specs.Prelude.{◌≡◌, ◌≤◌, ℕ, nat_lt, Bool, true, false, List, [], ◌∷◌, None, Some, Ok, Err}
use Rattle.std.proofs.Common.{refl, sym, ap, subst, arith, inl, inr, ◌∙◌}
use Rattle.std.proofs.lemmas.Bool.{cases_lt, lt-ltb}
use Rattle.sector_disk.specs.Disk.{DiskState}
use Rattle.fs_cred.specs.declared.errno.Errno.TheVariants.{EISDIR, EFBIG}
use Rattle.fs_cred.specs.Credentials.{Credential}
use Rattle.fs_cred.specs.Verdicts.{verdict}
use Rattle.fs_cred.specs.declared.node.Node.{Node as AccessNode}
use Rattle.fs_cred.specs.declared.node.NodeKind.{NodeKind}
use Rattle.fs_cred.specs.declared.node.NodeKind.TheVariants as nodes
use Rattle.fs_cred.specs.declared.refusal.Need.TheVariants.{Perm}
use Rattle.fs_cred.specs.declared.refusal.Refusal.{Refusal}
use Rattle.fs_cred.specs.declared.rule.Rule.{Rule}
use Rattle.fs_layout.specs.declared.inode.Inode.{Inode}
use Rattle.fs_layout.specs.declared.inode.Kind.{Kind}
use Rattle.fs_layout.specs.declared.inode.Kind.TheVariants as kinds
use Rattle.fs_layout.specs.declared.geometry.Geometry.{Geometry}
use Rattle.fs_layout.specs.Bytes.{SectorMap, resized}
use Rattle.fs_layout.specs.Images.{inode_at}
use Rattle.fs_layout.specs.Version.{max_file_size}
use Rattle.sector_txn.specs.Sectors.{TxnState, IsUnchanged}
use Rattle.bit_alloc.proofs.Transactions.{unchanged_nothing}
use Rattle.fs_model.specs.declared.reply.Reply.TheVariants.{Done}
use Rattle.fs_model.specs.declared.touch.Touch.TheVariants.{Modified}
use Rattle.fs_model.specs.declared.walk.Form.TheVariants.{Follow}
use Rattle.fs_model.specs.declared.walk.Found.{Found}
use Rattle.fs_model.specs.AttributeCalls.{truncate_demands, truncate_effect}
use Rattle.fs_model.specs.Demands.{Demand, refuse, first_of, decided, perms}
use Rattle.fs_model.specs.DescriptorCalls.{resized_node}
use Rattle.fs_model.specs.Nodes.{is_directory, bytes_in}
use Rattle.fs_model.specs.Processes.{Process}
use Rattle.fs_model.specs.Rules.{is_directory_kind}
use Rattle.fs_model.specs.Scenes.{found_ino, must_be_there, body_found, permission_at_end}
use Rattle.fs_model.specs.States.{State}
use Rattle.fs_model.specs.Trees.{Room, names_of, parent}
use Rattle.fs_model.proofs.StepsBodies.{bytes_may_replace, length-resized, IsBytes-resized, bytes_are_bytes}
use Rattle.path_walk.specs.Answers.{refused_or, IsAnswered}
use Rattle.path_walk.specs.HeldTrees.{stored_kind, HasAccess}
use Rattle.path_walk.proofs.Kept.{kept}
use Rattle.call_parts.specs.Paths.{scene_at, HasFound}
use Rattle.call_parts.specs.Performing.{IsStateOf}
use Rattle.call_parts.specs.Reaching.{IsInodeFound}
use Rattle.call_parts.specs.Telling.{checked}
use Rattle.call_parts.proofs.Calling.{state_tree, state_kept, met_ok, next_asked, first_asked, both_met, or_else-none}
use Rattle.call_parts.proofs.HeldChanges.{bytes_held}
use Rattle.path_walk.proofs.HeldNodes.{held_node, bytes_say}
use Rattle.call_parts.specs.ByteChanges.{ChangesBytes}
use Rattle.call_parts.proofs.Changed.{IsChange, rewrites_found}
use Rattle.call_parts.proofs.Followed.{directory_is, followed_access, node_is, access_held, permission_granted}

-- on what access is decided is a file, where it is no directory
pub file_kind : (k : NodeKind) (v : Kind) → v ≡ stored_kind k → refuse EISDIR (is_directory_kind v) ≡ None → v ≡ kinds.File
file_kind nodes.File v is none = is
file_kind nodes.Directory v is none = absurd (let c : refuse EISDIR true ≡ None = ap (λ (k : Kind). refuse EISDIR (is_directory_kind k)) (sym is) ∙ none in cc)

pub few_enough : (limit size : ℕ) → refuse EFBIG (nat_lt limit size) ≡ None → size ≤ limit
few_enough limit size none = elim (cases_lt limit size) [
  | inl lt ↦ absurd (let c : refuse EFBIG true ≡ None = ap (refuse EFBIG) (sym (lt-ltb limit size lt)) ∙ none in cc)
  | inr le ↦ le
]

-- what truncate() asks of what is there
abbrev pub truncate_rest : ℕ → State → Process → Found → List Demand
truncate_rest size s q f =
    refuse EISDIR (is_directory (body_found (scene_at s q f) f))
    ∷ permission_at_end (scene_at s q f) f 1 (perms false true false)
    ∷ refuse EFBIG (nat_lt s.room.file_limit size)
    ∷ []

module _ {p : Geometry} {map : SectorMap} {tables : Tables} {s : State} {who : Who} {q : Process} {path : List ℕ} {f : Found} {n : ℕ} {v : Inode}
    (at : IsStateOf p map tables s) (has : HasFound s who q false Follow path f) (some : f.ino ≡ Some n) (number_is : found_ino f ≡ n) (inode : v ≡ inode_at p map n)
    (size : ℕ) where
  abbrev last_asked : List Demand
  last_asked = refuse EFBIG (nat_lt (max_file_size p.version) size) ∷ []

  abbrev third_asked : List Demand
  third_asked = permission_at_end (scene_at s q f) f 1 (perms false true false) ∷ last_asked

  abbrev second_asked : List Demand
  second_asked = refuse EISDIR (is_directory_kind v.kind) ∷ third_asked

  abbrev asked : List Demand
  asked = must_be_there f ∷ second_asked

  demands_are : truncate_demands size (scene_at s q f) ≡ asked
  demands_are =
      ap (λ (b : Bool). must_be_there f ∷ refuse EISDIR b ∷ permission_at_end (scene_at s q f) f 1 (perms false true false)
      ∷ refuse EFBIG (nat_lt s.room.file_limit size) ∷ []) (directory_is at has some number_is inode)
      ∙ ap (λ (r : Room). must_be_there f ∷ refuse EISDIR (is_directory_kind v.kind) ∷ permission_at_end (scene_at s q f) f 1 (perms false true false)
      ∷ refuse EFBIG (nat_lt r.file_limit size) ∷ []) at.same_room

  asked_again : {A : Type 0} (x : A) (e : Refusal) (old new : DiskState) → IsAnswered old new (refused_or {A = A} (first_of asked) (Ok x)) (Err e)
      → IsAnswered old new (refused_or {A = A} (first_of (truncate_demands size (scene_at s q f))) (Ok x)) (Err e)
  asked_again {A} x e old new h = subst (λ (ds : List Demand). IsAnswered old new (refused_or {A = A} (first_of ds) (Ok x)) (Err e)) (sym demands_are) h

  module _ (there : must_be_there f ≡ None) where
    -- what was found is a directory
    pub directory_refused : {A B : Type 0} (y : B) (x : A) (e : Refusal) (old new : DiskState)
        → refused_or {A = B} (refuse EISDIR (is_directory_kind v.kind)) (Ok y) ≡ Err e
        → IsAnswered old new (refused_or {A = A} (first_of (truncate_demands size (scene_at s q f))) (Ok x)) (Err e)
    directory_refused {A} {B} y x e old new is =
        asked_again x e old new (next_asked (must_be_there f) second_asked x e old new there
        (first_asked {B = B} (refuse EISDIR (is_directory_kind v.kind)) third_asked y x e old new (inl is)))

    module _ (file : refuse EISDIR (is_directory_kind v.kind) ≡ None) where
      -- the file may not be written
      pub write_refused : {A B : Type 0} (y : B) (x : A) (e : Refusal) (old new : DiskState)
          → IsAnswered old new (refused_or {A = B} (permission_at_end (scene_at s q f) f 1 (perms false true false)) (Ok y)) (Err e)
          → IsAnswered old new (refused_or {A = A} (first_of (truncate_demands size (scene_at s q f))) (Ok x)) (Err e)
      write_refused {A} {B} y x e old new h =
          asked_again x e old new (next_asked (must_be_there f) second_asked x e old new there
          (next_asked (refuse EISDIR (is_directory_kind v.kind)) third_asked x e old new file
          (first_asked {B = B} (permission_at_end (scene_at s q f) f 1 (perms false true false)) last_asked y x e old new h)))

      module _ (granted : permission_at_end (scene_at s q f) f 1 (perms false true false) ≡ None) where
        -- the file would be too big
        pub size_refused : {A B : Type 0} (y : B) (x : A) (e : Refusal) (old new : DiskState)
            → refused_or {A = B} (refuse EFBIG (nat_lt (max_file_size p.version) size)) (Ok y) ≡ Err e
            → IsAnswered old new (refused_or {A = A} (first_of (truncate_demands size (scene_at s q f))) (Ok x)) (Err e)
        size_refused {A} {B} y x e old new is =
            asked_again x e old new (next_asked (must_be_there f) second_asked x e old new there
            (next_asked (refuse EISDIR (is_directory_kind v.kind)) third_asked x e old new file
            (next_asked (permission_at_end (scene_at s q f) f 1 (perms false true false)) last_asked x e old new granted
            (first_asked {B = B} (refuse EFBIG (nat_lt (max_file_size p.version) size)) [] y x e old new (inl is)))))

        all_granted : refuse EFBIG (nat_lt (max_file_size p.version) size) ≡ None → first_of (truncate_demands size (scene_at s q f)) ≡ None
        all_granted fits =
            ap first_of demands_are ∙ both_met (must_be_there f) second_asked there (both_met (refuse EISDIR (is_directory_kind v.kind)) third_asked file
            (both_met (permission_at_end (scene_at s q f) f 1 (perms false true false)) last_asked granted
            (or_else-none (refuse EFBIG (nat_lt (max_file_size p.version) size)) ∙ fits)))

module _ {p : Geometry} {old : SectorMap} {tables : Tables} {s : State} {who : Who} {q : Process} {path : List ℕ} {f : Found} {n : ℕ} {v : Inode}
    (at : IsStateOf p old tables s) (has : HasFound s who q false Follow path f) (some : f.ino ≡ Some n) (number_is : found_ino f ≡ n) (inode : v ≡ inode_at p old n)
    (size : ℕ) where
  -- the file has that size
  size_changed : (new : SectorMap) → must_be_there f ≡ None → refuse EISDIR (is_directory_kind v.kind) ≡ None
      → permission_at_end (scene_at s q f) f 1 (perms false true false) ≡ None → refuse EFBIG (nat_lt (max_file_size p.version) size) ≡ None
      → size ≤ max_file_size p.version → v.kind ≡ kinds.File → ChangesBytes p n (λ held. resized held size) old new
      → IsChange p new tables s q (truncate_demands size (scene_at s q f)) (truncate_effect size (scene_at s q f)) Done ((n, Modified) ∷ [])
  size_changed new there file granted fits few kind c =
      let a = followed_access n at has some in
      let is_file = sym (ap (λ (w : Inode). w.kind) inode) ∙ kind in
      let held = held_node (state_tree at) n a.node a.at in
      let is = (at.is_state.tree).each n a.node a.at in
      let limit = ap (λ (r : Room). r.file_limit) at.same_room in
      rewrites_found at new Modified n a.node (resized_node size a.node) a.at
      (bytes_may_replace s.room s.tree n a.node is (resized (bytes_in a.node.body) size)
      (let len = length-resized (bytes_in a.node.body) size in omega (arith, len, few, limit))
      (IsBytes-resized (bytes_in a.node.body) size (bytes_are_bytes s.room s.tree a.node.body is.body)))
      (record { super = c.super; inode = c.inode; used = c.used })
      (bytes_held old new (inode_at p old n) (inode_at p new n)
      (record { node = a.node; names = names_of s.tree n; parent = parent s.tree n }) held (resized (bytes_in a.node.body) size) is_file c.fields c.acls
      (c.held (bytes_in a.node.body) (bytes_say p.version old (inode_at p old n) a.node.body is_file held.body)))
      q f (truncate_demands size (scene_at s q f)) (resized_node size) (all_granted at has some number_is inode size there file granted fits) number_is
      (node_is s q f n number_is a) refl

-- so it has after what was asked
pub resized_found : {p : Geometry} {mid last : TxnState} {tables : Tables} {s : State} {who : Who} {q : Process} {path : List ℕ} {f : Found} {n : ℕ} {v : Inode}
    → IsStateOf p mid.sectors tables s → HasFound s who q false Follow path f → IsInodeFound p mid.sectors f n v → checked (refuse EISDIR (is_directory_kind v.kind)) ≡ Ok tt
    → (cred : Credential) → cred ≡ q.cred → {rule : Rule}
    → ((node : AccessNode) → HasAccess mid.sectors v node
    → refused_or {A = Rule} (decided 1 f.step (Perm (perms false true false)) (verdict cred node (perms false true false))) (Ok (verdict cred node (perms false true false)).rule) ≡ Ok rule)
    → IsUnchanged mid last → (size : ℕ) → checked (refuse EFBIG (nat_lt (max_file_size p.version) size)) ≡ Ok tt → {new : SectorMap} → ChangesBytes p n (λ held. resized held size) last.sectors new
    → IsChange p new tables s q (truncate_demands size (scene_at s q f)) (truncate_effect size (scene_at s q f)) Done ((n, Modified) ∷ [])
resized_found {p} {mid} {n = n} {v = v} at has i no_directory cred who {rule} granted same size fits {new} change =
    let held = access_held {mid = mid} {new = mid} at has i unchanged_nothing in
    let file = (met_ok (refuse EISDIR (is_directory_kind v.kind)) tt tt no_directory).0 in
    let few = (met_ok (refuse EFBIG (nat_lt (max_file_size p.version) size)) tt tt fits).0 in
    let may = permission_granted {mid = mid} {new = mid} at has i unchanged_nothing cred who (perms false true false) rule (granted _ held) in
    size_changed (state_kept same at) has i.some i.number (kept (λ m. v ≡ inode_at p m n) same i.inode) size new i.met file may.0 few
    (few_enough (max_file_size p.version) size few) (file_kind _ v.kind held.kind file) change
