-- What is found where a link at the end of a path is followed: a file or a directory, on which access is decided.
use Rattle.call_parts.specs.BothTables.{Tables}
use Rattle.std.specs.Prelude.{◌≡◌, ℕ, false, List, None, Some, unwrap_or, option_and_then, Ok, Err, IsFalse}
use Rattle.std.proofs.Common.{refl, sym, ap, subst, ◌∙◌}
use Rattle.posix_acl.specs.declared.entry.Perms.{Perms}
use Rattle.fs_cred.specs.declared.node.Node.{Node as AccessNode}
use Rattle.fs_cred.specs.declared.refusal.Need.TheVariants.{Perm}
use Rattle.fs_cred.specs.Credentials.{Credential}
use Rattle.fs_cred.specs.Verdicts.{verdict}
use Rattle.sector_disk.specs.Disk.{DiskState}
use Rattle.fs_cred.specs.declared.refusal.Refusal.{Refusal}
use Rattle.fs_cred.specs.declared.rule.Rule.{Rule}
use Rattle.sector_txn.specs.Sectors.{TxnState, IsUnchanged}
use Rattle.fs_layout.specs.declared.inode.Inode.{Inode}
use Rattle.fs_layout.specs.Images.{inode_at}
use Rattle.fs_layout.specs.declared.geometry.Geometry.{Geometry}
use Rattle.fs_layout.specs.Bytes.{SectorMap}
use Rattle.fs_model.specs.declared.walk.Form.TheVariants.{Follow}
use Rattle.fs_model.specs.declared.walk.Found.{Found}
use Rattle.fs_model.specs.declared.reply.Reply.TheVariants.{Granted}
use Rattle.fs_model.specs.AttributeCalls.{access_effect, granted_by}
use Rattle.fs_model.specs.Births.{no_node}
use Rattle.fs_model.specs.Demands.{Demand, first_of, accessed_at, decided, permission_of, permission_on}
use Rattle.fs_model.specs.Nodes.{Node, Body, File, Dir, Link, accessed, accessed_body, is_directory, is_link}
use Rattle.fs_model.specs.Processes.{Process}
use Rattle.fs_model.specs.Scenes.{found_ino, node_found, body_found, permission_at_end, answers}
use Rattle.fs_model.specs.Rules.{is_directory_kind}
use Rattle.fs_model.specs.States.{State, IsState}
use Rattle.fs_model.specs.StoredNodes.{HoldsNode}
use Rattle.fs_model.specs.Trees.{Tree, node_at, names_of, parent}
use Rattle.fs_model.specs.Trails.{trail_of}
use Rattle.fs_model.proofs.Followed.{NoLink, followed_no_link}
use Rattle.fs_model.proofs.FollowedActors.{from_object}
use Rattle.call_parts.specs.Callers.{Who, ByProcess, ByActor, IsJudgedAs, first_start, starts_asked}
use Rattle.call_parts.proofs.Starts.{start_no_link}
use Rattle.path_walk.specs.Answers.{refused_or, IsAnswered}
use Rattle.path_walk.specs.HeldTrees.{HasAccess}
use Rattle.call_parts.specs.Paths.{scene_at, HasFound}
use Rattle.call_parts.specs.Performing.{IsStateOf}
use Rattle.call_parts.proofs.Calling.{state_tree, ino_of_trail, found_there, met_ok, answered_later}
use Rattle.path_walk.proofs.HeldNodes.{stands, held_access, held_kind, held_node}
use Rattle.path_walk.proofs.Kept.{kept}
use Rattle.call_parts.specs.Given.{HasBody}
use Rattle.call_parts.specs.Reaching.{IsInodeFound}

-- what stands at a number, as access to it is decided
pub record IsAccessed (t : Tree) (n : ℕ) : Type 0 where
  pub node : Node
  pub at : node_at t n ≡ Some node
  pub access : AccessNode
  pub is : accessed node ≡ Some access

pub accessed_is : (t : Tree) (n : ℕ) (a : IsAccessed t n) → accessed_at t n ≡ Some a.access
accessed_is t n a = ap (λ o. option_and_then accessed o) a.at ∙ a.is

-- what access is decided on is no link
pub plain : (owner group : ℕ) (b : Body) (x : AccessNode) → accessed_body owner group b ≡ Some x → IsFalse (is_link b)
plain owner group (File a bytes) x e = refl
plain owner group (Dir a d) x e = refl
plain owner group (Link target) x e = absurd (cc)

pub accessible : (owner group : ℕ) (b : Body) → is_link b ≡ false → (x : AccessNode) × (accessed_body owner group b ≡ Some x)
accessible owner group (File a bytes) e = (_, refl)
accessible owner group (Dir a d) e = (_, refl)
accessible owner group (Link target) e = absurd (cc)

-- from a directory, or from an object that is none where nothing more is named
start_leads : (s : State) (who : Who) (q : Process) (path : List ℕ) (n : ℕ) → IsState s → IsFalse s.halted → IsJudgedAs s.processes who q
    → first_of (starts_asked s.tree who false path) ≡ None → (trail_of s.room s.tree (first_start who q) Follow path).found ≡ Some n → NoLink s.tree n
start_leads s (ByProcess pid) q path n is up there met found =
    followed_no_link s.room s.tree is.tree q.cwd path ((is.processes up).each_process pid q there).cwd n found
start_leads s (ByActor v) q path n is up there met found = from_object s.room s.tree is.tree v.start path n found (start_no_link s.tree v path met)

pub followed_access : {p : Geometry} {map : SectorMap} {tables : Tables} {s : State} {who : Who} {q : Process} {path : List ℕ} {f : Found} (n : ℕ)
    → IsStateOf p map tables s → HasFound s who q false Follow path f → f.ino ≡ Some n → IsAccessed s.tree n
followed_access {p} {map} {tables} {s} {who} {q} {path} {f} n at found is =
    let there = stands s.tree n (found_there n at found is) in
    let none = start_leads s who q path n at.is_state at.up found.there found.started
    (sym (ino_of_trail s.room s.tree (first_start who q) Follow path) ∙ ap (λ (g : Found). g.ino) (sym found.is) ∙ is) there.node there.at in
    let a = accessible there.node.owner there.node.group there.node.body none in
    record { node = there.node; at = there.at; access = a.0; is = a.1 }

-- the decision on it is what is asked
pub asked_of : (s : State) (q : Process) (f : Found) (want : Perms) (n : ℕ) → found_ino f ≡ n → (a : IsAccessed s.tree n)
    → permission_at_end (scene_at s q f) f 1 want ≡ decided 1 f.step (Perm want) (verdict q.cred a.access want)
asked_of s q f want n is a =
    ap (λ (k : ℕ). permission_on q.cred s.tree k want 1 f.step) is
    ∙ ap (permission_of q.cred want 1 f.step) (accessed_is s.tree n a)

pub node_is : (s : State) (q : Process) (f : Found) (n : ℕ) → found_ino f ≡ n → (a : IsAccessed s.tree n) → node_found (scene_at s q f) f ≡ a.node
node_is s q f n is a = ap (λ (k : ℕ). unwrap_or (node_at s.tree k) no_node) is ∙ ap (λ o. unwrap_or o no_node) a.at

-- what was found is a directory where its inode says so
pub directory_is : {p : Geometry} {map : SectorMap} {tables : Tables} {s : State} {who : Who} {q : Process} {path : List ℕ} {f : Found} {n : ℕ} {v : Inode}
    → IsStateOf p map tables s → HasFound s who q false Follow path f → f.ino ≡ Some n → found_ino f ≡ n → v ≡ inode_at p map n
    → is_directory (body_found (scene_at s q f) f) ≡ is_directory_kind v.kind
directory_is {p} {map} {tables} {s} {who} {q} {path} {f} {n} {v} at has some is inode =
    let a = followed_access n at has some in
    ap (λ (u : Node). is_directory u.body) (node_is s q f n is a)
    ∙ sym (ap (λ (w : Inode). is_directory_kind w.kind) inode ∙ held_kind (state_tree at) n a.node a.at)

-- the rule that grants it is answered
pub rule_told : (s : State) (q : Process) (f : Found) (want : Perms) (n : ℕ) → found_ino f ≡ n → (a : IsAccessed s.tree n)
    → access_effect want (scene_at s q f) 0 ≡ answers (scene_at s q f) (Granted (verdict q.cred a.access want).rule)
rule_told s q f want n is a =
    ap (λ (node : Node). answers (scene_at s q f) (granted_by q.cred want (accessed node))) (node_is s q f n is a)
    ∙ ap (λ o. answers (scene_at s q f) (granted_by q.cred want o)) a.is

-- the inode of what was found, as it was read
module _ {p : Geometry} {mid new : TxnState} {tables : Tables} {s : State} {who : Who} {q : Process} {path : List ℕ} {f : Found} {n : ℕ} {v : Inode}
    (at : IsStateOf p mid.sectors tables s) (has : HasFound s who q false Follow path f) (i : IsInodeFound p mid.sectors f n v) (same : IsUnchanged mid new) where
  pub access_held : HasAccess new.sectors v (followed_access n at has i.some).access
  access_held =
      let a = followed_access n at has i.some in
      kept (λ m. HasAccess m v a.access) same
      (subst (λ (w : Inode). HasAccess mid.sectors w a.access) (sym i.inode) (held_access (state_tree at) n a.access (accessed_is s.tree n a)))

  pub inode_kept : v ≡ inode_at p new.sectors n
  inode_kept = kept (λ m. v ≡ inode_at p m n) same i.inode

  -- permission is refused
  pub permission_refused : (cred : Credential) → cred ≡ q.cred → (want : Perms) (e : Refusal) (last : DiskState)
      → IsAnswered new.disk last (refused_or {A = Rule} (decided 1 f.step (Perm want) (verdict cred (followed_access n at has i.some).access want))
      (Ok (verdict cred (followed_access n at has i.some).access want).rule)) (Err e)
      → IsAnswered mid.disk last (refused_or {A = Rule} (permission_at_end (scene_at s q f) f 1 want) (Ok (verdict q.cred (followed_access n at has i.some).access want).rule)) (Err e)
  permission_refused cred who want e last asked =
      let a = followed_access n at has i.some in
      let h = subst (λ (k : Credential). IsAnswered new.disk last (refused_or {A = Rule} (decided 1 f.step (Perm want) (verdict k a.access want))
      (Ok (verdict k a.access want).rule)) (Err e)) who asked in
      subst (λ (d : Demand). IsAnswered mid.disk last (refused_or {A = Rule} d (Ok (verdict q.cred a.access want).rule)) (Err e))
      (sym (asked_of s q f want n i.number a)) (answered_later last same h)

  -- or granted by this rule
  pub permission_granted : (cred : Credential) → cred ≡ q.cred → (want : Perms) (rule : Rule)
      → refused_or {A = Rule} (decided 1 f.step (Perm want) (verdict cred (followed_access n at has i.some).access want))
      (Ok (verdict cred (followed_access n at has i.some).access want).rule) ≡ Ok rule
      → (permission_at_end (scene_at s q f) f 1 want ≡ None) × ((verdict q.cred (followed_access n at has i.some).access want).rule ≡ rule)
  permission_granted cred who want rule asked =
      let a = followed_access n at has i.some in
      let e = subst (λ (k : Credential). refused_or {A = Rule} (decided 1 f.step (Perm want) (verdict k a.access want)) (Ok (verdict k a.access want).rule)
      ≡ Ok rule) who asked in
      let met = met_ok {A = Rule} (decided 1 f.step (Perm want) (verdict q.cred a.access want)) (verdict q.cred a.access want).rule rule e in
      (asked_of s q f want n i.number a ∙ met.0, met.1)

  -- the body of what was found is that of a file or a directory
  pub body_found_held : HasBody p.version new.sectors v (followed_access n at has i.some).node.body
  body_found_held =
      let a = followed_access n at has i.some in
      let held = subst (λ (w : Inode). HoldsNode p.version mid.sectors w (record { node = a.node; names = names_of s.tree n; parent = parent s.tree n })) (sym i.inode)
      (held_node (state_tree at) n a.node a.at) in
      kept (λ m. HasBody p.version m v a.node.body) same (record { no_link = plain a.node.owner a.node.group a.node.body a.access a.is; mode = held.mode; held = held.body })
