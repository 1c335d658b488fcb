-- What chdir asks of what it has found, as its inode says it, and what it leaves of the process.
--     chdir_by_path        its row
--     absent_refuses, other_kind_refuses, search_held, search_refuses, searchable, entered        what is asked
use Rattle.std.specs.Prelude.{ℕ, false}
use Rattle.call_parts.specs.Callers.{ByProcess}
use Rattle.std.specs.Prelude.{◌≡◌, ℕ, Bool, true, false, not, if◌then◌else◌, List, [], ◌∷◌, None, Some, Ok, Err}
use Rattle.std.proofs.Common.{refl, sym, ap, subst, ◌∙◌}
use Rattle.sector_disk.specs.Disk.{DiskState}
use Rattle.fs_cred.specs.declared.errno.Errno.TheVariants.{ENOTDIR}
use Rattle.fs_cred.specs.declared.node.Node.{Node as AccessNode}
use Rattle.fs_cred.specs.declared.node.NodeKind.TheVariants as NodeKind
use Rattle.fs_cred.specs.declared.refusal.Need.TheVariants.{Search}
use Rattle.fs_cred.specs.declared.refusal.Refusal.{Refusal}
use Rattle.fs_cred.specs.Credentials.{Credential}
use Rattle.fs_cred.specs.Decisions.{is_file}
use Rattle.fs_cred.specs.Verdicts.{verdict}
use Rattle.fs_layout.specs.declared.inode.Inode.{Inode}
use Rattle.fs_layout.specs.declared.geometry.Geometry.{Geometry}
use Rattle.fs_layout.specs.Bytes.{SectorMap}
use Rattle.fs_model.specs.declared.call.Call.TheVariants.{Chdir}
use Rattle.fs_model.specs.declared.walk.Form.TheVariants.{Follow}
use Rattle.fs_model.specs.declared.walk.Found.{Found}
use Rattle.fs_model.specs.AttributeCalls.{chdir_row, chdir_demands, chdir_effect}
use Rattle.fs_model.specs.Births.{the_node}
use Rattle.fs_model.specs.Demands.{Demand, refuse, first_of, decided, search_of, search_on, search_only}
use Rattle.fs_model.specs.Nodes.{Node, Body, File, Dir, Link, is_directory, accessed_body}
use Rattle.fs_model.specs.Rows.{row_of}
use Rattle.fs_model.specs.Rules.{is_directory_kind}
use Rattle.fs_model.specs.Scenes.{found_ino, must_be_there}
use Rattle.fs_model.specs.Trees.{Tree, IsDirectoryAt}
use Rattle.fs_model.proofs.StepsDemands.{unrefused}
use Rattle.path_walk.specs.Answers.{refused_or, IsAnswered}
use Rattle.path_walk.specs.HeldTrees.{HoldsTree, IsThere, HasAccess}
use Rattle.call_parts.proofs.Calling.{or_else-none, both_met, met_ok}
use Rattle.call_parts.proofs.Refuses.{Refuses, refuses_first, refuses_next}
use Rattle.path_walk.proofs.HeldNodes.{held_kind}
use Rattle.path_walk.proofs.Kept.{kept}
use Rattle.sector_txn.specs.Sectors.{TxnState, IsUnchanged}
use Rattle.call_parts.proofs.Followed.{IsAccessed, accessed_is}
use Rattle.call_parts.proofs.MakeAsked.{dir_access, dir_held}
use Rattle.call_parts.proofs.Ownership.{IsNode, node_of}
use Rattle.call_parts.specs.Reaching.{WalksPath, IsInodeFound}
use Rattle.call_parts.specs.Telling.{checked}
use Rattle.name_calls.specs.Entering.{enter_asked}

-- ---- its row

chdir_is : (path : List ℕ) → row_of (Chdir path) ≡ chdir_row path
unfolding row_of
chdir_is path = refl

pub chdir_by_path : {pid : ℕ} → (path : List ℕ) → WalksPath (ByProcess pid) (Chdir path) (Ok tt) false Follow path chdir_demands chdir_effect
chdir_by_path path = record { arguments = []; row = chdir_is path; are_checked = refl; asks = refl; opens = refl; may = tt }

-- ---- what is asked

not_not : (b : Bool) → not b ≡ false → b ≡ true
not_not true e = refl
not_not false e = absurd (cc)

-- access is decided on a directory as on none else
no_file : (owner group : ℕ) (b : Body) (x : AccessNode) → is_directory b ≡ true → accessed_body owner group b ≡ Some x → is_file x.kind ≡ false
no_file owner group (File a bytes) x is e = absurd (cc)
no_file owner group (Dir a d) x is e =
    let same : record { kind = NodeKind.Directory; owner = owner; group = group; acl = a } ≡ x = cc in
    ap (λ (y : AccessNode). is_file y.kind) (sym same)
no_file owner group (Link target) x is e = absurd (cc)

-- nothing is there
pub absent_refuses : (cred : Credential) (t : Tree) (f : Found) → Refuses (must_be_there f) (first_of (enter_asked cred t f))
absent_refuses cred t f =
    refuses_first (must_be_there f) (refuse ENOTDIR (not (is_directory (the_node t (found_ino f)).body)) ∷ search_on cred t (found_ino f) 1 f.step ∷ [])

directory_access : (t : Tree) (n : ℕ) (a : IsAccessed t n) → IsDirectoryAt t n → is_file a.access.kind ≡ false
directory_access t n a d =
    let same : d.node ≡ a.node = (let e : Some d.node ≡ Some a.node = sym d.is_there ∙ a.at in cc) in
    no_file a.node.owner a.node.group a.node.body a.access (ap (λ (u : Node). is_directory u.body) (sym same) ∙ d.directory) a.is

module _ {p : Geometry} {map : SectorMap} {t : Tree} (h : HoldsTree p map t) (f : Found) (n : ℕ) (v : Inode) (i : IsInodeFound p map f n v) (there : IsThere t n) (cred : Credential) where
  node : IsNode p.version map t f n v
  node = node_of h f n v i.number i.inode there

  abbrev other_kind : Demand
  other_kind = refuse ENOTDIR (not (is_directory (the_node t (found_ino f)).body))

  abbrev searched : Demand
  searched = search_on cred t (found_ino f) 1 f.step

  kind_is : refuse ENOTDIR (not (is_directory_kind v.kind)) ≡ other_kind
  kind_is = ap (λ (b : Bool). refuse ENOTDIR (not b))
      (ap (λ (w : Inode). is_directory_kind w.kind) i.inode ∙ held_kind h n node.node node.at ∙ sym (ap (λ (u : Node). is_directory u.body) node.is))

  -- what is entered is no directory
  pub other_kind_refuses : Refuses (refuse ENOTDIR (not (is_directory_kind v.kind))) (first_of (enter_asked cred t f))
  other_kind_refuses =
      refuses_next (must_be_there f) (other_kind ∷ searched ∷ []) i.met (λ (e : Refusal) is. refuses_first other_kind (searched ∷ []) e (sym kind_is ∙ is))

  module _ (is : refused_or {A = Unit {0}} (refuse ENOTDIR (not (is_directory_kind v.kind))) (Ok tt) ≡ Ok tt) where
    kind_met : other_kind ≡ None
    kind_met = sym kind_is ∙ (met_ok {A = Unit {0}} (refuse ENOTDIR (not (is_directory_kind v.kind))) tt tt is).0

    pub directory : IsDirectoryAt t n
    directory = record {
      node = node.node;
      is_there = node.at;
      directory = not_not (is_directory node.node.body)
          (ap (λ (u : Node). not (is_directory u.body)) (sym node.is) ∙ unrefused ENOTDIR (not (is_directory (the_node t (found_ino f)).body)) kind_met);
    }

    abbrev pub access : AccessNode
    access = (dir_access h n directory cred f.step).access

    pub search_held : HasAccess map v access
    search_held = subst (λ (w : Inode). HasAccess map w access) (sym i.inode) (dir_held h n directory cred f.step)

    search_is : searched ≡ decided 1 f.step Search (verdict cred access search_only)
    search_is =
        let a = dir_access h n directory cred f.step in
        ap (λ (k : ℕ). search_on cred t k 1 f.step) i.number
        ∙ ap (search_of cred 1 f.step) (accessed_is t n a)
        ∙ ap (λ (b : Bool). if b then None else decided 1 f.step Search (verdict cred a.access search_only))
        (directory_access t n a directory)

    -- the directory may not be searched
    pub search_refuses : Refuses (decided 1 f.step Search (verdict cred access search_only)) (first_of (enter_asked cred t f))
    search_refuses =
        refuses_next (must_be_there f) (other_kind ∷ searched ∷ []) i.met
        (refuses_next other_kind (searched ∷ []) kind_met (λ (e : Refusal) is. refuses_first searched [] e (search_is ∙ is)))

    -- the directory may be searched
    pub entered : refused_or {A = Unit {0}} (decided 1 f.step Search (verdict cred access search_only)) (Ok tt) ≡ Ok tt → first_of (enter_asked cred t f) ≡ None
    entered asked =
        both_met (must_be_there f) (other_kind ∷ searched ∷ []) i.met
        (both_met other_kind (searched ∷ []) kind_met
        (or_else-none searched ∙ search_is ∙ (met_ok {A = Unit {0}} (decided 1 f.step Search (verdict cred access search_only)) tt tt asked).0))

-- access to it, after reads
pub searchable : {p : Geometry} {t : Tree} {old mid : TxnState} {f : Found} {n : ℕ} {v : Inode} → IsUnchanged old mid → (h : HoldsTree p old.sectors t)
    (i : IsInodeFound p old.sectors f n v) (there : IsThere t n) (cred : Credential) (is : checked (refuse ENOTDIR (not (is_directory_kind v.kind))) ≡ Ok tt)
    → HasAccess mid.sectors v (access h f n v i there cred is)
searchable {p} {t} {old} {mid} {f} {n} {v} same h i there cred is =
    kept (λ (m : SectorMap). HasAccess m v (access h f n v i there cred is)) same (search_held h f n v i there cred is)

-- as the process' credential
module _ (t : Tree) (f : Found) {cred who : Credential} where
  pub entering_as : (e : Refusal) (old new : DiskState) → cred ≡ who
      → IsAnswered old new (refused_or {A = ℕ} (first_of (enter_asked cred t f)) (Ok (found_ino f))) (Err e)
      → IsAnswered old new (refused_or {A = ℕ} (first_of (enter_asked who t f)) (Ok (found_ino f))) (Err e)
  entering_as e old new same is =
      subst (λ (k : Credential). IsAnswered old new (refused_or {A = ℕ} (first_of (enter_asked k t f)) (Ok (found_ino f))) (Err e)) same is

  pub entered_as : (n : ℕ) → cred ≡ who → refused_or {A = ℕ} (first_of (enter_asked cred t f)) (Ok (found_ino f)) ≡ Ok n
      → (first_of (enter_asked who t f) ≡ None) × (found_ino f ≡ n)
  entered_as n same is =
      met_ok {A = ℕ} (first_of (enter_asked who t f)) (found_ino f) n
      (subst (λ (k : Credential). refused_or {A = ℕ} (first_of (enter_asked k t f)) (Ok (found_ino f)) ≡ Ok n) same is)
