-- No demand of a walk refuses with EIO, and what that is of a row.
use Rattle.std.specs.Prelude.{◌≡◌, ◌≢◌, ◌==◌, nat_le, ℕ, ◌+◌, zero, suc, ◌-◌, Bool, true, false, not, ◌&&◌, ◌||◌, cond, List, [], ◌∷◌, ◌++◌, Option, None, Some, Ok, Err}
use Rattle.std.proofs.Common.{refl, ap}
use Rattle.std.specs.List.{flat_map}
use Rattle.posix_acl.specs.declared.entry.Perms.{Perms}
use Rattle.fs_cred.specs.declared.errno.Errno.{Errno}
use Rattle.fs_cred.specs.declared.errno.Errno.TheVariants.{ENOENT, EIO, EBUSY, EEXIST, ENOTDIR, EISDIR, EINVAL, EMFILE, EMLINK, ENOSPC, ENAMETOOLONG, ENOTEMPTY, ELOOP}
use Rattle.fs_cred.specs.declared.node.Node.{Node as AccessNode}
use Rattle.fs_cred.specs.declared.refusal.Need.{Need}
use Rattle.fs_cred.specs.declared.refusal.Need.TheVariants.{Search, Perm, Own, Remove}
use Rattle.fs_cred.specs.declared.refusal.Refusal.TheVariants.{Failed}
use Rattle.fs_cred.specs.declared.rule.Verdict.{Verdict}
use Rattle.fs_cred.specs.Credentials.{Credential}
use Rattle.fs_cred.specs.Decisions.{is_file}
use Rattle.fs_cred.specs.Verdicts.{verdict}
use Rattle.fs_cred.specs.Ownership.{Answer}
use Rattle.fs_model.specs.declared.walk.Form.{Form}
use Rattle.fs_model.specs.declared.walk.Found.{Found}
use Rattle.fs_model.specs.declared.call.Flags.{Flags}
use Rattle.fs_model.specs.Limits.{links_limit}
use Rattle.fs_model.specs.Nodes.{Node, Body, File, Dir, Link, names_of_body}
use Rattle.fs_model.specs.NameCalls.{link_count_demand}
use Rattle.fs_model.specs.Trees.{Tree, Room, node_at, names_of}
use Rattle.fs_model.specs.Processes.{Process}
use Rattle.fs_model.specs.Demands.{Demand, refuse, or_else, first_of, only_if, decided, allowed_by, search_only, write_and_search, perms, failed_with, accessed_at, permission_of, permission_on, search_of, search_on}
use Rattle.fs_model.specs.Parts.{is_empty, parts_of, start_of, path_checks}
use Rattle.fs_model.specs.Trails.{Lookup, Trail, Outcome, Faulty, Absent, Reaches, Through, GoesOn, reached_body, reached, named_inode, arrival, looked_up, through_if, onward, lookups_from, trail_with, follows_last, trail_of}
use Rattle.fs_model.specs.Walks.{lookup_refusal, least_refusal, slash_refusal, first_refusal}
use Rattle.fs_model.specs.Scenes.{Scene, Effect, Row, is_found, found_ino, permission_at_end, permission_at_dir, sticky_at_dir, own_at_end, no_blocks, no_names, space_to_make, must_be_there, must_be_new, by_descriptor, by_path, by_two_paths}
use Rattle.fs_model.specs.OpenCall.{open_row, open_found_demands, open_new_demands}
use Rattle.fs_model.specs.RenameCall.{is_same, rename_name_demands, rename_permissions, rename_kinds, rename_directories, rename_moved, rename_space, rename_demands}
use Rattle.fs_model.specs.Steps.{walk_refusals}
use Rattle.fs_model.proofs.LookedUp.{looked_up_is}

-- ---- one demand, and several

abbrev pub is_eio : Errno → Bool
is_eio EIO = true
is_eio _ = false

abbrev pub asks_eio : Demand → Bool
asks_eio (Some (Failed e)) = is_eio e
asks_eio _ = false

-- a demand doesn't refuse with EIO
abbrev pub Spares : Demand → Type 0
Spares d = asks_eio d ≡ false

pub not_eio : (d : Demand) → Spares d → d ≢ Some (Failed EIO)
not_eio d spares same = let asks : asks_eio d ≡ true = ap asks_eio same in cc

abbrev pub AllSpare : List Demand → Type 0
AllSpare [] = Unit {0}
AllSpare (d ∷ ds) = Spares d × AllSpare ds

pub either : (d e : Demand) → Spares d → Spares e → Spares (or_else d e)
either None e first second = second
either (Some r) e first second = first

pub first_spares : (ds : List Demand) → AllSpare ds → Spares (first_of ds)
first_spares [] all = refl
first_spares (d ∷ ds) all = either d (first_of ds) all.0 (first_spares ds all.1)

pub both : (ds es : List Demand) → AllSpare ds → AllSpare es → AllSpare (ds ++ es)
both [] es first second = second
both (d ∷ ds) es first second = (first.0, both ds es first.1 second)

pub refused : (e : Errno) (b : Bool) → is_eio e ≡ false → Spares (refuse e b)
refused e true other = other
refused e false other = refl

-- of the names of what is to get one more
pub counted : (s : Scene) → Spares (link_count_demand s.state.room.names_limit (names_of s.state.tree (found_ino s.first)))
counted s =
    let names = names_of s.state.tree (found_ino s.first) in
    either (refuse ENOENT (names == 0)) (refuse EMLINK (nat_le s.state.room.names_limit names)) (refused ENOENT _ refl) (refused EMLINK _ refl)

pub only : (b : Bool) (ds : List Demand) → AllSpare ds → AllSpare (only_if b ds)
only true ds all = all
only false ds all = tt

denied : (walk step : ℕ) (need : Need) (v : Verdict) → Spares (decided walk step need v)
denied walk step need v = go v.yes
  where
    go : (yes : Bool) → Spares (decided walk step need (record { yes = yes; rule = v.rule }))
    go true = refl
    go false = refl

pub answered : (walk step : ℕ) (need : Need) (a : Answer) → Spares (allowed_by walk step need a)
answered walk step need (Ok done) = refl
answered walk step need (Err rule) = refl

permitted : (cred : Credential) (t : Tree) (n : ℕ) (want : Perms) (walk step : ℕ) → Spares (permission_on cred t n want walk step)
permitted cred t n want walk step = go (accessed_at t n)
  where
    go : (o : Option AccessNode) → Spares (permission_of cred want walk step o)
    go None = refl
    go (Some node) = denied walk step (Perm want) (verdict cred node want)

pub searched : (cred : Credential) (t : Tree) (n walk step : ℕ) → Spares (search_on cred t n walk step)
searched cred t n walk step = go (accessed_at t n)
  where
    go : (o : Option AccessNode) → Spares (search_of cred walk step o)
    go None = refl
    go (Some node) = known (is_file node.kind)
      where
        known : (file : Bool) → Spares (cond file None (decided walk step Search (verdict cred node search_only)))
        known true = refl
        known false = denied walk step Search (verdict cred node search_only)

-- ---- walks

abbrev OutcomeSpares : Outcome → Type 0
OutcomeSpares (Faulty e) = is_eio e ≡ false
OutcomeSpares Absent = Unit {0}
OutcomeSpares (Reaches n) = Unit {0}
OutcomeSpares (Through target) = Unit {0}

abbrev LookupsSpare : List Lookup → Type 0
LookupsSpare [] = Unit {0}
LookupsSpare (l ∷ lookups) = Spares (failed_with l.fault) × LookupsSpare lookups

body_spares : (goes : Bool) (n : ℕ) (b : Body) → OutcomeSpares (reached_body goes n b)
body_spares true n (File a bytes) = tt
body_spares true n (Dir a d) = tt
body_spares true n (Link target) = tt
body_spares false n (File a bytes) = tt
body_spares false n (Dir a d) = tt
body_spares false n (Link target) = tt

node_spares : (goes : Bool) (n : ℕ) (o : Option Node) → OutcomeSpares (reached goes n o)
node_spares goes n None = tt
node_spares goes n (Some node) = body_spares goes n node.body

module _ (room : Room) (t : Tree) (follow : Bool) where
  arrival_spares : (is_last : Bool) (o : Option ℕ) → OutcomeSpares (arrival t is_last follow o)
  arrival_spares true None = tt
  arrival_spares false None = refl
  arrival_spares is_last (Some n) = node_spares (follow || not is_last) n (node_at t n)

  lookup_spares : (is_last : Bool) (dir_ino : ℕ) (name : List ℕ) (o : Option Node) → OutcomeSpares (looked_up room t is_last follow dir_ino name o)
  lookup_spares is_last dir_ino name o =
      looked_up_is OutcomeSpares room t is_last follow dir_ino name o refl refl (λ node e. arrival_spares is_last (named_inode t dir_ino (names_of_body node.body) name))

  abbrev GoesSpared : Option GoesOn → Type 0
  GoesSpared None = Unit {0}
  GoesSpared (Some go_on) = (dir_ino : ℕ) (names : List (List ℕ)) (slash : Bool) → LookupsSpare (go_on dir_ino names slash).lookups

  through_spares : (behind : Option GoesOn) (dir_ino : ℕ) (name : List ℕ) (names : List (List ℕ)) (slash : Bool) (target : List ℕ)
      → GoesSpared behind → LookupsSpare (through_if behind dir_ino name names slash target).lookups
  through_spares None dir_ino name names slash target on = (refl, tt)
  through_spares (Some go_on) dir_ino name names slash target on =
      (refl, on (start_of (parts_of target) dir_ino) ((parts_of target).names ++ names) (slash || (is_empty names && (parts_of target).slash_at_end)))

  onward_spares : (behind : Option GoesOn) (rest : ℕ → Trail) (dir_ino : ℕ) (name : List ℕ) (names : List (List ℕ)) (slash : Bool) (o : Outcome)
      → GoesSpared behind → ((n : ℕ) → LookupsSpare (rest n).lookups) → OutcomeSpares o
      → LookupsSpare (onward behind rest dir_ino name names slash o).lookups
  onward_spares behind rest dir_ino name names slash (Faulty e) on more spares = (spares, tt)
  onward_spares behind rest dir_ino name names slash Absent on more spares = (refl, tt)
  onward_spares behind rest dir_ino name names slash (Reaches n) on more spares = (refl, more n)
  onward_spares behind rest dir_ino name names slash (Through target) on more spares = through_spares behind dir_ino name names slash target on

  names_spare : (behind : Option GoesOn) (dir_ino : ℕ) (names : List (List ℕ)) (slash : Bool) → GoesSpared behind
      → LookupsSpare (lookups_from room t follow behind dir_ino names slash).lookups
  names_spare behind dir_ino [] slash on = tt
  names_spare behind dir_ino (name ∷ names) slash on =
      onward_spares behind (λ n. lookups_from room t follow behind n names slash) dir_ino name names slash
      (looked_up room t (is_empty names) follow dir_ino name (node_at t dir_ino)) on (λ n. names_spare behind n names slash on)
      (lookup_spares (is_empty names) dir_ino name (node_at t dir_ino))

  links_spare : (links dir_ino : ℕ) (names : List (List ℕ)) (slash : Bool) → LookupsSpare (trail_with room t follow links dir_ino names slash).lookups
  links_spare zero dir_ino names slash = names_spare None dir_ino names slash tt
  links_spare (suc links) dir_ino names slash =
      names_spare (Some (trail_with room t follow links)) dir_ino names slash (λ d ns s. links_spare links d ns s)

trail_spares : (room : Room) (t : Tree) (cwd : ℕ) (form : Form) (path : List ℕ) → LookupsSpare (trail_of room t cwd form path).lookups
unfolding trail_of
trail_spares room t cwd form path =
    let parts = parts_of path in
    links_spare room t (follows_last form parts) links_limit (start_of parts cwd) parts.names parts.slash_at_end

lookups_spare : (cred : Credential) (t : Tree) (walk k : ℕ) (lookups : List Lookup) → LookupsSpare lookups → Spares (least_refusal cred t walk k lookups)
lookups_spare cred t walk k [] all = refl
lookups_spare cred t walk k (l ∷ lookups) all =
    either (lookup_refusal cred t walk k l) (least_refusal cred t walk (k + 1) lookups)
    (either (search_on cred t l.dir_ino walk k) (failed_with l.fault) (searched cred t l.dir_ino walk k) all.0)
    (lookups_spare cred t walk (k + 1) lookups all.1)

pub walk_spares : (room : Room) (t : Tree) (cred : Credential) (walk cwd : ℕ) (form : Form) (path : List ℕ)
    → Spares (first_refusal t cred walk form (trail_of room t cwd form path))
unfolding first_refusal
walk_spares room t cred walk cwd form path =
    let trail = trail_of room t cwd form path in
    either (least_refusal cred t walk 0 trail.lookups) (slash_refusal t form trail)
    (lookups_spare cred t walk 0 trail.lookups (trail_spares room t cwd form path)) (refused ENOTDIR _ refl)

pub walks_spare : (room : Room) (t : Tree) (cred : Credential) (starts : ℕ → ℕ) (k : ℕ) (walks : List (Form × List ℕ))
    → AllSpare (walk_refusals room t cred starts k walks)
walks_spare room t cred starts k [] = tt
walks_spare room t cred starts k (walk ∷ walks) = (walk_spares room t cred k (starts k) walk.0 walk.1, walks_spare room t cred starts (k + 1) walks)

pub paths_spare : (walks : List (Form × List ℕ)) → AllSpare (flat_map (λ walk. path_checks walk.1) walks)
paths_spare [] = tt
paths_spare (walk ∷ walks) =
    both (path_checks walk.1) (flat_map (λ walk. path_checks walk.1) walks)
    (refused ENOENT _ refl, (refused EINVAL _ refl, (refused ENAMETOOLONG _ refl, tt))) (paths_spare walks)

-- ---- rows

pub record RowSpares (row : Row) : Type 0 where
  pub arguments : AllSpare row.arguments
  pub early : (p : Process) → AllSpare (row.early p)
  pub demands : (s : Scene) → AllSpare (row.demands s)

pub by_fd : (bad : Process → Demand) (demands : Scene → List Demand) (effect : Scene → Effect) → ((p : Process) → Spares (bad p))
    → ((s : Scene) → AllSpare (demands s)) → RowSpares (by_descriptor bad demands effect)
by_fd bad demands effect first rest = record { arguments = tt; early = λ p. (first p, tt); demands = rest }

pub of_path : (arguments : List Demand) (form : Form) (path : List ℕ) (demands : Scene → List Demand) (effect : Scene → ℕ → Effect)
    → AllSpare arguments → ((s : Scene) → AllSpare (demands s)) → RowSpares (by_path arguments form path demands effect)
of_path arguments form path demands effect first rest = record { arguments = first; early = λ p. tt; demands = rest }

pub of_paths : (old new : List ℕ) (demands : Scene → List Demand) (effect : Scene → Effect) → ((s : Scene) → AllSpare (demands s))
    → RowSpares (by_two_paths old new demands effect)
of_paths old new demands effect rest = record { arguments = tt; early = λ p. tt; demands = rest }

pub there : (f : Found) → Spares (must_be_there f)
there f = refused ENOENT _ refl

pub fresh : (f : Found) → Spares (must_be_new f)
fresh f = refused EEXIST _ refl

pub at_end : (s : Scene) (walk : ℕ) (want : Perms) → Spares (permission_at_end s s.first walk want)
at_end s walk want = permitted s.process.cred s.state.tree (found_ino s.first) want walk s.first.step

pub at_dir : (s : Scene) (f : Found) (walk : ℕ) → Spares (permission_at_dir s f walk)
at_dir s f walk = permitted s.process.cred s.state.tree f.dir_ino write_and_search walk (f.step - 1)

pub sticky : (s : Scene) (f : Found) (walk : ℕ) → Spares (sticky_at_dir s f walk)
sticky s f walk = answered walk (f.step - 1) Remove _

pub own : (s : Scene) → Spares (own_at_end s)
own s = answered 1 s.first.step Own _

pub space : (s : Scene) → AllSpare (space_to_make s)
space s = (refused ENOSPC _ refl, (refused ENOSPC _ refl, (refused ENOSPC _ refl, tt)))

pub open_spares : (path : List ℕ) (f : Flags) (mode : ℕ) → RowSpares (open_row path f mode)
open_spares path f mode = record {
  arguments = (refused EINVAL _ refl, (refused EINVAL _ refl, tt));
  early = λ p. (refused EISDIR _ refl, (refused EMFILE _ refl, tt));
  demands = λ s. go s (is_found s.first);
}
  where
    go : (s : Scene) (found : Bool) → AllSpare (cond found (open_found_demands f s) (open_new_demands f s))
    go s true = (refused EEXIST _ refl, (refused ELOOP _ refl, (refused ENOTDIR _ refl, (refused EISDIR _ refl, (at_end s 1 (perms f.read f.write false), tt)))))
    go s false = (refused ENOENT _ refl, (at_dir s s.first 1, space s))

pub rename_spares : (s : Scene) → AllSpare (rename_demands s)
rename_spares s =
    both (rename_name_demands s) (only_if (not (is_same s)) asked)
    (refused EINVAL _ refl, (refused EBUSY _ refl, (there s.first, (refused ENOTDIR _ refl, tt))))
    (only (not (is_same s)) asked
    (both (rename_permissions s ++ rename_kinds s ++ rename_directories s ++ rename_moved s) (rename_space s)
    (both (rename_permissions s ++ rename_kinds s ++ rename_directories s) (rename_moved s)
    (both (rename_permissions s ++ rename_kinds s) (rename_directories s)
    (both (rename_permissions s) (rename_kinds s)
    (at_dir s s.first 1, (at_dir s s.second 2, (sticky s s.first 1, only _ (sticky_at_dir s s.second 2 ∷ []) (sticky s s.second 2, tt))))
    (refused EISDIR _ refl, (refused ENOTDIR _ refl, tt)))
    (refused EINVAL _ refl, (refused EBUSY _ refl, (refused ENOTEMPTY _ refl, tt))))
    (only _ (permission_at_end s s.first 1 (perms false true false) ∷ []) (at_end s 1 (perms false true false), tt)))
    (only _ (no_blocks s ∷ no_names s s.second ∷ []) (refused ENOSPC _ refl, (refused ENOSPC _ refl, tt)))))
  where
    asked : List Demand
    asked = rename_permissions s ++ rename_kinds s ++ rename_directories s ++ rename_moved s ++ rename_space s
