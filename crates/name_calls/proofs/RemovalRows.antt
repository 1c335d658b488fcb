-- unlink and rmdir, by their rows.
--     removes_by_path        the rows
--     finds_name, last_is_name, name_there, name_told        a name was found, with what it leads to
--     last_refuses, removal_refuses, target_refuses, all_told        demands in three parts
--     target_told        the last part, as the inode says it
--     inode_told, target_found, target_met, target_may        where all is met
--     target_gone        the name is gone
use Rattle.call_parts.specs.BothTables.{Tables, users_of}
use Rattle.fs_model.specs.declared.call.Call.TheVariants.{Unlink, Rmdir}
use Rattle.call_parts.specs.Callers.{Who, MayMake, first_start, is_told, opens}
use Rattle.call_parts.proofs.Starts.{may_make, path_fits}
use Rattle.std.specs.Prelude.{◌≡◌, ℕ, Bool, true, false, not, ◌&&◌, ◌||◌, List, [], ◌∷◌, ◌++◌, Option, None, is_some, IsTrue, Ok}
use Rattle.std.proofs.Common.{IsFalse, refl, sym, ap, subst, ◌∙◌}
use Rattle.fs_cred.specs.declared.errno.Errno.TheVariants.{EBUSY, EINVAL, EISDIR, ENOTDIR, ENOTEMPTY}
use Rattle.fs_cred.specs.declared.refusal.Refusal.{Refusal}
use Rattle.fs_layout.specs.declared.inode.Inode.{Inode}
use Rattle.fs_layout.specs.declared.geometry.Geometry.{Geometry}
use Rattle.fs_layout.specs.Bytes.{SectorMap, IsBytes}
use Rattle.fs_layout.specs.Images.{inode_at}
use Rattle.sector_txn.specs.Sectors.{TxnState, IsUnchanged}
use Rattle.fs_model.specs.declared.walk.Form.TheVariants.{Parent}
use Rattle.fs_model.specs.declared.walk.Found.{Found}
use Rattle.fs_model.specs.declared.reply.Reply.TheVariants.{Done}
use Rattle.fs_model.specs.Births.{the_node}
use Rattle.fs_model.specs.declared.touch.Touch.{Touch}
use Rattle.fs_model.specs.declared.touch.Touch.TheVariants.{Changed, Modified}
use Rattle.fs_model.specs.TreeChanges.{TakeName, changed, changed_at, swept}
use Rattle.fs_model.specs.Demands.{Demand, refuse, first_of}
use Rattle.fs_model.specs.NameCalls.{takes_name}
use Rattle.fs_model.specs.Nodes.{Node, is_directory, names_of_body}
use Rattle.fs_model.specs.Parts.{is_empty}
use Rattle.fs_model.specs.Processes.{Process, is_in_use, users}
use Rattle.fs_model.specs.Rows.{row_of}
use Rattle.fs_model.specs.Scenes.{is_found, is_special, ends_top, ends_dot, ends_dot_dot, found_ino, must_be_there, by_path}
use Rattle.fs_model.specs.Stands.{HoldsAll, placed}
use Rattle.fs_model.specs.States.{State}
use Rattle.fs_model.specs.Trees.{lookup_in}
use Rattle.fs_model.specs.Steps.{found_by, asks_in_call}
use Rattle.fs_model.specs.StoredNodes.{HoldsBody}
use Rattle.fs_model.proofs.StepsDemands.{first_met, then_met, unrefused, and_false}
use Rattle.fs_model.proofs.StepsFound.{IsNameAt, IsWalked, is_walked}
use Rattle.fs_model.proofs.StepsOfRemoving.{empty_if}
use Rattle.path_walk.specs.Answers.{refused_or}
use Rattle.call_parts.specs.Paths.{scene_at, HasFound}
use Rattle.call_parts.specs.Performing.{IsStateOf}
use Rattle.call_parts.specs.Reaching.{WalksPath, IsInodeFound}
use Rattle.call_parts.specs.Telling.{checked}
use Rattle.call_parts.proofs.Calling.{state_tree, state_kept, found_there, first_of-append, met_ok}
use Rattle.call_parts.proofs.Changed.{IsChange}
use Rattle.call_parts.proofs.Ownership.{IsNode, node_of, all_met}
use Rattle.call_parts.proofs.Refuses.{Refuses, refuses_some, refuses_others, demand_met}
use Rattle.call_parts.proofs.Shown.{is_inode}
use Rattle.name_calls.specs.declared.removal.Target.{Target}
use Rattle.name_calls.specs.declared.removal.Target.TheVariants as targets
use Rattle.call_parts.specs.Altering.{HoldsChange}
use Rattle.name_calls.specs.Removing.{FindsName, IsNamedThere, removal_asked, last_asked, directory_asked, kind_asked, target_asked, removal_demands, removal_call, MayGo, MayGoAt}

-- ---- the rows

row_is : (what : Target) (path : List ℕ) → row_of (removal_call what path) ≡ by_path [] Parent path (removal_demands what) takes_name
unfolding row_of
row_is targets.NoDirectory path = refl
row_is targets.Directory path = refl

asks : (what : Target) (path : List ℕ) → IsTrue (asks_in_call (removal_call what path))
asks targets.NoDirectory path = refl
asks targets.Directory path = refl

never_opens : (what : Target) (path : List ℕ) → IsFalse (opens (removal_call what path))
never_opens targets.NoDirectory path = refl
never_opens targets.Directory path = refl

pub never_told : (what : Target) (path : List ℕ) → IsFalse (is_told (removal_call what path))
never_told targets.NoDirectory path = refl
never_told targets.Directory path = refl

may : (who : Who) (what : Target) (path : List ℕ) → MayMake who (removal_call what path) false
may who targets.NoDirectory path = may_make who (Unlink path) refl refl
may who targets.Directory path = may_make who (Rmdir path) refl refl

pub removes_by_path : {who : Who} → (what : Target) (path : List ℕ) → WalksPath who (removal_call what path) (Ok tt) false Parent path (removal_demands what) takes_name
removes_by_path {who} what path = record { arguments = []; row = row_is what path; are_checked = refl; asks = asks what path; opens = never_opens what path; may = may who what path }

-- ---- demands in three parts

parts_met : (a b c : List Demand) → first_of (a ++ (b ++ c)) ≡ None → (first_of a ≡ None) × (first_of b ≡ None) × (first_of c ≡ None)
parts_met a b c none =
    let one = sym (first_of-append a (b ++ c)) ∙ none in
    let two = sym (first_of-append b c) ∙ then_met (first_of a) (first_of (b ++ c)) one in
    (first_met (first_of a) (first_of (b ++ c)) one, first_met (first_of b) (first_of c) two, then_met (first_of b) (first_of c) two)

-- ---- what was found

pub finds_name : {p : Geometry} {map : SectorMap} {tables : Tables} {s : State} {who : Who} {q : Process} {path : List ℕ} {f : Found} → IsBytes path
    → IsStateOf p map tables s → HasFound s who q false Parent path f → FindsName p map tables q f s
finds_name {p} {map} {tables} {s} {who} {q} {path} {f} bytes at has = record { who = who; path = path; bytes = bytes; is_state = at; found = has }

-- where nothing more is asked of the last component, it is a name
pub last_is_name : (what : Target) (f : Found) → first_of (last_asked what f) ≡ None → is_special f ≡ false
last_is_name targets.NoDirectory f none = unrefused EISDIR (is_special f) (first_met (refuse EISDIR (is_special f)) None none)
last_is_name targets.Directory f none =
    let top = unrefused EBUSY (ends_top f) (first_met (refuse EBUSY (ends_top f)) _ none) in
    let rest = then_met (refuse EBUSY (ends_top f)) _ none in
    let dot = unrefused EINVAL (ends_dot f) (first_met (refuse EINVAL (ends_dot f)) _ rest) in
    let dots = unrefused ENOTEMPTY (ends_dot_dot f) (first_met (refuse ENOTEMPTY (ends_dot_dot f)) None (then_met (refuse EINVAL (ends_dot f)) _ rest)) in
    ap (λ (b : Bool). b || ends_dot f || ends_dot_dot f) top ∙ ap (λ (b : Bool). b || ends_dot_dot f) dot ∙ dots

module _ {p : Geometry} {map : SectorMap} {tables : Tables} {q : Process} {f : Found} {s : State} (i : FindsName p map tables q f s) where
  name_at : is_special f ≡ false → IsNameAt s.room s.tree f.dir_ino f.name f.ino
  name_at special =
      let walked : IsWalked s.room s.tree Parent (found_by s.room s.tree (first_start i.who q) (Parent, i.path)) =
      is_walked s.room i.is_state.is_state.room.name_limit s.tree i.is_state.is_state.tree q.cred (first_start i.who q) 1 (Parent, i.path) i.bytes
      (path_fits i.who i.path i.found.checked).no_zero i.found.unrefused in
      (subst (IsWalked s.room s.tree Parent) (sym i.found.is) walked).old refl special

  pub name_there : is_special f ≡ false → IsNamedThere s.tree f
  name_there special =
      let x = name_at special in
      record {
        directory = record { node = x.node; is_there = x.stands; directory = x.directory };
        found = λ n some. found_there n i.is_state i.found some;
      }

  -- ---- one of them refuses

  module _ (what : Target) where
    abbrev last : List Demand
    last = last_asked what f

    abbrev removal : List Demand
    removal = removal_asked q.cred s.tree f

    abbrev target : List Demand
    target = target_asked what (scene_at s q f)

    pub last_refuses : Refuses (first_of (last_asked what f)) (first_of (removal_demands what (scene_at s q f)))
    last_refuses = refuses_some last (removal ++ target)

    module _ (is : checked (first_of (last_asked what f)) ≡ Ok tt) where
      pub name_told : IsNamedThere s.tree f
      name_told = name_there (last_is_name what f (demand_met (first_of last) is))

      pub removal_refuses : Refuses (first_of (removal_asked q.cred s.tree f)) (first_of (removal_demands what (scene_at s q f)))
      removal_refuses = refuses_others last (removal ++ target) (demand_met (first_of last) is) (refuses_some removal target)

  module _ {n : ℕ} {v : Inode} (k : IsInodeFound p map f n v) where
    pub node : IsNode p.version map s.tree f n v
    node = node_of (state_tree i.is_state) f n v k.number k.inode (found_there n i.is_state i.found k.some)

    -- what it is
    pub node_held : HoldsBody p.version map v node.node.body
    node_held = node.holds.body

    -- what is asked of it
    pub target_told : (what : Target) → kind_asked what node.node.body (is_in_use (users_of tables) n) ≡ target_asked what (scene_at s q f)
    target_told targets.NoDirectory =
        ap (λ (u : Node). refuse EISDIR (is_directory u.body) ∷ []) (sym node.is)
        ∙ ap (λ (o : Option ℕ). refuse EISDIR (is_some o && is_directory (the_node s.tree (found_ino f)).body) ∷ []) (sym k.some)
    target_told targets.Directory =
        ap (λ (u : Node). directory_asked u.body (is_in_use (users_of tables) n)) (sym node.is)
        ∙ ap (λ (m : ℕ). directory_asked (the_node s.tree (found_ino f)).body (is_in_use (users_of tables) m)) (sym k.number)
        ∙ ap (λ (d : Tables). directory_asked (the_node s.tree (found_ino f)).body (is_in_use (users_of d) (found_ino f))) (sym i.is_state.same_tables)
        ∙ ap (λ (o : Option ℕ). refuse ENOTDIR (is_some o && not (is_directory (the_node s.tree (found_ino f)).body)) ∷ refuse EBUSY (is_in_use (users s.processes s.openings) (found_ino f))
        ∷ refuse ENOTEMPTY (not (is_empty (names_of_body (the_node s.tree (found_ino f)).body))) ∷ []) (sym k.some)

    module _ (what : Target) (first : checked (first_of (last_asked what f)) ≡ Ok tt) (met : first_of (removal_asked q.cred s.tree f) ≡ None) where
      pub target_refuses : Refuses (first_of (kind_asked what node.node.body (is_in_use (users_of tables) n))) (first_of (removal_demands what (scene_at s q f)))
      target_refuses =
          refuses_others (last what) (removal what ++ target what) (demand_met (first_of (last what)) first)
          (refuses_others (removal what) (target what) met (λ (e : Refusal) is. ap first_of (sym (target_told what)) ∙ is))

      pub all_told : checked (first_of (kind_asked what node.node.body (is_in_use (users_of tables) n))) ≡ Ok tt → first_of (removal_demands what (scene_at s q f)) ≡ None
      all_told is =
          all_met (last what) (removal what ++ target what) (demand_met (first_of (last what)) first)
          (all_met (removal what) (target what) met
          (ap first_of (sym (target_told what)) ∙ demand_met (first_of (kind_asked what node.node.body (is_in_use (users_of tables) n))) is))

    -- an empty directory that isn't in use, if it is one
    free : (what : Target) → first_of (target_asked what (scene_at s q f)) ≡ None → IsTrue (is_directory node.node.body)
        → (names_of_body node.node.body ≡ []) × (is_in_use (users s.processes s.openings) n ≡ false)
    free targets.NoDirectory none is_dir =
        let other = unrefused EISDIR (is_found f && is_directory (the_node s.tree (found_ino f)).body)
        (first_met (refuse EISDIR (is_found f && is_directory (the_node s.tree (found_ino f)).body)) None none) in
        let no = and_false (is_found f) (is_directory (the_node s.tree (found_ino f)).body) other (ap is_some k.some) in
        let here : is_directory node.node.body ≡ false = ap (λ (u : Node). is_directory u.body) (sym node.is) ∙ no in
        absurd (let both : true ≡ false = sym is_dir ∙ here in cc)
    free targets.Directory none is_dir =
        let rest = then_met (refuse ENOTDIR (is_found f && not (is_directory (the_node s.tree (found_ino f)).body))) _ none in
        let used = unrefused EBUSY (is_in_use (users s.processes s.openings) (found_ino f)) (first_met (refuse EBUSY (is_in_use (users s.processes s.openings) (found_ino f))) _ rest) in
        let names = unrefused ENOTEMPTY (not (is_empty (names_of_body (the_node s.tree (found_ino f)).body)))
        (first_met (refuse ENOTEMPTY (not (is_empty (names_of_body (the_node s.tree (found_ino f)).body)))) None (then_met (refuse EBUSY (is_in_use (users s.processes s.openings) (found_ino f))) _ rest)) in (
          ap (λ (u : Node). names_of_body u.body) (sym node.is) ∙ empty_if (names_of_body (the_node s.tree (found_ino f)).body) names,
          ap (is_in_use (users s.processes s.openings)) (sym k.number) ∙ used,
        )

    may_go : is_special f ≡ false → (IsTrue (is_directory node.node.body) → (names_of_body node.node.body ≡ []) × (is_in_use (users s.processes s.openings) n ≡ false)) → MayGo s f.dir_ino f.name n
    may_go special free =
        let x = name_at special in
        record {
          directory = record { node = x.node; is_there = x.stands; directory = x.directory };
          leads = x.leads ∙ k.some;
          target = node.node;
          there = node.at;
          empty = λ yes. (free yes).0;
          unused = λ yes. (free yes).1;
        }

  -- where all is asked, what was found is there
  pub inode_told : {n : ℕ} {v : Inode} (a c : List Demand)
      → refused_or {A = ℕ × Inode} (first_of (a ++ (removal_asked q.cred s.tree f ++ c))) (Ok (found_ino f, inode_at p map (found_ino f))) ≡ Ok (n, v)
      → IsInodeFound p map f n v
  inode_told {n} {v} a c is =
      let d = first_of (a ++ (removal_asked q.cred s.tree f ++ c)) in
      let both = met_ok {A = ℕ × Inode} d (found_ino f, inode_at p map (found_ino f)) (n, v) is in
      let there = first_met (must_be_there f) _ (parts_met a (removal_asked q.cred s.tree f) c both.0).1 in
      is_inode p map f n v
      (ap (λ (e : Demand). refused_or {A = ℕ × Inode} e (Ok (found_ino f, inode_at p map (found_ino f)))) there ∙ ap (λ (x : ℕ × Inode). Ok x) both.1)

  module _ (what : Target) {n : ℕ} {v : Inode}
      (is : refused_or {A = ℕ × Inode} (first_of (removal_demands what (scene_at s q f))) (Ok (found_ino f, inode_at p map (found_ino f))) ≡ Ok (n, v)) where
    pub target_found : IsInodeFound p map f n v
    target_found = inode_told (last_asked what f) (target_asked what (scene_at s q f)) is

    pub target_met : first_of (removal_demands what (scene_at s q f)) ≡ None
    target_met = (met_ok {A = ℕ × Inode} (first_of (removal_demands what (scene_at s q f))) (found_ino f, inode_at p map (found_ino f)) (n, v) is).0

    -- what may be removed
    pub target_may : MayGo s f.dir_ino f.name n
    target_may =
        let parts = parts_met (last_asked what f) (removal_asked q.cred s.tree f) (target_asked what (scene_at s q f)) target_met in
        may_go target_found (last_is_name what f parts.0) (free target_found what parts.2)

-- ---- the name is gone

-- whose times move
abbrev taken_touches : ℕ → Option ℕ → List (ℕ × Touch)
taken_touches dir_ino o = (dir_ino, Modified) ∷ changed_at o

name_gone : {p : Geometry} {new : SectorMap} {tables : Tables} (s : State) (q : Process) (f : Found) (n : ℕ) (asked : List Demand) → first_of asked ≡ None → MayGo s f.dir_ino f.name n
    → HoldsAll p new (placed (swept (changed s.tree (TakeName f.dir_ino f.name)) (users_of tables)))
    → IsChange p new tables s q asked (takes_name (scene_at s q f)) Done ((f.dir_ino, Modified) ∷ (n, Changed) ∷ [])
name_gone {p} {new} {tables} s q f n asked met may holds = record {
  met = met;
  number = 0;
  change = TakeName f.dir_ino f.name;
  is = refl;
  new_number = tt;
  times = ap (taken_touches f.dir_ino) (ap (λ (o : Option Node). lookup_in o f.name) may.directory.is_there ∙ may.leads);
  holds = holds;
}

-- since before all was asked
pub target_gone : {p : Geometry} {mid last : TxnState} {new : SectorMap} {tables : Tables} {q : Process} {f : Found} {s : State} {n : ℕ} {v : Inode} (what : Target) → IsUnchanged mid last
    → HoldsChange p tables (MayGoAt f n) (TakeName f.dir_ino f.name) last.sectors new → FindsName p mid.sectors tables q f s
    → refused_or {A = ℕ × Inode} (first_of (removal_demands what (scene_at s q f))) (Ok (found_ino f, inode_at p mid.sectors (found_ino f))) ≡ Ok (n, v)
    → IsChange p new tables s q (removal_demands what (scene_at s q f)) (takes_name (scene_at s q f)) Done ((f.dir_ino, Modified) ∷ (n, Changed) ∷ [])
target_gone {q = q} {f = f} {s = s} {n = n} what same taken finds is =
    let may = target_may finds what is in
    name_gone s q f n (removal_demands what (scene_at s q f)) (target_met finds what is) may (taken.holds s (state_kept same finds.is_state) may)
