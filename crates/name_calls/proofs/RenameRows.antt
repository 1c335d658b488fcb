-- rename, by its row.
--     rename_by_two        the row
--     both_there, to_rename        what was found, where the names ask nothing more
--     same_is        whether both names are of one object
--     names_refuse, move_refuses, same_met, move_met        the whole
--     IsRenamable, rename_told        where all that is asked is met
--     may_move, rename_stays, rename_changed        the name may go, nothing changed, and it has gone
use Rattle.call_parts.specs.BothTables.{Tables, users_of}
use Rattle.call_parts.specs.Callers.{Who}
use Rattle.call_parts.proofs.Starts.{may_make}
use Rattle.std.specs.Prelude.{◌≡◌, ◌≢◌, ℕ, ◌<◌, ◌≤◌, ◌==◌, nat_lt, Bool, true, false, not, ◌&&◌, List, [], ◌∷◌, ◌++◌, length, Option, None, Some, is_some, unwrap_or, if◌then◌else◌, IsTrue, Ok}
use Rattle.std.proofs.Common.{refl, sym, ap, subst, arith, ◌∙◌}
use Rattle.std.proofs.lemmas.Bool.Decides.{nat_tests}
use Rattle.fs_cred.specs.declared.errno.Errno.TheVariants.{ENOSPC}
use Rattle.fs_cred.specs.declared.refusal.Refusal.{Refusal}
use Rattle.fs_layout.specs.declared.inode.Inode.{Inode}
use Rattle.fs_layout.specs.declared.geometry.Geometry.{Geometry}
use Rattle.fs_layout.specs.Bytes.{SectorMap}
use Rattle.fs_layout.specs.Images.{inode_at, free_sectors}
use Rattle.fs_model.specs.declared.call.Call.TheVariants.{Rename}
use Rattle.fs_model.specs.declared.reply.Reply.TheVariants.{Done}
use Rattle.fs_model.specs.declared.walk.Found.{Found}
use Rattle.fs_model.specs.declared.touch.Touch.{Touch}
use Rattle.fs_model.specs.declared.touch.Touch.TheVariants.{Modified}
use Rattle.fs_model.specs.TreeChanges.{Same, MoveName, changed, changed_at, swept}
use Rattle.fs_model.specs.Demands.{Demand, first_of, only_if}
use Rattle.fs_model.specs.Limits.{least_free}
use Rattle.fs_model.specs.Nodes.{Node, names_of_body}
use Rattle.fs_model.specs.Processes.{Process, is_open}
use Rattle.fs_model.specs.RenameCall.{is_same, rename_demands, rename_effect}
use Rattle.fs_model.specs.Rows.{row_of}
use Rattle.fs_model.specs.Scenes.{Scene, is_found, found_ino, changes}
use Rattle.fs_model.specs.Stands.{HoldsAll, placed}
use Rattle.fs_model.specs.States.{State}
use Rattle.fs_model.specs.Trees.{Room, Tree, lookup, lookup_in, is_within, IsDirectoryAt}
use Rattle.fs_model.proofs.PlacedChanges.{same_held}
use Rattle.fs_model.proofs.StepsDemands.{first_met, unrefused}
use Rattle.fs_model.proofs.StepsDemands as demands
use Rattle.fs_model.proofs.StepsFound.{IsNameAt}
use Rattle.fs_model.proofs.StepsOfRename.{IsRenamed, names_say, rename_asks, others, space_met, has_room, replaced_empty, replaced_unused, outside}
use Rattle.fs_model.proofs.StepsParents.{names_or}
use Rattle.sector_txn.specs.Sectors.{TxnState, IsUnchanged}
use Rattle.path_walk.specs.Answers.{refused_or}
use Rattle.path_walk.proofs.Kept.{kept}
use Rattle.call_parts.specs.Performing.{IsStateOf}
use Rattle.call_parts.proofs.Calling.{state_kept, first_of-append, met_ok}
use Rattle.path_walk.specs.HeldTrees.{IsThere}
use Rattle.call_parts.proofs.Changed.{IsChange}
use Rattle.call_parts.proofs.Ownership.{all_met}
use Rattle.call_parts.proofs.Refuses.{Refuses, refuses_some, refuses_others}
use Rattle.call_parts.proofs.Shown.{number_of, the_node_is}
use Rattle.call_parts.specs.Altering.{HoldsChange}
use Rattle.name_calls.specs.Moving.{MayMove, MayMoveTo, renamed_touches}
use Rattle.name_calls.specs.Removing.{IsNamedThere}
use Rattle.name_calls.specs.Renaming.{BothThere, names_asked, inode_there}
use Rattle.name_calls.specs.Replacing.{IsToRename, same_number, move_asked}
use Rattle.call_parts.specs.TwoPaths.{scene_with, FindsBoth}
use Rattle.call_parts.specs.Reaching.{WalksBoth}
use Rattle.call_parts.proofs.FoundBoth.{first_there, second_there, first_walked, second_walked, is_scene}

-- ---- the row

pub rename_by_two : {who : Who} → (old new : List ℕ) → WalksBoth who (Rename old new) false old new rename_demands rename_effect
unfolding row_of
rename_by_two {who} old new = record { row = refl; asks = refl; opens = refl; may = may_make who _ refl refl }

-- ---- the demands in two parts

module _ (s : State) (q : Process) (f g : Found) where
  abbrev names : List Demand
  names = names_asked s.tree f g

  abbrev rest : List Demand
  rest = only_if (not (is_same (scene_with s q f g))) (move_asked (scene_with s q f g))

  pub names_refuse : Refuses (first_of (names_asked s.tree f g)) (first_of (rename_demands (scene_with s q f g)))
  names_refuse = refuses_some names rest

  pub move_refuses : first_of (names_asked s.tree f g) ≡ None → is_same (scene_with s q f g) ≡ false
      → Refuses (first_of (move_asked (scene_with s q f g))) (first_of (rename_demands (scene_with s q f g)))
  move_refuses met apart =
      refuses_others names rest met (λ (e : Refusal) is. ap (λ (b : Bool). first_of (only_if (not b) (move_asked (scene_with s q f g)))) apart ∙ is)

  pub same_met : first_of (names_asked s.tree f g) ≡ None → is_same (scene_with s q f g) ≡ true → first_of (rename_demands (scene_with s q f g)) ≡ None
  same_met met same = all_met names rest met (ap (λ (b : Bool). first_of (only_if (not b) (move_asked (scene_with s q f g)))) same)

  pub move_met : first_of (names_asked s.tree f g) ≡ None → is_same (scene_with s q f g) ≡ false → first_of (move_asked (scene_with s q f g)) ≡ None
      → first_of (rename_demands (scene_with s q f g)) ≡ None
  move_met met apart is = all_met names rest met (ap (λ (b : Bool). first_of (only_if (not b) (move_asked (scene_with s q f g)))) apart ∙ is)

  names_of_all : first_of (rename_demands (scene_with s q f g)) ≡ None → first_of (names_asked s.tree f g) ≡ None
  names_of_all met = first_met (first_of names) (first_of rest) (sym (first_of-append names rest) ∙ met)

-- ---- what was found

abbrev pub Renamed : Type 0
Renamed = ℕ × Inode × Option (ℕ × Inode)

named_there : (room : Room) (t : Tree) (x : Found) → IsNameAt room t x.dir_ino x.name x.ino → ((m : ℕ) → x.ino ≡ Some m → IsThere t m) → IsNamedThere t x
named_there room t x at there = record { directory = record { node = at.node; is_there = at.stands; directory = at.directory }; found = there }

pub record IsRenamable (p : Geometry) (map : SectorMap) (tables : Tables) (q : Process) (f g : Found) (n : ℕ) (v : Inode) (there : Option (ℕ × Inode)) (s : State) : Type 0 where
  pub met : first_of (rename_demands (scene_with s q f g)) ≡ None
  pub found : IsToRename p map tables f g n v there s

module _ {p : Geometry} {map : SectorMap} {tables : Tables} {q : Process} {f g : Found} {s : State} (i : FindsBoth p map tables q f g s) where
  pub both_there : BothThere f g s.tree
  both_there = record { first = first_there i; second = second_there i }

  module _ {n : ℕ} {v : Inode} {there : Option (ℕ × Inode)} where
    found_to_rename : first_of (names_asked s.tree f g) ≡ None
        → ◌≡◌ {A = Renamed} (found_ino f, inode_at p map (found_ino f), inode_there p map g.ino) (n, v, there)
        → IsToRename p map tables f g n v there s
    found_to_rename met is =
        let named = names_say (scene_with s q f g) (demands.all_met (names_asked s.tree f g) met) in
        let same : found_ino f ≡ n = ap (λ (x : Renamed). x.0) is in
        record {
          is_state = i.is_state;
          first = named_there s.room s.tree f ((first_walked i).old refl named.first) (first_there i);
          second = named_there s.room s.tree g ((second_walked i).old refl named.second) (second_there i);
          leads = number_of f named.found ∙ ap Some same;
          inode = sym (ap (λ (x : Renamed). x.1) is) ∙ ap (inode_at p map) same;
          replaced_is = sym (ap (λ (x : Renamed). x.2) is);
        }

    names_told : refused_or {A = Renamed} (first_of (names_asked s.tree f g)) (Ok (found_ino f, inode_at p map (found_ino f), inode_there p map g.ino)) ≡ Ok (n, v, there)
        → first_of (names_asked s.tree f g) ≡ None
    names_told told = (met_ok {A = Renamed} (first_of (names_asked s.tree f g)) (found_ino f, inode_at p map (found_ino f), inode_there p map g.ino) (n, v, there) told).0

    -- the names ask nothing more
    pub to_rename : refused_or {A = Renamed} (first_of (names_asked s.tree f g)) (Ok (found_ino f, inode_at p map (found_ino f), inode_there p map g.ino)) ≡ Ok (n, v, there)
        → (first_of (names_asked s.tree f g) ≡ None) × IsToRename p map tables f g n v there s
    to_rename told = (
      names_told told,
      found_to_rename (names_told told) (met_ok {A = Renamed} (first_of (names_asked s.tree f g)) (found_ino f, inode_at p map (found_ino f), inode_there p map g.ino) (n, v, there) told).1,
    )

    pub rename_told : refused_or {A = Renamed} (first_of (rename_demands (scene_with s q f g))) (Ok (found_ino f, inode_at p map (found_ino f), inode_there p map g.ino)) ≡ Ok (n, v, there)
        → IsRenamable p map tables q f g n v there s
    rename_told told =
        let both = met_ok {A = Renamed} (first_of (rename_demands (scene_with s q f g))) (found_ino f, inode_at p map (found_ino f), inode_there p map g.ino) (n, v, there) told in
        record { met = both.0; found = found_to_rename (names_of_all s q f g both.0) both.1 }

-- ---- whether both are one object

pub same_is : {p : Geometry} {map : SectorMap} {tables : Tables} (q : Process) {f g : Found} {n : ℕ} {v : Inode} {there : Option (ℕ × Inode)} {s : State}
    → IsToRename p map tables f g n v there s → is_same (scene_with s q f g) ≡ same_number n there
same_is {p} {map} {tables} q {f} {g} {n} {v} {there} {s} r = go g.ino refl
  where
    first : is_same (scene_with s q f g) ≡ (is_found g && n == found_ino g)
    first = ap (λ (o : Option ℕ). is_some o && is_found g && unwrap_or o 0 == found_ino g) r.leads

    go : (o : Option ℕ) → g.ino ≡ o → is_same (scene_with s q f g) ≡ same_number n there
    go None e =
        first ∙ ap (λ (o : Option ℕ). is_some o && n == unwrap_or o 0) e
        ∙ sym (ap (same_number n) (r.replaced_is ∙ ap (inode_there p map) e))
    go (Some m) e =
        first ∙ ap (λ (o : Option ℕ). is_some o && n == unwrap_or o 0) e
        ∙ sym (ap (same_number n) (r.replaced_is ∙ ap (inode_there p map) e))

-- ---- the name may go

module _ {p : Geometry} {map : SectorMap} {tables : Tables} {q : Process} {f g : Found} {s : State} (i : FindsBoth p map tables q f g s)
    {n : ℕ} {v : Inode} {there : Option (ℕ × Inode)} (r : IsRenamable p map tables q f g n v there s) (apart : same_number n there ≡ false) where
  abbrev scene : Scene
  scene = scene_with s q f g

  differ : is_same (scene_with s q f g) ≡ false
  differ = same_is q r.found ∙ apart

  asks : IsRenamed (scene_with s q f g)
  asks = rename_asks (scene_with s q f g) (demands.all_met (rename_demands (scene_with s q f g)) r.met) differ

  from : IsNameAt s.room s.tree f.dir_ino f.name f.ino
  from = (first_walked i).old refl asks.first

  to : IsNameAt s.room s.tree g.dir_ino g.name g.ino
  to = (second_walked i).old refl asks.second

  number_is : found_ino f ≡ n
  number_is = ap (λ (o : Option ℕ). unwrap_or o 0) r.found.leads

  enough : g.ino ≡ None → f.dir_ino ≢ g.dir_ino → least_free ≤ free_sectors p map
  enough none ne =
      let low : nat_lt s.free least_free ≡ false = unrefused ENOSPC (nat_lt s.free least_free) (space_met scene (is_scene i) asks differ none ne).0 in
      let left : least_free ≤ s.free = grind (arith, nat_tests) in
      subst (λ (k : ℕ). least_free ≤ k) i.is_state.free_is left

  pub may_move : MayMove p map s f.dir_ino f.name n g.dir_ino g.name g.ino
  unfolding from to
  may_move = record {
    directory = record { node = from.node; is_there = from.stands; directory = from.directory };
    leads = from.leads ∙ r.found.leads;
    to_directory = record { node = to.node; is_there = to.stands; directory = to.directory };
    to_leads = to.leads;
    is_name = to.is_name;
    short = subst (λ (k : Room). length g.name ≤ k.name_limit) i.is_state.same_room to.short;
    bytes = to.bytes;
    other = λ m some same. others scene (is_scene i) asks differ m some (same ∙ sym number_is);
    has_room = λ none ne. (
      subst (λ (k : Room). length (names_of_body to.node.body) < k.entries_limit) i.is_state.same_room
          (subst (λ (u : Node). length (names_of_body u.body) < s.room.entries_limit) (the_node_is s.tree g.dir_ino to.node to.stands) (has_room scene (is_scene i) asks differ none ne)),
      enough none ne,
    );
    empty = λ m some d. sym (ap names_or d.is_there) ∙ replaced_empty scene (is_scene i) asks differ m some;
    unused = λ m some d. replaced_unused scene (is_scene i) asks differ m some d;
    outside = λ d.
        ap (λ (k : ℕ). is_within (length s.tree) s.tree k g.dir_ino) (sym number_is)
        ∙ outside scene (is_scene i) asks differ (subst (λ (k : ℕ). IsDirectoryAt s.tree k) (sym number_is) d);
  }

-- ---- the step

-- whose times move, where the names lead to these
abbrev both_touches : ℕ → ℕ → Option ℕ → Option ℕ → List (ℕ × Touch)
both_touches dir_ino to_dir_ino o replaced = (dir_ino, Modified) ∷ (to_dir_ino, Modified) ∷ (changed_at o ++ changed_at replaced)

module _ {p : Geometry} {new : SectorMap} {tables : Tables} (s : State) (q : Process) (f g : Found) (met : first_of (rename_demands (scene_with s q f g)) ≡ None) where
  rename_changes : {map : SectorMap} (n : ℕ) → MayMove p map s f.dir_ino f.name n g.dir_ino g.name g.ino → is_same (scene_with s q f g) ≡ false
      → HoldsAll p new (placed (swept (changed s.tree (MoveName f.dir_ino f.name g.dir_ino g.name)) (users_of tables)))
      → IsChange p new tables s q (rename_demands (scene_with s q f g)) (λ k. rename_effect (scene_with s q f g)) Done (renamed_touches f.dir_ino g.dir_ino n g.ino)
  rename_changes n may apart holds = record {
    met = met;
    number = 0;
    change = MoveName f.dir_ino f.name g.dir_ino g.name;
    is = ap (λ (b : Bool). changes (scene_with s q f g) (if b then Same else MoveName f.dir_ino f.name g.dir_ino g.name)) apart;
    new_number = tt;
    times =
        ap (λ (o : Option ℕ). both_touches f.dir_ino g.dir_ino o (lookup s.tree g.dir_ino g.name)) (ap (λ (o : Option Node). lookup_in o f.name) may.directory.is_there ∙ may.leads)
        ∙ ap (both_touches f.dir_ino g.dir_ino (Some n)) (ap (λ (o : Option Node). lookup_in o g.name) may.to_directory.is_there ∙ may.to_leads);
    holds = holds;
  }

  -- both names are of one object
  pub rename_stays : is_same (scene_with s q f g) ≡ true → IsStateOf p new tables s
      → IsChange p new tables s q (rename_demands (scene_with s q f g)) (λ k. rename_effect (scene_with s q f g)) Done []
  rename_stays same at = record {
    met = met;
    number = 0;
    change = Same;
    is = ap (λ (b : Bool). changes (scene_with s q f g) (if b then Same else MoveName f.dir_ino f.name g.dir_ino g.name)) same;
    new_number = tt;
    times = refl;
    holds = same_held s at.is_state at.up (users_of tables) (λ k is. subst (λ (d : Tables). IsTrue (is_open (users_of d) k)) at.same_tables is) p new at.holds at.same_room;
  }

-- since before all was asked
pub rename_changed : {p : Geometry} {mid last : TxnState} {new : SectorMap} {tables : Tables} {q : Process} {f g : Found} {s : State} {n : ℕ} {v : Inode} {there : Option (ℕ × Inode)} → IsUnchanged mid last
    → HoldsChange p tables (MayMoveTo p last.sectors f g n) (MoveName f.dir_ino f.name g.dir_ino g.name) last.sectors new → FindsBoth p mid.sectors tables q f g s
    → IsRenamable p mid.sectors tables q f g n v there s → same_number n there ≡ false
    → IsChange p new tables s q (rename_demands (scene_with s q f g)) (λ k. rename_effect (scene_with s q f g)) Done (renamed_touches f.dir_ino g.dir_ino n g.ino)
rename_changed {p} {mid} {last} {new} {tables} {q} {f} {g} {s} {n} same moved finds told apart =
    let may = may_move finds told apart in
    rename_changes s q f g told.met n may (same_is q told.found ∙ apart)
    (moved.holds s (state_kept same finds.is_state) (kept (λ (m : SectorMap). MayMoveTo p m f g n s) same may))
