-- A path that ends in no name, in `.` or in `..` leads to a directory, and any other to what has a name: so link(2) refuses paths as one that asks
-- for the first and not for the second.
use Rattle.std.specs.Prelude.{◌≡◌, ◌≢◌, ℕ, zero, suc, ◌<◌, ◌≤◌, ◌==◌, nat_lt, nat_le, Bool, true, false, not, ◌&&◌, ◌||◌, cond, List, [], ◌∷◌, ◌++◌, Option, None, Some, is_some, unwrap_or}
use Rattle.std.proofs.Common.{refl, sym, ap, arith, ◌∙◌, inl, inr}
use Rattle.std.proofs.lemmas.Bool.{cases_eq}
use Rattle.std.proofs.lemmas.Bool.Decides.{nat_tests}
use Rattle.std.specs.List.{list_any}
use Rattle.std.specs.Ordering.{nat_cmp}
use Rattle.fs_cred.specs.declared.errno.Errno.TheVariants.{ENOENT, EPERM, ENOTDIR, EMLINK}
use Rattle.fs_cred.specs.declared.refusal.Refusal.TheVariants.{Failed}
use Rattle.fs_cred.specs.Credentials.{Credential}
use Rattle.fs_layout.specs.declared.slot.TheConstants.{MAX_NAME}
use Rattle.fs_layout.specs.Bytes.{IsBytes}
use Rattle.fs_layout.specs.Maps.{get, name_cmp, IsMap}
use Rattle.fs_layout.proofs.FirstEntries.{at_same, at_other, above, left, right}
use Rattle.fs_model.specs.Limits.{root, links_limit}
use Rattle.fs_model.specs.Nodes.{Body, File, Dir, Link, is_directory, names_of_body}
use Rattle.fs_model.specs.Trees.{Tree, Room, node_at, names_for, names_of, parent, IsTree, IsDirectoryAt}
use Rattle.fs_model.specs.Demands.{Demand, refuse, or_else, first_of}
use Rattle.fs_model.specs.Parts.{Parts, parts_of, start_of, is_empty}
use Rattle.fs_model.specs.declared.walk.Form.TheVariants.{Parent}
use Rattle.fs_model.specs.declared.walk.Last.TheVariants.{Top, Dot, DotDot, Name}
use Rattle.fs_model.specs.Trails.{Lookup, is_dot, is_dot_dot, trail_with, trail_of}
use Rattle.fs_model.specs.Walks.{last_of_name, last_lookup, found_of, first_refusal}
use Rattle.fs_model.specs.Scenes.{Scene, is_found, found_ino, body_found, is_nondirectory_found, is_directory_found, must_be_there, is_special, is_top, is_last_dot, is_last_dot_dot, must_be_new, permission_at_dir, no_blocks, no_names}
use Rattle.fs_model.specs.Births.{the_node, no_node}
use Rattle.fs_model.specs.NameCalls.{link_demands, link_count_demand, link_row}
use Rattle.fs_model.specs.Steps.{trail_in, found_by, walk_refusals, scene_of}
use Rattle.fs_model.specs.ActorLaws.{link_demands_of_paths, LinksAskAsBefore}
use Rattle.fs_model.proofs.StepsDemands.{AreMet, all_met, paths_met, unrefused}
use Rattle.fs_model.proofs.StepsComponents.{path_bytes}
use Rattle.fs_model.proofs.StepsFound.{last_some, walk_is_clean, is_walked}
use Rattle.fs_model.proofs.StepsLeaves.{no_zero_asked}
use Rattle.fs_model.proofs.StepsOfPaths.{is_found_if}
use Rattle.fs_model.proofs.Swept.{named_once}
use Rattle.fs_model.proofs.StepsTrails.{WasLookedUp, EndsIn, all_looked_up, trail_ends}

-- ---- the directory above

named_by_directory : (b : Body) (d : ℕ) → nat_lt 0 (names_for d b) ≡ true → is_directory b ≡ true
named_by_directory (File a bytes) d h = absurd cc
named_by_directory (Dir a directory) d h = refl
named_by_directory (Link target) d h = absurd cc

parent_of : (t : Tree) (d : ℕ) → IsMap nat_cmp t → parent t d ≢ root → IsDirectoryAt t (parent t d)
parent_of [] d m ne = absurd (ne refl)
parent_of (e ∷ t) d m ne = go (nat_lt 0 (names_for d e.1.body)) refl ne (λ k. parent_of t d (right _ _ m) k)
  where
    go : (b : Bool) → nat_lt 0 (names_for d e.1.body) ≡ b → cond b e.0 (parent t d) ≢ root → (parent t d ≢ root → IsDirectoryAt t (parent t d))
        → IsDirectoryAt (e ∷ t) (cond b e.0 (parent t d))
    go true named ne rest = record { node = e.1; is_there = at_same e t; directory = named_by_directory e.1.body d named }
    go false named ne rest =
        let below = rest ne in
        let low : e.0 < parent t d = above e.0 t (left _ _ m) (parent t d) below.node below.is_there in
        let apart : parent t d ≢ e.0 = λ same. omega (arith, low, same) in
        record { node = below.node; is_there = at_other e t (parent t d) apart ∙ below.is_there; directory = below.directory }

-- something was found, and is a directory
record FindsDirectory (t : Tree) (found : Option ℕ) : Type 0 where
  n : ℕ
  is : found ≡ Some n
  directory : IsDirectoryAt t n

module _ (room : Room) (limit : room.name_limit ≤ MAX_NAME) (t : Tree) (is : IsTree room t) where
  parent_directory : (d : ℕ) → IsDirectoryAt t (parent t d)
  parent_directory d = elim (cases_eq (parent t d) root) [
    | inl e ↦ record { node = is.root_is_there.node; is_there = ap (node_at t) e ∙ is.root_is_there.is_there; directory = is.root_is_there.directory }
    | inr ne ↦ parent_of t d is.numbers ne
  ]

  start_directory : (parts : Parts) (dir_ino : ℕ) → IsDirectoryAt t dir_ino → IsDirectoryAt t (start_of parts dir_ino)
  start_directory parts dir_ino d = go parts.absolute
    where
      go : (b : Bool) → IsDirectoryAt t (cond b root dir_ino)
      go true = is.root_is_there
      go false = d

  -- ---- the last lookup

  dots_find : (dir_ino : ℕ) (name : List ℕ) (o : Option ℕ) → WasLookedUp room t dir_ino name o → (is_dot name || is_dot_dot name) ≡ true → FindsDirectory t o
  dots_find dir_ino name o was special = go (is_dot name) (is_dot_dot name) special was.leads
    where
      go : (a b : Bool) → (a || b) ≡ true → cond a (Some dir_ino) (cond b (Some (parent t dir_ino)) (get name_cmp (names_of_body was.node.body) name)) ≡ o → FindsDirectory t o
      go true b h e = record { n = dir_ino; is = sym e; directory = record { node = was.node; is_there = was.stands; directory = was.directory } }
      go false true h e = record { n = parent t dir_ino; is = sym e; directory = parent_directory dir_ino }
      go false false h e = absurd cc

  name_special : (name : List ℕ) → (is_top (last_of_name name) || is_last_dot (last_of_name name) || is_last_dot_dot (last_of_name name)) ≡ true
      → (is_dot name || is_dot_dot name) ≡ true
  name_special name h = go (is_dot name) (is_dot_dot name) h
    where
      go : (a b : Bool) → (is_top (cond a Dot (cond b DotDot Name)) || is_last_dot (cond a Dot (cond b DotDot Name)) || is_last_dot_dot (cond a Dot (cond b DotDot Name))) ≡ true
          → (a || b) ≡ true
      go true b h = refl
      go false true h = refl
      go false false h = absurd cc

  ends_special : (start : ℕ) → IsDirectoryAt t start → (lookups : List Lookup) (found : Option ℕ) → EndsIn room t is false lookups found
      → (is_empty lookups ≡ true → found ≡ Some start) → (b : Bool) → is_empty lookups ≡ b
      → (is_top (cond b Top (last_of_name (last_lookup start lookups).name)) || is_last_dot (cond b Top (last_of_name (last_lookup start lookups).name))
      || is_last_dot_dot (cond b Top (last_of_name (last_lookup start lookups).name))) ≡ true → FindsDirectory t found
  ends_special start d lookups found ends top true e h = record { n = start; is = top e; directory = d }
  ends_special start d lookups found ends top false e h =
      let l = last_lookup start lookups in
      let end = last_some room limit t is false start lookups found ends e in
      let at = dots_find l.dir_ino l.name end.led end.was (name_special l.name h) in
      record { n = at.n; is = sym (end.exact refl) ∙ at.is; directory = at.directory }

  top_found : (follow : Bool) (links start : ℕ) (names : List (List ℕ)) (slash : Bool) → is_empty (trail_with room t follow links start names slash).lookups ≡ true
      → (trail_with room t follow links start names slash).found ≡ Some start
  top_found follow zero start [] slash e = refl
  top_found follow (suc links) start [] slash e = refl
  top_found follow zero start (name ∷ names) slash e = absurd (let h = all_looked_up room t is follow None start (name ∷ names) slash in cc)
  top_found follow (suc links) start (name ∷ names) slash e =
      absurd (let h = all_looked_up room t is follow (Some (trail_with room t follow links)) start (name ∷ names) slash in cc)

  path_top : (cwd : ℕ) (path : List ℕ) → is_empty (trail_of room t cwd Parent path).lookups ≡ true → (trail_of room t cwd Parent path).found ≡ Some (start_of (parts_of path) cwd)
  unfolding trail_of
  path_top cwd path e = top_found false links_limit (start_of (parts_of path) cwd) (parts_of path).names (parts_of path).slash_at_end e

  special_found : (cred : Credential) (cwd k : ℕ) (path : List ℕ) → IsDirectoryAt t cwd → IsBytes path → list_any (λ b. b == 0) path ≡ false
      → first_refusal t cred k Parent (trail_in room t cwd (Parent, path)) ≡ None → is_special (found_by room t cwd (Parent, path)) ≡ true
      → FindsDirectory t (found_by room t cwd (Parent, path)).ino
  unfolding found_of
  special_found cred cwd k path d bytes no_zero met special =
      let trail = trail_of room t cwd Parent path in
      let start = start_of (parts_of path) cwd in
      let ends = trail_ends room t is cwd Parent path (path_bytes path bytes no_zero) (walk_is_clean t cred k Parent trail met) in
      ends_special start (start_directory (parts_of path) cwd d) trail.lookups trail.found ends (path_top cwd path) (is_empty trail.lookups) refl special

-- ---- what link asks

first_of-appended : (ds es : List Demand) → first_of (ds ++ es) ≡ or_else (first_of ds) (first_of es)
first_of-appended [] es = refl
first_of-appended (d ∷ ds) es = go d (first_of-appended ds es)
  where
    go : (d : Demand) → first_of (ds ++ es) ≡ or_else (first_of ds) (first_of es) → or_else d (first_of (ds ++ es)) ≡ or_else (or_else d (first_of ds)) (first_of es)
    go None h = h
    go (Some r) h = refl

directory_refused : (found slash directory : Bool) (rest : List Demand) → found ≡ true → directory ≡ true
    → first_of (refuse ENOENT (not found) ∷ refuse ENOTDIR (slash && (found && not directory)) ∷ refuse EPERM (found && directory) ∷ rest) ≡ Some (Failed EPERM)
directory_refused true true true rest e f = refl
directory_refused true false true rest e f = refl
directory_refused true slash false rest e f = absurd cc
directory_refused false slash directory rest e f = absurd cc

-- a path that ends in no name leads to a directory, and a directory is refused the same
special_says_nothing : (c : Scene) → (is_special c.first ≡ true → FindsDirectory c.state.tree c.first.ino)
    → first_of (refuse EPERM (is_special c.first) ∷ link_demands c) ≡ first_of (link_demands c)
special_says_nothing c finds = go (is_special c.first) refl
  where
    go : (b : Bool) → is_special c.first ≡ b → or_else (refuse EPERM b) (first_of (link_demands c)) ≡ first_of (link_demands c)
    go false e = refl
    go true e =
        let at = finds e in
        let found : is_found c.first ≡ true = ap is_some at.is in
        let there : is_directory (the_node c.state.tree at.n).body ≡ true =
        ap (λ o. is_directory (unwrap_or o no_node).body) at.directory.is_there ∙ at.directory.directory in
        let directory : is_directory (body_found c c.first) ≡ true = ap (λ o. is_directory (the_node c.state.tree (unwrap_or o 0)).body) at.is ∙ there in
        let others : List Demand = must_be_new c.second ∷ refuse ENOENT c.second.slash ∷ permission_at_dir c c.second 2
        ∷ link_count_demand c.state.room.names_limit (names_of c.state.tree (found_ino c.first)) ∷ no_blocks c ∷ no_names c c.second ∷ [] in
        sym (directory_refused (is_found c.first) c.first.slash (is_directory (body_found c c.first)) others found directory)

-- ---- what has the name has one

abbrev before_count : Scene → List Demand
before_count c =
    refuse EPERM (is_special c.first) ∷ must_be_there c.first ∷ refuse ENOTDIR (c.first.slash && is_nondirectory_found c c.first)
    ∷ refuse EPERM (is_directory_found c c.first) ∷ must_be_new c.second ∷ refuse ENOENT c.second.slash ∷ permission_at_dir c c.second 2 ∷ []

-- a demand that comes only where those before it are met
same_behind : (ds es : List Demand) (d e : Demand) → (AreMet ds → d ≡ e) → first_of (ds ++ d ∷ es) ≡ first_of (ds ++ e ∷ es)
same_behind ds es d e same = first_of-appended ds (d ∷ es) ∙ go (first_of ds) refl ∙ sym (first_of-appended ds (e ∷ es))
  where
    go : (o : Demand) → first_of ds ≡ o → or_else (first_of ds) (or_else d (first_of es)) ≡ or_else (first_of ds) (or_else e (first_of es))
    go None is = ap (λ x. or_else (first_of ds) (or_else x (first_of es))) (same (all_met ds is))
    go (Some r) is = ap (λ o. or_else o (or_else d (first_of es))) is ∙ ap (λ o. or_else o (or_else e (first_of es))) (sym is)

count_says_nothing : (c : Scene) → (is_special c.first ≡ false → is_found c.first ≡ true → 1 ≤ names_of c.state.tree (found_ino c.first))
    → first_of (link_demands_of_paths c) ≡ first_of (refuse EPERM (is_special c.first) ∷ link_demands c)
count_says_nothing c named =
    let many : Demand = refuse EMLINK (nat_le c.state.room.names_limit (names_of c.state.tree (found_ino c.first))) in
    same_behind (before_count c) (no_blocks c ∷ no_names c c.second ∷ []) many (link_count_demand c.state.room.names_limit (names_of c.state.tree (found_ino c.first)))
    (λ met.
    let some : 1 ≤ names_of c.state.tree (found_ino c.first) = named (unrefused EPERM (is_special c.first) met.0) (is_found_if c.first met.1.0) in
    let is : (names_of c.state.tree (found_ino c.first) == 0) ≡ false = grind (arith, nat_tests) in
    ap (λ b. or_else (refuse ENOENT b) many) (sym is))

found_is : (o : Option ℕ) → is_some o ≡ true → o ≡ Some (unwrap_or o 0)
found_is None e = absurd cc
found_is (Some n) e = refl

pub links_ask_as_before : LinksAskAsBefore
links_ask_as_before s pid p old new is runs here fits early =
    let row = link_row old new in
    let walks = walk_refusals s.room s.tree p.cred (λ _. p.cwd) 1 row.walks in
    let c = scene_of s p row in
    let cwd = ((is.processes runs).each_process pid p here).cwd in
    let zeros = no_zero_asked row.walks (paths_met p row early) in
    first_of-appended walks (link_demands_of_paths c)
    ∙ go walks (link_demands_of_paths c) (link_demands c) (λ met.
    count_says_nothing c
    (λ special found.
    let at = (is_walked s.room is.room.name_limit s.tree is.tree p.cred p.cwd 1 (Parent, old) fits.0 zeros.0 met.0).old refl special in
    named_once s.tree c.first.dir_ino at.node c.first.name (found_ino c.first) at.stands (at.leads ∙ found_is c.first.ino found))
    ∙ special_says_nothing c (λ special. special_found s.room is.room.name_limit s.tree is.tree p.cred p.cwd 1 old cwd fits.0 zeros.0 met.0 special))
    (first_of walks) refl
    ∙ sym (first_of-appended walks (link_demands c))
  where
    go : (walks ds es : List Demand) → (AreMet walks → first_of ds ≡ first_of es) → (o : Demand) → first_of walks ≡ o
        → or_else (first_of walks) (first_of ds) ≡ or_else (first_of walks) (first_of es)
    go walks ds es same None e = ap (or_else (first_of walks)) (same (all_met walks e))
    go walks ds es same (Some r) e = ap (λ d. or_else d (first_of ds)) e ∙ ap (λ d. or_else d (first_of es)) (sym e)
