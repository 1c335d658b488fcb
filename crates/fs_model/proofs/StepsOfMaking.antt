-- What calls that make a node or add a name leave fits: an open of what isn't there, mkdir, symlink and link.
use Rattle.std.specs.Prelude.{◌≡◌, ◌≢◌, ℕ, ◌^◌, ◌<◌, ◌≤◌, ◌==◌, nat_le, nat_lt, Bool, true, false, not, ◌&&◌, ◌||◌, cond, List, [], ◌∷◌, length, Option, None, Some, is_some, unwrap_or, IsTrue, All}
use Rattle.std.proofs.Common.{refl, sym, ap, arith, ◌∙◌, subst}
use Rattle.std.proofs.lemmas.Bool.{or_parts}
use Rattle.std.proofs.lemmas.Bool.Decides.{nat_tests}
use Rattle.std.proofs.lemmas.List.Elements.{All-from_recursion}
use Rattle.std.specs.List.{list_any, AllByRecursion}
use Rattle.fs_cred.specs.declared.errno.Errno.TheVariants.{EPERM, ENOENT, EEXIST, EINVAL, ENAMETOOLONG, EMFILE, ENOSPC}
use Rattle.fs_layout.specs.Bytes.{IsBytes}
use Rattle.fs_model.specs.declared.call.Flags.{Flags}
use Rattle.fs_model.specs.declared.reply.Reply.{Reply}
use Rattle.fs_model.specs.declared.reply.Reply.TheVariants.{Done, Fd}
use Rattle.fs_model.specs.Limits.{descriptors_limit, target_limit}
use Rattle.fs_layout.specs.Maps.{get, name_cmp, with_entry}
use Rattle.fs_model.specs.Nodes.{Node, is_directory, names_of_body, with_bytes}
use Rattle.fs_model.specs.Trees.{Tree, Room, node_at, with_node, names_of, IsTarget, IsTree}
use Rattle.fs_model.specs.Births.{the_node, born_file, born_directory, born_link}
use Rattle.fs_model.specs.Processes.{least_unused}
use Rattle.fs_model.specs.declared.touch.Touch.TheVariants.{Modified}
use Rattle.fs_model.specs.TreeChanges.{Same, Rewrite, Make, AddName, with_names_at, named, changed}
use Rattle.fs_model.specs.States.{IsProcess}
use Rattle.fs_model.specs.Parts.{is_empty}
use Rattle.fs_model.specs.declared.walk.Found.{Found}
use Rattle.fs_model.specs.Scenes.{Scene, is_found, is_special, found_ino, node_found, body_found, dir_node, is_directory_found, must_be_new, no_names}
use Rattle.fs_model.specs.OpenCall.{open_early, open_process, open_effect}
use Rattle.fs_model.specs.NameCalls.{mkdir_effect, symlink_arguments, symlink_effect, link_demands, link_effect}
use Rattle.fs_model.proofs.StepsAdding.{AddsName, gives_name, added_is_tree, added_keeps_types}
use Rattle.fs_model.proofs.StepsDemands.{AreMet, unrefused, link_count_met, and_false}
use Rattle.fs_model.proofs.StepsFit.{IsScene, EffectFits, node_is_there}
use Rattle.fs_model.proofs.StepsFound.{IsNameAt}
use Rattle.fs_model.proofs.StepsKinds.{KeepsTypes, process_moves}
use Rattle.fs_model.proofs.StepsMaking.{IsNewborn, file_is_born, directory_is_born, link_is_born, makes_name}
use Rattle.fs_model.proofs.StepsNaming.{renamed, renamed_node, at_it, at_others}
use Rattle.fs_model.proofs.StepsOfOpen.{fits_as}
use Rattle.fs_model.proofs.StepsOfPaths.{first_at, is_found_if}
use Rattle.fs_model.proofs.StepsProcesses.{with_descriptor_fits, least_is_low}

-- ---- what a name stands in

-- the directory is what stands at the number
pub dir_is_there : {room : Room} (t : Tree) (dir_ino : ℕ) (name : List ℕ) (o : Option ℕ) → IsNameAt room t dir_ino name o
    → (node_at t dir_ino ≡ Some (the_node t dir_ino)) × IsTrue (is_directory (the_node t dir_ino).body) × (get name_cmp (names_of_body (the_node t dir_ino).body) name ≡ o)
dir_is_there t dir_ino name o x =
    let at = node_is_there t dir_ino (ap is_some x.stands) in
    let same : x.node ≡ the_node t dir_ino = cc in
    (at, subst (λ v. IsTrue (is_directory v.body)) same x.directory, subst (λ v. get name_cmp (names_of_body v.body) name ≡ o) same x.leads)

pub named_is : (t : Tree) (dir_ino : ℕ) (directory : Node) (name : List ℕ) (n : ℕ) → node_at t dir_ino ≡ Some directory
    → named t dir_ino name n ≡ renamed t dir_ino directory (with_entry name_cmp (names_of_body directory.body) name n)
named_is t dir_ino directory name n at = ap (with_names_at t dir_ino (λ names. with_entry name_cmp names name n)) at

pub no_find : (o : Option ℕ) → is_some o ≡ false → o ≡ None
no_find None h = refl
no_find (Some n) h = absurd cc

pub is_new_if : (f : Found) → must_be_new f ≡ None → f.ino ≡ None
is_new_if f met = no_find f.ino (or_parts (is_found f) (is_special f) (unrefused EEXIST (is_found f || is_special f) met)).0

-- ---- a new node

module _ (c : Scene) (is : IsScene c) (name : IsNameAt c.state.room c.state.tree c.first.dir_ino c.first.name None) (met : no_names c c.first ≡ None)
    (n : ℕ) (positive : 1 ≤ n) (below : n < c.state.room.inodes) (none : node_at c.state.tree n ≡ None) where
  abbrev Geometry : Node
  Geometry = dir_node c c.first

  pub dir_at : node_at c.state.tree c.first.dir_ino ≡ Some (dir_node c c.first)
  dir_at = (dir_is_there c.state.tree c.first.dir_ino c.first.name None name).0

  has_room : length (names_of_body (dir_node c c.first).body) < c.state.room.entries_limit
  has_room =
      let full : nat_le c.state.room.entries_limit (length (names_of_body (dir_node c c.first).body)) ≡ false = unrefused ENOSPC _ met in
      grind (arith, nat_tests)

  pub adds : (new : Node) → IsNewborn c.state.room c.state.tree new
      → AddsName c.state.room c.state.tree (with_node c.state.tree n new) c.first.dir_ino (dir_node c c.first) c.first.name n new
  adds new newborn =
      let x = dir_is_there c.state.tree c.first.dir_ino c.first.name None name in
      makes_name c.state.room is.state.room.some_names c.state.tree c.first.dir_ino (dir_node c c.first) c.first.name n new is.state.tree
      (record { stands = x.0; is_dir = x.1; is_new = x.2; has_room = has_room; is_name = name.is_name; short = name.short; bytes = name.bytes })
      positive below none newborn

  abbrev made : Node → Tree
  made new = changed c.state.tree (Make c.first.dir_ino c.first.name n new)

  pub made_is : (new : Node) → IsNewborn c.state.room c.state.tree new
      → made new ≡ renamed (with_node c.state.tree n new) c.first.dir_ino (dir_node c c.first) (with_entry name_cmp (names_of_body (dir_node c c.first).body) c.first.name n)
  made_is new newborn =
      let a = adds new newborn in
      let ne : c.first.dir_ino ≢ n = a.apart c.first.dir_ino (record { node = dir_node c c.first; is_there = a.takes.stands; directory = a.takes.is_dir }) in
      named_is (with_node c.state.tree n new) c.first.dir_ino (dir_node c c.first) c.first.name n (at_others c.state.tree n new c.first.dir_ino ne ∙ dir_at)

  made_is_tree : (new : Node) → IsNewborn c.state.room c.state.tree new → IsTree c.state.room (made new)
  made_is_tree new newborn =
      subst (IsTree c.state.room) (sym (made_is new newborn))
      (added_is_tree c.state.room c.state.tree (with_node c.state.tree n new) c.first.dir_ino (dir_node c c.first) c.first.name n new is.state.tree (adds new newborn))

  made_keeps_types : (new : Node) → IsNewborn c.state.room c.state.tree new → KeepsTypes c.state.tree (made new)
  made_keeps_types new newborn =
      subst (KeepsTypes c.state.tree) (sym (made_is new newborn))
      (added_keeps_types c.state.room c.state.tree (with_node c.state.tree n new) c.first.dir_ino (dir_node c c.first) c.first.name n new is.state.tree (adds new newborn))

  -- the new node stands in the tree
  made_at : (new : Node) → IsNewborn c.state.room c.state.tree new → node_at (made new) n ≡ Some new
  made_at new newborn =
      let a = adds new newborn in
      let ne : n ≢ c.first.dir_ino = (λ e. a.apart c.first.dir_ino (record { node = dir_node c c.first; is_there = a.takes.stands; directory = a.takes.is_dir }) (sym e)) in
      ap (λ t. node_at t n) (made_is new newborn)
      ∙ at_others (with_node c.state.tree n new) c.first.dir_ino (renamed_node (dir_node c c.first) (with_entry name_cmp (names_of_body (dir_node c c.first).body) c.first.name n)) n ne
      ∙ at_it c.state.tree n new

  made_fits : (new : Node) (reply : Reply) → IsNewborn c.state.room c.state.tree new
      → EffectFits c.state (record { change = Make c.first.dir_ino c.first.name n new; process = c.process; reply = reply })
  made_fits new reply newborn =
      let types = made_keeps_types new newborn in
      record { tree = made_is_tree new newborn; types = types; process = process_moves c.state.tree (made new) types c.process is.process }

  pub small_group : (dir_node c c.first).group < 2 ^ 32
  small_group = (is.state.tree.each c.first.dir_ino (dir_node c c.first) dir_at).group

  pub mkdir_fits : (mode : ℕ) → EffectFits c.state (mkdir_effect mode c n)
  mkdir_fits mode =
      made_fits (born_directory c.process.cred c.process.umask mode (dir_node c c.first)) Done
      (directory_is_born c.state.room c.state.tree c.process.cred is.process.cred (dir_node c c.first) small_group c.process.umask mode
      (is.state.tree.each c.first.dir_ino (dir_node c c.first) dir_at).body)

  pub symlink_fits : (target : List ℕ) → IsTarget target → EffectFits c.state (symlink_effect target c n)
  symlink_fits target valid =
      made_fits (born_link c.process.cred target (dir_node c c.first)) Done
      (link_is_born c.state.room c.state.tree c.process.cred is.process.cred (dir_node c c.first) small_group target valid)

  -- a new file, and its descriptor
  pub open_new_fits : (flags : Flags) (mode : ℕ) (path : List ℕ) → c.first.ino ≡ None → AreMet (open_early flags path c.process)
      → EffectFits c.state (open_effect flags mode c n)
  open_new_fits flags mode path absent asked =
      let file = born_file c.process.cred c.process.umask mode (dir_node c c.first) in
      let newborn =
      file_is_born c.state.room c.state.tree c.process.cred is.process.cred (dir_node c c.first) small_group c.process.umask mode
      (is.state.tree.each c.first.dir_ino (dir_node c c.first) dir_at).body in
      let types = made_keeps_types file newborn in
      let moved = process_moves c.state.tree (made file) types c.process is.process in
      let full : nat_le descriptors_limit (length c.process.descriptors) ≡ false = unrefused EMFILE _ asked.1.0 in
      let few : length c.process.descriptors < descriptors_limit = grind (arith, nat_tests) in
      let least = least_is_low 0 c.process.descriptors in
      let process : IsProcess (made file) (open_process c.process flags n) =
      with_descriptor_fits (made file) c.process moved (least_unused 0 c.process.descriptors)
      (record { ino = n; offset = 0; read = flags.read; write = flags.write; append = flags.append })
      (record {
        below = omega (arith, least, few);
        offset = omega arith;
        node = file;
        is_there = made_at file newborn;
        no_link = refl;
        no_writes = λ directory. absurd cc;
      }) in
      fits_as c.state (record { change = Make c.first.dir_ino c.first.name n file; process = open_process c.process flags n; reply = Fd 0 })
      (open_effect flags mode c n)
      (ap (λ o. cond (not (is_some o)) (Make c.first.dir_ino c.first.name n file)
      (cond (flags.trunc && flags.write) (Rewrite Modified (found_ino c.first) (record (node_found c c.first) { body = with_bytes [] (body_found c c.first) })) Same)) absent)
      (ap (λ o. open_process c.process flags (unwrap_or o n)) absent)
      (record { tree = made_is_tree file newborn; types = types; process = process })

-- ---- a symbolic link's target

some_bytes : (bytes : List ℕ) → is_empty bytes ≡ false → 1 ≤ length bytes
some_bytes [] h = absurd cc
some_bytes (b ∷ bytes) h = omega arith

pub target_is : (target : List ℕ) → IsBytes target → AreMet (symlink_arguments target) → IsTarget target
target_is target bytes met =
    let long : nat_lt target_limit (length target) ≡ false = unrefused ENAMETOOLONG _ met.1.1.0 in
    record {
      some = some_bytes target (unrefused ENOENT (is_empty target) met.0);
      short = grind (arith, nat_tests);
      bytes = bytes;
      no_zero = list_any_false target (unrefused EINVAL (list_any (λ b. b == 0) target) met.1.0);
    }
  where
    list_any_false : (xs : List ℕ) → list_any (λ b. b == 0) xs ≡ false → All (λ b. b ≢ 0) xs
    list_any_false xs h = All-from_recursion (λ b. b ≢ 0) xs (by_recursion xs h)
      where
        by_recursion : (xs : List ℕ) → list_any (λ b. b == 0) xs ≡ false → AllByRecursion (λ b. b ≢ 0) xs
        by_recursion [] h = tt
        by_recursion (b ∷ xs) h = go (b == 0) refl h (λ k. by_recursion xs k)
          where
            go : (t : Bool) → (b == 0) ≡ t → (t || list_any (λ b. b == 0) xs) ≡ false → (list_any (λ b. b == 0) xs ≡ false → AllByRecursion (λ b. b ≢ 0) xs)
                → AllByRecursion (λ b. b ≢ 0) (b ∷ xs)
            go true e h rest = absurd cc
            go false e h rest = ((λ zero. let t : (b == 0) ≡ true = grind (arith, nat_tests) in cc), rest h)

-- ---- link

pub link_fits : (c : Scene) → IsScene c → IsNameAt c.state.room c.state.tree c.second.dir_ino c.second.name None → AreMet (link_demands c)
    → EffectFits c.state (link_effect c)
link_fits c is name met =
    let t = c.state.tree in
    let n = found_ino c.first in
    let found = is_found_if c.first met.0 in
    let target = node_found c c.first in
    let dir_ino = c.second.dir_ino in
    let directory = dir_node c c.second in
    let x = dir_is_there t dir_ino c.second.name None name in
    let no_directory : is_directory target.body ≡ false = and_false (is_found c.first) (is_directory target.body) (unrefused EPERM (is_directory_found c c.first) met.1.1.0) found in
    let many : nat_le c.state.room.names_limit (names_of t n) ≡ false = link_count_met c.state.room.names_limit (names_of t n) met.1.1.1.1.1.1.0 in
    let few : names_of t n < c.state.room.names_limit = grind (arith, nat_tests) in
    let full : nat_le c.state.room.entries_limit (length (names_of_body directory.body)) ≡ false = unrefused ENOSPC _ met.1.1.1.1.1.1.1.1.0 in
    let free : length (names_of_body directory.body) < c.state.room.entries_limit = grind (arith, nat_tests) in
    let adds =
    gives_name c.state.room t dir_ino directory c.second.name n target is.state.tree (record {
      takes = record { stands = x.0; is_dir = x.1; is_new = x.2; has_room = free; is_name = name.is_name; short = name.short; bytes = name.bytes };
      there = first_at c is found;
      no_directory = no_directory;
      few = few;
    }) in
    let u : changed t (AddName dir_ino c.second.name n) ≡ renamed t dir_ino directory (with_entry name_cmp (names_of_body directory.body) c.second.name n) =
    named_is t dir_ino directory c.second.name n x.0 in
    let tree : IsTree c.state.room (changed t (AddName dir_ino c.second.name n)) =
    subst (IsTree c.state.room) (sym u) (added_is_tree c.state.room t t dir_ino directory c.second.name n target is.state.tree adds) in
    let types : KeepsTypes t (changed t (AddName dir_ino c.second.name n)) =
    subst (KeepsTypes t) (sym u) (added_keeps_types c.state.room t t dir_ino directory c.second.name n target is.state.tree adds) in
    record { tree = tree; types = types; process = process_moves t (changed t (AddName dir_ino c.second.name n)) types c.process is.process }
