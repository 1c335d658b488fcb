-- Calls that make, take and move names are confined.
use Rattle.fs_model.specs.declared.touch.Touch.TheVariants.{Modified}
use Rattle.fs_model.specs.declared.reply.Stamps.{Stamps}
use Rattle.std.specs.Prelude.{◌≡◌, ℕ, Bool, true, false, cond, if◌then◌else◌, List, [], ◌∷◌, ◌++◌, Option, None, Some, unwrap_or}
use Rattle.std.proofs.Common.{refl, sym, ap, ◌∙◌, subst}
use Rattle.std.specs.Option.{option_map}
use Rattle.fs_model.specs.declared.call.Call.{Call}
use Rattle.fs_model.specs.declared.call.Call.TheVariants.{Mkdir, Rmdir, Link as LinkCall, Symlink, Unlink, Rename}
use Rattle.fs_layout.specs.Maps.{name_cmp, with_entry, without}
use Rattle.fs_model.specs.Nodes.{Node, Body, File, Dir, Link, names_of_body, with_names}
use Rattle.fs_model.specs.Trees.{Tree, Room, node_at, with_node, lookup, lookup_in}
use Rattle.fs_model.specs.Processes.{Process}
use Rattle.fs_model.specs.Births.{the_node, the_directory, born_directory, born_link}
use Rattle.fs_model.specs.TreeChanges.{Change, Same, Rewrite, Make, AddName, TakeName, MoveName, changed, touches, changed_at, named, unnamed, with_names_at}
use Rattle.fs_model.specs.Alike.{sees_into, node_seen, tree_seen}
use Rattle.fs_model.specs.Rows.{row_of}
use Rattle.fs_model.specs.Scenes.{Scene, Row, dir_node}
use Rattle.fs_model.specs.RenameCall.{is_same}
use Rattle.fs_model.proofs.Veils.{veiled, names_in-blotted, directory_in-blotted}
use Rattle.fs_model.proofs.VeiledScenes.{veiled_scene, the_node-veil}
use Rattle.fs_model.proofs.SeenTrees.{node_at-seen, with_node-seen, tree_seen-less, sees_no_more}
use Rattle.fs_model.proofs.ConfinedSteps.{seen_scene, IsConfinedAt, Confines}
use Rattle.fs_model.proofs.ConfinedLooks.{by_veil}

module _ (p : Process) where
  -- ---- names in what is seen

  module _ (g : List (List ℕ × ℕ) → List (List ℕ × ℕ)) (dir_ino : ℕ) where
    abbrev renamed : Node → Node
    renamed node = record node { body = with_names (g (names_of_body node.body)) node.body }

    renamed_seen : (owner group : ℕ) (stamps : Stamps) (body : Body)
        → node_seen p dir_ino (renamed (record { owner = owner; group = group; stamps = stamps; body = body })) ≡ renamed (node_seen p dir_ino (record { owner = owner; group = group; stamps = stamps; body = body }))
    renamed_seen owner group stamps (File a bytes) = go (sees_into p dir_ino (record { owner = owner; group = group; stamps = stamps; body = File a bytes }))
      where
        go : (b : Bool) → cond b (record { owner = owner; group = group; stamps = stamps; body = File a bytes }) (veiled (record { owner = owner; group = group; stamps = stamps; body = File a bytes }))
            ≡ renamed (cond b (record { owner = owner; group = group; stamps = stamps; body = File a bytes }) (veiled (record { owner = owner; group = group; stamps = stamps; body = File a bytes })))
        go true = refl
        go false = refl
    renamed_seen owner group stamps (Dir a d) = go (sees_into p dir_ino (record { owner = owner; group = group; stamps = stamps; body = Dir a d }))
      where
        go : (b : Bool) → cond b (renamed (record { owner = owner; group = group; stamps = stamps; body = Dir a d })) (veiled (renamed (record { owner = owner; group = group; stamps = stamps; body = Dir a d })))
            ≡ renamed (cond b (record { owner = owner; group = group; stamps = stamps; body = Dir a d }) (veiled (record { owner = owner; group = group; stamps = stamps; body = Dir a d })))
        go true = refl
        go false = refl
    renamed_seen owner group stamps (Link target) = go (sees_into p dir_ino (record { owner = owner; group = group; stamps = stamps; body = Link target }))
      where
        go : (b : Bool) → cond b (record { owner = owner; group = group; stamps = stamps; body = Link target }) (veiled (record { owner = owner; group = group; stamps = stamps; body = Link target }))
            ≡ renamed (cond b (record { owner = owner; group = group; stamps = stamps; body = Link target }) (veiled (record { owner = owner; group = group; stamps = stamps; body = Link target })))
        go true = refl
        go false = refl

    names_seen : (t : Tree) → with_names_at (tree_seen p t) dir_ino g (node_at (tree_seen p t) dir_ino) ≡ tree_seen p (with_names_at t dir_ino g (node_at t dir_ino))
    names_seen t = ap (with_names_at (tree_seen p t) dir_ino g) (node_at-seen p t dir_ino) ∙ go (node_at t dir_ino)
      where
        go : (o : Option Node) → with_names_at (tree_seen p t) dir_ino g (option_map (node_seen p dir_ino) o) ≡ tree_seen p (with_names_at t dir_ino g o)
        go None = refl
        go (Some x) = ap (with_node (tree_seen p t) dir_ino) (sym (renamed_seen x.owner x.group x.stamps x.body)) ∙ sym (with_node-seen p t dir_ino (renamed x))

  lookup_seen : (t : Tree) (dir_ino : ℕ) (name : List ℕ) → lookup (tree_seen p t) dir_ino name ≡ lookup t dir_ino name
  lookup_seen t dir_ino name = ap (λ o. lookup_in o name) (node_at-seen p t dir_ino) ∙ go (node_at t dir_ino)
    where
      at : (b : Bool) (x : Node) → lookup_in (Some (cond b x (veiled x))) name ≡ lookup_in (Some x) name
      at true x = refl
      at false x = ap (λ ns. Rattle.fs_layout.specs.Maps.get name_cmp ns name) (names_in-blotted x.body)

      go : (o : Option Node) → lookup_in (option_map (node_seen p dir_ino) o) name ≡ lookup_in o name
      go None = refl
      go (Some x) = at (sees_into p dir_ino x) x

  -- whose times move depends on no byte
  touches_seen : (room : Room) (t : Tree) (change : Change) → touches room (tree_seen p t) change ≡ touches room t change
  touches_seen room t Same = refl
  touches_seen room t (Rewrite touch n node) = refl
  touches_seen room t (Make dir_ino name n node) = refl
  touches_seen room t (AddName dir_ino name n) = refl
  touches_seen room t (TakeName dir_ino name) = ap (λ o. if room.keeps_times then (dir_ino, Modified) ∷ changed_at o else []) (lookup_seen t dir_ino name)
  touches_seen room t (MoveName dir_ino name to_dir_ino to_name) =
      ap (λ o. if room.keeps_times then (dir_ino, Modified) ∷ (to_dir_ino, Modified) ∷ (changed_at o ++ changed_at (lookup (tree_seen p t) to_dir_ino to_name)) else []) (lookup_seen t dir_ino name)
      ∙ ap (λ o. if room.keeps_times then (dir_ino, Modified) ∷ (to_dir_ino, Modified) ∷ (changed_at (lookup t dir_ino name) ++ changed_at o) else []) (lookup_seen t to_dir_ino to_name)

  -- ---- changes in what is seen

  abbrev pub IsKept : Change → Type 0
  IsKept change = (t : Tree) → tree_seen p (changed (tree_seen p t) change) ≡ tree_seen p (changed t change)

  twice : (t : Tree) → tree_seen p (tree_seen p t) ≡ tree_seen p t
  twice t = tree_seen-less p p t (sees_no_more p p (λ n node e. e) t)

  same_kept : IsKept Same
  same_kept t = twice t

  taken_kept : (dir_ino : ℕ) (name : List ℕ) → IsKept (TakeName dir_ino name)
  taken_kept dir_ino name t = ap (tree_seen p) (names_seen (λ names. without name_cmp names name) dir_ino t) ∙ twice (unnamed t dir_ino name)

  added_kept : (dir_ino : ℕ) (name : List ℕ) (n : ℕ) → IsKept (AddName dir_ino name n)
  added_kept dir_ino name n t = ap (tree_seen p) (names_seen (λ names. with_entry name_cmp names name n) dir_ino t) ∙ twice (named t dir_ino name n)

  moved_kept : (dir_ino : ℕ) (name : List ℕ) (to_dir_ino : ℕ) (to_name : List ℕ) → IsKept (MoveName dir_ino name to_dir_ino to_name)
  moved_kept dir_ino name to_dir_ino to_name t =
      let n = unwrap_or (lookup t dir_ino name) 0 in
      ap (λ o. tree_seen p (named (unnamed (tree_seen p t) dir_ino name) to_dir_ino to_name (unwrap_or o 0))) (lookup_seen t dir_ino name)
      ∙ ap (λ u. tree_seen p (named u to_dir_ino to_name n)) (names_seen (λ names. without name_cmp names name) dir_ino t)
      ∙ added_kept to_dir_ino to_name n (unnamed t dir_ino name)

  -- a node without bytes is made
  pub made_seen : (dir_ino : ℕ) (name : List ℕ) (n : ℕ) (node : Node) (t : Tree) → veiled node ≡ node
      → changed (tree_seen p t) (Make dir_ino name n node) ≡ tree_seen p (changed t (Make dir_ino name n node))
  made_seen dir_ino name n node t bare =
      ap (λ x. named (with_node (tree_seen p t) n x) dir_ino name n) (sym (go (sees_into p n node)))
      ∙ ap (λ u. named u dir_ino name n) (sym (with_node-seen p t n node))
      ∙ names_seen (λ names. with_entry name_cmp names name n) dir_ino (with_node t n node)
    where
      go : (b : Bool) → cond b node (veiled node) ≡ node
      go true = refl
      go false = bare

  made_kept : (dir_ino : ℕ) (name : List ℕ) (n : ℕ) (node : Node) → veiled node ≡ node → IsKept (Make dir_ino name n node)
  made_kept dir_ino name n node bare t = ap (tree_seen p) (made_seen dir_ino name n node t bare) ∙ twice (changed t (Make dir_ino name n node))

-- a row that changes names only, as no byte says
pub record IsNaming (row : Row) (number : ℕ) : Type 0 where
  pub change : (c : Scene) → (row.effect (veiled_scene c) number).change ≡ (row.effect c number).change
  pub process : (c : Scene) → (row.effect c number).process ≡ c.process
  pub reply : (c : Scene) → (row.effect (veiled_scene c) number).reply ≡ (row.effect c number).reply
  pub kept : (p : Process) (c : Scene) → IsKept p (row.effect c number).change

naming_confined : (c : Scene) (row : Row) (number : ℕ) → IsNaming row number → IsConfinedAt c row number
naming_confined c row number is =
    let u = c.state in
    let p = c.process in
    let q = is.process c in
    let change = by_veil (λ c. (row.effect c number).change) is.change c in
    record {
      process = is.process (seen_scene c) ∙ sym q;
      reply = by_veil (λ c. (row.effect c number).reply) is.reply c;
      moved = ap (touches u.room (tree_seen p u.tree)) change ∙ touches_seen p u.room u.tree (row.effect c number).change;
      tree = subst (λ q. tree_seen q (changed (tree_seen p u.tree) (row.effect (seen_scene c) number).change) ≡ tree_seen q (changed u.tree (row.effect c number).change))
          (sym q) (ap (λ ch. tree_seen p (changed (tree_seen p u.tree) ch)) change ∙ is.kept p c u.tree);
    }

name_by : (call : Call) → ((new : ℕ) → IsNaming (row_of call) new) → Confines call
name_by call is c new _ _ _ _ = naming_confined c (row_of call) new (is new)

pub unlink_confined : (path : List ℕ) → Confines (Unlink path)
unfolding row_of
unlink_confined path = name_by (Unlink path) (λ new. record { change = λ c. refl; process = λ c. refl; reply = λ c. refl; kept = λ p c. taken_kept p c.first.dir_ino c.first.name })

pub rmdir_confined : (path : List ℕ) → Confines (Rmdir path)
unfolding row_of
rmdir_confined path = name_by (Rmdir path) (λ new. record { change = λ c. refl; process = λ c. refl; reply = λ c. refl; kept = λ p c. taken_kept p c.first.dir_ino c.first.name })

pub link_confined : (old to : List ℕ) → Confines (LinkCall old to)
unfolding row_of
link_confined old to = name_by (LinkCall old to) (λ new. record { change = λ c. refl; process = λ c. refl; reply = λ c. refl; kept = λ p c. added_kept p c.second.dir_ino c.second.name (unwrap_or c.first.ino 0) })

pub rename_confined : (old to : List ℕ) → Confines (Rename old to)
unfolding row_of
rename_confined old to = name_by (Rename old to) (λ new. record { change = λ c. refl; process = λ c. refl; reply = λ c. refl; kept = λ p c. either p c (is_same c) })
  where
    either : (p : Process) (c : Scene) (b : Bool) → IsKept p (cond b Same (MoveName c.first.dir_ino c.first.name c.second.dir_ino c.second.name))
    either p c true = same_kept p
    either p c false = moved_kept p c.first.dir_ino c.first.name c.second.dir_ino c.second.name

pub dir_veil : (c : Scene) → the_directory (dir_node (veiled_scene c) c.first) ≡ the_directory (dir_node c c.first)
dir_veil c =
    ap the_directory (the_node-veil c.state.tree c.first.dir_ino)
    ∙ ap (λ o. unwrap_or o Rattle.fs_model.specs.Births.no_directory) (directory_in-blotted (dir_node c c.first).body)

pub group_veil : (c : Scene) → (dir_node (veiled_scene c) c.first).group ≡ (dir_node c c.first).group
group_veil c = ap (λ x. x.group) (the_node-veil c.state.tree c.first.dir_ino)

pub mkdir_confined : (path : List ℕ) (mode : ℕ) → Confines (Mkdir path mode)
unfolding row_of
mkdir_confined path mode = name_by (Mkdir path mode) (λ new. record {
  change = λ c. ap (Make c.first.dir_ino c.first.name new) (let a = dir_veil c in let b = group_veil c in cc);
  process = λ c. refl;
  reply = λ c. refl;
  kept = λ p c. made_kept p c.first.dir_ino c.first.name new (born_directory c.process.cred c.process.umask mode (dir_node c c.first)) refl;
})

pub symlink_confined : (target path : List ℕ) → Confines (Symlink target path)
unfolding row_of
symlink_confined target path = name_by (Symlink target path) (λ new. record {
  change = λ c. ap (Make c.first.dir_ino c.first.name new) (let a = dir_veil c in let b = group_veil c in cc);
  process = λ c. refl;
  reply = λ c. refl;
  kept = λ p c. made_kept p c.first.dir_ino c.first.name new (born_link c.process.cred target (dir_node c c.first)) refl;
})
