-- One name more: a directory gets a name for a node that is new, or for one that is no directory.
use Rattle.std.specs.Prelude.{◌≡◌, ◌≢◌, ℕ, ◌+◌, ◌<◌, ◌≤◌, Bool, true, false, cond, List, length, None, Some, is_some, IsTrue, IsFalse, ◌⊎◌}
use Rattle.std.proofs.Common.{refl, sym, ap, arith, ◌∙◌, subst, inl, inr}
use Rattle.std.proofs.lemmas.Bool.{cases_eq}
use Rattle.std.specs.Ordering.{nat_cmp, eq_by_cmp}
use Rattle.fs_layout.specs.Bytes.{IsBytes}
use Rattle.fs_layout.specs.Directories.{IsName}
use Rattle.fs_model.specs.Limits.{root}
use Rattle.fs_layout.specs.Maps.{get, name_cmp, with_entry, IsMap}
use Rattle.fs_model.specs.Nodes.{Node, Body, File, Dir, Link, is_directory, names_of_body, with_names}
use Rattle.fs_model.specs.Trees.{Tree, Room, node_at, names_of, parent, NamesFit, IsBody, IsEntry, IsUnderRoot, is_in, IsNode, IsDirectoryAt, IsTree}
use Rattle.fs_model.proofs.Finds.{IsThere}
use Rattle.fs_layout.proofs.MapLaws.{with_entry-IsMap}
use Rattle.fs_layout.proofs.NameMaps.{Names, leading, once_if, once_same, once_other, get-with_name, with_name-IsMap, length-with_name, leading-with_name, tied_names}
use Rattle.fs_model.proofs.StepsFound.{IsNameAt}
use Rattle.fs_model.proofs.StepsKinds.{KeepsTypes, types_stay, directory_moves, same_fit}
use Rattle.fs_model.proofs.Moves.{entry_moves, body_moves, FitsRoom, fits_room, node_from}
use Rattle.fs_model.proofs.StepsNaming.{leading_stays, renamed_node, renamed, at_it, at_others, still_there, names_there, names_elsewhere, names_of-renamed, renamed_keeps_types, types_compose, type_with_names, AreNames, body_renamed, are_names}
use Rattle.fs_model.proofs.StepsParents.{names_at, parent_is, parent_kept, under_all, directory_named, parent_at, under_root}

-- a directory takes a name: it is new there, and there is room
pub record TakesNewName (room : Room) (t : Tree) (dir_ino : ℕ) (directory : Node) (name : List ℕ) : Type 0 where
  pub stands : node_at t dir_ino ≡ Some directory
  pub is_dir : IsTrue (is_directory directory.body)
  pub is_new : get name_cmp (names_of_body directory.body) name ≡ None
  pub has_room : length (names_of_body directory.body) < room.entries_limit
  pub is_name : IsName name
  pub short : length name ≤ room.name_limit
  pub bytes : IsBytes name

-- as it does where no entry of it has the name
pub takes_new : {room : Room} {t : Tree} {dir_ino : ℕ} {name : List ℕ} (x : IsNameAt room t dir_ino name None)
    → length (names_of_body x.node.body) < room.entries_limit → TakesNewName room t dir_ino x.node name
takes_new x few = record { stands = x.stands; is_dir = x.directory; is_new = x.leads; has_room = few; is_name = x.is_name; short = x.short; bytes = x.bytes }

-- From t, or from t with a new node in it, which is w: a name is added in a directory.
pub record AddsName (room : Room) (t w : Tree) (dir_ino : ℕ) (directory : Node) (name : List ℕ) (n : ℕ) (target : Node) : Type 0 where
  pub numbers : IsMap nat_cmp w
  pub here : node_at w n ≡ Some target
  pub others : (m : ℕ) → m ≢ n → node_at w m ≡ node_at t m
  pub still : (m : ℕ) → IsThere t m → IsThere w m
  pub names : (k : ℕ) → names_at w k ≡ names_at t k
  pub counts : (x : ℕ) → names_of w x ≡ names_of t x
  pub types : KeepsTypes t w
  pub takes : TakesNewName room t dir_ino directory name
  pub apart : (d : ℕ) → IsDirectoryAt t d → d ≢ n
  pub fits_room : FitsRoom room n target.owner target.group target.stamps
  pub body : IsBody room t target.body
  pub fits : NamesFit room n target.body (names_of t n + 1)
  pub unnamed : IsTrue (is_directory target.body) → names_of t n ≡ 0

module _ (room : Room) (t w : Tree) (dir_ino : ℕ) (directory : Node) (name : List ℕ) (n : ℕ) (target : Node) (is : IsTree room t) (adds : AddsName room t w dir_ino directory name n target) where
  abbrev new : Names
  new = with_entry name_cmp (names_of_body directory.body) name n

  abbrev u : Tree
  u = renamed w dir_ino directory (with_entry name_cmp (names_of_body directory.body) name n)

  pub dir_apart : dir_ino ≢ n
  dir_apart = adds.apart dir_ino (record { node = directory; is_there = adds.takes.stands; directory = adds.takes.is_dir })

  pub stands_then : node_at w dir_ino ≡ Some directory
  stands_then = adds.others dir_ino dir_apart ∙ adds.takes.stands

  pub more : (x : ℕ) → leading x new ≡ leading x (names_of_body directory.body) + once_if n x
  more x = leading-with_name (names_of_body directory.body) name n x adds.takes.is_new

  pub count : (x : ℕ) → names_of u x ≡ names_of t x + once_if n x
  count x =
      let all = names_of-renamed w dir_ino directory new adds.takes.is_dir adds.numbers stands_then x in
      let was = adds.counts x in
      let one = more x in
      omega (arith, all, was, one)

  pub count_other : (x : ℕ) → x ≢ n → names_of u x ≡ names_of t x
  count_other x ne = let all = count x in let none = once_other n x (λ e. ne (sym e)) in omega (arith, all, none)

  there : (m : ℕ) → IsThere t m → IsThere u m
  there m h = still_there w dir_ino (renamed_node directory new) m (adds.still m h)

  pub added_keeps_types : KeepsTypes t u
  added_keeps_types = types_compose t w u adds.types (renamed_keeps_types w dir_ino directory new stands_then)

  -- ---- names

  names_kept : (x k : ℕ) → 1 ≤ leading x (names_at t k) → 1 ≤ leading x (names_at u k)
  names_kept x k some = elim (cases_eq k dir_ino) [
    | inl e ↦ leading_stays w dir_ino directory new adds.takes.is_dir t x k e adds.takes.stands (λ some. let one = more x in omega (arith, one, some)) some
    | inr ne ↦
        let same : names_at u k ≡ names_at t k = names_elsewhere w dir_ino directory new adds.takes.is_dir k ne ∙ adds.names k in
        subst (λ q. 1 ≤ leading x q) (sym same) some
  ]

  entry_is : (q : List ℕ) (k : ℕ) → get name_cmp new q ≡ Some k → IsEntry room u q k
  entry_is q k e = go (eq_by_cmp name_cmp q name) refl (sym (get-with_name (names_of_body directory.body) name n q) ∙ e)
    where
      go : (b : Bool) → eq_by_cmp name_cmp q name ≡ b → cond b (Some n) (get name_cmp (names_of_body directory.body) q) ≡ Some k → IsEntry room u q k
      go true t i =
          let same : q ≡ name = tied_names q name t in
          let it : n ≡ k = cc in
          subst (IsEntry room u q) it (subst (λ z. IsEntry room u z n) (sym same) (record {
            is_name = adds.takes.is_name;
            short = adds.takes.short;
            bytes = adds.takes.bytes;
            leads = (
              (λ e. adds.apart root is.root_is_there (sym e)),
              still_there w dir_ino (renamed_node directory new) n (ap is_some adds.here),
            );
          }))
      go false f i =
          entry_moves room t u q k (there k) ((are_names room t directory.body (is.each dir_ino directory adds.takes.stands).body).each q k i)

  are_new : AreNames room u new
  are_new =
      let were = are_names room t directory.body (is.each dir_ino directory adds.takes.stands).body in
      record {
        rising = with_name-IsMap (names_of_body directory.body) name n were.rising;
        few =
            let len = length-with_name (names_of_body directory.body) name n were.rising adds.takes.is_new in
            let free = adds.takes.has_room in
            omega (arith, len, free);
        each = entry_is;
      }

  -- ---- up to the root

  step : (x : ℕ) → IsDirectoryAt t x → x ≢ root → IsUnderRoot u x ⊎ ((parent u x ≡ parent t x) × IsDirectoryAt t (parent t x))
  step x d ne =
      let one = directory_named room t is x d ne in
      let still = count_other x (adds.apart x d) in
      inr (
        parent_kept t u x is.numbers (omega (arith, one)) (omega (arith, one, still)) (names_kept x (parent t x)),
        parent_at room t is x d ne,
      )

  climbs : (x : ℕ) → IsDirectoryAt t x → IsUnderRoot u x
  climbs x d = under_all t u (IsDirectoryAt t) step d (under_root room t is x d)

  -- what had no name is named here
  pub new_parent : names_of t n ≡ 0 → parent u n ≡ dir_ino
  new_parent none =
      let one = once_same n n refl in
      let all = count n in
      let led = more n in
      let names : names_at u dir_ino ≡ new = names_there w dir_ino directory new adds.takes.is_dir in
      let some : 1 ≤ leading n (names_at u dir_ino) = (let same : leading n (names_at u dir_ino) ≡ leading n new = ap (leading n) names in omega (arith, same, led, one)) in
      parent_is u dir_ino n some (omega (arith, all, none, one))

  new_climbs : IsTrue (is_directory target.body) → IsUnderRoot u n
  new_climbs d =
      is_in n (subst (IsUnderRoot u) (sym (new_parent (adds.unnamed d))) (climbs dir_ino (record { node = directory; is_there = adds.takes.stands; directory = adds.takes.is_dir })))

  -- ---- all nodes

  dir_is : IsNode room u dir_ino (renamed_node directory new)
  dir_is =
      let was = is.each dir_ino directory adds.takes.stands in
      let type = type_with_names new directory.body in
      node_from room u dir_ino (renamed_node directory new) (fits_room was) (body_renamed room t u directory.body new adds.takes.is_dir are_new was.body)
      (same_fit room dir_ino (names_of u dir_ino) (with_names new directory.body) directory.body type (subst (NamesFit room dir_ino directory.body) (sym (count_other dir_ino dir_apart)) was.names))
      (λ d. climbs dir_ino (record { node = directory; is_there = adds.takes.stands; directory = adds.takes.is_dir }))

  target_is : IsNode room u n target
  target_is =
      node_from room u n target adds.fits_room (body_moves room t u target.body there adds.body)
      (let all = count n in let one = once_same n n refl in let same : names_of t n + 1 ≡ names_of u n = omega (arith, all, one) in subst (NamesFit room n target.body) same adds.fits)
      new_climbs

  other_is : (m : ℕ) (node : Node) → m ≢ n → node_at t m ≡ Some node → IsNode room u m node
  other_is m node ne at =
      let was = is.each m node at in
      node_from room u m node (fits_room was) (body_moves room t u node.body there was.body) (subst (NamesFit room m node.body) (sym (count_other m ne)) was.names)
      (λ d. climbs m (record { node = node; is_there = at; directory = d }))

  node_is : (m : ℕ) (node : Node) → node_at u m ≡ Some node → IsNode room u m node
  node_is m node at = elim (cases_eq m dir_ino) [
    | inl e ↦
        let here : node_at u m ≡ Some (renamed_node directory new) = ap (node_at u) e ∙ at_it w dir_ino (renamed_node directory new) in
        let same : renamed_node directory new ≡ node = cc in
        subst (IsNode room u m) same (subst (λ k. IsNode room u k (renamed_node directory new)) (sym e) dir_is)
    | inr ne ↦
        let was : node_at w m ≡ Some node = sym (at_others w dir_ino (renamed_node directory new) m ne) ∙ at in
        elim (cases_eq m n) [
          | inl e ↦
              let here : node_at w m ≡ Some target = ap (node_at w) e ∙ adds.here in
              let same : target ≡ node = cc in
              subst (IsNode room u m) same (subst (λ k. IsNode room u k target) (sym e) target_is)
          | inr other ↦ other_is m node other (sym (adds.others m other) ∙ was)
        ]
  ]

  pub added_is_tree : IsTree room u
  added_is_tree = record {
    numbers = with_entry-IsMap w dir_ino (renamed_node directory new) adds.numbers;
    root_is_there = directory_moves t u added_keeps_types root is.root_is_there;
    each = node_is;
  }

-- ---- a name for what is no directory

pub record GivesName (room : Room) (t : Tree) (dir_ino : ℕ) (directory : Node) (name : List ℕ) (n : ℕ) (target : Node) : Type 0 where
  pub takes : TakesNewName room t dir_ino directory name
  pub there : node_at t n ≡ Some target
  pub no_directory : IsFalse (is_directory target.body)
  pub few : names_of t n < room.names_limit

one_name_more : (room : Room) (n : ℕ) (b : Body) (names : ℕ) → IsFalse (is_directory b) → names < room.names_limit → NamesFit room n b (names + 1)
one_name_more room n (File a bytes) names d few = omega (arith, few)
one_name_more room n (Dir a dir_ino) names d few = absurd cc
one_name_more room n (Link target) names d few = (omega arith, omega (arith, few))

pub gives_name : (room : Room) (t : Tree) (dir_ino : ℕ) (directory : Node) (name : List ℕ) (n : ℕ) (target : Node) → IsTree room t
    → GivesName room t dir_ino directory name n target → AddsName room t t dir_ino directory name n target
gives_name room t dir_ino directory name n target is gives =
    let node = is.each n target gives.there in
    record {
      numbers = is.numbers;
      here = gives.there;
      others = λ m ne. refl;
      still = λ m there. there;
      names = λ k. refl;
      counts = λ k. refl;
      types = types_stay t;
      takes = gives.takes;
      apart = apart;
      fits_room = fits_room node;
      body = node.body;
      fits = one_name_more room n target.body (names_of t n) gives.no_directory gives.few;
      unnamed = λ d. absurd (let other = gives.no_directory in cc);
    }
  where
    apart : (d : ℕ) → IsDirectoryAt t d → d ≢ n
    apart d at e =
        let here : node_at t n ≡ Some at.node = ap (node_at t) (sym e) ∙ at.is_there in
        let there = gives.there in
        let same : at.node ≡ target = cc in
        let directory : is_directory target.body ≡ true = ap (λ v. is_directory v.body) (sym same) ∙ at.directory in
        let other = gives.no_directory in
        cc
