-- A name goes to another directory, or to another name, and what that led to loses it.
use Rattle.std.specs.Prelude.{◌≡◌, ◌≢◌, ℕ, ◌+◌, ◌<◌, ◌≤◌, Bool, true, false, not, cond, List, [], length, Option, None, Some, unwrap_or, IsTrue, ◌⊎◌}
use Rattle.std.proofs.Common.{refl, sym, ap, arith, ◌∙◌, subst, inl, inr}
use Rattle.std.proofs.lemmas.Bool.{cases_eq}
use Rattle.std.specs.Ordering.{nat_cmp, eq_by_cmp}
use Rattle.fs_layout.specs.Bytes.{IsBytes}
use Rattle.fs_layout.specs.Directories.{IsName}
use Rattle.fs_model.specs.Limits.{root}
use Rattle.fs_layout.specs.Maps.{get, name_cmp, with_entry, without, IsMap}
use Rattle.fs_model.specs.Nodes.{Node, Body, is_directory, names_of_body, with_names, type_of}
use Rattle.fs_model.specs.Trees.{Tree, Room, node_at, names_of, parent, lookup, lookup_in, IsBody, IsEntry, IsUnderRoot, is_in, IsDirectoryAt, IsTree}
use Rattle.fs_model.specs.Processes.{ProcessTable, is_in_use}
use Rattle.fs_model.specs.TreeChanges.{MoveName, with_names_at, named, unnamed, changed}
use Rattle.fs_model.proofs.Finds.{IsThere}
use Rattle.fs_layout.proofs.MapLaws.{with_entry-IsMap}
use Rattle.fs_layout.proofs.NameMaps.{Names, leading, once_if, once_same, once_other, tied_names, get-with_name, with_name-IsMap, length-with_name, get-without_name, length-without_name, leading-without_name, leading_if, length-set_name, lost_of, leading-set_name}
use Rattle.fs_model.proofs.StepsKinds.{same_directory}
use Rattle.fs_model.proofs.StepsLosing.{Stood, LosesNames}
use Rattle.fs_model.proofs.Moves.{entry_moves, body_moves}
use Rattle.fs_model.proofs.StepsNaming.{leading_stays, renamed_node, renamed, at_it, at_others, still_there, names_there, names_elsewhere, names_of-renamed, renamed_keeps_types, types_compose, type_with_names, AreNames, body_renamed, are_names}
use Rattle.fs_model.proofs.StepsParents.{names_or, names_at, parent_is, parent_kept, parent_names, under_all, directory_named, parent_at, under_root}
use Rattle.fs_model.proofs.StepsTaking.{once_is, are_names_without}
use Rattle.fs_model.proofs.StepsUp.{IsOutside, outside_differs, outside_above}

-- from a directory a name that leads to n goes to another directory, or another name
pub record MovesName (room : Room) (t : Tree) (processes : ProcessTable) (dir_ino : ℕ) (directory : Node) (name : List ℕ) (n : ℕ) (to_dir_ino : ℕ) (to_directory : Node) (to_name : List ℕ) (o : Option ℕ) : Type 0 where
  pub stands : node_at t dir_ino ≡ Some directory
  pub is_dir : IsTrue (is_directory directory.body)
  pub leads : get name_cmp (names_of_body directory.body) name ≡ Some n
  pub to_stands : node_at t to_dir_ino ≡ Some to_directory
  pub is_to_dir : IsTrue (is_directory to_directory.body)
  pub to_leads : get name_cmp (names_of_body to_directory.body) to_name ≡ o
  pub is_name : IsName to_name
  pub short : length to_name ≤ room.name_limit
  pub bytes : IsBytes to_name
  pub other : (m : ℕ) → o ≡ Some m → m ≢ n
  pub has_room : o ≡ None → dir_ino ≢ to_dir_ino → length (names_of_body to_directory.body) < room.entries_limit
  pub empty : (m : ℕ) → o ≡ Some m → IsDirectoryAt t m → names_at t m ≡ []
  pub unused : (m : ℕ) → o ≡ Some m → IsDirectoryAt t m → is_in_use processes m ≡ false
  pub outside : IsDirectoryAt t n → IsOutside t n to_dir_ino

-- what stood there stands in another tree, with a body of the same type
stood_with : {room : Room} {t u v : Tree} {n : ℕ} {node : Node} (s : Stood room t u n node) (b : Body) → type_of b ≡ type_of node.body → IsBody room v b
    → Stood room t v n (record node { body = b })
stood_with s b type body = record { old = s.old; was = s.was; same = type ∙ s.same; owner = s.owner; group = s.group; stamps = s.stamps; body = body }

-- the directory to which it goes, once the name is taken: as it was, or without the name
pub record Between (room : Room) (t v : Tree) (to_dir_ino : ℕ) (to_name : List ℕ) (o : Option ℕ) : Type 0 where
  pub node : Node
  pub here : node_at v to_dir_ino ≡ Some node
  pub directory : IsTrue (is_directory node.body)
  pub stood : Stood room t t to_dir_ino node
  pub leads : get name_cmp (names_of_body node.body) to_name ≡ o
  pub short : o ≡ None → length (names_of_body node.body) + 1 ≤ room.entries_limit

module _ (room : Room) (t : Tree) (processes : ProcessTable) (dir_ino : ℕ) (directory : Node) (name : List ℕ) (n : ℕ) (to_dir_ino : ℕ) (to_directory : Node) (to_name : List ℕ) (o : Option ℕ)
    (is : IsTree room t) (moves : MovesName room t processes dir_ino directory name n to_dir_ino to_directory to_name o) where
  abbrev less : Names
  less = without name_cmp (names_of_body directory.body) name

  abbrev v : Tree
  v = renamed t dir_ino directory (without name_cmp (names_of_body directory.body) name)

  pub were : AreNames room t (names_of_body directory.body)
  were = are_names room t directory.body (is.each dir_ino directory moves.stands).body

  v_there : (q : ℕ) → IsThere t q → IsThere v q
  v_there q h = still_there t dir_ino (renamed_node directory less) q h

  pub v_numbers : IsMap nat_cmp v
  v_numbers = with_entry-IsMap t dir_ino (renamed_node directory less) is.numbers

  -- the directory without the name
  stood_less : Stood room t t dir_ino (renamed_node directory less)
  stood_less = record {
    old = directory;
    was = moves.stands;
    same = type_with_names less directory.body;
    owner = refl;
    group = refl;
    stamps = refl;
    body =
        body_renamed room t t directory.body less moves.is_dir (are_names_without room t (names_of_body directory.body) name n were moves.leads)
        (is.each dir_ino directory moves.stands).body;
  }

  stood_itself : (q : ℕ) (node : Node) → node_at t q ≡ Some node → Stood room t t q node
  stood_itself q node at = record { old = node; was = at; same = refl; owner = refl; group = refl; stamps = refl; body = (is.each q node at).body }

  v_stood : (q : ℕ) (node : Node) → node_at v q ≡ Some node → Stood room t t q node
  v_stood q node at = elim (cases_eq q dir_ino) [
    | inl e ↦
        let here : node_at v q ≡ Some (renamed_node directory less) = ap (node_at v) e ∙ at_it t dir_ino (renamed_node directory less) in
        let same : renamed_node directory less ≡ node = cc in
        subst (Stood room t t q) same (subst (λ k. Stood room t t k (renamed_node directory less)) (sym e) stood_less)
    | inr ne ↦ stood_itself q node (sym (at_others t dir_ino (renamed_node directory less) q ne) ∙ at)
  ]

  names_less : names_of_body (with_names less directory.body) ≡ less
  names_less = sym (ap names_or (at_it t dir_ino (renamed_node directory less))) ∙ names_there t dir_ino directory less moves.is_dir

  -- in the same directory the name isn't the one that goes
  other_name : dir_ino ≡ to_dir_ino → get name_cmp less to_name ≡ o
  other_name e = get-without_name (names_of_body directory.body) name to_name ∙ go (eq_by_cmp name_cmp name to_name) refl
    where
      both : node_at t dir_ino ≡ Some to_directory
      both = ap (node_at t) e ∙ moves.to_stands

      leads_there : get name_cmp (names_of_body directory.body) to_name ≡ o
      leads_there =
          let stands = moves.stands in
          let also = both in
          let same : directory ≡ to_directory = cc in
          ap (λ d. get name_cmp (names_of_body d.body) to_name) same ∙ moves.to_leads

      go : (b : Bool) → eq_by_cmp name_cmp name to_name ≡ b → cond (not b) (get name_cmp (names_of_body directory.body) to_name) None ≡ o
      go false f = leads_there
      go true t =
          let same : name ≡ to_name = tied_names name to_name t in
          let it : o ≡ Some n = sym leads_there ∙ ap (get name_cmp (names_of_body directory.body)) (sym same) ∙ moves.leads in
          absurd (moves.other n it refl)

  pub between : Between room t v to_dir_ino to_name o
  between = elim (cases_eq dir_ino to_dir_ino) [
    | inl e ↦ record {
      node = renamed_node directory less;
      here = ap (node_at v) (sym e) ∙ at_it t dir_ino (renamed_node directory less);
      directory = same_directory (with_names less directory.body) directory.body (type_with_names less directory.body) ∙ moves.is_dir;
      stood = subst (λ k. Stood room t t k (renamed_node directory less)) e stood_less;
      leads = ap (λ ns. get name_cmp ns to_name) names_less ∙ other_name e;
      short = λ none.
          let len = length-without_name (names_of_body directory.body) name n were.rising moves.leads in
          let few = were.few in
          let same : length (names_of_body (with_names less directory.body)) ≡ length less = ap length names_less in
          omega (arith, len, few, same);
    }
    | inr ne ↦ record {
      node = to_directory;
      here = at_others t dir_ino (renamed_node directory less) to_dir_ino (λ e. ne (sym e)) ∙ moves.to_stands;
      directory = moves.is_to_dir;
      stood = stood_itself to_dir_ino to_directory moves.to_stands;
      leads = moves.to_leads;
      short = λ none. (let free = moves.has_room none ne in omega (arith, free));
    }
  ]

  abbrev new : Names
  new = with_entry name_cmp (names_of_body between.node.body) to_name n

  abbrev pub moved : Tree
  moved = renamed v to_dir_ino between.node (with_entry name_cmp (names_of_body between.node.body) to_name n)

  there : (q : ℕ) → IsThere t q → IsThere moved q
  there q h = still_there v to_dir_ino (renamed_node between.node new) q (v_there q h)

  between_are : AreNames room t (names_of_body between.node.body)
  between_are = are_names room t between.node.body between.stood.body

  -- ---- counts

  pub set : (x : ℕ) → leading x new + lost_of o x ≡ leading x (names_of_body between.node.body) + once_if n x
  set x = leading-set_name (names_of_body between.node.body) to_name n x o between_are.rising between.leads

  pub fewer : (x : ℕ) → leading x less + once_if n x ≡ leading x (names_of_body directory.body)
  fewer x = leading-without_name (names_of_body directory.body) name n x were.rising moves.leads

  count : (x : ℕ) → names_of moved x + lost_of o x ≡ names_of t x
  count x =
      let first = names_of-renamed t dir_ino directory less moves.is_dir is.numbers moves.stands x in
      let one = fewer x in
      let then = names_of-renamed v to_dir_ino between.node new between.directory v_numbers between.here x in
      let two = set x in
      omega (arith, first, one, then, two)

  -- ---- nodes

  entry_is : (q : List ℕ) (k : ℕ) → get name_cmp new q ≡ Some k → IsEntry room moved q k
  entry_is q k e = go (eq_by_cmp name_cmp q to_name) refl (sym (get-with_name (names_of_body between.node.body) to_name n q) ∙ e)
    where
      go : (b : Bool) → eq_by_cmp name_cmp q to_name ≡ b → cond b (Some n) (get name_cmp (names_of_body between.node.body) q) ≡ Some k → IsEntry room moved q k
      go true t i =
          let same : q ≡ to_name = tied_names q to_name t in
          let it : n ≡ k = cc in
          let old = (were.each name n moves.leads).leads in
          subst (IsEntry room moved q) it (subst (λ z. IsEntry room moved z n) (sym same) (record { is_name = moves.is_name; short = moves.short; bytes = moves.bytes; leads = (old.0, there n old.1) }))
      go false f i = entry_moves room t moved q k (there k) (between_are.each q k i)

  new_few : (p : Option ℕ) → o ≡ p → length new ≤ room.entries_limit
  new_few None e =
      let len = length-with_name (names_of_body between.node.body) to_name n between_are.rising (between.leads ∙ e) in
      let free = between.short e in
      omega (arith, len, free)
  new_few (Some k) e =
      let len = length-set_name (names_of_body between.node.body) to_name n k between_are.rising (between.leads ∙ e) in
      let few = between_are.few in
      omega (arith, len, few)

  are_new : AreNames room moved new
  are_new = record {
    rising = with_name-IsMap (names_of_body between.node.body) to_name n between_are.rising;
    few = new_few o refl;
    each = entry_is;
  }

  stood : (q : ℕ) (node : Node) → node_at moved q ≡ Some node → Stood room t moved q node
  stood q node at = elim (cases_eq q to_dir_ino) [
    | inl e ↦
        let here : node_at moved q ≡ Some (renamed_node between.node new) = ap (node_at moved) e ∙ at_it v to_dir_ino (renamed_node between.node new) in
        let same : renamed_node between.node new ≡ node = cc in
        let stands = stood_with between.stood (with_names new between.node.body) (type_with_names new between.node.body) (body_renamed room t moved between.node.body new between.directory are_new between.stood.body) in
        subst (Stood room t moved q) same (subst (λ k. Stood room t moved k (renamed_node between.node new)) (sym e) stands)
    | inr ne ↦
        let s = v_stood q node (sym (at_others v to_dir_ino (renamed_node between.node new) q ne) ∙ at) in
        stood_with s node.body refl (body_moves room t moved node.body there s.body)
  ]

  -- ---- names that stay

  kept_less : (x k : ℕ) → x ≢ n → 1 ≤ leading x (names_at t k) → 1 ≤ leading x (names_at v k)
  kept_less x k other some = elim (cases_eq k dir_ino) [
    | inl e ↦ leading_stays t dir_ino directory less moves.is_dir t x k e moves.stands (λ some. let one = fewer x in let none = once_other n x (λ e. other (sym e)) in omega (arith, one, none, some)) some
    | inr ne ↦ subst (λ q. 1 ≤ leading x q) (sym (names_elsewhere t dir_ino directory less moves.is_dir k ne)) some
  ]

  names_to : names_at moved to_dir_ino ≡ new
  names_to = names_there v to_dir_ino between.node new between.directory

  kept : (x k : ℕ) → x ≢ n → lost_of o x ≡ 0 → 1 ≤ leading x (names_at t k) → 1 ≤ leading x (names_at moved k)
  kept x k other none some = elim (cases_eq k to_dir_ino) [
    | inl e ↦
        leading_stays v to_dir_ino between.node new between.directory v x k e between.here (λ some. let one = set x in omega (arith, one, some, none))
        (kept_less x k other some)
    | inr ne ↦ subst (λ q. 1 ≤ leading x q) (sym (names_elsewhere v to_dir_ino between.node new between.directory k ne)) (kept_less x k other some)
  ]

  -- ---- what is lost

  -- a directory that names something isn't lost
  keeps_if : (p : Option ℕ) → o ≡ p → (x k : ℕ) → IsDirectoryAt t k → 1 ≤ leading x (names_at t k) → lost_of p k ≡ 0
  keeps_if None e x k d some = refl
  keeps_if (Some m) e x k d some =
      once_other m k (λ same.
      let at_m : IsDirectoryAt t m = subst (IsDirectoryAt t) (sym same) d in
      let none : leading x (names_at t k) ≡ 0 = ap (λ q. leading x (names_at t q)) (sym same) ∙ ap (leading x) (moves.empty m e at_m) in
      omega (arith, none, some))

  to_dir_at : IsDirectoryAt t to_dir_ino
  to_dir_at = record { node = to_directory; is_there = moves.to_stands; directory = moves.is_to_dir }

  pub to_dir_kept : (p : Option ℕ) → o ≡ p → lost_of p to_dir_ino ≡ 0
  to_dir_kept None e = refl
  to_dir_kept (Some m) e =
      let are = are_names room t to_directory.body (is.each to_dir_ino to_directory moves.to_stands).body in
      let some : 1 ≤ leading m (names_of_body to_directory.body) = leading_if (names_of_body to_directory.body) to_name m are.rising (moves.to_leads ∙ e) in
      let at : names_at t to_dir_ino ≡ names_of_body to_directory.body = ap names_or moves.to_stands in
      keeps_if (Some m) e m to_dir_ino to_dir_at (subst (λ q. 1 ≤ leading m q) (sym at) some)

  pub dir_kept : (p : Option ℕ) → o ≡ p → lost_of p dir_ino ≡ 0
  dir_kept p e =
      let some : 1 ≤ leading n (names_of_body directory.body) = leading_if (names_of_body directory.body) name n were.rising moves.leads in
      let at : names_at t dir_ino ≡ names_of_body directory.body = ap names_or moves.stands in
      keeps_if p e n dir_ino (record { node = directory; is_there = moves.stands; directory = moves.is_dir }) (subst (λ q. 1 ≤ leading n q) (sym at) some)

  pub n_kept : (p : Option ℕ) → o ≡ p → lost_of p n ≡ 0
  n_kept None e = refl
  n_kept (Some m) e = once_other m n (moves.other m e)

  -- ---- up to the root

  abbrev Stays : ℕ → Type 0
  Stays x = IsDirectoryAt t x × (lost_of o x ≡ 0)

  up_once : (x : ℕ) → Stays x → x ≢ n → x ≢ root → (parent moved x ≡ parent t x) × Stays (parent t x)
  up_once x q other ne =
      let one = directory_named room t is x q.0 ne in
      let all = count x in
      let none = q.1 in
      let up = parent_at room t is x q.0 ne in (
        parent_kept t moved x is.numbers (omega (arith, one)) (omega (arith, one, all, none)) (kept x (parent t x) other none),
        (up, keeps_if o refl x (parent t x) up (parent_names t x is.numbers (omega (arith, one)))),
      )

  abbrev IsOut : ℕ → Type 0
  IsOut x = IsDirectoryAt t x × (lost_of o x ≡ 0) × IsOutside t n x

  out_step : (x : ℕ) → IsOut x → x ≢ root → IsUnderRoot moved x ⊎ ((parent moved x ≡ parent t x) × IsOut (parent t x))
  out_step x q ne =
      let up = up_once x (q.0, q.1) (outside_differs t n x q.2) ne in
      inr (up.0, (up.1.0, up.1.1, outside_above t n x ne q.2))

  to_dir_climbs : IsDirectoryAt t n → IsUnderRoot moved to_dir_ino
  to_dir_climbs d =
      under_all t moved IsOut out_step (to_dir_at, to_dir_kept o refl, moves.outside d) (under_root room t is to_dir_ino to_dir_at)

  -- a directory that is moved is named there alone
  pub moved_parent : IsDirectoryAt t n → n ≢ root → parent moved n ≡ to_dir_ino
  moved_parent d ne =
      let one = directory_named room t is n d ne in
      let all = count n in
      let none = n_kept o refl in
      let single = once_same n n refl in
      let led = set n in
      let some : 1 ≤ leading n (names_at moved to_dir_ino) = (let same : leading n (names_at moved to_dir_ino) ≡ leading n new = ap (leading n) names_to in omega (arith, same, led, none, single)) in
      parent_is moved to_dir_ino n some (omega (arith, one, all, none))

  n_climbs : IsDirectoryAt t n → n ≢ root → IsUnderRoot moved n
  n_climbs d ne = is_in n (subst (IsUnderRoot moved) (sym (moved_parent d ne)) (to_dir_climbs d))

  step : (x : ℕ) → Stays x → x ≢ root → IsUnderRoot moved x ⊎ ((parent moved x ≡ parent t x) × Stays (parent t x))
  step x q ne = elim (cases_eq x n) [
    | inl e ↦ inl (subst (IsUnderRoot moved) (sym e) (n_climbs (subst (IsDirectoryAt t) e q.0) (λ r. ne (e ∙ r))))
    | inr other ↦ inr (up_once x q other ne)
  ]

  -- ---- all of it

  not_root : (p : Option ℕ) → o ≡ p → (x : ℕ) → 1 ≤ lost_of p x → x ≢ root
  not_root None e x some r = absurd (omega (arith, some))
  not_root (Some m) e x some r =
      let are = are_names room t to_directory.body (is.each to_dir_ino to_directory moves.to_stands).body in
      (are.each to_name m (moves.to_leads ∙ e)).leads.0 (sym (once_is m x some) ∙ r)

  empty_then : (p : Option ℕ) → o ≡ p → (x : ℕ) → IsDirectoryAt t x → 1 ≤ lost_of p x → names_at moved x ≡ []
  empty_then None e x d some = absurd (omega (arith, some))
  empty_then (Some m) e x d some =
      let here = once_is m x some in
      let at_m : IsDirectoryAt t m = subst (IsDirectoryAt t) here d in
      let self = once_same m m refl in
      let not_to : m ≢ to_dir_ino = (λ q. let none : once_if m m ≡ 0 = ap (once_if m) q ∙ to_dir_kept (Some m) e in omega (arith, none, self)) in
      let not_from : m ≢ dir_ino = (λ q. let none : once_if m m ≡ 0 = ap (once_if m) q ∙ dir_kept (Some m) e in omega (arith, none, self)) in
      ap (names_at moved) here ∙ names_elsewhere v to_dir_ino between.node new between.directory m not_to
      ∙ names_elsewhere t dir_ino directory less moves.is_dir m not_from ∙ moves.empty m e at_m

  unused_then : (p : Option ℕ) → o ≡ p → (x : ℕ) → IsDirectoryAt t x → 1 ≤ lost_of p x → is_in_use processes x ≡ false
  unused_then None e x d some = absurd (omega (arith, some))
  unused_then (Some m) e x d some =
      let here = once_is m x some in
      ap (is_in_use processes) here ∙ moves.unused m e (subst (IsDirectoryAt t) here d)

  pub moves_loses : LosesNames room t moved processes (lost_of o)
  moves_loses = record {
    numbers = with_entry-IsMap v to_dir_ino (renamed_node between.node new) v_numbers;
    types =
        types_compose t v moved (renamed_keeps_types t dir_ino directory less moves.stands)
        (renamed_keeps_types v to_dir_ino between.node new between.here);
    each = stood;
    counts = count;
    not_root = not_root o refl;
    empty = empty_then o refl;
    unused = unused_then o refl;
    under = λ x d none. under_all t moved Stays step (d, none) (under_root room t is x d);
  }

  pub moved_is : changed t (MoveName dir_ino name to_dir_ino to_name) ≡ moved
  moved_is =
      let gone : unnamed t dir_ino name ≡ v = ap (with_names_at t dir_ino (λ names. without name_cmp names name)) moves.stands in
      let led : lookup t dir_ino name ≡ Some n = ap (λ q. lookup_in q name) moves.stands ∙ moves.leads in
      ap (λ w. named w to_dir_ino to_name (unwrap_or (lookup t dir_ino name) 0)) gone
      ∙ ap (λ q. named v to_dir_ino to_name (unwrap_or q 0)) led
      ∙ ap (with_names_at v to_dir_ino (λ names. with_entry name_cmp names to_name n)) between.here
