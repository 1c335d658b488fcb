-- A name less: what it led to loses it.
use Rattle.std.specs.Prelude.{◌≡◌, ◌≢◌, ℕ, ◌+◌, ◌≤◌, Bool, true, false, not, cond, List, [], Option, None, Some, IsTrue, ◌⊎◌}
use Rattle.std.proofs.Common.{refl, sym, ap, arith, ◌∙◌, subst, inl, inr}
use Rattle.std.proofs.lemmas.Bool.{cases_eq}
use Rattle.std.specs.Ordering.{eq_by_cmp}
use Rattle.fs_model.specs.Limits.{root}
use Rattle.fs_layout.specs.Maps.{get, name_cmp, without}
use Rattle.fs_model.specs.Nodes.{Node, is_directory, names_of_body}
use Rattle.fs_model.specs.Trees.{Tree, Room, node_at, names_of, parent, IsUnderRoot, IsDirectoryAt, IsTree}
use Rattle.fs_model.specs.Processes.{ProcessTable, is_in_use}
use Rattle.fs_model.proofs.Finds.{IsThere}
use Rattle.fs_layout.proofs.MapLaws.{with_entry-IsMap}
use Rattle.fs_layout.proofs.NameMaps.{Names, leading, once_if, once_other, get-without_name, without_name-IsMap, length-without_name, leading-without_name}
use Rattle.fs_model.proofs.StepsLosing.{Stood, LosesNames}
use Rattle.fs_model.proofs.Moves.{entry_moves, body_moves}
use Rattle.fs_model.proofs.StepsNaming.{leading_stays, renamed_node, renamed, at_it, at_others, still_there, names_elsewhere, names_of-renamed, renamed_keeps_types, type_with_names, AreNames, body_renamed, are_names}
use Rattle.fs_model.proofs.StepsParents.{names_or, names_at, parent_kept, parent_names, under_all, directory_named, parent_at, under_root}

-- the one that counts
pub once_is : (m n : ℕ) → 1 ≤ once_if m n → n ≡ m
once_is m n some = elim (cases_eq n m) [
  | inl e ↦ e
  | inr ne ↦ absurd (let none = once_other m n (λ e. ne (sym e)) in omega (arith, none, some))
]

-- a directory's names without one
pub are_names_without : (room : Room) (t : Tree) (names : Names) (name : List ℕ) (m : ℕ) → AreNames room t names → get name_cmp names name ≡ Some m
    → AreNames room t (without name_cmp names name)
are_names_without room t names name m are here = record {
  rising = without_name-IsMap names name are.rising;
  few = let len = length-without_name names name m are.rising here in let few = are.few in omega (arith, len, few);
  each = λ q k e. are.each q k (kept (not (eq_by_cmp name_cmp name q)) (get name_cmp names q) k (sym (get-without_name names name q) ∙ e));
}
  where
    kept : (b : Bool) (o : Option ℕ) (k : ℕ) → cond b o None ≡ Some k → o ≡ Some k
    kept true o k e = e
    kept false o k e = absurd cc

names_move : (room : Room) (t u : Tree) (names : Names) → ((n : ℕ) → IsThere t n → IsThere u n) → AreNames room t names → AreNames room u names
names_move room t u names still are = record {
  rising = are.rising;
  few = are.few;
  each = λ q k e. entry_moves room t u q k (still k) (are.each q k e);
}

-- a name that leads to m is taken
pub record TakesName (t : Tree) (processes : ProcessTable) (dir_ino : ℕ) (directory : Node) (name : List ℕ) (m : ℕ) : Type 0 where
  pub stands : node_at t dir_ino ≡ Some directory
  pub is_dir : IsTrue (is_directory directory.body)
  pub leads : get name_cmp (names_of_body directory.body) name ≡ Some m
  pub empty : IsDirectoryAt t m → names_at t m ≡ []
  pub unused : IsDirectoryAt t m → is_in_use processes m ≡ false

module _ (room : Room) (t : Tree) (processes : ProcessTable) (dir_ino : ℕ) (directory : Node) (name : List ℕ) (m : ℕ) (is : IsTree room t) (takes : TakesName t processes dir_ino directory name m) where
  abbrev new : Names
  new = without name_cmp (names_of_body directory.body) name

  abbrev u : Tree
  u = renamed t dir_ino directory (without name_cmp (names_of_body directory.body) name)

  were : AreNames room t (names_of_body directory.body)
  were = are_names room t directory.body (is.each dir_ino directory takes.stands).body

  pub fewer : (x : ℕ) → leading x new + once_if m x ≡ leading x (names_of_body directory.body)
  fewer x = leading-without_name (names_of_body directory.body) name m x were.rising takes.leads

  pub count : (x : ℕ) → names_of u x + once_if m x ≡ names_of t x
  count x =
      let all = names_of-renamed t dir_ino directory new takes.is_dir is.numbers takes.stands x in
      let one = fewer x in
      omega (arith, all, one)

  there : (n : ℕ) → IsThere t n → IsThere u n
  there n h = still_there t dir_ino (renamed_node directory new) n h

  stood : (n : ℕ) (node : Node) → node_at u n ≡ Some node → Stood room t u n node
  stood n node at = elim (cases_eq n dir_ino) [
    | inl e ↦
        let here : node_at u n ≡ Some (renamed_node directory new) = ap (node_at u) e ∙ at_it t dir_ino (renamed_node directory new) in
        let same : renamed_node directory new ≡ node = cc in
        subst (Stood room t u n) same (record {
          old = directory;
          was = ap (node_at t) e ∙ takes.stands;
          same = type_with_names new directory.body;
          owner = refl;
          group = refl;
          stamps = refl;
          body =
              body_renamed room t u directory.body new takes.is_dir
              (names_move room t u new there (are_names_without room t (names_of_body directory.body) name m were takes.leads))
              (is.each dir_ino directory takes.stands).body;
        })
    | inr ne ↦
        let was : node_at t n ≡ Some node = sym (at_others t dir_ino (renamed_node directory new) n ne) ∙ at in
        record {
          old = node;
          was = was;
          same = refl;
          owner = refl;
          group = refl;
          stamps = refl;
          body = body_moves room t u node.body there (is.each n node was).body;
        }
  ]

  -- m names nothing
  names_nothing : (x : ℕ) → IsDirectoryAt t m → 1 ≤ leading x (names_at t m) → ⊥
  names_nothing x d some = (let none : leading x (names_at t m) ≡ 0 = ap (leading x) (takes.empty d) in omega (arith, none, some))

  -- and is not the directory
  pub not_dir : IsDirectoryAt t m → m ≢ dir_ino
  not_dir d e =
      let names : names_at t m ≡ names_of_body directory.body = ap (names_at t) e ∙ ap names_or takes.stands in
      let none : names_of_body directory.body ≡ [] = sym names ∙ takes.empty d in
      let gone : get name_cmp (names_of_body directory.body) name ≡ None = ap (λ ns. get name_cmp ns name) none in
      let both : None ≡ Some m = sym gone ∙ takes.leads in
      cc

  names_kept : (x k : ℕ) → once_if m x ≡ 0 → 1 ≤ leading x (names_at t k) → 1 ≤ leading x (names_at u k)
  names_kept x k none some = elim (cases_eq k dir_ino) [
    | inl e ↦ leading_stays t dir_ino directory new takes.is_dir t x k e takes.stands (λ some. let one = fewer x in omega (arith, one, some, none)) some
    | inr ne ↦ subst (λ q. 1 ≤ leading x q) (sym (names_elsewhere t dir_ino directory new takes.is_dir k ne)) some
  ]

  abbrev Stays : ℕ → Type 0
  Stays x = IsDirectoryAt t x × (once_if m x ≡ 0)

  step : (x : ℕ) → Stays x → x ≢ root → IsUnderRoot u x ⊎ ((parent u x ≡ parent t x) × Stays (parent t x))
  step x q ne =
      let one = directory_named room t is x q.0 ne in
      let all = count x in
      let none = q.1 in
      let up = parent_at room t is x q.0 ne in
      inr (
        parent_kept t u x is.numbers (omega (arith, one)) (omega (arith, one, all, none)) (names_kept x (parent t x) none),
        (
          up,
          once_other m (parent t x) (λ e.
              names_nothing x (subst (IsDirectoryAt t) (sym e) up)
              (subst (λ k. 1 ≤ leading x (names_at t k)) (sym e) (parent_names t x is.numbers (omega (arith, one))))),
        ),
      )

  pub takes_loses : LosesNames room t u processes (once_if m)
  takes_loses = record {
    numbers = with_entry-IsMap t dir_ino (renamed_node directory new) is.numbers;
    types = renamed_keeps_types t dir_ino directory new takes.stands;
    each = stood;
    counts = count;
    not_root = λ n some e. (were.each name m takes.leads).leads.0 (sym (once_is m n some) ∙ e);
    empty = λ n d some.
        let here = once_is m n some in
        let at_m : IsDirectoryAt t m = subst (IsDirectoryAt t) here d in
        ap (names_at u) here ∙ names_elsewhere t dir_ino directory new takes.is_dir m (not_dir at_m) ∙ takes.empty at_m;
    unused = λ n d some.
        let here = once_is m n some in
        ap (is_in_use processes) here ∙ takes.unused (subst (IsDirectoryAt t) here d);
    under = λ n d none. under_all t u (λ x. IsDirectoryAt t x × (once_if m x ≡ 0)) step (d, none) (under_root room t is n d);
  }
