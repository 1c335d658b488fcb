-- A new node in a directory.
use Rattle.fs_model.proofs.StoredStamps.{no_stamps_fit}
use Rattle.std.specs.Prelude.{◌≡◌, ◌≢◌, ℕ, ◌+◌, ◌^◌, ◌<◌, ◌≤◌, ◌==◌, ◌/◌, Bool, true, false, cond, List, [], Option, None, Some, is_some, unwrap_or}
use Rattle.std.proofs.Common.{refl, sym, ap, arith, ◌∙◌, subst, inl, inr}
use Rattle.std.proofs.lemmas.Bool.{cases_eq, cases_lt}
use Rattle.std.proofs.lemmas.Bool.Decides.{nat_tests}
use Rattle.std.specs.Ordering.{nat_cmp}
use Rattle.posix_acl.specs.AccessList.{AccessList, IsAcl, group_class, IsSomeAcl}
use Rattle.posix_acl.specs.Entries.{perms_of, meet}
use Rattle.posix_acl.proofs.Classes.{IsAcl-with_classes}
use Rattle.fs_cred.specs.Credentials.{Credential, IsCredential}
use Rattle.fs_model.specs.Limits.{root}
use Rattle.fs_layout.specs.Maps.{get}
use Rattle.fs_model.specs.Nodes.{Node, Body, File, Dir, Link, names_of_body, directory_in}
use Rattle.fs_model.specs.Trees.{Tree, Room, node_at, with_node, names_for, names_of, parent, NamesFit, IsBody, IsTarget, IsDirectoryAt, IsTree, AreStamps}
use Rattle.fs_model.specs.Births.{the_directory, no_directory, masked_acl, born_acl, born, born_file, born_directory, born_link}
use Rattle.fs_model.proofs.Finds.{IsThere}
use Rattle.fs_layout.proofs.MapLaws.{with_entry-IsMap, sum-with_entry, summand}
use Rattle.fs_model.proofs.StepsAdding.{TakesNewName, AddsName}
use Rattle.fs_layout.proofs.NameMaps.{leading, name_if}
use Rattle.fs_model.proofs.StepsKinds.{KeepsTypes}
use Rattle.fs_model.proofs.StepsNaming.{at_it, at_others, still_there, are_names}
use Rattle.fs_model.proofs.StepsParents.{names_or, names_at, parent_names}

-- ---- newborn nodes

masked_is_acl : (mode umask : ℕ) → IsAcl (masked_acl mode umask)
masked_is_acl mode umask = record {
  users = tt;
  user_ids = tt;
  groups = tt;
  group_ids = tt;
  masked = λ some. absurd (omega (arith, some));
  few = omega arith;
}

born_is_acl : (default : Option AccessList) (mode umask : ℕ) → IsSomeAcl default → IsAcl (born_acl default mode umask)
born_is_acl None mode umask is = masked_is_acl mode umask
born_is_acl (Some a) mode umask is =
    IsAcl-with_classes a (meet a.owner (perms_of (mode / 64))) (meet (group_class a) (perms_of (mode / 8))) (meet a.other (perms_of mode)) is

-- a newborn node, which has no names in it
pub record IsNewborn (room : Room) (t : Tree) (node : Node) : Type 0 where
  pub owner : node.owner < 2 ^ 32
  pub group : node.group < 2 ^ 32
  pub body : IsBody room t node.body
  pub stamps : AreStamps room.keeps_times node.stamps
  pub no_names : names_of_body node.body ≡ []

module _ (room : Room) (t : Tree) (cred : Credential) (valid : IsCredential cred) (directory : Node) (small : directory.group < 2 ^ 32) where
  born_is : (body : Body) → IsBody room t body → names_of_body body ≡ [] → IsNewborn room t (born cred directory body)
  born_is body is none = record {
    owner = valid.uid;
    group = go (the_directory directory).set_group_id;
    body = is;
    stamps = no_stamps_fit room.keeps_times;
    no_names = none;
  }
    where
      go : (b : Bool) → cond b directory.group cred.gid < 2 ^ 32
      go true = small
      go false = valid.gid

  default_of : (b : Body) → IsBody room t b → IsSomeAcl (unwrap_or (directory_in b) no_directory).default
  default_of (File a bytes) is = tt
  default_of (Dir a d) is = is.1
  default_of (Link target) is = tt

  pub file_is_born : (umask mode : ℕ) → IsBody room t directory.body → IsNewborn room t (born_file cred umask mode directory)
  file_is_born umask mode is =
      born_is (File (born_acl (the_directory directory).default mode umask) [])
      (born_is_acl (the_directory directory).default mode umask (default_of directory.body is), omega arith, (λ i. omega arith)) refl

  pub directory_is_born : (umask mode : ℕ) → IsBody room t directory.body → IsNewborn room t (born_directory cred umask mode directory)
  directory_is_born umask mode is =
      let default = default_of directory.body is in
      born_is _ (
        born_is_acl (the_directory directory).default mode umask default,
        default,
        record { names = refl; few = omega arith; each = λ name n e. absurd cc },
      ) refl

  pub link_is_born : (target : List ℕ) → IsTarget target → IsNewborn room t (born_link cred target directory)
  link_is_born target is = born_is (Link target) is refl

-- ---- the tree with one more node

-- the number of a new node isn't the root's, and nothing leads to it
pub nothing_leads : (room : Room) (t : Tree) (n : ℕ) → IsTree room t → node_at t n ≡ None → names_of t n ≡ 0
nothing_leads room t n is none = elim (cases_lt (names_of t n) 1) [
  | inl few ↦ omega (arith, few)
  | inr some ↦ absurd (led (node_at t (parent t n)) refl (parent_names t n is.numbers (omega (arith, some))))
]
  where
    led : (o : Option Node) → node_at t (parent t n) ≡ o → 1 ≤ leading n (names_or o) → ⊥
    led None at h = omega (arith, h)
    led (Some v) at h =
        let names = are_names room t v.body (is.each (parent t n) v at).body in
        let it = name_if (names_of_body v.body) n names.rising h in
        let there : IsThere t n = (names.each it.name n it.leads).leads.1 in
        let absent : is_some (node_at t n) ≡ false = ap is_some none in
        cc

first_fits : (room : Room) → 1 ≤ room.names_limit → (n : ℕ) (b : Body) → n ≢ root → NamesFit room n b 1
first_fits room some n (File a bytes) ne = some
first_fits room some n (Dir a d) ne = let other : (n == root) ≡ false = grind (arith, nat_tests) in sym (ap (λ q. cond q 0 1) other)
first_fits room some n (Link target) ne = (omega arith, some)

module _ (room : Room) (some : 1 ≤ room.names_limit) (t : Tree) (dir_ino : ℕ) (directory : Node) (name : List ℕ) (n : ℕ) (new : Node) (is : IsTree room t)
    (takes : TakesNewName room t dir_ino directory name) (positive : 1 ≤ n) (below : n < room.inodes) (none : node_at t n ≡ None)
    (newborn : IsNewborn room t new) where
  apart_from : (d : ℕ) → IsDirectoryAt t d → d ≢ n
  apart_from d there e =
      let at : node_at t n ≡ Some there.node = ap (node_at t) (sym e) ∙ there.is_there in
      let both : None ≡ Some there.node = sym none ∙ at in
      cc

  names_same : (k : ℕ) → names_at (with_node t n new) k ≡ names_at t k
  names_same k = elim (cases_eq k n) [
    | inl e ↦
        ap (names_at (with_node t n new)) e ∙ ap names_or (at_it t n new) ∙ newborn.no_names
        ∙ sym (ap (names_at t) e ∙ ap names_or none)
    | inr ne ↦ ap names_or (at_others t n new k ne)
  ]

  count_same : (x : ℕ) → names_of (with_node t n new) x ≡ names_of t x
  count_same x =
      let f : ℕ × Node → ℕ = λ e. names_for x e.1.body in
      let no_new : f (n, new) ≡ 0 = ap (leading x) newborn.no_names in
      let no_old : summand f n (get nat_cmp t n) ≡ 0 = ap (summand f n) none in
      omega (arith, sum-with_entry f t n new is.numbers, no_new, no_old)

  types_same : KeepsTypes t (with_node t n new)
  types_same m node at =
      let ne : m ≢ n = (λ e. let gone : node_at t m ≡ None = ap (node_at t) e ∙ none in let both : None ≡ Some node = sym gone ∙ at in cc) in
      record { node = node; is_there = at_others t n new m ne ∙ at; same = refl }

  pub makes_name : AddsName room t (with_node t n new) dir_ino directory name n new
  makes_name =
      let nameless = nothing_leads room t n is none in
      record {
        numbers = with_entry-IsMap t n new is.numbers;
        here = at_it t n new;
        others = at_others t n new;
        still = still_there t n new;
        names = names_same;
        counts = count_same;
        types = types_same;
        takes = takes;
        apart = apart_from;
        fits_room = record { positive = positive; below = below; owner = newborn.owner; group = newborn.group; stamps = newborn.stamps };
        body = newborn.body;
        fits =
            let one : 1 ≡ names_of t n + 1 = omega (arith, nameless) in
            subst (NamesFit room n new.body) one (first_fits room some n new.body (λ e. apart_from root is.root_is_there (sym e)));
        unnamed = λ d. nameless;
      }
