-- Which of a caller's groups count.
--     groups_named_by        the groups that a node names: its own, and those of its list
--     AreAlikeOn        two credentials that differ in no more than groups beside these
--     with_just        a credential with just those of its further groups that are among these
use Rattle.std.specs.Prelude.{◌≡◌, ℕ, ◌==◌, List, ◌∷◌, map, Contains}
use Rattle.std.specs.List.{filter, list_any}
use Rattle.fs_cred.specs.declared.node.Node.{Node}
use Rattle.fs_cred.specs.Credentials.{Credential, is_member}

abbrev pub groups_named_by : Node → List ℕ
groups_named_by node = node.group ∷ map (λ e. e.0) node.acl.groups

-- two credentials of one user with the same capabilities, and of these groups the one is in just those in which the other is
pub record AreAlikeOn (groups : List ℕ) (a b : Credential) : Type 0 where
  pub uid : a.uid ≡ b.uid
  pub caps : a.caps ≡ b.caps
  pub members : (group : ℕ) → Contains groups group → is_member a group ≡ is_member b group

abbrev pub with_just : List ℕ → Credential → Credential
with_just groups cred = record cred { groups = filter (λ group. list_any (λ g. group == g) groups) cred.groups }
