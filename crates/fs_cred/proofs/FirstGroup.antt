-- The entry that is found first is the first, in canonical order, of the caller's groups that holds all of want.
use Rattle.std.proofs.Common.{◌≡◌, ℕ, ◌<◌, Bool, true, false, ◌&&◌, List, [], ◌∷◌, Option, Some, None, cond, refl, sym, ap, ◌∙◌, subst, arith, inl, inr}
use Rattle.std.specs.Prelude.{Contains}
use Rattle.posix_acl.specs.declared.entry.Perms.{Perms}
use Rattle.posix_acl.specs.AccessList.{IdsRise}
use Rattle.fs_cred.specs.declared.node.Node.{Node}
use Rattle.fs_cred.specs.declared.rule.Rule.{Rule}
use Rattle.fs_cred.specs.declared.rule.Rule.TheVariants.{OwningGroup, NamedGroup}
use Rattle.fs_cred.specs.Permissions.{holds}
use Rattle.fs_cred.specs.Credentials.{Credential, is_member}
use Rattle.fs_cred.specs.Decisions.{IsOfGroup, IsBefore, IsFirstOfGroups}
use Rattle.fs_cred.specs.Verdicts.{first_named, first_of_groups}
use Rattle.fs_cred.proofs.Lookups.{Contains-head, Contains-tail, Contains-cons_cases, above}

module _ (cred : Credential) (want : Perms) where
  -- an entry of a named group of the caller that holds all of want
  pub record Counts (xs : List (ℕ × Perms)) (group : ℕ) (perms : Perms) : Type 0 where
    pub member : is_member cred group ≡ true
    pub has : Contains xs (group, perms)
    pub holds_all : holds perms want ≡ true

  pub record IsFirstNamed (xs : List (ℕ × Perms)) (rule : Rule) : Type 0 where
    pub group : ℕ
    pub perms : Perms
    pub named : rule ≡ NamedGroup group
    pub counts : Counts xs group perms
    pub is_first : (g : ℕ) (p : Perms) → Counts xs g p → ¬ (g < group)

  abbrev pub FirstNamed : List (ℕ × Perms) → Option Rule → Type 0
  FirstNamed xs None = (g : ℕ) (p : Perms) → ¬ (Counts xs g p)
  FirstNamed xs (Some rule) = IsFirstNamed xs rule

  -- an entry that counts is the first, or one of the rest
  head_or_rest : {C : Type 0} (x : ℕ × Perms) (xs : List (ℕ × Perms)) (g : ℕ) (p : Perms) → Counts (x ∷ xs) g p
      → (x.0 ≡ g → x.1 ≡ p → C) → (Counts xs g p → C) → C
  head_or_rest x xs g p n here later = elim (Contains-cons_cases x (g, p) xs n.has) [
    | inl same ↦ here (ap (λ y. y.0) same) (ap (λ y. y.1) same)
    | inr rest ↦ later (record { member = n.member; has = rest; holds_all = n.holds_all })
  ]

  front : (x : ℕ × Perms) (xs : List (ℕ × Perms)) → IdsRise (x ∷ xs) → is_member cred x.0 ≡ true → holds x.1 want ≡ true → IsFirstNamed (x ∷ xs) (NamedGroup x.0)
  front x xs rise member held = record {
    group = x.0;
    perms = x.1;
    named = refl;
    counts = record { member = member; has = Contains-head x xs; holds_all = held };
    is_first = λ g p n lower.
        head_or_rest x xs g p n (λ same _. omega arith) (λ rest. (let low : x.0 < g = above x.0 xs g p rise.0 rest.has in omega arith));
  }

  skip : (x : ℕ × Perms) (xs : List (ℕ × Perms)) → (is_member cred x.0 ≡ true → holds x.1 want ≡ true → ⊥) → (found : Option Rule) → FirstNamed xs found → FirstNamed (x ∷ xs) found
  skip x xs out None none = λ g p n.
      head_or_rest x xs g p n (λ at is. out (ap (is_member cred) at ∙ n.member) (ap (λ q. holds q want) is ∙ n.holds_all)) (none g p)
  skip x xs out (Some rule) first = record {
    group = first.group;
    perms = first.perms;
    named = first.named;
    counts = record {
      member = first.counts.member;
      has = Contains-tail x (first.group, first.perms) xs first.counts.has;
      holds_all = first.counts.holds_all;
    };
    is_first = λ g p n.
        head_or_rest x xs g p n (λ at is _. out (ap (is_member cred) at ∙ n.member) (ap (λ q. holds q want) is ∙ n.holds_all)) (first.is_first g p);
  }

  pub first_named_is : (xs : List (ℕ × Perms)) → IdsRise xs → FirstNamed xs (first_named cred want xs)
  first_named_is [] rise = λ g p n. omega (arith, n.has.1)
  first_named_is (x ∷ xs) rise = go (is_member cred x.0) refl (holds x.1 want) refl (first_named_is xs rise.1)
    where
      go : (member : Bool) → is_member cred x.0 ≡ member → (held : Bool) → holds x.1 want ≡ held → FirstNamed xs (first_named cred want xs)
          → FirstNamed (x ∷ xs) (cond (member && held) (Some (NamedGroup x.0)) (first_named cred want xs))
      go true member true held rest = front x xs rise member held
      go true member false held rest = skip x xs (λ _ e. cc) _ rest
      go false member held h rest = skip x xs (λ e _. cc) _ rest

abbrev pub FirstOrNone : Credential → Node → Perms → Option Rule → Type 0
FirstOrNone cred node want None = (r : Rule) (p : Perms) → IsOfGroup cred node r p → holds p want ≡ true → ⊥
FirstOrNone cred node want (Some rule) = IsFirstOfGroups cred node want rule

nothing_before : (r : Rule) → ¬ (IsBefore r OwningGroup)
nothing_before OwningGroup b = b
nothing_before (NamedGroup g) b = b
nothing_before _ b = b

module _ (cred : Credential) (node : Node) (want : Perms) where
  -- where the owning group's entry does not count
  from_named : ((p : Perms) → IsOfGroup cred node OwningGroup p → holds p want ≡ true → ⊥) → (found : Option Rule) → FirstNamed cred want node.acl.groups found → FirstOrNone cred node want found
  from_named out None none = go
    where
      go : (r : Rule) (p : Perms) → IsOfGroup cred node r p → holds p want ≡ true → ⊥
      go OwningGroup p of h = out p of h
      go (NamedGroup g) p of h = none g p (record { member = of.0; has = of.1; holds_all = h })
      go _ p of h = of
  from_named out (Some rule) first = record {
    perms = first.perms;
    is_of_group = subst (λ r. IsOfGroup cred node r first.perms) (sym first.named) (first.counts.member, first.counts.has);
    holds_all = first.counts.holds_all;
    is_first = λ r p of h b. go r p of h (subst (IsBefore r) first.named b);
  }
    where
      go : (r : Rule) (p : Perms) → IsOfGroup cred node r p → holds p want ≡ true → ¬ (IsBefore r (NamedGroup first.group))
      go OwningGroup p of h b = out p of h
      go (NamedGroup g) p of h b = first.is_first g p (record { member = of.0; has = of.1; holds_all = h }) b
      go _ p of h b = of

  pub first_of_groups_is : IdsRise node.acl.groups → FirstOrNone cred node want (first_of_groups cred node want)
  first_of_groups_is rise = go (is_member cred node.group) refl (holds node.acl.group want) refl
    where
      named : FirstNamed cred want node.acl.groups (first_named cred want node.acl.groups)
      named = first_named_is cred want node.acl.groups rise

      go : (member : Bool) → is_member cred node.group ≡ member → (held : Bool) → holds node.acl.group want ≡ held
          → FirstOrNone cred node want (cond (member && held) (Some OwningGroup) (first_named cred want node.acl.groups))
      go true member true held = record {
        perms = node.acl.group;
        is_of_group = (member, refl);
        holds_all = held;
        is_first = λ r p of h b. nothing_before r b;
      }
      go true member false held = from_named (λ p of h. (let same : holds p want ≡ holds node.acl.group want = ap (λ q. holds q want) of.1 in cc)) _ named
      go false member held h = from_named (λ p of e. (let is : is_member cred node.group ≡ true = of.0 in cc)) _ named

-- of two entries of the caller's groups, neither before the other, the rule is the same
pub same_rule : (cred : Credential) (node : Node) (r s : Rule) (p q : Perms) → IsOfGroup cred node r p → IsOfGroup cred node s q → ¬ (IsBefore r s) → ¬ (IsBefore s r) → r ≡ s
same_rule cred node OwningGroup OwningGroup p q m n a b = refl
same_rule cred node OwningGroup (NamedGroup g) p q m n a b = absurd (a tt)
same_rule cred node (NamedGroup g) OwningGroup p q m n a b = absurd (b tt)
same_rule cred node (NamedGroup g) (NamedGroup h) p q m n a b = ap NamedGroup (omega (arith, a, b))
same_rule cred node OwningGroup _ p q m n a b = absurd n
same_rule cred node (NamedGroup g) _ p q m n a b = absurd n
same_rule cred node _ _ p q m n a b = absurd m

pub one_first : (cred : Credential) (node : Node) (want : Perms) (r s : Rule) → IsFirstOfGroups cred node want r → IsFirstOfGroups cred node want s → r ≡ s
one_first cred node want r s f g =
    same_rule cred node r s f.perms g.perms f.is_of_group g.is_of_group
    (g.is_first r f.perms f.is_of_group f.holds_all) (f.is_first s g.perms g.is_of_group g.holds_all)
