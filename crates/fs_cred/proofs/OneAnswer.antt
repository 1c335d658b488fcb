-- The verdict is an answer that the rules give, and the only one.
use Rattle.std.proofs.Common.{◌≡◌, ◌≢◌, ◌==◌, Bool, true, false, Option, Some, None, refl, sym, ap, ◌∙◌, subst, arith, inl, inr}
use Rattle.std.specs.Prelude.{Contains, IsTrue, if◌then◌else◌}
use Rattle.std.proofs.lemmas.Bool.Decides.{nat_tests}
use Rattle.posix_acl.specs.declared.entry.Perms.{Perms}
use Rattle.posix_acl.specs.AccessList.{IsAcl}
use Rattle.fs_cred.specs.declared.node.Node.{Node}
use Rattle.fs_cred.specs.declared.rule.Verdict.{Verdict}
use Rattle.fs_cred.specs.declared.rule.Rule.{Rule}
use Rattle.fs_cred.specs.declared.rule.Rule.TheVariants.{Owner, NamedUser, OwningGroup, NamedGroup, Mask, Other, Capability, NoExecuteBit}
use Rattle.fs_cred.specs.Permissions.{holds, nothing}
use Rattle.fs_cred.specs.Capabilities.{cap_dac_override, cap_dac_read_search}
use Rattle.fs_cred.specs.Credentials.{Credential, is_capable}
use Rattle.fs_cred.specs.Decisions.{IsPastCapabilities, IsPastOwner, IsPastUsers, IsOfGroup, IsFirstOfGroups, ByGroup, Decides, lacks_execute_bit, may_read_search, passes_mask}
use Rattle.fs_cred.specs.Verdicts.{verdict, verdict_of, perms_named, past_mask, by_entry, by_named_user, by_groups_found, by_groups, by_user_found, by_entries}
use Rattle.fs_cred.proofs.Lookups.{Contains-from_named, named_from_Contains, nobody_named}
use Rattle.fs_cred.proofs.FirstGroup.{FirstOrNone, first_of_groups_is, one_first}

module _ (cred : Credential) (node : Node) (want : Perms) where
  abbrev pub IsRight : Verdict → Type 0
  IsRight v = Decides cred node want v.yes v.rule

  group_rules : (granted : Bool) (r : Rule) (p : Perms) → IsOfGroup cred node r p → ByGroup cred node want granted r → Decides cred node want granted r
  group_rules granted OwningGroup p of by = by
  group_rules granted (NamedGroup g) p of by = by
  group_rules granted _ p of by = absurd of

  not_true : (b : Bool) → (b ≡ true → ⊥) → b ≡ false
  not_true true n = absurd (n refl)
  not_true false n = refl

  right_by_groups : IsPastUsers cred node want → (a b : Option Rule) → FirstOrNone cred node want a → FirstOrNone cred node nothing b → IsRight (by_groups_found node want a b)
  right_by_groups past (Some r) b f _ = go (passes_mask node.acl.mask want) refl
    where
      go : (d : Bool) → passes_mask node.acl.mask want ≡ d → IsRight (if d then verdict_of true r else verdict_of false Mask)
      go true d = group_rules true r f.perms f.is_of_group (past, f, d)
      go false d = (past.past_owner, inr (past, (r, f.perms, f.is_of_group, f.holds_all)), d, refl)
  right_by_groups past None (Some r) none f = group_rules false r f.perms f.is_of_group (past, f, λ s p of. not_true (holds p want) (none s p of))
  right_by_groups past None None none nobody = (past, λ r p of. nobody r p of refl, refl)

  right_by_user : IsAcl node.acl → IsPastOwner cred node want → (u : Option Perms) → perms_named cred.uid node.acl.users ≡ u → IsRight (by_user_found cred node want u)
  right_by_user valid past None none =
      right_by_groups (record { past_owner = past; not_named = nobody_named cred.uid node.acl.users valid.users none }) _ _
      (first_of_groups_is cred node want valid.groups) (first_of_groups_is cred node nothing valid.groups)
  right_by_user valid past (Some p) found = go (holds p want) refl (passes_mask node.acl.mask want) refl
    where
      has : Contains node.acl.users (cred.uid, p)
      has = Contains-from_named cred.uid node.acl.users p found

      go : (h : Bool) → holds p want ≡ h → (d : Bool) → passes_mask node.acl.mask want ≡ d
          → IsRight (if h then (if d then verdict_of true (NamedUser cred.uid) else verdict_of false Mask) else verdict_of false (NamedUser cred.uid))
      go true h true d = (past, refl, (p, has, sym h), λ _. d)
      go true h false d = (past, inl (p, has, h), d, refl)
      go false h d _ = (past, refl, (p, has, sym h), λ e. absurd (cc))

  right_by_entries : IsAcl node.acl → IsPastCapabilities cred node want → IsRight (by_entries cred node want)
  right_by_entries valid past = go (cred.uid == node.owner) refl
    where
      go : (w : Bool) → (cred.uid == node.owner) ≡ w
          → IsRight (if w then by_entry node.acl.owner want Owner else by_user_found cred node want (perms_named cred.uid node.acl.users))
      go true w = (past, grind (arith, nat_tests), refl)
      go false w = right_by_user valid (record { past_capabilities = past; not_owner = λ e. grind (arith, nat_tests) }) _ refl

  -- the verdict is an answer
  pub verdict_decides : IsAcl node.acl → IsRight (verdict cred node want)
  unfolding verdict
  verdict_decides valid = go (is_capable cred cap_dac_override) refl (lacks_execute_bit node want) refl (may_read_search cred node.kind want) refl
    where
      go : (s : Bool) → is_capable cred cap_dac_override ≡ s → (x : Bool) → lacks_execute_bit node want ≡ x → (t : Bool) → may_read_search cred node.kind want ≡ t
          → IsRight (if s then (if x then verdict_of false NoExecuteBit else verdict_of true (Capability cap_dac_override))
          else (if t then verdict_of true (Capability cap_dac_read_search) else by_entries cred node want))
      go true s true x _ _ = (s, x, refl)
      go true s false x _ _ = (inl (refl, s, x), refl)
      go false s _ _ true t = (inr (refl, s, t), refl)
      go false s _ _ false t = right_by_entries valid (record { no_override = s; no_read_search = t })

  past : (r : Rule) (d : Bool) → passes_mask node.acl.mask want ≡ d → past_mask node.acl want r ≡ (if d then verdict_of true r else verdict_of false Mask)
  past r d e = simp e

  sole_granting : (r : Rule) (a b : Option Rule) → FirstOrNone cred node want a → IsFirstOfGroups cred node want r → passes_mask node.acl.mask want ≡ true
      → by_groups_found node want a b ≡ verdict_of true r
  sole_granting r (Some s) b f g m = past s true m ∙ ap (verdict_of true) (one_first cred node want s r f g)
  sole_granting r None b none g m = absurd (none r g.perms g.is_of_group g.holds_all)

  sole_refusing : (r : Rule) (a b : Option Rule) → FirstOrNone cred node want a → FirstOrNone cred node nothing b → IsFirstOfGroups cred node nothing r
      → ((s : Rule) (p : Perms) → IsOfGroup cred node s p → holds p want ≡ false) → by_groups_found node want a b ≡ verdict_of false r
  sole_refusing r (Some s) b f _ g none = absurd (let h : holds f.perms want ≡ true = f.holds_all in let e : holds f.perms want ≡ false = none s f.perms f.is_of_group in cc)
  sole_refusing r None (Some s) _ f g none = ap (verdict_of false) (one_first cred node nothing s r f g)
  sole_refusing r None None _ nobody g none = absurd (nobody r g.perms g.is_of_group refl)

  sole_other : (a b : Option Rule) → FirstOrNone cred node want a → FirstOrNone cred node nothing b → ((r : Rule) (p : Perms) → ¬ (IsOfGroup cred node r p))
      → by_groups_found node want a b ≡ verdict_of (holds node.acl.other want) Other
  sole_other (Some r) b f _ nobody = absurd (nobody r f.perms f.is_of_group)
  sole_other None (Some r) _ f nobody = absurd (nobody r f.perms f.is_of_group)
  sole_other None None _ _ nobody = refl

  sole_masked : (a b : Option Rule) → FirstOrNone cred node want a → (rule : Rule) (p : Perms) → IsOfGroup cred node rule p → holds p want ≡ true
      → passes_mask node.acl.mask want ≡ false → by_groups_found node want a b ≡ verdict_of false Mask
  sole_masked (Some r) b f rule p of h m = past r false m
  sole_masked None b none rule p of h m = absurd (none rule p of h)

  past_capabilities : IsPastCapabilities cred node want → verdict cred node want ≡ by_entries cred node want
  unfolding verdict
  past_capabilities p =
      let s : is_capable cred cap_dac_override ≡ false = p.no_override in
      let t : may_read_search cred node.kind want ≡ false = p.no_read_search in
      rw s (rw t refl)

  past_owner : IsPastOwner cred node want → verdict cred node want ≡ by_user_found cred node want (perms_named cred.uid node.acl.users)
  past_owner p =
      let w : (cred.uid == node.owner) ≡ false = (let n : cred.uid ≢ node.owner = p.not_owner in grind (arith, nat_tests)) in
      past_capabilities p.past_capabilities ∙ rw w refl

  named_or_none : (u : Option Perms) → perms_named cred.uid node.acl.users ≡ u → IsPastUsers cred node want → perms_named cred.uid node.acl.users ≡ None
  named_or_none None e p = e
  named_or_none (Some q) e p = absurd (p.not_named q (Contains-from_named cred.uid node.acl.users q e))

  past_users : IsPastUsers cred node want → verdict cred node want ≡ by_groups cred node want
  past_users p = past_owner p.past_owner ∙ ap (by_user_found cred node want) (named_or_none _ refl p)

  by_the_user : IsAcl node.acl → IsPastOwner cred node want → (p : Perms) → Contains node.acl.users (cred.uid, p) → verdict cred node want ≡ by_named_user node want cred.uid p
  by_the_user valid past p has = past_owner past ∙ ap (by_user_found cred node want) (named_from_Contains cred.uid node.acl.users p valid.users has)

  -- and no other answer is
  pub only_verdict : IsAcl node.acl → (granted : Bool) (r : Rule) → Decides cred node want granted r → verdict cred node want ≡ verdict_of granted r
  unfolding verdict
  only_verdict valid granted (Capability caps) d = elim d.0 [
    | inl by ↦ (let s : is_capable cred cap_dac_override ≡ true = by.1 in let x : lacks_execute_bit node want ≡ false = by.2 in
        rw s (rw x (ap (λ c. verdict_of true (Capability c)) (sym by.0) ∙ ap (λ b. verdict_of b (Capability caps)) (sym d.1))))
    | inr by ↦ (let s : is_capable cred cap_dac_override ≡ false = by.1 in let t : may_read_search cred node.kind want ≡ true = by.2 in
        rw s (rw t (ap (λ c. verdict_of true (Capability c)) (sym by.0) ∙ ap (λ b. verdict_of b (Capability caps)) (sym d.1))))
  ]
  only_verdict valid granted NoExecuteBit d = simp (d.0, d.1, d.2)
  only_verdict valid granted Owner d =
      let e : (cred.uid == node.owner) ≡ true = (let w : cred.uid ≡ node.owner = d.1 in grind (arith, nat_tests)) in
      past_capabilities d.0 ∙ rw e (ap (λ b. verdict_of b Owner) (sym d.2))
  only_verdict valid granted (NamedUser u) d =
      by_the_user valid d.0 d.2.0 (subst (λ i. Contains node.acl.users (i, d.2.0)) d.1 d.2.1) ∙ go granted d.2.2 d.3 ∙ ap (λ i. verdict_of granted (NamedUser i)) (sym d.1)
    where
      go : (g : Bool) → g ≡ holds d.2.0 want → (IsTrue g → IsTrue (passes_mask node.acl.mask want)) → by_named_user node want cred.uid d.2.0 ≡ verdict_of g (NamedUser cred.uid)
      go true h m = let e : holds d.2.0 want ≡ true = sym h in simp (e, m refl)
      go false h m = let e : holds d.2.0 want ≡ false = sym h in simp e
  only_verdict valid true OwningGroup d = past_users d.0 ∙ sole_granting OwningGroup _ _ (first_of_groups_is cred node want valid.groups) d.1 d.2
  only_verdict valid false OwningGroup d =
      past_users d.0 ∙ sole_refusing OwningGroup _ _ (first_of_groups_is cred node want valid.groups) (first_of_groups_is cred node nothing valid.groups) d.1 d.2
  only_verdict valid true (NamedGroup g) d = past_users d.0 ∙ sole_granting (NamedGroup g) _ _ (first_of_groups_is cred node want valid.groups) d.1 d.2
  only_verdict valid false (NamedGroup g) d =
      past_users d.0 ∙ sole_refusing (NamedGroup g) _ _ (first_of_groups_is cred node want valid.groups) (first_of_groups_is cred node nothing valid.groups) d.1 d.2
  only_verdict valid granted Mask d = elim d.1 [
    | inl u ↦ by_the_user valid d.0 u.0 u.1 ∙ (let h : holds u.0 want ≡ true = u.2 in simp (h, d.2))
    | inr g ↦ past_users g.0 ∙ sole_masked _ _ (first_of_groups_is cred node want valid.groups) g.1.0 g.1.1 g.1.2 g.1.3 d.2
  ] ∙ ap (λ b. verdict_of b Mask) (sym d.3)
  only_verdict valid granted Other d =
      past_users d.0 ∙ sole_other _ _ (first_of_groups_is cred node want valid.groups) (first_of_groups_is cred node nothing valid.groups) d.1 ∙ ap (λ b. verdict_of b Other) (sym d.2)
  only_verdict valid granted _ d = absurd d

pub decided : (cred : Credential) (node : Node) (want : Perms) → IsAcl node.acl → (v : Verdict) → v ≡ verdict cred node want → Decides cred node want v.yes v.rule
decided cred node want valid v same = subst (λ u. Decides cred node want u.yes u.rule) (sym same) (verdict_decides cred node want valid)
