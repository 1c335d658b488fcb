-- By the access check a user is granted what `grants_user` says, whatever its groups and capabilities are.
--     all-held        each entry of a list holds it
--     executes        what is granted so may be executed, where that is wanted
--     users_are_granted        a case for each rule of the access check
use Rattle.std.specs.Prelude.{◌≡◌, ◌≢◌, ℕ, ◌==◌, Bool, true, false, not, ◌&&◌, ◌||◌, List, [], ◌∷◌, Contains, Option, None, Some, if◌then◌else◌}
use Rattle.std.specs.List.{filter}
use Rattle.std.proofs.Common.{refl, sym, ap, subst, ◌∙◌, arith, inl, inr}
use Rattle.std.proofs.lemmas.Bool.Decides.{nat_tests}
use Rattle.posix_acl.specs.declared.entry.Perms.{Perms}
use Rattle.posix_acl.specs.AccessList.{AccessList, group_class}
use Rattle.fs_cred.specs.declared.node.Node.{Node}
use Rattle.fs_cred.specs.declared.rule.Rule.{Rule}
use Rattle.fs_cred.specs.declared.rule.Rule.TheVariants.{Owner, NamedUser, OwningGroup, NamedGroup, Mask, Other, Capability, NoExecuteBit}
use Rattle.fs_cred.specs.Permissions.{holds}
use Rattle.fs_cred.specs.Credentials.{Credential}
use Rattle.fs_cred.specs.Decisions.{IsOfGroup, ByGroup, Decides, has_execute_bit, lacks_execute_bit, is_file, passes_mask}
use Rattle.fs_layout.proofs.FirstEntries.{left as and-first, right as and-second}
use Rattle.fs_cred.proofs.Lookups.{Contains-head, Contains-tail, Contains-cons_cases}
use Rattle.fuse_plans.specs.Nobody.{all_hold, entries_for, mask_holds, mask_passes, grants_members, grants_named, grants_user}
use Rattle.fuse_plans.specs.Laws.{UsersAreGranted}
use Rattle.fuse_plans.proofs.Said.{said-so}

not-both : (b : Bool) → b ≡ false → b ≡ true → ⊥
not-both b fails holds = let is : false ≡ true = sym fails ∙ holds in cc

-- ---- lists of entries

all-held : (l : List (ℕ × Perms)) (want : Perms) (id : ℕ) (perms : Perms) → all_hold l want ≡ true → Contains l (id, perms) → holds perms want ≡ true
all-held [] want id perms all has = absurd (omega (arith, has.1))
all-held (e ∷ es) want id perms all has = elim (Contains-cons_cases e (id, perms) es has) [
  | inl here ↦ subst (λ (x : ℕ × Perms). holds x.1 want ≡ true) here (and-first (holds e.1 want) (all_hold es want) all)
  | inr there ↦ all-held es want id perms (and-second (holds e.1 want) (all_hold es want) all) there
]

named-kept : (uid : ℕ) (perms : Perms) (l : List (ℕ × Perms)) → Contains l (uid, perms) → Contains (filter (λ e. e.0 == uid) l) (uid, perms)
named-kept uid perms [] has = absurd (omega (arith, has.1))
named-kept uid perms (e ∷ es) has = elim (Contains-cons_cases e (uid, perms) es has) [
  | inl here ↦ (let same : (e.0 == uid) ≡ true = (let at : e.0 ≡ uid = ap (λ (y : ℕ × Perms). y.0) here in grind (arith, nat_tests)) in
      rw same (subst (λ (x : ℕ × Perms). Contains (x ∷ filter (λ e. e.0 == uid) es) (uid, perms)) (sym here) (Contains-head (uid, perms) _)))
  | inr there ↦ choose (e.0 == uid) (named-kept uid perms es there)
]
  where
    choose : (b : Bool) → Contains (filter (λ e. e.0 == uid) es) (uid, perms)
        → Contains (if b then e ∷ filter (λ e. e.0 == uid) es else filter (λ e. e.0 == uid) es) (uid, perms)
    choose true kept = Contains-tail e (uid, perms) _ kept
    choose false kept = kept

none-named : (uid : ℕ) (l : List (ℕ × Perms)) → ((perms : Perms) → ¬ (Contains l (uid, perms))) → filter (λ e. e.0 == uid) l ≡ []
none-named uid [] none = refl
none-named uid (e ∷ es) none = choose (e.0 == uid) refl (none-named uid es (λ perms has. none perms (Contains-tail e (uid, perms) es has)))
  where
    choose : (b : Bool) → (e.0 == uid) ≡ b → filter (λ e. e.0 == uid) es ≡ [] → (if b then e ∷ filter (λ e. e.0 == uid) es else filter (λ e. e.0 == uid) es) ≡ []
    choose true is rest =
        let at : e.0 ≡ uid = grind (arith, nat_tests) in
        absurd (none e.1 (subst (λ k. Contains (e ∷ es) (k, e.1)) at (Contains-head e es)))
    choose false is rest = rest

-- ---- what is granted

module _ (acl : AccessList) (want : Perms) where
  grants-owner : (owner uid : ℕ) → uid ≡ owner → grants_user owner uid acl want ≡ true → holds acl.owner want ≡ true
  grants-owner owner uid is held =
      let same : (owner == uid) ≡ true = grind (arith, nat_tests) in
      subst (λ b. (if b then holds acl.owner want else grants_named (entries_for uid acl) acl want) ≡ true) same held

  grants-others : (owner uid : ℕ) → uid ≢ owner → grants_user owner uid acl want ≡ true → grants_named (entries_for uid acl) acl want ≡ true
  grants-others owner uid other held =
      let apart : (owner == uid) ≡ false = grind (arith, nat_tests) in
      subst (λ b. (if b then holds acl.owner want else grants_named (entries_for uid acl) acl want) ≡ true) apart held

  named-hold : (es : List (ℕ × Perms)) → grants_named es acl want ≡ true → all_hold es want ≡ true
  named-hold [] held = refl
  named-hold (e ∷ es) held = and-first (all_hold (e ∷ es) want) (mask_holds acl.mask want) held

  members-pass : (mask : Option Perms) → mask_passes mask want ≡ true → passes_mask mask want ≡ true
  members-pass None passes = refl
  members-pass (Some mask) passes = passes

  named-pass : (mask : Option Perms) → mask_holds mask want ≡ true → passes_mask mask want ≡ true
  named-pass None passes = refl
  named-pass (Some mask) passes = passes

  -- the mask refuses nothing
  grants-pass : (es : List (ℕ × Perms)) → grants_named es acl want ≡ true → passes_mask acl.mask want ≡ true
  grants-pass [] held =
      members-pass acl.mask
      (and-first (mask_passes acl.mask want) (holds acl.other want)
      (and-second (all_hold acl.groups want) (mask_passes acl.mask want && holds acl.other want)
      (and-second (holds acl.group want) (all_hold acl.groups want && (mask_passes acl.mask want && holds acl.other want)) held)))
  grants-pass (e ∷ es) held = named-pass acl.mask (and-second (all_hold (e ∷ es) want) (mask_holds acl.mask want) held)

  -- the entries that count where nobody is named
  record OfMembers : Type 0 where
    group : holds acl.group want ≡ true
    groups : all_hold acl.groups want ≡ true
    other : holds acl.other want ≡ true

  members-granted : grants_members acl want ≡ true → OfMembers
  members-granted held =
      let later = and-second (holds acl.group want) (all_hold acl.groups want && (mask_passes acl.mask want && holds acl.other want)) held in
      record {
        group = and-first (holds acl.group want) (all_hold acl.groups want && (mask_passes acl.mask want && holds acl.other want)) held;
        groups = and-first (all_hold acl.groups want) (mask_passes acl.mask want && holds acl.other want) later;
        other = and-second (mask_passes acl.mask want) (holds acl.other want) (and-second (all_hold acl.groups want) (mask_passes acl.mask want && holds acl.other want) later);
      }

  grants-unnamed : (owner uid : ℕ) → uid ≢ owner → ((perms : Perms) → ¬ (Contains acl.users (uid, perms))) → grants_user owner uid acl want ≡ true → OfMembers
  grants-unnamed owner uid other none held =
      members-granted (subst (λ es. grants_named es acl want ≡ true) (none-named uid acl.users none) (grants-others owner uid other held))

-- ---- execute bits

held-executes : (perms want : Perms) → holds perms want ≡ true → want.execute ≡ true → perms.execute ≡ true
held-executes perms want held is = choose (not want.read || perms.read) (not want.write || perms.write) want.execute perms.execute is held
  where
    choose : (a b wants has : Bool) → wants ≡ true → (a && b && (not wants || has)) ≡ true → has ≡ true
    choose true true true has is held = held
    choose true true false has is held = absurd (cc)
    choose true false wants has is held = absurd (cc)
    choose false b wants has is held = absurd (cc)

-- one of three
executes : (a b c : Bool) → (b ≡ false → c ≡ true) → (a || b || c) ≡ true
executes true true c is = refl
executes true false c is = refl
executes false true c is = refl
executes false false c is = is refl

module _ (acl : AccessList) (want : Perms) (wanted : want.execute ≡ true) where
  owner-executes : holds acl.owner want ≡ true → has_execute_bit acl ≡ true
  owner-executes held = ap (λ a. a || (group_class acl).execute || acl.other.execute) (held-executes acl.owner want held wanted)

  mask-executes : (mask : Option Perms) → acl.mask ≡ mask → mask_holds mask want ≡ true → (group_class acl).execute ≡ true
  mask-executes None is held = absurd (cc)
  mask-executes (Some mask) is held = ap (λ m. (group_class (record acl { mask = m })).execute) is ∙ held-executes mask want held wanted

  named-executes : (es : List (ℕ × Perms)) → grants_named es acl want ≡ true → has_execute_bit acl ≡ true
  named-executes [] held =
      executes acl.owner.execute ((group_class acl).execute) acl.other.execute (λ none. held-executes acl.other want ((members-granted acl want held).other) wanted)
  named-executes (e ∷ es) held =
      executes acl.owner.execute ((group_class acl).execute) acl.other.execute
      (λ none. said-so (sym (mask-executes acl.mask refl (and-second (all_hold (e ∷ es) want) (mask_holds acl.mask want) held)) ∙ none))

  granted-executes : (owner uid : ℕ) → grants_user owner uid acl want ≡ true → has_execute_bit acl ≡ true
  granted-executes owner uid held = choose (owner == uid) held
    where
      choose : (b : Bool) → (if b then holds acl.owner want else grants_named (entries_for uid acl) acl want) ≡ true → has_execute_bit acl ≡ true
      choose true held = owner-executes held
      choose false held = named-executes (entries_for uid acl) held

lacks-none : (uid : ℕ) (node : Node) (want : Perms) → grants_user node.owner uid node.acl want ≡ true → lacks_execute_bit node want ≡ true → ⊥
lacks-none uid node want held lacks = choose want.execute (is_file node.kind) (has_execute_bit node.acl) (λ wanted. granted-executes node.acl want wanted node.owner uid held) refl lacks
  where
    choose : (wants file has : Bool) → (want.execute ≡ true → has ≡ true) → want.execute ≡ wants → (wants && file && not has) ≡ true → ⊥
    choose true true true executes is lacks = cc
    choose true true false executes is lacks = let no : false ≡ true = executes is in cc
    choose true false has executes is lacks = cc
    choose false file has executes is lacks = cc

-- ---- the access check

module _ (cred : Credential) (node : Node) (want : Perms) (held : grants_user node.owner cred.uid node.acl want ≡ true) where
  entry-holds : OfMembers node.acl want → (rule : Rule) (perms : Perms) → IsOfGroup cred node rule perms → holds perms want ≡ true
  entry-holds members OwningGroup perms of = subst (λ p. holds p want ≡ true) (sym of.1) members.group
  entry-holds members (NamedGroup group) perms of = all-held node.acl.groups want group perms members.groups of.1
  entry-holds members _ perms of = absurd of

  by-group : (granted : Bool) (rule : Rule) → ByGroup cred node want granted rule → granted ≡ true
  by-group true rule by = refl
  by-group false rule by =
      let members = grants-unnamed node.acl want node.owner cred.uid by.0.past_owner.not_owner by.0.not_named held in
      absurd (not-both (holds by.1.perms want) (by.2 rule by.1.perms by.1.is_of_group) (entry-holds members rule by.1.perms by.1.is_of_group))

  by-rule : (granted : Bool) (rule : Rule) → Decides cred node want granted rule → granted ≡ true
  by-rule granted (Capability caps) is = is.1
  by-rule granted NoExecuteBit is = absurd (lacks-none cred.uid node want held is.1)
  by-rule granted Owner is = is.2 ∙ grants-owner node.acl want node.owner cred.uid is.1 held
  by-rule granted (NamedUser user) is =
      let named = subst (λ u. Contains node.acl.users (u, is.2.0)) is.1 is.2.1 in
      let all = named-hold node.acl want (entries_for cred.uid node.acl) (grants-others node.acl want node.owner cred.uid is.0.not_owner held) in
      is.2.2 ∙ all-held (entries_for cred.uid node.acl) want cred.uid is.2.0 all (named-kept cred.uid is.2.0 node.acl.users named)
  by-rule granted OwningGroup is = by-group granted OwningGroup is
  by-rule granted (NamedGroup group) is = by-group granted (NamedGroup group) is
  by-rule granted Mask is =
      absurd (not-both (passes_mask node.acl.mask want) is.2
      (grants-pass node.acl want (entries_for cred.uid node.acl) (grants-others node.acl want node.owner cred.uid is.0.not_owner held)))
  by-rule granted Other is =
      let members = grants-unnamed node.acl want node.owner cred.uid is.0.past_owner.not_owner is.0.not_named held in
      is.2 ∙ members.other
  by-rule granted _ is = absurd is

pub users_are_granted : UsersAreGranted
users_are_granted cred node want granted rule held is = by-rule cred node want held granted rule is
