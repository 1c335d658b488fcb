-- Who may read and write may read.
use Rattle.std.specs.Prelude.{◌≡◌, ℕ, ◌==◌, Bool, true, false, ◌&&◌, cond, List, [], ◌∷◌, Option, None, Some, is_some}
use Rattle.std.proofs.Common.{refl, ap, ◌∙◌}
use Rattle.posix_acl.specs.declared.entry.Perms.{Perms}
use Rattle.fs_cred.specs.declared.node.Node.{Node}
use Rattle.fs_cred.specs.declared.rule.Rule.{Rule}
use Rattle.fs_cred.specs.declared.rule.Rule.TheVariants.{Owner, OwningGroup, NamedGroup, NamedUser, Mask, Capability}
use Rattle.fs_cred.specs.Permissions.{holds, nothing}
use Rattle.fs_cred.specs.Capabilities.{cap_dac_override, cap_dac_read_search}
use Rattle.fs_cred.specs.Credentials.{Credential, is_capable, is_member}
use Rattle.fs_cred.specs.Decisions.{passes_mask, read_search, may_read_search}
use Rattle.fs_cred.specs.Verdicts.{verdict, verdict_of, perms_named, first_named, first_of_groups, past_mask, by_override, by_entry, by_entries, by_named_user, by_groups_found, by_user_found}
use Rattle.fs_model.specs.Demands.{perms}

both : (a b : Bool) → (a && b && true) ≡ true → a ≡ true
both true b h = refl
both false b h = absurd cc

abbrev reads : Perms
reads = perms true false false

module _ (w : Bool) where
  abbrev more : Perms
  more = perms true w false

  holds_less : (e : Perms) → holds e more ≡ true → holds e reads ≡ true
  holds_less e h = let k = both e.read _ h in ap (λ b. b && true && true) k

  mask_less : (o : Option Perms) → passes_mask o more ≡ true → passes_mask o reads ≡ true
  mask_less None h = refl
  mask_less (Some m) h = holds_less m h

  past_less : (o : Option Perms) (r r' : Rule) → (cond (passes_mask o more) (verdict_of true r) (verdict_of false Mask)).yes ≡ true
      → (cond (passes_mask o reads) (verdict_of true r') (verdict_of false Mask)).yes ≡ true
  past_less o r r' h = go (passes_mask o more) refl h
    where
      go : (b : Bool) → passes_mask o more ≡ b → (cond b (verdict_of true r) (verdict_of false Mask)).yes ≡ true → (cond (passes_mask o reads) (verdict_of true r') (verdict_of false Mask)).yes ≡ true
      go true e h = ap (λ b. (cond b (verdict_of true r') (verdict_of false Mask)).yes) (mask_less o e)
      go false e h = absurd cc

  groups_less : (node : Node) (o p z : Option Rule) → (is_some o ≡ true → is_some p ≡ true) → (is_some p ≡ true → is_some z ≡ true)
      → (by_groups_found node more o z).yes ≡ true → (by_groups_found node reads p z).yes ≡ true
  groups_less node (Some r) (Some r') z a b h = past_less node.acl.mask r r' h
  groups_less node (Some r) None z a b h = absurd (let k = a refl in cc)
  groups_less node None p (Some r) a b h = absurd cc
  groups_less node None (Some r) None a b h = absurd (let k = b refl in cc)
  groups_less node None None None a b h = holds_less node.acl.other h

pick : (m a b : Bool) (r : Rule) (x y : Option Rule) → (a ≡ true → b ≡ true) → (is_some x ≡ true → is_some y ≡ true)
    → is_some (cond (m && a) (Some r) x) ≡ true → is_some (cond (m && b) (Some r) y) ≡ true
pick false a b r x y k ih h = ih h
pick true a true r x y k ih h = refl
pick true true false r x y k ih h = absurd (let n = k refl in cc)
pick true false false r x y k ih h = ih h

module _ (cred : Credential) (a b : Perms) (k : (e : Perms) → holds e a ≡ true → holds e b ≡ true) where
  named_less : (es : List (ℕ × Perms)) → is_some (first_named cred a es) ≡ true → is_some (first_named cred b es) ≡ true
  named_less [] h = h
  named_less (e ∷ es) h = pick (is_member cred e.0) (holds e.1 a) (holds e.1 b) (NamedGroup e.0) (first_named cred a es) (first_named cred b es) (k e.1) (named_less es) h

  first_less : (node : Node) → is_some (first_of_groups cred node a) ≡ true → is_some (first_of_groups cred node b) ≡ true
  first_less node h =
      pick (is_member cred node.group) (holds node.acl.group a) (holds node.acl.group b) OwningGroup (first_named cred a node.acl.groups)
      (first_named cred b node.acl.groups) (k node.acl.group) (named_less node.acl.groups) h

module _ (cred : Credential) (node : Node) (w : Bool) where
  -- by the entries
  entries_less : (by_entries cred node (more w)).yes ≡ true → (by_entries cred node reads).yes ≡ true
  entries_less h = go (cred.uid == node.owner) (perms_named cred.uid node.acl.users) h
    where
      named : (e : Perms) (b : Bool) → holds e (more w) ≡ b
          → (cond b (past_mask node.acl (more w) (NamedUser cred.uid)) (verdict_of false (NamedUser cred.uid))).yes ≡ true
          → (by_named_user node reads cred.uid e).yes ≡ true
      named e true k h =
          ap (λ b. (cond b (past_mask node.acl reads (NamedUser cred.uid)) (verdict_of false (NamedUser cred.uid))).yes) (holds_less w e k)
          ∙ past_less w node.acl.mask (NamedUser cred.uid) (NamedUser cred.uid) h
      named e false k h = absurd cc

      go : (own : Bool) (o : Option Perms)
          → (cond own (by_entry node.acl.owner (more w) Owner) (by_user_found cred node (more w) o)).yes ≡ true
          → (cond own (by_entry node.acl.owner reads Owner) (by_user_found cred node reads o)).yes ≡ true
      go true o h = holds_less w node.acl.owner h
      go false (Some e) h = named e (holds e (more w)) refl h
      go false None h =
          groups_less w node (first_of_groups cred node (more w)) (first_of_groups cred node reads) (first_of_groups cred node nothing)
          (first_less cred (more w) reads (holds_less w) node)
          (first_less cred reads nothing (λ e k. refl) node) h

  -- by CAP_DAC_READ_SEARCH
  search_less : may_read_search cred node.kind (more w) ≡ true → may_read_search cred node.kind reads ≡ true
  search_less h = go (is_capable cred cap_dac_read_search) h
    where
      go : (b : Bool) → (b && holds (read_search node.kind) (more w)) ≡ true → (b && holds (read_search node.kind) reads) ≡ true
      go true h = holds_less w (read_search node.kind) h
      go false h = h

-- who is granted to read and write is granted to read
pub reads_less : (cred : Credential) (node : Node) (w : Bool) → (verdict cred node (perms true w false)).yes ≡ true
    → (verdict cred node (perms true false false)).yes ≡ true
unfolding verdict
reads_less cred node w h =
    go (is_capable cred cap_dac_override) (may_read_search cred node.kind (more w)) (may_read_search cred node.kind reads) (search_less cred node w) h
  where
    go : (su a b : Bool) → (a ≡ true → b ≡ true)
        → (cond su (by_override node (more w)) (cond a (verdict_of true (Capability cap_dac_read_search)) (by_entries cred node (more w)))).yes ≡ true
        → (cond su (by_override node reads) (cond b (verdict_of true (Capability cap_dac_read_search)) (by_entries cred node reads))).yes ≡ true
    go true a b k h = refl
    go false a true k h = refl
    go false true false k h = absurd (let n = k refl in cc)
    go false false false k h = entries_less cred node w h
