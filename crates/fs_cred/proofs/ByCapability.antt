-- What a capability decides is the verdict, and an answer that the rules give. Where none does, the entries are left.
use Rattle.std.proofs.Common.{◌≡◌, Bool, true, false, Some, None, refl, subst, inl, inr}
use Rattle.std.specs.Prelude.{if◌then◌else◌}
use Rattle.posix_acl.specs.declared.entry.Perms.{Perms}
use Rattle.fs_cred.specs.declared.node.Node.{Node}
use Rattle.fs_cred.specs.declared.rule.Verdict.{Verdict}
use Rattle.fs_cred.specs.declared.rule.Rule.TheVariants.{Capability, NoExecuteBit}
use Rattle.fs_cred.specs.Capabilities.{cap_dac_override, cap_dac_read_search}
use Rattle.fs_cred.specs.Credentials.{Credential, is_capable}
use Rattle.fs_cred.specs.Decisions.{Decides, has_execute_bit, lacks_execute_bit, may_read_search}
use Rattle.fs_cred.specs.Verdicts.{verdict, verdict_of, by_capability, by_entries}
use Rattle.fs_cred.proofs.OneAnswer.{IsRight}

module _ (cred : Credential) (node : Node) (want : Perms) where
  pub capability_is_verdict : (v : Verdict) → by_capability cred node.kind (has_execute_bit node.acl) want ≡ Some v → v ≡ verdict cred node want
  unfolding verdict
  capability_is_verdict v = go (is_capable cred cap_dac_override) (lacks_execute_bit node want) (may_read_search cred node.kind want)
    where
      go : (s x t : Bool)
          → (if s then Some (if x then verdict_of false NoExecuteBit else verdict_of true (Capability cap_dac_override))
          else (if t then Some (verdict_of true (Capability cap_dac_read_search)) else None)) ≡ Some v
          → v ≡ (if s then (if x then verdict_of false NoExecuteBit else verdict_of true (Capability cap_dac_override))
          else (if t then verdict_of true (Capability cap_dac_read_search) else by_entries cred node want))
      go true x t e = cc
      go false x true e = cc
      go false x false e = absurd (cc)

  pub capability_decides : (v : Verdict) → by_capability cred node.kind (has_execute_bit node.acl) want ≡ Some v → Decides cred node want v.yes v.rule
  capability_decides v = go (is_capable cred cap_dac_override) refl (lacks_execute_bit node want) refl (may_read_search cred node.kind want) refl
    where
      go : (s : Bool) → is_capable cred cap_dac_override ≡ s → (x : Bool) → lacks_execute_bit node want ≡ x → (t : Bool) → may_read_search cred node.kind want ≡ t
          → (if s then Some (if x then verdict_of false NoExecuteBit else verdict_of true (Capability cap_dac_override))
          else (if t then Some (verdict_of true (Capability cap_dac_read_search)) else None)) ≡ Some v
          → IsRight cred node want v
      go true s true x _ _ e = subst (IsRight cred node want) (let is : verdict_of false NoExecuteBit ≡ v = cc in is) (s, x, refl)
      go true s false x _ _ e = subst (IsRight cred node want) (let is : verdict_of true (Capability cap_dac_override) ≡ v = cc in is) (inl (refl, s, x), refl)
      go false s x _ true t e = subst (IsRight cred node want) (let is : verdict_of true (Capability cap_dac_read_search) ≡ v = cc in is) (inr (refl, s, t), refl)
      go false s x _ false t e = absurd (cc)

  pub entries_are_left : by_capability cred node.kind (has_execute_bit node.acl) want ≡ None → verdict cred node want ≡ by_entries cred node want
  unfolding verdict
  entries_are_left = go (is_capable cred cap_dac_override) (lacks_execute_bit node want) (may_read_search cred node.kind want)
    where
      go : (s x t : Bool)
          → (if s then Some (if x then verdict_of false NoExecuteBit else verdict_of true (Capability cap_dac_override))
          else (if t then Some (verdict_of true (Capability cap_dac_read_search)) else None)) ≡ None
          → (if s then (if x then verdict_of false NoExecuteBit else verdict_of true (Capability cap_dac_override))
          else (if t then verdict_of true (Capability cap_dac_read_search) else by_entries cred node want)) ≡ by_entries cred node want
      go true x t e = absurd (cc)
      go false x true e = absurd (cc)
      go false x false e = refl
