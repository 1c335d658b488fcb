-- What passes, one after another.
use Rattle.std.proofs.Common.{◌≡◌, ℕ, ◌==◌, Bool, true, false, List, [], ◌∷◌, ◌++◌, Option, Some, refl, sym, subst, if◌then◌else◌, bit_and}
use Rattle.fs_cred.specs.declared.caps.Caps.{Caps}
use Rattle.fs_cred.specs.Capabilities.{no_caps, all_caps}
use Rattle.fuse_protocol.specs.declared.request.Request.{Request as WireRequest}
use Rattle.fuse_plans.specs.declared.request.WhoCounts.{WhoCounts}
use Rattle.fuse_plans.specs.declared.request.WhoCounts.TheVariants.{Nobody, User, Process}
use Rattle.fuse_plans.specs.Requests.{caps_left, credential_with}
use Rattle.fuse_plans.specs.declared.reply.Response.{Response}
use Rattle.fuse_plans.specs.declared.reply.Response.TheVariants.{Silence, Says, Fails}
use Rattle.fuse_plans.specs.Protocol.{response_bytes}
use Rattle.fuse_serving.specs.declared.caller.Caller.{Caller}
use Rattle.fuse_serving.specs.Exchanges.{Exchange, Writes, Learns, Passes, passes_none, passes_more}
use Rattle.fuse_serving.specs.Rounds.{has_reply, tells, asks_for, IsKnownAs, IsOfUser}

module _ {K : Type 0} (Does : K → Exchange → K → Type 0) where
  pub passes_joined : (xs ys : List Exchange) (old mid new : K) → Passes Does old xs mid → Passes Does mid ys new → Passes Does old (xs ++ ys) new
  passes_joined [] ys old mid new (passes_none _) rest = rest
  passes_joined (x ∷ xs) ys old mid new (passes_more _ _ _ after _ first more) rest =
      passes_more x (xs ++ ys) old after new first (passes_joined xs ys after mid new more rest)

  pub told : (old new : K) (bytes wanted : List ℕ) (taken : Bool) → bytes ≡ wanted → Does old (Writes bytes taken) new
      → Passes Does old (Writes wanted taken ∷ []) new
  told old new bytes wanted taken same does =
      passes_more (Writes wanted taken) [] old new new (subst (λ (s : List ℕ). Does old (Writes s taken) new) same does) (passes_none new)

  pub tells_nothing : (k : K) (unique : ℕ) (response : Response) (taken : Bool) → has_reply response ≡ false → Passes Does k (tells unique response taken) k
  tells_nothing k unique Silence taken none = passes_none k
  tells_nothing k unique (Says body) taken none = absurd (cc)
  tells_nothing k unique (Fails e) taken none = absurd (cc)

  pub tells_one : (old new : K) (unique : ℕ) (response : Response) (bytes : List ℕ) (taken : Bool) → has_reply response ≡ true
      → bytes ≡ response_bytes unique response → Does old (Writes bytes taken) new → Passes Does old (tells unique response taken) new
  tells_one old new unique Silence bytes taken is same does = absurd (cc)
  tells_one old new unique (Says body) bytes taken is same does = told old new bytes (response_bytes unique (Says body)) taken same does
  tells_one old new unique (Fails e) bytes taken is same does = told old new bytes (response_bytes unique (Fails e)) taken same does

  -- where the process counts, it is asked about
  pub learns_one : (old new : K) (who : WhoCounts) (spoken : WireRequest) (caller : Caller) → who ≡ Process
      → Does old (Learns spoken.pid spoken.uid spoken.gid caller) new → Passes Does old (asks_for who spoken caller) new
  learns_one old new who spoken caller is does =
      subst (λ (w : WhoCounts). Passes Does old (asks_for w spoken caller) new) (sym is)
      (passes_more (Learns spoken.pid spoken.uid spoken.gid caller) [] old new new does (passes_none new))

-- ---- of whom it is known

no-groups : (uid : ℕ) → caps_left uid no_caps ≡ no_caps
no-groups uid = choose (uid == 0)
  where
    choose : (b : Bool) → record { 0 = bit_and (if b then all_caps else no_caps).0 0 } ≡ no_caps
    choose true = refl
    choose false = refl

-- with no groups and no capabilities there is the user alone
pub of_user : (who : WhoCounts) (caller : Caller) (uid gid : ℕ) → IsKnownAs who caller → IsOfUser who (credential_with uid gid caller.caps caller.groups)
of_user Nobody caller uid gid known = tt
of_user Process caller uid gid known = tt
of_user User caller uid gid known =
    subst (λ (groups : Option (List ℕ)). IsOfUser User (credential_with uid gid caller.caps groups)) (sym known.0)
    (subst (λ (caps : Caps). IsOfUser User (credential_with uid gid caps (Some []))) (sym known.1) (refl, no-groups uid))
