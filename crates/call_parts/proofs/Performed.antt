-- Calls, each handed to its function.
--     performed        what that promises of its call, of the call that was matched
--     performed_for        the same of a caller that was made of who asks
use Rattle.call_parts.specs.BothTables.{Tables}
use Rattle.call_parts.specs.Callers.{ByCaller}
use Rattle.call_parts.specs.Callers.{Who}
use Rattle.std.specs.Prelude.{◌≡◌, ℕ, Result}
use Rattle.std.proofs.Common.{sym, subst}
use Rattle.fs_layout.specs.declared.geometry.Geometry.{Geometry}
use Rattle.fs_cred.specs.declared.refusal.Refusal.{Refusal}
use Rattle.sector_txn.specs.Sectors.{TxnState}
use Rattle.fs_model.specs.declared.call.Call.{Call}
use Rattle.fs_model.specs.declared.reply.Reply.{Reply}
use Rattle.call_parts.specs.declared.reaching.Caller.{Caller}
use Rattle.call_parts.specs.Performing.{Performs, PerformsBy, PerformsFor}

pub performed : (p : Geometry) (time : ℕ) (who : Who) (call this : Call) (old new : TxnState) (before now : Tables) (result : Result Reply Refusal) → call ≡ this
    → Performs p time (ByCaller who this) old new before now result → Performs p time (ByCaller who call) old new before now result
performed p time who call this old new before now result is h = subst (λ (q : Call). Performs p time (ByCaller who q) old new before now result) (sym is) h

pub performed_for : {made caller : Caller} {call this : Call} {old new : TxnState} {result : Result Reply Refusal} → made ≡ caller → call ≡ this
    → PerformsFor made this old new result → PerformsFor caller call old new result
performed_for {made} {caller} {call} {this} {old} {new} {result} same is h =
    subst (λ (c : Caller). PerformsFor c call old new result) same (subst (λ (q : Call). PerformsFor made q old new result) (sym is) h)

pub performed_by : {made caller : Caller} {who : Who} {call this : Call} {old new : TxnState} {result : Result Reply Refusal} → made ≡ caller → call ≡ this
    → PerformsBy made who this old new result → PerformsBy caller who call old new result
performed_by {made} {caller} {who} {call} {this} {old} {new} {result} same is h =
    subst (λ (c : Caller). PerformsBy c who call old new result) same (subst (λ (q : Call). PerformsBy made who q old new result) (sym is) h)
