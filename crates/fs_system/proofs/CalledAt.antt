-- An actor's call.
--     no_actor_call        it is none
use Rattle.call_parts.specs.BothTables.{Tables}
use Rattle.std.specs.Prelude.{◌≡◌, ◌++◌, ℕ, false, not, Some, Err}
use Rattle.std.proofs.Common.{refl, ap}
use Rattle.fs_cred.specs.declared.errno.Errno.TheVariants.{EBADF}
use Rattle.fs_cred.specs.declared.refusal.Refusal.TheVariants.{Failed}
use Rattle.fs_layout.specs.declared.geometry.Geometry.{Geometry}
use Rattle.sector_txn.specs.Sectors.{TxnState}
use Rattle.sector_txn.proofs.TransactionRuns.{store_same}
use Rattle.fs_model.specs.declared.call.Call.{Call}
use Rattle.fs_model.specs.declared.event.Actor.{Actor}
use Rattle.fs_model.specs.declared.event.Event.TheVariants.{CallAt}
use Rattle.fs_model.specs.Demands.{refuse, or_else, first_of}
use Rattle.fs_model.specs.Rows.{row_of}
use Rattle.fs_model.specs.States.{State}
use Rattle.fs_model.specs.Steps.{firm_refusal}
use Rattle.fs_model.specs.Actors.{is_actor_call, judged_as, checks_from}
use Rattle.std.specs.List.{flat_map}
use Rattle.call_parts.specs.Callers.{ByActor, ByCaller}
use Rattle.call_parts.specs.Performing.{Performs, early}

module _ (s : State) (v : Actor) (call : Call) where
  refused_first : is_actor_call call ≡ false → firm_refusal s (CallAt v call) ≡ Some (Failed EBADF)
  unfolding firm_refusal
  refused_first none =
      ap (λ b. or_else (refuse EBADF (not b)) (first_of ((row_of call).arguments ++ flat_map (λ walk. checks_from walk.1) (row_of call).walks ++ (row_of call).early (judged_as v)))) none

pub no_actor_call : {p : Geometry} {time : ℕ} {txn : TxnState} {tables : Tables} (v : Actor) (call : Call) → is_actor_call call ≡ false
    → Performs p time (ByCaller (ByActor v) call) txn txn tables tables (Err (Failed EBADF))
no_actor_call v call none = record { store = store_same; super = tt; table = refl; each = λ s at. early (refused_first s v call none) }
