-- A call, once its paths have been walked.
--     performs_after        what it does since then it has done since before the walks
use Rattle.call_parts.specs.BothTables.{Tables}
use Rattle.call_parts.specs.Callers.{Who, ByCaller}
use Rattle.std.specs.Prelude.{ℕ, Result, Ok, Err}
use Rattle.std.proofs.Common.{◌∙◌}
use Rattle.sector_disk.specs.Disk.{DiskState}
use Rattle.sector_disk.proofs.Moments.{failed_later}
use Rattle.fs_cred.specs.declared.refusal.Refusal.{Refusal}
use Rattle.fs_layout.specs.declared.geometry.Geometry.{Geometry}
use Rattle.sector_txn.specs.Sectors.{TxnState, IsUnchanged}
use Rattle.sector_txn.proofs.TransactionRuns.{store_joined}
use Rattle.fs_model.specs.declared.call.Call.{Call}
use Rattle.fs_model.specs.declared.reply.Reply.{Reply}
use Rattle.fs_model.specs.States.{State}
use Rattle.call_parts.specs.Performing.{IsRefused, early, late, lacks_memory, read_fails, Performs}
use Rattle.call_parts.proofs.Calling.{state_kept}

refused_before : {old mid : TxnState} {new : DiskState} {s : State} {who : Who} {call : Call} {r : Refusal} → IsUnchanged old mid → IsRefused mid.disk new s (ByCaller who call) r
    → IsRefused old.disk new s (ByCaller who call) r
refused_before same (early firm) = early firm
refused_before same (late firm other) = late firm other
refused_before same (lacks_memory firm asks memory) = lacks_memory firm asks memory
refused_before {old} {mid} {new} same (read_fails firm failed is) = read_fails firm (failed_later old.disk mid.disk new same.store.reads.failures failed) is

pub performs_after : {p : Geometry} {time : ℕ} {who : Who} {call : Call} {old mid new : TxnState} {before now : Tables} (result : Result Reply Refusal) → IsUnchanged old mid
    → Performs p time (ByCaller who call) mid new before now result → Performs p time (ByCaller who call) old new before now result
performs_after (Ok reply) same h = record {
  store = store_joined same.store h.store;
  super = h.super ∙ same.sectors 0;
  table = tt;
  each = λ s at. h.each s (state_kept same at);
}
performs_after (Err e) same h = record {
  store = store_joined same.store h.store;
  super = tt;
  table = h.table;
  each = λ s at. refused_before same (h.each s (state_kept same at));
}
