-- What a function that reads an inode promises.
--     not_read, lacking        it has been interrupted, by a lack of memory
use Rattle.std.specs.Prelude.{◌≡◌, IsErr, IsErrAnd, IfErr, Result, Ok, Err}
use Rattle.std.proofs.Common.{inl}
use Rattle.sector_disk.specs.Disk.{DiskState}
use Rattle.fs_cred.specs.declared.errno.Errno.TheVariants.{ENOMEM}
use Rattle.fs_cred.specs.declared.refusal.Refusal.{Refusal}
use Rattle.fs_cred.specs.declared.refusal.Refusal.TheVariants.{Failed}
use Rattle.fs_layout.specs.declared.inode.Inode.{Inode}
use Rattle.fs_layout.specs.Bytes.{SectorMap}
use Rattle.sector_txn.specs.Sectors.{TxnState, IsUnchanged}
use Rattle.path_walk.specs.Answers.{Interrupts}
use Rattle.path_walk.proofs.Kept.{if_err, failed_with}
use Rattle.call_parts.specs.Telling.{ReadsInode}

module _ {A B : Type 0} {v : Inode} {Has : SectorMap → Inode → B → Type 0} {f : B → A} {old new : TxnState} where
  pub not_read : (r : Result A Refusal) (e : Refusal) → IsErr r × IsErrAnd r (λ z. z ≡ e) → Interrupts old.disk new.disk e → IsUnchanged old new → ReadsInode v Has f old new r
  not_read r e err way same = record {
    found = if_err (λ y. (x : B) → Has old.sectors v x → y ≡ f x) r err.0;
    interrupts = failed_with r e (Interrupts old.disk new.disk) err.0 err.1 way;
    same = same;
  }

pub lacking : {A : Type 0} (old new : DiskState) (r : Result A Refusal) → IfErr r (λ e. e ≡ Failed ENOMEM) → IfErr r (Interrupts old new)
lacking old new (Ok x) h = tt
lacking old new (Err e) h = inl h
