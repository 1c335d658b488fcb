use Rattle.std.specs.Prelude.{ℤ}
use Rattle.std.proofs.Common.{rules, SFits, w64, sym, ap, ◌∙◌}
use Rattle.std.proofs.lemmas.Int.{to_z-of_z}
use Rattle.fs_model.specs.declared.call.Call.TheVariants.{Lseek}
use Rattle.bit_alloc.proofs.Transactions.{unchanged_nothing}
use Rattle.call_parts.proofs.Performed.{performed}
use Rattle.file_calls.proofs.Settled.{umask_performs}
use Rattle.file_calls.proofs.performing.perform_for_process.Goals as goal

pub returns-in-Read : goal.returns-in-Read
returns-in-Read g c = performed _ _ _ _ _ _ _ _ _ _ c.in-Read.is c.read.ensures.performs

pub returns-in-Write : goal.returns-in-Write
returns-in-Write g c = performed _ _ _ _ _ _ _ _ _ _ c.in-Write.is (rw c.bytes.ensures.all at c.write.ensures)

pub returns-in-Close : goal.returns-in-Close
returns-in-Close g c = performed _ _ _ _ _ _ _ _ _ _ c.in-Close.is c.close.ensures

pub returns-in-Fstat : goal.returns-in-Fstat
returns-in-Fstat g c = performed _ _ _ _ _ _ _ _ _ _ c.in-Fstat.is c.fstat.ensures.performs

pub returns-in-Ftruncate : goal.returns-in-Ftruncate
returns-in-Ftruncate g c = performed _ _ _ _ _ _ _ _ _ _ c.in-Ftruncate.is c.ftruncate.ensures

pub returns-in-Readdir : goal.returns-in-Readdir
returns-in-Readdir g c = performed _ _ _ _ _ _ _ _ _ _ c.in-Readdir.is c.readdir.ensures.performs

pub returns-in-Lseek : goal.returns-in-Lseek
returns-in-Lseek g c =
    let fits : SFits w64 c.in-Lseek.by = search rules in
    performed _ _ _ _ _ _ _ _ _ _ (c.in-Lseek.is ∙ ap (λ (by : ℤ). Lseek c.in-Lseek.fd c.in-Lseek.whence by) (sym (to_z-of_z w64 c.in-Lseek.by fits))) c.lseek.ensures.performs

pub returns-in-Umask : goal.returns-in-Umask
returns-in-Umask g c = performed _ _ _ _ _ _ _ _ _ _ c.in-Umask.is (umask_performs c.args.openings.now.0 c.umask.result unchanged_nothing c.umask.ensures)
