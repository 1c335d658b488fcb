use Rattle.std.proofs.Common.{sym, subst}
use Rattle.std.proofs.lemmas.Result.{IfOk-from_err}
use Rattle.fs_layout.specs.Bytes.{SectorMap}
use Rattle.bit_alloc.specs.Bitmaps.{GivesNumber}
use Rattle.bit_alloc.proofs.Marking.{one_more_free}
use Rattle.bit_alloc.proofs.Transactions.{map_unchanged, bitmaps_unchanged, puts_after}
use Rattle.bit_alloc.proofs.Passing.{fault_on, no_fault, through_try}
use Rattle.sector_txn.proofs.TransactionRuns.{store_same}
use Rattle.bit_alloc.proofs.bitmap.give.Goals as goal

pub clear_bit-requires-clause-bitmaps : goal.clear_bit-requires-clause-bitmaps
clear_bit-requires-clause-bitmaps g c =
    bitmaps_unchanged c.args.geometry (g.S.Sectors.state c.args.s.now) (g.S.Sectors.state c.get.new.self) c.requires.bitmaps c.in_ok-get.ensures.same

pub returns-clause-given : goal.returns-clause-given
returns-clause-given g c =
    let mid = g.S.Sectors.state c.get.new.self in
    let new = g.S.Sectors.state c.clear_bit.new.s in
    let given : GivesNumber c.args.geometry c.args.map c.args.n mid.sectors new.sectors = record {
      mark = c.clear_bit.ensures.marks;
      clear = c.clear_bit.ensures.bit;
      count = λ was. one_more_free c.args.geometry c.args.map c.args.n mid.sectors new.sectors c.requires.bitmaps.geometry c.requires.number c.clear_bit.ensures.marks c.clear_bit.ensures.bit was;
    } in
    subst (λ (image : SectorMap). GivesNumber c.args.geometry c.args.map c.args.n image new.sectors) (sym (map_unchanged c.in_ok-get.ensures.same)) given

pub returns-clause-puts : goal.returns-clause-puts
returns-clause-puts g c = puts_after c.in_ok-get.ensures.same c.clear_bit.ensures.puts

pub returns-clause-cause : goal.returns-clause-cause
returns-clause-cause g c = no_fault (returns-clause-puts g c).store

pub returns-in_err-get-clause-given : goal.returns-in_err-get-clause-given
returns-in_err-get-clause-given g c = IfOk-from_err c.from_residual.result _ c.from_residual.ensures.0

pub returns-in_err-get-clause-puts : goal.returns-in_err-get-clause-puts
returns-in_err-get-clause-puts g c =
    let passed = c.from_residual in
    IfOk-from_err passed.result _ passed.ensures.0

pub returns-in_err-get-clause-bitmaps : goal.returns-in_err-get-clause-bitmaps
returns-in_err-get-clause-bitmaps g c =
    let passed = c.from_residual in
    IfOk-from_err passed.result _ passed.ensures.0

pub returns-in_err-get-clause-unchanged : goal.returns-in_err-get-clause-unchanged
returns-in_err-get-clause-unchanged g c =
    through_try _ c.from_residual.result c.in_err-get.field-0.0 c.from_residual.ensures
    c.in_err-get.ensures.same

pub returns-in_err-get-clause-cause : goal.returns-in_err-get-clause-cause
returns-in_err-get-clause-cause g c =
    fault_on {old = g.S.Sectors.state c.args.s.now} store_same c.in_err-get.ensures.cause
    c.from_residual.result c.from_residual.ensures
