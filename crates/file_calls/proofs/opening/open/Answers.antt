use Rattle.std.proofs.Common.{◌≡◌, Ok, Err, sym, subst, ap, ◌∙◌}
use Rattle.sector_txn.proofs.TransactionRuns.{store_same}
use Rattle.bit_alloc.proofs.Transactions.{spare_unchanged}
use Rattle.fs_layout.specs.declared.geometry.Geometry.{Geometry}
use Rattle.fs_model.specs.Processes.{Openings}
use Rattle.path_walk.proofs.Kept.{sound_kept}
use Rattle.call_parts.specs.BothTables.{both, tables_of}
use Rattle.call_parts.specs.Callers.{IsJudgedAs, who_of}
use Rattle.call_parts.specs.declared.reaching.Caller.{Caller}
use Rattle.call_parts.proofs.ByPath.{refused_performs, absent_performs}
use Rattle.call_parts.specs.Callers.{ByCaller, IsAbsent}
use Rattle.call_parts.specs.Performing.{MayPerform, Performs}
use Rattle.fs_model.specs.declared.call.Call.TheVariants.{Open}
use Rattle.fs_cred.specs.declared.errno.Errno.TheVariants.{ESRCH}
use Rattle.file_calls.specs.Openings.{MayOpen, Opens}
use Rattle.file_calls.specs.Opens.{opened_so, IsSlotFilled}
use Rattle.file_calls.proofs.OpenRow.{not_placed, may_put, walk_refuses, demands_refuse, found_in, opens, walks_as}
use Rattle.file_calls.proofs.opening.open.Goals as goal

pub returns-in_err-slot : goal.returns-in_err-slot
returns-in_err-slot g c =
    let r = c.from_residual.ensures in
    let old = g.S.Sectors.state c.args.s.now in
    let e = c.in_err-slot.field-0.0 in
    subst (λ (o : Openings). Performs c.args.site.geometry c.args.site.time (ByCaller (who_of c.args.by) (Open c.args.path.now c.args.flags c.args.mode)) old old
    (both c.args.procs.now c.args.openings.now.0) (both c.args.procs.now o) c.from_residual.result) (sym c.find_slot.ensures.same)
    (refused_performs c.from_residual.result e r.0 r.1 store_same
    (λ s at. not_placed old.disk old.disk s (who_of c.args.by) c.args.path.now c.args.flags c.args.mode e (c.in_err-slot.ensures.refused s at.same_tables)))

pub returns-in_err-process : goal.returns-in_err-process
returns-in_err-process g c =
    let r = c.from_residual-in_err-process.ensures in
    let old = g.S.Sectors.state c.args.s.now in
    let absent = subst (λ (k : Caller). (c.in_err-process.field-0.0 ≡ ESRCH) × IsAbsent k.procs.now (who_of k.by)) c.caller-caller.ensures c.in_err-process.ensures.absent in
    subst (λ (o : Openings). Performs c.args.site.geometry c.args.site.time (ByCaller (who_of c.args.by) (Open c.args.path.now c.args.flags c.args.mode)) old old
    (both c.args.procs.now c.args.openings.now.0) (both c.args.procs.now o) c.from_residual-in_err-process.result) (sym c.find_slot.ensures.same)
    (absent_performs c.from_residual-in_err-process.result c.in_err-process.field-0.0 r.0 r.1 absent)

pub find-requires : goal.find-requires
find-requires g c =
    let is = c.caller-caller.ensures in
    let there = c.in_ok-process.ensures.found in
    record {
      ready = subst (λ (k : Caller). MayPerform k.geometry (g.S.Sectors.state c.args.s.now) (tables_of k)) (sym is)
          (subst (λ (o : Openings). MayPerform c.args.site.geometry (g.S.Sectors.state c.args.s.now) (both c.args.procs.now o)) (sym c.find_slot.ensures.same) c.requires.ready);
      stands = there;
    }

pub returns-in_err-found : goal.returns-in_err-found
returns-in_err-found g c =
    let r = c.from_residual-in_err-found.ensures in
    let e = c.in_err-found.field-0.0 in
    let made = c.caller-caller.result in
    let is = c.caller-caller.ensures in
    let tables = both c.args.procs.now c.args.openings.now.0 in
    let who = who_of c.args.by in
    let same_tables : tables_of made ≡ tables = ap tables_of is ∙ ap (both c.args.procs.now) c.find_slot.ensures.same in
    let placed = c.in_ok-slot.ensures.placed in
    let q = c.in_ok-process.process in
    let there = subst (λ (k : Caller). IsJudgedAs k.procs.now (who_of k.by) q) is c.in_ok-process.ensures.found in
    let old = g.S.Sectors.state c.args.s.now in
    let mid = g.S.Sectors.state c.find.new.s in
    subst (λ (o : Openings). Performs c.args.site.geometry c.args.site.time (ByCaller who (Open c.args.path.now c.args.flags c.args.mode)) old mid tables (both c.args.procs.now o) c.from_residual-in_err-found.result) (sym c.find_slot.ensures.same)
    (walk_refuses who c.args.path.now c.args.flags c.args.mode old q there c.in_ok-slot.slot placed mid c.in_err-found.ensures.same c.from_residual-in_err-found.result e r.0 r.1
    (walks_as old mid q (Err e) made c.args.site.geometry tables who c.args.path.now c.args.flags c.args.mode c.form_of-form.result (ap (λ (k : Caller). k.geometry) is) same_tables
    (ap (λ (k : Caller). who_of k.by) is) c.form_of-form.ensures placed.asked c.in_err-found.ensures.each))

pub open_inode-requires : goal.open_inode-requires
open_inode-requires g c =
    let made = c.caller-caller.result in
    let is = c.caller-caller.ensures in
    let tables = both c.args.procs.now c.args.openings.now.0 in
    let who = who_of c.args.by in
    let same_tables : tables_of made ≡ tables = ap tables_of is ∙ ap (both c.args.procs.now) c.find_slot.ensures.same in
    let placed = c.in_ok-slot.ensures.placed in
    let q = c.in_ok-process.process in
    let there = subst (λ (k : Caller). IsJudgedAs k.procs.now (who_of k.by) q) is c.in_ok-process.ensures.found in
    let old = g.S.Sectors.state c.args.s.now in
    let mid = g.S.Sectors.state c.find.new.s in
    let f = c.in_ok-found.found in
    let same = c.in_ok-found.ensures.same in
    subst (λ (k : Geometry). MayOpen k mid q (record { found = f; flags = c.args.flags; mode = c.args.mode })) (sym (ap (λ (k : Caller). k.geometry) is)) (record {
      sound = sound_kept same c.requires.ready.sound;
      spare = spare_unchanged c.args.site.geometry 47 old mid c.requires.ready.spare same;
      state = c.requires.ready.state;
      found = found_in who c.args.path.now c.args.flags c.args.mode old q there c.in_ok-slot.slot placed mid same f
          (walks_as old mid q (Ok f) made c.args.site.geometry tables who c.args.path.now c.args.flags c.args.mode c.form_of-form.result (ap (λ (k : Caller). k.geometry) is) same_tables
          (ap (λ (k : Caller). who_of k.by) is) c.form_of-form.ensures placed.asked c.in_ok-found.ensures.each) c.bytes-bytes.ensures.valid c.requires.ready.state c.requires.ready.is_state;
    })

pub returns-in_err-ino : goal.returns-in_err-ino
returns-in_err-ino g c =
    let r = c.from_residual-in_err-ino.ensures in
    let e = c.in_err-ino.field-0.0 in
    let made = c.caller-caller.result in
    let is = c.caller-caller.ensures in
    let tables = both c.args.procs.now c.args.openings.now.0 in
    let who = who_of c.args.by in
    let same_tables : tables_of made ≡ tables = ap tables_of is ∙ ap (both c.args.procs.now) c.find_slot.ensures.same in
    let placed = c.in_ok-slot.ensures.placed in
    let q = c.in_ok-process.process in
    let there = subst (λ (k : Caller). IsJudgedAs k.procs.now (who_of k.by) q) is c.in_ok-process.ensures.found in
    let old = g.S.Sectors.state c.args.s.now in
    let mid = g.S.Sectors.state c.find.new.s in
    let f = c.in_ok-found.found in
    let new = g.S.Sectors.state c.open_inode.new.s in
    let failed = subst (λ (k : Caller). Opens k q (record { found = f; flags = c.args.flags; mode = c.args.mode }) mid new (Err e)) is c.in_err-ino.ensures in
    subst (λ (o : Openings). Performs c.args.site.geometry c.args.site.time (ByCaller who (Open c.args.path.now c.args.flags c.args.mode)) old new tables (both c.args.procs.now o) c.from_residual-in_err-ino.result) (sym c.find_slot.ensures.same)
    (demands_refuse who c.args.path.now c.args.flags c.args.mode old q there c.in_ok-slot.slot placed mid c.in_ok-found.ensures.same f
    (walks_as old mid q (Ok f) made c.args.site.geometry tables who c.args.path.now c.args.flags c.args.mode c.form_of-form.result (ap (λ (k : Caller). k.geometry) is) same_tables
    (ap (λ (k : Caller). who_of k.by) is) c.form_of-form.ensures placed.asked c.in_ok-found.ensures.each) c.bytes-bytes.ensures.valid new c.from_residual-in_err-ino.result e r.0 r.1 failed.store failed.each)

pub put_open-requires : goal.put_open-requires
put_open-requires g c =
    record { may = may_put (both c.args.procs.now c.args.openings.now.0) (who_of c.args.by) c.in_ok-slot.slot c.find_slot.new.openings.1 c.in_ok-slot.ensures.placed.free c.in_ok-slot.ensures.room }

pub returns : goal.returns
returns g c =
    let made = c.caller-caller.result in
    let is = c.caller-caller.ensures in
    let tables = both c.args.procs.now c.args.openings.now.0 in
    let who = who_of c.args.by in
    let same_tables : tables_of made ≡ tables = ap tables_of is ∙ ap (both c.args.procs.now) c.find_slot.ensures.same in
    let placed = c.in_ok-slot.ensures.placed in
    let q = c.in_ok-process.process in
    let there = subst (λ (k : Caller). IsJudgedAs k.procs.now (who_of k.by) q) is c.in_ok-process.ensures.found in
    let old = g.S.Sectors.state c.args.s.now in
    let mid = g.S.Sectors.state c.find.new.s in
    let f = c.in_ok-found.found in
    let new = g.S.Sectors.state c.open_inode.new.s in
    let n = c.in_ok-ino.ino in
    let now = both c.put_open.new.procs c.put_open.new.openings.0 in
    let done = subst (λ (k : Caller). Opens k q (record { found = f; flags = c.args.flags; mode = c.args.mode }) mid new (Ok n)) is c.in_ok-ino.ensures in
    let put = subst (λ (o : Openings). IsSlotFilled (both c.args.procs.now o) c.in_ok-slot.slot (opened_so n c.args.flags) now c.put_open.result) c.find_slot.ensures.same c.put_open.ensures in
    opens who c.args.path.now c.args.flags c.args.mode old q there c.in_ok-slot.slot placed mid c.in_ok-found.ensures.same f
    (walks_as old mid q (Ok f) made c.args.site.geometry tables who c.args.path.now c.args.flags c.args.mode c.form_of-form.result (ap (λ (k : Caller). k.geometry) is) same_tables
    (ap (λ (k : Caller). who_of k.by) is) c.form_of-form.ensures placed.asked c.in_ok-found.ensures.each) c.bytes-bytes.ensures.valid c.tell_table.ensures.table new now c.put_open.result done.store done.super n put done.each
