use Rattle.std.proofs.Common.{◌≡◌, ℕ, ◌+◌, ◌<◌, ◌^◌, List, take, drop, min, length, sym, ap, subst, arith, ◌∙◌}
use Rattle.fs_layout.specs.Images.{Holds}
use Rattle.fs_model.specs.declared.reply.Reply.TheVariants.{Data}
use Rattle.fs_model.specs.Processes.{with_offset}
use Rattle.fs_model.specs.Scenes.{with_process}
use Rattle.sector_txn.proofs.TransactionRuns.{store_same}
use Rattle.block_map.proofs.Runs.{unchanged_joined}
use Rattle.dir_core.proofs.Scans.{inode_within}
use Rattle.call_parts.specs.BothTables.{both}
use Rattle.call_parts.specs.Reaching.{fd_of}
use Rattle.call_parts.proofs.ByDescriptor.{opened_ok, open_refused, open_below, asked_performs, interrupted_performs, changed_one}
use Rattle.file_calls.specs.Places.{read_most}
use Rattle.file_calls.proofs.HeldFiles.{no_directory}
use Rattle.file_calls.proofs.Reading.{read_by, reads_keep, reads_asks, read_refused, read_told, read_ends, read_of_most, end_fits}
use Rattle.file_calls.proofs.transfer.read.Goals as goal

pub returns-clause-performs : goal.returns-clause-performs
returns-clause-performs g c =
    let x = c.in_ok-descriptor.ensures.opened in
    let o = x.is_open.opened in
    let v = c.in_ok-descriptor.inode in
    let place = c.args.place in
    let file = no_directory v.kind c.in_ok-check_no_directory.ensures in
    let read = c.in_ok-bytes in
    let d = c.in_ok-descriptor.descriptor in
    let from = c.start_of-from.ensures in
    let to = c.start_of-from.result + length c.bytes.result.now in
    let len : d.offset + length read.bytes ≡ to = ap (λ l. d.offset + length l) (sym c.bytes.ensures.all) ∙ ap (λ n. n + length c.bytes.result.now) (sym from) in
    let most = c.min-most.ensures ∙ ap (min c.args.len) c.read_most.ensures in
    changed_one (read_by place c.args.len) c.in_ok-descriptor.ensures.same x.is_open (reads_keep place c.args.len) (g.S.Sectors.state c.read_bytes.new.s) (both c.seek_at.new.procs c.args.openings.now.0) read.ensures.same
    x.table to (Data read.bytes) c.seek_at.ensures
    (λ s at.
    let t = read_told o s at v x.inode file (read_most place) c.args.len read.bytes (read_of_most d.offset c.args.len c.min-most.result (read_most place) most (subst (λ (n : ℕ). (bytes : List ℕ) → Holds (g.S.Sectors.state c.reach_open.new.s).sectors v bytes → read.bytes ≡ take c.min-most.result (drop n bytes)) from read.ensures.found)) in
    (t.0, t.1 ∙ ap (λ (n : ℕ). with_process (with_offset o.process (fd_of place) n) (Data read.bytes)) len))

pub returns-in_err-descriptor-clause-performs : goal.returns-in_err-descriptor-clause-performs
returns-in_err-descriptor-clause-performs g c =
    let r = c.from_residual.ensures in
    open_refused (read_by c.args.place c.args.len) c.from_residual.result c.in_err-descriptor.field-0.0 r.0 r.1 c.in_err-descriptor.ensures.same.store c.in_err-descriptor.ensures.refused

pub returns-in_err-check_no_directory-clause-performs : goal.returns-in_err-check_no_directory-clause-performs
returns-in_err-check_no_directory-clause-performs g c =
    let r = c.from_residual-in_err-check_no_directory.ensures in
    let x = c.in_ok-descriptor.ensures.opened in
    let e = c.in_err-check_no_directory.field-0.0 in
    asked_performs (read_by c.args.place c.args.len) c.in_ok-descriptor.ensures.same x.is_open (g.S.Sectors.state c.reach_open.new.s) c.from_residual-in_err-check_no_directory.result e r.0 r.1 store_same
    (λ s at. read_refused x.is_open.opened s at c.in_ok-descriptor.inode x.inode e (sym c.in_err-check_no_directory.ensures))

pub read_bytes-requires : goal.read_bytes-requires
read_bytes-requires g c =
    let x = c.in_ok-descriptor.ensures.opened in
    record { within = inode_within x.ready.sound (c.in_ok-descriptor.descriptor.ino, open_below x.is_open.opened x.ready.state x.ready.is_state, x.inode) }

pub returns-in_err-bytes-clause-performs : goal.returns-in_err-bytes-clause-performs
returns-in_err-bytes-clause-performs g c =
    let r = c.from_residual-in_err-bytes.ensures in
    let x = c.in_ok-descriptor.ensures.opened in
    let failed = c.in_err-bytes.ensures in
    interrupted_performs (read_by c.args.place c.args.len) c.in_ok-descriptor.ensures.same x.is_open (g.S.Sectors.state c.read_bytes.new.s)
    c.from_residual-in_err-bytes.result c.in_err-bytes.field-0.0 r.0 r.1 failed.same.store (reads_asks c.args.place c.args.len) failed.interrupts

pub returns-in_err-bytes-clause-same : goal.returns-in_err-bytes-clause-same
returns-in_err-bytes-clause-same g c = unchanged_joined c.in_ok-descriptor.ensures.same c.in_err-bytes.ensures.same

pub overflow_add-to : goal.overflow_add-to
overflow_add-to g c =
    let x = c.in_ok-descriptor.ensures.opened in
    let v = c.in_ok-descriptor.inode in
    let d = c.in_ok-descriptor.descriptor in
    let place = c.args.place in
    let file = no_directory v.kind c.in_ok-check_no_directory.ensures in
    let from = c.start_of-from.ensures in
    let most = c.min-most.ensures ∙ ap (min c.args.len) c.read_most.ensures in
    let low : c.start_of-from.result < 2 ^ 64 = omega arith in
    let ends = read_ends x.is_open.opened x.ready.state x.ready.is_state v x.inode file (read_most place) c.args.len c.in_ok-bytes.bytes
    (read_of_most d.offset c.args.len c.min-most.result (read_most place) most (subst (λ (n : ℕ). (bytes : List ℕ) → Holds (g.S.Sectors.state c.reach_open.new.s).sectors v bytes → c.in_ok-bytes.bytes ≡ take c.min-most.result (drop n bytes)) from c.in_ok-bytes.ensures.found))
    (subst (λ (n : ℕ). n < 2 ^ 64) from low) in
    end_fits _ _ _ (subst (λ (n : ℕ). n + length c.in_ok-bytes.bytes < 2 ^ 64) (sym from) ends) (ap length c.bytes.ensures.all)

pub seek_at-requires : goal.seek_at-requires
seek_at-requires g c = opened_ok c.in_ok-descriptor.ensures.opened.is_open.opened

pub returns-clause-same : goal.returns-clause-same
returns-clause-same g c = unchanged_joined c.in_ok-descriptor.ensures.same c.in_ok-bytes.ensures.same
