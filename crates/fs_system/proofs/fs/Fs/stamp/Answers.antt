use Rattle.call_parts.specs.BothTables.{both}
use Rattle.std.proofs.Common.{sym, refl, ◌∙◌}
use Rattle.sector_txn.specs.Stores.{disk_after}
use Rattle.fs_model.specs.declared.event.Event.TheVariants.{Stamp}
use Rattle.fs_system.specs.Replies.{stamped_reply}
use Rattle.fs_system.proofs.Methods.{halted_happens, may_take, taken_runs, event_happens, event_system}
use Rattle.fs_system.proofs.fs.Fs.stamp.Goals as goal

pub returns-then-is_halted-clause-does : goal.returns-then-is_halted-clause-does
returns-then-is_halted-clause-does g c =
    halted_happens g.D.Disk.state g.met.D.Disk.only_now c.args.self.now (Stamp c.args.ino c.args.atime c.args.mtime c.args.ctime) (sym c.is_halted.ensures ∙ c.if-is_halted.true) refl

pub take-store-requires : goal.take-store-requires
take-store-requires g c = may_take g.met.D.Disk.only_now c.self.invariant c.self.view_is (sym c.is_halted.ensures ∙ c.if-is_halted.false)

pub stamp_kept-stamps-requires : goal.stamp_kept-stamps-requires
stamp_kept-stamps-requires g c = record { running = taken_runs g.met.D.Disk.only_now c.self.invariant c.self.view_is c.take-store.ensures }

pub invariant_of-self : goal.invariant_of-self
invariant_of-self g c = event_system g.met.D.Disk.only_now c.self.invariant c.self.view_is c.take-store.ensures (Stamp c.args.ino c.args.atime c.args.mtime c.args.ctime) (stamped_reply c.stamp_kept-stamps.result.0)
    c.stamp_kept-stamps.result.1 (both c.self.inside.procs c.self.inside.openings.0) c.put.ensures (λ s r told. c.stamp_kept-stamps.ensures.does s r) (g.met.D.Disk.counts_now (disk_after c.stamp_kept-stamps.result.1))

pub returns-clause-does : goal.returns-clause-does
returns-clause-does g c = event_happens g.met.D.Disk.only_now c.self.invariant c.self.view_is c.take-store.ensures (Stamp c.args.ino c.args.atime c.args.mtime c.args.ctime) (stamped_reply c.stamp_kept-stamps.result.0)
    c.stamp_kept-stamps.result.1 (both c.self.inside.procs c.self.inside.openings.0) c.put.ensures (λ s r told. c.stamp_kept-stamps.ensures.does s r)
