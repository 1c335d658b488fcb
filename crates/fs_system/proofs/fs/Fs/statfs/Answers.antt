use Rattle.call_parts.specs.BothTables.{both}
use Rattle.std.proofs.Common.{Ok, sym, refl, ◌∙◌}
use Rattle.fs_model.specs.declared.event.Event.TheVariants.{Statfs}
use Rattle.fs_system.specs.Replies.{counted}
use Rattle.fs_system.proofs.Methods.{halted_happens, may_take, taken_runs, event_happens, event_system}
use Rattle.fs_system.proofs.fs.Fs.statfs.Goals as goal

pub returns-then-is_halted-clause-does : goal.returns-then-is_halted-clause-does
returns-then-is_halted-clause-does g c =
    halted_happens g.D.Disk.state g.met.D.Disk.only_now c.args.self.now Statfs (sym c.is_halted.ensures ∙ c.if-is_halted.true) refl

pub take-store-requires : goal.take-store-requires
take-store-requires g c = may_take g.met.D.Disk.only_now c.self.invariant c.self.view_is (sym c.is_halted.ensures ∙ c.if-is_halted.false)

pub count_space-free-requires : goal.count_space-free-requires
count_space-free-requires g c = record { running = taken_runs g.met.D.Disk.only_now c.self.invariant c.self.view_is c.take-store.ensures }

pub invariant_of-self : goal.invariant_of-self
invariant_of-self g c = event_system g.met.D.Disk.only_now c.self.invariant c.self.view_is c.take-store.ensures Statfs (counted c.count_space-free.result.0)
    (Ok c.count_space-free.result.1) (both c.self.inside.procs c.self.inside.openings.0) c.put.ensures (λ s r told. let done = c.count_space-free.ensures.does s r in (s, (done.0, refl), done.1)) (g.met.D.Disk.counts_now c.count_space-free.result.1.disk)

pub returns-clause-does : goal.returns-clause-does
returns-clause-does g c = event_happens g.met.D.Disk.only_now c.self.invariant c.self.view_is c.take-store.ensures Statfs (counted c.count_space-free.result.0)
    (Ok c.count_space-free.result.1) (both c.self.inside.procs c.self.inside.openings.0) c.put.ensures (λ s r told. let done = c.count_space-free.ensures.does s r in (s, (done.0, refl), done.1))
