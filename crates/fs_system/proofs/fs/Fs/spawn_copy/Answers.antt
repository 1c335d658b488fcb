use Rattle.std.proofs.Common.{◌≤◌, ℕ, length, refl, sym, ap, subst, ◌∙◌}
use Rattle.fs_model.specs.declared.event.Event.TheVariants.{Spawn}
use Rattle.fs_system.specs.Doing.{Happens}
use Rattle.fs_system.specs.Replies.{spawned}
use Rattle.fs_system.proofs.Methods.{halted_happens, spawn_refused, spawn_lacks}
use Rattle.fs_system.proofs.Played.{still_room}
use Rattle.fs_system.proofs.fs.Fs.spawn_copy.Goals as goal

pub returns-then-is_halted-clause-does : goal.returns-then-is_halted-clause-does
returns-then-is_halted-clause-does g c =
    halted_happens g.D.Disk.state g.met.D.Disk.only_now c.args.self.now (Spawn c.args.cred.now) (sym c.is_halted.ensures ∙ c.if-is_halted.true) refl

pub returns-then-is_full-clause-does : goal.returns-then-is_full-clause-does
returns-then-is_full-clause-does g c =
    spawn_refused g.D.Disk.state g.met.D.Disk.only_now c.args.self.now (sym c.is_halted.ensures ∙ c.if-is_halted.false) c.args.cred.now c.args.self.now.processes
    (subst (λ (n : ℕ). 64 ≤ n) (ap (λ s. length s.processes) c.self.view_is) (c.is_full.ensures.0 c.if-is_full.true)) refl

pub returns-in_default-clause-does : goal.returns-in_default-clause-does
returns-in_default-clause-does g c =
    spawn_lacks g.D.Disk.state g.met.D.Disk.only_now c.args.self.now (sym c.is_halted.ensures ∙ c.if-is_halted.false) c.args.cred.now c.try_clone.ensures.valid
    c.args.self.now.processes (still_room c.self.inside.procs c.args.self.now.processes c.is_full.result (ap (λ s. s.processes) c.self.view_is) c.is_full.ensures c.if-is_full.false) refl

pub returns-clause-does : goal.returns-clause-does
returns-clause-does g c =
    subst (λ cred. Happens g.D.Disk.state c.args.self.now c.spawn.new.self (Spawn cred) (spawned c.spawn.result))
    c.in-Ok.ensures.same c.spawn.ensures.does
