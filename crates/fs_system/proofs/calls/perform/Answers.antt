use Rattle.std.proofs.Common.{◌≡◌, ℕ, List, Bool, true, false, refl, sym, ap, subst, Err}
use Rattle.std.specs.Prelude.{not, ◌||◌, IsTrue}
use Rattle.fs_cred.specs.declared.errno.Errno.TheVariants.{EBADF}
use Rattle.fs_cred.specs.declared.refusal.Refusal.TheVariants.{Failed}
use Rattle.fs_model.specs.declared.call.Call.{Call}
use Rattle.fs_model.specs.declared.call.Call.TheVariants.{Open}
use Rattle.fs_model.specs.declared.call.Flags.{Flags}
use Rattle.call_parts.specs.BothTables.{both}
use Rattle.call_parts.specs.Callers.{Who, ByCaller, ByActor, opens, who_of}
use Rattle.call_parts.specs.Performing.{Performs}
use Rattle.fs_system.proofs.CalledAt.{no_actor_call}
use Rattle.fs_system.proofs.calls.perform.Goals as goal

-- a call that isn't open opens nothing
opens_nothing : (call : Call) → ((path : List ℕ) (flags : Flags) (mode : ℕ) → call ≡ Open path flags mode → ⊥) → opens call ≡ false
opens_nothing (Open path flags mode) other = absurd (other path flags mode refl)
opens_nothing _ other = refl

-- what opens nothing, and what no actor makes or what opens something
no_actors : (actor opening : Bool) → IsTrue (not actor || opening) → opening ≡ false → actor ≡ false
no_actors false opening either none = refl
no_actors true opening either none = absurd cc

pub returns-in_default-by : goal.returns-in_default-by
returns-in_default-by g c =
    let v = c.in_default-by.field-0.now in
    let call = c.args.call.now in
    let old = g.S.Sectors.state c.args.s.now in
    let tables = both c.args.procs.now c.args.openings.now.0 in
    let left = c.in_default-perform_by_path.ensures in
    let none = no_actors _ _ left.0 (opens_nothing call c.in_default.not-Open) in
    subst (λ (who : Who). Performs c.args.site.geometry c.args.site.time (ByCaller who call) old (g.S.Sectors.state c.perform_by_path.new.s) tables tables (Err (Failed EBADF)))
    (sym (ap who_of c.in_default-by.is))
    (subst (λ k. Performs c.args.site.geometry c.args.site.time (ByCaller (ByActor v) call) old (g.S.Sectors.state k) tables tables (Err (Failed EBADF)))
    (sym left.1) (no_actor_call v call none))
