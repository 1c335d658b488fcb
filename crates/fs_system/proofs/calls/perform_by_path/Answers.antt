use Rattle.std.proofs.Common.{◌≡◌, Bool, true, false, refl, subst, Some, None, ◌∙◌}
use Rattle.std.specs.Prelude.{not, ◌&&◌, ◌||◌, IsTrue, IsFalse, Option, Result, MatchOption}
use Rattle.fs_cred.specs.declared.refusal.Refusal.{Refusal}
use Rattle.fs_model.specs.declared.reply.Reply.{Reply}
use Rattle.fs_model.specs.Actors.{is_actor_call}
use Rattle.call_parts.specs.Callers.{opens}
use Rattle.call_parts.specs.Performing.{PerformsFor, is_on_names}
use Rattle.fs_system.proofs.calls.perform_by_path.Goals as goal

-- neither of the calls on files nor of those on names that actors make
neither : (names actor opening : Bool) → IsTrue (names || not actor || opening) → IsFalse (names && actor) → IsTrue (not actor || opening)
neither true true opening file name = absurd cc
neither true false opening file name = refl
neither false actor opening file name = file

-- what is said of a call on names, where no call on files came before it
either_way : {A : Type 0} (names actor opening : Bool) (old mid new : A) (P : A → Result Reply Refusal → Type 0) (o : Option (Result Reply Refusal))
    → IsTrue (names || not actor || opening) → mid ≡ old
    → MatchOption o (IsFalse (names && actor) × (new ≡ mid)) (λ r. P mid r) → MatchOption o (IsTrue (not actor || opening) × (new ≡ old)) (λ r. P old r)
either_way names actor opening old mid new P None file same (name, kept) = (neither names actor opening file name, kept ∙ same)
either_way names actor opening old mid new P (Some r) file same done = subst (λ a. P a r) same done

pub returns : goal.returns
returns g c =
    let call = c.args.call.now in
    let left = c.in_default.ensures in
    either_way (is_on_names call) (is_actor_call call) (opens call) c.args.s.now c.perform.new.s c.perform-2.new.s
    (λ a r. PerformsFor c.args.caller.now call (g.S.Sectors.state a) (g.S.Sectors.state c.perform-2.new.s) r) c.perform-2.result left.0 left.1 c.perform-2.ensures
