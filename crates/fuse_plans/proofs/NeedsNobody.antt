-- Whether nobody is needed is decided at once, of all but look-ups.
--     at_once, decided_at_once        then nothing is asked for it
use Rattle.std.specs.Prelude.{◌≡◌, ℕ, Bool, true, false, not, List}
use Rattle.std.proofs.Common.{refl, sym, subst}
use Rattle.fs_model.specs.declared.event.Event.{Event}
use Rattle.fs_model.specs.declared.reply.Reply.{Reply}
use Rattle.fuse_protocol.specs.declared.operation.Extent.{Extent}
use Rattle.fuse_protocol.specs.declared.operation.Operation.{Operation}
use Rattle.fuse_protocol.specs.declared.operation.Operation.TheVariants.{Lookup, ReadDirPlus}
use Rattle.fuse_state.specs.Servers.{Server}
use Rattle.fuse_plans.specs.Plans.{Finish, CarriesOut, finishes}
use Rattle.fuse_plans.specs.Nobody.{needs_caller, needs_nobody}

-- of all but look-ups nothing is asked
abbrev pub is_lookup : Operation → Bool
is_lookup (Lookup name) = true
is_lookup (ReadDirPlus extent) = true
is_lookup _ = false

at_once : (node : ℕ) (operation : Operation) (s : Server) → is_lookup operation ≡ false → needs_nobody node operation s ≡ Finish (not (needs_caller operation))
at_once node (Lookup name) s is = absurd (cc)
at_once node (ReadDirPlus extent) s is = absurd (cc)
at_once node operation s is = refl

is_lookup_alone : (operation : Operation) → ((name : List ℕ) → operation ≡ Lookup name → ⊥) → ((extent : Extent) → operation ≡ ReadDirPlus extent → ⊥)
    → is_lookup operation ≡ false
is_lookup_alone (Lookup name) other others = absurd (other name refl)
is_lookup_alone (ReadDirPlus extent) other others = absurd (others extent refl)
is_lookup_alone _ other others = refl

pub decided_at_once : {M : Type 0} {Serves : M → Event → Reply → M → Type 0} (node : ℕ) (operation : Operation) (s : Server) (m : M)
    → ((name : List ℕ) → operation ≡ Lookup name → ⊥) → ((extent : Extent) → operation ≡ ReadDirPlus extent → ⊥)
    → CarriesOut Serves (needs_nobody node operation s) m m (not (needs_caller operation))
decided_at_once {M} {Serves} node operation s m other others =
    subst (λ p. CarriesOut Serves p m m (not (needs_caller operation))) (sym (at_once node operation s (is_lookup_alone operation other others)))
    (finishes (not (needs_caller operation)) m)
