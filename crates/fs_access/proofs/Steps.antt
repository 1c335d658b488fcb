-- What is asked, step by step.
--     asked_nothing, asked_one, asked_then        nothing, one event, and one after another
--     cut_after        what was asked before a fault
use Rattle.std.specs.Prelude.{List, [], ◌∷◌, ◌++◌}
use Rattle.std.proofs.Common.{sym, ap, inl, inr, ◌∙◌, append_assoc}
use Rattle.fs_model.specs.declared.event.Event.{Event}
use Rattle.fs_model.specs.declared.reply.Reply.{Reply}
use Rattle.host_trees.specs.Copies.{Asked, Copies, ServesAll, stays, goes}
use Rattle.fs_access.specs.Asking.{IsUnanswered}
use Rattle.fs_access.specs.declared.fault.AccessFault.{AccessFault}

module _ {M : Type 0} {Serves : M → Event → Reply → M → Type 0} where
  goes_then : {old mid new : M} {first rest : List Asked} → ServesAll Serves old first mid → ServesAll Serves mid rest new → ServesAll Serves old (first ++ rest) new
  goes_then (stays m) rest = rest
  goes_then (goes old next mid asked first serves on) rest = goes old next _ asked _ serves (goes_then on rest)

  pub asked_nothing : (m : M) {Are : List Asked → Type 0} → Are [] → Copies Serves m m Are
  asked_nothing m are = record { asked = []; goes = stays m; are = are }

  pub asked_one : {old new : M} (event : Event) (reply : Reply) {Are : List Asked → Type 0} → Serves old event reply new
      → Are (record { event = event; reply = reply } ∷ []) → Copies Serves old new Are
  asked_one {old} {new} event reply serves are = record {
    asked = record { event = event; reply = reply } ∷ [];
    goes = goes old new new (record { event = event; reply = reply }) [] serves (stays new);
    are = are;
  }

  pub asked_then : {old mid new : M} {First Rest All : List Asked → Type 0} → Copies Serves old mid First → Copies Serves mid new Rest
      → ((first rest : List Asked) → First first → Rest rest → All (first ++ rest)) → Copies Serves old new All
  asked_then first rest join = record {
    asked = first.asked ++ rest.asked;
    goes = goes_then first.goes rest.goes;
    are = join first.asked rest.asked first.are rest.are;
  }

pub cut_after : (first rest : List Asked) (fault : AccessFault) → IsUnanswered rest fault → IsUnanswered (first ++ rest) fault
cut_after first rest fault (inl out) = inl out
cut_after first rest fault (inr cut) = inr (
  first ++ cut.0,
  cut.1,
  ap (λ asked. first ++ asked) cut.2 ∙ sym (append_assoc first cut.0 (cut.1 ∷ [])),
  cut.3,
)
