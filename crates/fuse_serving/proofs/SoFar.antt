-- Rounds so far.
use Rattle.std.proofs.Common.{◌≡◌, ◌⊎◌, inl, inr, ℕ, ◌+◌, Bool, true, false, List, [], ◌∷◌, ◌++◌, length, refl, ap, subst, ◌∙◌}
use Rattle.std.proofs.lemmas.List.{length_push}
use Rattle.fs_model.specs.declared.event.Event.{Event}
use Rattle.fs_model.specs.declared.reply.Reply.{Reply}
use Rattle.fuse_serving.specs.Exchanges.{Exchange}
use Rattle.fuse_serving.specs.Rounds.{Round, Parties, Rounds, no_round, HasEnded, ServedAll, Breaks, BrokenOff, rounds_limit}
use Rattle.fuse_serving.specs.Pieces.{ComesTo}
use Rattle.fuse_serving.specs.declared.fault.ServeFault.{ServeFault}
use Rattle.fuse_serving.proofs.Broken.{all_performed}
use Rattle.fuse_serving.proofs.Served.{are_served, one_round_more}

pub record SoFar {M K : Type 0} (Serves : M → Event → Reply → M → Type 0) (Does : K → Exchange → K → Type 0)
    (old new : Parties M K) (count : ℕ) : Type 0 where
  pub rounds : List Round
  pub in_order : Rounds Serves Does old rounds new
  pub counted : length rounds ≡ count

module _ {M K : Type 0} (Serves : M → Event → Reply → M → Type 0) (Does : K → Exchange → K → Type 0) where
  pub none_yet : (s : Parties M K) → SoFar Serves Does s s 0
  none_yet s = record { rounds = []; in_order = no_round s; counted = refl }

  pub one_more_so_far : (old mid new : Parties M K) (count : ℕ) (goes_on : Bool) → SoFar Serves Does old mid count
      → goes_on ≡ true → ComesTo Serves Does mid new goes_on → SoFar Serves Does old new (count + 1)
  one_more_so_far old mid new count goes_on so_far on comes =
      let next : ComesTo Serves Does mid new true = subst (λ (b : Bool). ComesTo Serves Does mid new b) on comes in
      record {
        rounds = so_far.rounds ++ next.0 ∷ [];
        in_order = one_round_more Serves Does so_far.rounds next.0 old mid new so_far.in_order next.1;
        counted = length_push so_far.rounds next.0 ∙ ap (λ k. k + 1) so_far.counted;
      }

  pub all_served : (old last new : Parties M K) (count : ℕ) → SoFar Serves Does old last count
      → HasEnded Does last new ⊎ ((count ≡ rounds_limit) × (new ≡ last)) → ServedAll Serves Does old new
  all_served old last new count so_far (inl ends) = record {
    rounds = so_far.rounds;
    last = last;
    in_order = so_far.in_order;
    served = are_served Serves Does so_far.rounds old last so_far.in_order;
    end = inl ends;
  }
  all_served old last new count so_far (inr many) = record {
    rounds = so_far.rounds;
    last = last;
    in_order = so_far.in_order;
    served = are_served Serves Does so_far.rounds old last so_far.in_order;
    end = inr (so_far.counted ∙ many.0, many.1);
  }

  pub served_to_end : (old last new : Parties M K) (count : ℕ) (goes_on : Bool) → SoFar Serves Does old last count
      → goes_on ≡ false → ComesTo Serves Does last new goes_on → ServedAll Serves Does old new
  served_to_end old last new count goes_on so_far off comes =
      all_served old last new count so_far (inl (subst (λ (b : Bool). ComesTo Serves Does last new b) off comes))

  pub broken_off : (old last new : Parties M K) (count : ℕ) (fault : ServeFault) → SoFar Serves Does old last count
      → Breaks Serves Does fault last new → BrokenOff Serves Does fault old new
  broken_off old last new count fault so_far breaks = record {
    rounds = so_far.rounds;
    last = last;
    in_order = so_far.in_order;
    served = are_served Serves Does so_far.rounds old last so_far.in_order;
    break = breaks;
    performed = all_performed Serves Does so_far.rounds breaks.untold old last new so_far.in_order breaks.performed;
  }
