-- Several events, of someone outside and of others that look and list directories in between.
use Rattle.std.specs.Prelude.{[], ◌∷◌, IsTrue, ◌⊎◌}
use Rattle.std.proofs.Common.{refl, sym, ap, ◌∙◌, subst, inl, inr}
use Rattle.fs_model.specs.declared.event.Event.{Event}
use Rattle.fs_model.specs.declared.event.Event.TheVariants.{Arm, Restart}
use Rattle.fs_model.specs.declared.reply.Reply.{Reply}
use Rattle.fs_model.specs.States.{State, IsState}
use Rattle.fs_model.specs.Steps.{is_of_machine, Choice}
use Rattle.fs_model.specs.Confinement.{IsConfined, StepBy}
use Rattle.fs_model.specs.Outsiders.{Outsider, AreAlikeTo, AreOpen, IsBetween, IsListing, after_answer, ListingRunsConfined}
use Rattle.fs_model.proofs.ConfinedStepsOf.{steps_by}
use Rattle.fs_model.proofs.StepsKeep.{steps_keep}
use Rattle.fs_model.proofs.ConfinedOutsiders.{answered_cred, outsiders_confined}
use Rattle.fs_model.proofs.BetweenEvents.{KeptAlike, others_keep_alike, its_machine}
use Rattle.fs_model.proofs.ConfinedListings.{listings_keep_alike}
use Rattle.fs_model.proofs.StayOpen.{handles_stay_open}

others_machine : (e : Event) (w : Outsider) → IsBetween e ⊎ IsListing w e → IsTrue (is_of_machine e)
others_machine (Arm k) w its = elim its [ inl a ↦ absurd a | inr b ↦ absurd b ]
others_machine (Restart bytes arm) w its = elim its [ inl a ↦ absurd a | inr b ↦ absurd b ]
others_machine e w its = refl

others_alike : (w : Outsider) (e : Event) (s t s' t' : State) (choice : Choice) (reply reply' : Reply) → IsState s → IsState t → AreOpen w s
    → IsBetween e ⊎ IsListing w e → AreAlikeTo w s t → StepBy choice s e reply s' → StepBy choice t e reply' t' → KeptAlike w reply reply' s' t'
others_alike w e s t s' t' choice reply reply' is js opened others alike x y = elim others [
  | inl between ↦ others_keep_alike w e s t s' t' choice reply reply' is js between alike x y
  | inr listing ↦ listings_keep_alike w e s t s' t' choice reply reply' is opened listing alike x y
]

pub listing_runs_confined : ListingRunsConfined
listing_runs_confined w then s t s' t' [] [] [] is js confined opened leads alike x y =
    let here = subst (λ u. AreAlikeTo w u t') (sym x) (subst (λ u. AreAlikeTo w s u) (sym y) alike) in
    (refl, subst (λ v. AreAlikeTo v s' t') (sym leads) here, subst (λ v. AreOpen v s') (sym leads) (subst (λ u. AreOpen w u) (sym x) opened))
listing_runs_confined w then s t s' t' [] (r ∷ rs) rs' is js confined opened leads alike x y = absurd x
listing_runs_confined w then s t s' t' [] [] (r' ∷ rs') is js confined opened leads alike x y = absurd y
listing_runs_confined w then s t s' t' (e ∷ es) [] rs' is js confined opened leads alike x y = absurd x
listing_runs_confined w then s t s' t' (e ∷ es) (r ∷ rs) [] is js confined opened leads alike x y = absurd y
listing_runs_confined w then s t s' t' (e ∷ es) (r ∷ rs) (r' ∷ rs') is js confined opened leads alike x y = elim leads.1 [
  | inl own ↦
      let one = outsiders_confined w e.0 s t x.0 y.0 e.1 r r' is js confined own.0 leads.0 alike x.1 y.1 in
      let machine = its_machine e.0 w (inl own.0) in
      let step = steps_by s x.0 e.0 r e.1 machine x.1 in
      let rest =
      listing_runs_confined (after_answer w e.0 r) then x.0 y.0 s' t' es rs rs'
      (steps_keep s x.0 e.0 r is leads.0 step) (steps_keep t y.0 e.0 r' js leads.0 (steps_by t y.0 e.0 r' e.1 machine y.1))
      (subst IsConfined (sym (answered_cred w e.0 r)) confined)
      ((handles_stay_open w e.0 s x.0 r is opened step).its own.0 one.1.first_runs) own.1 one.1 x.2 y.2 in
      (ap (λ a. a ∷ rs) one.0 ∙ ap (λ bs. r' ∷ bs) rest.0, rest.1, rest.2)
  | inr other ↦
      let one = others_alike w e.0 s t x.0 y.0 e.1 r r' is js opened other.0 alike x.1 y.1 in
      let machine = others_machine e.0 w other.0 in
      let step = steps_by s x.0 e.0 r e.1 machine x.1 in
      let rest =
      listing_runs_confined w then x.0 y.0 s' t' es rs rs'
      (steps_keep s x.0 e.0 r is leads.0 step) (steps_keep t y.0 e.0 r' js leads.0 (steps_by t y.0 e.0 r' e.1 machine y.1))
      confined ((handles_stay_open w e.0 s x.0 r is opened step).others other.0) other.1 one.1 x.2 y.2 in
      (ap (λ a. a ∷ rs) one.0 ∙ ap (λ bs. r' ∷ bs) rest.0, rest.1, rest.2)
]
