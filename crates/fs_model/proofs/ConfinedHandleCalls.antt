-- What is done by a handle is confined: to who has the handle.
use Rattle.std.specs.Prelude.{◌≡◌, ℕ, ◌+◌, Bool, true, false, not, ◌||◌, cond, List, [], ◌∷◌, Option, None, Some}
use Rattle.std.proofs.Common.{refl, sym, ap, arith, ◌∙◌, subst}
use Rattle.std.proofs.lemmas.Bool.{or_right}
use Rattle.std.specs.Ordering.{nat_cmp}
use Rattle.fs_cred.specs.Credentials.{Credential}
use Rattle.fs_layout.specs.Maps.{get, without}
use Rattle.fs_model.specs.declared.event.HandleCall.{HandleCall}
use Rattle.fs_model.specs.declared.event.HandleCall.TheVariants.{Read, Write, Resize, Show, List as ListNames, Close}
use Rattle.fs_model.specs.Processes.{Process, Descriptor, Openings, process_holding}
use Rattle.fs_model.specs.States.{State, IsState}
use Rattle.fs_model.specs.Alike.{seen_by}
use Rattle.fs_model.specs.Scenes.{Scene, Effect, Row}
use Rattle.fs_model.specs.HandleCalls.{offset_of_call, doer_with, doer, handle_call_row, kept_by}
use Rattle.fs_model.specs.Steps.{Choice, After, after_handle_call, scene_of, early_refusal, late_refusal}
use Rattle.fs_model.specs.Confinement.{IsConfined}
use Rattle.fs_layout.proofs.FirstEntries.{apart}
use Rattle.fs_model.proofs.SeenScenes.{scene_of-seen}
use Rattle.fs_model.proofs.StepsDemands.{AreMet, early_met, demands_met}
use Rattle.fs_model.proofs.EachHandleCall.{each_handle_call}
use Rattle.fs_model.proofs.Sights.{seen-same, seen-less, shifted, any-shifted}
use Rattle.fs_model.proofs.ConfinedReads.{is_for, any}
use Rattle.fs_model.proofs.ConfinedSteps.{ComesFromSeen, IsConfinedIn, after_by, left_by, same_process, same_left, same_reply}

-- ---- who has more open, and another credential

-- who has just this open, at descriptor 0, and who has more
abbrev alone : Descriptor → Process
alone d = process_holding ((0, d) ∷ [])

abbrev among : Credential → Descriptor → Openings → Process
among cred d rest = record (process_holding ((0, d) ∷ rest)) { cred = cred }

-- nothing that is asked and done rests on that, and what else it has stays open
record IsByOpen (row : Row) (d : Descriptor) (cred : Credential) (ds : List (ℕ × Descriptor)) : Type 0 where
  early : row.early (alone d) ≡ row.early (among cred d (shifted ds))
  demands : (c : Scene) → row.demands (record c { process = alone d }) ≡ row.demands (record c { process = among cred d (shifted ds) })
  change : (c : Scene) (n : ℕ) → (row.effect (record c { process = alone d }) n).change ≡ (row.effect (record c { process = among cred d (shifted ds) }) n).change
  reply : (c : Scene) (n : ℕ) → (row.effect (record c { process = alone d }) n).reply ≡ (row.effect (record c { process = among cred d (shifted ds) }) n).reply
  keeps : (c : Scene) (n : ℕ) → (row.effect (record c { process = among cred d (shifted ds) }) n).process.cred ≡ cred
  stays : (c : Scene) (n m : ℕ) → any (is_for m) (shifted ds) ≡ true
      → any (is_for m) (row.effect (record c { process = among cred d (shifted ds) }) n).process.descriptors ≡ true

none_shifted : (ds : List (ℕ × Descriptor)) → without nat_cmp (shifted ds) 0 ≡ shifted ds
none_shifted [] = refl
none_shifted (e ∷ ds) =
    let rest = without nat_cmp (shifted ds) 0 in
    ap (λ b. cond (not b) ((e.0 + 1, e.1) ∷ rest) rest) (apart 0 (e.0 + 1) (λ same. omega (arith, same))) ∙ ap (λ r. (e.0 + 1, e.1) ∷ r) (none_shifted ds)

each_is_by_open : (handle_call : HandleCall) (d : Descriptor) (cred : Credential) (ds : List (ℕ × Descriptor)) → IsByOpen (handle_call_row handle_call) d cred ds
unfolding handle_call_row
each_is_by_open (Read offset len) d cred ds =
    record { early = refl; demands = λ c. refl; change = λ c n. refl; reply = λ c n. refl; keeps = λ c n. refl; stays = λ c n m h. or_right (is_for m d) (any (is_for m) (shifted ds)) h }
each_is_by_open (Write offset []) d cred ds =
    record { early = refl; demands = λ c. refl; change = λ c n. refl; reply = λ c n. refl; keeps = λ c n. refl; stays = λ c n m h. or_right (is_for m d) (any (is_for m) (shifted ds)) h }
each_is_by_open (Write offset (b ∷ bytes)) d cred ds =
    record { early = refl; demands = λ c. refl; change = λ c n. refl; reply = λ c n. refl; keeps = λ c n. refl; stays = λ c n m h. or_right (is_for m d) (any (is_for m) (shifted ds)) h }
each_is_by_open (Resize size) d cred ds =
    record { early = refl; demands = λ c. refl; change = λ c n. refl; reply = λ c n. refl; keeps = λ c n. refl; stays = λ c n m h. or_right (is_for m d) (any (is_for m) (shifted ds)) h }
each_is_by_open Show d cred ds =
    record { early = refl; demands = λ c. refl; change = λ c n. refl; reply = λ c n. refl; keeps = λ c n. refl; stays = λ c n m h. or_right (is_for m d) (any (is_for m) (shifted ds)) h }
each_is_by_open ListNames d cred ds =
    record { early = refl; demands = λ c. refl; change = λ c n. refl; reply = λ c n. refl; keeps = λ c n. refl; stays = λ c n m h. or_right (is_for m d) (any (is_for m) (shifted ds)) h }
each_is_by_open Close d cred ds = record {
  early = refl;
  demands = λ c. refl;
  change = λ c n. refl;
  reply = λ c n. refl;
  keeps = λ c n. refl;
  stays = λ c n m h. ap (any (is_for m)) (none_shifted ds) ∙ h;
}

-- where the handle isn't, each is refused
closed_is_refused : (handle_call : HandleCall) → early_refusal (process_holding []) (handle_call_row handle_call) ≡ None → ⊥
unfolding handle_call_row
closed_is_refused (Read offset len) h = absurd cc
closed_is_refused (Write offset bytes) h = absurd cc
closed_is_refused (Resize size) h = absurd cc
closed_is_refused Show h = absurd cc
closed_is_refused ListNames h = absurd cc
closed_is_refused Close h = absurd cc

-- what stands there
pub record IsHeld (openings : Openings) (handle : ℕ) : Type 0 where
  pub descriptor : Descriptor
  pub is : get nat_cmp openings handle ≡ Some descriptor

pub is_held : (openings : Openings) (handle : ℕ) (handle_call : HandleCall) → early_refusal (doer openings handle handle_call) (handle_call_row handle_call) ≡ None → IsHeld openings handle
is_held openings handle handle_call early = go (get nat_cmp openings handle) refl early
  where
    go : (o : Option Descriptor) → get nat_cmp openings handle ≡ o → early_refusal (doer_with (offset_of_call handle_call) o) (handle_call_row handle_call) ≡ None → IsHeld openings handle
    go None e early = absurd (closed_is_refused handle_call early)
    go (Some d) e early = record { descriptor = d; is = e }

-- ---- a handle_call that acts, where p sees and has the handle

module _ (p : Process) (handle : ℕ) (handle_call : HandleCall) (choice : Choice) (d : Descriptor)
    (has : (n : ℕ) → is_for n d ≡ true → any (is_for n) p.descriptors ≡ true) where
  abbrev opened : Descriptor
  opened = record d { offset = offset_of_call handle_call }

  -- who sees, with the handle's open at descriptor 0
  abbrev pub handle_call_seer : Process
  handle_call_seer = among p.cred opened (shifted p.descriptors)

  sight_is : (u : State) → seen_by (Some handle_call_seer) u ≡ seen_by (Some p) u
  sight_is u = seen-same handle_call_seer p refl (λ n. ap (λ b. is_for n d || b) (any-shifted n p.descriptors) ∙ go (is_for n d) (any (is_for n) p.descriptors) (has n)) u
    where
      go : (a b : Bool) → (a ≡ true → b ≡ true) → (a || b) ≡ b
      go true b h = sym (h refl)
      go false b h = refl

  abbrev row : Row
  row = handle_call_row handle_call

  of : IsByOpen row opened p.cred p.descriptors
  of = each_is_by_open handle_call opened p.cred p.descriptors

  -- the handle_call as by who sees, which comes to the same
  abbrev pub handle_call_scene : State → Scene
  handle_call_scene u = record (scene_of u (doer u.openings handle handle_call) row) { process = handle_call_seer }

  abbrev pub handle_call_effect : State → Effect
  handle_call_effect u = row.effect (handle_call_scene u) choice.ino

  abbrev pub handle_call_opens : Process → Openings → Openings
  handle_call_opens q openings = kept_by handle_call handle openings

  abbrev pub handle_call_left : State → State
  handle_call_left u = left_by None handle_call_opens handle_call_seer handle_call_effect choice.free u

  module _ (u : State) (at : get nat_cmp u.openings handle ≡ Some d) where
    doer_is : doer u.openings handle handle_call ≡ alone opened
    doer_is = ap (doer_with (offset_of_call handle_call)) at

    scene_is : scene_of u (doer u.openings handle handle_call) row ≡ record (scene_of u (doer u.openings handle handle_call) row) { process = alone opened }
    scene_is = ap {A = Process} {B = Scene} (λ q. record (scene_of u (doer u.openings handle handle_call) row) { process = q }) doer_is

    pub handle_call_after : after_handle_call u handle handle_call (row.effect (scene_of u (doer u.openings handle handle_call) row) choice.ino) ≡ after_by None handle_call_opens handle_call_seer handle_call_effect choice.free u
    handle_call_after =
        let c = scene_of u (doer u.openings handle handle_call) row in
        let e = row.effect (record c { process = alone opened }) choice.ino in
        ap {A = Scene} {B = After} (λ c. after_handle_call u handle handle_call (row.effect c choice.ino)) scene_is
        ∙ ap {B = After} (λ change. record { change = change; processes = u.processes; openings = kept_by handle_call handle u.openings; reply = e.reply; now = u.now }) (of.change c choice.ino)
        ∙ ap {B = After} (λ reply. record { change = (handle_call_effect u).change; processes = u.processes; openings = kept_by handle_call handle u.openings; reply = reply; now = u.now }) (of.reply c choice.ino)

    handle_call_confined : IsState u → IsConfined p.cred → early_refusal (doer u.openings handle handle_call) row ≡ None
        → late_refusal u (doer u.openings handle handle_call) row ≡ None → IsConfinedIn None handle_call_opens handle_call_seer handle_call_effect choice.free u
    handle_call_confined is confined early late =
        let c = scene_of u (doer u.openings handle handle_call) row in
        let asked : AreMet (row.early handle_call_seer) = subst AreMet (ap row.early doer_is ∙ of.early) (early_met (doer u.openings handle handle_call) row early) in
        let met : AreMet (row.demands (handle_call_scene u)) = subst AreMet (ap row.demands scene_is ∙ of.demands c) (demands_met u (doer u.openings handle handle_call) row late) in
        subst (λ c. ComesFromSeen handle_call_seer u (row.effect (record c { process = handle_call_seer }) choice.ino) (handle_call_effect u))
        (sym (scene_of-seen handle_call_seer (doer u.openings handle handle_call) u row))
        ((each_handle_call handle_call).confines (handle_call_scene u) choice.ino is confined asked met)

  -- in both states the same is answered, and they stay alike
  pub record DoneAlike (s t : State) : Type 0 where
    pub reply : (handle_call_effect s).reply ≡ (handle_call_effect t).reply
    pub seen : seen_by (Some p) (handle_call_left s) ≡ seen_by (Some p) (handle_call_left t)

  pub handle_call_acts : (s t : State) → get nat_cmp s.openings handle ≡ Some d → get nat_cmp t.openings handle ≡ Some d → IsState s → IsState t → IsConfined p.cred
      → seen_by (Some p) s ≡ seen_by (Some p) t
      → early_refusal (doer s.openings handle handle_call) row ≡ None → late_refusal s (doer s.openings handle handle_call) row ≡ None
      → early_refusal (doer t.openings handle handle_call) row ≡ None → late_refusal t (doer t.openings handle handle_call) row ≡ None → DoneAlike s t
  handle_call_acts s t at at' is js confined alike early late early' late' =
      let seen : seen_by (Some handle_call_seer) s ≡ seen_by (Some handle_call_seer) t = sight_is s ∙ alike ∙ sym (sight_is t) in
      let x = handle_call_confined s at is confined early late in
      let y = handle_call_confined t at' js confined early' late' in
      let q = (handle_call_effect s).process in
      let process = same_process None handle_call_opens handle_call_seer handle_call_effect choice.free s t seen x y in
      let both : seen_by (Some q) (handle_call_left s) ≡ seen_by (Some q) (handle_call_left t) =
      same_left None handle_call_opens handle_call_seer handle_call_effect choice.free s t seen x y ∙ ap (λ r. seen_by (Some r) (handle_call_left t)) (sym process) in
      record {
        reply = same_reply None handle_call_opens handle_call_seer handle_call_effect choice.free s t seen x y;
        seen =
            seen-less q p (of.keeps (scene_of s (doer s.openings handle handle_call) row) choice.ino)
            (λ n h. of.stays (scene_of s (doer s.openings handle handle_call) row) choice.ino n (any-shifted n p.descriptors ∙ h)) (handle_call_left s) (handle_call_left t) both;
      }
