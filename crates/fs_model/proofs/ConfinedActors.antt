-- An actor's call is confined: to the credential of the actor.
use Rattle.std.specs.Prelude.{◌≡◌, ℕ, ◌%◌, ◌||◌, [], None, Some, IsTrue}
use Rattle.std.proofs.Common.{refl, sym, ap, ◌∙◌, subst}
use Rattle.fs_cred.specs.Credentials.{Credential}
use Rattle.fs_model.specs.declared.call.Call.{Call}
use Rattle.fs_model.specs.declared.call.Call.TheVariants.{Open as OpenCall, Mkdir, Symlink}
use Rattle.fs_model.specs.declared.event.Actor.{Actor}
use Rattle.fs_model.specs.declared.reply.Reply.TheVariants.{Opened}
use Rattle.fs_model.specs.Limits.{root}
use Rattle.fs_model.specs.Processes.{Process, Openings, the_descriptor}
use Rattle.fs_model.specs.States.{State, IsState}
use Rattle.fs_model.specs.Alike.{seen_by}
use Rattle.fs_model.specs.Scenes.{Scene, Effect}
use Rattle.fs_model.specs.Rows.{row_of}
use Rattle.fs_model.specs.Actors.{is_actor_call, opened_by, actor_reply}
use Rattle.fs_model.specs.Steps.{Choice, After, after_call_at, actor_scene, late_call_at}
use Rattle.fs_model.specs.Confinement.{IsConfined}
use Rattle.fs_model.proofs.SeenScenes.{actor_scene-seen}
use Rattle.fs_model.proofs.StepsOfActors.{actor_demands}
use Rattle.fs_model.proofs.StepsDemands.{AreMet}
use Rattle.fs_model.proofs.EachActorCall.{bare_scene, with_opened, each_actor_call}
use Rattle.fs_model.proofs.Sights.{seen-same, shifted, any-shifted, takes_zero}
use Rattle.fs_model.proofs.ConfinedReads.{is_for, any}
use Rattle.fs_model.proofs.ConfinedSteps.{ComesFromSeen, IsConfinedIn, after_by, left_by, same_left, same_process, same_reply}

-- ---- what an actor is told

told-same : (call : Call) (handle n : ℕ) (e f : Effect) → e.process ≡ f.process → e.reply ≡ f.reply → actor_reply call handle n e ≡ actor_reply call handle n f
told-same (OpenCall path flags mode) handle n e f process reply = ap (λ p. Opened handle (the_descriptor p 0).ino) process
told-same (Mkdir path mode) handle n e f process reply = refl
told-same (Symlink target path) handle n e f process reply = refl
told-same call handle n e f process reply = reply

-- ---- what is seen then

pub with_opened-cred : (call : Call) (q p : Process) → (with_opened call q p).cred ≡ p.cred
with_opened-cred (OpenCall path flags mode) q p = refl
with_opened-cred call q p = refl

with_opened-any : (call : Call) (q a b : Process) (n : ℕ) → any (is_for n) a.descriptors ≡ any (is_for n) b.descriptors
    → any (is_for n) (with_opened call q a).descriptors ≡ any (is_for n) (with_opened call q b).descriptors
with_opened-any (OpenCall path flags mode) q a b n same = ap (λ x. is_for n (the_descriptor q 0) || x) same
with_opened-any call q a b n same = same

-- ---- an actor's call that acts, where p sees and has descriptor 0 free

module _ (p : Process) (v : Actor) (call : Call) (choice : Choice) (same : p.cred ≡ v.cred) (allowed : IsTrue (is_actor_call call)) where
  -- who sees, with the actor's mask and with descriptor 0 free
  abbrev pub actor_seer : Process
  actor_seer = record p { umask = v.umask % 512; descriptors = shifted p.descriptors }

  sight_is : (u : State) → seen_by (Some actor_seer) u ≡ seen_by (Some p) u
  sight_is u = seen-same actor_seer p refl (λ n. any-shifted n p.descriptors) u

  -- the call as by who sees, which comes to the same
  abbrev scene : State → Scene
  scene u = record (actor_scene u v (row_of call)) { process = actor_seer }

  abbrev pub call_effect : State → Effect
  call_effect u = (row_of call).effect (scene u) choice.ino

  abbrev pub actor_effect : State → Effect
  actor_effect u = record (call_effect u) { reply = actor_reply call choice.handle choice.ino (call_effect u) }

  abbrev pub actor_opens : Process → Openings → Openings
  actor_opens q openings = opened_by call choice.handle q openings

  abbrev pub actor_left : State → State
  actor_left u = left_by None actor_opens actor_seer actor_effect choice.free u

  scene_is : (u : State) → bare_scene (scene u) ≡ actor_scene u v (row_of call)
  scene_is u =
      ap {A = Credential} {B = Scene}
      (λ cred. record (actor_scene u v (row_of call)) { process = record { cred = cred; umask = v.umask % 512; cwd = root; descriptors = [] } }) same

  pub actor_after : (u : State) → after_call_at u call choice ((row_of call).effect (actor_scene u v (row_of call)) choice.ino) ≡ after_by None actor_opens actor_seer actor_effect choice.free u
  actor_after u =
      let row = row_of call in
      let of = each_actor_call call allowed in
      let c = scene u in
      let n = choice.ino in
      let zero = takes_zero p.descriptors in
      let e = row.effect c n in
      let bare_e = row.effect (bare_scene c) n in
      ap {A = Scene} {B = After} (λ c. after_call_at u call choice (row.effect c n)) (sym (scene_is u))
      ∙ ap {B = After} (λ change. record { change = change; processes = u.processes; openings = opened_by call choice.handle bare_e.process u.openings; reply = actor_reply call choice.handle n bare_e; now = u.now }) (of.change c n)
      ∙ ap {B = After} (λ openings. record { change = e.change; processes = u.processes; openings = openings; reply = actor_reply call choice.handle n bare_e; now = u.now }) (of.opened c choice.handle n u.openings zero)
      ∙ ap {B = After} (λ reply. record { change = e.change; processes = u.processes; openings = opened_by call choice.handle e.process u.openings; reply = reply; now = u.now }) (of.told c choice.handle n zero)

  actor_confined : (u : State) → IsState u → IsConfined v.cred → late_call_at u v call (row_of call) ≡ None → IsConfinedIn None actor_opens actor_seer actor_effect choice.free u
  actor_confined u is confined met =
      let row = row_of call in
      let of = each_actor_call call allowed in
      let e = row.effect (scene u) choice.ino in
      let f = row.effect (scene (seen_by (Some actor_seer) u)) choice.ino in
      let demands : AreMet (row.demands (scene u)) =
      subst AreMet (ap row.demands (sym (scene_is u)) ∙ of.demands (scene u)) (actor_demands u v call row met) in
      let bare : ComesFromSeen actor_seer u f e =
      subst (λ c. ComesFromSeen actor_seer u (row.effect (record c { process = actor_seer }) choice.ino) e) (sym (actor_scene-seen actor_seer v u row))
      (of.confines (scene u) choice.ino is (subst IsConfined (sym same) confined) demands) in
      record {
        process = bare.process;
        reply = told-same call choice.handle choice.ino f e bare.process bare.reply;
        tree = bare.tree;
        moved = bare.moved;
      }

  -- who sees, with what it opened
  abbrev pub gained : State → Process
  gained u = with_opened call (actor_effect u).process p

  left_is : (u : State) → seen_by (Some (actor_effect u).process) (actor_left u) ≡ seen_by (Some (gained u)) (actor_left u)
  left_is u =
      let q = (actor_effect u).process in
      ap (λ r. seen_by (Some r) (actor_left u)) ((each_actor_call call allowed).process (scene u) choice.ino (takes_zero p.descriptors))
      ∙ seen-same (with_opened call q actor_seer) (with_opened call q p) (with_opened-cred call q actor_seer ∙ sym (with_opened-cred call q p))
      (λ n. with_opened-any call q actor_seer p n (any-shifted n p.descriptors)) (actor_left u)

  -- in both states the same is answered and opened, and they are alike to it with that
  pub record ActedAlike (s t : State) : Type 0 where
    pub reply : (actor_effect s).reply ≡ (actor_effect t).reply
    pub process : (actor_effect s).process ≡ (actor_effect t).process
    pub seen : seen_by (Some (gained s)) (actor_left s) ≡ seen_by (Some (gained t)) (actor_left t)

  pub actor_acts : (s t : State) → IsState s → IsState t → IsConfined v.cred → seen_by (Some p) s ≡ seen_by (Some p) t
      → late_call_at s v call (row_of call) ≡ None → late_call_at t v call (row_of call) ≡ None → ActedAlike s t
  actor_acts s t is js confined alike met met' =
      let seen : seen_by (Some actor_seer) s ≡ seen_by (Some actor_seer) t = sight_is s ∙ alike ∙ sym (sight_is t) in
      let x = actor_confined s is confined met in
      let y = actor_confined t js confined met' in
      record {
        reply = same_reply None actor_opens actor_seer actor_effect choice.free s t seen x y;
        process = same_process None actor_opens actor_seer actor_effect choice.free s t seen x y;
        seen = sym (left_is s) ∙ same_left None actor_opens actor_seer actor_effect choice.free s t seen x y ∙ left_is t;
      }
