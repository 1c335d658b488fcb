-- What others do between, that looks at no byte, keeps states alike to someone outside.
use Rattle.std.specs.Prelude.{◌≡◌, ℕ, length, Bool, true, false, cond, [], ◌∷◌, None, Some, IsTrue, ◌⊎◌}
use Rattle.std.proofs.Common.{refl, sym, ap, ◌∙◌, subst, inl, inr}
use Rattle.fs_model.specs.declared.call.Call.{Call}
use Rattle.fs_model.specs.declared.call.Call.TheVariants.{Open as OpenCall, Stat, Lstat, Access, GetAcl, Readlink}
use Rattle.fs_model.specs.declared.event.Event.{Event}
use Rattle.fs_model.specs.declared.event.Event.TheVariants.{CallAt, CallBy, Stamp, Clock, Sync, Statfs, Arm, Restart}
use Rattle.fs_model.specs.declared.event.Actor.{Actor}
use Rattle.fs_model.specs.declared.reply.Reply.{Reply}
use Rattle.fs_model.specs.declared.reply.Reply.TheVariants.{Stamped}
use Rattle.fs_model.specs.declared.reply.Stamps.{Stamps}
use Rattle.fs_model.specs.declared.touch.Touch.TheVariants.{Untouched}
use Rattle.fs_model.specs.Nodes.{Node, stamped}
use Rattle.fs_model.specs.Births.{the_node}
use Rattle.fs_model.specs.Trees.{Tree, free_inodes, with_node}
use Rattle.fs_model.specs.Processes.{Process, process_holding, users}
use Rattle.fs_model.specs.TreeChanges.{Rewrite, swept}
use Rattle.fs_model.specs.States.{State, IsState}
use Rattle.fs_model.specs.Alike.{sees_into, node_seen, tree_seen, seen_by, blotted}
use Rattle.fs_model.specs.Scenes.{Effect}
use Rattle.fs_model.specs.Rows.{row_of}
use Rattle.fs_model.specs.Ranges.{IsEvent}
use Rattle.fs_model.specs.Confinement.{IsConfined, StepBy}
use Rattle.fs_model.proofs.ConfinedStepsOf.{steps_by}
use Rattle.fs_model.proofs.StepsKeep.{steps_keep}
use Rattle.fs_model.specs.Steps.{is_of_machine, Choice, Acts, unchanged, after, after_stamp, kept_stamps, with_stamps, state_after, actor_scene}
use Rattle.fs_model.specs.Actors.{is_look}
use Rattle.fs_model.specs.Outsiders.{Outsider, held, sight, AreAlikeTo, IsItsEvent, IsBetween, after_answer, OthersKeepAlike, OutsiderRunsConfined}
use Rattle.fs_model.proofs.SeenTrees.{swept-seen, sees-veiled, the_node-seen, sees_no_more}
use Rattle.fs_model.proofs.Veils.{veiled}
use Rattle.fs_model.proofs.VeiledScenes.{veiled_state, actor_scene-veil, length-veil, twice-blotted}
use Rattle.fs_model.proofs.ConfinedRewrites.{rewritten_seen}
use Rattle.fs_model.proofs.ConfinedLooks.{each_look}
use Rattle.fs_model.proofs.ConfinedSteps.{as_open, IsConfinedIn, left_by, same_left, same_reply}
use Rattle.fs_model.proofs.ConfinedEvents.{step_cases}
use Rattle.fs_model.proofs.ConfinedOutsiders.{answered_cred, outsiders_confined, same_openings, same_sight, same_veil_to, same_firm_to, same_other_to}

-- both answer the same, and stay alike to it
abbrev pub KeptAlike : Outsider → Reply → Reply → State → State → Type 0
KeptAlike w r r' s t = (r ≡ r') × AreAlikeTo w s t

-- ---- events that change no node

-- the state with what is dropped gone, at a time
abbrev kept_at : ℕ → ℕ → State → State
kept_at now free u = record u { tree = swept u.tree (users u.processes u.openings); free = free; now = now }

kept_at-seen : (p : Process) (now free : ℕ) (u : State) → seen_by (Some p) (kept_at now free u) ≡ kept_at now free (seen_by (Some p) u)
kept_at-seen p now free u =
    ap {A = Tree} {B = State} (λ t. record u { tree = t; free = free; now = now }) (sym (swept-seen p u.tree (users u.processes u.openings)))

module _ (w : Outsider) (s t : State) (alike : AreAlikeTo w s t) where
  same_now : s.now ≡ t.now
  same_now = ap (λ u. u.now) alike.same

  kept_alike : (now now' free : ℕ) → now ≡ now' → AreAlikeTo w (kept_at now free s) (kept_at now' free t)
  kept_alike now now' free same =
      let p = sight s w in
      record {
        first_runs = alike.first_runs;
        second_runs = alike.second_runs;
        same =
            kept_at-seen p now free s ∙ ap (kept_at now free) (same_sight w s t alike) ∙ sym (kept_at-seen p now free t)
            ∙ ap (λ openings. seen_by (Some (record (process_holding (held openings w.handles)) { cred = w.cred })) (kept_at now free t)) (same_openings w s t alike)
            ∙ ap (λ n. seen_by (Some (sight t w)) (kept_at n free t)) same;
      }

  -- as many inodes are free
  same_free : free_inodes s.room s.tree ≡ free_inodes t.room t.tree
  same_free =
      let room : s.room ≡ t.room = ap (λ u. u.room) alike.same in
      let count : length s.tree ≡ length t.tree = sym (length-veil s.tree) ∙ ap (λ u. length u.tree) (same_veil_to w s t alike) ∙ length-veil t.tree in
      cc

-- ---- looks

look_is : (call : Call) → IsTrue (is_look call) → (u : State) (v : Actor) (choice : Choice)
    → after u (CallAt v call) choice ≡ unchanged u ((row_of call).effect (actor_scene u v (row_of call)) choice.ino).reply
unfolding after row_of
look_is (Stat path) is u v choice = refl
look_is (Lstat path) is u v choice = refl
look_is (Access path want) is u v choice = refl
look_is (GetAcl path which) is u v choice = refl
look_is (Readlink path) is u v choice = refl
look_is call is u v choice = absurd cc

-- what it answers depends on no byte
look_answers : (call : Call) → IsTrue (is_look call) → (u : State) (v : Actor) (n : ℕ)
    → ((row_of call).effect (actor_scene (veiled_state u) v (row_of call)) n).reply ≡ ((row_of call).effect (actor_scene u v (row_of call)) n).reply
look_answers call is u v n =
    ap (λ c. ((row_of call).effect c n).reply) (actor_scene-veil u v (row_of call)) ∙ (each_look call is n).reply (actor_scene u v (row_of call))

-- ---- stamps

stamps-seen : (p : Process) (n : ℕ) (node : Node) → (node_seen p n node).stamps ≡ node.stamps
stamps-seen p n node = go (sees_into p n node)
  where
    go : (b : Bool) → (cond b node (record node { body = blotted node.body })).stamps ≡ node.stamps
    go true = refl
    go false = refl

-- the times of a node are set as one who has this open sees it, which comes to the same
module _ (p : Process) (n free : ℕ) (f : Stamps → Stamps) where
  abbrev set_in : State → Stamps
  set_in u = kept_stamps u.room (the_node u.tree n).stamps (f (the_node u.tree n).stamps)

  abbrev stamp_effect : State → Effect
  stamp_effect u = record {
    change = Rewrite Untouched n (with_stamps (set_in u) (the_node u.tree n));
    process = p;
    reply = Stamped (set_in u);
  }

  with_stamps-seen : (x : Stamps) (node : Node) → node_seen p n (with_stamps x (node_seen p n node)) ≡ node_seen p n (with_stamps x node)
  with_stamps-seen x node = go (sees_into p n node) refl
    where
      go : (b : Bool) → sees_into p n node ≡ b
          → node_seen p n (with_stamps x (cond b node (veiled node))) ≡ node_seen p n (with_stamps x node)
      go true e = refl
      go false e =
          ap (λ b. cond b (with_stamps x (veiled node)) (veiled (with_stamps x (veiled node)))) (sees-veiled p n node ∙ e)
          ∙ ap (λ b. record (with_stamps x node) { body = b }) (twice-blotted node.body)
          ∙ ap (λ b. cond b (with_stamps x node) (veiled (with_stamps x node))) (sym e)

  stamp_confined : (u : State) → IsConfinedIn None as_open p stamp_effect free u
  stamp_confined u =
      let node = the_node u.tree n in
      let seen = the_node-seen p u.tree n in
      let same : set_in (seen_by (Some p) u) ≡ set_in u = ap (λ x. kept_stamps u.room x (f x)) (ap (λ y. y.stamps) seen ∙ stamps-seen p n node) in
      record {
        process = refl;
        reply = ap Stamped same;
        moved = refl;
        tree =
            ap (λ x. tree_seen p (with_node (tree_seen p u.tree) n (with_stamps x (the_node (tree_seen p u.tree) n)))) same
            ∙ ap (λ y. tree_seen p (with_node (tree_seen p u.tree) n (with_stamps (set_in u) y))) seen
            ∙ rewritten_seen p p u.tree n (with_stamps (set_in u) (node_seen p n node)) (with_stamps (set_in u) node)
            (sees_no_more p p (λ m x h. h) u.tree) (with_stamps-seen (set_in u) node);
      }

-- ---- the law

stamp_alike : (w : Outsider) (n free : ℕ) (f : Stamps → Stamps) (s t : State) → AreAlikeTo w s t
    → KeptAlike w (after_stamp s n f).reply (after_stamp t n f).reply (state_after s (after_stamp s n f) free) (state_after t (after_stamp t n f) free)
stamp_alike w n free f s t alike =
    let p = sight s w in
    let x = stamp_confined p n free f s in
    let y = stamp_confined p n free f t in
    let e = stamp_effect p n free f in
    let seen = same_sight w s t alike in (
      same_reply None as_open p e free s t seen x y,
      record {
        first_runs = alike.first_runs;
        second_runs = alike.second_runs;
        same =
            same_left None as_open p e free s t seen x y
            ∙ ap (λ openings. seen_by (Some (record (process_holding (held openings w.handles)) { cred = w.cred })) (left_by None as_open p e free t)) (same_openings w s t alike);
      },
    )

look_alike : (w : Outsider) (v : Actor) (call : Call) (s t : State) (choice : Choice) → IsTrue (is_look call) → AreAlikeTo w s t
    → KeptAlike w (after s (CallAt v call) choice).reply (after t (CallAt v call) choice).reply
    (state_after s (after s (CallAt v call) choice) choice.free) (state_after t (after t (CallAt v call) choice) choice.free)
look_alike w v call s t choice is alike =
    let n = choice.ino in
    let a = look_is call is s v choice in
    let b = look_is call is t v choice in
    let r : State → Reply = λ u. ((row_of call).effect (actor_scene u v (row_of call)) n).reply in
    let same : r s ≡ r t = sym (look_answers call is s v n) ∙ ap r (same_veil_to w s t alike) ∙ look_answers call is t v n in
    subst (λ m. KeptAlike w m.reply (after t (CallAt v call) choice).reply (state_after s m choice.free) (state_after t (after t (CallAt v call) choice) choice.free)) (sym a)
    (subst (λ m. KeptAlike w (r s) m.reply (kept_at s.now choice.free s) (state_after t m choice.free)) (sym b)
    (same, kept_alike w s t alike s.now t.now choice.free (same_now w s t alike)))

between_alike : (e : Event) (w : Outsider) (s t : State) (choice : Choice) → IsBetween e → AreAlikeTo w s t → Acts s e choice → Acts t e choice
    → KeptAlike w (after s e choice).reply (after t e choice).reply (state_after s (after s e choice) choice.free) (state_after t (after t e choice) choice.free)
unfolding after
between_alike (CallAt v call) w s t choice is alike act act' = look_alike w v call s t choice is alike
between_alike (Stamp n atime mtime ctime) w s t choice is alike act act' = stamp_alike w n choice.free (stamped atime mtime ctime) s t alike
between_alike (Clock now) w s t choice is alike act act' = (refl, kept_alike w s t alike now now choice.free refl)
between_alike Sync w s t choice is alike act act' = (refl, kept_alike w s t alike s.now t.now choice.free (same_now w s t alike))
between_alike Statfs w s t choice is alike act act' =
    ((let free : s.free ≡ t.free = ap (λ u. u.free) alike.same in let inodes = same_free w s t alike in cc), kept_alike w s t alike s.now t.now choice.free (same_now w s t alike))
between_alike e w s t choice is alike act act' = absurd is

pub others_keep_alike : OthersKeepAlike
others_keep_alike w e s t s' t' choice reply reply' is js between alike x y =
    step_cases (KeptAlike w) e s t s' t' choice reply reply' (same_firm_to w s t alike e) (same_other_to w s t alike e)
    (λ r. (refl, alike)) (λ act act'. between_alike e w s t choice between alike act act') x y

-- ---- both, one after another

pub its_machine : (e : Event) (w : Outsider) → IsItsEvent w e ⊎ IsBetween e → IsTrue (is_of_machine e)
its_machine (Arm k) w its = elim its [ inl a ↦ absurd a | inr b ↦ absurd b ]
its_machine (Restart bytes arm) w its = elim its [ inl a ↦ absurd a | inr b ↦ absurd b ]
its_machine e w its = refl

-- it has what it had
between_keeps : (w : Outsider) (e : Event) (r : Reply) → IsBetween e → after_answer w e r ≡ w
between_keeps w (CallAt v (OpenCall path flags mode)) r between = absurd cc
between_keeps w (CallBy handle handle_call) r between = absurd between
between_keeps w e r between = refl

either_confined : (w : Outsider) (e : Event) (s t s' t' : State) (choice : Choice) (reply reply' : Reply) → IsState s → IsState t → IsConfined w.cred
    → IsItsEvent w e ⊎ IsBetween e → IsEvent e → AreAlikeTo w s t → StepBy choice s e reply s' → StepBy choice t e reply' t'
    → (reply ≡ reply') × AreAlikeTo (after_answer w e reply) s' t'
either_confined w e s t s' t' choice reply reply' is js confined its fits alike x y = elim its [
  | inl own ↦ outsiders_confined w e s t s' t' choice reply reply' is js confined own fits alike x y
  | inr between ↦
      let one = others_keep_alike w e s t s' t' choice reply reply' is js between alike x y in
      (one.0, subst (λ v. AreAlikeTo v s' t') (sym (between_keeps w e reply between)) one.1)
]

none_happens : (w : Outsider) (s t s' t' : State) → AreAlikeTo w s t → s' ≡ s → t' ≡ t → AreAlikeTo w s' t'
none_happens w s t s' t' alike e f = subst (λ u. AreAlikeTo w u t') (sym e) (subst (λ u. AreAlikeTo w s u) (sym f) alike)

pub outsider_runs_confined : OutsiderRunsConfined
outsider_runs_confined w s t s' t' [] [] [] is js confined its alike x y = (refl, none_happens w s t s' t' alike x y)
outsider_runs_confined w s t s' t' [] (r ∷ rs) rs' is js confined its alike x y = absurd x
outsider_runs_confined w s t s' t' [] [] (r' ∷ rs') is js confined its alike x y = absurd y
outsider_runs_confined w s t s' t' (e ∷ es) [] rs' is js confined its alike x y = absurd x
outsider_runs_confined w s t s' t' (e ∷ es) (r ∷ rs) [] is js confined its alike x y = absurd y
outsider_runs_confined w s t s' t' (e ∷ es) (r ∷ rs) (r' ∷ rs') is js confined its alike x y =
    let one = either_confined w e.0 s t x.0 y.0 e.1 r r' is js confined its.0 its.1 alike x.1 y.1 in
    let machine = its_machine e.0 w its.0 in
    let rest =
    outsider_runs_confined (after_answer w e.0 r) x.0 y.0 s' t' es rs rs'
    (steps_keep s x.0 e.0 r is its.1 (steps_by s x.0 e.0 r e.1 machine x.1))
    (steps_keep t y.0 e.0 r' js its.1 (steps_by t y.0 e.0 r' e.1 machine y.1))
    (subst IsConfined (sym (answered_cred w e.0 r)) confined) its.2 one.1 x.2 y.2 in
    (ap (λ a. a ∷ rs) one.0 ∙ ap (λ bs. r' ∷ bs) rest.0, rest.1)
