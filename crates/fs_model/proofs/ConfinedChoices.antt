-- Two steps of a process after which the same inodes are in use come from the same free choices.
use Rattle.fs_model.proofs.Restamps.{there-touched}
use Rattle.fs_model.specs.declared.touch.Touch.{Touch}
use Rattle.std.specs.Prelude.{◌≡◌, ◌≢◌, ℕ, ◌≤◌, ◌⊎◌, Bool, true, false, List, Option, None, Some, is_some}
use Rattle.std.proofs.Common.{refl, sym, ap, arith, ◌∙◌, subst, inl, inr}
use Rattle.std.proofs.lemmas.Bool.{cases_eq}
use Rattle.std.specs.Option.{option_map}
use Rattle.std.specs.Ordering.{nat_cmp}
use Rattle.fs_layout.specs.Maps.{get, name_cmp, with_entry, IsMap}
use Rattle.fs_layout.proofs.MapLaws.{with_entry-IsMap}
use Rattle.fs_layout.proofs.NameMaps.{leading-with_name, once_same}
use Rattle.fs_model.specs.declared.call.Call.{Call}
use Rattle.fs_model.specs.declared.event.Event.{Event}
use Rattle.fs_model.specs.declared.event.Event.TheVariants.{Spawn, Exit, Call as Calls, CallAt, CallBy, Stamp, Clock, Fsync, Sync, Statfs, Arm, Restart}
use Rattle.fs_model.specs.declared.reply.Reply.{Reply}
use Rattle.fs_model.specs.Nodes.{Node, names_of_body}
use Rattle.fs_model.specs.Trees.{Tree, Room, node_at, with_node, names_of}
use Rattle.fs_model.specs.Processes.{Process, ProcessTable, Openings, users}
use Rattle.fs_model.specs.TreeChanges.{Make, changed, swept, touches, touched}
use Rattle.fs_model.specs.States.{State, IsState, MayBeFree}
use Rattle.fs_model.specs.Alike.{AreAlike, node_seen}
use Rattle.fs_model.specs.Ranges.{IsCall, IsEvent}
use Rattle.fs_model.specs.Scenes.{Effect}
use Rattle.fs_model.specs.Rows.{row_of}
use Rattle.fs_model.specs.Steps.{Choice, Acts, after, after_call, after_effect, tree_after, state_after, scene_of, firm_refusal, other_refusal, early_refusal, late_refusal, demand_of, HasNewNumber, HasNewPid, HasNewHandle}
use Rattle.fs_model.specs.Confinement.{IsConfined, StepBy, early, late, done, IsOf, AnswerAlike}
use Rattle.fs_model.proofs.ConfinedEvents.{confined}
use Rattle.fs_model.proofs.ConfinedSteps.{same_processes, same_seen}
use Rattle.fs_model.proofs.SeenTrees.{node_at-seen}
use Rattle.fs_model.proofs.StepsFound.{IsNameAt}
use Rattle.fs_model.proofs.StepsNaming.{renamed, renamed_node, at_it, at_others, names_of-renamed}
use Rattle.fs_model.proofs.StepsLeaves.{unrefused_call}
use Rattle.fs_model.proofs.EachCall.{each_call}
use Rattle.fs_model.proofs.StepsOfCalls.{process_leaves}
use Rattle.fs_model.proofs.StepsOfMaking.{named_is}
use Rattle.fs_model.proofs.StepsSwept.{MayBeLeft}
use Rattle.fs_model.proofs.Swept.{stays, kept, get-filter, at-swept, named_stays}

-- ---- a node is made, and named

module _ {room : Room} (t : Tree) (numbers : IsMap nat_cmp t) (dir_ino : ℕ) (name : List ℕ) (is : IsNameAt room t dir_ino name None)
    (n : ℕ) (node : Node) (new : node_at t n ≡ None) where
  abbrev w : Tree
  w = with_node t n node

  abbrev made : Tree
  made = changed t (Make dir_ino name n node)

  dir_apart : dir_ino ≢ n
  dir_apart e =
      let at : node_at t n ≡ Some is.node = ap (node_at t) (sym e) ∙ is.stands in
      let both : None ≡ Some is.node = sym new ∙ at in
      cc

  dir_at : node_at w dir_ino ≡ Some is.node
  dir_at = at_others t n node dir_ino dir_apart ∙ is.stands

  made_is : made ≡ renamed w dir_ino is.node (with_entry name_cmp (names_of_body is.node.body) name n)
  made_is = named_is w dir_ino is.node name n dir_at

  made_at : node_at made n ≡ Some node
  made_at =
      ap (λ u. node_at u n) made_is
      ∙ at_others w dir_ino (renamed_node is.node (with_entry name_cmp (names_of_body is.node.body) name n)) n (λ e. dir_apart (sym e))
      ∙ at_it t n node

  has_name : 1 ≤ names_of made n
  has_name =
      let names = with_entry name_cmp (names_of_body is.node.body) name n in
      let all = names_of-renamed w dir_ino is.node names is.directory (with_entry-IsMap t n node numbers) dir_at n in
      let more = leading-with_name (names_of_body is.node.body) name n n is.leads in
      let one = once_same n n refl in
      let some : 1 ≤ names_of (renamed w dir_ino is.node names) n = omega (arith, all, more, one) in
      subst (λ u. 1 ≤ names_of u n) (sym made_is) some

  others_were : (m : ℕ) → m ≢ n → is_some (node_at made m) ≡ true → is_some (node_at t m) ≡ true
  others_were m ne there = elim (cases_eq m dir_ino) [
    | inl e ↦ ap (λ k. is_some (node_at t k)) e ∙ ap is_some is.stands
    | inr other ↦
        sym (ap is_some (
        ap (λ u. node_at u m) made_is
        ∙ at_others w dir_ino (renamed_node is.node (with_entry name_cmp (names_of_body is.node.body) name n)) m other
        ∙ at_others t n node m ne
        )) ∙ there
  ]

-- a node was made at n, and stays; what else is there was there
record Made (old new : Tree) (n : ℕ) : Type 0 where
  unused : node_at old n ≡ None
  there : is_some (node_at new n) ≡ true
  others : (m : ℕ) → m ≢ n → is_some (node_at new m) ≡ true → is_some (node_at old m) ≡ true

-- whatever times move
made_touched : (now : ℕ) (es : List (ℕ × Touch)) (old new : Tree) (n : ℕ) → Made old new n → Made old (touched now es new) n
made_touched now es old new n made = record {
  unused = made.unused;
  there = there-touched now es new n ∙ made.there;
  others = λ m ne there. made.others m ne (sym (there-touched now es new m) ∙ there);
}

some_kept : (keeps : ℕ × Node → Bool) (m : ℕ) (o : Option Node) → is_some (kept keeps m o) ≡ true → is_some o ≡ true
some_kept keeps m None h = h
some_kept keeps m (Some node) h = refl

made_stays : (s : State) (processes : ProcessTable) (openings : Openings) (dir_ino : ℕ) (name : List ℕ) (n : ℕ) (node : Node) → IsState s → IsNameAt s.room s.tree dir_ino name None
    → node_at s.tree n ≡ None
    → MayBeLeft s.room (changed s.tree (Make dir_ino name n node)) processes openings
    → Made s.tree (swept (changed s.tree (Make dir_ino name n node)) (users processes openings)) n
made_stays s processes openings dir_ino name n node is at new left =
    let all = users processes openings in
    let made = changed s.tree (Make dir_ino name n node) in
    let swept_at =
    at-swept s.room made all left.tree n node (made_at s.tree is.tree.numbers dir_ino name at n node new)
    (named_stays s.room made all left.tree n node (has_name s.tree is.tree.numbers dir_ino name at n node new)) in
    record {
      unused = new;
      there = ap is_some swept_at;
      others = λ m ne there.
          others_were s.tree is.tree.numbers dir_ino name at n node new m ne
          (some_kept (stays made all) m (node_at made m) (sym (ap is_some (get-filter (stays made all) made left.tree.numbers m)) ∙ there));
    }

-- ---- one call that acts

module _ (s : State) (is : IsState s) (pid : ℕ) (p : Process) (here : get nat_cmp s.processes pid ≡ Some p) (call : Call) (fits : IsCall call) where
  abbrev effect_with : ℕ → Effect
  effect_with n = (row_of call).effect (scene_of s p (row_of call)) n

  after_is : (choice : Choice) → after s (Calls pid call) choice ≡ after_effect s pid (effect_with choice.ino)
  unfolding after
  after_is choice = ap (after_call s pid (row_of call) choice.ino) here

  firm_is : firm_refusal s (Calls pid call) ≡ None → early_refusal p (row_of call) ≡ None
  unfolding firm_refusal
  firm_is e = ap (demand_of (λ p. early_refusal p (row_of call))) (sym here) ∙ e

  other_is : other_refusal s (Calls pid call) ≡ None → late_refusal s p (row_of call) ≡ None
  unfolding other_refusal
  other_is e = ap (demand_of (λ p. late_refusal s p (row_of call))) (sym here) ∙ e

  -- whichever number, or the one at which a node was made
  acted : (choice : Choice) → Acts s (Calls pid call) choice
      → ((m : ℕ) → effect_with choice.ino ≡ effect_with m) ⊎ Made s.tree (tree_after s (after s (Calls pid call) choice)) choice.ino
  acted choice acts =
      let row = row_of call in
      let early = firm_is acts.early in
      let late = other_is acts.late in
      let of = each_call call in
      elim (of.uses (scene_of s p row) (unrefused_call s p call is fits (of.paths fits) early late)) [
        | inl same ↦ inl (λ m. same choice.ino m)
        | inr makes ↦ inr (
            let c = scene_of s p row in
            let node = makes.1.0 in
            let a : after s (Calls pid call) choice ≡ after_effect s pid (effect_with choice.ino) = after_is choice in
            let change : (effect_with choice.ino).change ≡ Make c.first.dir_ino c.first.name choice.ino node = makes.1.1 choice.ino in
            let processes = with_entry nat_cmp s.processes pid (effect_with choice.ino).process in
            let fresh : HasNewNumber s (effect_with choice.ino).change = subst (λ a. HasNewNumber s a.change) a acts.allowed.number in
            let made : HasNewNumber s (Make c.first.dir_ino c.first.name choice.ino node) = subst (HasNewNumber s) change fresh in
            let left : MayBeLeft s.room (changed s.tree (effect_with choice.ino).change) processes s.openings =
            process_leaves s pid p call choice.ino is acts.running here fits early late fresh in
            let stays = made_stays s processes s.openings c.first.dir_ino c.first.name choice.ino node is makes.0 made.2
            (subst (λ ch. MayBeLeft s.room (changed s.tree ch) processes s.openings) change left) in
            subst (λ a. Made s.tree (tree_after s a) choice.ino) (sym a)
            (made_touched s.now (touches s.room s.tree (effect_with choice.ino).change) s.tree (swept (changed s.tree (effect_with choice.ino).change) (users processes s.openings)) choice.ino (subst (λ ch. Made s.tree (swept (changed s.tree ch) (users processes s.openings)) choice.ino) (sym change) stays))
            )
      ]

-- ---- the choices of two steps

some_mapped : (f : Node → Node) (o : Option Node) → is_some (option_map f o) ≡ is_some o
some_mapped f None = refl
some_mapped f (Some node) = refl

-- in states that are alike the same inodes are in use
same_there : (pid : ℕ) (p : Process) (s t : State) → AreAlike pid s t → get nat_cmp s.processes pid ≡ Some p
    → (n : ℕ) → is_some (node_at s.tree n) ≡ is_some (node_at t.tree n)
same_there pid p s t alike here n =
    sym (some_mapped (node_seen p n) (node_at s.tree n))
    ∙ ap is_some (sym (node_at-seen p s.tree n))
    ∙ ap (λ u. is_some (node_at u.tree n)) (same_seen pid p s t alike here)
    ∙ ap is_some (node_at-seen p t.tree n)
    ∙ some_mapped (node_seen p n) (node_at t.tree n)

-- both have the same inodes before and afterwards: so the new one is the same
made_same : (s t s' t' : Tree) (n m : ℕ) → ((k : ℕ) → is_some (node_at s k) ≡ is_some (node_at t k))
    → ((k : ℕ) → is_some (node_at s' k) ≡ is_some (node_at t' k)) → Made s s' n → Made t t' m → n ≡ m
made_same s t s' t' n m before now one two = elim (cases_eq n m) [
  | inl e ↦ e
  | inr ne ↦ absurd (
      let there : is_some (node_at s' m) ≡ true = now m ∙ two.there in
      let was : is_some (node_at t m) ≡ true = sym (before m) ∙ one.others m (λ e. ne (sym e)) there in
      let none : is_some (node_at t m) ≡ false = ap is_some two.unused in
      cc
      )
]

-- a step with another choice that comes to the same
step_by : (s s' : State) (e : Event) (reply : Reply) (c d : Choice) → ((k : ℕ) → HasNewPid s e k × HasNewHandle s e k) → after s e c ≡ after s e d → c.free ≡ d.free
    → StepBy c s e reply s' → StepBy d s e reply s'
step_by s s' e reply c d pids same free (early on r a b z) = early on r a b z
step_by s s' e reply c d pids same free (late on r a l b z) = late on r a l b z
step_by s s' e reply c d pids same free (done act answered now) =
    done (record {
      running = act.running;
      early = act.early;
      late = act.late;
      allowed = record {
        number = subst (λ a. HasNewNumber s a.change) same act.allowed.number;
        pid = (pids d.pid).0;
        handle = (pids d.handle).1;
        free = subst (λ f. MayBeFree s.room (tree_after s (after s e d)) f) free (subst (λ a. MayBeFree s.room (tree_after s a) c.free) same act.allowed.free);
      };
    }) (answered ∙ ap (λ a. a.reply) same) (now ∙ ap (λ a. state_after s a c.free) same ∙ ap (state_after s (after s e d)) free)

-- the process makes no other, and gets no handle
no_pid : (pid : ℕ) (s : State) (e : Event) → IsOf pid e → (k : ℕ) → HasNewPid s e k × HasNewHandle s e k
no_pid pid s (Calls by call) of k = (tt, tt)
no_pid pid s (Fsync by fd) of k = (tt, tt)
no_pid pid s (Exit by) of k = (tt, tt)
no_pid pid s _ of k = absurd of

module _ (pid : ℕ) (p : Process) (s t s' t' : State) (c d : Choice) (reply reply' : Reply) (is : IsState s) (js : IsState t)
    (here : get nat_cmp s.processes pid ≡ Some p) (plain : IsConfined p.cred) (alike : AreAlike pid s t)
    (numbers : (n : ℕ) → is_some (node_at s'.tree n) ≡ is_some (node_at t'.tree n)) (counts : s'.free ≡ t'.free) where
  -- one of the choices serves for both
  by_second : (e : Event) → IsEvent e → IsOf pid e → c.free ≡ d.free → StepBy c s e reply s' → StepBy d t e reply' t' → after s e c ≡ after s e d
      → AnswerAlike pid reply reply' s' t'
  by_second e fits of free x y same =
      confined e pid p s t s' t' d reply reply' is js here plain fits of alike (step_by s s' e reply c d (no_pid pid s e of) same free x) y

  by_first : (e : Event) → IsEvent e → IsOf pid e → c.free ≡ d.free → StepBy c s e reply s' → StepBy d t e reply' t' → after t e d ≡ after t e c
      → AnswerAlike pid reply reply' s' t'
  by_first e fits of free x y same =
      confined e pid p s t s' t' c reply reply' is js here plain fits of alike x (step_by t t' e reply' d c (no_pid pid t e of) same (sym free) y)

  call_alike : (by : ℕ) (call : Call) → IsEvent (Calls by call) → by ≡ pid → c.free ≡ d.free
      → Acts s (Calls by call) c → s' ≡ state_after s (after s (Calls by call) c) c.free → StepBy c s (Calls by call) reply s'
      → Acts t (Calls by call) d → t' ≡ state_after t (after t (Calls by call) d) d.free → StepBy d t (Calls by call) reply' t'
      → AnswerAlike pid reply reply' s' t'
  call_alike by call fits of free act now x act' now' y =
      let here_by : get nat_cmp s.processes by ≡ Some p = ap (get nat_cmp s.processes) of ∙ here in
      let there_by : get nat_cmp t.processes by ≡ Some p = ap (λ processes. get nat_cmp processes by) (sym (same_processes pid s t alike)) ∙ here_by in
      let e = Calls by call in
      elim (acted s is by p here_by call fits.1 c act) [
        | inl any ↦ by_second e fits of free x y (
            after_is s is by p here_by call fits.1 c ∙ ap (after_effect s by) (any d.ino) ∙ sym (after_is s is by p here_by call fits.1 d)
            )
        | inr made ↦ elim (acted t js by p there_by call fits.1 d act') [
          | inl any ↦ by_first e fits of free x y (
              after_is t js by p there_by call fits.1 d ∙ ap (after_effect t by) (any c.ino) ∙ sym (after_is t js by p there_by call fits.1 c)
              )
          | inr made' ↦
              let one : Made s.tree s'.tree c.ino = subst (λ u. Made s.tree u.tree c.ino) (sym now) made in
              let two : Made t.tree t'.tree d.ino = subst (λ u. Made t.tree u.tree d.ino) (sym now') made' in
              let number = made_same s.tree t.tree s'.tree t'.tree c.ino d.ino (same_there pid p s t alike here) numbers one two in
              by_second e fits of free x y (
              after_is s is by p here_by call fits.1 c ∙ ap (λ n. after_effect s by (effect_with s is by p here_by call fits.1 n)) number
              ∙ sym (after_is s is by p here_by call fits.1 d)
              )
        ]
      ]

  acts_alike : (e : Event) → IsEvent e → IsOf pid e → c.free ≡ d.free
      → Acts s e c → s' ≡ state_after s (after s e c) c.free → StepBy c s e reply s'
      → Acts t e d → t' ≡ state_after t (after t e d) d.free → StepBy d t e reply' t'
      → AnswerAlike pid reply reply' s' t'
  unfolding after
  acts_alike (Calls by call) fits of free act now x act' now' y = call_alike by call fits of free act now x act' now' y
  acts_alike (Fsync by fd) fits of free act now x act' now' y = by_second (Fsync by fd) fits of free x y refl
  acts_alike (Exit by) fits of free act now x act' now' y = by_second (Exit by) fits of free x y refl
  acts_alike (Spawn cred) fits of free act now x act' now' y = absurd of
  acts_alike (CallAt v call) fits of free act now x act' now' y = absurd of
  acts_alike (CallBy handle handle_call) fits of free act now x act' now' y = absurd of
  acts_alike (Stamp n atime mtime ctime) fits of free act now x act' now' y = absurd of
  acts_alike (Clock time) fits of free act now x act' now' y = absurd of
  acts_alike Sync fits of free act now x act' now' y = absurd of
  acts_alike Statfs fits of free act now x act' now' y = absurd of
  acts_alike (Arm k) fits of free act now x act' now' y = absurd of
  acts_alike (Restart bytes arm) fits of free act now x act' now' y = absurd of

  -- Where the same inodes are in use afterwards and as many sectors are free, a step of each is answered alike. (A refusal is one with
  -- any choice.)
  pub steps_alike : (e : Event) → IsEvent e → IsOf pid e → StepBy c s e reply s' → StepBy d t e reply' t' → AnswerAlike pid reply reply' s' t'
  steps_alike e fits of (early on r a b z) y = confined e pid p s t s' t' d reply reply' is js here plain fits of alike (early on r a b z) y
  steps_alike e fits of (late on r a l b z) y = confined e pid p s t s' t' d reply reply' is js here plain fits of alike (late on r a l b z) y
  steps_alike e fits of (done act b now) (early on r a b' z) =
      confined e pid p s t s' t' c reply reply' is js here plain fits of alike (done act b now) (early on r a b' z)
  steps_alike e fits of (done act b now) (late on r a l b' z) =
      confined e pid p s t s' t' c reply reply' is js here plain fits of alike (done act b now) (late on r a l b' z)
  steps_alike e fits of (done act b now) (done act' b' now') =
      let free : c.free ≡ d.free = sym (ap (λ u. u.free) now) ∙ counts ∙ ap (λ u. u.free) now' in
      acts_alike e fits of free act now (done act b now) act' now' (done act' b' now')
