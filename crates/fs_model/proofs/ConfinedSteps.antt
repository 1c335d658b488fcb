-- What a call does in a state and in what the caller sees of it: of a process, or of nobody of the table.
use Rattle.fs_model.proofs.Restamps.{seen-touched}
use Rattle.std.specs.Prelude.{◌≡◌, ℕ, cond, Option, None, Some, IsFalse}
use Rattle.std.proofs.Common.{refl, sym, ap, ◌∙◌}
use Rattle.std.specs.Ordering.{nat_cmp}
use Rattle.fs_model.specs.declared.call.Call.{Call}
use Rattle.fs_layout.specs.Maps.{get, with_entry}
use Rattle.fs_model.specs.Processes.{Process, ProcessTable, Openings, users}
use Rattle.fs_model.specs.TreeChanges.{changed, touches, touched, swept}
use Rattle.fs_model.specs.States.{State, IsState}
use Rattle.fs_model.specs.Alike.{tree_seen, seen_by, AreAlike}
use Rattle.fs_model.specs.Rows.{row_of}
use Rattle.fs_model.specs.Scenes.{Scene, Row, Effect}
use Rattle.fs_model.specs.Steps.{After, scene_of, tree_after, state_after}
use Rattle.fs_model.specs.Confinement.{IsConfined}
use Rattle.fs_layout.proofs.FirstEntries.{ties}
use Rattle.fs_layout.proofs.MapLaws.{get-with_entry}
use Rattle.fs_model.proofs.SeenTrees.{swept-seen}
use Rattle.fs_model.proofs.StepsDemands.{AreMet}
use Rattle.fs_model.proofs.StepsFit.{with_caller}

-- ---- one call

-- the scene in what its process sees
abbrev pub seen_scene : Scene → Scene
seen_scene c = record c { state = seen_by (Some c.process) c.state }

-- What a call does, in a state and in what the caller sees of that: the process, the reply, the new tree, as the process sees it, and
-- whose times move come from what it sees.
pub record ComesFromSeen (p : Process) (u : State) (seen effect : Effect) : Type 0 where
  pub process : seen.process ≡ effect.process
  pub reply : seen.reply ≡ effect.reply
  pub tree : tree_seen effect.process (changed (tree_seen p u.tree) seen.change) ≡ tree_seen effect.process (changed u.tree effect.change)
  pub moved : touches u.room (tree_seen p u.tree) seen.change ≡ touches u.room u.tree effect.change

abbrev pub IsConfinedAt : Scene → Row → ℕ → Type 0
IsConfinedAt c row number = ComesFromSeen c.process c.state (row.effect (seen_scene c) number) (row.effect c number)

-- what a call does in a state
abbrev pub effect_of : Process → Row → ℕ → State → Effect
effect_of p row number u = row.effect (scene_of u p row) number

-- a row is confined in each scene in which nothing refuses it
abbrev pub ConfinesRow : Row → Type 0
ConfinesRow row =
    (c : Scene) (number : ℕ) → IsState c.state → IsConfined c.process.cred → AreMet (row.early c.process) → AreMet (row.demands c)
    → IsConfinedAt c row number

abbrev pub Confines : Call → Type 0
Confines call = ConfinesRow (row_of call)

-- ---- what it leaves

-- what is open then: a process opens nothing for others
abbrev pub as_open : Process → Openings → Openings
as_open q openings = openings

module _ (caller : Option ℕ) (opens : Process → Openings → Openings) (p : Process) (effect_in : State → Effect) (free : ℕ) where
  abbrev pub after_by : State → After
  after_by u = record {
    change = (effect_in u).change;
    processes = with_caller u.processes caller (effect_in u).process;
    openings = opens (effect_in u).process u.openings;
    reply = (effect_in u).reply;
    now = u.now;
  }

  abbrev pub left_by : State → State
  left_by u = state_after u (after_by u) free

  abbrev pub IsConfinedIn : State → Type 0
  IsConfinedIn u = ComesFromSeen p u (effect_in (seen_by (Some p) u)) (effect_in u)

  left_seen : (u : State) → IsConfinedIn u → seen_by (Some (effect_in u).process) (left_by (seen_by (Some p) u)) ≡ seen_by (Some (effect_in u).process) (left_by u)
  left_seen u is =
      let q = (effect_in u).process in
      let processes = with_caller u.processes caller q in
      let openings = opens q u.openings in
      let all = users processes openings in
      let e = effect_in (seen_by (Some p) u) in
      ap (λ r. record u { tree = tree_seen q (tree_after (seen_by (Some p) u) (record { change = e.change; processes = with_caller u.processes caller r; openings = opens r u.openings; reply = e.reply; now = u.now })); processes = with_caller u.processes caller r; openings = opens r u.openings; free = free }) is.process
      ∙ ap (λ t. record u { tree = t; processes = processes; openings = openings; free = free })
      (seen-touched q u.now (touches u.room (tree_seen p u.tree) e.change) (swept (changed (tree_seen p u.tree) e.change) all)
      ∙ ap (touched u.now (touches u.room (tree_seen p u.tree) e.change))
      (sym (swept-seen q (changed (tree_seen p u.tree) e.change) all) ∙ ap (λ t. swept t all) is.tree ∙ swept-seen q (changed u.tree (effect_in u).change) all)
      ∙ ap (λ es. touched u.now es (tree_seen q (swept (changed u.tree (effect_in u).change) all))) is.moved
      ∙ sym (seen-touched q u.now (touches u.room u.tree (effect_in u).change) (swept (changed u.tree (effect_in u).change) all)))

  module _ (s t : State) (same : seen_by (Some p) s ≡ seen_by (Some p) t) (is : IsConfinedIn s) (js : IsConfinedIn t) where
    pub same_process : (effect_in s).process ≡ (effect_in t).process
    same_process = sym is.process ∙ ap (λ u. (effect_in u).process) same ∙ js.process

    pub same_left : seen_by (Some (effect_in s).process) (left_by s) ≡ seen_by (Some (effect_in t).process) (left_by t)
    same_left =
        sym (left_seen s is)
        ∙ ap (λ q. seen_by (Some q) (left_by (seen_by (Some p) s))) same_process
        ∙ ap (λ u. seen_by (Some (effect_in t).process) (left_by u)) same
        ∙ left_seen t js

    pub same_reply : (effect_in s).reply ≡ (effect_in t).reply
    same_reply = sym is.reply ∙ ap (λ u. (effect_in u).reply) same ∙ js.reply

-- ---- a process of the table

pub here_after : (processes : ProcessTable) (pid : ℕ) (q : Process) → get nat_cmp (with_entry nat_cmp processes pid q) pid ≡ Some q
here_after processes pid q = get-with_entry processes pid q pid ∙ ap (λ b. cond b (Some q) (get nat_cmp processes pid)) (ties pid pid refl)

module _ (pid : ℕ) (p : Process) (effect_in : State → Effect) (free : ℕ) (s t : State) (same : seen_by (Some p) s ≡ seen_by (Some p) t)
    (is : IsConfinedIn (Some pid) as_open p effect_in free s) (js : IsConfinedIn (Some pid) as_open p effect_in free t) where
  pub same_here : get nat_cmp (left_by (Some pid) as_open p effect_in free s).processes pid ≡ get nat_cmp (left_by (Some pid) as_open p effect_in free t).processes pid
  same_here =
      here_after s.processes pid (effect_in s).process
      ∙ ap Some (same_process (Some pid) as_open p effect_in free s t same is js)
      ∙ sym (here_after t.processes pid (effect_in t).process)

  pub left_alike : IsFalse s.halted → IsFalse t.halted → AreAlike pid (left_by (Some pid) as_open p effect_in free s) (left_by (Some pid) as_open p effect_in free t)
  left_alike first second = record {
    first_runs = first;
    second_runs = second;
    same =
        ap (λ o. seen_by o (left_by (Some pid) as_open p effect_in free s)) (here_after s.processes pid (effect_in s).process)
        ∙ same_left (Some pid) as_open p effect_in free s t same is js
        ∙ ap (λ o. seen_by o (left_by (Some pid) as_open p effect_in free t)) (sym (here_after t.processes pid (effect_in t).process));
  }

-- ---- states that are alike

processes_seen : (o : Option Process) (s : State) → (seen_by o s).processes ≡ s.processes
processes_seen None s = refl
processes_seen (Some p) s = refl

pub same_processes : (pid : ℕ) (s t : State) → AreAlike pid s t → s.processes ≡ t.processes
same_processes pid s t is = sym (processes_seen (get nat_cmp s.processes pid) s) ∙ ap (λ u. u.processes) is.same ∙ processes_seen (get nat_cmp t.processes pid) t

pub here_alike : (pid : ℕ) (s t : State) → AreAlike pid s t → get nat_cmp s.processes pid ≡ get nat_cmp t.processes pid
here_alike pid s t is = ap (λ processes. get nat_cmp processes pid) (same_processes pid s t is)

pub same_seen : (pid : ℕ) (p : Process) (s t : State) → AreAlike pid s t → get nat_cmp s.processes pid ≡ Some p → seen_by (Some p) s ≡ seen_by (Some p) t
same_seen pid p s t is here =
    ap (λ o. seen_by o s) (sym here) ∙ is.same
    ∙ ap (λ processes. seen_by (get nat_cmp processes pid) t) (sym (same_processes pid s t is)) ∙ ap (λ o. seen_by o t) here
