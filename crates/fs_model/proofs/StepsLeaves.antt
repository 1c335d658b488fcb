-- What the walks of a call have found, and what it leaves where nothing refuses.
use Rattle.std.specs.Prelude.{◌≡◌, ℕ, ◌==◌, Bool, true, false, not, ◌&&◌, cond, List, [], ◌∷◌, Option, None}
use Rattle.std.proofs.Common.{refl, ap, subst}
use Rattle.std.specs.List.{AllByRecursion, list_any, flat_map}
use Rattle.fs_cred.specs.declared.errno.Errno.TheVariants.{EINVAL}
use Rattle.fs_cred.specs.Credentials.{Credential}
use Rattle.fs_layout.specs.Bytes.{IsBytes}
use Rattle.fs_model.specs.declared.call.Flags.{Flags}
use Rattle.fs_model.specs.declared.call.Call.{Call}
use Rattle.fs_model.specs.declared.reply.Reply.TheVariants.{Done}
use Rattle.fs_model.specs.Nodes.{with_bytes}
use Rattle.fs_model.specs.Trees.{Tree, Room}
use Rattle.fs_model.specs.Processes.{Process}
use Rattle.fs_model.specs.Births.{born_file}
use Rattle.fs_model.specs.declared.touch.Touch.TheVariants.{Modified}
use Rattle.fs_model.specs.TreeChanges.{Same, Rewrite, Make, MoveName, changed}
use Rattle.fs_model.specs.States.{State, IsState}
use Rattle.fs_model.specs.declared.walk.Form.{Form}
use Rattle.fs_model.specs.declared.walk.Found.{Found}
use Rattle.fs_model.specs.declared.walk.Form.TheVariants.{Parent}
use Rattle.fs_model.specs.Parts.{path_checks}
use Rattle.fs_model.specs.Scenes.{Scene, Effect, is_found, found_ino, node_found, body_found, dir_node, answers, changes}
use Rattle.fs_model.specs.OpenCall.{open_form, open_early, open_found_demands, open_new_demands, open_demands, open_change, open_effect}
use Rattle.fs_model.specs.RenameCall.{is_same, rename_demands, rename_effect}
use Rattle.fs_model.specs.Rows.{row_of}
use Rattle.fs_model.specs.Steps.{scene_of, first_found, second_found, walk_refusals, early_refusal, late_refusal, HasNewNumber}
use Rattle.fs_model.specs.Ranges.{IsCall}
use Rattle.fs_model.proofs.StepsDemands.{AreMet, unrefused, arguments_met, paths_met, early_met, walks_met, demands_met}
use Rattle.fs_model.proofs.StepsFit.{IsScene, EffectFits, IsCaller, with_caller, effect_leaves}
use Rattle.fs_model.proofs.StepsFound.{IsWalked, is_walked}
use Rattle.fs_model.proofs.StepsOfDescriptors.{answer_fits}
use Rattle.fs_model.proofs.StepsOfMaking.{no_find, open_new_fits}
use Rattle.fs_model.proofs.StepsOfOpen.{open_fits}
use Rattle.fs_model.proofs.StepsOfRename.{rename_leaves}
use Rattle.fs_model.proofs.StepsSwept.{MayBeLeft}

-- ---- walks

abbrev pub Walks : Type 0
Walks = List (Form × List ℕ)

abbrev pub AreBytes : Walks → Type 0
AreBytes walks = AllByRecursion (λ w. IsBytes w.1) walks

abbrev pub HaveNoZero : Walks → Type 0
HaveNoZero walks = AllByRecursion (λ w. list_any (λ b. b == 0) w.1 ≡ false) walks

pub no_zero_asked : (walks : Walks) → AreMet (flat_map (λ w. path_checks w.1) walks) → HaveNoZero walks
no_zero_asked [] asked = tt
no_zero_asked (walk ∷ walks) asked = (unrefused EINVAL (list_any (λ b. b == 0) walk.1) asked.1.0, no_zero_asked walks asked.1.1.1)

-- what the first walk found, and the second
abbrev pub FirstWalked : Room → Tree → Found → Walks → Type 0
FirstWalked room t f [] = Unit {0}
FirstWalked room t f (walk ∷ _) = IsWalked room t walk.0 f

abbrev pub SecondWalked : Room → Tree → Found → Walks → Type 0
SecondWalked room t f [] = Unit {0}
SecondWalked room t f (_ ∷ []) = Unit {0}
SecondWalked room t f (_ ∷ walk ∷ _) = IsWalked room t walk.0 f

-- whoever walks, from wherever
pub first_walked : (s : State) (cred : Credential) (starts : ℕ → ℕ) (walks : Walks) → IsState s → AreBytes walks → HaveNoZero walks
    → AreMet (walk_refusals s.room s.tree cred starts 1 walks) → FirstWalked s.room s.tree (first_found s.room s.tree (starts 1) walks) walks
first_walked s cred starts [] is bytes zeros met = tt
first_walked s cred starts (walk ∷ walks) is bytes zeros met =
    is_walked s.room is.room.name_limit s.tree is.tree cred (starts 1) 1 walk bytes.0 zeros.0 met.0

pub second_walked : (s : State) (cred : Credential) (starts : ℕ → ℕ) (walks : Walks) → IsState s → AreBytes walks → HaveNoZero walks
    → AreMet (walk_refusals s.room s.tree cred starts 1 walks) → SecondWalked s.room s.tree (second_found s.room s.tree (starts 2) walks) walks
second_walked s cred starts [] is bytes zeros met = tt
second_walked s cred starts (_ ∷ []) is bytes zeros met = tt
second_walked s cred starts (_ ∷ walk ∷ walks) is bytes zeros met =
    is_walked s.room is.room.name_limit s.tree is.tree cred (starts 2) 2 walk bytes.1.0 zeros.1.0 met.1.0

-- ---- a call that nothing refuses

pub record IsUnrefused (c : Scene) (call : Call) : Type 0 where
  pub fits : IsCall call
  pub arguments : AreMet (row_of call).arguments
  pub early : AreMet ((row_of call).early c.process)
  pub demands : AreMet ((row_of call).demands c)
  pub first : FirstWalked c.state.room c.state.tree c.first (row_of call).walks
  pub second : SecondWalked c.state.room c.state.tree c.second (row_of call).walks

pub unrefused_call : (s : State) (p : Process) (call : Call) → IsState s → IsCall call → AreBytes (row_of call).walks
    → early_refusal p (row_of call) ≡ None → late_refusal s p (row_of call) ≡ None → IsUnrefused (scene_of s p (row_of call)) call
unrefused_call s p call is fits bytes early late =
    let row = row_of call in
    let zeros = no_zero_asked row.walks (paths_met p row early) in
    let walks = walks_met s p row late in
    record {
      fits = fits;
      arguments = arguments_met p row early;
      early = early_met p row early;
      demands = demands_met s p row late;
      first = first_walked s p.cred (λ _. p.cwd) row.walks is bytes zeros walks;
      second = second_walked s p.cred (λ _. p.cwd) row.walks is bytes zeros walks;
    }

-- ---- what it leaves

-- what an open leaves fits, of what is there and of what is new
pub each_open_fits : (c : Scene) → IsScene c → (path : List ℕ) (flags : Flags) (mode new : ℕ) → AreMet (open_early flags path c.process)
    → AreMet (open_demands flags c) → IsWalked c.state.room c.state.tree (open_form flags) c.first
    → HasNewNumber c.state (open_change flags mode c new) → EffectFits c.state (open_effect flags mode c new)
each_open_fits c is path flags mode new asked met walked fresh = go (is_found c.first) refl
  where
    go : (b : Bool) → is_found c.first ≡ b → EffectFits c.state (open_effect flags mode c new)
    go true e = open_fits c is flags e path mode new asked met
    go false e =
        let none = no_find c.first.ino e in
        let asks : AreMet (open_new_demands flags c) = subst (λ b. AreMet (cond b (open_found_demands flags c) (open_new_demands flags c))) e met in
        let file = born_file c.process.cred c.process.umask mode (dir_node c c.first) in
        let makes : open_change flags mode c new ≡ Make c.first.dir_ino c.first.name new file =
        ap (λ b. cond (not b) (Make c.first.dir_ino c.first.name new file)
        (cond (flags.trunc && flags.write) (Rewrite Modified (found_ino c.first) (record (node_found c c.first) { body = with_bytes [] (body_found c c.first) })) Same)) e in
        let number : HasNewNumber c.state (Make c.first.dir_ino c.first.name new file) = subst (HasNewNumber c.state) makes fresh in
        open_new_fits c is (walked.new none) asks.1.1.1.1.0 new number.0 number.1 number.2 flags mode path none asked

module _ (c : Scene) (is : IsScene c) (caller : Option ℕ) (here : IsCaller c.state.processes caller c.process) where
  abbrev pub Leaves : Effect → Type 0
  Leaves e = MayBeLeft c.state.room (changed c.state.tree e.change) (with_caller c.state.processes caller e.process) c.state.openings

  pub fits_leave : (e : Effect) → EffectFits c.state e → Leaves e
  fits_leave e fits = effect_leaves c.state caller c.process e is.state is.running here fits

  -- whatever is answered
  pub answer_leaves : Leaves (answers c Done)
  answer_leaves = fits_leave (answers c Done) (answer_fits c is Done)

  pub open_leaves : (path : List ℕ) (flags : Flags) (mode new : ℕ) → AreMet (open_early flags path c.process) → AreMet (open_demands flags c)
      → IsWalked c.state.room c.state.tree (open_form flags) c.first → HasNewNumber c.state (open_change flags mode c new)
      → Leaves (open_effect flags mode c new)
  open_leaves path flags mode new asked met walked fresh =
      fits_leave (open_effect flags mode c new) (each_open_fits c is path flags mode new asked met walked fresh)

  pub renames_leave : IsWalked c.state.room c.state.tree Parent c.first → IsWalked c.state.room c.state.tree Parent c.second
      → AreMet (rename_demands c) → Leaves (rename_effect c)
  renames_leave first second met = go (is_same c) refl
    where
      go : (b : Bool) → is_same c ≡ b → Leaves (changes c (cond b Same (MoveName c.first.dir_ino c.first.name c.second.dir_ino c.second.name)))
      go true e = answer_leaves
      go false e = rename_leaves c is caller here first second met e
