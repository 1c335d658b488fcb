-- What the machine changes by an event is no more than is said of it.
--     steps_change_what_is_said        the law
--     openings_are_told        to what opens something it replies with that, or refuses it
use Rattle.std.specs.Prelude.{◌≡◌, ℕ, Bool, true, false, not, ◌&&◌, ◌||◌, List, [], ◌∷◌, ◌++◌, Option, None, Some, is_some, if◌then◌else◌}
use Rattle.std.proofs.Common.{refl, sym, ap, subst}
use Rattle.std.specs.Ordering.{nat_cmp}
use Rattle.posix_acl.specs.AccessList.{AccessList}
use Rattle.fs_cred.specs.Credentials.{Credential}
use Rattle.fs_cred.specs.declared.refusal.Refusal.{Refusal}
use Rattle.fs_layout.specs.Maps.{get}
use Rattle.fs_model.specs.declared.call.AclType.TheVariants.{Access as AccessAcl, Default}
use Rattle.fs_model.specs.declared.call.Call.{Call}
use Rattle.fs_model.specs.declared.call.Call.TheVariants.{Open, Write, Truncate, Ftruncate, Chmod, Chown, SetAcl, Mkdir, Rmdir, Link as LinkCall, Symlink, Unlink, Rename}
use Rattle.fs_model.specs.declared.call.Flags.{Flags}
use Rattle.fs_model.specs.declared.event.Event.{Event}
use Rattle.fs_model.specs.declared.event.Event.TheVariants.{Call as Calls, CallAt, CallBy, Stamp}
use Rattle.fs_model.specs.declared.event.HandleCall.{HandleCall}
use Rattle.fs_model.specs.declared.event.HandleCall.TheVariants as by_handle
use Rattle.fs_model.specs.declared.reply.Reply.{Reply}
use Rattle.fs_model.specs.declared.reply.Reply.TheVariants.{Refused}
use Rattle.fs_model.specs.AttributeCalls.{with_mode, owned, with_set_acl}
use Rattle.fs_model.specs.declared.reply.Stamps.{Stamps}
use Rattle.fs_model.specs.declared.touch.Touch.TheVariants.{Modified}
use Rattle.fs_model.specs.Births.{the_node}
use Rattle.fs_model.specs.Nodes.{Node, Body, File, Dir, Link, with_bytes, stamped}
use Rattle.fs_model.specs.HandleCalls.{doer, handle_call_row}
use Rattle.fs_model.specs.OpenCall.{open_change, open_demands, open_found_demands, open_new_demands}
use Rattle.fs_model.specs.Processes.{Process, users}
use Rattle.fs_model.specs.RenameCall.{is_same}
use Rattle.fs_model.specs.Rows.{row_of}
use Rattle.fs_layout.proofs.FirstEntries.{left}
use Rattle.fs_model.specs.Scenes.{Scene, is_found, found_ino, node_found, body_found}
use Rattle.fs_model.specs.States.{State}
use Rattle.fs_model.specs.Steps.{Choice, with_stamps, scene_of, actor_scene, late_refusal, demand_of, other_refusal, after_call, after, Answers, is_halted, refuses_early, refuses_late, acts, lacks_memory, read_fails, write_fails}
use Rattle.fs_model.specs.TreeChanges.{Same, Rewrite, Make, MoveName, changed, swept, touches, touched}
use Rattle.fs_model.proofs.StepsDemands.{AreMet, demands_met, unrefused}
use Rattle.fs_model.proofs.StepsOfActors.{actor_demands}
use Rattle.fuse_plans.specs.Alterations.{Alteration, resizes, adds_name, sets_owner, sets_group, sets_times, where_so, alterations_by, alterations_by_handle, alterations_in}
use Rattle.fuse_plans.specs.Laws.{IsReplyTo, OpeningsAreTold}
use Rattle.fuse_plans.specs.AlteredTrees.{says_one, KeepsUnsaid, AltersOnly, LeavesUnsaid, stays, alters, StepsChangeWhatIsSaid}

-- what is said may change
said_so : {A : Type 0} (b : Bool) → b ≡ true → b ≡ false → A
said_so true is isnt = absurd (let no : true ≡ false = isnt in cc)
said_so false is isnt = absurd (let no : false ≡ true = is in cc)

all_kept : (list : List Alteration) (node : Node) → KeepsUnsaid list node node
all_kept list node =
    record { bytes = λ u. refl; mode = λ u. refl; access = λ u. refl; default = λ u. refl; owner = λ u. refl; group = λ u. refl; times = λ u. refl; kind = refl; names = refl; target = refl }

module _ (list : List Alteration) (owner group : ℕ) (stamps : Stamps) where
  abbrev node_of : Body → Node
  node_of body = record { owner = owner; group = group; stamps = stamps; body = body }

  keeps_bytes : (bytes : List ℕ) (body : Body) → says_one (λ x. x.bytes) list ≡ true → KeepsUnsaid list (node_of body) (node_of (with_bytes bytes body))
  keeps_bytes bytes (File a old) said =
      record { bytes = said_so _ said; mode = λ u. refl; access = λ u. refl; default = λ u. refl; owner = λ u. refl; group = λ u. refl; times = λ u. refl; kind = refl; names = refl; target = refl }
  keeps_bytes bytes (Dir a d) said = all_kept list _
  keeps_bytes bytes (Link target) said = all_kept list _

  keeps_mode : (cred : Credential) (mode : ℕ) (body : Body) → says_one (λ x. x.mode) list ≡ true → KeepsUnsaid list (node_of body) (node_of (with_mode cred group mode body))
  keeps_mode cred mode (File a old) said =
      record { bytes = λ u. refl; mode = said_so _ said; access = said_so _ said; default = λ u. refl; owner = λ u. refl; group = λ u. refl; times = λ u. refl; kind = refl; names = refl; target = refl }
  keeps_mode cred mode (Dir a d) said =
      record { bytes = λ u. refl; mode = said_so _ said; access = said_so _ said; default = λ u. refl; owner = λ u. refl; group = λ u. refl; times = λ u. refl; kind = refl; names = refl; target = refl }
  keeps_mode cred mode (Link target) said = all_kept list _

  keeps_access : (acl : Option AccessList) (body : Body) → says_one (λ x. x.mode) list ≡ true → KeepsUnsaid list (node_of body) (node_of (with_set_acl AccessAcl acl body))
  keeps_access None body said = all_kept list _
  keeps_access (Some acl) (File a old) said =
      record { bytes = λ u. refl; mode = said_so _ said; access = said_so _ said; default = λ u. refl; owner = λ u. refl; group = λ u. refl; times = λ u. refl; kind = refl; names = refl; target = refl }
  keeps_access (Some acl) (Dir a d) said =
      record { bytes = λ u. refl; mode = said_so _ said; access = said_so _ said; default = λ u. refl; owner = λ u. refl; group = λ u. refl; times = λ u. refl; kind = refl; names = refl; target = refl }
  keeps_access (Some acl) (Link target) said = all_kept list _

  keeps_default : (acl : Option AccessList) (body : Body) → says_one (λ x. x.default) list ≡ true → KeepsUnsaid list (node_of body) (node_of (with_set_acl Default acl body))
  keeps_default acl (File a old) said = all_kept list _
  keeps_default acl (Dir a d) said =
      record { bytes = λ u. refl; mode = λ u. refl; access = λ u. refl; default = said_so _ said; owner = λ u. refl; group = λ u. refl; times = λ u. refl; kind = refl; names = refl; target = refl }
  keeps_default acl (Link target) said = all_kept list _

keeps_owners : (owner group : Option ℕ) (node : Node) → KeepsUnsaid (where_so (is_some owner) sets_owner ++ where_so (is_some group) sets_group) node (owned owner group node)
keeps_owners None None node = all_kept _ node
keeps_owners (Some o) None node =
    record { bytes = λ u. refl; mode = λ u. refl; access = λ u. refl; default = λ u. refl; owner = said_so true refl; group = λ u. refl; times = λ u. refl; kind = refl; names = refl; target = refl }
keeps_owners None (Some g) node =
    record { bytes = λ u. refl; mode = λ u. refl; access = λ u. refl; default = λ u. refl; owner = λ u. refl; group = said_so true refl; times = λ u. refl; kind = refl; names = refl; target = refl }
keeps_owners (Some o) (Some g) node =
    record { bytes = λ u. refl; mode = λ u. refl; access = λ u. refl; default = λ u. refl; owner = said_so true refl; group = said_so true refl; times = λ u. refl; kind = refl; names = refl; target = refl }

keeps_unless : (said keeps : Bool) (x : Stamps) (node : Node) → (said ≡ false → x ≡ node.stamps)
    → KeepsUnsaid (where_so said sets_times) node (with_stamps (if keeps then x else node.stamps) node)
keeps_unless said false x node same = all_kept _ node
keeps_unless true true x node same =
    record { bytes = λ u. refl; mode = λ u. refl; access = λ u. refl; default = λ u. refl; owner = λ u. refl; group = λ u. refl; times = said_so true refl; kind = refl; names = refl; target = refl }
keeps_unless false true x node same =
    record { bytes = λ u. refl; mode = λ u. refl; access = λ u. refl; default = λ u. refl; owner = λ u. refl; group = λ u. refl; times = λ u. same refl; kind = refl; names = refl; target = refl }

-- where no time is set all stay
keeps_times : (n : ℕ) (keeps : Bool) (atime mtime ctime : Option ℕ) (node : Node)
    → KeepsUnsaid (alterations_in (Stamp n atime mtime ctime)) node (with_stamps (if keeps then stamped atime mtime ctime node.stamps else node.stamps) node)
keeps_times n keeps atime mtime ctime node = keeps_unless _ keeps (stamped atime mtime ctime node.stamps) node (none atime mtime ctime)
  where
    none : (atime mtime ctime : Option ℕ) → (is_some atime || (is_some mtime || is_some ctime)) ≡ false → stamped atime mtime ctime node.stamps ≡ node.stamps
    none None None None unsaid = refl
    none (Some a) mtime ctime unsaid = said_so true refl unsaid
    none None (Some m) ctime unsaid = said_so true refl unsaid
    none None None (Some c) unsaid = said_so true refl unsaid

-- ---- open

abbrev of_open : Flags → List ℕ → List Alteration
of_open f path = where_so f.create (adds_name path) ++ where_so f.trunc (resizes 0)

says_added : (create trunc : Bool) (path : List ℕ) → create ≡ true → says_one (λ x. x.added) (where_so create (adds_name path) ++ where_so trunc (resizes 0)) ≡ true
says_added true trunc path is = refl
says_added false trunc path is = absurd (let no : false ≡ true = is in cc)

says_bytes : (create trunc : Bool) (path : List ℕ) → trunc ≡ true → says_one (λ x. x.bytes) (where_so create (adds_name path) ++ where_so trunc (resizes 0)) ≡ true
says_bytes create false path is = absurd (let no : false ≡ true = is in cc)
says_bytes true true path is = refl
says_bytes false true path is = refl

made_by_flag : (create slash : Bool) → (not create || slash) ≡ false → create ≡ true
made_by_flag true slash is = refl
made_by_flag false slash is = absurd (let no : true ≡ false = is in cc)

opens : (f : Flags) (mode : ℕ) (path : List ℕ) (s : Scene) (number : ℕ) → AreMet (open_demands f s) → AltersOnly (of_open f path) s.state.tree (open_change f mode s number)
opens f mode path s number met = choose (is_found s.first) (f.trunc && f.write) refl _ _ number _ met
  where
    choose : (found cuts : Bool) → (f.trunc && f.write) ≡ cuts → (directory : ℕ) (name : List ℕ) (n : ℕ) (node : Node)
        → AreMet (if found then open_found_demands f s else open_new_demands f s)
        → AltersOnly (of_open f path) s.state.tree
        (if not found then Make directory name n node
        else (if cuts then Rewrite Modified (found_ino s.first) (record (node_found s s.first) { body = with_bytes [] (body_found s s.first) }) else Same))
    choose false cuts is directory name n node asked = says_added f.create f.trunc path (made_by_flag f.create s.first.slash (unrefused _ _ asked.0))
    choose true true is directory name n node asked = keeps_bytes _ _ _ _ [] _ (says_bytes f.create f.trunc path (left f.trunc f.write is))
    choose true false is directory name n node asked = tt

-- ---- each call

says : (c : Scene) (call : Call) (number : ℕ) → AreMet ((row_of call).demands c)
    → AltersOnly (alterations_by call) c.state.tree ((row_of call).effect c number).change
unfolding row_of
says c (Open path flags mode) number met = opens flags mode path c number met
says c (Write fd []) number met = tt
says c (Write fd (b ∷ bytes)) number met = keeps_bytes _ _ _ _ _ _ refl
says c (Truncate path size) number met = keeps_bytes _ _ _ _ _ _ refl
says c (Ftruncate fd size) number met = keeps_bytes _ _ _ _ _ _ refl
says c (Chmod path mode) number met = keeps_mode _ _ _ _ c.process.cred mode _ refl
says c (Chown path owner group) number met = keeps_owners owner group _
says c (SetAcl path AccessAcl acl) number met = keeps_access _ _ _ _ acl _ refl
says c (SetAcl path Default acl) number met = keeps_default _ _ _ _ acl _ refl
says c (Mkdir path mode) number met = refl
says c (Rmdir path) number met = refl
says c (LinkCall old new) number met = refl
says c (Symlink target path) number met = refl
says c (Unlink path) number met = refl
says c (Rename old new) number met = moves (is_same c) _ _ _ _
  where
    moves : (same : Bool) (directory : ℕ) (name : List ℕ) (to_directory : ℕ) (to_name : List ℕ)
        → AltersOnly (alterations_by (Rename old new)) c.state.tree (if same then Same else MoveName directory name to_directory to_name)
    moves true directory name to_directory to_name = tt
    moves false directory name to_directory to_name = refl
says c call number met = tt

-- by a handle
says_by : (c : Scene) (handle : ℕ) (call : HandleCall) (number : ℕ) → AltersOnly (alterations_by_handle handle call) c.state.tree ((handle_call_row call).effect c number).change
unfolding handle_call_row
says_by c handle (by_handle.Write offset []) number = tt
says_by c handle (by_handle.Write offset (b ∷ bytes)) number = keeps_bytes _ _ _ _ _ _ refl
says_by c handle (by_handle.Resize size) number = keeps_bytes _ _ _ _ _ _ refl
says_by c handle call number = tt

-- ---- each event

says_call : (s : State) (pid : ℕ) (call : Call) (number : ℕ) (p : Option Process) → demand_of (λ q. late_refusal s q (row_of call)) p ≡ None
    → AltersOnly (alterations_by call) s.tree (after_call s pid (row_of call) number p).change
says_call s pid call number None none = tt
says_call s pid call number (Some p) none = says (scene_of s p (row_of call)) call number (demands_met s p (row_of call) none)

says_event : (s : State) (e : Event) (choice : Choice) → other_refusal s e ≡ None → AltersOnly (alterations_in e) s.tree (after s e choice).change
unfolding other_refusal after
says_event s (Calls pid call) choice none = says_call s pid call choice.ino (get nat_cmp s.processes pid) none
says_event s (CallAt actor call) choice none = says (actor_scene s actor (row_of call)) call choice.ino (actor_demands s actor call (row_of call) none)
says_event s (CallBy handle call) choice none = says_by (scene_of s (doer s.openings handle call) (handle_call_row call)) handle call choice.ino
says_event s (Stamp n atime mtime ctime) choice none = keeps_times n s.room.keeps_times atime mtime ctime (the_node s.tree n)
says_event s e choice none = tt

answered_so : (old new : State) (e : Event) (reply : Reply) → Answers old e reply new → LeavesUnsaid (alterations_in e) old new
answered_so old new e reply (is_halted halted said same) = stays (ap (λ s. s.tree) same)
answered_so old new e reply (refuses_early halted r is said same) = stays (ap (λ s. s.tree) same)
answered_so old new e reply (refuses_late halted r early is said same) = stays (ap (λ s. s.tree) same)
answered_so old new e reply (acts choice does said is) =
    let change = (after old e choice).change in
    alters change (says_event old e choice does.late)
    (subst (λ s. s.tree ≡ touched old.now (touches old.room old.tree change) (swept (changed old.tree change) (users s.processes s.openings))) (sym is) refl)
answered_so old new e reply (lacks_memory halted early asks said same) = stays (ap (λ s. s.tree) same)
answered_so old new e reply (read_fails halted early said same) = stays (ap (λ s. s.tree) same)
answered_so old new e reply (write_fails choice does said processes openings halted same) = stays (ap (λ s. s.tree) same)

pub steps_change_what_is_said : StepsChangeWhatIsSaid
steps_change_what_is_said old new e reply step = answered_so old new e reply step.1

-- ---- what is replied to what opens

refused_so : (e : Event) (r : Refusal) → IsReplyTo e (Refused r)
refused_so (CallAt actor (Open path flags mode)) r = tt
refused_so (CallAt actor _) r = tt
refused_so _ r = tt

replied_so : (s : State) (e : Event) (choice : Choice) → IsReplyTo e (after s e choice).reply
unfolding after
replied_so s (CallAt actor (Open path flags mode)) choice = tt
replied_so s (CallAt actor _) choice = tt
replied_so s _ choice = tt

answers_so : (old new : State) (e : Event) (reply : Reply) → Answers old e reply new → IsReplyTo e reply
answers_so old new e reply (is_halted halted said same) = subst (IsReplyTo e) (sym said) (refused_so e _)
answers_so old new e reply (refuses_early halted r is said same) = subst (IsReplyTo e) (sym said) (refused_so e _)
answers_so old new e reply (refuses_late halted r early is said same) = subst (IsReplyTo e) (sym said) (refused_so e _)
answers_so old new e reply (acts choice does said is) = subst (IsReplyTo e) (sym said) (replied_so old e choice)
answers_so old new e reply (lacks_memory halted early asks said same) = subst (IsReplyTo e) (sym said) (refused_so e _)
answers_so old new e reply (read_fails halted early said same) = subst (IsReplyTo e) (sym said) (refused_so e _)
answers_so old new e reply (write_fails choice does said processes openings halted same) = subst (IsReplyTo e) (sym said) (refused_so e _)

pub openings_are_told : OpeningsAreTold
openings_are_told old new e reply step = answers_so old new e reply step.1
