-- What a user of a mount can't read has no part in what its requests are answered.
--     Stands, still_stands        what stays true of who asks while a request is performed
--     quiet_call        a call that changes nothing looks, or opens what is there
--     IsOthers, Whose, whose        whose event each is that may be asked
--     plans_confined        two runs of a plan that behaves
--     requests_confined
use Rattle.std.specs.Prelude.{◌≡◌, ℕ, ◌==◌, Bool, true, false, not, ◌&&◌, ◌||◌, List, [], ◌∷◌, ◌++◌, Option, None, Some, is_some, IsTrue, IsFalse, All, ◌⊎◌, cond}
use Rattle.std.specs.List.{list_any, zip}
use Rattle.std.proofs.Common.{refl, sym, ap, ◌∙◌, subst, inl, inr}
use Rattle.std.proofs.lemmas.List.Elements.{All-head, All-tail}
use Rattle.fs_cred.specs.Capabilities.{cap_fowner}
use Rattle.fs_cred.specs.Credentials.{Credential, is_capable}
use Rattle.fs_model.specs.declared.call.Call.{Call}
use Rattle.fs_model.specs.declared.call.Call.TheVariants.{Open as OpenCall, Stat, Lstat, Access, Truncate, Chmod, Chown, GetAcl, SetAcl, Mkdir, Rmdir, Symlink, Readlink, Unlink as UnlinkCall}
use Rattle.fs_model.specs.declared.event.Actor.{Actor}
use Rattle.fs_model.specs.declared.event.Event.{Event}
use Rattle.fs_model.specs.declared.event.Event.TheVariants.{CallAt, CallBy, Stamp, Clock, Sync, Statfs}
use Rattle.fs_model.specs.declared.event.HandleCall.{HandleCall}
use Rattle.fs_model.specs.declared.event.HandleCall.TheVariants.{List as ListBy, Close as CloseBy}
use Rattle.fs_model.specs.declared.reply.Reply.{Reply}
use Rattle.fs_model.specs.declared.reply.Reply.TheVariants.{Done, Opened}
use Rattle.fs_model.specs.States.{State, IsState}
use Rattle.fs_model.specs.Actors.{is_look}
use Rattle.fs_model.specs.Steps.{Choice, is_of_machine}
use Rattle.fs_model.specs.Ranges.{IsEvent}
use Rattle.fs_model.specs.Confinement.{IsConfined, StepBy, RunBy}
use Rattle.fs_model.specs.Outsiders.{Outsider, AreAlikeTo, AreOpen, IsItsEvent, IsBetween, IsListing, after_answer, LeadsTo}
use Rattle.fs_model.proofs.ConfinedStepsOf.{steps_by}
use Rattle.fs_model.proofs.StepsKeep.{steps_keep}
use Rattle.fs_model.proofs.ConfinedOutsiders.{answered_cred, outsiders_confined}
use Rattle.fs_model.proofs.BetweenEvents.{others_keep_alike}
use Rattle.fs_model.proofs.ConfinedListings.{listings_keep_alike}
use Rattle.fs_model.proofs.StayOpen.{handles_stay_open}
use Rattle.fuse_protocol.specs.declared.operation.Operation.{Operation}
use Rattle.fuse_plans.specs.Plans.{Plan, Finish, Ask, KeepsTo, IsRunOf}
use Rattle.fuse_plans.specs.Callers.{server_credential}
use Rattle.fuse_plans.specs.Acts.{Subject, AskedBefore, path_of, Concerns, on_object, on_told, on_name, on_new_name, moves, links, lists}
use Rattle.fuse_plans.specs.Alterations.{Alteration, adds_name, resizes, sets_owner, sets_group, where_so, alterations_by, says_change_in, AreTold, MayBeAsked, AsksOnly}
use Rattle.fuse_plans.specs.Conduct.{Rights, only_looks, MayCall, as_who_asks, as_server, to_run, lists_or_closes, is_close, releases, MayCallBy, given, opened_here, MayAsk, conduct}
use Rattle.fuse_plans.specs.Laws.{rights_of, Ends}
use Rattle.fuse_plans.specs.Serving.{request_plan}
use Rattle.fuse_plans.specs.Confinement.{HasThen, PerformedAlike, RequestsConfined}
use Rattle.fuse_plans.proofs.RequestConducts.{requests_behave, requests_change_what_they_say}
use Rattle.fuse_plans.proofs.Said.{others_change_nothing}
use Rattle.fuse_plans.proofs.SameCredentials.{same_cred}

-- ---- who asks

-- their credential is that of who asks, where a change is said, and the handle that is given, and isn't released, is one of theirs
pub record Stands (rights : Rights) (w : Outsider) : Type 0 where
  pub cred : (cred : Credential) → rights.cred ≡ Some cred → IsTrue (says_change_in rights.subject.operation) → cred ≡ w.cred
  pub handle : (handle : ℕ) → rights.handle ≡ Some handle → IsFalse (releases rights.subject.operation)
      → IsTrue (list_any (λ h. h == handle) w.handles)

either_later : (a b : Bool) → IsTrue b → IsTrue (a || b)
either_later true b is = refl
either_later false b is = is

-- a handle that is given is closed where it is released alone
pub still_stands : (rights : Rights) (past : AskedBefore) (w : Outsider) (e : Event) (reply : Reply) → MayAsk rights past e → Stands rights w
    → Stands rights (after_answer w e reply)
still_stands rights past w (CallAt actor (OpenCall path flags mode)) (Opened handle n) may stands = record {
  cred = stands.cred;
  handle = λ h is stays. either_later (handle == h) (list_any (λ x. x == h) w.handles) (stands.handle h is stays);
}
still_stands rights past w (CallBy handle CloseBy) Done (given is closing) stands = record {
  cred = stands.cred;
  handle = λ h same stays. absurd (let no : true ≡ false = closing ∙ stays in cc);
}
still_stands rights past w (CallBy handle CloseBy) Done (opened_here alone e n was only) stands = record {
  cred = stands.cred;
  handle = λ h same stays. absurd (let no : None ≡ Some h = sym alone ∙ same in cc);
}
still_stands rights past w e reply may stands = stands

-- ---- whose event it is

-- others look or list
abbrev pub IsOthers : Outsider → Event → Type 0
IsOthers w e = (IsItsEvent w e → ⊥) × (IsBetween e ⊎ IsListing w e)

-- of who asks, or of others
abbrev pub Whose : Outsider → Event → Type 0
Whose w e = IsItsEvent w e ⊎ IsOthers w e

-- the server's credential has what those who are confined lack
not_server : (w : Outsider) (actor : Actor) → IsConfined w.cred → actor.cred ≡ server_credential → w.cred ≡ actor.cred → ⊥
not_server w actor confined by same =
    let able : is_capable server_credential cap_fowner ≡ true = refl in
    let same_able : is_capable w.cred cap_fowner ≡ is_capable server_credential cap_fowner = ap (λ c. is_capable c cap_fowner) (same ∙ by) in
    let unable : is_capable w.cred cap_fowner ≡ false = confined.no_fowner in
    let no : true ≡ false = sym able ∙ sym same_able ∙ unable in cc

neither : (write create trunc directory : Bool) → IsTrue (not write && (not create && not trunc) && directory) → IsFalse (create || trunc)
neither write false false directory only = refl
neither false false true directory only = absurd cc
neither false true trunc directory only = absurd cc
neither true false true directory only = absurd cc
neither true true trunc directory only = absurd cc

-- the server looks, or opens what it lists
looks : (w : Outsider) (actor : Actor) (call : Call) → IsTrue (only_looks call) → IsBetween (CallAt actor call) ⊎ IsListing w (CallAt actor call)
looks w actor (Lstat path) only = inl refl
looks w actor (Readlink path) only = inl refl
looks w actor (GetAcl path which) only = inl refl
looks w actor (OpenCall path flags mode) only = inr (neither flags.write flags.create flags.trunc flags.directory only)
looks w actor call only = absurd cc

-- ---- what changes nothing

plain : (create trunc : Bool) (a b : Alteration) → AreTold None (where_so create a ++ where_so trunc b) → IsFalse (create || trunc)
plain false false a b told = refl
plain false true a b told = absurd (told.0)
plain true trunc a b told = absurd (told.0)

no_owners : (owner group : Bool) (a b : Alteration) (p path : List ℕ) → cond (owner || group) (Some p) None ≡ Some path
    → AreTold None (where_so owner a ++ where_so group b) → ⊥
no_owners false false a b p path at told = let no : None ≡ Some path = at in cc
no_owners false true a b p path at told = told.0
no_owners true group a b p path at told = told.0

no_path : (path : List ℕ) → None ≡ Some path → ⊥
no_path path at = cc

-- a call that changes nothing only looks, or opens what is there
quiet_path : (w : Outsider) (actor : Actor) (call : Call) (path : List ℕ) → path_of call ≡ Some path → AreTold None (alterations_by call)
    → IsBetween (CallAt actor call) ⊎ IsListing w (CallAt actor call)
quiet_path w actor (Stat p) path at told = inl refl
quiet_path w actor (Lstat p) path at told = inl refl
quiet_path w actor (Access p perms) path at told = inl refl
quiet_path w actor (GetAcl p which) path at told = inl refl
quiet_path w actor (Readlink p) path at told = inl refl
quiet_path w actor (OpenCall p flags mode) path at told = inr (plain flags.create flags.trunc (adds_name p) (resizes 0) told)
quiet_path w actor (Chown p owner group) path at told =
    absurd (no_owners (is_some owner) (is_some group) sets_owner sets_group p path at told)
quiet_path w actor (Truncate p size) path at told = absurd (told.0)
quiet_path w actor (Chmod p mode) path at told = absurd (told.0)
quiet_path w actor (SetAcl p which acl) path at told = absurd (told.0)
quiet_path w actor (Mkdir p mode) path at told = absurd (told.0)
quiet_path w actor (Rmdir p) path at told = absurd (told.0)
quiet_path w actor (Symlink target p) path at told = absurd (told.0)
quiet_path w actor (UnlinkCall p) path at told = absurd (told.0)
quiet_path w actor call path at told = absurd (no_path path at)

quiet_call : (subject : Subject) (past : AskedBefore) (w : Outsider) (actor : Actor) (call : Call) → Concerns subject past actor call
    → AreTold None (alterations_by call) → IsBetween (CallAt actor call) ⊎ IsListing w (CallAt actor call)
quiet_call subject past w actor call (on_object n starts object path) told = quiet_path w actor call [] path told
quiet_call subject past w actor call (on_told n starts opened path) told = quiet_path w actor call [] path told
quiet_call subject past w actor call (on_name d name starts is path) told = quiet_path w actor call name path told
quiet_call subject past w actor call (on_new_name d name starts is called) told = inl (subst (λ c. IsTrue (is_look c)) (sym called) refl)
quiet_call subject past w actor call (moves old new called from to) told = absurd ((subst (λ c. AreTold None (alterations_by c)) called told).0)
quiet_call subject past w actor call (links new called object to) told = absurd ((subst (λ c. AreTold None (alterations_by c)) called told).0)
quiet_call subject past w actor call (lists d name extent starts number asked called) told = inl (subst (λ c. IsTrue (is_look c)) (sym called) refl)

-- where the request says no change, none is told
untold : (o : Option Operation) (list : List Alteration) → IsFalse (says_change_in o) → AreTold o list → AreTold None list
untold o [] none told = tt
untold o (alteration ∷ others) none told = absurd (others_change_nothing o alteration none told.0)

whose_call : (rights : Rights) (past : AskedBefore) (w : Outsider) (actor : Actor) (call : Call) → IsConfined w.cred → MayAsk rights past (CallAt actor call)
    → MayBeAsked rights.subject.operation (CallAt actor call) → Stands rights w → Whose w (CallAt actor call)
whose_call rights past w actor call confined may told stands = by may.0
  where
    anyone : (says : Bool) → says_change_in rights.subject.operation ≡ says → rights.cred ≡ Some actor.cred → (w.cred ≡ actor.cred → ⊥) → IsOthers w (CallAt actor call)
    anyone true says is other = absurd (other (sym (stands.cred actor.cred is says)))
    anyone false says is other =
        (other, quiet_call rights.subject past w actor call may.1 (untold rights.subject.operation (alterations_by call) says told))

    by : MayCall rights past actor call → Whose w (CallAt actor call)
    by (as_who_asks is) = elim (same_cred w.cred actor.cred) [
      | inl same ↦ inl same
      | inr other ↦ inr (anyone (says_change_in rights.subject.operation) refl is other)
    ]
    by (as_server server only) = inr (not_server w actor confined server, looks w actor call only)
    by (to_run server run is) = inr (not_server w actor confined server, inr (subst (λ c. IsListing w (CallAt actor c)) (sym is) refl))

-- ---- by handles

not_theirs : (b : Bool) → b ≡ false → IsTrue b → ⊥
not_theirs b none some = cc

given_handle : (w : Outsider) (handle : ℕ) (call : HandleCall) (its released : Bool) → list_any (λ h. h == handle) w.handles ≡ its → is_close call ≡ released
    → (IsFalse released → IsTrue (list_any (λ h. h == handle) w.handles)) → Whose w (CallBy handle call)
given_handle w handle call true released same closing theirs = inl same
given_handle w handle call false false same closing theirs = inl (theirs refl)
given_handle w handle CloseBy false true same closing theirs = inr (not_theirs _ same, inr same)
given_handle w handle call false true same closing theirs = absurd cc

-- what is closed may be theirs or not
own_handle : (w : Outsider) (handle : ℕ) (call : HandleCall) (its : Bool) → list_any (λ h. h == handle) w.handles ≡ its → IsTrue (lists_or_closes call)
    → Whose w (CallBy handle call)
own_handle w handle ListBy true same only = inl same
own_handle w handle ListBy false same only = inr (not_theirs _ same, inr tt)
own_handle w handle CloseBy true same only = inl same
own_handle w handle CloseBy false same only = inr (not_theirs _ same, inr same)
own_handle w handle call its same only = absurd cc

whose_call_by : (rights : Rights) (past : AskedBefore) (w : Outsider) (handle : ℕ) (call : HandleCall) → MayCallBy rights past handle call → Stands rights w
    → Whose w (CallBy handle call)
whose_call_by rights past w handle call (given is closing) stands =
    given_handle w handle call (list_any (λ h. h == handle) w.handles) (releases rights.subject.operation) refl closing (stands.handle handle is)
whose_call_by rights past w handle call (opened_here alone e n was only) stands =
    own_handle w handle call (list_any (λ h. h == handle) w.handles) refl only

pub whose : (rights : Rights) (past : AskedBefore) (w : Outsider) (e : Event) → IsConfined w.cred → MayAsk rights past e → MayBeAsked rights.subject.operation e
    → Stands rights w → Whose w e
whose rights past w (CallAt actor call) confined may told stands = whose_call rights past w actor call confined may told stands
whose rights past w (CallBy handle call) confined may told stands = whose_call_by rights past w handle call may stands
whose rights past w (Stamp n atime mtime ctime) confined may told stands = inr ((λ own. own), inl tt)
whose rights past w (Clock now) confined may told stands = inr ((λ own. own), inl tt)
whose rights past w Sync confined may told stands = inr ((λ own. own), inl tt)
whose rights past w Statfs confined may told stands = inr ((λ own. own), inl tt)
whose rights past w e confined may told stands = elim may [ ]

asked_machine : (rights : Rights) (past : AskedBefore) (e : Event) → MayAsk rights past e → IsTrue (is_of_machine e)
asked_machine rights past (CallAt actor call) may = refl
asked_machine rights past (CallBy handle call) may = refl
asked_machine rights past (Stamp n atime mtime ctime) may = refl
asked_machine rights past (Clock now) may = refl
asked_machine rights past Sync may = refl
asked_machine rights past Statfs may = refl
asked_machine rights past e may = elim may [ ]

-- ---- one event

-- what both machines have replied, who has what then, and what is alike to it
record StepAlike (w v : Outsider) (reply reply' : Reply) (new new' : State) : Type 0 where
  same : reply ≡ reply'
  first : IsState new
  second : IsState new'
  cred : v.cred ≡ w.cred
  holds : AreOpen v new
  alike : AreAlikeTo v new new'

module _ (w : Outsider) (e : Event) (old old' new new' : State) (choice : Choice) (reply reply' : Reply) (is : IsState old) (js : IsState old')
    (confined : IsConfined w.cred) (opened : AreOpen w old) (alike : AreAlikeTo w old old') (fits : IsEvent e) (machine : IsTrue (is_of_machine e))
    (step : StepBy choice old e reply new) (step' : StepBy choice old' e reply' new') where
  first_state : IsState new
  first_state = steps_keep old new e reply is fits (steps_by old new e reply choice machine step)

  second_state : IsState new'
  second_state = steps_keep old' new' e reply' js fits (steps_by old' new' e reply' choice machine step')

  own_step : IsItsEvent w e → StepAlike w (after_answer w e reply) reply reply' new new'
  own_step own =
      let one = outsiders_confined w e old old' new new' choice reply reply' is js confined own fits alike step step' in
      record {
        same = one.0;
        first = first_state;
        second = second_state;
        cred = answered_cred w e reply;
        holds = (handles_stay_open w e old new reply is opened (steps_by old new e reply choice machine step)).its own one.1.first_runs;
        alike = one.1;
      }

  between_step : IsBetween e ⊎ IsListing w e → (reply ≡ reply') × AreAlikeTo w new new'
  between_step others = elim others [
    | inl between ↦ others_keep_alike w e old old' new new' choice reply reply' is js between alike step step'
    | inr listing ↦ listings_keep_alike w e old old' new new' choice reply reply' is opened listing alike step step'
  ]

  others_step : IsBetween e ⊎ IsListing w e → StepAlike w w reply reply' new new'
  others_step others =
      let one = between_step others in
      record {
        same = one.0;
        first = first_state;
        second = second_state;
        cred = refl;
        holds = (handles_stay_open w e old new reply is opened (steps_by old new e reply choice machine step)).others others;
        alike = one.1;
      }

-- ---- a plan

module _ {X : Type 0} where
  -- where one event is the first, the rest goes on as it is then
  goes_on : (w v : Outsider) (f g : Event) (r q : Reply) (c : Choice) (cs : List Choice) (es fs : List Event) (rs qs : List Reply) (x y : X) (new new' : State)
      → f ≡ g → r ≡ q → ((then : Outsider) → HasThen v es rs then → HasThen w (f ∷ es) (r ∷ rs) then)
      → ((then : Outsider) → LeadsTo v (zip es cs) rs then → LeadsTo w (zip (f ∷ es) (c ∷ cs)) (r ∷ rs) then)
      → PerformedAlike v cs es fs rs qs x y new new' → PerformedAlike w (c ∷ cs) (f ∷ es) (g ∷ fs) (r ∷ rs) (q ∷ qs) x y new new'
  goes_on w v f g r q c cs es fs rs qs x y new new' event reply has leads rest = record {
    asked = ap (λ e. e ∷ es) event ∙ ap (λ es. g ∷ es) rest.asked;
    replied = ap (λ a. a ∷ rs) reply ∙ ap (λ rs. q ∷ rs) rest.replied;
    answered = rest.answered;
    becomes = rest.becomes;
    has = has rest.becomes rest.has;
    leads = leads rest.becomes rest.leads;
    first = rest.first;
    second = rest.second;
    alike = rest.alike;
    holds = rest.holds;
  }

  module _ (rights : Rights) (E : AskedBefore → X → Type 0) where
    abbrev PlanConfined : Plan X → Type 0
    PlanConfined p =
        (w : Outsider) (choices : List Choice) (old old' new new' : State) (es fs : List Event) (rs qs : List Reply) (x y : X)
        → IsState old → IsState old' → IsConfined w.cred → Stands rights w → AreOpen w old → AreAlikeTo w old old' → All IsEvent es
        → IsRunOf p es rs x → RunBy old (zip es choices) rs new → IsRunOf p fs qs y → RunBy old' (zip fs choices) qs new'
        → PerformedAlike w choices es fs rs qs x y new new'

    plans_confined : (p : Plan X) (past : AskedBefore) → KeepsTo (conduct rights) E past p → AsksOnly (MayBeAsked rights.subject.operation) p → PlanConfined p
    plans_confined (Finish z) past keeps asks w choices old old' new new' [] [] [] [] x y is js confined stands opened alike fits runs steps runs' steps' = record {
      asked = refl;
      replied = refl;
      answered = runs ∙ sym runs';
      becomes = w;
      has = refl;
      leads = refl;
      first = subst IsState (sym steps) is;
      second = subst IsState (sym steps') js;
      alike = subst (λ u. AreAlikeTo w u new') (sym steps) (subst (λ u. AreAlikeTo w old u) (sym steps') alike);
      holds = subst (λ u. AreOpen w u) (sym steps) opened;
    }
    plans_confined (Finish z) past keeps asks w choices old old' new new' [] [] [] (q ∷ qs) x y is js confined stands opened alike fits runs steps runs' steps' = elim runs' [ ]
    plans_confined (Finish z) past keeps asks w choices old old' new new' [] (g ∷ fs) [] qs x y is js confined stands opened alike fits runs steps runs' steps' = elim runs' [ ]
    plans_confined (Ask e next) past keeps asks w choices old old' new new' (f ∷ es) [] (r ∷ rs) qs x y is js confined stands opened alike fits runs steps runs' steps' = elim runs' [ ]
    plans_confined (Ask e next) past keeps asks w choices old old' new new' (f ∷ es) (g ∷ fs) (r ∷ rs) [] x y is js confined stands opened alike fits runs steps runs' steps' = elim runs' [ ]
    plans_confined (Ask e next) past keeps asks w [] old old' new new' (f ∷ es) (g ∷ fs) (r ∷ rs) (q ∷ qs) x y is js confined stands opened alike fits runs steps runs' steps' = elim steps [ ]
    plans_confined (Ask e next) past keeps asks w (c ∷ cs) old old' new new' (f ∷ es) (g ∷ fs) (r ∷ rs) (q ∷ qs) x y is js confined stands opened alike fits runs steps runs' steps' =
        let may = subst (λ h. MayAsk rights past h) (sym runs.0) keeps.0 in
        let told = subst (λ h. MayBeAsked rights.subject.operation h) (sym runs.0) asks.0 in
        let machine = asked_machine rights past f may in
        let event = All-head IsEvent f es fits in
        let step' = subst (λ h. StepBy c old' h q steps'.0) (runs'.0 ∙ sym runs.0) steps'.1 in
        let rest : (v : Outsider) → Stands rights v → StepAlike w v r q steps.0 steps'.0 → PerformedAlike v cs es fs rs qs x y new new' =
        λ v stands one.
        plans_confined (next r) ((e, r) ∷ past) (keeps.1 r) (asks.1 r) v cs steps.0 steps'.0 new new' es fs rs qs x y one.first one.second
        (subst IsConfined (sym one.cred) confined) stands one.holds one.alike (All-tail IsEvent f es fits) runs.1 steps.2
        (subst (λ a. IsRunOf (next a) fs qs y) (sym one.same) runs'.1) steps'.2 in
        elim (whose rights past w f confined may told stands) [
          | inl own ↦
              let one = own_step w f old old' steps.0 steps'.0 c r q is js confined opened alike event machine steps.1 step' own in
              goes_on w (after_answer w f r) f g r q c cs es fs rs qs x y new new' (runs.0 ∙ sym runs'.0) one.same (λ then has. inl (own, has)) (λ then leads. (event, inl (own, leads)))
              (rest (after_answer w f r) (still_stands rights past w f r may stands) one)
          | inr others ↦
              let one = others_step w f old old' steps.0 steps'.0 c r q is js confined opened alike event machine steps.1 step' others.1 in
              goes_on w w f g r q c cs es fs rs qs x y new new' (runs.0 ∙ sym runs'.0) one.same (λ then has. inr (others.0, has)) (λ then leads. (event, inr (others.1, leads)))
              (rest w stands one)
        ]
    plans_confined p past keeps asks w choices old old' new new' es fs rs qs x y is js confined stands opened alike fits runs steps runs' steps' = elim runs [ ]

-- ---- requests

pub requests_confined : RequestsConfined
requests_confined w r s choices old old' new new' events events' replies replies' result result' is js confined of opened alike fits first second =
    plans_confined (rights_of r s) (Ends s) (request_plan r s) [] (requests_behave r s) (requests_change_what_they_say r s) w choices old old' new new' events events' replies replies' result result'
    is js confined (record { cred = of.cred; handle = of.handle }) opened alike fits first.runs first.steps second.runs second.steps
