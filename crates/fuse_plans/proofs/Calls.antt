-- How calls behave: on an object, on a name, and by a handle.
--     run-later, told-later, granted-later, ..        what may be asked may be asked later too
--     WasAsked, WasGranted        an event with its reply
--     IsOpened, About        what was opened for the request; an object that it is about, or was told of
--     do-later, does-ask, does-obtain, does-on, does-inside        one event, which makes nothing
--     lasts-changed        one call that changes all
--     looks-at        the server may look at such an object
--     does-look, does-list_of, does-list_hides, does-told_stamps        what the server looks at
--     IsFor, IsOwn, gives-own, gives-number, gives-caller        nodes and who asks
use Rattle.std.specs.Prelude.{◌≡◌, ℕ, Bool, true, false, List, [], ◌∷◌, Option, None, Some, Result, Ok, Err, IsTrue, if◌then◌else◌}
use Rattle.std.specs.List.{Contains}
use Rattle.std.proofs.Common.{refl, sym, ap, subst, ◌∙◌}
use Rattle.posix_acl.specs.Entries.{perms_of}
use Rattle.fs_cred.specs.Credentials.{Credential}
use Rattle.fs_cred.specs.declared.refusal.Refusal.{Refusal}
use Rattle.fs_model.specs.declared.call.AclType.{AclType}
use Rattle.fs_model.specs.declared.call.AclType.TheVariants.{Access as AccessAcl}
use Rattle.fs_model.specs.declared.call.Call.{Call}
use Rattle.fs_model.specs.declared.call.Call.TheVariants.{Lstat, Access, GetAcl}
use Rattle.fs_model.specs.declared.event.Actor.{Actor}
use Rattle.fs_model.specs.declared.event.Event.{Event}
use Rattle.fs_model.specs.declared.event.Event.TheVariants.{CallAt, CallBy, Stamp, Clock, Sync, Statfs}
use Rattle.fs_model.specs.declared.event.HandleCall.{HandleCall}
use Rattle.fs_model.specs.declared.event.HandleCall.TheVariants as by_handle
use Rattle.fs_model.specs.declared.reply.Reply.{Reply}
use Rattle.fs_model.specs.declared.reply.Reply.TheVariants.{Shown, Opened, Refused}
use Rattle.fuse_protocol.specs.declared.reply.Time.{Time}
use Rattle.fuse_state.specs.Servers.{Server, number_of_node}
use Rattle.fuse_state.specs.Stamps.{stamp_of}
use Rattle.fuse_plans.specs.Plans.{followed_by, KeepsTo}
use Rattle.fuse_plans.specs.declared.request_error.RequestError.{RequestError}
use Rattle.fuse_plans.specs.declared.request_error.RequestError.TheVariants.{Lacks}
use Rattle.fuse_plans.specs.declared.request_error.OtherErrno.TheVariants.{ESTALE}
use Rattle.fuse_plans.specs.declared.request.Asked.{Asked}
use Rattle.fuse_plans.specs.Works.{Work, give, fail, keep, goes_on, kept, ◌>>=◌, ask, needed, refusal_in, give_unless, obtain, or_closed, replied_status, replied_opened}
use Rattle.fuse_plans.specs.Callers.{server_credential, actor_in, who_asks, inside, look_inside, of_object, on, look, the_number}
use Rattle.fuse_plans.specs.Times.{tell_time, told_stamps}
use Rattle.fuse_plans.specs.Masks.{list_of, acl_of, may_hide, hides, list_hides}
use Rattle.fuse_plans.specs.Acts.{Subject, AskedBefore, IsObject, of_node, IsToldOf, path_of, Concerns, on_object, on_told, on_name, on_new_name, moves, links, lists}
use Rattle.fuse_plans.specs.Alterations.{alterations_by, AreTold}
use Rattle.fuse_plans.specs.Conduct.{Rights, only_looks, MayRun, MayCall, as_who_asks, as_server, to_run, MayCallBy, given, opened_here, asks, MayAsk}
use Rattle.fuse_plans.proofs.Said.{said-so}
use Rattle.fuse_plans.proofs.PlanLaws.{Whatever}
use Rattle.fuse_plans.proofs.Roles.{refused-unchanged, Role, rights_in, Extends, has-last, IsShown, MayDo, may-do, ByRight, right-later, doing}
use Rattle.fuse_plans.proofs.Conducts.{Unmade, Quiet, a-look, SameAll, SameTimes, EndsTo, Lasts, spared, left-changed, Nodes, still, Fits, fits-next, fits-quiet, LeftTo, DoesTo, Does, gives, does-give, does-fail, does-kept, does-needed, then->>=, does->>=, forget}

-- ---- what may be asked later too

pub run-later : {cred : Option Credential} {old new : AskedBefore} {n : ℕ} → Extends old new → MayRun cred old n → MayRun cred new n
run-later more run = record {
  asker = run.asker;
  is_who_asks = run.is_who_asks;
  starts = run.starts;
  reply = run.reply;
  was_asked = more.has (CallAt run.asker (Access [] (perms_of 1))) run.reply run.was_asked;
  granted = run.granted;
}

may_call-later : {rights : Rights} {old new : AskedBefore} {actor : Actor} {call : Call} → Extends old new → MayCall rights old actor call → MayCall rights new actor call
may_call-later more (as_who_asks is) = as_who_asks is
may_call-later more (as_server by only) = as_server by only
may_call-later more (to_run by run is) = to_run by (run-later more run) is

may_call_by-later : {rights : Rights} {old new : AskedBefore} {handle : ℕ} {call : HandleCall} → Extends old new → MayCallBy rights old handle call → MayCallBy rights new handle call
may_call_by-later more (given is closing) = given is closing
may_call_by-later {handle = handle} more (opened_here alone e n was listed) = opened_here alone e n (more.has e (Opened handle n) was) listed

pub told-later : {old new : AskedBefore} {n : ℕ} → Extends old new → IsToldOf old n → IsToldOf new n
told-later more told = record { event = told.event; reply = told.reply; was_asked = more.has told.event told.reply told.was_asked; tells = told.tells }

concerns-later : {r : Subject} {old new : AskedBefore} {actor : Actor} {call : Call} → Extends old new → Concerns r old actor call → Concerns r new actor call
concerns-later more (on_object n starts object path) = on_object n starts object path
concerns-later more (on_told n starts told path) = on_told n starts (told-later more told) path
concerns-later more (on_name d name starts is path) = on_name d name starts is path
concerns-later more (on_new_name d name starts is call) = on_new_name d name starts is call
concerns-later more (moves old_name new_name is from to) = moves old_name new_name is from to
concerns-later more (links name is object to) = links name is object to
concerns-later more (lists d name extent starts number asked is) = lists d name extent starts number asked is

may-later : (rights : Rights) {old new : AskedBefore} → Extends old new → (e : Event) → MayAsk rights old e → MayAsk rights new e
may-later rights more (CallAt actor call) may = (may_call-later more may.0, concerns-later more may.1)
may-later rights more (CallBy handle call) may = may_call_by-later more may
may-later rights more (Stamp n atime mtime ctime) may = may
may-later rights more (Clock now) may = tt
may-later rights more Sync may = tt
may-later rights more Statfs may = tt
may-later rights more _ may = elim may [ ]

-- ---- what was asked

-- with this reply
pub record WasAsked (past : AskedBefore) (e : Event) (reply : Reply) : Type 0 where
  pub was : Contains past (e, reply)

-- and it isn't a refusal
pub record WasGranted (past : AskedBefore) (e : Event) (reply : Reply) : Type 0 where
  pub was : Contains past (e, reply)
  pub granted : refusal_in reply ≡ None

pub granted-later : {old new : AskedBefore} {e : Event} {reply : Reply} → Extends old new → WasGranted old e reply → WasGranted new e reply
granted-later {e = e} {reply = reply} more asked = record { was = more.has e reply asked.was; granted = asked.granted }

-- for the request this handle was opened, for this object
pub record IsOpened (past : AskedBefore) (handle n : ℕ) : Type 0 where
  pub event : Event
  pub was : Contains past (event, Opened handle n)

pub opened-told : {past : AskedBefore} {handle n : ℕ} → IsOpened past handle n → IsToldOf past n
opened-told {past} {handle} {n} opened = record { event = opened.event; reply = Opened handle n; was_asked = opened.was; tells = refl }

-- what was opened may be listed and closed, where the request gives no handle
pub may-close : {rights : Role} {past : AskedBefore} {handle n : ℕ} → rights.handle ≡ None → IsOpened past handle n → MayDo rights past (CallBy handle by_handle.Close)
may-close {n = n} alone opened = may-do (opened_here alone opened.event n opened.was refl) tt

pub may-list : {rights : Role} {past : AskedBefore} {handle n : ℕ} → rights.handle ≡ None → IsOpened past handle n → MayDo rights past (CallBy handle by_handle.List)
may-list {n = n} alone opened = may-do (opened_here alone opened.event n opened.was refl) tt

-- ---- objects

-- what the request is about, or was told of
pub data About (rights : Role) (past : AskedBefore) (n : ℕ) : Type 0 where
  an_object : IsObject rights.subject n → About rights past n
  was_told : IsToldOf past n → About rights past n

-- a call by an actor in one place acts on the object there
pub concerns-about : {rights : Role} {past : AskedBefore} {n : ℕ} (cred : Credential) (call : Call) → path_of call ≡ Some [] → About rights past n
    → Concerns rights.subject past (actor_in cred n) call
concerns-about {n = n} cred call path (an_object object) = on_object n (record { first = refl; second = refl }) object path
concerns-about {n = n} cred call path (was_told told) = on_told n (record { first = refl; second = refl }) told path

-- the server may look at it
pub looks-at : {rights : Role} {past : AskedBefore} {n : ℕ} (call : Call) → IsTrue (only_looks call) → path_of call ≡ Some []
    → AreTold rights.subject.operation (alterations_by call) → About rights past n → MayDo rights past (CallAt (actor_in server_credential n) call)
looks-at call only path told about = may-do (as_server refl only, concerns-about server_credential call path about) told

-- who asks may do with it what they may, and say
pub acts-on : {rights : Role} {past : AskedBefore} {n : ℕ} {cred : Credential} (call : Call) → rights.cred ≡ Some cred → path_of call ≡ Some []
    → AreTold rights.subject.operation (alterations_by call) → About rights past n → MayDo rights past (CallAt (actor_in cred n) call)
acts-on {cred = cred} call is path told about = may-do (as_who_asks is, concerns-about cred call path about) told

pub do-later : (rights : Role) {old new : AskedBefore} → Extends old new → (e : Event) → MayDo rights old e → ByRight rights old e → MayDo rights new e × ByRight rights new e
do-later rights more e may right = (may-do (may-later (rights_in rights) more e may.may) may.told, right-later rights more e right)

-- ---- one event

module _ {rights : Role} {k : Nodes} {known : AskedBefore} where
  -- it makes nothing
  pub does-ask : (e : Event) → MayDo rights known e → ByRight rights known e → Quiet rights e → DoesTo rights k known (λ past reply. WasAsked past e reply) (ask e)
  unfolding ask
  does-ask e may right none = record {
    goes = λ past s fits. (
      do-later rights fits.since e may right,
      λ reply. (fits-quiet e reply none fits, record { was = has-last past (e, reply) }),
    );
  }

  does-give_unless : (e : Event) (reply : Reply) (o : Option Refusal) → refusal_in reply ≡ o → WasAsked known e reply
      → DoesTo rights k known (λ past x. WasGranted past e x) (give_unless reply o)
  does-give_unless e reply None is asked = gives reply (λ past more. record { was = more.has e reply asked.was; granted = is })
  does-give_unless e reply (Some r) is asked = does-fail _

  does-of_object : (e : Event) (reply : Reply) (o : Option Refusal) → refusal_in reply ≡ o → WasAsked known e reply
      → DoesTo rights k known (λ past x. WasGranted past e x) (of_object reply o)
  does-of_object e reply None is asked = gives reply (λ past more. record { was = more.has e reply asked.was; granted = is })
  does-of_object e reply (Some r) is asked = does-fail _

  does-replied_status : (n : ℕ) (reply : Reply) → WasGranted known (CallAt (actor_in server_credential n) (Lstat [])) reply
      → DoesTo rights k known (λ past status. IsShown past n status) (replied_status reply)
  does-replied_status n (Shown status) asked = gives status (λ past more. record { was = more.has _ (Shown status) asked.was })
  does-replied_status n _ asked = does-fail _

-- what changes all by one call
module _ {rights : Role} {known : AskedBefore} {X : Type 0} (e : Event) (may : MayDo rights known e) (right : ByRight rights known e) (unmade : Unmade e)
    (f : Server → Server) (same : SameAll f) (times : SameTimes rights f) (x : X) where
  pub lasts-changed : Lasts rights known (obtain e >>= (λ done. keep f >>= (λ noted. give x)))
  unfolding ask give fail keep ◌>>=◌
  lasts-changed = record { goes = λ past s fits. (do-later rights fits.since e may right, λ reply. each past s fits reply) }
    where
      each : (past : AskedBefore) (s : Server) → Fits rights still known past s → (reply : Reply)
          → KeepsTo (doing rights) (EndsTo rights Whatever) ((e, reply) ∷ past) (followed_by (give_unless reply (refusal_in reply) s) (goes_on (λ done. keep f >>= (λ noted. give x))))
      each past s fits (Refused refusal) = spared (fits-next e (Refused refusal) (unmade _) (λ once. refused-unchanged e refusal) fits)
      each past s fits reply = (left-changed f e reply (unmade reply) same times fits, tt)

module _ {rights : Role} {k : Nodes} {known : AskedBefore} where
  pub does-obtain : (e : Event) → MayDo rights known e → ByRight rights known e → Quiet rights e → DoesTo rights k known (λ past reply. WasGranted past e reply) (obtain e)
  does-obtain e may right none = then->>= (does-ask e may right none) (λ reply now more asked. does-give_unless e reply (refusal_in reply) refl asked)

  pub does-on : (cred : Credential) (n : ℕ) (call : Call) → MayDo rights known (CallAt (actor_in cred n) call) → Quiet rights (CallAt (actor_in cred n) call)
      → DoesTo rights k known (λ past reply. WasGranted past (CallAt (actor_in cred n) call) reply) (on cred n call)
  unfolding on
  does-on cred n call may none = then->>= (does-ask (CallAt (actor_in cred n) call) may tt none) (λ reply now more asked. does-of_object _ reply (refusal_in reply) refl asked)

  pub does-inside : (cred : Credential) (d : ℕ) (call : Call) → MayDo rights known (CallAt (actor_in cred d) call) → Quiet rights (CallAt (actor_in cred d) call)
      → DoesTo rights k known (λ past reply. WasGranted past (CallAt (actor_in cred d) call) reply) (inside cred d call)
  unfolding inside
  does-inside cred d call may none = does-obtain (CallAt (actor_in cred d) call) may tt none

  pub does-look_inside : (cred : Credential) (d : ℕ) (name : List ℕ) → MayDo rights known (CallAt (actor_in cred d) (Lstat name))
      → Does rights k known (look_inside cred d name)
  unfolding look_inside
  does-look_inside cred d name may = does->>= (does-inside cred d _ may (a-look (λ reply. refl) refl)) (λ reply. forget (does-needed _ _))

  -- ---- what is told of what was opened or made

  pub does-replied_opened : (e : Event) (reply : Reply) → WasGranted known e reply → DoesTo rights k known (λ past opened. IsOpened past opened.0 opened.1) (replied_opened reply)
  does-replied_opened e (Opened handle n) asked = gives (handle, n) (λ past more. record { event = e; was = more.has e (Opened handle n) asked.was })
  does-replied_opened e _ asked = does-fail _

  pub does-or_closed : {X : Type 0} {n : ℕ} (handle : ℕ) (r : Result X RequestError) → rights.handle ≡ None → IsOpened known handle n → Does rights k known (or_closed handle r)
  does-or_closed handle (Ok x) alone opened = does-give x
  does-or_closed handle (Err e) alone opened = does->>= (does-ask _ (may-close alone opened) tt (a-look (λ reply. refl) refl)) (λ reply. does-fail e)

  -- ---- what the server looks at

  pub does-look : (n : ℕ) → About rights known n → DoesTo rights k known (λ past status. IsShown past n status) (look n)
  unfolding look
  does-look n about = then->>= (does-on _ n _ (looks-at (Lstat []) refl refl tt about) (a-look (λ reply. refl) refl)) (λ reply now more asked. does-replied_status n reply asked)

  pub does-list_of : (n : ℕ) (which : AclType) → About rights known n → Does rights k known (list_of n which)
  does-list_of n which about = does->>= (does-on _ n _ (looks-at (GetAcl [] which) refl refl tt about) (a-look (λ reply. refl) refl)) (λ reply. forget (does-needed _ _))

  -- ---- times

  does-if_kept : {X : Type 0} (f : Bool → Work X) (g : Server → Bool) → Does rights k known (f true) → Does rights k known (f false) → Does rights k known (kept g >>= f)
  does-if_kept f g where_so where_not = does->>= (does-kept g) choose
    where
      choose : (b : Bool) → Does rights k known (f b)
      choose true = where_so
      choose false = where_not

  -- the times of each object may be asked for
  pub does-told_stamps : (n : ℕ) → Does rights k known (told_stamps n)
  unfolding told_stamps
  does-told_stamps n =
      does-if_kept _ _ (does->>= (does-ask (Stamp n None None None) (may-do asks tt) (λ sets. said-so (sym sets)) (a-look (λ reply. refl) refl)) (λ reply. does->>= (does-needed _ _) (λ stamps. does-give _))) (does-give None)

  pub does-tell_time : (now : Time) → Does rights k known (tell_time now)
  unfolding tell_time
  does-tell_time now = does-if_kept _ _ (does->>= (does-ask (Clock (stamp_of now)) (may-do tt tt) tt (a-look (λ reply. refl) refl)) (λ reply. does-give tt)) (does-give tt)

module _ {rights : Role} {k : Nodes} {known : AskedBefore} where
  pub does-acl_of : (n : ℕ) (which : AclType) → About rights known n → Does rights k known (acl_of n which)
  does-acl_of n which about = does->>= (does-list_of n which about) (λ acl. does-give _)

  does-asks_list : (n : ℕ) (b : Bool) → About rights known n
      → Does rights k known (if b then (acl_of n AccessAcl >>= (λ acl. give (hides acl))) else give false)
  does-asks_list n true about = does->>= (does-acl_of n AccessAcl about) (λ acl. does-give _)
  does-asks_list n false about = does-give false

  pub does-list_hides : (n : ℕ) → About rights known n → Does rights k known (list_hides n)
  does-list_hides n about = does->>= (does-look n about) (λ status. does-asks_list n (may_hide status.mode) about)

-- ---- nodes and who asks

-- the number that a node had when the request began
abbrev pub WasNumber : Role → ℕ → ℕ → Type 0
WasNumber rights node n = number_of_node rights.subject.start node ≡ Some n

-- that of the node that the request is asked of
abbrev pub IsOwn : Role → ℕ → Type 0
IsOwn rights n = WasNumber rights rights.subject.node n

-- for who asks, of this node
pub record IsFor (rights : Role) (r : Asked) : Type 0 where
  pub cred : rights.cred ≡ r.cred
  pub node : rights.subject.node ≡ r.node
  pub now : rights.now ≡ r.now

pub own-object : {rights : Role} {past : AskedBefore} {n : ℕ} → IsOwn rights n → About rights past n
own-object own = an_object (of_node own)

module _ {rights : Role} {known : AskedBefore} where
  pub gives-number : (node : ℕ) → DoesTo rights still known (λ past n. WasNumber rights node n) (the_number node)
  unfolding the_number kept give fail ◌>>=◌
  gives-number node = record { goes = λ past s fits. found past s fits (number_of_node s node) refl }
    where
      found : (past : AskedBefore) (s : Server) → Fits rights still known past s → (o : Option ℕ) → number_of_node s node ≡ o
          → KeepsTo (doing rights) (LeftTo rights still known (λ past n. WasNumber rights node n)) past (needed (Lacks ESTALE) o s)
      found past s fits None is = fits
      found past s fits (Some n) is = (fits, sym (ap (λ g. number_of_node (record s { generations = g }) node) fits.holds.0) ∙ is)

  pub gives-own : {r : Asked} → IsFor rights r → DoesTo rights still known (λ past n. IsOwn rights n) (the_number r.node)
  gives-own of =
      subst (λ k. DoesTo rights still known (λ past n. IsOwn rights n) (the_number k)) of.node (gives-number rights.subject.node)

  -- the credential is that of who asks
  pub gives-caller : {k : Nodes} (cred : Option Credential) → rights.cred ≡ cred → DoesTo rights k known (λ past c. rights.cred ≡ Some c) (who_asks cred)
  gives-caller None is = does-fail _
  gives-caller (Some c) is = gives c (λ past more. is)
