-- What may be asked for a request, and with which right.
--     Role, rights_in, role_of        for whom it is done, on what and when
--     Extends        what was asked before stays asked
--     IsShown, MaySetBy, Rightly        why times may be set, by what was asked
--     HasChanged, Clean        nothing has changed so far
--     MayDo        what may be asked, and changes no more than the request says
--     ByRight, doing        it sets times by right
use Rattle.std.specs.Prelude.{◌≡◌, ◌≢◌, ℕ, zero, suc, [], ◌∷◌, Option, None, Some, IsTrue}
use Rattle.std.specs.List.{Contains}
use Rattle.std.proofs.Common.{refl, sym, subst, arith}
use Rattle.posix_acl.specs.Entries.{perms_of}
use Rattle.fs_cred.specs.Credentials.{Credential}
use Rattle.fs_cred.specs.Ownership.{counts_as_owner}
use Rattle.fs_cred.specs.declared.refusal.Refusal.{Refusal}
use Rattle.fs_model.specs.declared.call.Call.TheVariants.{Lstat, Access}
use Rattle.fs_model.specs.declared.event.Event.{Event}
use Rattle.fs_model.specs.declared.event.Event.TheVariants.{CallAt, Stamp}
use Rattle.fs_model.specs.declared.reply.Reply.{Reply}
use Rattle.fs_model.specs.declared.reply.Reply.TheVariants.{Shown, Refused}
use Rattle.fs_model.specs.declared.reply.Status.{Status}
use Rattle.fuse_protocol.specs.declared.reply.Time.{Time}
use Rattle.fuse_state.specs.Servers.{Server}
use Rattle.fuse_state.specs.Stamps.{stamp_of}
use Rattle.fuse_plans.specs.Plans.{Restraint}
use Rattle.fuse_plans.specs.Works.{refusal_in}
use Rattle.fuse_plans.specs.Callers.{server_credential, actor_in}
use Rattle.fuse_plans.specs.Acts.{Subject, AskedBefore}
use Rattle.fuse_plans.specs.Alterations.{alterations_in, sets_some, MayBeAsked}
use Rattle.fuse_plans.specs.Conduct.{Rights, MayAsk}
use Rattle.fuse_plans.specs.Requests.{Request}
use Rattle.fuse_plans.specs.Laws.{handle_in, subject_of, IsReplyTo}
use Rattle.fuse_plans.specs.TimeLaws.{IsPresent}

-- ---- for whom, on what and when

pub record Role : Type 0 where
  pub cred : Option Credential
  pub handle : Option ℕ
  pub subject : Subject
  pub now : Time

abbrev pub rights_in : Role → Rights
rights_in rights = record { cred = rights.cred; handle = rights.handle; subject = rights.subject }

abbrev pub role_of : Request → Server → Role
role_of r s = record { cred = r.cred; handle = handle_in r.operation; subject = subject_of r s; now = r.now }

-- ---- what was asked before

-- what was asked stays asked
pub record Extends (old new : AskedBefore) : Type 0 where
  pub has : (e : Event) (reply : Reply) → Contains old (e, reply) → Contains new (e, reply)

pub has-last : (past : AskedBefore) (x : Event × Reply) → Contains (x ∷ past) x
has-last past x = (0, omega arith, refl)

pub has-later : (past : AskedBefore) (x y : Event × Reply) → Contains past x → Contains (y ∷ past) x
has-later past x y (k, lt, is) = (suc k, omega (arith, lt), is)

pub extends-itself : (past : AskedBefore) → Extends past past
extends-itself past = record { has = λ e reply was. was }

pub extends-more : {old new : AskedBefore} (x : Event × Reply) → Extends old new → Extends old (x ∷ new)
extends-more {old} {new} x more = record { has = λ e reply was. has-later new (e, reply) x (more.has e reply was) }

pub extends-both : {first second third : AskedBefore} → Extends first second → Extends second third → Extends first third
extends-both more again = record { has = λ e reply was. again.has e reply (more.has e reply was) }

pub extends-nothing : (past : AskedBefore) → Extends [] past
extends-nothing past = record { has = λ e reply was. absurd (omega (arith, was.1)) }

-- ---- times

-- the server was shown this of an object
pub record IsShown (past : AskedBefore) (n : ℕ) (status : Status) : Type 0 where
  pub was : Contains past (CallAt (actor_in server_credential n) (Lstat []), Shown status)

-- who asks counts as the owner; or sets both to the present, and wasn't refused to write
pub data MaySetBy (now : Time) (past : AskedBefore) (n : ℕ) (cred : Credential) (is_owner : Type 0) (atime mtime : Option ℕ) : Type 0 where
  owns_it : is_owner → MaySetBy now past n cred is_owner atime mtime
  writes_it : (reply : Reply) → atime ≡ Some (stamp_of now) → mtime ≡ Some (stamp_of now) → Contains past (CallAt (actor_in cred n) (Access [] (perms_of 2)), reply)
      → refusal_in reply ≡ None → MaySetBy now past n cred is_owner atime mtime

pub record Rightly (rights : Role) (past : AskedBefore) (n : ℕ) (atime mtime ctime : Option ℕ) : Type 0 where
  pub cred : Credential
  pub is_who_asks : rights.cred ≡ Some cred
  pub status : Status
  pub shown : IsShown past n status
  pub may : MaySetBy rights.now past n cred (IsTrue (counts_as_owner cred status.owner)) atime mtime
  pub is_changed : IsPresent rights.now ctime

pub shown-later : {old new : AskedBefore} {n : ℕ} {status : Status} → Extends old new → IsShown old n status → IsShown new n status
shown-later more shown = record { was = more.has _ _ shown.was }

pub sets-later : {now : Time} {old new : AskedBefore} {n : ℕ} {cred : Credential} {is_owner : Type 0} {atime mtime : Option ℕ} → Extends old new
    → MaySetBy now old n cred is_owner atime mtime → MaySetBy now new n cred is_owner atime mtime
sets-later more (owns_it is) = owns_it is
sets-later more (writes_it reply a m was granted) = writes_it reply a m (more.has _ _ was) granted

-- ---- what changes

-- the event may have changed something
pub record HasChanged (e : Event) (reply : Reply) : Type 0 where
  pub says : alterations_in e ≢ []
  pub granted : refusal_in reply ≡ None
  pub fits : IsReplyTo e reply

-- nothing has changed so far
pub record Clean (past : AskedBefore) : Type 0 where
  pub none : (e : Event) (reply : Reply) → Contains past (e, reply) → HasChanged e reply → ⊥

pub clean-nothing : Clean []
clean-nothing = record { none = λ e reply was changed. absurd (omega (arith, was.1)) }

pub clean-more : {past : AskedBefore} (f : Event) (other : Reply) → (HasChanged f other → ⊥) → Clean past → Clean ((f, other) ∷ past)
clean-more {past} f other unchanged clean = record { none = each }
  where
    each : (e : Event) (reply : Reply) → Contains ((f, other) ∷ past) (e, reply) → HasChanged e reply → ⊥
    each e reply (zero, lt, is) changed = unchanged (subst (λ (x : Event × Reply). HasChanged x.0 x.1) (sym is) changed)
    each e reply (suc k, lt, is) changed = clean.none e reply (k, omega (arith, lt), is) changed

pub refused-unchanged : (e : Event) (refusal : Refusal) → HasChanged e (Refused refusal) → ⊥
refused-unchanged e refusal changed = let no : Some refusal ≡ None = changed.granted in cc

-- ---- what may be asked

-- as who asks or by the server, on what the request is about; and it changes no more than the request says
pub record MayDo (rights : Role) (past : AskedBefore) (e : Event) : Type 0 where
  pub may : MayAsk (rights_in rights) past e
  pub told : MayBeAsked rights.subject.operation e

pub may-do : {rights : Role} {past : AskedBefore} {e : Event} → MayAsk (rights_in rights) past e → MayBeAsked rights.subject.operation e → MayDo rights past e
may-do may told = record { may = may; told = told }

abbrev pub ByRight : Role → AskedBefore → Event → Type 0
ByRight rights past (Stamp n atime mtime ctime) = IsTrue (sets_some atime mtime ctime) → Rightly rights past n atime mtime ctime
ByRight rights past _ = Unit {0}

pub right-later : (rights : Role) {old new : AskedBefore} → Extends old new → (e : Event) → ByRight rights old e → ByRight rights new e
right-later rights more (Stamp n atime mtime ctime) right = λ sets. (let was = right sets in
    record { cred = was.cred; is_who_asks = was.is_who_asks; status = was.status; shown = shown-later more was.shown; may = sets-later more was.may; is_changed = was.is_changed })
right-later rights more _ right = tt

abbrev pub doing : Role → Restraint AskedBefore
doing rights = record { after = λ past e reply. (e, reply) ∷ past; may_ask = λ past e. MayDo rights past e × ByRight rights past e }
