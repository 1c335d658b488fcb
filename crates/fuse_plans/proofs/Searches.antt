-- Requests that search a directory, whatever is replied.
--     needs, numbered, plain, in-directory, searched        pieces that ask nothing
--     plan_for        a request's plan by its operation
--     searches        a look-up: the judgement, and what follows it
--     refused-before, explained        why the server finds nothing, or is denied
use Rattle.std.specs.Prelude.{◌≡◌, ℕ, Bool, true, false, ◌||◌, not, ◌==◌, List, [], ◌∷◌, ◌++◌, codes, bytes_eq, Option, None, Some, Ok, Err, IsTrue, if◌then◌else◌}
use Rattle.std.proofs.Common.{refl, sym, subst}
use Rattle.posix_acl.specs.Entries.{perms_of}
use Rattle.fs_layout.proofs.FirstEntries.{left as and-first}
use Rattle.fs_cred.specs.declared.errno.Errno.{Errno}
use Rattle.fs_cred.specs.declared.errno.Errno.TheVariants.{EACCES, ENOENT, EINVAL}
use Rattle.fs_cred.specs.declared.refusal.Refusal.{Refusal}
use Rattle.fs_model.specs.declared.call.Call.TheVariants.{Lstat}
use Rattle.fs_model.specs.declared.event.Event.{Event}
use Rattle.fs_model.specs.declared.event.Event.TheVariants.{CallAt, Stamp}
use Rattle.fs_model.specs.declared.reply.Reply.{Reply}
use Rattle.fs_model.specs.declared.reply.Reply.TheVariants.{Refused}
use Rattle.fs_model.specs.declared.reply.Stamps.{Stamps}
use Rattle.fs_model.specs.declared.reply.Status.{Status}
use Rattle.fuse_protocol.specs.declared.operation.Operation.{Operation}
use Rattle.fuse_protocol.specs.declared.operation.Operation.TheVariants.{Lookup}
use Rattle.fuse_state.specs.Servers.{Server, number_of_node}
use Rattle.fuse_plans.specs.declared.reply.ReplyBody.{ReplyBody}
use Rattle.fuse_plans.specs.declared.reply.ReplyBody.TheVariants.{Absent}
use Rattle.fuse_plans.specs.declared.reply.Response.{Response}
use Rattle.fuse_plans.specs.declared.request_error.RequestError.{RequestError}
use Rattle.fuse_plans.specs.declared.request_error.RequestError.TheVariants.{Refuses, Lacks}
use Rattle.fuse_plans.specs.declared.request_error.OtherErrno.TheVariants.{ESTALE}
use Rattle.fuse_plans.specs.RequestErrors.{failed, is_for}
use Rattle.fuse_plans.specs.Plans.{Plan, followed_by, IsRunOf, IsAsked, at_once}
use Rattle.fuse_plans.specs.Works.{Work, give, fail, kept, ◌>>=◌, ask, attempt, needed, give_unless, refusal_in, status_of_reply, replied_status, stamps_of_reply, unexpected}
use Rattle.fuse_plans.specs.Callers.{server_credential, actor_in, the_number, inside, look_inside}
use Rattle.fuse_plans.specs.Times.{told_stamps_if, told_stamps}
use Rattle.fuse_plans.specs.NamePlans.{plain_name, directory_for, or_absent, searched_directory, looked_up_body, keeps_absent, found_or_absent, find_inside, find_name}
use Rattle.fuse_plans.specs.Requests.{Request, asked_of}
use Rattle.fuse_plans.specs.Nobody.{is_judged, or_user, who_counts_in, is_nobody}
use Rattle.fuse_plans.specs.Serving.{Replying, asked_for, answered}
use Rattle.fuse_plans.specs.Laws.{WasRefused}
use Rattle.fuse_plans.proofs.PlanLaws.{followed_by-followed_by}
use Rattle.fuse_plans.proofs.EachRun.{EachRun, each-followed_by, asked-before, Ends, refused-reply}

-- ---- pieces that ask nothing

pub needs : {X Y : Type 0} (Q : List Event → List Reply → Ends Y → Type 0) (e : RequestError) (o : Option X) (f : X → Work Y) (s : Server)
    → ((x : X) → o ≡ Some x → EachRun Q (f x s)) → Q [] [] (Err e, s) → EachRun Q ((needed e o >>= f) s)
unfolding give fail ◌>>=◌
needs Q e None f s rest fails = fails
needs Q e (Some x) f s rest fails = rest x refl

pub numbered : {Y : Type 0} (Q : List Event → List Reply → Ends Y → Type 0) (node : ℕ) (f : ℕ → Work Y) (s : Server)
    → ((n : ℕ) → number_of_node s node ≡ Some n → EachRun Q (f n s)) → Q [] [] (Err (Lacks ESTALE), s) → EachRun Q ((the_number node >>= f) s)
unfolding the_number kept ◌>>=◌
numbered Q node f s rest fails = needs Q (Lacks ESTALE) (number_of_node s node) f s rest fails

pub plain : {Y : Type 0} (Q : List Event → List Reply → Ends Y → Type 0) (name : List ℕ) (f : Unit {0} → Work Y) (s : Server)
    → EachRun Q (f tt s) → Q [] [] (Err (failed EINVAL), s) → EachRun Q ((plain_name name >>= f) s)
unfolding give fail ◌>>=◌
plain {Y} Q name f s rest fails = choose (bytes_eq name (codes ".") || bytes_eq name (codes ".."))
  where
    choose : (b : Bool) → EachRun Q (((if b then fail (failed EINVAL) else give {X = Unit {0}} tt) >>= f) s)
    choose true = fails
    choose false = rest

pub in-directory : {Y : Type 0} (Q : List Event → List Reply → Ends Y → Type 0) (node : ℕ) (name : List ℕ) (f : ℕ → Work Y) (s : Server)
    → ((d : ℕ) → number_of_node s node ≡ Some d → EachRun Q (f d s)) → ((e : RequestError) → Q [] [] (Err e, s)) → EachRun Q ((directory_for node name >>= f) s)
unfolding give fail ◌>>=◌
in-directory {Y} Q node name f s rest fails = choose (bytes_eq name (codes ".") || bytes_eq name (codes ".."))
  where
    choose : (b : Bool) → EachRun Q ((((if b then fail (failed EINVAL) else give {X = Unit {0}} tt) >>= (λ _. the_number node)) >>= f) s)
    choose true = fails (failed EINVAL)
    choose false = numbered Q node f s rest (fails (Lacks ESTALE))

searched : {Y : Type 0} (Q : List Event → List Reply → Ends Y → Type 0) (node : ℕ) (name : List ℕ) (f : ℕ → Work Y) (s : Server)
    → ((d : ℕ) → EachRun Q (f d s)) → Q [] [] (Err (failed EINVAL), s) → Q [] [] (Err (failed ENOENT), s) → EachRun Q ((searched_directory node name >>= f) s)
unfolding the_number kept give fail attempt ◌>>=◌
searched {Y} Q node name f s rest bad gone = choose (bytes_eq name (codes ".") || bytes_eq name (codes ".."))
  where
    known : (o : Option ℕ) → EachRun Q (((attempt (needed (Lacks ESTALE) o) >>= or_absent) >>= f) s)
    known None = gone
    known (Some d) = rest d

    choose : (b : Bool) → EachRun Q ((((if b then fail (failed EINVAL) else give {X = Unit {0}} tt) >>= (λ _. attempt (the_number node) >>= or_absent)) >>= f) s)
    choose true = bad
    choose false = known (number_of_node s node)

-- ---- look-ups

abbrev pub plan_for : Request → Option Operation → Server → Plan (Response × Server)
plan_for r operation s =
    followed_by (who_counts_in r.node r.uid operation s) (λ who. answered r.memory (asked_for (asked_of r (is_nobody who)) r.value operation) s)

-- once it is known whether the kernel has judged
abbrev pub search_then : Request → List ℕ → Server → Bool → Plan (Response × Server)
search_then r name s nobody =
    followed_by (or_user nobody (Some (perms_of 1)) r.node r.uid s) (λ who. answered r.memory (Replying (find_name (asked_of r (is_nobody who)) name)) s)

pub searches : (Q : List Event → List Reply → Response × Server → Type 0) (r : Request) (name : List ℕ) (s : Server)
    → EachRun (λ es replies nobody. EachRun (λ fs rest q. Q (es ++ fs) (replies ++ rest) q) (search_then r name s nobody)) (is_judged r.node s.settings.posix_acl s)
    → EachRun Q (plan_for r (Some (Lookup name)) s)
searches Q r name s each =
    subst (EachRun Q)
    (sym (followed_by-followed_by (is_judged r.node s.settings.posix_acl s) (λ nobody. or_user nobody (Some (perms_of 1)) r.node r.uid s)
    (λ who. answered r.memory (Replying (find_name (asked_of r (is_nobody who)) name)) s)))
    (each-followed_by Q (is_judged r.node s.settings.posix_acl s) (search_then r name s) each)

-- ---- what the server finds

pub refused-before : {X : Type 0} {errno : Errno} {fs : List Event} {rest : List Reply} (p : Plan X) (es : List Event) (replies : List Reply) (x : X) → IsRunOf p es replies x
    → WasRefused errno fs rest → WasRefused errno (es ++ fs) (replies ++ rest)
refused-before p es replies x runs was = record {
  event = was.event;
  is_by = was.is_by;
  refusal = was.refusal;
  after = was.after;
  asked = asked-before p es replies x runs was.asked;
  for_it = was.for_it;
}

abbrev pub is_absent : ReplyBody → Bool
is_absent (Absent valid) = true
is_absent _ = false

-- Where it finds nothing, or is denied, it was refused for that.
abbrev pub Explained : List Event → List Reply → Ends ReplyBody → Type 0
Explained es replies (Ok body, t) = is_absent body ≡ true → WasRefused ENOENT es replies
Explained es replies (Err e, t) = IsTrue (is_for EACCES e) → WasRefused EACCES es replies

module _ (d : ℕ) (name : List ℕ) (s : Server) where
  abbrev looks : Event
  looks = CallAt (actor_in server_credential d) (Lstat name)

  refused-by : (errno : Errno) (reply : Reply) (r : Refusal) → refusal_in reply ≡ Some r → IsTrue (is_for errno (Refuses r)) → WasRefused errno (looks ∷ []) (reply ∷ [])
  refused-by errno reply r is for = record {
    event = looks;
    is_by = refl;
    refusal = r;
    after = [];
    asked = subst (λ q. IsAsked looks (Refused r) [] (looks ∷ []) (q ∷ [])) (sym (refused-reply reply r is)) (at_once []);
    for_it = for;
  }

  explained-inside : EachRun Explained (find_inside true server_credential d name s)
  unfolding look_inside inside ask give fail kept attempt told_stamps ◌>>=◌
  explained-inside = λ reply. refused reply (refusal_in reply) refl
    where
      -- the name that was found is told with its times
      stamped : (reply : Reply) (status : Status) (stamped_so : Reply) (o : Option Stamps)
          → EachRun (λ es replies q. Explained (looks ∷ Stamp status.ino None None None ∷ es) (reply ∷ stamped_so ∷ replies) q)
          (((needed unexpected o >>= (λ stamps. give (Some stamps))) >>= (λ stamps. kept (looked_up_body true status stamps))) s)
      stamped reply status stamped_so None = λ is. absurd (cc)
      stamped reply status stamped_so (Some stamps) = λ is. absurd (cc)

      timed : (reply : Reply) (status : Status) (keeps : Bool)
          → EachRun (λ es replies q. Explained (looks ∷ es) (reply ∷ replies) q) ((told_stamps_if keeps status.ino >>= (λ stamps. kept (looked_up_body true status stamps))) s)
      timed reply status false = λ is. absurd (cc)
      timed reply status true = λ stamped_so. stamped reply status stamped_so (stamps_of_reply stamped_so)

      shown : (reply : Reply) (o : Option Status)
          → EachRun (λ es replies q. Explained (looks ∷ es) (reply ∷ replies) q) ((attempt (needed unexpected o) >>= found_or_absent true) s)
      shown reply None = λ is. absurd (cc)
      shown reply (Some status) = timed reply status s.settings.keeps_times

      absent : (reply : Reply) (r : Refusal) → refusal_in reply ≡ Some r → (b : Bool) → keeps_absent true s.settings (Refuses r) ≡ b
          → EachRun (λ es replies q. Explained (looks ∷ es) (reply ∷ replies) q) ((if b then give (Absent s.settings.keeping.absent) else fail (Refuses r)) s)
      absent reply r is true missing = λ of. refused-by ENOENT reply r is (and-first (is_for ENOENT (Refuses r)) (not (s.settings.keeping.absent == 0)) missing)
      absent reply r is false missing = refused-by EACCES reply r is

      refused : (reply : Reply) (o : Option Refusal) → refusal_in reply ≡ o
          → EachRun (λ es replies q. Explained (looks ∷ es) (reply ∷ replies) q)
          ((attempt (give_unless reply o >>= replied_status) >>= found_or_absent true) s)
      refused reply None is = shown reply (status_of_reply reply)
      refused reply (Some r) is = absent reply r is (keeps_absent true s.settings (Refuses r)) refl

pub explained : (r : Request) (name : List ℕ) (s : Server) → EachRun Explained (find_name (asked_of r true) name s)
unfolding give ◌>>=◌
explained r name s =
    searched Explained r.node name _ s (λ d. explained-inside d name s) (λ is. absurd (cc)) (λ is. absurd (cc))
