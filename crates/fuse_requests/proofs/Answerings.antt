-- What was done for a request's plan is its answer.
--     answers        the work of the plan was done
--     told, told-answers, told-if        the work, once the time was told
--     refuses, is-silent        there is no work, or nothing is asked
--     with-name, with-two        the work with names that are copies
--     answering        by which it is found that what was done is the answer
use Rattle.std.specs.Prelude.{◌≡◌, ℕ, Bool, true, false, List, Result, Ok, Err}
use Rattle.std.proofs.Common.{refl, sym, subst, ◌∙◌}
use Rattle.fs_model.specs.declared.event.Event.{Event}
use Rattle.fs_model.specs.declared.reply.Reply.{Reply}
use Rattle.fuse_plans.specs.declared.reply.ReplyBody.{ReplyBody}
use Rattle.fuse_plans.specs.declared.reply.Response.{Response}
use Rattle.fuse_plans.specs.declared.reply.Response.TheVariants.{Silence, Fails}
use Rattle.fuse_state.specs.Servers.{Server, without_nodes}
use Rattle.fuse_sessions.specs.declared.session.Session.{Session}
use Rattle.fuse_plans.specs.declared.request_error.RequestError.{RequestError}
use Rattle.fuse_plans.specs.Plans.{Finish, CarriesOut, finishes}
use Rattle.fuse_protocol.specs.declared.reply.Time.{Time}
use Rattle.fuse_plans.specs.FilePlans.{when}
use Rattle.fuse_plans.specs.Times.{tell_time}
use Rattle.fuse_plans.specs.Works.{Work, give, fail, ◌>>=◌, ◌>>◌}
use Rattle.fuse_plans.specs.Serving.{Task, Replying, Silent, told_first, answered, response_of}
use Rattle.fuse_sessions.specs.Performing.{Did}
use Rattle.fuse_requests.specs.Performing.{Answered}
use Rattle.fuse_steps.proofs.Steps.{carries-followed_by}
use Rattle.fuse_sessions.proofs.Doings.{has-failed, then-ok}

told-when : (b : Bool) (now : Time) (w : Work ReplyBody) → told_first b now (Replying w) ≡ Replying (when b (tell_time now) >> w)
unfolding give ◌>>=◌
told-when true now w = refl
told-when false now w = refl

module _ {M : Type 0} {Serves : M → Event → Reply → M → Type 0} where
  did-answers : {w : Work ReplyBody} {old new : Session M} {r : Result ReplyBody RequestError} → Did Serves w old new r
      → Answered Serves (Replying w) old new (response_of r)
  did-answers {w} {old} {new} {r} did = record {
    performs = carries-followed_by (w old.server.server) (λ q. Finish (response_of q.0, q.1)) old.machine new.machine new.machine
        (r, new.server.server)
        (response_of r, new.server.server) did.performs (finishes (response_of r, new.server.server) new.machine);
  }

  same-plan : {plan other : Task} {old new : Session M} {response : Response} → plan ≡ other
      → Answered Serves other old new response → Answered Serves plan old new response
  same-plan {plan} {other} {old} {new} {response} is did =
      subst (λ (p : Task). Answered Serves p old new response) (sym is) did

  pub answers : {plan : Task} {w : Work ReplyBody} {old new : Session M} {done : Result ReplyBody RequestError}
      {response : Response}
      → plan ≡ Replying w → Did Serves w old new done → response ≡ response_of done → Answered Serves plan old new response
  answers {plan} {w} {old} {new} {done} {response} is did says =
      same-plan is (subst (λ (r : Response). Answered Serves (Replying w) old new r) (sym says) (did-answers did))

  pub told : {v : Work (Unit {0})} {w : Work ReplyBody} {old mid new : Session M} {done : Result ReplyBody RequestError}
      → Did Serves v old mid (Ok tt) → Did Serves w mid new done → Did Serves (v >> w) old new done
  told {v} {w} first rest = then-ok (λ _. w) first rest

  pub told-answers : {plan : Task} {v : Work (Unit {0})} {w : Work ReplyBody} {old mid new : Session M} {done : Result ReplyBody RequestError}
      {response : Response}
      → plan ≡ Replying (v >> w) → Did Serves v old mid (Ok tt) → Did Serves w mid new done → response ≡ response_of done
      → Answered Serves plan old new response
  told-answers is first rest says = answers is (told first rest) says

  pub told-if : {plan : Task} (b : Bool) (now : Time) {w : Work ReplyBody} {old mid new : Session M} {done : Result ReplyBody RequestError}
      {response : Response}
      → plan ≡ told_first b now (Replying w) → Did Serves (when b (tell_time now)) old mid (Ok tt) → Did Serves w mid new done
      → response ≡ response_of done → Answered Serves plan old new response
  told-if b now {w} is first rest says = answers (is ∙ told-when b now w) (told first rest) says

  pub refuses : {plan : Task} {s : Session M} (e : RequestError) → plan ≡ Replying (fail e) → Answered Serves plan s s (Fails e)
  refuses {plan} {s} e is = same-plan is (did-answers {r = Err e} (has-failed e s))

  -- nothing is asked, and nodes are forgotten
  forgets : {nodes : List ℕ} {old new : Session M} → new.machine ≡ old.machine → new.server.server ≡ without_nodes nodes old.server.server
      → Answered Serves (Silent nodes) old new Silence
  forgets {nodes} {old} {new} same left =
      let done : Response × Server = (Silence, without_nodes nodes old.server.server) in
      record {
        performs = subst (λ (m : M). CarriesOut {X = Response × Server} Serves (Finish done) old.machine m (Silence, new.server.server)) (sym same)
            (subst (λ (s : Server). CarriesOut {X = Response × Server} Serves (Finish done) old.machine old.machine (Silence, s)) (sym left)
            (finishes done old.machine));
      }

  pub is-silent : {plan : Task} {nodes : List ℕ} {old new : Session M} → plan ≡ Silent nodes → new.machine ≡ old.machine
      → new.server.server ≡ without_nodes nodes old.server.server → Answered Serves plan old new Silence
  is-silent is same left = same-plan is (forgets same left)

  pub with-name : {X : Type 0} (f : List ℕ → Work X) {given copied : List ℕ} {old new : Session M} {r : Result X RequestError} → copied ≡ given
      → Did Serves (f copied) old new r → Did Serves (f given) old new r
  with-name {X} f {given} {copied} {old} {new} {r} is did = subst (λ (n : List ℕ). Did Serves (f n) old new r) is did

  pub with-two : {X : Type 0} (f : List ℕ → List ℕ → Work X) {given copied second copied_second : List ℕ} {old new : Session M}
      {r : Result X RequestError}
      → copied ≡ given → copied_second ≡ second → Did Serves (f copied copied_second) old new r → Did Serves (f given second) old new r
  with-two {X} f {given} {copied} {second} {copied_second} {old} {new} {r} is and did =
      with-name (λ n. f given n) and (with-name (λ n. f n copied_second) is did)

  pub ruleset answering = (told-answers, answers, with-name, with-two)
