-- Work that is done, step by step: a function that performs a plan is proved by a chain of these, which follows the plan.
--     then-ok, then-fails        after the first step goes the rest, or nothing
--     then-matches        after the first goes one that asks nothing
--     if-fails        what failed, where more is promised of a value
--     of-result, gives, has-failed        steps that ask nothing and read nothing
--     reads, reads-needed, keeps, needs-some, needs-none, where-true, where-false        steps that ask nothing, before the rest
--     attempts        a step of which it is told whether it failed
--     by-machine        a step for which nothing that is kept is read
use Rattle.std.specs.Prelude.{◌≡◌, Bool, true, false, Option, None, Some, Result, Ok, Err, IfErr, MatchResult, if◌then◌else◌}
use Rattle.std.specs.Option.{ok_or}
use Rattle.std.proofs.Common.{refl, sym, ap, subst, ◌∙◌}
use Rattle.fs_model.specs.declared.event.Event.{Event}
use Rattle.fs_model.specs.declared.reply.Reply.{Reply}
use Rattle.fuse_state.specs.Servers.{Server}
use Rattle.fuse_sessions.specs.declared.session.Session.{Session}
use Rattle.fuse_plans.specs.declared.request_error.RequestError.{RequestError}
use Rattle.fuse_plans.specs.Plans.{Finish, CarriesOut, finishes}
use Rattle.fuse_plans.specs.Works.{Work, give, fail, kept, keep, goes_on, ◌>>=◌, ◌>>◌, attempt, of_result, needed}
use Rattle.fuse_plans.specs.FilePlans.{when, done}
use Rattle.fuse_sessions.specs.Performing.{Did}
use Rattle.fuse_steps.specs.Performing.{DidByMachine}
use Rattle.fuse_steps.proofs.Steps.{PassedOn, either, passed-on, needed-is, carries-followed_by, carries-result}

module _ {M : Type 0} {Serves : M → Event → Reply → M → Type 0} where
  -- ---- with what is kept

  pub then-ok : {X Y : Type 0} {w : Work X} (f : X → Work Y) {old mid new : Session M} {x : X} {r : Result Y RequestError}
      → Did Serves w old mid (Ok x) → Did Serves (f x) mid new r → Did Serves (w >>= f) old new r
  unfolding ◌>>=◌
  then-ok {X} {Y} {w} f {old} {mid} {new} {x} {r} first rest = record {
    performs = carries-followed_by (w old.server.server) (goes_on f) old.machine mid.machine new.machine (Ok x, mid.server.server) (r, new.server.server)
        first.performs rest.performs;
  }

  pub then-err : {X Y : Type 0} {w : Work X} (f : X → Work Y) {old new : Session M} {e : RequestError}
      → Did Serves w old new (Err e) → Did Serves (w >>= f) old new (Err e)
  unfolding ◌>>=◌
  then-err {X} {Y} {w} f {old} {new} {e} first = record {
    performs = carries-followed_by (w old.server.server) (goes_on f) old.machine new.machine new.machine (Err e, new.server.server) (Err e, new.server.server)
        first.performs (finishes (Err e, new.server.server) new.machine);
  }

  -- what is passed on by `?`
  pub then-fails : {X Y : Type 0} {w : Work X} (f : X → Work Y) {old new : Session M} {e : RequestError} {r : Result Y RequestError}
      → PassedOn r e → Did Serves w old new (Err e) → Did Serves (w >>= f) old new r
  then-fails {X} {Y} {w} f {old} {new} {e} {r} is first =
      subst (λ (q : Result Y RequestError). Did Serves (w >>= f) old new q) (sym (passed-on r e is)) (then-err f first)

  -- a step whose result is known afterwards
  pub then-was : {X Y : Type 0} {w : Work X} (f : X → Work Y) {old mid new : Session M} {q : Result X RequestError} {x : X} {r : Result Y RequestError}
      → Did Serves w old mid q → q ≡ Ok x → Did Serves (f x) mid new r → Did Serves (w >>= f) old new r
  then-was {X} {Y} {w} f {old} {mid} {new} {q} {x} {r} first is rest = then-ok f (subst (λ (p : Result X RequestError). Did Serves w old mid p) is first) rest

  pub was-fails : {X Y : Type 0} {w : Work X} (f : X → Work Y) {old new : Session M} {q : Result X RequestError} {e : RequestError} {r : Result Y RequestError}
      → PassedOn r e → Did Serves w old new q → q ≡ Err e → Did Serves (w >>= f) old new r
  was-fails {X} {Y} {w} f {old} {new} {q} {e} {r} is first same = then-fails f is (subst (λ (p : Result X RequestError). Did Serves w old new p) same first)

  -- what is passed on by `?` as the last step
  pub last-fails : {X : Type 0} {w : Work X} {old new : Session M} {e : RequestError} {r : Result X RequestError}
      → PassedOn r e → Did Serves w old new (Err e) → Did Serves w old new r
  last-fails {X} {w} {old} {new} {e} {r} is first = subst (λ (q : Result X RequestError). Did Serves w old new q) (sym (passed-on r e is)) first

  -- what is passed on by `?` where more is promised of a value
  pub if-fails : {X Y : Type 0} {w : Work X} {old new : Session M} {e : RequestError} (r : Result Y RequestError)
      → PassedOn r e → Did Serves w old new (Err e) → IfErr r (λ d. Did Serves w old new (Err d))
  if-fails {X} {Y} {w} {old} {new} {e} r is first =
      subst (λ (q : Result Y RequestError). IfErr q (λ d. Did Serves w old new (Err d))) (sym (passed-on r e is)) first

  pub of-result : {X : Type 0} {w : Work X} {s : Session M} {r : Result X RequestError} → w ≡ of_result r → Did Serves w s s r
  of-result {X} {w} {s} {r} is = record {
    performs = subst (λ (v : Work X). CarriesOut Serves (v s.server.server) s.machine s.machine (r, s.server.server)) (sym is)
        (carries-result r s.server.server s.machine);
  }

  -- a step whose result goes into one that asks nothing
  pub then-matches : {X Y : Type 0} {w : Work X} (f : X → Work Y) {old new : Session M} {q : Result X RequestError} {r : Result Y RequestError}
      → Did Serves w old new q → MatchResult q (λ x. f x ≡ of_result r) (λ e. r ≡ Err e) → Did Serves (w >>= f) old new r
  then-matches {X} {Y} {w} f {old} {new} {q} {r} first is =
      either q is (λ x was same. then-was f first was (of-result same))
      (λ e was same. subst (λ (p : Result Y RequestError). Did Serves (w >>= f) old new p) (sym same)
      (then-err f (subst (λ (p : Result X RequestError). Did Serves w old new p) was first)))

  pub by-machine : {X : Type 0} {w : Work X} {old new : Session M} {r : Result X RequestError}
      → DidByMachine Serves w old.machine new.machine r → new.server.server ≡ old.server.server → Did Serves w old new r
  by-machine {X} {w} {old} {new} {r} did same = record {
    performs = subst (λ (s : Server). CarriesOut Serves (w old.server.server) old.machine new.machine (r, s)) (sym same) (did.performs old.server.server);
  }

  -- a step of the machine, where the rest of the session is as it was
  pub on-machine : {X : Type 0} {w : Work X} {old : Session M} {m : M} {r : Result X RequestError}
      → DidByMachine Serves w old.machine m r → Did Serves w old (record old { machine = m }) r
  on-machine {X} {w} {old} {m} {r} did = record { performs = did.performs old.server.server }

  -- from a session that is the same, and to one
  pub starts-as : {X : Type 0} {w : Work X} {other old new : Session M} {r : Result X RequestError}
      → other.machine ≡ old.machine → other.server.server ≡ old.server.server → Did Serves w other new r → Did Serves w old new r
  starts-as {X} {w} {other} {old} {new} {r} same is did = record {
    performs = subst (λ (m : M). CarriesOut Serves (w old.server.server) m new.machine (r, new.server.server)) same
        (subst (λ (s : Server). CarriesOut Serves (w s) other.machine new.machine (r, new.server.server)) is did.performs);
  }

  pub ends-as : {X : Type 0} {w : Work X} {old new other : Session M} {r : Result X RequestError}
      → new.machine ≡ other.machine → new.server.server ≡ other.server.server → Did Serves w old new r → Did Serves w old other r
  ends-as {X} {w} {old} {new} {other} {r} same is did = record {
    performs = subst (λ (m : M). CarriesOut Serves (w old.server.server) old.machine m (r, other.server.server)) same
        (subst (λ (s : Server). CarriesOut Serves (w old.server.server) old.machine new.machine (r, s)) is did.performs);
  }

  pub attempts : {X : Type 0} (w : Work X) {old new : Session M} {r : Result X RequestError} → Did Serves w old new r → Did Serves (attempt w) old new (Ok r)
  unfolding attempt
  attempts {X} w {old} {new} {r} first = record {
    performs = carries-followed_by (w old.server.server) (λ done. Finish (Ok done.0, done.1)) old.machine new.machine new.machine (r, new.server.server)
        (Ok r, new.server.server) first.performs (finishes (Ok r, new.server.server) new.machine);
  }

  -- ---- steps that ask nothing

  pub gives : {X : Type 0} (x : X) (s : Session M) → Did Serves (give x) s s (Ok x)
  unfolding give
  gives x s = record { performs = finishes (Ok x, s.server.server) s.machine }

  pub gives-as : {X : Type 0} {x y : X} {s : Session M} → y ≡ x → Did Serves (give x) s s (Ok y)
  gives-as {X} {x} {y} {s} is = subst (λ (z : X). Did Serves (give z) s s (Ok y)) is (gives y s)

  pub has-failed : {X : Type 0} (e : RequestError) (s : Session M) → Did Serves (fail {X = X} e) s s (Err e)
  unfolding fail
  has-failed e s = record { performs = finishes (Err e, s.server.server) s.machine }

  -- a value that must be there, as the last step
  pub needed-last : {X : Type 0} (e : RequestError) (o : Option X) {s : Session M} {r : Result X RequestError} → r ≡ ok_or o e → Did Serves (needed e o) s s r
  needed-last e o is = of-result (needed-is e o ∙ ap of_result (sym is))

  -- what is read of what is kept
  pub reads : {X Y : Type 0} (h : Server → X) (f : X → Work Y) {old new : Session M} {x : X} {r : Result Y RequestError}
      → x ≡ h old.server.server → Did Serves (f x) old new r → Did Serves (kept h >>= f) old new r
  unfolding kept ◌>>=◌
  reads {X} {Y} h f {old} {new} {x} {r} is rest = record {
    performs = subst (λ (y : X). CarriesOut Serves (f y old.server.server) old.machine new.machine (r, new.server.server)) is rest.performs;
  }

  pub reads-last : {X : Type 0} (h : Server → X) (s : Session M) {x : X} → x ≡ h s.server.server → Did Serves (kept h) s s (Ok x)
  unfolding kept
  reads-last {X} h s {x} is = record {
    performs = subst (λ (y : X). CarriesOut Serves (kept h s.server.server) s.machine s.machine (Ok y, s.server.server)) (sym is)
        (finishes (Ok (h s.server.server), s.server.server) s.machine);
  }

  pub reads-needed : {X : Type 0} (e : RequestError) (h : Server → Option X) (s : Session M) {r : Result X RequestError}
      → r ≡ ok_or (h s.server.server) e → Did Serves (kept h >>= needed e) s s r
  reads-needed {X} e h s {r} is = reads h (needed e) refl (of-result (needed-is e (h s.server.server) ∙ ap of_result (sym is)))

  -- what is kept changes
  pub keeps : {Y : Type 0} (h : Server → Server) (w : Work Y) {old mid new : Session M} {r : Result Y RequestError}
      → mid.machine ≡ old.machine → mid.server.server ≡ h old.server.server → Did Serves w mid new r → Did Serves (keep h >> w) old new r
  unfolding keep ◌>>=◌
  keeps {Y} h w {old} {mid} {new} {r} same is rest = record {
    performs = subst (λ (m : M). CarriesOut Serves (w (h old.server.server)) m new.machine (r, new.server.server)) same
        (subst (λ (s : Server). CarriesOut Serves (w s) mid.machine new.machine (r, new.server.server)) is rest.performs);
  }

  -- a change before a further one: what room there is meanwhile doesn't count
  pub keeps-on : {Y : Type 0} (h : Server → Server) (w : Work Y) {old new : Session M} {s : Server} {r : Result Y RequestError}
      → s ≡ h old.server.server → Did Serves w (record old { server = record { server = s; room = 0 } }) new r → Did Serves (keep h >> w) old new r
  keeps-on {Y} h w {old} {new} {s} {r} is rest = keeps h w {mid = record old { server = record { server = s; room = 0 } }} refl is rest

  pub keeps-last : (h : Server → Server) {old new : Session M}
      → new.machine ≡ old.machine → new.server.server ≡ h old.server.server → Did Serves (keep h) old new (Ok tt)
  unfolding keep
  keeps-last h {old} {new} same is = record {
    performs = subst (λ (m : M). CarriesOut Serves (keep h old.server.server) old.machine m (Ok tt, new.server.server)) (sym same)
        (subst (λ (s : Server). CarriesOut Serves (keep h old.server.server) old.machine old.machine (Ok tt, s)) (sym is)
        (finishes (Ok tt, h old.server.server) old.machine));
  }

  -- equal work, said otherwise
  pub same-work : {X : Type 0} {w v : Work X} {old new : Session M} {r : Result X RequestError} → w ≡ v → Did Serves v old new r → Did Serves w old new r
  same-work {X} {w} {v} {old} {new} {r} is did = subst (λ (u : Work X). Did Serves u old new r) (sym is) did

  -- a value that must be there
  pub needs-some : {X Y : Type 0} (e : RequestError) (f : X → Work Y) {o : Option X} {old new : Session M} {x : X} {r : Result Y RequestError}
      → o ≡ Some x → Did Serves (f x) old new r → Did Serves (needed e o >>= f) old new r
  needs-some {X} {Y} e f {o} {old} {new} {x} {r} is rest =
      same-work (ap (λ (p : Option X). needed e p >>= f) is) (then-ok f (gives x old) rest)

  pub needs-none : {X Y : Type 0} (e : RequestError) (f : X → Work Y) {o : Option X} (s : Session M) → o ≡ None → Did Serves (needed e o >>= f) s s (Err e)
  needs-none {X} {Y} e f {o} s is = same-work (ap (λ (p : Option X). needed e p >>= f) is) (then-err f (has-failed e s))

  pub needs-last : {X : Type 0} (e : RequestError) {o : Option X} {s : Session M} {x : X} → o ≡ Some x → Did Serves (needed e o) s s (Ok x)
  needs-last {X} e {o} {s} {x} is = same-work (ap (λ (p : Option X). needed e p) is) (gives x s)

  pub needs-was : {X : Type 0} (e : RequestError) (o : Option X) {s : Session M} {r : Result X RequestError} → r ≡ ok_or o e → Did Serves (needed e o) s s r
  needs-was {X} e o {s} {r} is = of-result (needed-is e o ∙ ap of_result (sym is))

  pub lacks-last : {X : Type 0} (e : RequestError) {o : Option X} {s : Session M} → o ≡ None → Did Serves (needed e o) s s (Err e)
  lacks-last {X} e {o} {s} is = same-work (ap (λ (p : Option X). needed e p) is) (has-failed e s)

  -- ---- choices

  pub when-true : {b : Bool} (w : Work (Unit {0})) {old new : Session M} {r : Result (Unit {0}) RequestError} → b ≡ true → Did Serves w old new r → Did Serves (when b w) old new r
  when-true {b} w is did = same-work (ap (λ (c : Bool). when c w) is) did

  pub when-false : {b : Bool} (w : Work (Unit {0})) {s : Session M} → b ≡ false → Did Serves (when b w) s s (Ok tt)
  when-false {b} w {s} is = same-work (ap (λ (c : Bool). when c w) is) (gives tt s)

  -- the work alone, for what its result is not needed
  pub done-ok : {X : Type 0} {w : Work X} {old new : Session M} {x : X} → Did Serves w old new (Ok x) → Did Serves (done w) old new (Ok tt)
  done-ok {X} {w} {old} {new} {x} did = then-ok (λ _. give tt) did (gives tt new)

  pub where-true : {X : Type 0} {b : Bool} (w v : Work X) {old new : Session M} {r : Result X RequestError}
      → b ≡ true → Did Serves w old new r → Did Serves (if b then w else v) old new r
  where-true {X} {b} w v is did = same-work (ap (λ (c : Bool). if c then w else v) is) did

  pub where-false : {X : Type 0} {b : Bool} (w v : Work X) {old new : Session M} {r : Result X RequestError}
      → b ≡ false → Did Serves v old new r → Did Serves (if b then w else v) old new r
  where-false {X} {b} w v is did = same-work (ap (λ (c : Bool). if c then w else v) is) did
