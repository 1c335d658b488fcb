-- Work that is done by a machine alone, step by step: a function that performs a piece of a plan is proved by a chain of these.
--     machine-ok, machine-fails        after the first step goes the rest, or nothing
--     machine-then        after the first goes one that asks nothing
--     machine-result, machine-gives, machine-has-failed        steps that ask nothing
--     machine-needs-some, machine-needs-none, machine-true, machine-false        steps that ask nothing, before the rest
--     machine-attempts        a step of which it is told whether it failed
--     either, PassedOn        a result, and what `?` makes of an error
use Rattle.std.specs.Prelude.{◌≡◌, Bool, true, false, ◌&&◌, Option, None, Some, unwrap_or, Result, Ok, Err, IsErr, IsErrAnd, MatchResult, if◌then◌else◌}
use Rattle.std.specs.Option.{ok_or}
use Rattle.std.proofs.Common.{refl, sym, ap, subst, ◌∙◌}
use Rattle.fs_model.specs.declared.event.Event.{Event}
use Rattle.fs_model.specs.declared.reply.Reply.{Reply}
use Rattle.fuse_state.specs.Servers.{Server}
use Rattle.fuse_plans.specs.declared.request_error.RequestError.{RequestError}
use Rattle.fuse_plans.specs.Plans.{Plan, Finish, followed_by, CarriesOut, finishes, asks}
use Rattle.fuse_plans.specs.Works.{Work, give, fail, goes_on, ◌>>=◌, attempt, of_result, needed, ask}
use Rattle.fuse_steps.specs.Performing.{DidByMachine}

-- one of the two, with what is known there
pub either : {X : Type 0} {A : X → Type 0} {B : RequestError → Type 0} {C : Type 0} (q : Result X RequestError) → MatchResult q A B
    → ((x : X) → q ≡ Ok x → A x → C) → ((e : RequestError) → q ≡ Err e → B e → C) → C
either (Ok x) is ok err = ok x refl is
either (Err e) is ok err = err e refl is

-- what `?` makes of an error
abbrev pub PassedOn : {Y : Type 0} → Result Y RequestError → RequestError → Type 0
PassedOn r e = IsErr r × IsErrAnd r (λ d. d ≡ e)

pub needed-is : {X : Type 0} (e : RequestError) (o : Option X) → needed e o ≡ of_result (ok_or o e)
needed-is e None = refl
needed-is e (Some x) = refl

pub passed-on : {Y : Type 0} (r : Result Y RequestError) (e : RequestError) → PassedOn r e → r ≡ Err e
passed-on (Ok y) e is = absurd is.1
passed-on (Err d) e is = ap (λ (z : RequestError). Err z) is.1

pub some-same : {X : Type 0} {x y : X} → Some x ≡ Some y → x ≡ y
some-same {X} {x} {y} is = ap (λ (o : Option X). unwrap_or o x) is

pub both-true : {a b : Bool} → a ≡ true → b ≡ true → (a && b) ≡ true
both-true {a} {b} is and = ap (λ (c : Bool). c && b) is ∙ and

pub first-false : {a : Bool} (b : Bool) → a ≡ false → (a && b) ≡ false
first-false {a} b is = ap (λ (c : Bool). c && b) is

pub second-false : {a b : Bool} → a ≡ true → b ≡ false → (a && b) ≡ false
second-false {a} {b} is and = ap (λ (c : Bool). c && b) is ∙ and

module _ {M : Type 0} {Serves : M → Event → Reply → M → Type 0} where
  -- ---- plans

  pub carries-followed_by : {X Y : Type 0} (p : Plan X) (f : X → Plan Y) (old mid new : M) (x : X) (y : Y)
      → CarriesOut Serves p old mid x → CarriesOut Serves (f x) mid new y → CarriesOut Serves (followed_by p f) old new y
  carries-followed_by p f old mid new x y (finishes _ _) rest = rest
  carries-followed_by p f old mid new x y (asks e next reply _ after _ _ serves first) rest =
      asks e (λ r. followed_by (next r) f) reply old after new y serves (carries-followed_by (next reply) f after mid new x y first rest)

  pub carries-result : {X : Type 0} (r : Result X RequestError) (s : Server) (m : M) → CarriesOut Serves (of_result r s) m m (r, s)
  unfolding give fail
  carries-result (Ok x) s m = finishes (Ok x, s) m
  carries-result (Err e) s m = finishes (Err e, s) m

  -- ---- by the machine alone

  pub machine-asks : (e : Event) {reply : Reply} {old new : M} → Serves old e reply new → DidByMachine Serves (ask e) old new (Ok reply)
  unfolding ask
  machine-asks e {reply} {old} {new} serves = record {
    performs = λ s. asks e (λ r. Finish (Ok r, s)) reply old new new (Ok reply, s) serves (finishes (Ok reply, s) new);
  }

  pub machine-ok : {X Y : Type 0} {w : Work X} (f : X → Work Y) {old mid new : M} {x : X} {r : Result Y RequestError}
      → DidByMachine Serves w old mid (Ok x) → DidByMachine Serves (f x) mid new r → DidByMachine Serves (w >>= f) old new r
  unfolding ◌>>=◌
  machine-ok {X} {Y} {w} f {old} {mid} {new} {x} {r} first rest = record {
    performs = λ s. carries-followed_by (w s) (goes_on f) old mid new (Ok x, s) (r, s) (first.performs s) (rest.performs s);
  }

  pub machine-err : {X Y : Type 0} {w : Work X} (f : X → Work Y) {old new : M} {e : RequestError}
      → DidByMachine Serves w old new (Err e) → DidByMachine Serves (w >>= f) old new (Err e)
  unfolding ◌>>=◌
  machine-err {X} {Y} {w} f {old} {new} {e} first = record {
    performs = λ s. carries-followed_by (w s) (goes_on f) old new new (Err e, s) (Err e, s) (first.performs s) (finishes (Err e, s) new);
  }

  -- what is passed on by `?`
  pub machine-fails : {X Y : Type 0} {w : Work X} (f : X → Work Y) {old new : M} {e : RequestError} {r : Result Y RequestError}
      → PassedOn r e → DidByMachine Serves w old new (Err e) → DidByMachine Serves (w >>= f) old new r
  machine-fails {X} {Y} {w} f {old} {new} {e} {r} is first =
      subst (λ (q : Result Y RequestError). DidByMachine Serves (w >>= f) old new q) (sym (passed-on r e is)) (machine-err f first)

  -- what is passed on by `?` as the last step
  pub machine-last-fails : {X : Type 0} {w : Work X} {old new : M} {e : RequestError} {r : Result X RequestError}
      → PassedOn r e → DidByMachine Serves w old new (Err e) → DidByMachine Serves w old new r
  machine-last-fails {X} {w} {old} {new} {e} {r} is first = subst (λ (q : Result X RequestError). DidByMachine Serves w old new q) (sym (passed-on r e is)) first

  pub machine-result : {X : Type 0} {w : Work X} {m : M} {r : Result X RequestError} → w ≡ of_result r → DidByMachine Serves w m m r
  machine-result {X} {w} {m} {r} is = record {
    performs = λ s. subst (λ (v : Work X). CarriesOut Serves (v s) m m (r, s)) (sym is) (carries-result r s m);
  }

  -- a step whose result is known afterwards
  pub machine-was : {X Y : Type 0} {w : Work X} (f : X → Work Y) {old mid new : M} {q : Result X RequestError} {x : X} {r : Result Y RequestError}
      → DidByMachine Serves w old mid q → q ≡ Ok x → DidByMachine Serves (f x) mid new r → DidByMachine Serves (w >>= f) old new r
  machine-was {X} {Y} {w} f {old} {mid} {new} {q} {x} {r} first is rest = machine-ok f (subst (λ (p : Result X RequestError). DidByMachine Serves w old mid p) is first) rest

  pub machine-was-err : {X Y : Type 0} {w : Work X} (f : X → Work Y) {old new : M} {q : Result X RequestError} {e : RequestError}
      → DidByMachine Serves w old new q → q ≡ Err e → DidByMachine Serves (w >>= f) old new (Err e)
  machine-was-err {X} {Y} {w} f {old} {new} {q} {e} first is = machine-err f (subst (λ (p : Result X RequestError). DidByMachine Serves w old new p) is first)

  -- a step, and what its result leads to
  pub machine-then : {X Y : Type 0} {w : Work X} (f : X → Work Y) {old new : M} {q : Result X RequestError} {r : Result Y RequestError}
      → DidByMachine Serves w old new q → MatchResult q (λ x. f x ≡ of_result r) (λ e. r ≡ Err e) → DidByMachine Serves (w >>= f) old new r
  machine-then {X} {Y} {w} f {old} {new} {q} {r} first is =
      either q is (λ x was same. machine-was f first was (machine-result same))
      (λ e was same. subst (λ (p : Result Y RequestError). DidByMachine Serves (w >>= f) old new p) (sym same) (machine-was-err f first was))

  pub machine-gives : {X : Type 0} (x : X) (m : M) → DidByMachine Serves (give x) m m (Ok x)
  machine-gives x m = machine-result {r = Ok x} refl

  pub machine-gives-as : {X : Type 0} {x y : X} {m : M} → y ≡ x → DidByMachine Serves (give x) m m (Ok y)
  machine-gives-as {X} {x} {y} {m} is = subst (λ (z : X). DidByMachine Serves (give z) m m (Ok y)) is (machine-gives y m)

  pub machine-has-failed : {X : Type 0} (e : RequestError) (m : M) → DidByMachine Serves (fail {X = X} e) m m (Err e)
  machine-has-failed {X} e m = machine-result {X = X} {r = Err e} refl

  pub machine-attempts : {X : Type 0} (w : Work X) {old new : M} {r : Result X RequestError} → DidByMachine Serves w old new r → DidByMachine Serves (attempt w) old new (Ok r)
  unfolding attempt
  machine-attempts {X} w {old} {new} {r} first = record {
    performs = λ s. carries-followed_by (w s) (λ done. Finish (Ok done.0, done.1)) old new new (r, s) (Ok r, s) (first.performs s) (finishes (Ok r, s) new);
  }

  -- equal work, said otherwise
  pub machine-same : {X : Type 0} {w v : Work X} {old new : M} {r : Result X RequestError} → w ≡ v → DidByMachine Serves v old new r → DidByMachine Serves w old new r
  machine-same {X} {w} {v} {old} {new} {r} is did = subst (λ (u : Work X). DidByMachine Serves u old new r) (sym is) did

  -- a value that must be there
  pub machine-needs-some : {X Y : Type 0} (e : RequestError) (f : X → Work Y) {o : Option X} {old new : M} {x : X} {r : Result Y RequestError}
      → o ≡ Some x → DidByMachine Serves (f x) old new r → DidByMachine Serves (needed e o >>= f) old new r
  machine-needs-some {X} {Y} e f {o} {old} {new} {x} {r} is rest =
      machine-same (ap (λ (p : Option X). needed e p >>= f) is) (machine-ok f (machine-gives x old) rest)

  pub machine-needs-none : {X Y : Type 0} (e : RequestError) (f : X → Work Y) {o : Option X} (m : M) → o ≡ None → DidByMachine Serves (needed e o >>= f) m m (Err e)
  machine-needs-none {X} {Y} e f {o} m is = machine-same (ap (λ (p : Option X). needed e p >>= f) is) (machine-err f (machine-has-failed e m))

  pub machine-needs-last : {X : Type 0} (e : RequestError) {o : Option X} {m : M} {x : X} → o ≡ Some x → DidByMachine Serves (needed e o) m m (Ok x)
  machine-needs-last {X} e {o} {m} {x} is = machine-same (ap (λ (p : Option X). needed e p) is) (machine-gives x m)

  pub machine-needed : {X : Type 0} (e : RequestError) (o : Option X) {m : M} {r : Result X RequestError} → r ≡ ok_or o e → DidByMachine Serves (needed e o) m m r
  machine-needed {X} e o {m} {r} is = machine-result (needed-is e o ∙ ap of_result (sym is))

  pub machine-lacks-last : {X : Type 0} (e : RequestError) {o : Option X} {m : M} → o ≡ None → DidByMachine Serves (needed e o) m m (Err e)
  machine-lacks-last {X} e {o} {m} is = machine-same (ap (λ (p : Option X). needed e p) is) (machine-has-failed e m)

  pub machine-true : {X : Type 0} {b : Bool} (w v : Work X) {old new : M} {r : Result X RequestError}
      → b ≡ true → DidByMachine Serves w old new r → DidByMachine Serves (if b then w else v) old new r
  machine-true {X} {b} w v is did = machine-same (ap (λ (c : Bool). if c then w else v) is) did

  pub machine-false : {X : Type 0} {b : Bool} (w v : Work X) {old new : M} {r : Result X RequestError}
      → b ≡ false → DidByMachine Serves v old new r → DidByMachine Serves (if b then w else v) old new r
  machine-false {X} {b} w v is did = machine-same (ap (λ (c : Bool). if c then w else v) is) did
