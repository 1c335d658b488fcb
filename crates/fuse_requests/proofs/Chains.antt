-- Work that is done, by steps of which one goes into another at once.
--     then-through, through-fails        a step, one that asks nothing of its result, and the rest
--     work-ok, work-fails        work that asks nothing, step by step
use Rattle.std.specs.Prelude.{◌≡◌, Result, Ok, Err, MatchResult}
use Rattle.std.proofs.Common.{refl, sym, ap, subst, ◌∙◌}
use Rattle.fs_model.specs.declared.event.Event.{Event}
use Rattle.fs_model.specs.declared.reply.Reply.{Reply}
use Rattle.fuse_plans.specs.declared.request_error.RequestError.{RequestError}
use Rattle.fuse_plans.specs.Works.{Work, give, fail, ◌>>=◌, of_result}
use Rattle.fuse_sessions.specs.declared.session.Session.{Session}
use Rattle.fuse_sessions.specs.Performing.{Did}
use Rattle.fuse_sessions.proofs.Doings.{of-result, then-err, then-ok, then-was}
use Rattle.fuse_steps.proofs.Steps.{PassedOn, either, passed-on}

pub work-ok : {X Y : Type 0} {w : Work X} (f : X → Work Y) (x : X) (r : Result Y RequestError)
    → w ≡ of_result (Ok x) → f x ≡ of_result r → (w >>= f) ≡ of_result r
unfolding give ◌>>=◌
work-ok {X} {Y} {w} f x r first rest = ap (λ (v : Work X). v >>= f) first ∙ rest

fails-on : {X Y : Type 0} (f : X → Work Y) (e : RequestError) → (of_result {X = X} (Err e) >>= f) ≡ of_result {X = Y} (Err e)
unfolding fail ◌>>=◌
fails-on f e = refl

pub work-fails : {X Y : Type 0} {w : Work X} (f : X → Work Y) (e : RequestError) (r : Result Y RequestError)
    → PassedOn r e → w ≡ of_result (Err e) → (w >>= f) ≡ of_result r
work-fails {X} {Y} {w} f e r is first =
    ap (λ (v : Work X). v >>= f) first ∙ fails-on f e ∙ ap (λ (q : Result Y RequestError). of_result q) (sym (passed-on r e is))

module _ {M : Type 0} {Serves : M → Event → Reply → M → Type 0} where
  pub then-through : {X Y Z : Type 0} {w : Work X} (f : X → Work Y) (h : Y → Work Z) {old mid new : Session M} {q : Result X RequestError} {y : Y}
      {r : Result Z RequestError}
      → Did Serves w old mid q → MatchResult q (λ x. f x ≡ of_result (Ok y)) (λ e. Ok y ≡ Err e) → Did Serves (h y) mid new r
      → Did Serves (w >>= (λ x. f x >>= h)) old new r
  then-through {X} {Y} {Z} {w} f h {old} {mid} {new} {q} {y} {r} first is rest =
      either q is (λ x was same. then-was (λ x. f x >>= h) first was (then-ok h (of-result same) rest))
      (λ e was same. absurd (no-error same))
    where
      no-error : {e : RequestError} → Ok y ≡ Err e → ⊥
      no-error same = cc

  pub through-fails : {X Y Z : Type 0} {w : Work X} (f : X → Work Y) (h : Y → Work Z) {old new : Session M} {q : Result X RequestError} {e : RequestError}
      {p : Result Y RequestError} {r : Result Z RequestError}
      → PassedOn r e → Did Serves w old new q → p ≡ Err e → MatchResult q (λ x. f x ≡ of_result p) (λ d. p ≡ Err d)
      → Did Serves (w >>= (λ x. f x >>= h)) old new r
  through-fails {X} {Y} {Z} {w} f h {old} {new} {q} {e} {p} {r} passed first failed is =
      subst (λ (o : Result Z RequestError). Did Serves (w >>= (λ x. f x >>= h)) old new o) (sym (passed-on r e passed))
      (either q is (λ x was same. then-was (λ x. f x >>= h) first was (then-err h (of-result (same ∙ ap of_result failed))))
      (λ d was same.
      let is_error : Err d ≡ Err e = ap (λ (o : Result Y RequestError). Err (error-of o)) (sym same ∙ failed) in
      then-err (λ x. f x >>= h) (subst (λ (o : Result X RequestError). Did Serves w old new o) (was ∙ is_error) first)))
    where
      error-of : Result Y RequestError → RequestError
      error-of (Ok y) = e
      error-of (Err z) = z
