use Rattle.std.proofs.Common.{◌≡◌, ℕ, List, Ok}
use Rattle.fuse_protocol.specs.Requests.{request_of}
use Rattle.fuse_plans.specs.Protocol.{request_from}
use Rattle.fuse_serving.specs.Exchanges.{passes_more}
use Rattle.fuse_serving.specs.Rounds.{asks_for, tells}
use Rattle.fuse_serving.specs.Pieces.{ReadBreaks, known, scene}
use Rattle.fuse_serving.proofs.Carried.{answered_after, found_after}
use Rattle.fuse_serving.proofs.Passing.{passes_joined, of_user}
use Rattle.fuse_serving.proofs.Broken.{untimed, unanswered_spoken, passed_on}
use Rattle.fuse_serving.proofs.serving.serve_spoken.Goals as goal

pub returns-clause-served : goal.returns-clause-served
returns-clause-served g c =
    let a = c.answer-response.ensures in
    let user = of_user c.who_counts-who.result c.learn-caller.result c.args.spoken.now.uid c.args.spoken.now.gid c.learn-caller.ensures.known in
    let learnt = asks_for c.who_counts-who.result c.args.spoken.now c.learn-caller.result in
    let told = tells c.args.spoken.now.unique c.answer-response.result c.in_ok-_taken._taken in
    let request = request_from (known c.learn-caller.result c.in-Ok.now a.memory) a.acl c.args.spoken.now in
    let found = found_after g.P.Performer.Serves request c.who_counts-who.result c.keep_due.ensures c.who_counts-who.ensures.decided in
    record {
      outside = known c.learn-caller.result c.in-Ok.now a.memory;
      acl = a.acl;
      has_value = a.has_value;
      who = c.who_counts-who.result;
      response = c.answer-response.result;
      taken = c.in_ok-_taken._taken;
      performs = answered_after g.P.Performer.Serves request c.who_counts-who.result c.answer-response.result found c.who_counts-who.ensures.kept user
          (rw c.is_nobody.ensures at a.performs);
      passes = passes_more _ _ c.args.kernel.now c.now.new.self c.tell.new.kernel c.in-Ok.ensures
          (passes_joined g.K.Kernel.Does learnt told c.now.new.self c.learn-caller.new.kernel c.tell.new.kernel c.learn-caller.ensures.passes c.in_ok-_taken.ensures.told);
    }

pub returns-in-Err-clause-broken : goal.returns-in-Err-clause-broken
returns-in-Err-clause-broken g c = λ bytes spoke.
    let p = g.P.Performer in
    untimed p.Serves g.K.Kernel.Does bytes _ (p.machine c.args.performer.now) (p.server c.args.performer.now) c.args.kernel.now c.now.new.self tt

pub returns-in_err-_taken-clause-broken : goal.returns-in_err-_taken-clause-broken
returns-in_err-_taken-clause-broken g c =
    let p = g.P.Performer in
    let a = c.answer-response.ensures in
    let r = c.from_residual.ensures in
    let user = of_user c.who_counts-who.result c.learn-caller.result c.args.spoken.now.uid c.args.spoken.now.gid c.learn-caller.ensures.known in
    let old = scene p.machine p.server c.args.performer.now c.args.kernel.now in
    let new = scene p.machine p.server c.answer-response.new.performer c.tell.new.kernel in
    let fault = c.in_err-_taken.field-0.0 in
    let request = request_from (known c.learn-caller.result c.in-Ok.now a.memory) a.acl c.args.spoken.now in
    let found = found_after p.Serves request c.who_counts-who.result c.keep_due.ensures c.who_counts-who.ensures.decided in
    passed_on (λ f. (bytes : List ℕ) → request_of bytes ≡ Ok c.args.spoken.now → ReadBreaks p.Serves g.K.Kernel.Does bytes f old new)
    c.from_residual.result fault r.0 r.1
    (λ bytes spoke. unanswered_spoken p.Serves g.K.Kernel.Does bytes c.args.spoken.now (known c.learn-caller.result c.in-Ok.now a.memory) a.acl
    c.who_counts-who.result c.answer-response.result fault old new c.learn-caller.new.kernel spoke c.in_err-_taken.ensures.fault a.has_value
    (answered_after p.Serves request c.who_counts-who.result c.answer-response.result found c.who_counts-who.ensures.kept user
    (rw c.is_nobody.ensures at a.performs))
    (passes_more _ _ c.args.kernel.now c.now.new.self c.learn-caller.new.kernel c.in-Ok.ensures c.learn-caller.ensures.passes))
