-- Rounds, one after another, come to the plans of their requests.
use Rattle.std.proofs.Common.{rules, ◌≡◌, ℕ, Result, Bool, true, false, List, [], ◌∷◌, ◌++◌, map, Ok, Err, refl, sym, ap, subst, ◌∙◌, if◌then◌else◌}
use Rattle.std.specs.List.{flat_map}
use Rattle.std.proofs.lemmas.Grind.{flat_map-append}
use Rattle.std.proofs.lemmas.List.Concat.{flat_map-cons}
use Rattle.fs_model.specs.declared.event.Event.{Event}
use Rattle.fs_model.specs.declared.reply.Reply.{Reply}
use Rattle.fuse_protocol.specs.declared.reply.Time.{Time}
use Rattle.fuse_protocol.specs.declared.request.Request.{Request as WireRequest}
use Rattle.fuse_protocol.specs.declared.request.RequestFault.{RequestFault}
use Rattle.fuse_protocol.specs.Requests.{request_of}
use Rattle.fuse_plans.specs.declared.reply.Response.{Response}
use Rattle.fuse_plans.specs.declared.reply.Response.TheVariants.{Silence, Says, Fails}
use Rattle.fuse_plans.specs.Requests.{Outside, Request}
use Rattle.fuse_plans.specs.Protocol.{no_more, one_more, response_bytes}
use Rattle.fuse_serving.specs.declared.caller.Caller.{Caller}
use Rattle.fuse_serving.specs.Exchanges.{Exchange, SeesTime, Passes, passes_none}
use Rattle.fuse_plans.specs.declared.request.WhoCounts.{WhoCounts}
use Rattle.fuse_plans.specs.declared.request.WhoCounts.TheVariants.{Nobody, User, Process}
use Rattle.fuse_serving.specs.Rounds.{asks_for, Round, Parties, IsRound, Rounds, no_round, one_round, AreServed, caller_in, learns, tells, exchanges, heard_in, taken_bytes, bytes_sent}
use Rattle.fuse_serving.proofs.Carried.{whole, carried_on, carried_none}
use Rattle.fuse_serving.proofs.Passing.{passes_joined}

-- of what was written, what was taken
abbrev answer_taken : ℕ → Response → Bool → List ℕ
answer_taken unique response taken = if taken then response_bytes unique response else []

abbrev written_of : List Exchange → List ℕ
written_of = flat_map bytes_sent

told_bytes : (unique : ℕ) (response : Response) (taken : Bool) → written_of (tells unique response taken) ≡ answer_taken unique response taken
told_bytes unique Silence true = refl
told_bytes unique Silence false = refl
told_bytes unique (Says body) true = search rules
told_bytes unique (Says body) false = search rules
told_bytes unique (Fails e) true = search rules
told_bytes unique (Fails e) false = search rules

asked_bytes : (now : Time) (spoken : WireRequest) (caller : Caller) (who : WhoCounts) → written_of (SeesTime now ∷ asks_for who spoken caller) ≡ []
asked_bytes now spoken caller Nobody = refl
asked_bytes now spoken caller User = refl
asked_bytes now spoken caller Process = refl

learnt_bytes : (who : WhoCounts) (spoken : Result WireRequest RequestFault) (outside : Outside) → written_of (learns who spoken outside) ≡ []
learnt_bytes who (Ok spoken) outside = asked_bytes outside.now spoken (caller_in outside) who
learnt_bytes who (Err e) outside = refl

round_bytes : (r : Round) → written_of (exchanges r) ≡ taken_bytes r
round_bytes r =
    flat_map-append bytes_sent (learns r.who (request_of r.bytes) r.outside) (tells r.request.unique r.response r.taken)
    ∙ ap (λ (s : List ℕ). s ++ written_of (tells r.request.unique r.response r.taken)) (learnt_bytes r.who (request_of r.bytes) r.outside)
    ∙ told_bytes r.request.unique r.response r.taken

module _ {M K : Type 0} (Serves : M → Event → Reply → M → Type 0) (Does : K → Exchange → K → Type 0) where
  abbrev requests_in : List Round → List Request
  requests_in = map (λ r. r.request)

  abbrev responses_in : List Round → List Response
  responses_in = map (λ r. r.response)

  pub are_served : (rounds : List Round) (old new : Parties M K) → Rounds Serves Does old rounds new → AreServed Serves Does old rounds new
  are_served [] old new (no_round _) =
      record { hears = no_more; performs = carried_none Serves old.server old.machine; passes = passes_none old.kernel; is_written = refl }
  are_served (round ∷ rounds) old new (one_round _ _ _ mid _ is rest) =
      let more : AreServed Serves Does mid rounds new = are_served rounds mid new rest in
      record {
        hears = one_more round.bytes round.outside round.request (map heard_in rounds) (requests_in rounds) is.hears more.hears;
        performs = carried_on Serves round.request (requests_in rounds) old.server mid.server new.server old.machine mid.machine new.machine round.response (responses_in rounds)
            (whole Serves round.request round.who round.response old.server mid.server old.machine mid.machine is.performs) more.performs;
        passes = subst (λ (xs : List Exchange). Passes Does old.kernel xs new.kernel) (sym (flat_map-cons exchanges round rounds))
            (passes_joined Does (exchanges round) (flat_map exchanges rounds) old.kernel mid.kernel new.kernel is.passes more.passes);
        is_written =
            ap written_of (flat_map-cons exchanges round rounds) ∙ flat_map-append bytes_sent (exchanges round) (flat_map exchanges rounds)
            ∙ ap (λ (s : List ℕ). s ++ written_of (flat_map exchanges rounds)) (round_bytes round)
            ∙ ap (λ (s : List ℕ). taken_bytes round ++ s) more.is_written ∙ sym (flat_map-cons taken_bytes round rounds);
      }

  pub one_round_more : (rounds : List Round) (round : Round) (old mid new : Parties M K) → Rounds Serves Does old rounds mid
      → IsRound Serves Does mid round new → Rounds Serves Does old (rounds ++ round ∷ []) new
  one_round_more [] round old mid new (no_round _) is = one_round round [] old new new is (no_round new)
  one_round_more (first ∷ rounds) round old mid new (one_round _ _ _ after _ before rest) is =
      one_round first (rounds ++ round ∷ []) old after new before (one_round_more rounds round after mid new rest is)
