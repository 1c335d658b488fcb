-- A round that breaks off, from its read on, and the requests until there.
use Rattle.std.proofs.Common.{◌≡◌, ℕ, true, false, List, [], ◌∷◌, ◌++◌, map, Option, Result, Ok, Err, IsErr, IsErrAnd, IfErr, sym, subst}
use Rattle.posix_acl.specs.AccessList.{AccessList}
use Rattle.fs_model.specs.declared.event.Event.{Event}
use Rattle.fs_model.specs.declared.reply.Reply.{Reply}
use Rattle.fs_cred.specs.declared.errno.Errno.TheVariants.{EINVAL}
use Rattle.fuse_protocol.specs.declared.request.Request.{Request as WireRequest}
use Rattle.fuse_protocol.specs.declared.request.RequestFault.{RequestFault}
use Rattle.fuse_protocol.specs.declared.request.RequestFault.TheVariants.{Malformed}
use Rattle.fuse_protocol.specs.Requests.{request_of}
use Rattle.fuse_state.specs.Servers.{Server}
use Rattle.fuse_plans.specs.declared.reply.Response.{Response}
use Rattle.fuse_plans.specs.declared.reply.Response.TheVariants.{Fails}
use Rattle.fuse_plans.specs.declared.request.WhoCounts.{WhoCounts}
use Rattle.fuse_plans.specs.declared.request.WhoCounts.TheVariants.{Nobody}
use Rattle.fuse_plans.specs.Plans.{finishes}
use Rattle.fuse_plans.specs.Protocol.{HasValue, Hears, says, says_badly, no_more, one_more, request_from, malformed}
use Rattle.fuse_plans.specs.Requests.{Outside}
use Rattle.fuse_plans.specs.RequestErrors.{failed}
use Rattle.fuse_plans.specs.Works.{give, fail}
use Rattle.fuse_serving.specs.declared.fault.ServeFault.{ServeFault}
use Rattle.fuse_serving.specs.Exchanges.{Exchange, Reads, Passes, passes_none, passes_more}
use Rattle.fuse_serving.specs.Rounds.{Round, Parties, IsAnsweredSo, Rounds, no_round, one_round, IsDecided, ArePerformed, Breaks, IsOfRead, IsOfClock, IsOfReply, no_request, no_time, no_reply, heard_in, learns}
use Rattle.fuse_serving.specs.Pieces.{ReadBreaks}
use Rattle.fuse_serving.proofs.Carried.{whole, carried_on, carried_none}
use Rattle.fuse_serving.proofs.ReadRounds.{any_outside}

-- what `?` makes of a fault
pub passed_on : {T : Type 0} (P : ServeFault → Type 0) (result : Result T ServeFault) (fault : ServeFault) → IsErr result
    → IsErrAnd result (λ e. e ≡ fault) → P fault → IfErr result P
passed_on P (Ok x) fault err is holds = tt
passed_on P (Err e) fault err is holds = subst P (sym is) holds

module _ {M K : Type 0} (Serves : M → Event → Reply → M → Type 0) (Does : K → Exchange → K → Type 0) where
  abbrev at : M → Server → K → Parties M K
  at m s k = record { machine = m; server = s; kernel = k }

  none_performed : (m : M) (s : Server) (before after : K) → ArePerformed Serves (at m s before) [] (at m s after)
  none_performed m s before after = record { hears = no_more; performs = carried_none Serves s m }

  one_performed : (round : Round) (old new : Parties M K) → Hears round.bytes round.outside round.request
      → IsAnsweredSo Serves round.request round.who round.response old.server new.server old.machine new.machine
      → ArePerformed Serves old (round ∷ []) new
  one_performed round old new hears performs = record {
    hears = one_more round.bytes round.outside round.request [] [] hears no_more;
    performs = carried_on Serves round.request [] old.server new.server new.server old.machine new.machine new.machine round.response []
        (whole Serves round.request round.who round.response old.server new.server old.machine new.machine performs) (carried_none Serves new.server new.machine);
  }

  -- after the rounds, more requests
  pub all_performed : (rounds more : List Round) (old mid new : Parties M K) → Rounds Serves Does old rounds mid → ArePerformed Serves mid more new
      → ArePerformed Serves old (rounds ++ more) new
  all_performed [] more old mid new (no_round _) performed = performed
  all_performed (round ∷ rounds) more old mid new (one_round _ _ _ next _ is rest) performed =
      let all : ArePerformed Serves next (rounds ++ more) new = all_performed rounds more next mid new rest performed in
      record {
        hears = one_more round.bytes round.outside round.request (map heard_in (rounds ++ more)) (map (λ r. r.request) (rounds ++ more)) is.hears all.hears;
        performs = carried_on Serves round.request (map (λ r. r.request) (rounds ++ more)) old.server next.server new.server old.machine next.machine new.machine
            round.response (map (λ r. r.response) (rounds ++ more))
            (whole Serves round.request round.who round.response old.server next.server old.machine next.machine is.performs) all.performs;
      }

  -- no request can be read
  pub unread : (fault : ServeFault) (m : M) (s : Server) (before after : K) → s.ended ≡ false → IsOfRead fault
      → Breaks Serves Does fault (at m s before) (at m s after)
  unread fault m s before after on is = record { goes_on = on; untold = []; is_break = no_request is; found = tt; performed = none_performed m s before after }

  -- what the kernel does doesn't count for it
  found_from : (m : M) (s : Server) (before after : K) (untold : List Round) → IsDecided Serves (at m s before) untold → IsDecided Serves (at m s after) untold
  found_from m s before after [] found = tt
  found_from m s before after (round ∷ rounds) found = found

  pub broken_from_read : (fault : ServeFault) (m : M) (s : Server) (k after : K) (bytes : List ℕ) (new : Parties M K) → s.ended ≡ false
      → Does k (Reads bytes) after → ReadBreaks Serves Does bytes fault (at m s after) new → Breaks Serves Does fault (at m s k) new
  broken_from_read fault m s k after bytes new on does r = record {
    goes_on = on;
    untold = r.untold;
    is_break = r.is_break k does;
    found = found_from m s after k r.untold r.found;
    performed = record { hears = r.performed.hears; performs = r.performed.performs };
  }

  pub untimed : (bytes : List ℕ) (fault : ServeFault) (m : M) (s : Server) (before after : K) → IsOfClock fault
      → ReadBreaks Serves Does bytes fault (at m s before) (at m s after)
  untimed bytes fault m s before after is = record {
    untold = [];
    is_break = λ k does. no_time bytes before is does;
    found = tt;
    performed = none_performed m s before after;
  }

  unanswered : (round : Round) (fault : ServeFault) (old new : Parties M K) (reached : K) → IsOfReply fault → Hears round.bytes round.outside round.request
      → IsAnsweredSo Serves round.request round.who round.response old.server new.server old.machine new.machine
      → Passes Does old.kernel (learns round.who (request_of round.bytes) round.outside) reached → ReadBreaks Serves Does round.bytes fault old new
  unanswered round fault old new reached is hears performs passes = record {
    untold = round ∷ [];
    is_break = λ k does. no_reply round reached is (passes_more (Reads round.bytes) (learns round.who (request_of round.bytes) round.outside) k old.kernel reached does passes);
    found = (performs.kept, performs.mid, performs.found);
    performed = one_performed round old new hears performs;
  }

  pub unanswered_spoken : (bytes : List ℕ) (spoken : WireRequest) (outside : Outside) (acl : Option (Option AccessList)) (who : WhoCounts) (response : Response)
      (fault : ServeFault) (old new : Parties M K) (reached : K) → request_of bytes ≡ Ok spoken → IsOfReply fault
      → (outside.memory ≡ true → HasValue spoken.operation acl)
      → IsAnsweredSo Serves (request_from outside acl spoken) who response old.server new.server old.machine new.machine
      → Passes Does old.kernel (learns who (Ok spoken) outside) reached → ReadBreaks Serves Does bytes fault old new
  unanswered_spoken bytes spoken outside acl who response fault old new reached spoke is has performs passes =
      unanswered (record { bytes = bytes; outside = outside; request = request_from outside acl spoken; who = who; response = response; taken = false })
      fault old new reached is (says spoken acl spoke has) performs
      (subst (λ (r : Result WireRequest RequestFault). Passes Does old.kernel (learns who r outside) reached) (sym spoke) passes)

  pub unanswered_badly : (bytes : List ℕ) (unique : ℕ) (fault : ServeFault) (m : M) (s : Server) (before after : K)
      → request_of bytes ≡ Err (Malformed unique) → IsOfReply fault → ReadBreaks Serves Does bytes fault (at m s before) (at m s after)
  unfolding give fail
  unanswered_badly bytes unique fault m s before after spoke is =
      unanswered (record { bytes = bytes; outside = any_outside; request = malformed any_outside unique; who = Nobody; response = Fails (failed EINVAL); taken = false })
      fault (at m s before) (at m s after) before is (says_badly unique spoke)
      (record { kept = s; mid = m; found = record { mid = m; keeps = finishes (Ok tt, s) m; finds = finishes Nobody m }; of_user = tt; answers = finishes (Fails (failed EINVAL), s) m })
      (subst (λ (r : Result WireRequest RequestFault). Passes Does before (learns Nobody r any_outside) before) (sym spoke) (passes_none before))
