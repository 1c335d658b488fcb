-- A round, from a read on.
use Rattle.std.proofs.Common.{◌≡◌, ℕ, Bool, true, false, List, ◌++◌, None, Result, Ok, Err, refl, sym, subst}
use Rattle.fs_model.specs.declared.event.Event.{Event}
use Rattle.fs_model.specs.declared.reply.Reply.{Reply}
use Rattle.fs_cred.specs.declared.errno.Errno.TheVariants.{EINVAL}
use Rattle.fs_cred.specs.Capabilities.{no_caps}
use Rattle.fuse_protocol.specs.declared.request.Request.{Request as WireRequest}
use Rattle.fuse_protocol.specs.declared.request.RequestFault.{RequestFault}
use Rattle.fuse_protocol.specs.declared.request.RequestFault.TheVariants.{Malformed}
use Rattle.fuse_protocol.specs.Requests.{request_of}
use Rattle.fuse_state.specs.Servers.{Server}
use Rattle.fuse_plans.specs.declared.reply.Response.TheVariants.{Fails}
use Rattle.fuse_plans.specs.declared.request.WhoCounts.TheVariants.{Nobody}
use Rattle.fuse_plans.specs.Plans.{finishes}
use Rattle.fuse_plans.specs.Protocol.{Hears, says, says_badly, request_from, malformed}
use Rattle.fuse_plans.specs.Requests.{Outside}
use Rattle.fuse_plans.specs.RequestErrors.{failed}
use Rattle.fuse_plans.specs.Works.{give, fail}
use Rattle.fuse_serving.specs.Exchanges.{Exchange, Reads, Passes, passes_more}
use Rattle.fuse_serving.specs.Rounds.{Parties, learns, tells, later_exchanges, not_whole}
use Rattle.fuse_serving.specs.Pieces.{SpokenServed, ReadServed, ReadComesTo, ComesTo}

-- nothing counts
abbrev pub any_outside : Outside
any_outside = record { groups = None; caps = no_caps; now = record { seconds = 0; nanoseconds = 0 }; memory = true }

module _ {M K : Type 0} (Serves : M → Event → Reply → M → Type 0) (Does : K → Exchange → K → Type 0) where
  abbrev pub at : M → Server → K → Parties M K
  at m s k = record { machine = m; server = s; kernel = k }

  pub from_read : (m : M) (s : Server) (k after : K) (bytes : List ℕ) (new : Parties M K) (goes_on : Bool) → s.ended ≡ false
      → Does k (Reads bytes) after → ReadComesTo Serves Does bytes (at m s after) new goes_on → ComesTo Serves Does (at m s k) new goes_on
  from_read m s k after bytes new true on does r = (
    r.round,
    record {
      goes_on = on;
      hears = subst (λ (b : List ℕ). Hears b r.round.outside r.round.request) (sym r.is_read) r.hears;
      passes = passes_more (Reads r.round.bytes) (later_exchanges r.round) k after new.kernel
          (subst (λ (b : List ℕ). Does k (Reads b) after) (sym r.is_read) does) r.passes;
      performs = r.performs;
    },
  )
  from_read m s k after bytes new false on does r = record {
    machine = r.machine;
    server = r.server;
    is_end = not_whole bytes r.not_whole (subst (λ (l : K). Does k (Reads bytes) l) (sym r.kernel) does);
  }

  pub read_spoken : (bytes : List ℕ) (spoken : WireRequest) (old new : Parties M K) → request_of bytes ≡ Ok spoken
      → SpokenServed Serves Does spoken old new → ReadServed Serves Does bytes old new
  read_spoken bytes spoken old new is s = record {
    round = record { bytes = bytes; outside = s.outside; request = request_from s.outside s.acl spoken; who = s.who; response = s.response; taken = s.taken };
    is_read = refl;
    hears = says spoken s.acl is s.has_value;
    passes = subst (λ (r : Result WireRequest RequestFault). Passes Does old.kernel (learns s.who r s.outside ++ tells spoken.unique s.response s.taken) new.kernel)
        (sym is) s.passes;
    performs = s.performs;
  }

  pub read_badly : (bytes : List ℕ) (unique : ℕ) (m : M) (s : Server) (k after : K) (taken : Bool) → request_of bytes ≡ Err (Malformed unique)
      → Passes Does k (tells unique (Fails (failed EINVAL)) taken) after → ReadServed Serves Does bytes (at m s k) (at m s after)
  unfolding give fail
  read_badly bytes unique m s k after taken is told = record {
    round = record { bytes = bytes; outside = any_outside; request = malformed any_outside unique; who = Nobody; response = Fails (failed EINVAL); taken = taken };
    is_read = refl;
    hears = says_badly unique is;
    passes = subst (λ (r : Result WireRequest RequestFault). Passes Does k (learns Nobody r any_outside ++ tells unique (Fails (failed EINVAL)) taken) after) (sym is) told;
    performs = record { kept = s; mid = m; found = record { mid = m; keeps = finishes (Ok tt, s) m; finds = finishes Nobody m }; of_user = tt; answers = finishes (Fails (failed EINVAL), s) m };
  }
