-- What passes between a server and the kernel.
--     Exchange        a read, a write, or what is known beside them
--     Passes        several, one after another
--     read_of        by what a read returns
use Rattle.std.specs.Prelude.{ℕ, Bool, List, [], ◌∷◌, take, Option, None, Some}
use Rattle.fuse_protocol.specs.declared.reply.Time.{Time}
use Rattle.fuse_serving.specs.declared.caller.Caller.{Caller}

pub data Exchange : Type 0 where
  -- one read, which is one request
  Reads : List ℕ → Exchange
  -- no more requests come
  ReadsEnd : Exchange
  -- one write, which is one reply, and whether it was taken: not where nobody waits for it any more
  Writes : List ℕ → Bool → Exchange
  -- what is known of the process with this number, as which a user with a group asks
  Learns : ℕ → ℕ → ℕ → Caller → Exchange
  -- the present time
  SeesTime : Time → Exchange

pub data Passes {K : Type 0} (Does : K → Exchange → K → Type 0) : K → List Exchange → K → Type 0 where
  passes_none : (k : K) → Passes Does k [] k
  passes_more : (x : Exchange) (xs : List Exchange) (old mid new : K) → Does old x mid → Passes Does mid xs new → Passes Does old (x ∷ xs) new

-- with so many bytes at the front of the buffer
abbrev pub read_of : Option ℕ → List ℕ → Exchange
read_of None buffer = ReadsEnd
read_of (Some size) buffer = Reads (take size buffer)
