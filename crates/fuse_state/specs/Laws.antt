-- Laws of what a server keeps.
--     NodesLeadBack, StaleNodesLeadNowhere, NewNodesLedNowhere, OtherNodesStay        nodes
--     NewServersKeepShares, OneMoreKeepsShares, OneFewerKeepsShares, FurtherUsersMayHold, RootMayHold        shares
use Rattle.std.specs.Prelude.{◌≡◌, ◌≢◌, ℕ, ◌<◌, ◌^◌, true, List, length, None, Some}
use Rattle.fuse_protocol.specs.declared.reply.Time.{Time}
use Rattle.fuse_state.specs.declared.settings.Settings.{Settings}
use Rattle.fuse_state.specs.declared.shares.Shares.{Shares}
use Rattle.fuse_state.specs.Shares.{count_of, may_hold, HasEach, KeepsShares, OneMore}
use Rattle.fuse_state.specs.Changes.{with_new_object}
use Rattle.fuse_state.specs.Servers.{Server, new_server, WithinShares, generation_of, node_of, number_of_node}

-- the node of an object leads to its number
abbrev pub NodesLeadBack : Type 0
NodesLeadBack = (s : Server) (n : ℕ) → n < 2 ^ 32 → number_of_node s (node_of s n) ≡ Some n

-- once a new object has the number, the node of the one before is stale
abbrev pub StaleNodesLeadNowhere : Type 0
StaleNodesLeadNowhere =
    (s : Server) (now : Time) (d n : ℕ) → n < 2 ^ 32 → generation_of s n < 2 ^ 32 → number_of_node (with_new_object now d n s) (node_of s n) ≡ None

-- the node of the new object led nowhere before
abbrev pub NewNodesLedNowhere : Type 0
NewNodesLedNowhere = (s : Server) (now : Time) (d n : ℕ) → n < 2 ^ 32 → number_of_node s (node_of (with_new_object now d n s) n) ≡ None

-- and each other number has the node that it had
abbrev pub OtherNodesStay : Type 0
OtherNodesStay = (s : Server) (now : Time) (d n m : ℕ) → m ≢ n → node_of (with_new_object now d n s) m ≡ node_of s m

-- ---- shares

-- a server that begins
abbrev pub NewServersKeepShares : Type 0
NewServersKeepShares = (settings : Settings) → WithinShares (new_server settings)

-- where one more is held by who may, and where one is held no more
abbrev pub OneMoreKeepsShares : Type 0
OneMoreKeepsShares =
    (shares : Shares) (uid : ℕ) (fewer more : List ℕ) → OneMore uid fewer more → KeepsShares shares fewer → may_hold shares fewer uid ≡ true → KeepsShares shares more

abbrev pub OneFewerKeepsShares : Type 0
OneFewerKeepsShares = (shares : Shares) (uid : ℕ) (fewer more : List ℕ) → OneMore uid fewer more → KeepsShares shares more → KeepsShares shares fewer

-- A further user may hold one, as long as not too many users do; and user 0 may, as long as it doesn't hold its own part.
abbrev pub FurtherUsersMayHold : Type 0
FurtherUsersMayHold =
    (shares : Shares) (holders : List ℕ) (uid : ℕ) → KeepsShares shares holders → 0 < uid → count_of holders uid ≡ 0 → (users : List ℕ)
    → HasEach users holders → length users < shares.firsts → may_hold shares holders uid ≡ true

abbrev pub RootMayHold : Type 0
RootMayHold = (shares : Shares) (holders : List ℕ) → count_of holders 0 < shares.of_root → may_hold shares holders 0 ≡ true
