-- What the paths of a call on names have led to.
--     WalksTo        both paths, for this caller
--     WalksToName        a path that ends in a name
use Rattle.std.specs.Prelude.{ℕ, Bool, false, List, Ok}
use Rattle.sector_txn.specs.Sectors.{TxnState}
use Rattle.fs_model.specs.declared.walk.Form.TheVariants.{Parent}
use Rattle.call_parts.specs.BothTables.{tables_of}
use Rattle.call_parts.specs.Callers.{who_of}
use Rattle.call_parts.specs.declared.reaching.Caller.{Caller}
use Rattle.call_parts.specs.declared.reaching.Walked.{Walked}
use Rattle.call_parts.specs.declared.reaching.WalkedBoth.{WalkedBoth}
use Rattle.call_parts.specs.Reaching.{HasWalked, HasWalkedBoth}

abbrev pub WalksTo : Caller → TxnState → WalkedBoth → Bool → List ℕ → List ℕ → Type 0
WalksTo c txn w links old new = HasWalkedBoth c.geometry txn (tables_of c) (who_of c.by) links old new w.process w.first w.second

abbrev pub WalksToName : Caller → TxnState → Walked → List ℕ → Type 0
WalksToName c txn w path = HasWalked c.geometry txn (tables_of c) (who_of c.by) (Ok tt) false Parent path w.process w.found
