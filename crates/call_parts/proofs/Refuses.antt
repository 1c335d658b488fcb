-- Demands, of which one refuses.
--     Refuses        where it refuses, the whole does
--     refuses_first, refuses_next, refuses_some, refuses_others        the whole is a list
--     passed, passed_later, refused_by, broken        an answer is passed on as that of the whole
--     demand_met, answered_ok, tree_kept        what is known where nothing refuses, and after reads
use Rattle.std.specs.Prelude.{◌≡◌, List, ◌∷◌, ◌++◌, None, Some, IsErr, IsErrAnd, Result, Ok, Err}
use Rattle.std.proofs.Common.{ap, ◌∙◌, inl, inr}
use Rattle.sector_disk.specs.Disk.{DiskState}
use Rattle.fs_cred.specs.declared.refusal.Refusal.{Refusal}
use Rattle.fs_layout.specs.declared.geometry.Geometry.{Geometry}
use Rattle.fs_layout.specs.Bytes.{SectorMap}
use Rattle.sector_txn.specs.Sectors.{TxnState, IsUnchanged}
use Rattle.fs_model.specs.Demands.{Demand, or_else, first_of}
use Rattle.fs_model.specs.Trees.{Tree}
use Rattle.path_walk.specs.Answers.{refused_or, Interrupts, IsAnswered}
use Rattle.path_walk.specs.HeldTrees.{HoldsTree}
use Rattle.path_walk.proofs.Kept.{kept, answered_err}
use Rattle.call_parts.proofs.Calling.{first_of-append, refused_err, met_ok, answered_later}
use Rattle.call_parts.specs.Telling.{checked}

abbrev pub Refuses : Demand → Demand → Type 0
Refuses d whole = (e : Refusal) → d ≡ Some e → whole ≡ Some e

-- ---- the whole is a list

pub refuses_first : (d : Demand) (ds : List Demand) → Refuses d (first_of (d ∷ ds))
refuses_first d ds e is = ap (λ (o : Demand). or_else o (first_of ds)) is

pub refuses_next : {x : Demand} (d : Demand) (ds : List Demand) → d ≡ None → Refuses x (first_of ds) → Refuses x (first_of (d ∷ ds))
refuses_next d ds none h e is = ap (λ (o : Demand). or_else o (first_of ds)) none ∙ h e is

pub refuses_some : (ds es : List Demand) → Refuses (first_of ds) (first_of (ds ++ es))
refuses_some ds es e is = first_of-append ds es ∙ ap (λ (o : Demand). or_else o (first_of es)) is

pub refuses_others : {x : Demand} (ds es : List Demand) → first_of ds ≡ None → Refuses x (first_of es) → Refuses x (first_of (ds ++ es))
refuses_others ds es none h e is = first_of-append ds es ∙ ap (λ (o : Demand). or_else o (first_of es)) none ∙ h e is

-- ---- an answer is passed on

module _ {A : Type 0} {d whole : Demand} (old new : DiskState) (x : A) (r : Result A Refusal) (e : Refusal) (err : IsErr r × IsErrAnd r (λ z. z ≡ e)) where
  pub passed : Refuses d whole → {B : Type 0} (y : B) → IsAnswered old new (refused_or d (Ok y)) (Err e) → IsAnswered old new (refused_or whole (Ok x)) r
  passed refuses {B} y h = answered_err old new (refused_or whole (Ok x)) r e err.0 err.1 (elim h [
    | inl is ↦ inl (ap (λ (o : Demand). refused_or {A = A} o (Ok x)) (refuses e (refused_err d y e is)))
    | inr way ↦ inr way
  ])

  pub refused_by : Refuses d whole → checked d ≡ Err e → IsAnswered old new (refused_or whole (Ok x)) r
  refused_by refuses is = passed refuses {B = Unit {0}} tt (inl is)

-- since before a read
pub passed_later : {A B : Type 0} {d whole : Demand} {old mid : TxnState} (new : DiskState) (x : A) (r : Result A Refusal) (e : Refusal) → IsErr r × IsErrAnd r (λ z. z ≡ e)
    → IsUnchanged old mid → Refuses d whole → (y : B) → IsAnswered mid.disk new (refused_or d (Ok y)) (Err e) → IsAnswered old.disk new (refused_or whole (Ok x)) r
passed_later {A} {B} {d} {whole} {old} {mid} new x r e err same refuses y h =
    passed old.disk new x r e err refuses y (answered_later {right = refused_or {A = B} d (Ok y)} new same h)

-- memory is lacking, or a read fails
pub broken : {A : Type 0} (old new : DiskState) (right r : Result A Refusal) (e : Refusal) → IsErr r × IsErrAnd r (λ z. z ≡ e) → Interrupts old new e
    → IsAnswered old new right r
broken old new right r e err way = answered_err old new right r e err.0 err.1 (inr way)

-- ---- where nothing refuses

pub demand_met : (d : Demand) → checked d ≡ Ok tt → d ≡ None
demand_met d is = (met_ok {A = Unit {0}} d tt tt is).0

pub answered_ok : {A : Type 0} {whole : Demand} {x y : A} → whole ≡ None → x ≡ y → refused_or whole (Ok x) ≡ Ok y
answered_ok {A} {whole} {x} {y} none same = ap (λ (o : Demand). refused_or {A = A} o (Ok x)) none ∙ ap (λ (k : A). Ok k) same

pub tree_kept : {p : Geometry} {t : Tree} {old mid : TxnState} → IsUnchanged old mid → HoldsTree p old.sectors t → HoldsTree p mid.sectors t
tree_kept {p} {t} same h = kept (λ (m : SectorMap). HoldsTree p m t) same h
