-- The exits of what finds what a path leads to for a caller.
--     unfit_path, refused_not_met, met_not_refused        its checks
--     from_starts, walk_by_is        its starts and its walk
use Rattle.call_parts.specs.BothTables.{Tables}
use Rattle.std.specs.Prelude.{◌≡◌, ℕ, ◌==◌, Bool, List, length, Option, None, Some, Result, Ok, Err, IsErr, IsErrAnd}
use Rattle.std.proofs.Common.{sym, ap, subst, ◌∙◌, inl, inr}
use Rattle.sector_disk.specs.Disk.{DiskState}
use Rattle.fs_cred.specs.declared.refusal.Refusal.{Refusal}
use Rattle.fs_model.specs.declared.walk.Form.{Form}
use Rattle.fs_model.specs.declared.walk.Found.{Found}
use Rattle.fs_model.specs.Demands.{Demand, or_else, first_of}
use Rattle.fs_model.specs.Processes.{Process}
use Rattle.fs_model.specs.States.{State}
use Rattle.fs_model.specs.Steps.{found_by, trail_in}
use Rattle.fs_model.specs.Walks.{first_refusal}
use Rattle.path_walk.specs.Answers.{refused_or, IsAnswered}
use Rattle.path_walk.specs.Walked.{walk_of}
use Rattle.path_walk.proofs.Kept.{is_err}
use Rattle.fs_model.specs.declared.event.Actor.{Actor}
use Rattle.fs_model.specs.declared.reply.FileType.{FileType}
use Rattle.path_walk.proofs.Asking.{empty_is}
use Rattle.fs_model.specs.Trees.{Tree}
use Rattle.fs_cred.specs.Credentials.{Credential}
use Rattle.fs_layout.specs.declared.geometry.Geometry.{Geometry}
use Rattle.fs_layout.specs.Bytes.{SectorMap}
use Rattle.sector_txn.specs.Sectors.{TxnState, IsUnchanged}
use Rattle.fs_model.specs.Stands.{room_of}
use Rattle.fs_model.specs.Trees.{Room}
use Rattle.path_walk.specs.HeldTrees.{IsThere}
use Rattle.call_parts.specs.Performing.{IsStateOf}
use Rattle.call_parts.proofs.Calling.{same_caller, answered_later}
use Rattle.call_parts.proofs.Starts.{first_start_there}
use Rattle.call_parts.specs.Callers.{Who, ByActor, IsJudgedAs, first_start, starts_asked, types_asked}
use Rattle.call_parts.specs.Types.{type_in}
use Rattle.call_parts.proofs.Starts.{types_are}
use Rattle.call_parts.specs.Paths.{walk_by}
use Rattle.call_parts.specs.Telling.{checked}
use Rattle.call_parts.proofs.Calling.{refused_err}
use Rattle.call_parts.proofs.Refuses.{demand_met}

pub unfit_path : {A : Type 0} (d : Demand) (r : Result A Refusal) (e : Refusal) → IsErr r → IsErrAnd r (λ y. y ≡ e) → checked d ≡ Err e → (x : Refusal) → d ≡ Some x → r ≡ Err x
unfit_path d r e err and is x other =
    let same : e ≡ x = (let both : Some e ≡ Some x = sym (refused_err {A = Unit {0}} d tt e is) ∙ other in cc) in
    is_err r e err and ∙ ap (λ (y : Refusal). Err y) same

pub refused_not_met : (d : Demand) (e : Refusal) → checked d ≡ Err e → d ≡ None → ⊥
refused_not_met d e is none = let both : Some e ≡ None = sym (refused_err {A = Unit {0}} d tt e is) ∙ none in cc

pub met_not_refused : (d : Demand) (x : Refusal) → checked d ≡ Ok tt → d ≡ Some x → ⊥
met_not_refused d x is some = let both : Some x ≡ None = sym some ∙ demand_met d is in cc

module _ (s : State) (who : Who) (q : Process) (links : Bool) (form : Form) (path : List ℕ) (old new : DiskState) where
  abbrev starts : Demand
  starts = first_of (starts_asked s.tree who links path)

  abbrev refusal : Demand
  refusal = first_refusal s.tree q.cred 1 form (trail_in s.room s.tree (first_start who q) (form, path))

  pub from_starts : (e : Refusal) → IsAnswered old new (checked starts) (Err e) → IsAnswered old new (walk_by s who q links form path) (Err e)
  from_starts e h = elim h [
    | inl is ↦ inl (ap (λ (d : Demand). refused_or {A = Found} (or_else d refusal) (Ok (found_by s.room s.tree (first_start who q) (form, path)))) (refused_err {A = Unit {0}} starts tt e is))
    | inr way ↦ inr way
  ]

  pub walk_by_is : checked starts ≡ Ok tt → walk_by s who q links form path ≡ walk_of s.room s.tree q.cred 1 form (first_start who q) path
  walk_by_is is = ap (λ (d : Demand). refused_or {A = Found} (or_else d refusal) (Ok (found_by s.room s.tree (first_start who q) (form, path)))) (demand_met starts is)

-- ---- the starts of a caller, asked of the disk

pub starts_by_types : {who : Who} {v : Actor} {path slice : List ℕ} {n m : ℕ} {empty : Bool} (links : Bool) (a b : Option FileType) (t : Tree) → who ≡ ByActor v → slice ≡ path
    → empty ≡ (length slice == 0) → n ≡ v.start → m ≡ v.second_start → a ≡ type_in t n → b ≡ type_in t m
    → checked (first_of (types_asked a b empty links)) ≡ checked (first_of (starts_asked t who links path))
starts_by_types {who} {v} {path} {slice} {n} {m} {empty} links a b t acts same none start second_start first second =
    ap checked
    (ap (λ (x : Option FileType). first_of (types_asked x b empty links)) (first ∙ ap (type_in t) start)
    ∙ ap (λ (x : Option FileType). first_of (types_asked (type_in t v.start) x empty links)) (second ∙ ap (type_in t) second_start)
    ∙ ap (λ (x : Bool). first_of (types_asked (type_in t v.start) (type_in t v.second_start) x links)) (none ∙ ap (λ (l : List ℕ). length l == 0) same ∙ sym (empty_is path))
    ∙ sym (types_are t v links path)
    ∙ ap (λ (x : Who). first_of (starts_asked t x links path)) (sym acts))

-- ---- a walk from the start of a caller, as whom it is judged

pub walked_from : {p : Geometry} {map : SectorMap} {tables : Tables} {s : State} → IsStateOf p map tables s → (old new : DiskState) (walk : ℕ) (form : Form) (path : List ℕ) (r : Result Found Refusal)
    {cred judged : Credential} {start here : ℕ} → cred ≡ judged → start ≡ here → IsThere s.tree here
    → (IsThere s.tree start → IsAnswered old new (walk_of (room_of p) s.tree cred walk form start path) r) → IsAnswered old new (walk_of s.room s.tree judged walk form here path) r
walked_from {p} {s = s} at old new walk form path r {cred} {judged} {start} {here} cred_is start_is there h =
    subst (λ (x : Result Found Refusal). IsAnswered old new x r)
    (ap (λ (k : Room). walk_of k s.tree cred walk form start path) (sym at.same_room)
    ∙ ap (λ (k : Credential). walk_of s.room s.tree k walk form start path) cred_is
    ∙ ap (λ (n : ℕ). walk_of s.room s.tree judged walk form n path) start_is) (h (subst (IsThere s.tree) (sym start_is) there))

module _ {p : Geometry} {old mid : TxnState} {tables : Tables} {s : State} (at : IsStateOf p old.sectors tables s) (who : Who) (q : Process) (links : Bool) (form : Form) (path : List ℕ)
    (stands : IsJudgedAs tables.processes who q) (started : checked (first_of (starts_asked s.tree who links path)) ≡ Ok tt) (same : IsUnchanged old mid)
    {cred : Credential} {start : ℕ} (cred_is : cred ≡ q.cred) (start_is : start ≡ first_start who q) where
  walk_is : (r : Result Found Refusal) (new : DiskState) → (IsThere s.tree start → IsAnswered mid.disk new (walk_of (room_of p) s.tree cred 1 form start path) r)
      → IsAnswered mid.disk new (walk_by s who q links form path) r
  walk_is r new h =
      subst (λ (x : Result Found Refusal). IsAnswered mid.disk new x r) (sym (walk_by_is s who q links form path mid.disk new started))
      (walked_from at mid.disk new 1 form path r cred_is start_is (first_start_there s q links path at.is_state at.up who (same_caller at who q stands) (demand_met _ started)) h)

  pub walk_not_by : (new : DiskState) (e : Refusal) → (IsThere s.tree start → IsAnswered mid.disk new (walk_of (room_of p) s.tree cred 1 form start path) (Err e))
      → IsAnswered old.disk new (walk_by s who q links form path) (Err e)
  walk_not_by new e h = answered_later {right = walk_by s who q links form path} new same (walk_is (Err e) new h)

  pub walk_found_by : (f : Found) → (IsThere s.tree start → walk_of (room_of p) s.tree cred 1 form start path ≡ Ok f) → walk_by s who q links form path ≡ Ok f
  walk_found_by f h = walk_is (Ok f) mid.disk h
