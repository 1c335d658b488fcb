-- What requests say that they change.
--     Told, told-where_so, told-two, told-by        alterations that are told
--     said-so, others_change_nothing, changing        a request that says no change tells none
--     at_once_in, adding, writing        requests that change all by one call
--     unopened        what is opened and not made
use Rattle.std.specs.Prelude.{◌≡◌, ℕ, Bool, true, false, List, ◌++◌, Option, None, Some, IsFalse, if◌then◌else◌}
use Rattle.std.proofs.Common.{refl, sym, ap, subst, ◌∙◌}
use Rattle.fs_model.specs.declared.call.Call.TheVariants.{Open as OpenCall}
use Rattle.fs_model.specs.declared.call.Flags.{Flags}
use Rattle.fs_model.specs.declared.reply.Reply.{Reply}
use Rattle.fs_model.specs.declared.reply.Reply.TheVariants.{Opened as OpenedBy}
use Rattle.fuse_protocol.specs.declared.operation.Operation.{Operation}
use Rattle.fuse_protocol.specs.declared.operation.Operation.TheVariants.{SetAttr, SymLink, MkNod, MkDir, Unlink, RmDir, Rename, Link, Open, Write, SetXAttr, RemoveXAttr, Create}
use Rattle.fuse_plans.specs.Alterations.{Alteration, adds_name, writes_open, changes_at_once, resizes, where_so, says_change, says_change_in, IsToldIn, IsToldBy, AreTold}
use Rattle.fuse_plans.specs.Laws.{OthersChangeNothing, made_by}

-- ---- what is told

-- a request tells it
pub record Told (o : Option Operation) (alteration : Alteration) : Type 0 where
  pub is : IsToldIn o alteration

-- where it is so, that is told
pub told-where_so : (o : Option Operation) (b : Bool) (alteration : Alteration) → (b ≡ true → Told o alteration) → AreTold o (where_so b alteration)
told-where_so o true alteration told = ((told refl).is, tt)
told-where_so o false alteration told = tt

pub told-two : (o : Option Operation) (a b : Bool) (first second : Alteration) → (a ≡ true → Told o first) → (b ≡ true → Told o second)
    → AreTold o (where_so a first ++ where_so b second)
told-two o true b first second told other = ((told refl).is, told-where_so o b second other)
told-two o false b first second told other = told-where_so o b second other

-- what the operation of a request tells the request does
pub told-by : {o : Option Operation} {operation : Operation} {alteration : Alteration} → o ≡ Some operation → IsToldBy operation alteration → Told o alteration
told-by {alteration = alteration} asked told = record { is = subst (λ o. IsToldIn o alteration) (sym asked) told }

-- ---- requests that say no change

pub said-so : {A : Type 0} → true ≡ false → A
said-so is = absurd (cc)

says-nothing : (operation : Operation) (alteration : Alteration) → says_change operation ≡ false → IsToldIn (Some operation) alteration → ⊥
says-nothing (SetAttr changes) alteration none told = said-so none
says-nothing (SymLink name target) alteration none told = said-so none
says-nothing (MkNod name mode umask) alteration none told = said-so none
says-nothing (MkDir name mode umask) alteration none told = said-so none
says-nothing (Unlink name) alteration none told = said-so none
says-nothing (RmDir name) alteration none told = said-so none
says-nothing (Rename name new_directory new_name flags) alteration none told = said-so none
says-nothing (Link old_node name) alteration none told = said-so none
says-nothing (Write handle offset bytes) alteration none told = said-so none
says-nothing (SetXAttr name value) alteration none told = said-so none
says-nothing (RemoveXAttr name) alteration none told = said-so none
says-nothing (Create name flags mode umask) alteration none told = said-so none
says-nothing (Open flags) (resizes size) none told = said-so (sym told.0 ∙ none)
says-nothing (Open flags) _ none told = told
says-nothing _ alteration none told = told

pub others_change_nothing : OthersChangeNothing
others_change_nothing None alteration none told = told
others_change_nothing (Some operation) alteration none told = says-nothing operation alteration none told

-- what tells one says a change
pub changing : {o : Option Operation} {alteration : Alteration} {A : Type 0} → Told o alteration → IsFalse (says_change_in o) → A
changing {o} {alteration} told none = absurd (others_change_nothing o alteration none told.is)

-- ---- requests that change all by one call

abbrev pub at_once_in : Option Operation → Bool
at_once_in None = false
at_once_in (Some operation) = changes_at_once operation

no-adding : (o : Option Operation) (name : List ℕ) → IsToldIn o (adds_name name) → at_once_in o ≡ false
no-adding (Some (SymLink path target)) name told = refl
no-adding (Some (MkNod path mode umask)) name told = refl
no-adding (Some (MkDir path mode umask)) name told = refl
no-adding (Some (Create path flags mode umask)) name told = refl
no-adding (Some _) name told = absurd told
no-adding None name told = absurd told

-- one that makes something doesn't
pub adding : {o : Option Operation} {name : List ℕ} {A : Type 0} → Told o (adds_name name) → at_once_in o ≡ true → A
adding {o} {name} told once = said-so (sym once ∙ no-adding o name told.is)

no-writing : (o : Option Operation) (handle : ℕ) → IsToldIn o (writes_open handle) → at_once_in o ≡ false
no-writing (Some (Write open_handle offset bytes)) handle told = refl
no-writing (Some _) handle told = absurd told
no-writing None handle told = absurd told

-- nor does a WRITE
pub writing : {o : Option Operation} {handle : ℕ} {A : Type 0} → Told o (writes_open handle) → at_once_in o ≡ true → A
writing {o} {handle} told once = said-so (sym once ∙ no-writing o handle told.is)

-- what is opened and not made
pub unopened : (path : List ℕ) (flags : Flags) (mode : ℕ) (reply : Reply) → flags.create ≡ false → made_by (OpenCall path flags mode) reply ≡ None
unopened path flags mode (OpenedBy handle n) none = ap (λ b. if b then Some n else None) none
unopened path flags mode _ none = refl
