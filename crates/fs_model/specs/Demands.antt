-- What a call demands, and with what it is refused where a demand isn't met. Our own rule: the first demand that
-- fails, in the order in which they are written, refuses.
--     Demand        nothing, or the refusal
--     refuse, or_else, first_of        one demand, and several
--     denial, decided, allowed_by        denied by an access decision, or by a rule of ownership
--     permission_on, search_on        an access decision on what stands at a number
use Rattle.std.specs.Prelude.{ℕ, Bool, true, false, List, [], ◌∷◌, if◌then◌else◌, Option, None, Some, option_and_then, Ok, Err}
use Rattle.posix_acl.specs.declared.entry.Perms.{Perms}
use Rattle.fs_cred.specs.declared.errno.Errno.{Errno}
use Rattle.fs_cred.specs.declared.refusal.Need.{Need}
use Rattle.fs_cred.specs.declared.refusal.Need.TheVariants.{Search, Perm}
use Rattle.fs_cred.specs.declared.refusal.Refusal.{Refusal}
use Rattle.fs_cred.specs.declared.refusal.Refusal.TheVariants.{Denied, Failed}
use Rattle.fs_cred.specs.declared.node.Node.{Node as AccessNode}
use Rattle.fs_cred.specs.declared.rule.Rule.{Rule}
use Rattle.fs_cred.specs.declared.rule.Verdict.{Verdict}
use Rattle.fs_cred.specs.Refusals.{need_errno}
use Rattle.fs_cred.specs.Credentials.{Credential}
use Rattle.fs_cred.specs.Decisions.{is_file}
use Rattle.fs_cred.specs.Verdicts.{verdict}
use Rattle.fs_cred.specs.Ownership.{Answer}
use Rattle.fs_model.specs.Nodes.{accessed}
use Rattle.fs_model.specs.Trees.{Tree, node_at}

abbrev pub Demand : Type 0
Demand = Option Refusal

-- refused with the error where the test holds
abbrev pub refuse : Errno → Bool → Demand
refuse e b = if b then Some (Failed e) else None

-- the first of two refusals
abbrev pub or_else : Demand → Demand → Demand
or_else None d = d
or_else (Some r) d = Some r

-- the first refusal of a list
abbrev pub first_of : List Demand → Demand
first_of [] = None
first_of (d ∷ ds) = or_else d (first_of ds)

-- demands that are made only where the test holds
abbrev pub only_if : Bool → List Demand → List Demand
only_if b ds = if b then ds else []

-- a refusal with the error, where there is one
abbrev pub failed_with : Option Errno → Demand
failed_with None = None
failed_with (Some e) = Some (Failed e)

-- A denial names the path (1 or 2), the number of lookups before what refused, what was needed, and the rule.
abbrev pub denial : ℕ → ℕ → Need → Rule → Refusal
denial walk step need rule = Denied (record { errno = need_errno need; walk = walk; step = step; need = need; rule = rule })

-- an access decision grants it
abbrev pub decided : ℕ → ℕ → Need → Verdict → Demand
decided walk step need v = if v.yes then None else Some (denial walk step need v.rule)

-- a rule of ownership allows it
abbrev pub allowed_by : ℕ → ℕ → Need → Answer → Demand
allowed_by walk step need (Ok done) = None
allowed_by walk step need (Err rule) = Some (denial walk step need rule)

abbrev pub perms : Bool → Bool → Bool → Perms
perms r w x = record { read = r; write = w; execute = x }

abbrev pub search_only : Perms
search_only = perms false false true

-- write and search, which adding, removing and renaming a name takes
abbrev pub write_and_search : Perms
write_and_search = perms false true true

abbrev pub accessed_at : Tree → ℕ → Option AccessNode
accessed_at t n = option_and_then accessed (node_at t n)

-- permissions on what stands at a number; of a symbolic link nothing is asked
abbrev pub permission_of : Credential → Perms → ℕ → ℕ → Option AccessNode → Demand
permission_of cred want walk step None = None
permission_of cred want walk step (Some node) = decided walk step (Perm want) (verdict cred node want)

abbrev pub permission_on : Credential → Tree → ℕ → Perms → ℕ → ℕ → Demand
permission_on cred t n want walk step = permission_of cred want walk step (accessed_at t n)

-- search of a directory; of what is none it isn't asked
abbrev pub search_of : Credential → ℕ → ℕ → Option AccessNode → Demand
search_of cred walk step None = None
search_of cred walk step (Some node) = if is_file node.kind then None else decided walk step Search (verdict cred node search_only)

abbrev pub search_on : Credential → Tree → ℕ → ℕ → ℕ → Demand
search_on cred t n walk step = search_of cred walk step (accessed_at t n)
