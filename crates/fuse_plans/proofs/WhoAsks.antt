-- Where who asks was found not to count, the plan is the same whoever asks.
--     nobody-needed        where it is found that nobody counts, nobody is needed
--     who_asks_counts_only_where_needed
use Rattle.std.specs.Prelude.{◌≡◌, ℕ, Bool, true, false, List, Option, None, Some, Result, Ok, Err}
use Rattle.std.proofs.Common.{refl, ap}
use Rattle.posix_acl.specs.declared.entry.Perms.{Perms}
use Rattle.fs_cred.specs.Credentials.{Credential}
use Rattle.fs_model.specs.declared.event.Event.{Event}
use Rattle.fs_model.specs.declared.reply.Reply.{Reply}
use Rattle.fuse_protocol.specs.declared.operation.Operation.{Operation}
use Rattle.fuse_protocol.specs.declared.operation.Operation.TheVariants.{SetAttr, SymLink, MkNod, MkDir, Unlink, RmDir, Rename, Link, Open, SetXAttr, RemoveXAttr, OpenDir, Access, Create}
use Rattle.fuse_state.specs.Servers.{Server}
use Rattle.fuse_plans.specs.declared.request.WhoCounts.TheVariants.{Nobody, User, Process}
use Rattle.fuse_plans.specs.declared.request_error.RequestError.{RequestError}
use Rattle.fuse_plans.specs.Plans.{Finish, IsRunOf}
use Rattle.fuse_plans.specs.Requests.{Request, asked_of}
use Rattle.fuse_plans.specs.Nobody.{needs_nobody, asks_alone, is_granted, or_process, or_user, who_counts, who_counts_in}
use Rattle.fuse_plans.specs.Alterations.{says_change}
use Rattle.fuse_plans.specs.Serving.{plan_of, told_first, asked_for, answered}
use Rattle.fuse_plans.specs.Laws.{WhoAsksCountsOnlyWhereNeeded}
use Rattle.fuse_plans.proofs.PlanLaws.{run-parts, run-finished}

-- ---- nobody

pub record NobodyNeeded (node : ℕ) (operation : Operation) (s : Server) : Type 0 where
  pub events : List Event
  pub replies : List Reply
  pub runs : IsRunOf (needs_nobody node operation s) events replies true

never-nobody : (r : Result Bool RequestError) → Nobody ≡ or_process r → ⊥
never-nobody (Ok true) is = let no : Nobody ≡ User = is in cc
never-nobody (Ok false) is = let no : Nobody ≡ Process = is in cc
never-nobody (Err e) is = let no : Nobody ≡ Process = is in cc

pub nobody-needed : (node uid : ℕ) (operation : Operation) (s : Server) (es : List Event) (replies : List Reply) → IsRunOf (who_counts node uid operation s) es replies Nobody
    → NobodyNeeded node operation s
nobody-needed node uid operation s es replies runs =
    let parts = run-parts (needs_nobody node operation s) (λ nobody. or_user nobody (asks_alone operation) node uid s) es replies Nobody runs in
    choose parts.middle (asks_alone operation) parts.first_events parts.first_replies parts.first parts.later_events parts.later_replies parts.later
  where
    choose : (nobody : Bool) (asks : Option Perms) (first : List Event) (replied : List Reply) → IsRunOf (needs_nobody node operation s) first replied nobody
        → (after : List Event) (rest : List Reply) → IsRunOf (or_user nobody asks node uid s) after rest Nobody → NobodyNeeded node operation s
    choose true asks first replied found after rest ran = record { events = first; replies = replied; runs = found }
    choose false None first replied found after rest ran = absurd (let no : Nobody ≡ Process = run-finished Process Nobody after rest ran in cc)
    choose false (Some want) first replied found after rest ran =
        let granted = run-parts (is_granted node uid want s) (λ r. Finish (or_process r.0)) after rest Nobody ran in
        absurd (never-nobody granted.middle.0 (run-finished (or_process granted.middle.0) Nobody granted.later_events granted.later_replies granted.later))

-- ---- whoever asks

module _ (r : Request) (cred : Option Credential) (s : Server) where
  abbrev Alike : Operation → Type 0
  Alike operation = plan_of (asked_of (record r { cred = cred }) true) r.value operation ≡ plan_of (asked_of r true) r.value operation

  not-needed : {A : Type 0} (es : List Event) (replies : List Reply) → IsRunOf (Finish false) es replies true → A
  not-needed es replies runs = absurd (let no : true ≡ false = run-finished false true es replies runs in cc)

  alike : (operation : Operation) (es : List Event) (replies : List Reply) → IsRunOf (needs_nobody r.node operation s) es replies true → Alike operation
  alike (SetAttr changes) es replies runs = not-needed es replies runs
  alike (SymLink name target) es replies runs = not-needed es replies runs
  alike (MkNod name mode umask) es replies runs = not-needed es replies runs
  alike (MkDir name mode umask) es replies runs = not-needed es replies runs
  alike (Unlink name) es replies runs = not-needed es replies runs
  alike (RmDir name) es replies runs = not-needed es replies runs
  alike (Rename name new_directory new_name flags) es replies runs = not-needed es replies runs
  alike (Link old_node name) es replies runs = not-needed es replies runs
  alike (Open flags) es replies runs = not-needed es replies runs
  alike (SetXAttr name bytes) es replies runs = not-needed es replies runs
  alike (RemoveXAttr name) es replies runs = not-needed es replies runs
  alike OpenDir es replies runs = not-needed es replies runs
  alike (Access mask) es replies runs = not-needed es replies runs
  alike (Create name flags mode umask) es replies runs = not-needed es replies runs
  alike operation es replies runs = refl

  alike-asked : (o : Option Operation) (es : List Event) (replies : List Reply) → IsRunOf (who_counts_in r.node r.uid o s) es replies Nobody
      → asked_for (asked_of (record r { cred = cred }) true) r.value o ≡ asked_for (asked_of r true) r.value o
  alike-asked None es replies runs = refl
  alike-asked (Some operation) es replies runs =
      let needed = nobody-needed r.node r.uid operation s es replies runs in
      ap (told_first (says_change operation) r.now) (alike operation needed.events needed.replies needed.runs)

pub who_asks_counts_only_where_needed : WhoAsksCountsOnlyWhereNeeded
who_asks_counts_only_where_needed r s cred es replies runs = ap (λ task. answered r.memory task s) (alike-asked r cred s r.operation es replies runs)
