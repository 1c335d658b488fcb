-- Where a user alone counts, the server was shown that it is granted what is asked.
--     users_count_alone
use Rattle.std.specs.Prelude.{◌≡◌, ℕ, Bool, true, false, List, [], ◌∷◌, Option, None, Some, Result, Ok}
use Rattle.std.proofs.Common.{refl}
use Rattle.posix_acl.specs.declared.entry.Perms.{Perms}
use Rattle.posix_acl.specs.AccessList.{AccessList}
use Rattle.fs_model.specs.declared.call.AclType.TheVariants.{Access as AccessAcl}
use Rattle.fs_model.specs.declared.event.Event.{Event}
use Rattle.fs_model.specs.declared.reply.Reply.{Reply}
use Rattle.fs_model.specs.declared.reply.Reply.TheVariants.{Shown, Acl}
use Rattle.fs_model.specs.declared.reply.Status.{Status}
use Rattle.fuse_protocol.specs.declared.operation.Operation.{Operation}
use Rattle.fuse_state.specs.Servers.{Server, number_of_node}
use Rattle.fuse_plans.specs.declared.request_error.RequestError.{RequestError}
use Rattle.fuse_plans.specs.declared.request_error.RequestError.TheVariants.{Lacks}
use Rattle.fuse_plans.specs.declared.request_error.OtherErrno.TheVariants.{ESTALE}
use Rattle.fuse_plans.specs.declared.request.WhoCounts.{WhoCounts}
use Rattle.fuse_plans.specs.declared.request.WhoCounts.TheVariants.{Nobody, User, Process}
use Rattle.fuse_plans.specs.Plans.{followed_by, at_once, later}
use Rattle.fuse_plans.specs.Works.{Work, give, fail, kept, goes_on, ◌>>=◌, needed}
use Rattle.fuse_plans.specs.Callers.{the_number, look}
use Rattle.fuse_plans.specs.Masks.{list_of}
use Rattle.fuse_plans.specs.Requests.{Request}
use Rattle.fuse_plans.specs.Nobody.{needs_nobody, asks_alone, grants_user, is_granted_by, is_granted, or_process, or_user, who_counts_in}
use Rattle.fuse_plans.specs.Laws.{IsShownGranted, UsersCountAlone}
use Rattle.fuse_plans.proofs.EachRun.{EachRun, each-run, each-later, each-ends, looked, listed, stat, get_list}

module _ (r : Request) (s : Server) where
  -- what is shown where the user counts
  abbrev ShownFor : List Event → List Reply → WhoCounts → Type 0
  ShownFor es replies who = who ≡ User → IsShownGranted r s es replies

  abbrev ShownBy : List Event → List Reply → Result Bool RequestError × Server → Type 0
  ShownBy es replies q = ShownFor es replies (or_process q.0)

  no-user : {es : List Event} {replies : List Reply} → ShownFor es replies Process
  no-user is = absurd (let never : Process ≡ User = is in cc)

  more-shown : (e : Event) (reply : Reply) (es : List Event) (replies : List Reply) (who : WhoCounts) → ShownFor es replies who → ShownFor (e ∷ es) (reply ∷ replies) who
  more-shown e reply es replies who shown is =
      let found = shown is in
      record {
        operation = found.operation;
        is_operation = found.is_operation;
        want = found.want;
        asks = found.asks;
        number = found.number;
        of_node = found.of_node;
        status = found.status;
        after = found.after;
        shown = later e reply es replies found.shown;
        acl = found.acl;
        acl_after = found.acl_after;
        listed = later e reply es replies found.listed;
        grants = found.grants;
      }

  module _ (operation : Operation) (asked : r.operation ≡ Some operation) (want : Perms) (asks : asks_alone operation ≡ Some want) where
    both-shown : (n : ℕ) → number_of_node s r.node ≡ Some n → (status : Status) (acl : Option AccessList)
        → ShownBy (stat n ∷ get_list n AccessAcl ∷ []) (Shown status ∷ Acl acl ∷ []) (Ok (is_granted_by status.owner r.uid want acl), s)
    both-shown n of_node status None = no-user
    both-shown n of_node status (Some acl) = choose (grants_user status.owner r.uid acl want) refl
      where
        choose : (b : Bool) → grants_user status.owner r.uid acl want ≡ b
            → ShownBy (stat n ∷ get_list n AccessAcl ∷ []) (Shown status ∷ Acl (Some acl) ∷ []) (Ok b, s)
        choose false is = no-user
        choose true is = λ counts. record {
          operation = operation;
          is_operation = asked;
          want = want;
          asks = asks;
          number = n;
          of_node = of_node;
          status = status;
          after = get_list n AccessAcl ∷ [];
          shown = at_once (Acl (Some acl) ∷ []);
          acl = acl;
          acl_after = [];
          listed = later (stat n) (Shown status) (get_list n AccessAcl ∷ []) (Acl (Some acl) ∷ []) (at_once []);
          grants = is;
        }

    granted-shown : EachRun ShownBy (is_granted r.node r.uid want s)
    unfolding is_granted the_number kept give fail ◌>>=◌
    granted-shown = choose (number_of_node s r.node) refl
      where
        then_looks : ℕ → Work Bool
        then_looks n = look n >>= (λ status. list_of n AccessAcl >>= (λ acl. give (is_granted_by status.owner r.uid want acl)))

        choose : (o : Option ℕ) → number_of_node s r.node ≡ o → EachRun ShownBy (followed_by (needed (Lacks ESTALE) o s) (goes_on then_looks))
        choose None is = no-user
        choose (Some n) is =
            looked ShownBy n (λ status. list_of n AccessAcl >>= (λ acl. give (is_granted_by status.owner r.uid want acl))) s
            (λ status. listed (λ es replies q. ShownBy (stat n ∷ es) (Shown status ∷ replies) q) n AccessAcl (λ acl. give (is_granted_by status.owner r.uid want acl)) s
            (λ acl. both-shown n is status acl) (λ reply e. no-user))
            (λ reply e. no-user)

  user-shown : (operation : Operation) → r.operation ≡ Some operation → (nobody : Bool) (asks : Option Perms) → asks_alone operation ≡ asks
      → EachRun ShownFor (or_user nobody asks r.node r.uid s)
  user-shown operation asked true asks is = λ counts. absurd (let never : Nobody ≡ User = counts in cc)
  user-shown operation asked false None is = no-user
  user-shown operation asked false (Some want) is =
      each-ends ShownFor (is_granted r.node r.uid want s) (λ q. or_process q.0) (granted-shown operation asked want is)

  counted-shown : (o : Option Operation) → r.operation ≡ o → EachRun ShownFor (who_counts_in r.node r.uid o s)
  counted-shown None asked = λ counts. absurd (let never : Nobody ≡ User = counts in cc)
  counted-shown (Some operation) asked =
      each-later ShownFor (needs_nobody r.node operation s) (λ nobody. or_user nobody (asks_alone operation) r.node r.uid s) more-shown
      (λ nobody. user-shown operation asked nobody (asks_alone operation) refl)

pub users_count_alone : UsersCountAlone
users_count_alone r s es replies runs = each-run (ShownFor r s) (who_counts_in r.node r.uid r.operation s) es replies User (counted-shown r s r.operation refl) runs refl
