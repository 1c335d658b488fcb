-- Something holds of each end of a plan.
--     AllEnd, all-weaker, all-followed_by
--     all-run        also of that of a run
use Rattle.std.specs.Prelude.{List, [], ◌∷◌}
use Rattle.std.proofs.Common.{sym, subst}
use Rattle.fs_model.specs.declared.event.Event.{Event}
use Rattle.fs_model.specs.declared.reply.Reply.{Reply}
use Rattle.fuse_plans.specs.Plans.{Plan, Finish, Ask, followed_by, IsRunOf}

-- whatever is replied, this holds of the end
abbrev pub AllEnd : {X : Type 0} → (X → Type 0) → Plan X → Type 0
AllEnd P (Finish x) = P x
AllEnd P (Ask e next) = (reply : Reply) → AllEnd P (next reply)

pub all-weaker : {X : Type 0} (P Q : X → Type 0) (p : Plan X) → AllEnd P p → ((x : X) → P x → Q x) → AllEnd Q p
all-weaker P Q (Finish x) ends weaker = weaker x ends
all-weaker P Q (Ask e next) ends weaker = λ reply. all-weaker P Q (next reply) (ends reply) weaker

pub all-followed_by : {X Y : Type 0} (P : X → Type 0) (Q : Y → Type 0) (p : Plan X) (f : X → Plan Y) → AllEnd P p → ((x : X) → P x → AllEnd Q (f x)) → AllEnd Q (followed_by p f)
all-followed_by P Q (Finish x) f ends rest = rest x ends
all-followed_by P Q (Ask e next) f ends rest = λ reply. all-followed_by P Q (next reply) f (ends reply) rest

-- also of that of a run
pub all-run : {X : Type 0} (P : X → Type 0) (p : Plan X) (es : List Event) (replies : List Reply) (x : X) → AllEnd P p → IsRunOf p es replies x → P x
all-run P (Finish y) [] [] x ends runs = subst P (sym runs) ends
all-run P (Ask e next) (f ∷ es) (reply ∷ replies) x ends runs = all-run P (next reply) es replies x (ends reply) runs.1
all-run P p es replies x ends runs = elim runs [ ]
