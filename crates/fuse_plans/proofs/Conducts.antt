-- How pieces of plans behave, and those that are made of them. What is remembered are the events so far with their replies.
--     counted_in, Nodes, Counts        what was made, and what is known of the generations of nodes
--     Quiet, a-look, a-step        an event that makes nothing
--     Fits, begins        of a server as it is then
--     DoesTo, Does, LastsTo, Lasts        what a piece keeps to, and the last one
--     does-give, does-keep, then->>=, with->>=, does->>=, does-attempt, lasts->>=, ..        the pieces
--     fits-kept, fits-next, fits-quiet, fits-made, left-changed        after a change of what the server keeps, and after one event
use Rattle.std.specs.Prelude.{◌≡◌, ℕ, Bool, true, false, List, [], ◌∷◌, Option, None, Some, Result, Ok, Err, IsTrue, IsFalse, if◌then◌else◌}
use Rattle.std.proofs.Common.{refl, sym, ap, subst, ◌∙◌}
use Rattle.fs_model.specs.declared.event.Event.{Event}
use Rattle.fs_model.specs.declared.reply.Reply.{Reply}
use Rattle.fuse_protocol.specs.declared.reply.Time.{Time}
use Rattle.fuse_state.specs.declared.times.Times.{Times}
use Rattle.fuse_state.specs.Servers.{Server, WithinShares}
use Rattle.fuse_state.proofs.Holders.{Holding, holding_of, same_within}
use Rattle.fuse_plans.specs.Plans.{Finish, KeepsTo}
use Rattle.fuse_plans.specs.declared.request_error.RequestError.{RequestError}
use Rattle.fuse_plans.specs.Works.{Work, give, fail, kept, keep, ◌>>=◌, attempt, of_result, needed}
use Rattle.fuse_plans.specs.FilePlans.{when}
use Rattle.fuse_plans.specs.Acts.{AskedBefore}
use Rattle.fuse_plans.specs.KeepingDue.{clock_of}
use Rattle.fuse_plans.specs.Alterations.{adds_name, alterations_in, says_change_in}
use Rattle.fuse_plans.specs.Laws.{made_by_event, counted_once}
use Rattle.fuse_plans.proofs.PlanLaws.{Whatever, keeps-followed_by, keeps-weaker, keeps->>=}
use Rattle.fuse_plans.proofs.Said.{Told, changing, at_once_in, adding}
use Rattle.fuse_plans.proofs.Roles.{Role, Extends, extends-itself, extends-more, extends-both, extends-nothing, HasChanged, Clean, clean-more, doing}

-- ---- what is known of what the server keeps

-- the generations that follow from what was asked
abbrev pub counted_in : AskedBefore → List (ℕ × ℕ) → List (ℕ × ℕ)
counted_in [] generations = generations
counted_in (x ∷ past) generations = counted_once (made_by_event x.0 x.1) (counted_in past generations)

-- an event makes nothing
abbrev pub Unmade : Event → Type 0
Unmade e = (reply : Reply) → made_by_event e reply ≡ None

-- and where the request changes all by one call, it changes nothing
pub record Quiet (rights : Role) (e : Event) : Type 0 where
  pub unmade : Unmade e
  pub spares : at_once_in rights.subject.operation ≡ true → alterations_in e ≡ []

pub a-look : {rights : Role} {e : Event} → Unmade e → alterations_in e ≡ [] → Quiet rights e
a-look unmade none = record { unmade = unmade; spares = λ once. none }

pub a-step : {rights : Role} {e : Event} → Unmade e → (at_once_in rights.subject.operation ≡ true → alterations_in e ≡ []) → Quiet rights e
a-step unmade steps = record { unmade = unmade; spares = steps }

-- nothing has changed so far, where the request changes all by one call
abbrev pub CleanIf : Role → AskedBefore → Type 0
CleanIf rights past = at_once_in rights.subject.operation ≡ true → Clean past

pub data Nodes : Type 0 where
  -- nothing was made, and each node leads where it did when the request began
  still : Nodes
  -- what was made is counted
  counted : Nodes

abbrev pub Counts : Role → Nodes → AskedBefore → Server → Type 0
Counts rights still past s =
    (s.generations ≡ rights.subject.start.generations) × (counted_in past rights.subject.start.generations ≡ rights.subject.start.generations)
Counts rights counted past s = s.generations ≡ counted_in past rights.subject.start.generations

counts-later : (rights : Role) (k : Nodes) (past : AskedBefore) (s : Server) (e : Event) (reply : Reply) → made_by_event e reply ≡ None → Counts rights k past s
    → Counts rights k ((e, reply) ∷ past) s
counts-later rights still past s e reply none counts = (counts.0, ap (λ o. counted_once o (counted_in past rights.subject.start.generations)) none ∙ counts.1)
counts-later rights counted past s e reply none counts = counts ∙ sym (ap (λ o. counted_once o (counted_in past rights.subject.start.generations)) none)

counts-keep : (rights : Role) (k : Nodes) (past : AskedBefore) (s t : Server) → t.generations ≡ s.generations → Counts rights k past s → Counts rights k past t
counts-keep rights still past s t same counts = (same ∙ counts.0, counts.1)
counts-keep rights counted past s t same counts = same ∙ counts

counts-end : (rights : Role) (k : Nodes) (past : AskedBefore) (s : Server) → Counts rights k past s → s.generations ≡ counted_in past rights.subject.start.generations
counts-end rights still past s counts = counts.0 ∙ sym counts.1
counts-end rights counted past s counts = counts

-- what is held of open directories, and from when on is counted for what is due
abbrev pub kept_of : Server → Holding × (Time × ℕ)
kept_of s = (holding_of s, clock_of s)

-- by which it is known what times objects have
abbrev pub times_kept : Server → List (ℕ × Times) × Time
times_kept s = (s.times, s.settings.start)

-- that stays
abbrev pub SameHeld : (Server → Server) → Type 0
SameHeld f = (s : Server) → kept_of (f s) ≡ kept_of s

-- and so do generations
abbrev pub SameAll : (Server → Server) → Type 0
SameAll f = (s : Server) → (kept_of (f s) ≡ kept_of s) × ((f s).generations ≡ s.generations)

-- the times stay, where the request says no change
abbrev pub SameTimes : Role → (Server → Server) → Type 0
SameTimes rights f = IsFalse (says_change_in rights.subject.operation) → (s : Server) → times_kept (f s) ≡ times_kept s

-- ---- pieces

-- Of a server as it is after what was asked, which was `known` at first: none holds more than it may, if that was so at the beginning. It counts
-- from when it did then; and so it has the times, where the request says no change.
pub record Fits (rights : Role) (k : Nodes) (known past : AskedBefore) (s : Server) : Type 0 where
  pub since : Extends known past
  pub shares : WithinShares rights.subject.start → WithinShares s
  pub clock : clock_of s ≡ clock_of rights.subject.start
  pub times : IsFalse (says_change_in rights.subject.operation) → times_kept s ≡ times_kept rights.subject.start
  pub clean : CleanIf rights past
  pub holds : Counts rights k past s

pub begins : (rights : Role) (s : Server) → rights.subject.start ≡ s → (past : AskedBefore) → counted_in past rights.subject.start.generations ≡ rights.subject.start.generations
    → CleanIf rights past → Fits rights still [] past s
begins rights s start past none clean = record {
  since = extends-nothing past;
  shares = λ within. subst WithinShares start within;
  clock = ap clock_of (sym start);
  times = λ none. ap times_kept (sym start);
  clean = clean;
  holds = (ap (λ t. t.generations) (sym start), none);
}

abbrev pub LeftTo : Role → Nodes → AskedBefore → {X : Type 0} → (AskedBefore → X → Type 0) → AskedBefore → Result X RequestError × Server → Type 0
LeftTo rights k known F past (Ok x, s) = Fits rights k known past s × F past x
LeftTo rights k known F past (Err e, s) = Fits rights k known past s

-- Where the server fits, the work behaves, and it fits then; and F holds of the value, after what was asked.
pub record DoesTo (rights : Role) (k : Nodes) (known : AskedBefore) {X : Type 0} (F : AskedBefore → X → Type 0) (w : Work X) : Type 0 where
  pub goes : (past : AskedBefore) (s : Server) → Fits rights k known past s → KeepsTo (doing rights) (LeftTo rights k known F) past (w s)

-- nothing is known of the value
abbrev pub Does : Role → Nodes → AskedBefore → {X : Type 0} → Work X → Type 0
Does rights k known w = DoesTo rights k known (λ past x. Unit {0}) w

-- So it is left: what was made is counted.
pub record Left (rights : Role) (past : AskedBefore) (s : Server) : Type 0 where
  pub shares : WithinShares rights.subject.start → WithinShares s
  pub clock : clock_of s ≡ clock_of rights.subject.start
  pub times : IsFalse (says_change_in rights.subject.operation) → times_kept s ≡ times_kept rights.subject.start
  pub nodes : s.generations ≡ counted_in past rights.subject.start.generations

abbrev pub EndsTo : Role → {X : Type 0} → (AskedBefore → X → Type 0) → AskedBefore → Result X RequestError × Server → Type 0
EndsTo rights T past (Ok x, s) = Left rights past s × T past x
EndsTo rights T past (Err e, s) = Left rights past s × CleanIf rights past

-- the work behaves, and T holds of its value; it is the last
pub record LastsTo (rights : Role) (k : Nodes) (known : AskedBefore) {X : Type 0} (T : AskedBefore → X → Type 0) (w : Work X) : Type 0 where
  pub goes : (past : AskedBefore) (s : Server) → Fits rights k known past s → KeepsTo (doing rights) (EndsTo rights T) past (w s)

abbrev pub Lasts : Role → AskedBefore → {X : Type 0} → Work X → Type 0
Lasts rights known w = LastsTo rights still known Whatever w

-- what is known of a value where the work didn't fail
abbrev pub OkTo : {X : Type 0} → (AskedBefore → X → Type 0) → AskedBefore → Result X RequestError → Type 0
OkTo F past (Ok x) = F past x
OkTo F past (Err e) = Unit {0}

module _ {rights : Role} {k : Nodes} {known : AskedBefore} where
  fits-later : {now past : AskedBefore} {s : Server} → Extends known now → Fits rights k now past s → Fits rights k known past s
  fits-later more fits = record { since = extends-both more fits.since; shares = fits.shares; clock = fits.clock; times = fits.times; clean = fits.clean; holds = fits.holds }

  pub fits-now : {past : AskedBefore} {s : Server} → Fits rights k known past s → Fits rights k past past s
  fits-now {past} fits = record { since = extends-itself past; shares = fits.shares; clock = fits.clock; times = fits.times; clean = fits.clean; holds = fits.holds }

  -- ---- without events

  pub gives : {X : Type 0} {F : AskedBefore → X → Type 0} (x : X) → ((past : AskedBefore) → Extends known past → F past x) → DoesTo rights k known F (give x)
  unfolding give
  gives x is = record { goes = λ past s fits. (fits, is past fits.since) }

  pub does-give : {X : Type 0} (x : X) → Does rights k known (give x)
  does-give x = gives x (λ past more. tt)

  pub does-fail : {X : Type 0} {F : AskedBefore → X → Type 0} (e : RequestError) → DoesTo rights k known F (fail e)
  unfolding fail
  does-fail e = record { goes = λ past s fits. fits }

  pub does-kept : {X : Type 0} (f : Server → X) → Does rights k known (kept f)
  unfolding kept
  does-kept f = record { goes = λ past s fits. (fits, tt) }

  -- where none holds more than it may
  pub fits-kept : {past : AskedBefore} {s : Server} (f : Server → Server) → (WithinShares s → WithinShares (f s)) → clock_of (f s) ≡ clock_of s → SameTimes rights f
      → (f s).generations ≡ s.generations → Fits rights k known past s → Fits rights k known past (f s)
  fits-kept {past} {s} f within counts same nodes fits = record {
    since = fits.since;
    shares = λ start. within (fits.shares start);
    clock = counts ∙ fits.clock;
    times = λ none. same none s ∙ fits.times none;
    clean = fits.clean;
    holds = counts-keep rights k past s (f s) nodes fits.holds;
  }

  pub does-keep_within : (f : Server → Server) → ((s : Server) → WithinShares s → WithinShares (f s)) → ((s : Server) → clock_of (f s) ≡ clock_of s)
      → SameTimes rights f → ((s : Server) → (f s).generations ≡ s.generations) → Does rights k known (keep f)
  unfolding keep
  does-keep_within f within counts same nodes = record { goes = λ past s fits. (fits-kept f (within s) (counts s) same (nodes s) fits, tt) }

  pub does-of_result : {X : Type 0} (r : Result X RequestError) → Does rights k known (of_result r)
  does-of_result (Ok x) = does-give x
  does-of_result (Err e) = does-fail e

  pub gives-of_result : {X : Type 0} {F : X → Type 0} (r : Result X RequestError) → OkTo (λ past. F) known r → DoesTo rights k known (λ past. F) (of_result r)
  gives-of_result (Ok x) is = gives x (λ past more. is)
  gives-of_result (Err e) is = does-fail e

  pub does-needed : {X : Type 0} (e : RequestError) (o : Option X) → DoesTo rights k known (λ past x. o ≡ Some x) (needed e o)
  does-needed e None = does-fail e
  does-needed e (Some x) = gives x (λ past more. refl)

  pub does-if : {X : Type 0} {F : AskedBefore → X → Type 0} (b : Bool) (w v : Work X) → DoesTo rights k known F w → DoesTo rights k known F v → DoesTo rights k known F (if b then w else v)
  does-if true w v first second = first
  does-if false w v first second = second

  -- the work may know that the condition is met
  pub does-when : (b : Bool) (w : Work (Unit {0})) → (IsTrue b → Does rights k known w) → Does rights k known (when b w)
  does-when true w first = first refl
  does-when false w first = does-give tt

  -- ---- one after another

  pub does-weaker : {X : Type 0} {F G : AskedBefore → X → Type 0} {w : Work X} → DoesTo rights k known F w → ((past : AskedBefore) (x : X) → F past x → G past x)
      → DoesTo rights k known G w
  does-weaker {X} {F} {G} {w} first says = record {
    goes = λ past s fits. keeps-weaker (doing rights) (LeftTo rights k known F) (LeftTo rights k known G) (w s) past (first.goes past s fits) weaker;
  }
    where
      weaker : (n : AskedBefore) (r : Result X RequestError × Server) → LeftTo rights k known F n r → LeftTo rights k known G n r
      weaker n (Ok x, t) left = (left.0, says n x left.1)
      weaker n (Err e, t) left = left

  pub forget : {X : Type 0} {F : AskedBefore → X → Type 0} {w : Work X} → DoesTo rights k known F w → Does rights k known w
  forget first = does-weaker first (λ past x is. tt)

  pub then->>= : {X Y : Type 0} {F : AskedBefore → X → Type 0} {G : AskedBefore → Y → Type 0} {w : Work X} {f : X → Work Y}
      → DoesTo rights k known F w → ((x : X) (now : AskedBefore) → Extends known now → F now x → DoesTo rights k now G (f x)) → DoesTo rights k known G (w >>= f)
  then->>= {X} {Y} {F} {G} {w} {f} first rest = record {
    goes = λ past s fits.
        keeps->>= (doing rights) (LeftTo rights k known F) (LeftTo rights k known G) w f past s (first.goes past s fits) after (λ n e t left. left);
  }
    where
      back : (now : AskedBefore) → Extends known now → (n : AskedBefore) (r : Result Y RequestError × Server) → LeftTo rights k now G n r → LeftTo rights k known G n r
      back now more n (Ok y, t) left = (fits-later more left.0, left.1)
      back now more n (Err e, t) left = fits-later more left

      after : (n : AskedBefore) (x : X) (t : Server) → LeftTo rights k known F n (Ok x, t) → KeepsTo (doing rights) (LeftTo rights k known G) n (f x t)
      after n x t left =
          keeps-weaker (doing rights) (LeftTo rights k n G) (LeftTo rights k known G) (f x t) n ((rest x n left.0.since left.1).goes n t (fits-now left.0)) (back n left.0.since)

  -- where what is known of the value doesn't speak of what was asked
  pub with->>= : {X Y : Type 0} {F : X → Type 0} {G : AskedBefore → Y → Type 0} {w : Work X} {f : X → Work Y}
      → DoesTo rights k known (λ past. F) w → ((x : X) → F x → DoesTo rights k known G (f x)) → DoesTo rights k known G (w >>= f)
  with->>= {X} {Y} {F} {G} {w} {f} first rest = record {
    goes = λ past s fits.
        keeps->>= (doing rights) (LeftTo rights k known (λ past. F)) (LeftTo rights k known G) w f past s (first.goes past s fits) (λ n x t left. (rest x left.1).goes n t left.0) (λ n e t left. left);
  }

  pub does->>= : {X Y : Type 0} {F : AskedBefore → X → Type 0} {G : AskedBefore → Y → Type 0} {w : Work X} {f : X → Work Y}
      → DoesTo rights k known F w → ((x : X) → DoesTo rights k known G (f x)) → DoesTo rights k known G (w >>= f)
  does->>= first rest = with->>= (forget first) (λ x any. rest x)

  pub does-attempt : {X : Type 0} {F : AskedBefore → X → Type 0} {w : Work X} → DoesTo rights k known F w → DoesTo rights k known (OkTo F) (attempt w)
  unfolding attempt
  does-attempt {X} {F} {w} first = record {
    goes = λ past s fits.
        keeps-followed_by (doing rights) (LeftTo rights k known F) (LeftTo rights k known (OkTo F)) (w s) (λ r. Finish (Ok r.0, r.1)) past (first.goes past s fits) told;
  }
    where
      told : (n : AskedBefore) (r : Result X RequestError × Server) → LeftTo rights k known F n r → LeftTo rights k known (OkTo F) n (Ok r.0, r.1)
      told n (Ok x, t) left = left
      told n (Err e, t) left = (left, tt)

  -- where nodes lead where they did
  pub does-keep : (f : Server → Server) → SameAll f → SameTimes rights f → Does rights k known (keep f)
  does-keep f same times =
      does-keep_within f (λ s within. same_within s (f s) (ap (λ k. k.0) (same s).0) within) (λ s. ap (λ k. k.1) (same s).0) times (λ s. (same s).1)

  -- ---- one event

  pub fits-next : {past : AskedBefore} {s : Server} (e : Event) (reply : Reply) → made_by_event e reply ≡ None
      → (at_once_in rights.subject.operation ≡ true → HasChanged e reply → ⊥) → Fits rights k known past s → Fits rights k known ((e, reply) ∷ past) s
  fits-next {past} {s} e reply none unchanged fits = record {
    since = extends-more (e, reply) fits.since;
    shares = fits.shares;
    clock = fits.clock;
    times = fits.times;
    clean = λ once. clean-more e reply (unchanged once) (fits.clean once);
    holds = counts-later rights k past s e reply none fits.holds;
  }

  pub fits-quiet : {past : AskedBefore} {s : Server} (e : Event) (reply : Reply) → Quiet rights e → Fits rights k known past s → Fits rights k known ((e, reply) ∷ past) s
  fits-quiet e reply quiet fits = fits-next e reply (quiet.unmade reply) (λ once changed. changed.says (quiet.spares once)) fits

  -- ---- the last pieces

  pub left : {past : AskedBefore} {s : Server} → Fits rights k known past s → Left rights past s
  left {past} {s} fits = record { shares = fits.shares; clock = fits.clock; times = fits.times; nodes = counts-end rights k past s fits.holds }

  pub spared : {past : AskedBefore} {s : Server} → Fits rights k known past s → Left rights past s × CleanIf rights past
  spared fits = (left fits, fits.clean)

  pub does-lasts : {X : Type 0} {F : AskedBefore → X → Type 0} {w : Work X} → DoesTo rights k known F w → LastsTo rights k known Whatever w
  does-lasts {X} {F} {w} first = record {
    goes = λ past s fits. keeps-weaker (doing rights) (LeftTo rights k known F) (EndsTo rights Whatever) (w s) past (first.goes past s fits) weaker;
  }
    where
      weaker : (n : AskedBefore) (r : Result X RequestError × Server) → LeftTo rights k known F n r → EndsTo rights Whatever n r
      weaker n (Ok x, t) fits = (left fits.0, tt)
      weaker n (Err e, t) fits = spared fits

  pub lasts-then : {X Y : Type 0} {F : AskedBefore → X → Type 0} {T : AskedBefore → Y → Type 0} {w : Work X} {f : X → Work Y}
      → DoesTo rights k known F w → ((x : X) (now : AskedBefore) → Extends known now → F now x → LastsTo rights k now T (f x)) → LastsTo rights k known T (w >>= f)
  lasts-then {X} {Y} {F} {T} {w} {f} first rest = record {
    goes = λ past s fits.
        keeps->>= (doing rights) (LeftTo rights k known F) (EndsTo rights T) w f past s (first.goes past s fits)
        (λ n x t fits. (rest x n fits.0.since fits.1).goes n t (fits-now fits.0)) (λ n e t fits. spared fits);
  }

  pub lasts-with : {X Y : Type 0} {F : X → Type 0} {T : AskedBefore → Y → Type 0} {w : Work X} {f : X → Work Y}
      → DoesTo rights k known (λ past. F) w → ((x : X) → F x → LastsTo rights k known T (f x)) → LastsTo rights k known T (w >>= f)
  lasts-with {X} {Y} {F} {T} {w} {f} first rest = record {
    goes = λ past s fits.
        keeps->>= (doing rights) (LeftTo rights k known (λ past. F)) (EndsTo rights T) w f past s (first.goes past s fits)
        (λ n x t fits. (rest x fits.1).goes n t fits.0) (λ n e t fits. spared fits);
  }

  pub lasts->>= : {X Y : Type 0} {F : AskedBefore → X → Type 0} {T : AskedBefore → Y → Type 0} {w : Work X} {f : X → Work Y}
      → DoesTo rights k known F w → ((x : X) → LastsTo rights k known T (f x)) → LastsTo rights k known T (w >>= f)
  lasts->>= first rest = lasts-with (forget first) (λ x any. rest x)

-- something was made, and the server keeps that from now on
pub fits-made : {rights : Role} {known past : AskedBefore} {s : Server} {name : List ℕ} (f : Server → Server) (e : Event) (reply : Reply) (n : ℕ) → Told rights.subject.operation (adds_name name)
    → SameHeld f → (f s).generations ≡ counted_once (Some n) s.generations → made_by_event e reply ≡ Some n → Fits rights still known past s
    → Fits rights counted known ((e, reply) ∷ past) (f s)
fits-made {rights} {known} {past} {s} f e reply n adds same counts makes fits = record {
  since = extends-more (e, reply) fits.since;
  shares = λ start. same_within s (f s) (ap (λ k. k.0) (same s)) (fits.shares start);
  clock = ap (λ k. k.1) (same s) ∙ fits.clock;
  times = λ none. changing adds none;
  clean = λ once. adding adds once;
  holds =
      counts ∙ ap (counted_once (Some n)) (fits.holds.0 ∙ sym fits.holds.1)
      ∙ sym (ap (λ o. counted_once o (counted_in past rights.subject.start.generations)) makes);
}

-- the one call that changes all was granted, and the server keeps that
pub left-changed : {rights : Role} {known past : AskedBefore} {s : Server} (f : Server → Server) (e : Event) (reply : Reply) → made_by_event e reply ≡ None → SameAll f → SameTimes rights f
    → Fits rights still known past s → Left rights ((e, reply) ∷ past) (f s)
left-changed {rights} {known} {past} {s} f e reply none same times fits = record {
  shares = λ start. same_within s (f s) (ap (λ k. k.0) (same s).0) (fits.shares start);
  clock = ap (λ k. k.1) (same s).0 ∙ fits.clock;
  times = λ unsaid. times unsaid s ∙ fits.times unsaid;
  nodes = (same s).1 ∙ counts-end rights still ((e, reply) ∷ past) s (counts-later rights still past s e reply none fits.holds);
}
