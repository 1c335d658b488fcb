-- Plays: events of what is served, one after another, and what all of them come to.
use Rattle.call_parts.specs.BothTables.{Tables}
use Rattle.std.proofs.Common.{◌≡◌, ◌≤◌, ◌<◌, inl, inr, ℕ, List, [], ◌∷◌, ◌++◌, length, get_or, take, Option, Result, Ok, Err, IsTrue, refl, sym, ap, subst, ◌∙◌, arith}
use Rattle.std.specs.Prelude.{Contains, ◌+◌, ◌↔◌, Bool, false, IfOk, IfErr}
use Rattle.std.proofs.lemmas.Bool.{cases_lt}
use Rattle.std.proofs.lemmas.List.{take_more}
use Rattle.sector_disk.specs.Disk.{DiskState, Image, IsImage, IsSame, IsStable, sector}
use Rattle.sector_disk.proofs.Moments.{narrowed, stable_image}
use Rattle.fs_layout.specs.declared.geometry.Geometry.{Geometry}
use Rattle.fs_model.specs.Processes.{ProcessTable}
use Rattle.fs_model.specs.declared.reply.Reply.{Reply}
use Rattle.fs_model.specs.declared.event.Event.{Event}
use Rattle.fs_model.specs.declared.event.Event.TheVariants.{Arm, Restart}
use Rattle.fs_model.specs.declared.event.EventReply.{EventReply}
use Rattle.fs_model.specs.declared.event.EventReply.TheVariants.{Reply as Replies, Armed, Mounted, MountFailed, Down}
use Rattle.fs_model.specs.declared.event.RestartFault.{RestartFault}
use Rattle.fs_model.specs.declared.event.RestartFault.TheVariants as restarts
use Rattle.fs_model.specs.Trees.{Tree, Room}
use Rattle.fs_model.specs.TreeChanges.{pruned}
use Rattle.fs_model.specs.States.{State}
use Rattle.fs_model.specs.Stands.{Stands}
use Rattle.fs_model.specs.Steps.{is_of_machine}
use Rattle.fs_model.proofs.Findings.{finding_refuses}
use Rattle.fs_system.specs.declared.faults.MountFault.{MountFault}
use Rattle.fs_system.specs.declared.faults.MountFault.TheVariants as mounts
use Rattle.fs_system.specs.declared.faults.PlayFault.{PlayFault}
use Rattle.fs_system.specs.declared.faults.PlayFault.TheVariants.{OutOfMemory}
use Rattle.fs_system.specs.Doing.{Does, Happens}
use Rattle.fs_system.specs.Played.{begun, Played, Unplayed, CountsFor}
use Rattle.fs_system.specs.Playing.{HasDisk, HasDiskOf, IsConfig, Plays, IsOfRestart}
use Rattle.fs_system.specs.Histories.{Stopped, Config, Up, Off, device, Goes, does, is_down, arms_up, arms_off, restarts as restarts_up, fails, on_disk, History, ends, goes, forgets, Follows}
use Rattle.fs_system.specs.Mounts.{IsNotMounted, IsMounted, Mounts, FailsToMount}
use Rattle.fs_system.specs.Mounting.{IsSystem, fault_of}
use Rattle.fs_system.specs.declared.base.Base.{Base}
use Rattle.fs_system.specs.declared.base.Base.TheVariants.{Running, Halted, Taken}
use Rattle.fs_system.specs.Seen.{System, disk_in, IsOn, IsIn, tables_on}
use Rattle.fs_images.specs.Standing.{StandsForSome, EachStandsForSome, Covers, HasFinding}
use Rattle.fs_system.proofs.Runs.{only_here, histories_are_runs}

-- there is room where the table isn't full
pub still_room : (processes processes' : ProcessTable) (full : Bool) → processes ≡ processes' → IsTrue full ↔ (64 ≤ length processes) → full ≡ false → length processes' < 64
still_room processes processes' full same is not_full = elim (cases_lt (length processes') 64) [
  | inl less ↦ less
  | inr many ↦ absurd (let yes = is.1 (subst (λ (d : ProcessTable). 64 ≤ length d) (sym same) many) in cc)
]

module _ {D : Type 0} (state : D → DiskState) where
  -- ---- events one after another

  pub joined : (a b c : Config D) (es fs : List Event) (rs ms : List EventReply) → History state a es rs b → History state b fs ms c
      → History state a (es ++ fs) (rs ++ ms) c
  joined a b c es fs rs ms (ends _) then = then
  joined a b c es fs rs ms (goes _ mid _ e reply es' rs' first rest) then =
      goes a mid c e reply (es' ++ fs) (rs' ++ ms) first (joined mid b c es' fs rs' ms rest then)
  joined a b c es fs rs ms (forgets _ _ now _ _ same later rest) then =
      forgets a c now (es ++ fs) (rs ++ ms) same later (joined (on_disk a now) b c es fs rs ms rest then)

  one : (c d : Config D) (e : Event) (reply : EventReply) → Goes state c e reply d → History state c (e ∷ []) (reply ∷ []) d
  one c d e reply g = goes c d d e reply [] [] g (ends d)

  pub plays_nothing : (s : Result (System D) D) → Plays state s [] [] s
  plays_nothing s c is = (c, is, ends c)

  pub plays_joined : (a b c : Result (System D) D) (es fs : List Event) (rs ms : List EventReply) → Plays state a es rs b → Plays state b fs ms c
      → Plays state a (es ++ fs) (rs ++ ms) c
  plays_joined a b c es fs rs ms first then x is =
      let mid = first x is in
      let end = then mid.0 mid.1 in
      (end.0, end.1, joined x mid.0 end.0 es fs rs ms mid.2 end.2)

  -- one more of them
  pub plays_more : (a b c : Result (System D) D) (es : List Event) (k : ℕ) (e : Event) (rs ms : List EventReply) (reply : EventReply)
      → e ≡ get_or es k e → k < length es → ms ≡ rs ++ reply ∷ [] → Plays state a (take k es) rs b → Plays state b (e ∷ []) (reply ∷ []) c
      → Plays state a (take (k + 1) es) ms c
  plays_more a b c es k e rs ms reply is lt pushed first then =
      subst (λ l. Plays state a l ms c) (ap (λ (x : Event). take k es ++ x ∷ []) is ∙ sym (take_more es k e lt))
      (subst (λ l. Plays state a (take k es ++ e ∷ []) l c) (sym pushed) (plays_joined a b c (take k es) (e ∷ []) rs (reply ∷ []) first then))

  -- ---- the disk of what is served

  pub seen_in : (P : DiskState → Type 0) (b : Base D) (disk : D) → HasDisk b disk → P (disk_in state b) → P (state disk)
  seen_in P (Running store) disk has p = subst (λ (d : D). P (state d)) has p
  seen_in P (Halted broken) disk has p = subst (λ (d : D). P (state d)) has p
  seen_in P Taken disk has p = absurd has

  -- a file system in a state has one
  pub the_disk : (fs : System D) (s : State) → IsIn state fs s → (disk : D) × HasDisk fs.base disk
  the_disk fs s here = go fs.base here
    where
      go : (b : Base D) → IsOn state fs.geometry fs.time (tables_on fs) b s → (disk : D) × HasDisk b disk
      go (Running store) on = (store.disk, refl)
      go (Halted broken) on = (broken, refl)
      go Taken on = absurd on

  one_disk : (b : Base D) (x y : D) → HasDisk b x → HasDisk b y → x ≡ y
  one_disk (Running store) x y has has' = sym has ∙ has'
  one_disk (Halted broken) x y has has' = sym has ∙ has'
  one_disk Taken x y has has' = absurd has

  device_is : (served : Result (System D) D) (c : Config D) (disk : D) → IsConfig state served c → HasDiskOf served disk → device c ≡ disk
  device_is (Ok fs) (Up s d) disk is has = one_disk fs.base d disk is.0 has
  device_is (Ok fs) (Off d) disk is has = absurd is
  device_is (Err alone) (Up s d) disk is has = absurd is
  device_is (Err alone) (Off d) disk is has = sym is ∙ has

  -- as a file system gives its disk away
  module _ (base : Base D) (geometry : Geometry) (tables : Tables) (time : ℕ) where
    -- it has one
    pub has_disk : IsSystem state (record { base = base; geometry = geometry; processes = tables.processes; openings = tables.openings; time = time }) → (disk : D) × HasDisk base disk
    has_disk was = the_disk (record { base = base; geometry = geometry; processes = tables.processes; openings = tables.openings; time = time }) was.in_some.0 was.in_some.1

    module _ (disk : D) (has : HasDisk base disk) where
      pub disk_given : (fs : System D) → record { base = base; geometry = geometry; processes = tables.processes; openings = tables.openings; time = time } ≡ fs → HasDisk fs.base disk
      disk_given fs view_is = subst (λ (x : System D). HasDisk x.base disk) view_is has

      pub disk_mounts : IsSystem state (record { base = base; geometry = geometry; processes = tables.processes; openings = tables.openings; time = time }) → EachStandsForSome (state disk)
      disk_mounts was = seen_in EachStandsForSome base disk has was.mountable

  -- ---- events of the machine

  pub system_answers : (old new : System D) (e : Event) (reply : Reply) → Happens state old new e reply → Plays state (Ok old) (e ∷ []) (Replies reply ∷ []) (Ok new)
  system_answers old new e reply happens (Off disk) is = absurd is
  system_answers old new e reply happens (Up s disk) is =
      let next = happens s is.1 in
      let there = the_disk new next.0 next.1 in
      let done : Does (state disk) (state there.0) s e reply next.0 =
      seen_in (λ d. Does (state disk) d s e reply next.0) new.base there.0 there.1
      (seen_in (λ d. Does d (disk_in state new.base) s e reply next.0) old.base disk is.0 next.2) in
      (Up next.0 there.0, (there.1, next.1), one (Up s disk) (Up next.0 there.0) e (Replies reply) (does disk there.0 s next.0 e reply done))

  pub disk_answers : (disk : D) (e : Event) → IsTrue (is_of_machine e) → Plays state (Err disk) (e ∷ []) (Down ∷ []) (Err disk)
  disk_answers disk e machine (Up s d) is = absurd is
  disk_answers disk e machine (Off d) is = (Off d, is, one (Off d) (Off d) e Down (is_down d e machine))

  -- ---- arm

  -- from one system to another one in the same state, whose disk gives the same
  module _ (old new : System D) (stays : (s : State) → IsIn state old s → IsIn state new s) (same : IsSame (disk_in state old.base) (disk_in state new.base))
      (failures : (disk_in state new.base).failures ≡ (disk_in state old.base).failures) where
    same_there : (before now : D) → HasDisk old.base before → HasDisk new.base now → IsSame (state before) (state now)
    same_there before now has there =
        seen_in (λ d. IsSame (state before) d) new.base now there (seen_in (λ d. IsSame d (disk_in state new.base)) old.base before has same)

    later_there : (before now : D) → HasDisk old.base before → HasDisk new.base now → (state before).failures ≤ (state now).failures
    later_there before now has there =
        seen_in (λ d. (state before).failures ≤ d.failures) new.base now there
        (seen_in (λ d. d.failures ≤ (disk_in state new.base).failures) old.base before has (omega (arith, failures)))

    pub system_arms : (k : ℕ) → Plays state (Ok old) (Arm k ∷ []) (Armed ∷ []) (Ok new)
    system_arms k (Off disk) is = absurd is
    system_arms k (Up s disk) is =
        let here = stays s is.1 in
        let there = the_disk new s here in (
          Up s there.0,
          (there.1, here),
          one (Up s disk) (Up s there.0) (Arm k) Armed
              (arms_up disk there.0 s k (same_there disk there.0 is.0 there.1) (later_there disk there.0 is.0 there.1)),
        )

    -- the disk of what is served lets go of its past, and then it goes on
    pub forgotten_then : (served : Result (System D) D) (es : List Event) (rs : List EventReply) → Plays state (Ok new) es rs served → Plays state (Ok old) es rs served
    forgotten_then served es rs then (Off disk) is = absurd is
    forgotten_then served es rs then (Up s disk) is =
        let here = stays s is.1 in
        let there = the_disk new s here in
        let run = then (Up s there.0) (there.1, here) in
        (run.0, run.1, forgets (Up s disk) run.0 there.0 es rs (same_there disk there.0 is.0 there.1) (later_there disk there.0 is.0 there.1) run.2)

  pub disk_arms : (old new : D) (k : ℕ) → IsSame (state old) (state new) → (state new).failures ≡ (state old).failures
      → Plays state (Err old) (Arm k ∷ []) (Armed ∷ []) (Err new)
  disk_arms old new k same failures (Up s d) is = absurd is
  disk_arms old new k same failures (Off d) is =
      let le : (state old).failures ≤ (state new).failures = omega (arith, failures) in (
        Off new,
        refl,
        one (Off d) (Off new) (Arm k) Armed
            (arms_off d new k (subst (λ (x : D). IsSame (state x) (state new)) is same) (subst (λ (x : D). (state x).failures ≤ (state new).failures) is le)),
      )

  -- what it leaves may be mounted
  pub still_mounts : (old new : D) → IsSame (state old) (state new) → EachStandsForSome (state old) → EachStandsForSome (state new)
  still_mounts old new same may image left = may image (narrowed same.narrowed left)

  -- ---- restart

  module _ (old : Result (System D) D) (disk mid : D) (has : HasDiskOf old disk) (stop : Stopped (state disk) (state mid)) (bytes : List ℕ) (arm : Option ℕ) where
    pub restart_mounts : (fs : System D) (s : State) → IsIn state fs s → Mounts (state mid) (disk_in state fs.base) s
        → Plays state old (Restart bytes arm ∷ []) (Mounted ∷ []) (Ok fs)
    restart_mounts fs s here found c is =
        let there = the_disk fs s here in
        let at = device_is old c disk is has in (
          Up s there.0,
          (there.1, here),
          one c (Up s there.0) (Restart bytes arm) Mounted
              (restarts_up c mid there.0 s bytes arm (subst (λ (x : D). Stopped (state x) (state mid)) (sym at) stop)
              (seen_in (λ d. Mounts (state mid) d s) fs.base there.0 there.1 found)),
        )

    pub restart_fails : (alone : D) (fault : RestartFault) → FailsToMount (state mid) (state alone) fault
        → Plays state old (Restart bytes arm ∷ []) (MountFailed fault ∷ []) (Err alone)
    restart_fails alone fault failed c is =
        let at = device_is old c disk is has in (
          Off alone,
          refl,
          one c (Off alone) (Restart bytes arm) (MountFailed fault)
              (fails c mid alone fault bytes arm (subst (λ (x : D). Stopped (state x) (state mid)) (sym at) stop) failed),
        )

  -- a stop, and a disk that may have been armed then
  module _ (old mid : D) (image : IsImage (state old) (state mid).seen) (stable : IsStable (state mid)) (failures : (state mid).failures ≡ (state old).failures)
      (seen : IsImage (state mid) (state mid).seen) where
    pub stops : Stopped (state old) (state mid)
    stops = record { image = image; each = λ left is. stable_image stable seen.size is; later = omega (arith, failures) }

    pub stops_armed : (new : D) → IsSame (state mid) (state new) → (state new).failures ≡ (state mid).failures → Stopped (state old) (state new)
    stops_armed new same failures' = record {
      image = subst (IsImage (state old)) (sym same.narrowed.seen) image;
      each = λ left is. stable_image stable seen.size (narrowed same.narrowed is) ∙ sym same.narrowed.seen;
      later = omega (arith, failures, failures');
    }

    pub stop_stands : EachStandsForSome (state old) → StandsForSome (state mid).seen
    stop_stands may = may (state mid).seen image

  pub armed_stands : (mid new : D) → IsSame (state mid) (state new) → StandsForSome (state mid).seen → StandsForSome (state new).seen
  armed_stands mid new same stands = subst StandsForSome (sym same.narrowed.seen) stands

-- ---- why a disk that stands for a tree is not mounted

module _ (before now : DiskState) (whole : length before.seen ≡ before.size) (stood : StandsForSome before.seen) where
  found_nothing : {A : Type 0} (rule at : ℕ) → HasFinding before now rule at → A
  found_nothing rule at found =
      absurd (finding_refuses before.size (sector before.seen) rule at stood.0 stood.1 stood.2 found.finding
      (subst (λ (n : ℕ). Stands n (sector before.seen) stood.0 stood.1 stood.2) whole stood.3))

  pub fault_of_restart : (fault : MountFault) → IsNotMounted before now fault → IsOfRestart fault
  fault_of_restart mounts.NotAFileSystem is = found_nothing 1 is.0 is.1
  fault_of_restart (mounts.Damaged f) is = found_nothing f.rule f.at is.0
  fault_of_restart mounts.DiskFault is = inl refl
  fault_of_restart mounts.OutOfMemory is = inr refl

pub fails_for : (before now : DiskState) (fault : MountFault) (why : RestartFault) → fault ≡ fault_of why → IsNotMounted before now fault → FailsToMount before now why
fails_for before now fault restarts.DiskFault is failed = subst (IsNotMounted before now) is failed
fails_for before now fault restarts.OutOfMemory is failed = subst (IsNotMounted before now) is failed

-- what it leaves may be mounted
pub failed_stands : (before now : DiskState) (why : RestartFault) → ((image : Image) → IsImage before image → StandsForSome image)
    → FailsToMount before now why → EachStandsForSome now
failed_stands before now why stood failed image is =
    let from = failed.images image is in
    let was = stood from.0 from.1 in
    let left = from.2 was.0 was.1 was.2 was.3 in
    (was.0, left.0, left.1, left.2)

-- after a stop there is one image
pub stopped_stands : (before now : DiskState) → Stopped before now → StandsForSome now.seen → EachStandsForSome now
stopped_stands before now stop stands image is = subst StandsForSome (sym (stop.each image is)) stands

-- ---- a whole play

module _ {D : Type 0} (state : D → DiskState) (counts_now : (d : D) (t : ℕ) (image : Image) → t ≤ (state d).moment → IsImage (state d) image → (state d).left_since t image)
    (disk : D) (fs : System D) (s : State) (here : IsIn state fs s) (found : Mounts (state disk) (disk_in state fs.base) s)
    (served : Result (System D) D) (now : D) (has : HasDiskOf served now) where
  begins : (room : Room) (tree : Tree) (at : D) → HasDisk fs.base at → IsMounted (state at) room tree s
      → Follows state room (state disk) (begun room tree s.free) (Up s at)
  begins room tree at there is = record {
    same_room = refl;
    has_config = (refl, sym is.is_mounted, λ runs. subst (λ (t : State). Contains (pruned tree ∷ []) t.tree) (sym is.is_mounted) (only_here (pruned tree)));
    covers = λ image left. let one = is.images image left in (pruned tree, one.0, one.1, pruned tree, only_here (pruned tree), refl);
    faults =
        let later : (state disk).failures ≤ (state at).failures = seen_in state (λ d. (state disk).failures ≤ d.failures) fs.base at there found.later in
        inl (omega (arith, later));
  }

  played : (es : List Event) (replies : List EventReply) → Plays state (Ok fs) es replies served → Played (state disk) (state now) es replies
  played es replies answers = record {
    some = found.some;
    each = λ room tree free stands.
        let there = the_disk state fs s here in
        let is = seen_in state (λ d. IsMounted d room tree s) fs.base there.0 there.1 (found.each room tree free stands) in
        let run = answers (Up s there.0) (there.1, here) in
        let all = histories_are_runs state counts_now room disk (begun room tree s.free) (Up s there.0) run.0 es replies (begins room tree there.0 there.1 is) run.2 in
        let at : device run.0 ≡ now = device_is state served run.0 now run.1 has in
        record {
          free = s.free;
          may_be_free = is.free;
          last = all.0;
          runs = all.1;
          images = subst (λ (x : D). Covers room all.0.trees (state x)) at all.2.covers;
          faults = subst (λ (x : D). CountsFor all.0.faults (state disk) (state x)) at all.2.faults;
        };
  }

  pub all_played : {V : Type 0} (items : V → List EventReply) (es : List Event) (r : Result V PlayFault)
      → IfOk r (λ v. Plays state (Ok fs) es (items v) served) → IfOk r (λ v. Played (state disk) (state now) es (items v))
  all_played items es (Ok v) answers = played es (items v) answers
  all_played items es (Err fault) answers = tt

  pub none_played : {V : Type 0} (r : Result V PlayFault) → IfErr r (λ fault. (fault ≡ OutOfMemory) × (served ≡ Ok fs))
      → IfErr r (Unplayed (state disk) (state now))
  none_played (Ok v) lacks = tt
  none_played (Err fault) lacks =
      subst (Unplayed (state disk) (state now)) (sym lacks.0)
      (played [] [] (subst (Plays state (Ok fs) [] []) (sym lacks.1) (plays_nothing state (Ok fs))))
