-- The handles of someone outside stay open.
use Rattle.std.specs.Prelude.{◌≡◌, ◌≢◌, ℕ, ◌==◌, Bool, true, false, ◌||◌, not, cond, List, [], ◌∷◌, Option, None, Some, is_some, IsFalse}
use Rattle.std.proofs.Common.{refl, sym, ap, ◌∙◌, arith, inl, inr}
use Rattle.std.proofs.lemmas.Bool.{or_right}
use Rattle.std.proofs.lemmas.Bool.Decides.{nat_tests}
use Rattle.std.specs.List.{filter, list_any}
use Rattle.std.specs.Ordering.{nat_cmp}
use Rattle.fs_layout.specs.Maps.{get}
use Rattle.fs_model.specs.declared.call.Call.TheVariants.{Open as OpenCall}
use Rattle.fs_model.specs.declared.event.Event.{Event}
use Rattle.fs_model.specs.declared.event.Event.TheVariants.{CallAt, CallBy}
use Rattle.fs_model.specs.declared.event.HandleCall.TheVariants.{Close as CloseBy}
use Rattle.fs_model.specs.declared.reply.Reply.{Reply}
use Rattle.fs_model.specs.declared.reply.Reply.TheVariants.{Done, Opened}
use Rattle.fs_model.specs.Processes.{Descriptor}
use Rattle.fs_model.specs.States.{State, IsState}
use Rattle.fs_model.specs.HandleCalls.{handle_call_row}
use Rattle.fs_model.specs.Steps.{Step, Answers, after, is_halted, refuses_early, refuses_late, acts, lacks_memory, read_fails, write_fails}
use Rattle.fs_model.specs.Outsiders.{Outsider, AreOpen, IsBetween, IsListing, after_answer, HandlesStayOpen, OpensAreOthers}
use Rattle.fs_model.proofs.HandlesStay.{handles_stay, opened_is}

there : (o : Option Descriptor) → is_some o ≡ true → (d : Descriptor) × (o ≡ Some d)
there None h = absurd cc
there (Some d) h = (d, refl)

-- one handle stays open, whatever happens but its close
stays : (e : Event) (old new : State) (reply : Reply) (handle : ℕ) → IsState old → Step old e reply new → e ≢ CallBy handle CloseBy
    → is_some (get nat_cmp old.openings handle) ≡ true → is_some (get nat_cmp new.openings handle) ≡ true
stays e old new reply handle is step other opened =
    let at = there (get nat_cmp old.openings handle) opened in
    ap is_some (handles_stay old new e reply handle at.0 is step other at.1)

-- a close that isn't answered so closes nothing
still : (old new : State) (handle : ℕ) (reply : Reply) → Answers old (CallBy handle CloseBy) reply new → IsFalse new.halted → reply ≢ Done
    → new.openings ≡ old.openings
unfolding after handle_call_row
still old new handle reply (is_halted h a same) runs none = ap (λ s. s.openings) same
still old new handle reply (refuses_early h r f a same) runs none = ap (λ s. s.openings) same
still old new handle reply (refuses_late h r f l a same) runs none = ap (λ s. s.openings) same
still old new handle reply (acts choice does a now) runs none = absurd (none a)
still old new handle reply (lacks_memory h f m a same) runs none = ap (λ s. s.openings) same
still old new handle reply (read_fails h f a same) runs none = ap (λ s. s.openings) same
still old new handle reply (write_fails choice does a processes openings which now) runs none =
    absurd (let halted : new.halted ≡ true = ap (λ s. s.halted) now in let runs : new.halted ≡ false = runs in cc)

-- what is left without one is another, and was there
is_left : (handles : List ℕ) (handle n : ℕ) → list_any (λ h. h == n) (filter (λ h. not (h == handle)) handles) ≡ true
    → (list_any (λ h. h == n) handles ≡ true) × (handle ≢ n)
is_left [] handle n h = absurd cc
is_left (k ∷ handles) handle n h = go (k == handle) refl (is_left handles handle n) h
  where
    first : (a : Bool) → (k == n) ≡ a → (k == handle) ≡ false
        → (list_any (λ h. h == n) (filter (λ h. not (h == handle)) handles) ≡ true → (list_any (λ h. h == n) handles ≡ true) × (handle ≢ n))
        → (a || list_any (λ h. h == n) (filter (λ h. not (h == handle)) handles)) ≡ true
        → ((a || list_any (λ h. h == n) handles) ≡ true) × (handle ≢ n)
    first true e other rest h = (refl, λ same. grind (arith, nat_tests))
    first false e other rest h = rest h

    go : (b : Bool) → (k == handle) ≡ b
        → (list_any (λ h. h == n) (filter (λ h. not (h == handle)) handles) ≡ true → (list_any (λ h. h == n) handles ≡ true) × (handle ≢ n))
        → list_any (λ h. h == n) (cond (not b) (k ∷ filter (λ h. not (h == handle)) handles) (filter (λ h. not (h == handle)) handles)) ≡ true
        → ((k == n || list_any (λ h. h == n) handles) ≡ true) × (handle ≢ n)
    go true e rest h = let both = rest h in (or_right (k == n) (list_any (λ h. h == n) handles) both.0, both.1)
    go false e rest h = first (k == n) refl e rest h

-- an open answers one that is open
one_more : (handles : List ℕ) (handle n : ℕ) (new : State) → is_some (get nat_cmp new.openings handle) ≡ true
    → (list_any (λ h. h == n) handles ≡ true → is_some (get nat_cmp new.openings n) ≡ true)
    → (handle == n || list_any (λ h. h == n) handles) ≡ true → is_some (get nat_cmp new.openings n) ≡ true
one_more handles handle n new one rest h = go (handle == n) refl h
  where
    go : (b : Bool) → (handle == n) ≡ b → (b || list_any (λ h. h == n) handles) ≡ true → is_some (get nat_cmp new.openings n) ≡ true
    go true e h = let same : n ≡ handle = grind (arith, nat_tests) in ap (λ n. is_some (get nat_cmp new.openings n)) same ∙ one
    go false e h = rest h

its_open : (w : Outsider) (e : Event) (reply : Reply) (old new : State) → IsState old → AreOpen w old → Step old e reply new → IsFalse new.halted
    → AreOpen (after_answer w e reply) new
its_open w (CallAt v (OpenCall path flags mode)) (Opened handle m) old new is opened step runs = λ n its.
    let e = CallAt v (OpenCall path flags mode) in
    let one = opened_is old new v path flags mode handle m step in
    one_more w.handles handle n new (ap is_some one.opened) (λ its. stays e old new (Opened handle m) n is step (λ same. absurd cc) (opened n its)) its
its_open w (CallBy handle CloseBy) Done old new is opened step runs = λ n its.
    let both = is_left w.handles handle n its in
    stays (CallBy handle CloseBy) old new Done n is step (λ same. both.1 (let h : handle ≡ n = cc in h)) (opened n both.0)
its_open w (CallBy handle CloseBy) reply old new is opened step runs = λ n its.
    ap (λ openings. is_some (get nat_cmp openings n)) (still old new handle reply step.1 runs (λ same. absurd cc)) ∙ opened n its
its_open w e reply old new is opened step runs = λ n its. stays e old new reply n is step (λ same. absurd cc) (opened n its)

between_open : (w : Outsider) (e : Event) (reply : Reply) (old new : State) → IsState old → AreOpen w old → Step old e reply new → IsBetween e → AreOpen w new
between_open w (CallBy handle handle_call) reply old new is opened step between = absurd between
between_open w e reply old new is opened step between = λ n its. stays e old new reply n is step (λ same. absurd cc) (opened n its)

listing_open : (w : Outsider) (e : Event) (reply : Reply) (old new : State) → IsState old → AreOpen w old → Step old e reply new → IsListing w e → AreOpen w new
listing_open w (CallBy handle CloseBy) reply old new is opened step listing = λ n its.
    stays (CallBy handle CloseBy) old new reply n is step
    (λ same. let h : handle ≡ n = cc in let clash : list_any (λ k. k == n) w.handles ≡ false = ap (λ m. list_any (λ k. k == m) w.handles) (sym h) ∙ listing in cc) (opened n its)
listing_open w e reply old new is opened step listing = λ n its. stays e old new reply n is step (λ same. absurd cc) (opened n its)

pub handles_stay_open : HandlesStayOpen
handles_stay_open w e old new reply is opened step = record {
  its = λ its runs. its_open w e reply old new is opened step runs;
  others = λ other. elim other [
    | inl between ↦ between_open w e reply old new is opened step between
    | inr listing ↦ listing_open w e reply old new is opened step listing
  ];
}

-- ---- what is opened is new

pub opens_are_others : OpensAreOthers
opens_are_others w old new v path flags mode handle n opened step =
    go (list_any (λ h. h == handle) w.handles) (λ its. opened handle its) (opened_is old new v path flags mode handle n step).unused
  where
    go : (b : Bool) → (b ≡ true → is_some (get nat_cmp old.openings handle) ≡ true) → get nat_cmp old.openings handle ≡ None → b ≡ false
    go false opened none = refl
    go true opened none = absurd (let here = opened refl in cc)
