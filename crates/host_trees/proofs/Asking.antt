-- What is asked, step by step: a function that asks several times is proved by a chain of these.
--     asked_so        one event, as a function says it
--     asks_none, asks_nothing, asks_lack        nothing, and something may be lacking
--     asks_one        one event
--     asks_then, asks_three        one after another
--     lacks_so, lacks_nothing, tells_nothing, tells_told, tells_asked, tells_then        the same, where what is lacking may be told
--     asks_synced, asks_unsynced        a sync
--     packed_so, not_packed, unpacked_so, not_unpacked        how a copy ends
--     silent_so, not_whole        nothing was told of a copy that is whole
--     copies_along        the same between the same states
--     unpacking_reads        what is asked only looks
use Rattle.std.specs.Prelude.{◌≡◌, Bool, false, ◌&&◌, List, [], ◌∷◌, ◌++◌, IsTrue, All, Result, Ok, Err}
use Rattle.std.proofs.Common.{refl, sym, ap, subst, ◌∙◌}
use Rattle.std.proofs.Math.Bool.{and-true}
use Rattle.std.proofs.lemmas.Bool.{and_parts, true≢false}
use Rattle.std.proofs.lemmas.List.Elements.{All-nil, All-cons, All-append}
use Rattle.fs_model.specs.declared.event.Event.{Event}
use Rattle.fs_model.specs.declared.reply.Reply.{Reply}
use Rattle.fs_model.specs.declared.event.Event.TheVariants.{Sync}
use Rattle.fs_model.specs.declared.reply.Reply.TheVariants.{Done}
use Rattle.fs_model.specs.Reading.{IsReading}
use Rattle.host_trees.specs.declared.fault.Copied.{Copied}
use Rattle.host_trees.specs.declared.fault.CopyFault.{CopyFault}
use Rattle.host_trees.specs.Copies.{Asked, AsksOne, Asks, OnlyTells, AsksTelling, ServesAll, stays, goes, IsMaking, is_done, is_whole, synced, AreCopying, ArePacking, AreUnpacking, Copies}

module _ {M : Type 0} {Serves : M → Event → Reply → M → Type 0} where
  goes_then : {old mid new : M} {first rest : List Asked} → ServesAll Serves old first mid → ServesAll Serves mid rest new → ServesAll Serves old (first ++ rest) new
  goes_then (stays m) rest = rest
  goes_then (goes old next mid asked first serves on) rest = goes old next _ asked _ serves (goes_then on rest)

  -- one event, as a function says it
  pub asked_so : {old new : M} (event : Event) (reply : Reply) {was done is : Bool} → Serves old event reply new → done ≡ is_done event reply
      → is ≡ (was && done) → AsksOne Serves event old new was is
  asked_so event reply {was} serves said kept = record { reply = reply; serves = serves; whole = kept ∙ ap (λ d. was && d) said }

module _ {M : Type 0} {Serves : M → Event → Reply → M → Type 0} {Own : Event → Type 0} where
  pub asks_none : {old new : M} {was is : Bool} → new ≡ old → (IsTrue is → IsTrue was) → Asks Serves Own old new was is
  asks_none {old} same before = record {
    asked = [];
    goes = subst (λ m. ServesAll Serves old [] m) (sym same) (stays old);
    own = All-nil (λ a. Own a.event);
    before = before;
    done = λ is. All-nil (λ a. IsTrue (is_done a.event a.reply));
  }

  pub asks_nothing : (m : M) (whole : Bool) → Asks Serves Own m m whole whole
  asks_nothing m whole = asks_none refl (λ is. is)

  -- Nothing is asked, and something is lacking.
  pub asks_lack : {old new : M} {was is : Bool} → new ≡ old → is ≡ false → Asks Serves Own old new was is
  asks_lack same lacking = asks_none same (λ whole. absurd (true≢false (sym whole ∙ lacking)))

  pub asks_one : {event : Event} {old new : M} {was is : Bool} → AsksOne Serves event old new was is → Own event → Asks Serves Own old new was is
  asks_one {event} {old} {new} {was} {is} one own =
      let asked : Asked = record { event = event; reply = one.reply } in
      let both : IsTrue is → IsTrue was × IsTrue (is_done event one.reply) = λ whole. and_parts was (is_done event one.reply) (sym one.whole ∙ whole) in
      record {
        asked = asked ∷ [];
        goes = goes old new new asked [] one.serves (stays new);
        own = All-cons (λ a. Own a.event) asked [] own (All-nil (λ a. Own a.event));
        before = λ whole. (both whole).0;
        done = λ whole. All-cons (λ a. IsTrue (is_done a.event a.reply)) asked [] (both whole).1 (All-nil (λ a. IsTrue (is_done a.event a.reply)));
      }

  pub asks_then : {old mid new : M} {was between is : Bool} → Asks Serves Own old mid was between → Asks Serves Own mid new between is → Asks Serves Own old new was is
  asks_then first rest = record {
    asked = first.asked ++ rest.asked;
    goes = goes_then first.goes rest.goes;
    own = All-append (λ a. Own a.event) first.asked rest.asked first.own rest.own;
    before = λ is. first.before (rest.before is);
    done = λ is. All-append (λ a. IsTrue (is_done a.event a.reply)) first.asked rest.asked (first.done (rest.before is)) (rest.done is);
  }

  pub asks_three : {old first second new : M} {was one two is : Bool} → Asks Serves Own old first was one → Asks Serves Own first second one two
      → Asks Serves Own second new two is → Asks Serves Own old new was is
  asks_three a b c = asks_then a (asks_then b c)

  -- ---- what is lacking may be told

  pub tells_nothing : {E : Type 0} (m : M) (whole : Bool) (e : E) → AsksTelling Serves Own m m whole whole e e
  tells_nothing m whole e = record { asks = asks_nothing m whole; silent = λ is. refl }

  pub tells_asked : {E : Type 0} (e : E) {old new : M} {was is : Bool} → Asks Serves Own old new was is → AsksTelling Serves Own old new was is e e
  tells_asked e all = record { asks = all; silent = λ is. refl }

  -- nothing is asked
  pub tells_told : {E : Type 0} {unaware aware : E} {old new : M} {was is : Bool} → OnlyTells old new was is unaware aware
      → AsksTelling Serves Own old new was is unaware aware
  tells_told told = record { asks = asks_none told.same told.before; silent = told.silent }

  pub tells_then : {E : Type 0} {first second third : E} {old mid new : M} {was between is : Bool} → AsksTelling Serves Own old mid was between first second
      → AsksTelling Serves Own mid new between is second third → AsksTelling Serves Own old new was is first third
  tells_then one rest = record {
    asks = asks_then one.asks rest.asks;
    silent = λ is. rest.silent is ∙ one.silent (rest.asks.before is);
  }

  -- nothing was told of a copy that is whole
  pub silent_so : {E : Type 0} {unaware aware : E} {old new : M} {was : Bool} (copied : Copied) (is : Bool) → is_whole copied ≡ is
      → AsksTelling Serves Own old new was is unaware aware → IsTrue (is_whole copied) → aware ≡ unaware
  silent_so copied is same all whole = all.silent (sym same ∙ whole)

-- ---- how a copy ends

module _ {M : Type 0} {Serves : M → Event → Reply → M → Type 0} where
  -- a sync that is done, and one that isn't
  pub asks_synced : {old new : M} (whole : Bool) → Serves old Sync Done new → Asks Serves IsMaking old new whole whole
  asks_synced whole serves = asks_one (asked_so Sync Done serves refl (sym (and-true whole))) tt

  pub asks_unsynced : {old mid new : M} (reply : Reply) {was is : Bool} → Serves old Sync reply mid → new ≡ mid → is ≡ false
      → Asks Serves IsMaking old new was is
  asks_unsynced reply serves same lacking = asks_then (asks_one (asked_so Sync reply serves refl refl) tt) (asks_lack same lacking)

  pub unpacked_so : {old new : M} {was : Bool} (copied : Copied) (is : Bool) → is_whole copied ≡ is → Asks Serves IsReading old new was is
      → Copies Serves old new (λ asked. AreUnpacking asked (Ok copied))
  unpacked_so copied is same all = record {
    asked = all.asked;
    goes = all.goes;
    are = record { own = all.own; done = λ whole. all.done (sym same ∙ whole) };
  }

  pub packed_so : {old mid new : M} {was : Bool} (copied : Copied) (is : Bool) → is_whole copied ≡ is → Asks Serves IsMaking old mid was is
      → Serves mid Sync Done new → Copies Serves old new (λ asked. ArePacking asked (Ok copied))
  packed_so {old} {mid} {new} copied is same all serves = record {
    asked = all.asked ++ synced ∷ [];
    goes = goes_then all.goes (goes mid new new synced [] serves (stays new));
    are = (all.asked, refl, record { own = all.own; done = λ whole. all.done (sym same ∙ whole) });
  }

  in_part : {Own : Event → Type 0} {old new : M} {was is : Bool} (all : Asks Serves Own old new was is) → AreCopying Own all.asked false
  in_part all = record { own = all.own; done = λ whole. absurd (true≢false (sym whole)) }

  pub not_unpacked : {old new : M} {was is : Bool} (fault : CopyFault) → Asks Serves IsReading old new was is
      → Copies Serves old new (λ asked. AreUnpacking asked (Err fault))
  not_unpacked fault all = record { asked = all.asked; goes = all.goes; are = in_part all }

  pub not_packed : {old new : M} {was is : Bool} (fault : CopyFault) → Asks Serves IsMaking old new was is
      → Copies Serves old new (λ asked. ArePacking asked (Err fault))
  not_packed fault all = record { asked = all.asked; goes = all.goes; are = in_part all }

  -- between the same states
  pub copies_along : {old start last new : M} {Are : List Asked → Type 0} → start ≡ old → new ≡ last → Copies Serves start last Are
      → Copies Serves old new Are
  copies_along {old} {start} {last} {new} {Are} begun ended all =
      subst (λ m. Copies Serves old m Are) (sym ended) (subst (λ m. Copies Serves m last Are) begun all)

-- all that is asked to copy a tree from a file system only looks
pub unpacking_reads : (asked : List Asked) (unpacked : Result Copied CopyFault) → AreUnpacking asked unpacked → All (λ a. IsReading a.event) asked
unpacking_reads asked (Ok copied) are = are.own
unpacking_reads asked (Err fault) are = are.own

-- ---- what is lacking

pub lacks_so : {M E : Type 0} {unaware aware : E} {old new : M} {was is : Bool} → new ≡ old → is ≡ false → OnlyTells old new was is unaware aware
lacks_so same lacking = record {
  same = same;
  before = λ whole. absurd (true≢false (sym whole ∙ lacking));
  silent = λ whole. absurd (true≢false (sym whole ∙ lacking));
}

pub lacks_nothing : {M E : Type 0} (m : M) (whole : Bool) (e : E) → OnlyTells m m whole whole e e
lacks_nothing m whole e = record { same = refl; before = λ is. is; silent = λ is. refl }

-- what ends early isn't whole
pub not_whole : {A : Type 0} → IsTrue false → A
not_whole whole = absurd (true≢false (sym whole))
