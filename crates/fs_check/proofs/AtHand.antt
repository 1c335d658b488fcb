-- The sectors of pointers at hand.
use Rattle.std.specs.Prelude.{◌≡◌, ℕ, ◌<◌, List, [], length, get_or, set}
use Rattle.std.proofs.Common.{sym, ap, ◌∙◌, inl, inr, get_or-set_other, get_or-set_same}
use Rattle.std.proofs.lemmas.Bool.{cases_eq}
use Rattle.fs_layout.specs.Bytes.{SectorMap}
use Rattle.fs_check.specs.declared.owning.Pointers.{Pointers}
use Rattle.fs_check.specs.Owning.{AreAtHand}

-- one more was read
pub at_hand_more : (m : SectorMap) (old new : Pointers) (at s : ℕ) (content : List ℕ) → AreAtHand m old → at < length old.sectors → at < length old.contents
    → new.sectors ≡ set old.sectors at s → new.contents ≡ set old.contents at content → content ≡ m s → AreAtHand m new
at_hand_more m old new at s content hand few room sectors contents read level some = elim (cases_eq level at) [
  | inl e ↦
      let number : get_or new.sectors level 0 ≡ s = ap (λ l. get_or l level 0) sectors ∙ ap (λ k. get_or (set old.sectors at s) k 0) e
      ∙ get_or-set_same old.sectors at s 0 few in
      ap (λ l. get_or l level []) contents ∙ ap (λ k. get_or (set old.contents at content) k []) e
      ∙ get_or-set_same old.contents at content [] room ∙ read ∙ sym (ap m number)
  | inr ne ↦
      let number : get_or new.sectors level 0 ≡ get_or old.sectors level 0 = ap (λ l. get_or l level 0) sectors ∙ get_or-set_other old.sectors at level s 0 ne in
      let there : get_or new.contents level [] ≡ get_or old.contents level [] = ap (λ l. get_or l level []) contents ∙ get_or-set_other old.contents at level content [] ne in
      there ∙ hand level (λ none. some (number ∙ none)) ∙ sym (ap m number)
]
