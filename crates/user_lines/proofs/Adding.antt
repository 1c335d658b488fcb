-- Lines are added one after another.
use Rattle.std.proofs.Common.{◌≡◌, ℕ, Bool, true, false, cond, List, [], ◌∷◌, ◌++◌, Option, refl, sym, ap, ◌∙◌, append_assoc, append-nil}
use Rattle.std.proofs.KnownBytes.{Appends-trans}
use Rattle.std.specs.Io.KnownBytes.{Appends}
use Rattle.user_lines.specs.Files.{AddsLines, whole_lines, stays_cut, line_start}
use Rattle.user_lines.specs.Seconds.{Telling, has_room_for, with_line, leaving_out}
use Rattle.user_lines.specs.Telling.{TellsLine, second_at, ending_at}
use Rattle.user_lines.specs.declared.file.LineFile.{LineFile}

whole_lines_are : (lines : List ℕ) → whole_lines false lines ≡ lines
whole_lines_are [] = refl
whole_lines_are (b ∷ bs) = refl

stays_whole : (lines : List ℕ) → stays_cut false lines ≡ false
stays_whole [] = refl
stays_whole (b ∷ bs) = refl

pub adds_then : {W : Type 0} (contents : W → Option (List ℕ)) (a b c : LineFile W) (one other : List ℕ)
    → AddsLines contents a b one → AddsLines contents b c other → AddsLines contents a c (one ++ other)
adds_then contents a b c [] other first second = record {
  written = Appends-trans (contents a.out) (contents b.out) (contents c.out) [] (whole_lines a.is_cut other) first.written
      (rw (sym first.whole) second.written);
  whole = second.whole ∙ ap (λ is_cut. stays_cut is_cut other) first.whole;
}
adds_then contents a b c (x ∷ one) other first second =
    let same : (line_start a.is_cut ++ x ∷ one) ++ other ≡ line_start a.is_cut ++ (x ∷ one ++ other) = append_assoc (line_start a.is_cut) (x ∷ one) other in
    let plain : whole_lines b.is_cut other ≡ other = ap (λ is_cut. whole_lines is_cut other) first.whole ∙ whole_lines_are other in
    record {
      written = rw (sym same) (Appends-trans (contents a.out) (contents b.out) (contents c.out) (line_start a.is_cut ++ x ∷ one) other first.written
          (rw (sym plain) second.written));
      whole = second.whole ∙ ap (λ is_cut. stays_cut is_cut other) first.whole ∙ stays_whole other;
    }

-- a line is written where there is room
pub tells_line : {W : Type 0} (contents : W → Option (List ℕ)) (old middle new : LineFile W) (before now after : Telling) (number user : ℕ)
    (line : List ℕ) → AddsLines contents old middle (ending_at before number) → now ≡ second_at before number → has_room_for now user ≡ true
    → AddsLines contents middle new line → after ≡ with_line now user → TellsLine contents old new before after number user line
tells_line contents old middle new before now after number user line ended reached room told counted =
    let here : has_room_for (second_at before number) user ≡ true = ap (λ s. has_room_for s user) (sym reached) ∙ room in
    let text : cond (has_room_for (second_at before number) user) line [] ≡ line = ap (λ b. cond b line []) here in
    record {
      written = rw text (adds_then contents old middle new (ending_at before number) line ended told);
      counted = counted ∙ ap (λ s. with_line s user) reached
          ∙ sym (ap (λ b. cond b (with_line (second_at before number) user) (leaving_out (second_at before number) user)) here);
    }

-- and else it is counted
pub tells_nothing : {W : Type 0} (contents : W → Option (List ℕ)) (old new : LineFile W) (before now after : Telling) (number user : ℕ)
    (line : List ℕ) → AddsLines contents old new (ending_at before number) → now ≡ second_at before number → has_room_for now user ≡ false
    → after ≡ leaving_out now user → TellsLine contents old new before after number user line
tells_nothing contents old new before now after number user line ended reached full counted =
    let here : has_room_for (second_at before number) user ≡ false = ap (λ s. has_room_for s user) (sym reached) ∙ full in
    let text : ending_at before number ++ cond (has_room_for (second_at before number) user) line [] ≡ ending_at before number =
    ap (λ b. ending_at before number ++ cond b line []) here ∙ append-nil (ending_at before number) in
    record {
      written = rw text ended;
      counted = counted ∙ ap (λ s. leaving_out s user) reached
          ∙ sym (ap (λ b. cond b (with_line (second_at before number) user) (leaving_out (second_at before number) user)) here);
    }
