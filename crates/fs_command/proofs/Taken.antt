-- Where `clap`'s definition finds no fault in the words, each argument that is given has a value that its parser takes.
use Rattle.std.specs.Prelude.{◌≡◌, ◌==◌, ◌⊎◌, ◌&&◌, ◌||◌, ℕ, Bool, true, false, not, zero, suc, List, [], ◌∷◌, ◌++◌, Option, Some, None, is_some, find}
use Rattle.std.specs.Prelude.{fold, length, drop, encode_utf8, slice_get, if◌then◌else◌, option_map, option_and_then, codes}
use Rattle.std.proofs.Common.{◌∙◌, sym, refl, ap, subst, inl, inr}
use Rattle.std.proofs.Math.Dec.{eqb-zero-suc}
use Rattle.std.specs.List.{list_any}
use Rattle.std.specs.Option.{option_map_or}
use Rattle.std.specs.Str.{bytes_eq, chars}
use Rattle.std.proofs.lemmas.Slice.Eq.{bytes_eq-Decides}
use Rattle.clap.specs.Lexer.{long_of, short_of}
use Rattle.clap.specs.Values.{bool_text, read_as}
use Rattle.clap.specs.Facts.{explicit_source, parser_of_value, unwrap_or_range}
use Rattle.clap.specs.Kinds.{Kinds, check_kinds, or_else, range_kinds, value_kinds}
use Rattle.clap.specs.Takes.{is_given, value_passes}
use Rattle.clap.specs.Walk.{Held, Outcome, Row, Rule, Step, Text, Waiting, Walk, action_of, after_flag, after_step, arg_by_id, arg_by_index}
use Rattle.clap.specs.Walk.{arg_by_long, arg_by_short, at_row, attached_value, bundle, bundle_met, bundle_step, default_rows, done, finished, first_of, flag_met}
use Rattle.clap.specs.Walk.{has_row, idle, is_pending, long_met, long_or_other, more_values, most_values, next, nothing_held, one_of, option}
use Rattle.clap.specs.Walk.{option_met, option_word, plain, plain_word, positional, positional_held, reacted, reading_by, refused, row_text}
use Rattle.clap.specs.Walk.{rows_after, settled, settled_rows, short_met, short_or_plain, subcommand, subcommand_or_other, takes_several}
use Rattle.clap.specs.Walk.{takes_values, to_positional, trailing, used, used_as, used_by_id, value, values_or_missing, waits, walk, walk_from}
use Rattle.clap.specs.Walk.{walked, walked_from, stronger, with_default, without, word_met}
use Rattle.clap.specs.Simple.{Shape}
use Rattle.clap.specs.Faults.{action_fault, bundle_fault, bundle_step_fault, check_fault, defaults_fault, flag_word_fault, flags_fault, level_fault}
use Rattle.clap.specs.Faults.{long_fault, option_fault, positional_fault, react_fault, repeat_fault, set_fault, settle_fault, short_fault, step_fault}
use Rattle.clap.specs.Faults.{stray_fault, turn_fault, use_fault, values_fault, walk_fault, word_fault}
use Rattle.clap.specs.declared.builder.action.ArgAction.TheVariants.{Set, SetTrue, Help}
use Rattle.clap.specs.declared.error.kind.ErrorKind.TheVariants as kind
use Rattle.clap.specs.declared.builder.range.ValueRange.{ValueRange}
use Rattle.clap.specs.declared.builder.value_parser.Reading.TheVariants.{AsWritten}
use Rattle.clap.specs.declared.parser.matches.ValueSource.{ValueSource}
use Rattle.clap.specs.declared.parser.matches.ValueSource.TheVariants.{CommandLine, DefaultValue}
use Rattle.fs_command.specs.Words.{IsFlag}

-- ---- lists

abbrev pub Each : {X : Type 0} → (X → Type 0) → List X → Type 0
Each P [] = Unit {0}
Each P (x ∷ xs) = P x × Each P xs

each_append : {X : Type 0} (P : X → Type 0) (xs ys : List X) → Each P xs → Each P ys → Each P (xs ++ ys)
each_append P [] ys h k = k
each_append P (x ∷ xs) ys h k = (h.0, each_append P xs ys h.1 k)

pub found_holds : {X : Type 0} (P : X → Type 0) (p : X → Bool) (xs : List X) (x : X) → Each P xs → find p xs ≡ Some x → P x
found_holds P p [] x h found = cc
found_holds P p (y ∷ ys) x h found = go (p y) found (found_holds P p ys x h.1)
  where
    go : (b : Bool) → (if b then Some y else find p ys) ≡ Some x → (find p ys ≡ Some x → P x) → P x
    go true e rest = subst P (ap (λ o. option_map_or (λ z. z) o y) e) h.0
    go false e rest = rest e

pub no_kinds : (a b : Kinds) → or_else a b ≡ [] → (a ≡ []) × (b ≡ [])
no_kinds [] b e = (refl, e)
no_kinds (k ∷ ks) b e = cc

-- ---- one use of an argument

-- a word takes a value, and has none by itself
abbrev TakesOne : Rule → Type 0
TakesOne a = (action_of a ≡ Set) × (a.defaults ≡ []) × ((unwrap_or_range a.range).start_inclusive ≡ 1)

-- a word takes no value, and stands for true where it is used and else for false
abbrev IsSwitch : Rule → Type 0
IsSwitch a = (action_of a ≡ SetTrue) × (a.defaults ≡ codes "false" ∷ []) × (a.missing ≡ codes "true" ∷ [])
    × (unwrap_or_range a.range ≡ record { start_inclusive = 0; end_inclusive = 0 })
    × (reading_by a ≡ AsWritten) × (value_passes a (codes "false") ≡ true)

-- the argument is the one of its name. It takes a value, is a flag, or asks for the help.
abbrev pub Sound : List Rule → Rule → Type 0
Sound c a = (arg_by_id c a.id ≡ Some a) × (TakesOne a ⊎ (IsSwitch a ⊎ ((action_of a ≡ Help) × (a.defaults ≡ []))))

-- the row has a value that the argument takes, and what is said of it holds
abbrev Holds : (Rule → Option ValueSource → Text → Type 0) → Rule → Row → Type 0
Holds Says a r = (v : Text) × (slice_get r.values 0 ≡ Some v) × (value_passes a v ≡ true) × (r.reading ≡ reading_by a) × Says a r.source v

abbrev RowHolds : (Rule → Option ValueSource → Text → Type 0) → List Rule → Row → Type 0
RowHolds Says c r = (a : Rule) → arg_by_id c r.id ≡ Some a → Holds Says a r

-- the words gave it
abbrev IsWorded : Rule → Option ValueSource → Text → Type 0
IsWorded a source v = (source ≡ Some CommandLine) × (action_of a ≡ SetTrue → v ≡ codes "true")

abbrev IsTaken : Rule → Row → Type 0
IsTaken = Holds IsWorded

abbrev RowOk : List Rule → Row → Type 0
RowOk = RowHolds IsWorded

abbrev RowsOk : List Rule → List Row → Type 0
RowsOk c = Each (RowOk c)

-- the words or a default gave it, and a flag's says which
abbrev IsTold : Rule → Option ValueSource → Text → Type 0
IsTold a source v = action_of a ≡ SetTrue → v ≡ bool_text (explicit_source source)

abbrev RowsTold : List Rule → List Row → Type 0
RowsTold c = Each (RowHolds IsTold c)

at_row_keeps : (P : Row → Type 0) (id : Text) (change : Row → List Row) (missing : List Row) (rows : List Row)
    → ((r : Row) → P r → Each P (change r)) → Each P missing → Each P rows → Each P (at_row id change missing rows)
at_row_keeps P id change missing [] changed new h = new
at_row_keeps P id change missing (r ∷ rs) changed new h = go (bytes_eq r.id id) (at_row_keeps P id change missing rs changed new h.1)
  where
    go : (b : Bool) → Each P (at_row id change missing rs) → Each P (if b then change r ++ rs else r ∷ at_row id change missing rs)
    go true rest = each_append P (change r) rs (changed r h.0) h.1
    go false rest = (h.0, rest)

first_stays : (xs ys : List Text) (v : Text) → slice_get xs 0 ≡ Some v → slice_get (xs ++ ys) 0 ≡ Some v
first_stays [] ys v e = cc
first_stays (x ∷ xs) ys v e = e

value_taken : (a : Rule) (v : Text) → value_kinds a.ignore_case (parser_of_value a.parser) v ≡ [] → value_passes a v ≡ true
value_taken a v e = go (value_passes a v) e
  where
    go : (b : Bool) → (if b then [] else Rattle.clap.specs.Values.refused_kind (parser_of_value a.parser) ∷ []) ≡ [] → b ≡ true
    go true e = refl
    go false e = cc

-- a flag takes no value
too_many : (v : Text) (vs : List Text) → range_kinds 0 0 (length (v ∷ vs)) ≡ [] → ⊥
too_many v vs e = go (0 == length (v ∷ vs)) (eqb-zero-suc (length vs)) e
  where
    go : (b : Bool) → b ≡ false → (if b then [] else kind.WrongNumberOfValues ∷ []) ≡ [] → ⊥
    go true is e = cc
    go false is e = cc

module _ (c : List Rule) (again : Bool) where
  more_keeps : (v : Text) (vs : List Text) (r : Row) → RowOk c r → RowsOk c (more_values CommandLine (v ∷ vs) r)
  more_keeps v vs r h = (more, tt)
    where
      more : (b : Rule) → arg_by_id c r.id ≡ Some b → IsTaken b (record r { values = r.values ++ v ∷ vs; source = Some (stronger r.source CommandLine) })
      more b found =
          let was = h b found in
          let given : Some (stronger r.source CommandLine) ≡ Some CommandLine = ap (λ o. Some (stronger o CommandLine)) was.4.0 in
          (was.0, first_stays r.values (v ∷ vs) was.0 was.1, was.2, was.3, (given, was.4.1))

  abbrev new_row : Rule → Text → List Text → Row
  new_row a v vs = record { id = a.id; values = v ∷ vs; count = None; source = Some CommandLine; reading = reading_by a }

  new_keeps : (a : Rule) (v : Text) (vs : List Text) → arg_by_id c a.id ≡ Some a → value_passes a v ≡ true
      → (action_of a ≡ SetTrue → v ≡ codes "true") → RowOk c (new_row a v vs)
  new_keeps a v vs own passes says b found = subst (λ (x : Rule). IsTaken x (new_row a v vs)) (ap (λ o. option_map_or (λ z. z) o a) (sym own ∙ found)) taken
    where
      taken : IsTaken a (new_row a v vs)
      taken = (v, refl, passes, refl, (refl, says))

  set_keeps : (a : Rule) (v : Text) (vs : List Text) (rows : List Row) → arg_by_id c a.id ≡ Some a → (action_of a ≡ SetTrue → v ≡ codes "true")
      → set_fault again a (v ∷ vs) rows ≡ [] → RowsOk c rows → RowsOk c (used_as Set a.id (reading_by a) (v ∷ vs) rows)
  set_keeps a v vs rows own says fault ok =
      let passes = value_taken a v (no_kinds _ _ (no_kinds (repeat_fault again a.id rows) (values_fault a (v ∷ vs)) fault).1).0 in
      at_row_keeps (RowOk c) a.id (more_values CommandLine (v ∷ vs)) (new_row a v vs ∷ []) (without a.id rows)
      (more_keeps v vs) (new_keeps a v vs own passes says, tt)
      (at_row_keeps (RowOk c) a.id (λ _. []) [] rows (λ r h. tt) tt ok)

  -- a use with no fault has values in number, and the action takes them
  use_parts : (a : Rule) (values : List Text) (rows : List Row) → use_fault again a values rows ≡ []
      → (range_kinds (unwrap_or_range a.range).start_inclusive (most_values a) (length values) ≡ [])
      × (action_fault (action_of a) again a (values_or_missing a values) rows ≡ [])
  use_parts a values rows fault = no_kinds (range_kinds (unwrap_or_range a.range).start_inclusive (most_values a) (length values))
      (action_fault (action_of a) again a (values_or_missing a values) rows) fault

  used_keeps : (a : Rule) (values : List Text) (rows : List Row) → Sound c a → use_fault again a values rows ≡ [] → RowsOk c rows
      → RowsOk c (used a values rows)
  used_keeps a values rows sound fault ok = elim sound.1 [
    | inl set ↦ one values fault set
    | inr (inl switch) ↦ none values fault switch
    | inr (inr help) ↦
        let asked = rw help.0 at (use_parts a values rows fault).1 in
        cc
  ]
    where
      no_switch : (v : Text) → Set ≡ SetTrue → v ≡ codes "true"
      no_switch v e = cc

      one : (vs : List Text) → use_fault again a vs rows ≡ [] → TakesOne a → RowsOk c (used a vs rows)
      one [] fault set =
          let bad = rw set.2 at (use_parts a [] rows fault).0 in
          cc
      one (v ∷ vs) fault set =
          let asked = rw set.0 at (use_parts a (v ∷ vs) rows fault).1 in
          rw set.0 (set_keeps a v vs rows sound.0 (λ e. no_switch v (sym set.0 ∙ e)) asked ok)

      none : (vs : List Text) → use_fault again a vs rows ≡ [] → IsSwitch a → RowsOk c (used a vs rows)
      none [] fault switch =
          let asked = rw (switch.0, switch.2) at (use_parts a [] rows fault).1 in
          rw (switch.0, switch.2) (set_keeps a (codes "true") [] rows sound.0 (λ e. refl) asked ok)
      none (v ∷ vs) fault switch =
          absurd (too_many v vs (subst (λ (r : ValueRange). range_kinds r.start_inclusive r.end_inclusive (length (v ∷ vs)) ≡ []) switch.3
          (use_parts a (v ∷ vs) rows fault).0))

  -- ---- what is held between two words

  abbrev SoundIf : Option Rule → Type 0
  SoundIf o = (a : Rule) → o ≡ Some a → Sound c a

  used_if : (o : Option Rule) (values : List Text) (rows : List Row) → SoundIf o → option_map_or (λ a. use_fault again a values rows) o [] ≡ []
      → RowsOk c rows → RowsOk c (used_by_id o values rows)
  used_if None values rows sound fault ok = ok
  used_if (Some a) values rows sound fault ok = used_keeps a values rows (sound a refl) fault ok

  module _ (each : Each (Sound c) c) where
    sound_of : (p : Rule → Bool) → SoundIf (find p c)
    sound_of p a found = found_holds (Sound c) p c a each found

    settled_keeps : (h : Held) → settle_fault c again h ≡ [] → RowsOk c h.rows → RowsOk c (settled c h).rows
    settled_keeps h fault ok = go h.pending fault
      where
        go : (p : Option (Text × List Text)) → option_map_or (λ q. option_map_or (λ a. use_fault again a q.1 h.rows) (arg_by_id c q.0) []) p [] ≡ []
            → RowsOk c (settled_rows c p h.rows)
        go None fault = ok
        go (Some q) fault = used_if (arg_by_id c q.0) q.1 h.rows (sound_of (λ a. bytes_eq a.id q.0)) fault ok

    reacted_keeps : (a : Rule) (values : List Text) (h : Held) → Sound c a → react_fault c again a values h ≡ [] → RowsOk c h.rows
        → RowsOk c (reacted c a values h).rows
    reacted_keeps a values h sound fault ok =
        let parts = no_kinds (settle_fault c again h) (use_fault again a values (settled c h).rows) fault in
        used_keeps a values (settled c h).rows sound parts.1 (settled_keeps h parts.0 ok)

    option_keeps : (a : Rule) (v : Option Text) (h : Held) → Sound c a → option_fault c again a v h ≡ [] → RowsOk c h.rows
        → RowsOk c (option_met c a v h).0.rows
    option_keeps a (Some v) h sound fault ok = reacted_keeps a (v ∷ []) h sound fault ok
    option_keeps a None h sound fault ok = settled_keeps h fault ok

    flag_keeps : (a : Rule) (v : Option Text) (h : Held) → Sound c a → (if is_some v then kind.TooManyValues ∷ [] else react_fault c again a [] h) ≡ []
        → RowsOk c h.rows → RowsOk c (flag_met c a v h).0.rows
    flag_keeps a (Some v) h sound fault ok = ok
    flag_keeps a None h sound fault ok = reacted_keeps a [] h sound fault ok

    long_keeps : (o : Option Rule) (v : Option Text) (h : Held) → SoundIf o → long_fault c again o v h ≡ [] → RowsOk c h.rows
        → RowsOk c (long_met c o v h).0.rows
    long_keeps None v h sound fault ok = ok
    long_keeps (Some a) v h sound fault ok = go (takes_values a) fault
      where
        go : (b : Bool) → (if b then option_fault c again a v h else (if is_some v then kind.TooManyValues ∷ [] else react_fault c again a [] h)) ≡ []
            → RowsOk c (if b then option_met c a v h else flag_met c a v h).0.rows
        go true fault = option_keeps a v h (sound a refl) fault ok
        go false fault = flag_keeps a v h (sound a refl) fault ok

    short_keeps : (o : Option Rule) (rest : Text) (h : Held) (onward : Held → Held × Outcome) (fails : Held → Kinds) → SoundIf o
        → ((k : Held) → fails k ≡ [] → RowsOk c k.rows → RowsOk c (onward k).0.rows)
        → short_fault c again o rest h fails ≡ [] → RowsOk c h.rows → RowsOk c (short_met c o rest h onward).0.rows
    short_keeps None rest h onward fails sound more fault ok = ok
    short_keeps (Some a) rest h onward fails sound more fault ok = go (takes_values a) fault
      where
        go : (b : Bool) → (if b then option_fault c again a (attached_value rest) h else or_else (react_fault c again a [] h) (fails (reacted c a [] h))) ≡ []
            → RowsOk c (if b then option_met c a (attached_value rest) h else onward (reacted c a [] h)).0.rows
        go true fault = option_keeps a (attached_value rest) h (sound a refl) fault ok
        go false fault =
            let parts = no_kinds (react_fault c again a [] h) (fails (reacted c a [] h)) fault in
            more (reacted c a [] h) parts.1 (reacted_keeps a [] h (sound a refl) parts.0 ok)

    bundle_keeps : (k : ℕ) (flags : Text) (skip : ℕ) (so_far : Outcome) (h : Held) → flags_fault c again k flags skip h ≡ []
        → RowsOk c h.rows → RowsOk c (bundle_met c k flags skip so_far h).0.rows
    unfolding bundle_met flags_fault
    bundle_keeps zero flags skip so_far h fault ok = ok
    bundle_keeps (suc k) flags skip so_far h fault ok = go (slice_get (chars flags) 0) skip fault (bundle_keeps k)
      where
        go : (x : Option ℕ) (skip : ℕ) → bundle_step_fault c again x flags skip h (flags_fault c again k) ≡ []
            → ((flags : Text) (skip : ℕ) (so_far : Outcome) (h : Held) → flags_fault c again k flags skip h ≡ []
            → RowsOk c h.rows → RowsOk c (bundle_met c k flags skip so_far h).0.rows)
            → RowsOk c (bundle_step c x flags skip so_far h (bundle_met c k)).0.rows
        go None skip fault more = ok
        go (Some x) zero fault more =
            let rest = drop (length (encode_utf8 x)) flags in
            short_keeps (arg_by_short c x) rest h (bundle_met c k rest 0 done) (flags_fault c again k rest 0) (sound_of _) (more rest 0 done) fault ok
        go (Some x) (suc skip) fault more = more (drop (length (encode_utf8 x)) flags) skip so_far h fault ok

    plain_keeps : (waiting : Waiting) (word : Text) (h : Held) → RowsOk c h.rows → RowsOk c (plain_word c waiting word h).0.rows
    plain_keeps (option id) word h ok = go (arg_by_id c id)
      where
        go : (o : Option Rule) → RowsOk c (option_word o id word h).0.rows
        go None = ok
        go (Some a) = ok
    plain_keeps idle word h ok = ok
    plain_keeps positional word h ok = ok

    flagged_keeps : (o : Outcome) (waiting : Waiting) (word : Text) (h : Held) → RowsOk c h.rows → RowsOk c (after_flag c waiting word h o).0.rows
    flagged_keeps done waiting word h ok = ok
    flagged_keeps (waits id) waiting word h ok = ok
    flagged_keeps plain waiting word h ok = plain_keeps waiting word h ok
    flagged_keeps refused waiting word h ok = plain_keeps waiting word h ok

    short_word_keeps : (o : Option Text) (waiting : Waiting) (word : Text) (h : Held) → option_map_or (λ flags. bundle_fault c again flags h) o [] ≡ []
        → RowsOk c h.rows → RowsOk c (short_or_plain c waiting word o h).0.rows
    short_word_keeps None waiting word h fault ok = plain_keeps waiting word h ok
    short_word_keeps (Some flags) waiting word h fault ok =
        flagged_keeps (bundle c flags h).1 waiting word (bundle c flags h).0 (bundle_keeps (length flags) flags h.skip plain (record h { skip = 0 }) fault ok)

    flag_word_keeps : (o : Option (Text × Option Text)) (waiting : Waiting) (word : Text) (h : Held) → flag_word_fault c again o word h ≡ []
        → RowsOk c h.rows → RowsOk c (long_or_other c waiting word o h).0.rows
    flag_word_keeps (Some p) waiting word h fault ok =
        flagged_keeps (long_met c (arg_by_long c p.0) p.1 h).1 waiting word (long_met c (arg_by_long c p.0) p.1 h).0
        (long_keeps (arg_by_long c p.0) p.1 h (sound_of _) fault ok)
    flag_word_keeps None waiting word h fault ok = short_word_keeps (short_of word) waiting word h fault ok

    other_keeps : (waiting : Waiting) (position : ℕ) (word : Text) (h : Held)
        → (if bytes_eq word (45 ∷ 45 ∷ []) then [] else flag_word_fault c again (long_of word) word h) ≡ []
        → RowsOk c h.rows → RowsOk c (subcommand_or_other c None waiting position word h).0.rows
    other_keeps waiting position word h fault ok = go (bytes_eq word (45 ∷ 45 ∷ [])) fault
      where
        go : (b : Bool) → (if b then [] else flag_word_fault c again (long_of word) word h) ≡ []
            → RowsOk c (if b then (h, trailing position) else long_or_other c waiting word (long_of word) h).0.rows
        go true fault = ok
        go false fault = flag_word_keeps (long_of word) waiting word h fault ok

    positional_keeps : (a : Rule) (word : Text) (h : Held) → positional_fault c again a h ≡ [] → RowsOk c h.rows → RowsOk c (positional_held c a word h).rows
    positional_keeps a word h fault ok = go (is_pending a h.pending && takes_several a) fault
      where
        go : (b : Bool) → (if b then [] else settle_fault c again h) ≡ [] → RowsOk c (if b then h else settled c h).rows
        go true fault = ok
        go false fault = settled_keeps h fault ok

-- ---- the walk

module _ (s : Shape) (each : Each (Sound s.rules) s.rules) where
  met_keeps : (is_trailing : Bool) (waiting : Waiting) (position : ℕ) (word : Text) (h : Held) → word_fault s [] is_trailing waiting word h ≡ []
      → RowsOk s.rules h.rows → RowsOk s.rules (word_met s.rules [] is_trailing waiting position word h).0.rows
  met_keeps true waiting position word h fault ok = ok
  met_keeps false idle position word h fault ok = other_keeps s.rules s.args_override_self each idle position word h fault ok
  met_keeps false (option id) position word h fault ok = other_keeps s.rules s.args_override_self each (option id) position word h fault ok
  met_keeps false positional position word h fault ok = other_keeps s.rules s.args_override_self each positional position word h fault ok

  to_keeps : (o : Option Rule) (word : Text) (w : Walk) (h : Held)
      → option_map_or (λ a. positional_fault s.rules s.args_override_self a h) o (stray_fault s) ≡ []
      → RowsOk s.rules h.rows → RowsOk s.rules (to_positional s.rules o word w h).held.rows
  to_keeps None word w h fault ok = ok
  to_keeps (Some a) word w h fault ok = positional_keeps s.rules s.args_override_self each a word h fault ok

  step_keeps : (step : Step) (word : Text) (w : Walk) (h : Held) → step_fault s w.position h step ≡ []
      → RowsOk s.rules h.rows → RowsOk s.rules (after_step s.rules word w h step).held.rows
  step_keeps (next waiting) word w h fault ok = ok
  step_keeps (trailing position) word w h fault ok = ok
  step_keeps (subcommand name) word w h fault ok = ok
  step_keeps value word w h fault ok = to_keeps (arg_by_index s.rules w.position) word w h fault ok

  turn_keeps : (w : Walk) (word : Text) → turn_fault s [] w word ≡ [] → RowsOk s.rules w.held.rows → RowsOk s.rules (walked s.rules [] w word).held.rows
  unfolding walked
  turn_keeps w word fault ok = go w.stopped fault
    where
      go : (o : Option (Text × List Text))
          → (if is_some o then [] else or_else (word_fault s [] w.is_trailing w.waiting word w.held)
          (step_fault s w.position (word_met s.rules [] w.is_trailing w.waiting w.position word w.held).0
          (word_met s.rules [] w.is_trailing w.waiting w.position word w.held).1)) ≡ []
          → RowsOk s.rules (walked_from s.rules [] o w word).held.rows
      go (Some p) fault = ok
      go None fault =
          let met = word_met s.rules [] w.is_trailing w.waiting w.position word w.held in
          let parts = no_kinds (word_fault s [] w.is_trailing w.waiting word w.held) (step_fault s w.position met.0 met.1) fault in
          step_keeps met.1 word w met.0 parts.1 (met_keeps w.is_trailing w.waiting w.position word w.held parts.0 ok)

  walk_keeps : (words : List Text) (w : Walk) → walk_fault s [] w words ≡ [] → RowsOk s.rules w.held.rows
      → RowsOk s.rules (fold (walked s.rules []) w words).held.rows
  unfolding walk_fault
  walk_keeps [] w fault ok = ok
  walk_keeps (word ∷ rest) w fault ok =
      let parts = no_kinds (turn_fault s [] w word) (walk_fault s [] (walked s.rules [] w word) rest) fault in
      walk_keeps rest (walked s.rules [] w word) parts.1 (turn_keeps w word parts.0 ok)

-- ---- defaults

at_row_new : (P : Row → Type 0) (id : Text) (change : Row → List Row) (missing : List Row) (rows : List Row)
    → has_row id rows ≡ false → Each P missing → Each P rows → Each P (at_row id change missing rows)
at_row_new P id change missing [] none new h = new
at_row_new P id change missing (r ∷ rs) none new h = go (bytes_eq r.id id) none (at_row_new P id change missing rs)
  where
    go : (b : Bool) → (b || has_row id rs) ≡ false
        → (has_row id rs ≡ false → Each P missing → Each P rs → Each P (at_row id change missing rs))
        → Each P (if b then change r ++ rs else r ∷ at_row id change missing rs)
    go true none rest = cc
    go false none rest = (h.0, rest none new h.1)

-- what the words gave is told
all_told : (c : List Rule) (rows : List Row) → RowsOk c rows → RowsTold c rows
all_told c [] ok = tt
all_told c (r ∷ rs) ok = (told, all_told c rs ok.1)
  where
    told : RowHolds IsTold c r
    told a found =
        let was = ok.0 a found in
        (was.0, was.1, was.2, was.3, λ e. was.4.1 e ∙ ap (λ o. bool_text (explicit_source o)) (sym was.4.0))

module _ (c : List Rule) where
  abbrev default_row : Rule → Row
  default_row a = record { id = a.id; values = codes "false" ∷ []; count = None; source = Some DefaultValue; reading = reading_by a }

  default_told : (a : Rule) → arg_by_id c a.id ≡ Some a → value_passes a (codes "false") ≡ true → RowHolds IsTold c (default_row a)
  default_told a own passes b found = subst (λ (x : Rule). Holds IsTold x (default_row a)) (ap (λ o. option_map_or (λ z. z) o a) (sym own ∙ found)) held
    where
      held : Holds IsTold a (default_row a)
      held = (codes "false", refl, passes, refl, λ e. refl)

  -- an argument has no default, or is a flag
  default_of : (a : Rule) → Sound c a → (a.defaults ≡ []) ⊎ ((a.defaults ≡ codes "false" ∷ []) × (value_passes a (codes "false") ≡ true))
  default_of a (own, inl set) = inl set.1
  default_of a (own, inr (inl switch)) = inr (switch.1, switch.5)
  default_of a (own, inr (inr help)) = inl help.1

  default_keeps : (a : Rule) (rows : List Row) → Sound c a → RowsTold c rows → RowsTold c (with_default rows a)
  default_keeps a rows sound told = go (has_row a.id rows) refl
    where
      go : (b : Bool) → has_row a.id rows ≡ b → RowsTold c (if b then rows else default_rows a.id (reading_by a) a.defaults rows)
      go true e = told
      go false e = elim (default_of a sound) [
        | inl empty ↦ rw empty told
        | inr has ↦ rw has.0 (at_row_new (RowHolds IsTold c) a.id (more_values DefaultValue (codes "false" ∷ [])) (default_row a ∷ []) rows e (default_told a sound.0 has.1, tt) told)
      ]

  defaults_keep : (rules : List Rule) (rows : List Row) → Each (Sound c) rules → RowsTold c rows → RowsTold c (fold with_default rows rules)
  defaults_keep [] rows each told = told
  defaults_keep (a ∷ rest) rows each told = defaults_keep rest (with_default rows a) each.1 (default_keeps a rows each.0 told)

-- the rows of a command whose words have no fault
leaf_rows : (s : Shape) (words : List Text) → Each (Sound s.rules) s.rules → level_fault s [] nothing_held words false [] ≡ []
    → RowsTold s.rules (rows_after s.rules [] words) × (check_fault s (rows_after s.rules [] words) false ≡ [])
leaf_rows s words each fault =
    let end = (walk s.rules [] nothing_held words).held in
    let one = no_kinds (walk_fault s [] (walk_from nothing_held) words) _ fault in
    let two = no_kinds (settle_fault s.rules s.args_override_self end) _ one.1 in
    let three = no_kinds (defaults_fault (settled s.rules end).rows s.rules) (check_fault s (finished s.rules end) false) two.1 in
    let ok = settled_keeps s.rules s.args_override_self each end two.0 (walk_keeps s each words (walk_from nothing_held) one.0 tt) in
    (defaults_keep s.rules s.rules (settled s.rules end).rows each (all_told s.rules (settled s.rules end).rows ok), three.1)

-- ---- values

-- the argument has a value that it takes
abbrev pub HasValue : List Row → Rule → Type 0
HasValue rows a = (v : Text) × (first_of a.id rows ≡ Some v) × (one_of a.id rows ≡ Some (read_as (reading_by a) v)) × (value_passes a v ≡ true)

is_named : (id : Text) (rows : List Row) (r : Row) → find (λ r. bytes_eq r.id id) rows ≡ Some r → bytes_eq r.id id ≡ true
is_named id [] r e = cc
is_named id (x ∷ xs) r e = pick (bytes_eq x.id id) refl e (is_named id xs r)
  where
    pick : (b : Bool) → bytes_eq x.id id ≡ b → (if b then Some x else find (λ r. bytes_eq r.id id) xs) ≡ Some r
        → (find (λ r. bytes_eq r.id id) xs ≡ Some r → bytes_eq r.id id ≡ true) → bytes_eq r.id id ≡ true
    pick true t e rest = subst (λ (z : Row). bytes_eq z.id id ≡ true) (ap (λ o. option_map_or (λ z. z) o x) e) t
    pick false t e rest = rest e

-- what holds of the row of an argument
row_at : (c : List Rule) (rows : List Row) (a : Rule) (r : Row) → RowsTold c rows → Sound c a → find (λ r. bytes_eq r.id a.id) rows ≡ Some r
    → Holds IsTold a r
row_at c rows a r ok sound e =
    let same : r.id ≡ a.id = (bytes_eq-Decides r.id a.id).0 (is_named a.id rows r e) in
    found_holds (RowHolds IsTold c) (λ r. bytes_eq r.id a.id) rows r ok e a (ap (arg_by_id c) same ∙ sound.0)

-- a value that is given is one that its argument takes
value_at : (c : List Rule) (rows : List Row) (a : Rule) → RowsTold c rows → Sound c a → is_given a.id rows ≡ true → HasValue rows a
value_at c rows a ok sound given = go (find (λ r. bytes_eq r.id a.id) rows) refl given
  where
    go : (o : Option Row) → find (λ r. bytes_eq r.id a.id) rows ≡ o → option_map_or (λ r. explicit_source r.source) o false ≡ true → HasValue rows a
    go None e given = cc
    go (Some r) e given =
        let t = row_at c rows a r ok sound e in (
          t.0,
          ap (option_and_then (λ (x : Row). slice_get x.values 0)) e ∙ t.1,
          ap (option_and_then row_text) e ∙ ap (option_map (read_as r.reading)) t.1 ∙ ap (λ how. Some (read_as how t.0)) t.3,
          t.2,
        )

wants_none : (x y z : Bool) → check_kinds x y z ≡ [] → z ≡ false
wants_none true y z e = cc
wants_none false true z e = cc
wants_none false false true e = cc
wants_none false false false e = refl

-- each argument that has to be given has a value
given_values : (c xs : List Rule) (rows : List Row) → RowsTold c rows → Each (Sound c) xs → list_any (λ a. a.required && not (is_given a.id rows)) xs ≡ false
    → Each (λ a. a.required ≡ true → HasValue rows a) xs
given_values c [] rows ok each none = tt
given_values c (a ∷ rest) rows ok each none = go a.required (is_given a.id rows) refl refl none (given_values c rest rows ok each.1)
  where
    go : (b g : Bool) → a.required ≡ b → is_given a.id rows ≡ g → ((b && not g) || list_any (λ a. a.required && not (is_given a.id rows)) rest) ≡ false
        → (list_any (λ a. a.required && not (is_given a.id rows)) rest ≡ false → Each (λ a. a.required ≡ true → HasValue rows a) rest)
        → (a.required ≡ true → HasValue rows a) × Each (λ a. a.required ≡ true → HasValue rows a) rest
    go true true b g none more = ((λ r. value_at c rows a ok each.0 g), more none)
    go true false b g none more = cc
    go false g b _ none more = ((λ r. cc), more none)

-- the values of a command whose words have no fault
pub leaf_values : (s : Shape) (words : List Text) → Each (Sound s.rules) s.rules → s.subcommand_negates_reqs ≡ false
    → level_fault s [] nothing_held words false [] ≡ []
    → Each (λ a. a.required ≡ true → HasValue (rows_after s.rules [] words) a) s.rules
leaf_values s words each negates fault =
    let rows = rows_after s.rules [] words in
    let r = leaf_rows s words each fault in
    let none : (not (s.subcommand_negates_reqs && false) && list_any (λ a. a.required && not (is_given a.id rows)) s.rules) ≡ false = wants_none _ _ _ r.1 in
    given_values s.rules s.rules rows r.0 each (rw negates at none)

-- ---- flags

-- a flag's value says whether the words have it
flag_at : (c : List Rule) (rows : List Row) (a : Rule) → RowsTold c rows → Sound c a → IsSwitch a → IsFlag a.id rows
flag_at c rows a ok sound switch = go (find (λ r. bytes_eq r.id a.id) rows) refl
  where
    go : (o : Option Row) → find (λ r. bytes_eq r.id a.id) rows ≡ o
        → (option_and_then row_text o ≡ Some (bool_text (option_map_or (λ r. explicit_source r.source) o false)))
        ⊎ ((option_and_then row_text o ≡ None) × (option_map_or (λ r. explicit_source r.source) o false ≡ false))
    go None e = inr (refl, refl)
    go (Some r) e =
        let t = row_at c rows a r ok sound e in
        inl (ap (option_map (read_as r.reading)) t.1 ∙ ap (λ how. Some (read_as how t.0)) (t.3 ∙ switch.4) ∙ ap Some (t.4 switch.0))

flags_at : (c xs : List Rule) (rows : List Row) → RowsTold c rows → Each (Sound c) xs → Each (λ a. IsSwitch a → IsFlag a.id rows) xs
flags_at c [] rows ok each = tt
flags_at c (a ∷ rest) rows ok each = (flag_at c rows a ok each.0, flags_at c rest rows ok each.1)

-- the flags of a command whose words have no fault
pub leaf_flags : (s : Shape) (words : List Text) → Each (Sound s.rules) s.rules → level_fault s [] nothing_held words false [] ≡ []
    → Each (λ a. IsSwitch a → IsFlag a.id (rows_after s.rules [] words)) s.rules
leaf_flags s words each fault = flags_at s.rules s.rules (rows_after s.rules [] words) (leaf_rows s words each fault).0 each

-- ---- what may be given

-- the text is a value that the argument takes, as it is read
abbrev pub IsTakenText : Rule → Text → Type 0
IsTakenText a text = (v : Text) × (text ≡ read_as (reading_by a) v) × (value_passes a v ≡ true)

-- the text of an argument, where it has one
text_at : (c : List Rule) (rows : List Row) (a : Rule) → RowsTold c rows → Sound c a → (text : Text) → one_of a.id rows ≡ Some text → IsTakenText a text
text_at c rows a ok sound text = go (find (λ r. bytes_eq r.id a.id) rows) refl
  where
    go : (o : Option Row) → find (λ r. bytes_eq r.id a.id) rows ≡ o → option_and_then row_text o ≡ Some text → IsTakenText a text
    go None e given = cc
    go (Some r) e given =
        let t = row_at c rows a r ok sound e in
        let read : row_text r ≡ Some (read_as (reading_by a) t.0) = ap (option_map (read_as r.reading)) t.1 ∙ ap (λ how. Some (read_as how t.0)) t.3 in
        (t.0, ap (λ o. option_map_or (λ z. z) o text) (sym given ∙ read), t.2)

texts_at : (c xs : List Rule) (rows : List Row) → RowsTold c rows → Each (Sound c) xs
    → Each (λ a. (text : Text) → one_of a.id rows ≡ Some text → IsTakenText a text) xs
texts_at c [] rows ok each = tt
texts_at c (a ∷ rest) rows ok each = (text_at c rows a ok each.0, texts_at c rest rows ok each.1)

-- the texts of a command whose words have no fault
pub leaf_texts : (s : Shape) (words : List Text) → Each (Sound s.rules) s.rules → level_fault s [] nothing_held words false [] ≡ []
    → Each (λ a. (text : Text) → one_of a.id (rows_after s.rules [] words) ≡ Some text → IsTakenText a text) s.rules
leaf_texts s words each fault = texts_at s.rules s.rules (rows_after s.rules [] words) (leaf_rows s words each fault).0 each
