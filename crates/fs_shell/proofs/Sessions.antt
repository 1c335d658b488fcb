-- A run of a script, line after line.
use Rattle.std.proofs.Common.{◌≡◌, ◌⊎◌, inl, inr, ℕ, ◌+◌, ◌≤◌, List, [], ◌∷◌, ◌++◌, length, Option, None, Some, IfSome, Result, MatchResult, Ok, Err, refl, sym, ap, subst, ◌∙◌, arith, append_assoc, append-nil, length-append}
use Rattle.std.specs.Io.KnownBytes.{Consumes, Appends, Keeps, IsAtEnd}
use Rattle.std.proofs.KnownBytes.{Consumes-nil, Consumes-trans, Appends-nil, Appends-trans, Appends-kept}
use Rattle.std.proofs.lemmas.Grind.{flat_map-append}
use Rattle.sector_disk.specs.Disk.{DiskState}
use Rattle.fs_model.specs.declared.event.Event.{Event}
use Rattle.fs_model.specs.declared.event.EventReply.{EventReply}
use Rattle.fs_system.specs.Playing.{IsConfig, Plays}
use Rattle.fs_system.specs.Histories.{Config}
use Rattle.fs_system.specs.Seen.{System}
use Rattle.fs_system.proofs.Played.{plays_nothing, plays_joined}
use Rattle.fs_shell.specs.declared.answer.Answer.{Answer}
use Rattle.fs_shell.specs.declared.answer.Answer.TheVariants.{Nothing, Reply, Fault}
use Rattle.fs_shell.specs.declared.answer.Count.{Count}
use Rattle.fs_shell.specs.declared.fault.RunFault.{RunFault}
use Rattle.fs_shell.specs.declared.fault.RunFault.TheVariants.{WriteFault, OutOfMemory, TooMuch}
use Rattle.fs_lines.specs.Lines.{lines_of}
use Rattle.fs_shell.specs.Scripts.{script_limit, IsLineTaken, LineRead, IsOver}
use Rattle.fs_shell.specs.Runs.{answer_text, answers_text, faults_counted, count_faults, LineAnswers, LinePerformed, ScriptAnswers, no_line, a_line, Finished, EndedEarly, Ran}
use Rattle.fs_shell.proofs.Cut.{cut_answers}

-- some lines have been taken from an input, and what is left has the others
abbrev pub AreTaken : List (List ℕ) → Option (List ℕ) → Option (List ℕ) → Type 0
AreTaken lines None left = Unit {0}
AreTaken lines (Some xs) None = ⊥
AreTaken lines (Some xs) (Some ys) = lines_of xs ≡ lines ++ lines_of ys

-- so far
pub record Running {D : Type 0} (state : D → DiskState) (input left before after : Option (List ℕ)) (given : ℕ) (count : Count) (old now : System D) : Type 0 where
  pub lines : List (List ℕ)
  pub answers : List Answer
  pub events : List Event
  pub replies : List EventReply
  pub text : List ℕ
  pub answered : ScriptAnswers lines answers events replies
  pub plays : Plays state (Ok old) events replies (Ok now)
  pub taken : AreTaken lines input left
  pub consumed : Consumes input left text
  pub counted : given ≡ length text
  pub written : Appends before after (answers_text answers)
  pub lines_counted : count.lines ≡ length lines
  pub faults_counted : count.faults ≡ count_faults answers

-- a run from each configuration of the one system to one of the other
abbrev pub Runs : {D : Type 0} → (D → DiskState) → Option (List ℕ) → Option (List ℕ) → Option (List ℕ) → System D → System D → Result Count RunFault → Type 0
Runs {D} state input before after old new result =
    (c : Config D) → IsConfig state (Ok old) c → (d : Config D) × IsConfig state (Ok new) d × Ran state input before after c d result

answers_more : (lines : List (List ℕ)) (answers : List Answer) (es : List Event) (replies : List EventReply)
    (line : List ℕ) (answer : Answer) (e : List Event) (reply : List EventReply)
    → ScriptAnswers lines answers es replies → LineAnswers line answer e reply
    → ScriptAnswers (lines ++ line ∷ []) (answers ++ answer ∷ []) (es ++ e) (replies ++ reply)
answers_more _ _ _ _ line answer e reply no_line last =
    subst (λ l. ScriptAnswers (line ∷ []) (answer ∷ []) l reply) (append-nil e)
    (subst (λ l. ScriptAnswers (line ∷ []) (answer ∷ []) (e ++ []) l) (append-nil reply) (a_line line answer e reply [] [] [] [] last no_line))
answers_more _ _ _ _ line answer e reply (a_line l a f r ls bs es rs first rest) last =
    subst (λ x. ScriptAnswers (l ∷ ls ++ line ∷ []) (a ∷ bs ++ answer ∷ []) x ((r ++ rs) ++ reply)) (sym (append_assoc f es e))
    (subst (λ x. ScriptAnswers (l ∷ ls ++ line ∷ []) (a ∷ bs ++ answer ∷ []) (f ++ (es ++ e)) x) (sym (append_assoc r rs reply))
    (a_line l a f r (ls ++ line ∷ []) (bs ++ answer ∷ []) (es ++ e) (rs ++ reply) first (answers_more ls bs es rs line answer e reply rest last)))

count_more : (answers : List Answer) (answer : Answer) → count_faults (answers ++ answer ∷ []) ≡ count_faults answers + faults_counted answer
count_more [] answer = omega arith
count_more (a ∷ answers) answer = omega (arith, count_more answers answer)

takes_more : (lines : List (List ℕ)) (line : List ℕ) (input left next : Option (List ℕ)) → AreTaken lines input left → IsLineTaken line left next → AreTaken (lines ++ line ∷ []) input next
takes_more lines line None left next taken more = tt
takes_more lines line (Some xs) None next taken more = absurd taken
takes_more lines line (Some xs) (Some ys) None taken more = absurd more
takes_more lines line (Some xs) (Some ys) (Some zs) taken more =
    taken ∙ ap (λ ls. lines ++ ls) more ∙ sym (append_assoc lines (line ∷ []) (lines_of zs))

pub starts : {D : Type 0} (state : D → DiskState) (input left before : Option (List ℕ)) (given : ℕ) (count : Count) (fs : System D)
    → left ≡ input → given ≡ 0 → count.lines ≡ 0 → count.faults ≡ 0 → Running state input left before before given count fs fs
starts state input left before given count fs same none lines faults = record {
  lines = [];
  answers = [];
  events = [];
  replies = [];
  text = [];
  answered = no_line;
  plays = plays_nothing state (Ok fs);
  taken = subst (λ l. AreTaken [] input l) (sym same) (nothing_taken input);
  consumed = subst (λ l. Consumes input l []) (sym same) (Consumes-nil input);
  counted = none;
  written = Appends-nil before;
  lines_counted = lines;
  faults_counted = faults;
}
  where
    nothing_taken : (input : Option (List ℕ)) → AreTaken [] input input
    nothing_taken None = tt
    nothing_taken (Some xs) = refl

-- one line more has been performed and answered
pub goes_on : {D : Type 0} (state : D → DiskState) (input left next before after later : Option (List ℕ)) (given more : ℕ) (count new_count : Count) (old now new : System D)
    (line : List ℕ) (answer : Answer)
    → Running state input left before after given count old now → LineRead left next given more line → LinePerformed state line answer now new
    → Appends after later (answer_text answer) → new_count.lines ≡ count.lines + 1 → new_count.faults ≡ count.faults + faults_counted answer
    → Running state input next before later more new_count old new
goes_on state input left next before after later given more count new_count old now new line answer run read one wrote lines faults = record {
  lines = run.lines ++ read.whole ∷ [];
  answers = run.answers ++ answer ∷ [];
  events = run.events ++ one.events;
  replies = run.replies ++ one.replies;
  text = run.text ++ read.text;
  answered = answers_more run.lines run.answers run.events run.replies read.whole answer one.events one.replies run.answered
      (cut_answers line read.whole answer one.events one.replies read.kept one.answered);
  plays = plays_joined state (Ok old) (Ok now) (Ok new) run.events one.events run.replies one.replies run.plays one.plays;
  taken = takes_more run.lines read.whole input left next run.taken read.taken;
  consumed = Consumes-trans input left next run.text read.text run.consumed read.consumed;
  counted = omega (arith, run.counted, read.counted, length-append run.text read.text);
  written = subst (Appends before later) (sym (flat_map-append answer_text run.answers (answer ∷ []) ∙ ap (λ t. answers_text run.answers ++ t) (append-nil (answer_text answer))))
      (Appends-trans before after later (answers_text run.answers) (answer_text answer) run.written wrote);
  lines_counted = omega (arith, run.lines_counted, lines, length-append run.lines (read.whole ∷ []));
  faults_counted = omega (arith, run.faults_counted, faults, count_more run.answers answer);
}

-- no line is left
all_taken : (lines : List (List ℕ)) (input left : Option (List ℕ)) → AreTaken lines input left → IsAtEnd left → IfSome input (λ xs. lines ≡ lines_of xs)
all_taken lines None left taken end = tt
all_taken lines (Some xs) None taken end = absurd taken
all_taken lines (Some xs) (Some ys) taken end = sym (taken ∙ ap (λ l. lines ++ lines_of l) end ∙ append-nil lines)

all_fit : (input left : Option (List ℕ)) (text : List ℕ) → Consumes input left text → IsAtEnd left → length text ≤ script_limit → IfSome input (λ xs. length xs ≤ script_limit)
all_fit None left text took end fits = tt
all_fit (Some xs) None text took end fits = absurd took
all_fit (Some xs) (Some ys) text took end fits =
    let whole : length xs ≡ length text = ap length (took ∙ ap (λ l. text ++ l) end ∙ append-nil text) in
    omega arith

-- a run that comes to this outcome
ended : {D : Type 0} (state : D → DiskState) (input left before after later : Option (List ℕ)) (given : ℕ) (count : Count) (old now : System D) (result : Result Count RunFault)
    (run : Running state input left before after given count old now)
    → MatchResult result (Finished input before later run.lines run.answers) (EndedEarly input run.lines)
    → Runs state input before later old now result
ended state input left before after later given count old now result run outcome = λ c is.
    let played = run.plays c is in (
      played.0,
      played.1,
      record {
        lines = run.lines;
        answers = run.answers;
        events = run.events;
        replies = run.replies;
        answered = run.answered;
        history = played.2;
        outcome = outcome;
      },
    )

-- the script ends
pub finishes : {D : Type 0} (state : D → DiskState) (input left before after later : Option (List ℕ)) (given : ℕ) (count : Count) (old now : System D)
    → Running state input left before after given count old now → IsAtEnd left → given ≤ script_limit → Keeps after later
    → Runs state input before later old now (Ok count)
finishes state input left before after later given count old now run end fits keeps =
    ended state input left before after later given count old now (Ok count) run (record {
      all_lines = all_taken run.lines input left run.taken end;
      written = Appends-kept before after later (answers_text run.answers) run.written keeps;
      lines_counted = run.lines_counted;
      faults_counted = run.faults_counted;
      fits = all_fit input left run.text run.consumed end (omega (arith, run.counted));
    })

others_of : Option (List ℕ) → List (List ℕ)
others_of None = []
others_of (Some ys) = lines_of ys

first_taken : (lines : List (List ℕ)) (input left : Option (List ℕ)) → AreTaken lines input left → IfSome input (λ xs. lines_of xs ≡ lines ++ others_of left)
unfolding others_of
first_taken lines None left taken = tt
first_taken lines (Some xs) None taken = absurd taken
first_taken lines (Some xs) (Some ys) taken = taken

goes_over : (input left : Option (List ℕ)) (text : List ℕ) (given : ℕ) → Consumes input left text → given ≡ length text → IsOver left given → IsOver input 0
goes_over None left text given took count over = tt
goes_over (Some xs) None text given took count over = absurd took
goes_over (Some xs) (Some ys) text given took count over =
    let whole : length xs ≡ length (text ++ ys) = ap length took in
    omega (arith, length-append text ys)

-- the run ends early
pub ends_early : {D : Type 0} (state : D → DiskState) (input left before after later : Option (List ℕ)) (given : ℕ) (count : Count) (old now : System D) (fault : RunFault)
    → Running state input left before after given count old now → (fault ≡ TooMuch → IsOver left given)
    → Runs state input before later old now (Err fault)
ends_early state input left before after later given count old now fault run over =
    ended state input left before after later given count old now (Err fault) run (record {
      rest = others_of left;
      first_lines = first_taken run.lines input left run.taken;
      too_much = λ much. goes_over input left run.text given run.consumed run.counted (over much);
    })

-- after a line that was performed, whose answer wasn't written
pub ends_unanswered : {D : Type 0} (state : D → DiskState) (input left next before after later : Option (List ℕ)) (given more : ℕ) (count : Count) (old now new : System D)
    (line : List ℕ) (answer : Answer) (fault : RunFault)
    → Running state input left before after given count old now → LineRead left next given more line → LinePerformed state line answer now new
    → (fault ≡ TooMuch → ⊥) → Runs state input before later old new (Err fault)
ends_unanswered state input left next before after later given more count old now new line answer fault run read one other = λ c is.
    let played = plays_joined state (Ok old) (Ok now) (Ok new) run.events one.events run.replies one.replies run.plays one.plays c is in (
      played.0,
      played.1,
      record {
        lines = run.lines ++ read.whole ∷ [];
        answers = run.answers ++ answer ∷ [];
        events = run.events ++ one.events;
        replies = run.replies ++ one.replies;
        answered = answers_more run.lines run.answers run.events run.replies read.whole answer one.events one.replies run.answered
            (cut_answers line read.whole answer one.events one.replies read.kept one.answered);
        history = played.2;
        outcome = record {
          rest = others_of next;
          first_lines = first_taken (run.lines ++ read.whole ∷ []) input next (takes_more run.lines read.whole input left next run.taken read.taken);
          too_much = λ much. absurd (other much);
        };
      },
    )

-- before the first line
pub ends_at_once : {D : Type 0} (state : D → DiskState) (input before : Option (List ℕ)) (fs : System D) (fault : RunFault)
    → (fault ≡ TooMuch → ⊥) → Runs state input before before fs fs (Err fault)
ends_at_once state input before fs fault other =
    ends_early state input input before before before 0 (record { lines = 0; faults = 0 }) fs fs fault
    (starts state input input before 0 (record { lines = 0; faults = 0 }) fs refl refl refl refl) (λ much. absurd (other much))

-- what writing an answer may fail by
pub not_too_much : (fault : RunFault) → (fault ≡ WriteFault) ⊎ (fault ≡ OutOfMemory) → fault ≡ TooMuch → ⊥
not_too_much fault (inl lost) much = cc
not_too_much fault (inr lost) much = cc

pub one_fault_at_most : (answer : Answer) → faults_counted answer ≤ 1
one_fault_at_most Nothing = omega arith
one_fault_at_most (Reply reply) = omega arith
one_fault_at_most (Fault fault) = omega arith
