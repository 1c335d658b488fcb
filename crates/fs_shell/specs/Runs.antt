-- Runs of scripts: which answers lines get, and what is written.
--     answer_text, answers_text, count_faults        what is written for answers
--     LineAnswers, ScriptAnswers        what is performed for one line, and for all lines of a script
--     LinePerformed, Ran        a file system performs a line; a run of a script
use Rattle.std.specs.Prelude.{◌≡◌, ◌≤◌, ◌+◌, ℕ, true, List, [], ◌∷◌, ◌++◌, length, Option, IfSome, Result, Ok, Err, MatchResult}
use Rattle.std.specs.List.{flat_map}
use Rattle.std.specs.Io.KnownBytes.{Appends}
use Rattle.sector_disk.specs.Disk.{DiskState}
use Rattle.fs_model.specs.declared.event.Event.{Event}
use Rattle.fs_model.specs.declared.event.EventReply.{EventReply}
use Rattle.fs_model.specs.declared.event.EventReply.TheVariants.{Reply as Replies}
use Rattle.fs_model.specs.declared.reply.Reply.{Reply as ReplyType}
use Rattle.fs_system.specs.Playing.{Plays}
use Rattle.fs_system.specs.Histories.{Config, History}
use Rattle.fs_system.specs.Seen.{System}
use Rattle.fs_shell.specs.declared.answer.Answer.{Answer}
use Rattle.fs_shell.specs.declared.answer.Answer.TheVariants.{Nothing, Reply, Fault}
use Rattle.fs_shell.specs.declared.answer.Count.{Count}
use Rattle.fs_shell.specs.declared.fault.RunFault.{RunFault}
use Rattle.fs_shell.specs.declared.fault.RunFault.TheVariants.{TooMuch}
use Rattle.fs_lines.specs.declared.line.Line.TheVariants.{Blank, Event as Asks}
use Rattle.fs_lines.specs.declared.line.LineFault.{LineFault}
use Rattle.fs_lines.specs.declared.line.LineFault.TheVariants.{OutOfMemory}
use Rattle.fs_lines.specs.Lines.{lines_of}
use Rattle.fs_lines.specs.Commands.{LineSays, has_words}
use Rattle.fs_shell.specs.Scripts.{script_limit, IsOver}
use Rattle.fs_lines.specs.Texts.{reply_text, fault_text}

-- ---- answers

-- what is written for an answer: a line, or nothing
abbrev pub answer_text : Answer → List ℕ
answer_text Nothing = []
answer_text (Reply reply) = reply_text reply ++ 10 ∷ []
answer_text (Fault fault) = fault_text fault ++ 10 ∷ []

-- What is written for the lines of a script.
abbrev pub answers_text : List Answer → List ℕ
answers_text answers = flat_map answer_text answers

-- how many lines have something wrong
abbrev pub faults_counted : Answer → ℕ
faults_counted Nothing = 0
faults_counted (Reply _) = 0
faults_counted (Fault _) = 1

abbrev pub count_faults : List Answer → ℕ
count_faults [] = 0
count_faults (answer ∷ answers) = faults_counted answer + count_faults answers

-- ---- runs

-- A line gets this answer, and the event that is performed for it this reply; or none is performed.
pub data LineAnswers (line : List ℕ) : Answer → List Event → List EventReply → Type 0 where
  -- the line asks for nothing
  is_blank : LineSays line (Ok Blank) → LineAnswers line Nothing [] []
  -- something is wrong with it
  is_faulty : (fault : LineFault) → LineSays line (Err fault) → LineAnswers line (Fault fault) [] []
  -- memory runs out over its words
  lacks_memory : has_words line ≡ true → LineAnswers line (Fault OutOfMemory) [] []
  -- the event is performed
  is_performed : (e : Event) (reply : ReplyType) → LineSays line (Ok (Asks e)) → LineAnswers line (Reply reply) (e ∷ []) (Replies reply ∷ [])

-- A line gets this answer, and what is performed for it takes a file system from old to new.
pub record LinePerformed {D : Type 0} (state : D → DiskState) (line : List ℕ) (answer : Answer) (old new : System D) : Type 0 where
  pub events : List Event
  pub replies : List EventReply
  pub answered : LineAnswers line answer events replies
  pub plays : Plays state (Ok old) events replies (Ok new)

-- The lines of a script get these answers, and the events that are performed for them these replies.
pub data ScriptAnswers : List (List ℕ) → List Answer → List Event → List EventReply → Type 0 where
  no_line : ScriptAnswers [] [] [] []
  a_line : (line : List ℕ) (answer : Answer) (e : List Event) (reply : List EventReply)
      (lines : List (List ℕ)) (answers : List Answer) (es : List Event) (replies : List EventReply)
      → LineAnswers line answer e reply → ScriptAnswers lines answers es replies → ScriptAnswers (line ∷ lines) (answer ∷ answers) (e ++ es) (reply ++ replies)

-- The script is done: its lines are all lines of the input, and their answers are what was written.
pub record Finished (input : Option (List ℕ)) (before after : Option (List ℕ)) (lines : List (List ℕ)) (answers : List Answer) (count : Count) : Type 0 where
  pub all_lines : IfSome input (λ xs. lines ≡ lines_of xs)
  pub written : Appends before after (answers_text answers)
  pub lines_counted : count.lines ≡ length lines
  pub faults_counted : count.faults ≡ count_faults answers
  pub fits : IfSome input (λ xs. length xs ≤ script_limit)

-- The script ended early: after some of the lines.
pub record EndedEarly (input : Option (List ℕ)) (lines : List (List ℕ)) (fault : RunFault) : Type 0 where
  pub rest : List (List ℕ)
  pub first_lines : IfSome input (λ xs. lines_of xs ≡ lines ++ rest)
  pub too_much : fault ≡ TooMuch → IsOver input 0

-- A run over an input, where that is known, takes a disk and its file system from old to new by a history of what its lines
-- ask for, and what a writer holds from before to after.
pub record Ran {D : Type 0} (state : D → DiskState) (input before after : Option (List ℕ)) (old new : Config D) (result : Result Count RunFault) : Type 0 where
  pub lines : List (List ℕ)
  pub answers : List Answer
  pub events : List Event
  pub replies : List EventReply
  pub answered : ScriptAnswers lines answers events replies
  pub history : History state old events replies new
  pub outcome : MatchResult result (Finished input before after lines answers) (EndedEarly input lines)
