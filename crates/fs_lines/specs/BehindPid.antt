-- The commands that stand behind a pid, by the function that reads them.
--     name_rows, descriptor_rows        the commands on names and those below, and those on descriptors and those below
--     one_call, two_call, three_call        a call of so many words
--     GivesCommand        what reading a command comes to
use Rattle.std.specs.Prelude.{◌≡◌, ◌++◌, ℕ, List, Result, Ok}
use Rattle.fs_model.specs.declared.call.Call.{Call}
use Rattle.fs_model.specs.declared.event.Event.{Event}
use Rattle.fs_model.specs.declared.event.Event.TheVariants as events
use Rattle.fs_lines.specs.declared.line.Line.TheVariants.{Event as Asks}
use Rattle.fs_lines.specs.declared.line.LineFault.{LineFault}
use Rattle.fs_lines.specs.Commands.{CommandRow, descriptor_commands, name_commands, process_commands, Said, asked, one_said, two_said, three_said, row_named, command_says}
use Rattle.fs_lines.specs.Lines.{◌>>=◌}
use Rattle.fs_lines.specs.Readings.{GivesSaid}
use Rattle.fs_lines.specs.Words.{number_of}

unfoldable pub name_rows : List CommandRow
name_rows = name_commands ++ process_commands

unfoldable pub descriptor_rows : List CommandRow
descriptor_rows = descriptor_commands ++ name_rows

-- the call that a word makes, or two, or three
abbrev pub one_call : {A : Type 0} → (List ℕ → Result A LineFault) → (A → Call) → Result ℕ LineFault → List (List ℕ) → Result Said LineFault
one_call a says pid words = do
  v ← one_said a pid words
  Ok (asked (events.Call v.0 (says v.1)))

abbrev pub two_call : {A B : Type 0} → (List ℕ → Result A LineFault) → (List ℕ → Result B LineFault) → (A → B → Call) → Result ℕ LineFault → List (List ℕ) → Result Said LineFault
two_call a b says pid words = do
  v ← two_said a b pid words
  Ok (asked (events.Call v.0 (says v.1 v.2)))

abbrev pub three_call : {A B C : Type 0} → (List ℕ → Result A LineFault) → (List ℕ → Result B LineFault) → (List ℕ → Result C LineFault)
    → (A → B → C → Call) → Result ℕ LineFault → List (List ℕ) → Result Said LineFault
three_call a b c says pid words = do
  v ← three_said a b c pid words
  Ok (asked (events.Call v.0 (says v.1 v.2 v.3)))

-- it is what the row of its name says, behind a pid that reads so
abbrev pub GivesCommand : List CommandRow → List ℕ → Result ℕ LineFault → List (List ℕ) → Result Event LineFault → Type 0
GivesCommand rows name read words result = (pid : List ℕ) → read ≡ number_of 64 pid → GivesSaid Asks result (command_says (row_named rows name) pid words)
