-- The processes, and what actors have open.
--     Tables, both, tables_in        both tables, and those of a state
--     users_of        all who use nodes
--     tables_of        both tables of a caller
use Rattle.fs_model.specs.Processes.{ProcessTable, Openings, users}
use Rattle.fs_model.specs.States.{State}
use Rattle.call_parts.specs.declared.reaching.Caller.{Caller}

pub record Tables : Type 0 where
  pub processes : ProcessTable
  pub openings : Openings

abbrev pub both : ProcessTable → Openings → Tables
both processes openings = record { processes = processes; openings = openings }

abbrev pub tables_in : State → Tables
tables_in s = both s.processes s.openings

abbrev pub users_of : Tables → ProcessTable
users_of tables = users tables.processes tables.openings

abbrev pub tables_of : Caller → Tables
tables_of c = both c.procs.now c.openings.now.0
