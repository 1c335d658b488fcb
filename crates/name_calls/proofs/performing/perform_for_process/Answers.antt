use Rattle.call_parts.proofs.Performed.{performed}
use Rattle.name_calls.proofs.performing.perform_for_process.Goals as goal

pub chdir-requires : goal.chdir-requires
chdir-requires g c = record { ready = c.requires.ready }

pub returns-in-Chdir : goal.returns-in-Chdir
returns-in-Chdir g c = performed _ _ _ _ _ _ _ _ _ _ c.in-Chdir.is c.chdir.ensures.performs
