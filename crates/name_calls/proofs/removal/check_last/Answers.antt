use Rattle.std.proofs.Common.{sym, ap, ◌∙◌}
use Rattle.fs_model.specs.Demands.{first_of}
use Rattle.call_parts.specs.Telling.{checked}
use Rattle.name_calls.specs.declared.removal.Target.{Target}
use Rattle.name_calls.specs.Removing.{last_asked}
use Rattle.name_calls.proofs.removal.check_last.Goals as goal

pub returns-in-NoDirectory : goal.returns-in-NoDirectory
returns-in-NoDirectory c = c.check_name.ensures ∙ ap (λ (w : Target). checked (first_of (last_asked w c.args.found.now))) (sym c.in-NoDirectory.is)

pub returns-in-Directory : goal.returns-in-Directory
returns-in-Directory c = c.check_directory_name.ensures ∙ ap (λ (w : Target). checked (first_of (last_asked w c.args.found.now))) (sym c.in-Directory.is)
