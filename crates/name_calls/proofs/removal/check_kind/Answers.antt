use Rattle.call_parts.specs.BothTables.{users_of, tables_of}
use Rattle.std.proofs.Common.{Bool, sym, ap, ◌∙◌}
use Rattle.fs_cred.specs.declared.errno.Errno.TheVariants.{EISDIR}
use Rattle.fs_model.specs.Demands.{refuse, first_of}
use Rattle.fs_model.specs.Nodes.{is_directory}
use Rattle.fs_model.specs.Processes.{is_in_use}
use Rattle.call_parts.specs.Telling.{checked}
use Rattle.call_parts.proofs.Calling.{or_else-none}
use Rattle.name_calls.specs.declared.removal.Target.{Target}
use Rattle.name_calls.specs.Removing.{kind_asked}
use Rattle.name_calls.proofs.RemovalAsked.{body_kind_is}
use Rattle.name_calls.proofs.removal.check_kind.Goals as goal

pub returns-in-NoDirectory : goal.returns-in-NoDirectory
returns-in-NoDirectory c = λ version image b h.
    c.check_no_directory.ensures
    ∙ ap (λ (d : Bool). checked (refuse EISDIR d)) (body_kind_is version image c.args.inode.now b h)
    ∙ ap checked (sym (or_else-none (refuse EISDIR (is_directory b))))
    ∙ ap (λ (w : Target). checked (first_of (kind_asked w b (is_in_use (users_of (tables_of c.args.caller.now)) c.args.ino)))) (sym c.in-NoDirectory.is)

pub returns-in-Directory : goal.returns-in-Directory
returns-in-Directory c = λ version image b h.
    c.check_directory.ensures version image b h
    ∙ ap (λ (w : Target). checked (first_of (kind_asked w b (is_in_use (users_of (tables_of c.args.caller.now)) c.args.ino)))) (sym c.in-Directory.is)
