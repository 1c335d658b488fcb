use Rattle.std.specs.Prelude.{Option}
use Rattle.std.proofs.Common.{refl, sym, ap, ◌∙◌}
use Rattle.posix_acl.specs.AccessList.{AccessList}
use Rattle.fs_model.specs.declared.call.Call.TheVariants.{SetAcl}
use Rattle.call_parts.proofs.Performed.{performed_for}
use Rattle.file_calls.proofs.performing.perform.Goals as goal

pub returns-in-Stat : goal.returns-in-Stat
returns-in-Stat g c = performed_for {made = c.args.caller.now} refl c.in-Stat.is c.stat.ensures.performs

pub returns-in-Lstat : goal.returns-in-Lstat
returns-in-Lstat g c = performed_for {made = c.args.caller.now} refl c.in-Lstat.is c.lstat.ensures.performs

pub returns-in-Access : goal.returns-in-Access
returns-in-Access g c = performed_for {made = c.args.caller.now} refl c.in-Access.is c.access.ensures.performs

pub returns-in-Truncate : goal.returns-in-Truncate
returns-in-Truncate g c = performed_for {made = c.args.caller.now} refl c.in-Truncate.is c.truncate.ensures

pub returns-in-Chmod : goal.returns-in-Chmod
returns-in-Chmod g c = performed_for {made = c.args.caller.now} refl c.in-Chmod.is c.chmod.ensures

pub returns-in-Chown : goal.returns-in-Chown
returns-in-Chown g c = performed_for {made = c.args.caller.now} refl c.in-Chown.is c.chown.ensures

pub returns-in-GetAcl : goal.returns-in-GetAcl
returns-in-GetAcl g c = performed_for {made = c.args.caller.now} refl c.in-GetAcl.is c.get_acl.ensures.performs

pub returns-in-SetAcl : goal.returns-in-SetAcl
returns-in-SetAcl g c =
    performed_for {made = c.args.caller.now} refl (c.in-SetAcl.is ∙ ap (λ (acl : Option AccessList). SetAcl c.in-SetAcl.path c.in-SetAcl.which acl) (sym c.as_ref.ensures.value)) c.set_acl.ensures
