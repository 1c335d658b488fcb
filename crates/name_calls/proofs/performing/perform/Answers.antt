use Rattle.std.proofs.Common.{refl}
use Rattle.call_parts.proofs.Performed.{performed_for}
use Rattle.name_calls.proofs.performing.perform.Goals as goal

pub returns-in-Mkdir : goal.returns-in-Mkdir
returns-in-Mkdir g c = performed_for {made = c.args.caller.now} refl c.in-Mkdir.is c.mkdir.ensures

pub returns-in-Rmdir : goal.returns-in-Rmdir
returns-in-Rmdir g c = performed_for {made = c.args.caller.now} refl c.in-Rmdir.is c.rmdir.ensures

pub returns-in-Link : goal.returns-in-Link
returns-in-Link g c = performed_for {made = c.args.caller.now} refl c.in-Link.is c.link.ensures

pub returns-in-Symlink : goal.returns-in-Symlink
returns-in-Symlink g c = performed_for {made = c.args.caller.now} refl c.in-Symlink.is c.symlink.ensures

pub returns-in-Readlink : goal.returns-in-Readlink
returns-in-Readlink g c = performed_for {made = c.args.caller.now} refl c.in-Readlink.is c.readlink.ensures.performs

pub returns-in-Unlink : goal.returns-in-Unlink
returns-in-Unlink g c = performed_for {made = c.args.caller.now} refl c.in-Unlink.is c.unlink.ensures

pub returns-in-Rename : goal.returns-in-Rename
returns-in-Rename g c = performed_for {made = c.args.caller.now} refl c.in-Rename.is c.rename.ensures
