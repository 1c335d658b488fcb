use Rattle.std.proofs.Common.{Some, sym, ap, ◌∙◌}
use Rattle.posix_acl.specs.AccessList.{AccessList}
use Rattle.fs_model.specs.declared.call.AclType.{AclType}
use Rattle.fs_model.specs.AttributeCalls.{acl_shown}
use Rattle.call_parts.proofs.Readings.{not_read}
use Rattle.file_calls.proofs.ShownAcls.{has_access_acl}
use Rattle.file_calls.proofs.attributes.shown_acl.Goals as goal

pub acl_of-requires : goal.acl_of-requires
acl_of-requires g c =
    let b = c.requires.has in
    let a = has_access_acl (g.S.Sectors.state c.args.s.now).sectors c.args.inode.now b.0 b.1 in
    record { sound = c.requires.sound; there = c.requires.there; has = (a.acl, a.has) }

pub returns-in_err-acl-in-Access : goal.returns-in_err-acl-in-Access
returns-in_err-acl-in-Access g c = not_read _ _ c.from_residual.ensures c.in_err-acl-in-Access.ensures.interrupts c.in_err-acl-in-Access.ensures.same

pub returns-in_ok-acl-in-Access : goal.returns-in_ok-acl-in-Access
returns-in_ok-acl-in-Access g c = record {
  found = λ b h.
      let a = has_access_acl (g.S.Sectors.state c.args.s.now).sectors c.args.inode.now b h in
      ap (λ (x : AccessList). Some x) (c.in_ok-acl-in-Access.ensures.found a.acl a.has) ∙ sym a.is ∙ ap (λ (w : AclType). acl_shown w b) (sym c.in-Access.is);
  interrupts = tt;
  same = c.in_ok-acl-in-Access.ensures.same;
}
