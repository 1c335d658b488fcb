use Rattle.std.proofs.Common.{rules, ◌≡◌, sym, ap, ◌∙◌, Bool, not}
use Rattle.fs_cred.specs.declared.errno.Errno.TheVariants.{ENOTEMPTY}
use Rattle.fs_layout.specs.declared.inode.Kind.TheVariants as kinds
use Rattle.fs_model.specs.Demands.{refuse}
use Rattle.call_parts.specs.Telling.{checked}
use Rattle.name_calls.proofs.RemovalAsked.{directory_checked}
use Rattle.name_calls.proofs.removal.check_directory.Goals as goal

pub returns-then-not-is_empty : goal.returns-then-not-is_empty
returns-then-not-is_empty c = λ version image b h.
    let kind : c.args.inode.now.kind ≡ kinds.Directory = search rules in
    sym (ap checked (directory_checked version image c.args.inode.now b h kind _ c.is_empty.result (sym c.is_in_use.ensures ∙ c.if-is_in_use.false) (c.is_empty.ensures version image))
    ∙ ap (λ (e : Bool). checked (refuse ENOTEMPTY (not e))) c.if-not-is_empty.true)

pub returns : goal.returns
returns c = λ version image b h.
    let kind : c.args.inode.now.kind ≡ kinds.Directory = search rules in
    sym (ap checked (directory_checked version image c.args.inode.now b h kind _ c.is_empty.result (sym c.is_in_use.ensures ∙ c.if-is_in_use.false) (c.is_empty.ensures version image))
    ∙ ap (λ (e : Bool). checked (refuse ENOTEMPTY (not e))) c.if-not-is_empty.false)
