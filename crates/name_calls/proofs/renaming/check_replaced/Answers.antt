use Rattle.call_parts.specs.BothTables.{users_of, tables_of}
use Rattle.std.proofs.Common.{rules, ◌≡◌, ◌∙◌, false, sym, ap}
use Rattle.fs_layout.specs.declared.inode.Inode.{Inode}
use Rattle.fs_layout.specs.declared.inode.Kind.TheVariants as kinds
use Rattle.fs_model.specs.Rules.{is_directory_kind}
use Rattle.path_walk.proofs.Kept.{is_err}
use Rattle.call_parts.specs.Telling.{checked}
use Rattle.name_calls.proofs.ReplaceAsked.{there_some, there_body, other_replaced, directory_replaced}
use Rattle.name_calls.proofs.renaming.check_replaced.Goals as goal

pub returns-then-ne : goal.returns-then-ne
returns-then-ne c = λ p map t g h there is.
    let at = there_some p map g.ino c.in-Some.ino c.in-Some.inode (sym c.in-Some.is ∙ is) in
    let other : is_directory_kind c.in-Some.inode.kind ≡ false = search rules in
    sym (ap checked (other_replaced h g there (users_of (tables_of c.args.caller.now)) c.in-Some.ino at.0 (ap (λ (v : Inode). is_directory_kind v.kind) (sym at.1) ∙ other)))

pub returns-in_err-check_directory : goal.returns-in_err-check_directory
returns-in_err-check_directory c = λ p map t g h there is.
    let r = c.from_residual.ensures in
    let at = there_some p map g.ino c.in-Some.ino c.in-Some.inode (sym c.in-Some.is ∙ is) in
    let kind : c.in-Some.inode.kind ≡ kinds.Directory = search rules in
    let x = there_body h g there (users_of (tables_of c.args.caller.now)) c.in-Some.ino at.0 c.in-Some.inode at.1 in
    is_err c.from_residual.result c.in_err-check_directory.field-0.0 r.0 r.1
    ∙ c.in_err-check_directory.ensures p.version map x.node.body x.holds.body
    ∙ ap checked (directory_replaced h g there (users_of (tables_of c.args.caller.now)) c.in-Some.ino at.0 c.in-Some.inode at.1 kind)

pub returns : goal.returns
returns c = λ p map t g h there is.
    let at = there_some p map g.ino c.in-Some.ino c.in-Some.inode (sym c.in-Some.is ∙ is) in
    let kind : c.in-Some.inode.kind ≡ kinds.Directory = search rules in
    let x = there_body h g there (users_of (tables_of c.args.caller.now)) c.in-Some.ino at.0 c.in-Some.inode at.1 in
    c.in_ok-check_directory.ensures p.version map x.node.body x.holds.body
    ∙ ap checked (directory_replaced h g there (users_of (tables_of c.args.caller.now)) c.in-Some.ino at.0 c.in-Some.inode at.1 kind)
