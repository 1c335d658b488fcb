use Rattle.std.proofs.Common.{◌≡◌, sym, ap, ◌∙◌, None, Some, Ok}
use Rattle.std.specs.Option.{ok_or, option_map}
use Rattle.std.specs.Ordering.{nat_cmp}
use Rattle.fs_layout.specs.Maps.{get}
use Rattle.fs_cred.specs.declared.errno.Errno.TheVariants.{EBADF}
use Rattle.open_files.specs.Handles.{with_start}
use Rattle.open_files.proofs.Handled.{at_handle}
use Rattle.open_files.proofs.openings.Openings.get.Goals as goal

pub returns-in_default : goal.returns-in_default
returns-in_default c =
    let here : get nat_cmp c.args.self.now.0 c.args.handle ≡ None = ap (λ t. get nat_cmp t.0 c.args.handle) (sym c.self.view_is) ∙ at_handle c.self.inside.slab.slots c.args.handle ∙ sym c.in_default.ensures in
    sym (ap (λ o. ok_or (option_map (with_start c.args.offset) o) EBADF) here)

pub returns : goal.returns
returns c =
    let here : get nat_cmp c.args.self.now.0 c.args.handle ≡ Some c.in-Some.opened.now = ap (λ t. get nat_cmp t.0 c.args.handle) (sym c.self.view_is) ∙ at_handle c.self.inside.slab.slots c.args.handle ∙ sym c.in-Some.ensures in
    ap (λ d. Ok (with_start c.args.offset d)) c.opened.view_is
    ∙ sym (ap (λ o. ok_or (option_map (with_start c.args.offset) o) EBADF) here)
