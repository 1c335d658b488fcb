use Rattle.std.proofs.Common.{ap, subst, List, ℕ, codes, ◌∙◌, ◌++◌}
use Rattle.std.specs.Io.KnownBytes.{Appends}
use Rattle.fs_cred.specs.Credentials.{Credential}
use Rattle.posix_acl.specs.Text.{perms_text}
use Rattle.std.proofs.KnownBytes.{Appends-trans}
use Rattle.fs_access.specs.Objects.{quoted, user_text}
use Rattle.fs_access.proofs.json.print_asked.Goals as goal

pub returns : goal.returns
returns g c =
    let contents = g.O.Write.contents in
    let start = contents c.args.out.now in
    let path = subst (λ (bytes : List ℕ). Appends (contents c.write.new.self) (contents c.print_quoted.new.out) (quoted bytes)) c.path.ensures
    c.in_ok-print_quoted.ensures in
    let letters = subst (λ (text : List ℕ). Appends (contents c.print_quoted.new.out) (contents c.write-2.new.self)
    (codes ",\"perm\":\"" ++ text ++ codes "\",\"user\":\"")) (c.letters-letters.ensures ∙ ap perms_text c.perms.ensures) c.in_ok-write-2.ensures.bytes in
    let user = subst (λ (cred : Credential). Appends (contents c.write-2.new.self) (contents c.print_user.new.out) (user_text cred)) c.cred.ensures
    c.in_ok-print_user.ensures in
    let two = Appends-trans start (contents c.write.new.self) (contents c.print_quoted.new.out) _ _ c.in_ok-write.ensures.bytes path in
    let three = Appends-trans start (contents c.print_quoted.new.out) (contents c.write-2.new.self) _ _ two letters in
    let four = Appends-trans start (contents c.write-2.new.self) (contents c.print_user.new.out) _ _ three user in
    Appends-trans start (contents c.print_user.new.out) (contents c.write-3.new.self) _ _ four c.in_ok-write-3.ensures.bytes
