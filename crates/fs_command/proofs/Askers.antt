-- What the words of `access` say, from what is read of them.
use Rattle.std.specs.Prelude.{◌≡◌, List, Option, None, Some, Result, Ok, Err, MatchResult, codes}
use Rattle.std.proofs.Common.{◌∙◌, sym, refl, subst}
use Rattle.posix_acl.specs.declared.entry.Perms.{Perms}
use Rattle.fs_cred.specs.Credentials.{Credential}
use Rattle.clap.specs.Words.{Row, Text, first_of}
use Rattle.fs_command.specs.Users.{IsBadUser, SaysUser, perms_said}
use Rattle.fs_command.specs.Words.{ArePermsFor, HasBadAccess, IsUserFor}
use Rattle.fs_command.specs.declared.words.WordsFault.{WordsFault}
use Rattle.fs_command.specs.declared.words.WordsFault.TheVariants.{Help, BadWords, BadSize, BadPerm, BadUser, BadCaps, OutOfMemory}

pub no_value : {X : Type 0} (o : Option X) → ((x : X) → o ≡ Some x → ⊥) → o ≡ None
no_value None none = refl
no_value (Some x) none = absurd (none x refl)

pub perms_for : (rows : List Row) (text : Text) (perms : Perms) → first_of (codes "PERM") rows ≡ Some text → perms_said text ≡ Some perms
    → ArePermsFor (first_of (codes "PERM") rows) perms
perms_for rows text perms is says = subst (λ (o : Option Text). ArePermsFor o perms) (sym is) says

user_for : (rows : List Row) (word : Text) (caps : Option Text) (cred : Credential) → first_of (codes "user") rows ≡ Some word
    → first_of (codes "caps") rows ≡ caps → SaysUser word caps cred → IsUserFor (first_of (codes "user") rows) (first_of (codes "caps") rows) cred
user_for rows word caps cred is named says =
    subst (λ (o : Option Text). IsUserFor o (first_of (codes "caps") rows) cred) (sym is) (subst (λ (o : Option Text). SaysUser word o cred) (sym named) says)

pub user_ends : (rows : List Row) (word : Text) (caps : Option Text) (r : Result Credential WordsFault) → first_of (codes "user") rows ≡ Some word
    → first_of (codes "caps") rows ≡ caps → MatchResult r (SaysUser word caps) (IsBadUser word caps)
    → MatchResult r (IsUserFor (first_of (codes "user") rows) (first_of (codes "caps") rows)) (HasBadAccess rows)
user_ends rows word caps (Ok cred) is named says = user_for rows word caps cred is named says
user_ends rows word caps (Err BadUser) is named none = (word, is, none)
user_ends rows word caps (Err BadCaps) is named none = (none.0, named ∙ none.1, none.2)
user_ends rows word caps (Err OutOfMemory) is named none = tt
user_ends rows word caps (Err (Help e)) is named none = absurd none
user_ends rows word caps (Err (BadWords e)) is named none = absurd none
user_ends rows word caps (Err BadSize) is named none = absurd none
user_ends rows word caps (Err BadPerm) is named none = absurd none
