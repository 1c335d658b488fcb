-- Which fault an error of the parser becomes, and a bad value.
use Rattle.std.specs.Prelude.{◌≡◌, List, [], Option, Result, Ok, Err, MatchResult, IfOk, IsErrAnd}
use Rattle.std.proofs.Common.{◌∙◌, sym, ap, subst, inl, inr}
use Rattle.clap.specs.Words.{HasKind, IsAmong, Row, Text, fault_of, kind_of, subcommand_of}
use Rattle.clap.specs.declared.error.Error.{Error}
use Rattle.clap.specs.declared.error.kind.ErrorKind.{ErrorKind}
use Rattle.clap.specs.declared.error.kind.ErrorKind.TheVariants as kind
use Rattle.fs_command.specs.Words.{IsShown, IsSortOf, HasBadValue, SaysJob, Refuses, AsksFor, command_line}
use Rattle.fs_command.specs.declared.words.Job.{Job}
use Rattle.fs_command.specs.declared.words.WordsFault.{WordsFault}
use Rattle.fs_command.specs.declared.words.WordsFault.TheVariants.{Help, BadWords, BadSize, BadPerm, BadUser, BadCaps, OutOfMemory}

shown_is_no_want : (k : ErrorKind) → k ≡ kind.OutOfMemory → IsShown k → ⊥
shown_is_no_want k out (inl h) =
    let bad : kind.OutOfMemory ≡ kind.DisplayHelp = sym out ∙ h in
    cc
shown_is_no_want k out (inr h) =
    let bad : kind.OutOfMemory ≡ kind.DisplayVersion = sym out ∙ h in
    cc

among : (words : List Text) (e x : Error) → x ≡ e → (kind_of x ≡ kind.OutOfMemory → ⊥) → HasKind (fault_of command_line words) e
    → IsAmong (kind_of x) (fault_of command_line words)
among words e x same not_out (inl out) = absurd (not_out (ap kind_of same ∙ out))
among words e x same not_out (inr h) = subst (λ (k : ErrorKind). IsAmong k (fault_of command_line words)) (sym (ap kind_of same)) h

sorted : (words : List Text) (e : Error) (fault : WordsFault) → IsSortOf e fault → HasKind (fault_of command_line words) e → Refuses words fault
sorted words e (Help x) is has = (among words e x is.0 (λ out. shown_is_no_want (kind_of x) out is.1) has, is.1)
sorted words e (BadWords x) is has = (among words e x is.0 is.2 has, is.1)
sorted words e BadSize is has = absurd is
sorted words e BadPerm is has = absurd is
sorted words e BadUser is has = absurd is
sorted words e BadCaps is has = absurd is
sorted words e OutOfMemory is has = tt

pub refused : (words : List Text) (e : Error) (r : Result Job WordsFault) → IsErrAnd r (IsSortOf e) → HasKind (fault_of command_line words) e
    → MatchResult r (AsksFor words) (Refuses words)
refused words e (Ok job) is has = absurd is
refused words e (Err fault) is has = sorted words e fault is has

-- what is read from the command's values, where the definition gives the words no error
pub read : (words : List Text) (named : Option (Text × List Row)) (r : Result Job WordsFault) → fault_of command_line words ≡ []
    → named ≡ subcommand_of command_line words → MatchResult r (SaysJob named) (HasBadValue named) → MatchResult r (AsksFor words) (Refuses words)
read words named (Ok job) none is says = subst (λ n. SaysJob n job) is says
read words named (Err (Help e)) none is has = absurd has
read words named (Err (BadWords e)) none is has = absurd has
read words named (Err BadSize) none is has = (none, subst (λ n. HasBadValue n BadSize) is has)
read words named (Err BadPerm) none is has = (none, subst (λ n. HasBadValue n BadPerm) is has)
read words named (Err BadUser) none is has = (none, subst (λ n. HasBadValue n BadUser) is has)
read words named (Err BadCaps) none is has = (none, subst (λ n. HasBadValue n BadCaps) is has)
read words named (Err OutOfMemory) none is has = tt

pub if_taken : {P : Type 0} (r : Result Job WordsFault) → P → IfOk r (λ job. P)
if_taken (Ok job) p = p
if_taken (Err fault) p = tt
