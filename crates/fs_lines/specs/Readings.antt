-- What reading comes to: what is said, unless memory ran out.
--     Gives, GivesSaid        what reading comes to
--     GivesAcl        the same of an ACL
--     IsOffered        a line asks for no event of the disk's
use Rattle.std.specs.Prelude.{◌≡◌, ◌≢◌, ℕ, List, Option, IsTrue, Result, Ok, Err, MatchResult}
use Rattle.posix_acl.specs.AccessList.{AccessList}
use Rattle.fs_model.specs.declared.event.Event.{Event}
use Rattle.fs_model.specs.Steps.{is_of_machine}
use Rattle.fs_lines.specs.declared.line.Line.{Line}
use Rattle.fs_lines.specs.declared.line.Line.TheVariants.{Blank, Event as Asks}
use Rattle.fs_lines.specs.declared.line.LineFault.{LineFault}
use Rattle.fs_lines.specs.declared.line.LineFault.TheVariants.{OutOfMemory}
use Rattle.fs_lines.specs.Commands.{Said, IsSaid, acl_said_by}

-- What reading comes to, seen by view, is what is said, unless memory ran out.
abbrev pub Gives : {X Y : Type 0} → (X → Y) → Result X LineFault → Result Y LineFault → Type 0
Gives view read said = MatchResult read (λ x. said ≡ Ok (view x)) (λ fault. fault ≢ OutOfMemory → said ≡ Err fault)

-- what reading comes to is what is said, which is known but for the ACL of a text
abbrev pub GivesSaid : {X : Type 0} → (X → Line) → Result X LineFault → Result Said LineFault → Type 0
GivesSaid view read said = MatchResult read (λ x. IsSaid said (Ok (view x))) (λ fault. fault ≢ OutOfMemory → IsSaid said (Err fault))

-- What is known to be said of a word that is an ACL, whatever asks for it.
abbrev pub GivesAcl : Result (Option AccessList) LineFault → List ℕ → Type 0
GivesAcl read word = (says : Option AccessList → Event) → GivesSaid (λ acl. Asks (says acl)) read (acl_said_by says word)

abbrev pub IsOffered : Line → Type 0
IsOffered Blank = Unit {0}
IsOffered (Asks e) = IsTrue (is_of_machine e)
