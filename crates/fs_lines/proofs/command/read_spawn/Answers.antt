use Rattle.std.proofs.Common.{◌≡◌, ℕ, List, [], Option, Result, Ok, Err, refl, ap, sym, ◌∙◌}
use Rattle.std.proofs.lemmas.Result.{err_from_is_err_and}
use Rattle.fs_lines.specs.declared.line.LineFault.{LineFault}
use Rattle.fs_lines.specs.declared.line.LineFault.TheVariants.{OutOfMemory}
use Rattle.fs_lines.specs.Lines.{◌>>=◌}
use Rattle.fs_lines.specs.Commands.{Said, IsSaid, caps_apart, credential_said, two_or_said}
use Rattle.fs_lines.specs.Words.{id_of, groups_of}
use Rattle.fs_lines.proofs.command.read_spawn.Goals as goal

-- what is wrong with the ids and groups is what is wrong with all words
refused : (pid : Result ℕ LineFault) (missing : List ℕ) (words rest : List (List ℕ)) (word : Option (List ℕ)) (fault this : LineFault)
    → pid ≡ Ok 0 → missing ≡ [] → (rest, word) ≡ caps_apart words → fault ≡ this
    → ((this ≡ OutOfMemory → ⊥) → two_or_said id_of id_of groups_of missing pid rest ≡ Err this) → (fault ≡ OutOfMemory → ⊥)
    → credential_said (Ok 0) (caps_apart words) ≡ Err fault
refused pid missing words rest word fault this none nothing apart same wrong other =
    let read : two_or_said id_of id_of groups_of [] (Ok 0) rest ≡ Err fault =
    ap (λ m. two_or_said id_of id_of groups_of m (Ok 0) rest) (sym nothing) ∙ ap (λ n. two_or_said id_of id_of groups_of missing n rest) (sym none)
    ∙ wrong (λ e. other (same ∙ e)) ∙ ap Err (sym same) in
    rw (← apart, read) refl

said_by_fault : {A : Type 0} (r : Result A LineFault) (f : A → Result Said LineFault) (fault : LineFault) → r ≡ Err fault → IsSaid (r >>= f) (Err fault)
said_by_fault r f fault wrong = rw wrong refl

pub returns-in_err-uid-clause-said : goal.returns-in_err-uid-clause-said
returns-in_err-uid-clause-said c = λ none.
    let p = err_from_is_err_and c.from_residual.result c.from_residual.ensures.1 in
    rw p.1 (λ other.
    said_by_fault (credential_said (Ok 0) (caps_apart c.args.operands.words.now)) _ p.0
    (refused c.args.operands.pid c.new.result c.args.operands.words.now c.caps_apart.result.0.now _ p.0 c.in_err-uid.field-0.0
    none c.new.ensures c.caps_apart.ensures p.2 c.in_err-uid.ensures other))
