-- What a reader and a writer come to while a job is done.
--     watched        a reader of which no call has failed yet
--     Reading, reading        of a reader
--     Writing, writing        of a writer
use Rattle.std.specs.Prelude.{ℕ, Bool, true, false, List, Option}
use Rattle.fs_shell.specs.declared.runner.Watched.{Watched}

-- what is to be read, where that is known, and whether a call has failed, before and then
pub record Reading : Type 0 where
  pub input : Option (List ℕ)
  pub had_failed : Bool
  pub has_failed : Bool

-- what the writer holds, where that is known, and whether a call has failed, before and then; whether all is flushed then
pub record Writing : Type 0 where
  pub before : Option (List ℕ)
  pub after : Option (List ℕ)
  pub had_failed : Bool
  pub has_failed : Bool
  pub is_flushed : Bool

abbrev pub watched : {R : Type 0} → R → Watched R
watched reader = record { inner = reader; failed = false; flushed = true }

abbrev pub reading : {R : Type 0} → (R → Option (List ℕ)) → Watched R → Watched R → Reading
reading remaining old new = record { input = remaining old.inner; had_failed = old.failed; has_failed = new.failed }

abbrev pub writing : {W : Type 0} → (W → Option (List ℕ)) → Watched W → Watched W → Writing
writing contents old new = record {
  before = contents old.inner;
  after = contents new.inner;
  had_failed = old.failed;
  has_failed = new.failed;
  is_flushed = new.flushed;
}
