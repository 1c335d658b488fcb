-- Letters: permissions are read as they are written, and flags are taken off a word one after another.
use Rattle.std.proofs.Common.{◌≡◌, ◌≢◌, ◌<◌, ◌+◌, ℕ, zero, suc, Bool, true, false, List, [], ◌∷◌, length, take, get_or, arith, Ok, Err, Option, None, Some, refl, sym, ap, subst, inl, inr}
use Rattle.std.specs.Prelude.{IfSome, IsTrue, ◌==◌, ◌||◌, ok_or}
use Rattle.std.specs.Str.{byte, bytes_eq}
use Rattle.std.proofs.Math.Bool.{Bool-set}
use Rattle.std.proofs.lemmas.Bool.{cases_Bool, false≢true}
use Rattle.std.proofs.lemmas.Slice.Eq.{bytes_eq-Decides}
use Rattle.posix_acl.specs.declared.entry.Perms.{Perms}
use Rattle.posix_acl.specs.Entries.{perms_of}
use Rattle.posix_acl.specs.Text.{perms_text}
use Rattle.fs_model.specs.declared.call.Flags.{Flags}
use Rattle.fs_lines.specs.declared.line.LineFault.TheVariants.{BadNumber}
use Rattle.fs_lines.specs.Words.{perms_in, has, without_letter, left_over, flag_letters, flags_with, opened, flags_of}

abbrev perms_with : Bool → Bool → Bool → Perms
perms_with r w x = record { read = r; write = w; execute = x }

read_back : (r w x : Bool) → perms_in (perms_text (perms_with r w x)) ≡ Ok (perms_with r w x)
unfolding perms_in
read_back true true true = refl
read_back true true false = refl
read_back true false true = refl
read_back true false false = refl
read_back false true true = refl
read_back false true false = refl
read_back false false true = refl
read_back false false false = refl

-- letters of permissions are read as these
letters_read : (p : Perms) (word : List ℕ) → perms_text p ≡ word → perms_in word ≡ Ok p
letters_read p word same = subst (λ w. perms_in w ≡ Ok p) same (read_back p.read p.write p.execute)

other_letters : (word : List ℕ) → ((p : Perms) → perms_text p ≢ word) → (p : Perms) → bytes_eq word (perms_text p) ≡ false
other_letters word none p =
    elim (cases_Bool (bytes_eq word (perms_text p))) [
      | inl same ↦ absurd (none p (sym ((bytes_eq-Decides word (perms_text p)).0 same)))
      | inr other ↦ other
    ]

-- and nothing else is
no_letters : (word : List ℕ) → ((p : Perms) → perms_text p ≢ word) → perms_in word ≡ Err BadNumber
unfolding perms_in
no_letters word none =
    let other = other_letters word none in
    rw (
      other (perms_of 0),
      other (perms_of 1),
      other (perms_of 2),
      other (perms_of 3),
      other (perms_of 4),
      other (perms_of 5),
      other (perms_of 6),
      other (perms_of 7),
    ) refl

pub letters_value : (word : List ℕ) (o : Option Perms) → IfSome o (λ p. perms_text p ≡ word) → ((p : Perms) → perms_text p ≡ word → o ≡ Some p)
    → ok_or o BadNumber ≡ perms_in word
letters_value word (Some p) found only = sym (letters_read p word found)
letters_value word None found only = sym (no_letters word (λ p same. let read : None ≡ Some p = only p same in absurd cc))

-- one letter more is taken off
pub left_over_more : (letters : List ℕ) (i : ℕ) (word : List ℕ) → i < length letters
    → left_over (take (i + 1) letters) word ≡ without_letter (get_or letters i 0) (left_over (take i letters) word)
left_over_more [] i word below = absurd (omega arith)
left_over_more (letter ∷ letters) zero word below = refl
left_over_more (letter ∷ letters) (suc i) word below =
    let more : suc i + 1 ≡ suc (i + 1) = omega arith in
    rw more (left_over_more letters i (without_letter letter word) (omega arith))

abbrev pub given_flags : (read write create excl trunc append nofollow directory : Bool) → IsTrue (read || write) → Flags
given_flags read write create excl trunc append nofollow directory opens = record {
  read = read;
  write = write;
  create = create;
  excl = excl;
  trunc = trunc;
  append = append;
  nofollow = nofollow;
  directory = directory;
  opens = opens;
}

-- the flags of a word that has only their letters, in their order
same_flags : (word : List ℕ) (read write create excl trunc append nofollow directory : Bool) (opens : IsTrue (read || write))
    → create ≡ has (byte "c") word → excl ≡ has (byte "x") word → trunc ≡ has (byte "t") word → append ≡ has (byte "a") word
    → nofollow ≡ has (byte "n") word → directory ≡ has (byte "d") word
    → Ok (given_flags read write create excl trunc append nofollow directory opens) ≡ opened read write word
same_flags word true write create excl trunc append nofollow directory opens c x t a n d =
    rw (c, x, t, a, n, d) (ap (λ o. Ok (flags_with true write o word)) (Bool-set true true opens refl))
same_flags word false true create excl trunc append nofollow directory opens c x t a n d =
    rw (c, x, t, a, n, d) (ap (λ o. Ok (flags_with false true o word)) (Bool-set true true opens refl))
same_flags word false false create excl trunc append nofollow directory opens c x t a n d = absurd (false≢true opens)

pub flags_read : (word : List ℕ) (read write create excl trunc append nofollow directory : Bool) (opens : IsTrue (read || write))
    → (length (left_over flag_letters word) == 0) ≡ true → read ≡ has (byte "r") word → write ≡ has (byte "w") word
    → create ≡ has (byte "c") word → excl ≡ has (byte "x") word → trunc ≡ has (byte "t") word → append ≡ has (byte "a") word
    → nofollow ≡ has (byte "n") word → directory ≡ has (byte "d") word
    → Ok (given_flags read write create excl trunc append nofollow directory opens) ≡ flags_of word
unfolding flags_of
flags_read word read write create excl trunc append nofollow directory opens none r w c x t a n d =
    rw (none, ← r, ← w) (same_flags word read write create excl trunc append nofollow directory opens c x t a n d)
