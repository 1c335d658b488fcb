-- Where the program's definition finds no fault in the words, the command has its values.
use Rattle.std.specs.Prelude.{◌≡◌, ℕ, true, false, List, [], Option, Some, None, find, option_map}
use Rattle.std.proofs.Common.{◌∙◌, sym, refl, ap, subst, inl, inr}
use Rattle.std.specs.Option.{option_map_or}
use Rattle.std.specs.Str.Parse.{digits_value, without_leading_plus}
use Rattle.std.specs.List.{slice_index_or}
use Rattle.std.specs.Str.{bytes_eq}
use Rattle.std.proofs.lemmas.Slice.Eq.{bytes_eq-Decides}
use Rattle.clap.specs.Walk.{Text, answers_to, nothing_held, walk}
use Rattle.clap.specs.Simple.{Shape, argument_words, built, entered, label_of, names_of, rows_at}
use Rattle.clap.specs.Faults.{entered_fault, fault_of, level_fault}
use Rattle.clap.specs.ValueTests.{accepts}
use Rattle.clap.specs.declared.builder.value_parser.ValueParser.TheVariants as vp
use Rattle.clap.specs.Words.{subcommand_of}
use Rattle.clap.proofs.ValueTestLemmas.{accepts-Accepts}
use Rattle.fs_command.specs.Words.{HasValues, IsNumberFor, command_line}
use Rattle.fs_command.proofs.Taken.{Each, Sound, found_holds, leaf_flags, leaf_texts, leaf_values, no_kinds}

counted : (least most : ℕ) (o : Option Text) (v : Text) → o ≡ Some v → accepts false (vp.Unsigned least most) v ≡ true → (n : ℕ) × IsNumberFor least most o n
counted least most o v e passes =
    let taken = accepts-Accepts false (vp.Unsigned least most) v passes in (
      digits_value 10 (without_leading_plus v),
      subst (λ (w : Option Text). IsNumberFor least most w (digits_value 10 (without_leading_plus v))) (sym e) (taken.0, refl, taken.2, taken.3),
    )

-- the words of a command that have no fault give its values
abbrev HasAll : Shape → Type 0
HasAll s = (words : List Text) → level_fault s [] nothing_held words false [] ≡ [] → HasValues (Some (rows_at s words))

-- a command has the values of none that has another name
of_another : {P : Type 0} {name other : Text} → name ≡ other → bytes_eq name other ≡ false → P
of_another {name = name} {other = other} is differs =
    let same : bytes_eq name other ≡ true = (bytes_eq-Decides name other).1 is in
    cc

-- a command as the program's definition has it
abbrev leaf : ℕ → Shape
leaf i = slice_index_or (built command_line).subs i (built command_line).top

mkfs_sound : Each (Sound (leaf 0).rules) (leaf 0).rules
mkfs_sound = ((refl, inl (refl, refl, refl)), ((refl, inl (refl, refl, refl)), ((refl, inl (refl, refl, refl)), ((refl, inr (inr (refl, refl))), tt))))

format_sound : Each (Sound (leaf 1).rules) (leaf 1).rules
format_sound = ((refl, inl (refl, refl, refl)), ((refl, inl (refl, refl, refl)), ((refl, inl (refl, refl, refl)), ((refl, inr (inr (refl, refl))), tt))))

pack_sound : Each (Sound (leaf 2).rules) (leaf 2).rules
pack_sound = (
  (refl, inl (refl, refl, refl)),
  (
    (refl, inl (refl, refl, refl)),
    (
      (refl, inl (refl, refl, refl)),
      (
        (refl, inl (refl, refl, refl)),
        (
          (refl, inl (refl, refl, refl)),
          ((refl, inl (refl, refl, refl)), ((refl, inr (inr (refl, refl))), tt)),
        ),
      ),
    ),
  ),
)

unpack_sound : Each (Sound (leaf 3).rules) (leaf 3).rules
unpack_sound = ((refl, inl (refl, refl, refl)), ((refl, inl (refl, refl, refl)), ((refl, inr (inr (refl, refl))), tt)))

run_sound : Each (Sound (leaf 4).rules) (leaf 4).rules
run_sound = ((refl, inl (refl, refl, refl)), ((refl, inl (refl, refl, refl)), ((refl, inr (inr (refl, refl))), tt)))

check_sound : Each (Sound (leaf 5).rules) (leaf 5).rules
check_sound = ((refl, inl (refl, refl, refl)), ((refl, inr (inl (refl, refl, refl, refl, refl, refl))), ((refl, inr (inr (refl, refl))), tt)))

info_sound : Each (Sound (leaf 6).rules) (leaf 6).rules
info_sound = ((refl, inl (refl, refl, refl)), ((refl, inr (inl (refl, refl, refl, refl, refl, refl))), ((refl, inr (inr (refl, refl))), tt)))

upgrade_sound : Each (Sound (leaf 7).rules) (leaf 7).rules
upgrade_sound = ((refl, inl (refl, refl, refl)), ((refl, inr (inr (refl, refl))), tt))

fuse_sound : Each (Sound (leaf 8).rules) (leaf 8).rules
fuse_sound = (
  (refl, inl (refl, refl, refl)),
  (
    (refl, inl (refl, refl, refl)),
    ((refl, inr (inl (refl, refl, refl, refl, refl, refl))), ((refl, inl (refl, refl, refl)), ((refl, inr (inr (refl, refl))), tt))),
  ),
)

access_sound : Each (Sound (leaf 9).rules) (leaf 9).rules
access_sound = (
  (refl, inl (refl, refl, refl)),
  (
    (refl, inl (refl, refl, refl)),
    (
      (refl, inl (refl, refl, refl)),
      (
        (refl, inl (refl, refl, refl)),
        (
          (refl, inl (refl, refl, refl)),
          ((refl, inr (inl (refl, refl, refl, refl, refl, refl))), ((refl, inr (inr (refl, refl))), tt)),
        ),
      ),
    ),
  ),
)

mkfs_has : HasAll (leaf 0)
mkfs_has words fault =
    let values = leaf_values (leaf 0) words mkfs_sound refl fault in
    let image = values.0 refl in
    let sectors = values.1.0 refl in
    let inodes = values.1.1.0 refl in
    record {
      known = refl;
      image = (image.0, image.1);
      mkfs = λ _. (counted 1024 65536 _ sectors.0 sectors.2 sectors.3, counted 16 4096 _ inodes.0 inodes.2 inodes.3);
      format = λ is. of_another is refl;
      pack = λ is. of_another is refl;
      unpack = λ is. of_another is refl;
      check = λ is. of_another is refl;
      info = λ is. of_another is refl;
      fuse = λ is. of_another is refl;
      access = λ is. of_another is refl;
    }

format_has : HasAll (leaf 1)
format_has words fault =
    let values = leaf_values (leaf 1) words format_sound refl fault in
    let image = values.0 refl in
    let size = values.1.0 refl in
    let inodes = (leaf_texts (leaf 1) words format_sound fault).1.1.0 in
    record {
      known = refl;
      image = (image.0, image.1);
      mkfs = λ is. of_another is refl;
      format = λ _. ((size.0, size.1), (λ text is. counted 16 1048576 _ (inodes text is).0 (is ∙ ap Some (inodes text is).1) (inodes text is).2));
      pack = λ is. of_another is refl;
      unpack = λ is. of_another is refl;
      check = λ is. of_another is refl;
      info = λ is. of_another is refl;
      fuse = λ is. of_another is refl;
      access = λ is. of_another is refl;
    }

pack_has : HasAll (leaf 2)
pack_has words fault =
    let values = leaf_values (leaf 2) words pack_sound refl fault in
    let texts = leaf_texts (leaf 2) words pack_sound fault in
    let image = values.0 refl in
    let from = values.1.0 refl in
    let size = values.1.1.0 refl in
    let inodes = texts.1.1.1.0 in
    let user = texts.1.1.1.1.0 in
    let group = texts.1.1.1.1.1.0 in
    record {
      known = refl;
      image = (image.0, image.1);
      mkfs = λ is. of_another is refl;
      format = λ is. of_another is refl;
      pack = λ _. ((from.0, from.1), (size.0, size.1), (λ text is. counted 16 1048576 _ (inodes text is).0 (is ∙ ap Some (inodes text is).1) (inodes text is).2), (λ text is. counted 0 4294967295 _ (user text is).0 (is ∙ ap Some (user text is).1) (user text is).2), (λ text is. counted 0 4294967295 _ (group text is).0 (is ∙ ap Some (group text is).1) (group text is).2));
      unpack = λ is. of_another is refl;
      check = λ is. of_another is refl;
      info = λ is. of_another is refl;
      fuse = λ is. of_another is refl;
      access = λ is. of_another is refl;
    }

unpack_has : HasAll (leaf 3)
unpack_has words fault =
    let values = leaf_values (leaf 3) words unpack_sound refl fault in
    let image = values.0 refl in
    let to = values.1.0 refl in
    record {
      known = refl;
      image = (image.0, image.1);
      mkfs = λ is. of_another is refl;
      format = λ is. of_another is refl;
      pack = λ is. of_another is refl;
      unpack = λ _. (to.0, to.1);
      check = λ is. of_another is refl;
      info = λ is. of_another is refl;
      fuse = λ is. of_another is refl;
      access = λ is. of_another is refl;
    }

run_has : HasAll (leaf 4)
run_has words fault =
    let image = (leaf_values (leaf 4) words run_sound refl fault).0 refl in
    record {
      known = refl;
      image = (image.0, image.1);
      mkfs = λ is. of_another is refl;
      format = λ is. of_another is refl;
      pack = λ is. of_another is refl;
      unpack = λ is. of_another is refl;
      check = λ is. of_another is refl;
      info = λ is. of_another is refl;
      fuse = λ is. of_another is refl;
      access = λ is. of_another is refl;
    }

check_has : HasAll (leaf 5)
check_has words fault =
    let image = (leaf_values (leaf 5) words check_sound refl fault).0 refl in
    let explain = (leaf_flags (leaf 5) words check_sound fault).1.0 (refl, refl, refl, refl, refl, refl) in
    record {
      known = refl;
      image = (image.0, image.1);
      mkfs = λ is. of_another is refl;
      format = λ is. of_another is refl;
      pack = λ is. of_another is refl;
      unpack = λ is. of_another is refl;
      check = λ _. explain;
      info = λ is. of_another is refl;
      fuse = λ is. of_another is refl;
      access = λ is. of_another is refl;
    }

info_has : HasAll (leaf 6)
info_has words fault =
    let image = (leaf_values (leaf 6) words info_sound refl fault).0 refl in
    let json = (leaf_flags (leaf 6) words info_sound fault).1.0 (refl, refl, refl, refl, refl, refl) in
    record {
      known = refl;
      image = (image.0, image.1);
      mkfs = λ is. of_another is refl;
      format = λ is. of_another is refl;
      pack = λ is. of_another is refl;
      unpack = λ is. of_another is refl;
      check = λ is. of_another is refl;
      info = λ _. json;
      fuse = λ is. of_another is refl;
      access = λ is. of_another is refl;
    }

upgrade_has : HasAll (leaf 7)
upgrade_has words fault =
    let image = (leaf_values (leaf 7) words upgrade_sound refl fault).0 refl in
    record {
      known = refl;
      image = (image.0, image.1);
      mkfs = λ is. of_another is refl;
      format = λ is. of_another is refl;
      pack = λ is. of_another is refl;
      unpack = λ is. of_another is refl;
      check = λ is. of_another is refl;
      info = λ is. of_another is refl;
      fuse = λ is. of_another is refl;
      access = λ is. of_another is refl;
    }

fuse_has : HasAll (leaf 8)
fuse_has words fault =
    let image = (leaf_values (leaf 8) words fuse_sound refl fault).0 refl in
    let own_rules = (leaf_flags (leaf 8) words fuse_sound fault).1.1.0 (refl, refl, refl, refl, refl, refl) in
    let commit = (leaf_texts (leaf 8) words fuse_sound fault).1.1.1.0 in
    record {
      known = refl;
      image = (image.0, image.1);
      mkfs = λ is. of_another is refl;
      format = λ is. of_another is refl;
      pack = λ is. of_another is refl;
      unpack = λ is. of_another is refl;
      check = λ is. of_another is refl;
      info = λ is. of_another is refl;
      fuse = λ _. (own_rules, (λ text is. counted 0 86400 _ (commit text is).0 (is ∙ ap Some (commit text is).1) (commit text is).2));
      access = λ is. of_another is refl;
    }

access_has : HasAll (leaf 9)
access_has words fault =
    let values = leaf_values (leaf 9) words access_sound refl fault in
    let image = values.0 refl in
    let path = values.1.0 refl in
    let perm = values.1.1.0 refl in
    let user = values.1.1.1.0 refl in
    let json = (leaf_flags (leaf 9) words access_sound fault).1.1.1.1.1.0 (refl, refl, refl, refl, refl, refl) in
    record {
      known = refl;
      image = (image.0, image.1);
      mkfs = λ is. of_another is refl;
      format = λ is. of_another is refl;
      pack = λ is. of_another is refl;
      unpack = λ is. of_another is refl;
      check = λ is. of_another is refl;
      info = λ is. of_another is refl;
      fuse = λ is. of_another is refl;
      access = λ _. ((path.0, path.1), (perm.0, perm.1), (user.0, user.1), json);
    }

each_has : Each HasAll (built command_line).subs
each_has = (mkfs_has, (format_has, (pack_has, (unpack_has, (run_has, (check_has, (info_has, (upgrade_has, (fuse_has, (access_has, tt))))))))))

entered_has : (stop : Option (Text × List Text)) → entered_fault (built command_line) stop ≡ [] → HasValues (entered (built command_line) stop)
entered_has None fault = tt
entered_has (Some p) fault = go (find (λ s. answers_to p.0 (label_of s)) (built command_line).subs) refl fault
  where
    go : (o : Option Shape) → find (λ s. answers_to p.0 (label_of s)) (built command_line).subs ≡ o
        → option_map_or (λ s. level_fault s [] nothing_held p.1 false []) o [] ≡ []
        → HasValues (option_map (λ s. rows_at s p.1) o)
    go None e fault = tt
    go (Some s) e fault = found_holds HasAll (λ s. answers_to p.0 (label_of s)) (built command_line).subs s each_has e p.1 fault

pub has_values : (words : List Text) → fault_of command_line words ≡ [] → HasValues (subcommand_of command_line words)
has_values words fault =
    let stop = (walk (built command_line).top.rules (names_of (built command_line)) nothing_held (argument_words command_line words)).stopped in
    let after = no_kinds _ _ fault in
    entered_has stop (no_kinds (entered_fault (built command_line) stop) _ after.1).0
