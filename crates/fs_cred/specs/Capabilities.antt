-- What a process may do beyond its ownership: the capabilities of capabilities(7) that are asked here, each a bit.
use Rattle.std.specs.Prelude.{ℕ, ◌==◌, Bool, List, [], ◌∷◌, codes, if◌then◌else◌}
use Rattle.std.specs.Int.RustNames.{bit_and}
use Rattle.fs_cred.specs.declared.caps.Caps.{Caps}

-- to give an object another owner or group
abbrev pub cap_chown : Caps
cap_chown = record { 0 = 1 }

-- to pass all permissions of files and directories, but for executing a file that nobody may execute
abbrev pub cap_dac_override : Caps
cap_dac_override = record { 0 = 2 }

-- to read files and directories, and to search directories
abbrev pub cap_dac_read_search : Caps
cap_dac_read_search = record { 0 = 4 }

-- to count as the owner of each object, where its mode or its ACL is changed, and where its name is removed
abbrev pub cap_fowner : Caps
cap_fowner = record { 0 = 8 }

-- to keep the set-group-ID bit of a directory whose group one isn't in
abbrev pub cap_fsetid : Caps
cap_fsetid = record { 0 = 16 }

abbrev pub no_caps : Caps
no_caps = record { 0 = 0 }

abbrev pub all_caps : Caps
all_caps = record { 0 = 31 }

-- the names of the capabilities, by rising bits
abbrev pub named_caps : List (List ℕ × ℕ)
named_caps =
    (codes "chown", 1) ∷ (codes "dac-override", 2) ∷ (codes "dac-read-search", 4) ∷ (codes "fowner", 8)
    ∷ (codes "fsetid", 16) ∷ []

-- one set of capabilities holds all of another
abbrev pub holds_caps : Caps → Caps → Bool
holds_caps these those = bit_and these.0 those.0 == those.0

-- what a user has to whom none are named: uid 0 has all, and others none
abbrev pub usual_caps : ℕ → Caps
usual_caps uid = if uid == 0 then all_caps else no_caps
