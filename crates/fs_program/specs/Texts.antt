-- What the program prints of an image, a line each.
--     made_text        that it was made
--     clean_text        what a clean one has
--     finding_text, found_text        which rule fails, and with or without what that rule asks
--     version_text        which version it has
use Rattle.std.specs.Prelude.{ℕ, ◌-◌, Bool, List, [], ◌++◌, codes, if◌then◌else◌}
use Rattle.std.specs.Fmt.{decimal}
use Rattle.fs_layout.specs.declared.geometry.Geometry.{Geometry}
use Rattle.fs_layout.specs.declared.version.Version.{Version}
use Rattle.fs_layout.specs.Version.{version_number}
use Rattle.fs_check.specs.declared.faults.Finding.{Finding}
use Rattle.fs_check.specs.declared.faults.Summary.{Summary}
use Rattle.fs_info.specs.InfoTexts.{yes_text}
use Rattle.fs_program.specs.Explanations.{explanation_text}

abbrev pub made_text : Geometry → List ℕ
made_text geometry =
    codes "made " ++ decimal geometry.sectors ++ codes " sectors " ++ decimal geometry.inodes ++ codes " inodes "
    ++ decimal (geometry.sectors - geometry.first_data) ++ codes " free\n"

abbrev pub kinds_text : Summary → List ℕ
kinds_text s = codes "clean files " ++ decimal s.files ++ codes " dirs " ++ decimal s.dirs ++ codes " links " ++ decimal s.links

abbrev pub room_text : Summary → List ℕ
room_text s =
    codes " nameless " ++ decimal s.nameless ++ codes " blocks " ++ decimal s.blocks ++ codes " inodes " ++ decimal s.inodes

abbrev pub clean_text : Summary → List ℕ
clean_text s = kinds_text s ++ room_text s ++ (codes " pending " ++ yes_text s.pending ++ codes "\n")

abbrev pub finding_text : Finding → List ℕ
finding_text f = codes "finding " ++ decimal f.rule ++ codes " " ++ decimal f.at ++ codes "\n"

abbrev pub found_text : Bool → Finding → List ℕ
found_text explain f = finding_text f ++ (if explain then explanation_text f else [])

abbrev pub version_text : Version → List ℕ
version_text version = codes "version " ++ decimal (version_number version) ++ codes "\n"
