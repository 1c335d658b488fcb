-- How it is printed what a disk says of itself.
--     Value        a number, or whether something is so
--     size_fields, free_fields, limit_fields, state_fields        what it says, each by its name, in this order
--     yes_text        the word for whether something is so
--     lines_text        a line each
--     json_text        a JSON object, on one line
--     info_text        one or the other
use Rattle.std.specs.Prelude.{ℕ, ◌*◌, Bool, List, [], ◌∷◌, ◌++◌, codes, if◌then◌else◌}
use Rattle.std.specs.Fmt.{decimal}
use Rattle.fs_layout.specs.Version.{version_number, max_name, max_names, max_inode_names, max_file_size, keeps_times}
use Rattle.fs_info.specs.declared.info.Info.{Info}

pub data Value : Type 0 where
  Number : ℕ → Value
  Truth : Bool → Value

-- the version and the size
abbrev pub size_fields : Info → List (List ℕ × Value)
size_fields i =
    (codes "version", Number (version_number i.geometry.version))
    ∷ (codes "sectors", Number i.geometry.sectors)
    ∷ (codes "bytes", Number (512 * i.geometry.sectors))
    ∷ (codes "inodes", Number i.geometry.inodes)
    ∷ []

-- what is free
abbrev pub free_fields : Info → List (List ℕ × Value)
free_fields i = (codes "free_sectors", Number i.free_sectors) ∷ (codes "free_inodes", Number i.free_inodes) ∷ []

-- the limits of the version
abbrev pub limit_fields : Info → List (List ℕ × Value)
limit_fields i =
    (codes "max_name", Number (max_name i.geometry.version))
    ∷ (codes "max_directory_names", Number (max_names i.geometry.version))
    ∷ (codes "max_links", Number (max_inode_names i.geometry.version))
    ∷ (codes "max_file_size", Number (max_file_size i.geometry.version))
    ∷ []

-- whether times are kept, and a commit waits
abbrev pub state_fields : Info → List (List ℕ × Value)
state_fields i = (codes "keeps_times", Truth (keeps_times i.geometry.version)) ∷ (codes "pending", Truth i.pending) ∷ []

-- ---- for people

abbrev pub yes_text : Bool → List ℕ
yes_text b = if b then codes "yes" else codes "no"

abbrev pub plain_text : Value → List ℕ
plain_text (Number n) = decimal n
plain_text (Truth b) = yes_text b

abbrev pub info_lines : List (List ℕ × Value) → List ℕ
info_lines [] = []
info_lines (f ∷ fs) = f.0 ++ (codes " " ++ (plain_text f.1 ++ (codes "\n" ++ info_lines fs)))

abbrev pub lines_text : Info → List ℕ
lines_text i = info_lines (size_fields i) ++ info_lines (free_fields i) ++ info_lines (limit_fields i) ++ info_lines (state_fields i)

-- ---- for programs

abbrev pub truth_text : Bool → List ℕ
truth_text b = if b then codes "true" else codes "false"

abbrev pub value_text : Value → List ℕ
value_text (Number n) = decimal n
value_text (Truth b) = truth_text b

-- each behind a brace or a comma
abbrev pub members_of : List ℕ → List (List ℕ × Value) → List ℕ
members_of before [] = []
members_of before (f ∷ fs) = before ++ (codes "\"" ++ (f.0 ++ (codes "\":" ++ (value_text f.1 ++ members_of (codes ",") fs))))

abbrev pub json_text : Info → List ℕ
json_text i =
    members_of (codes "{") (size_fields i)
    ++ members_of (codes ",") (free_fields i)
    ++ members_of (codes ",") (limit_fields i)
    ++ members_of (codes ",") (state_fields i)
    ++ codes "}\n"

abbrev pub info_text : Bool → Info → List ℕ
info_text json i = if json then json_text i else lines_text i
