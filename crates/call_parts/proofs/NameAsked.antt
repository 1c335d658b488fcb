-- What is asked of a directory that gets a name.
--     asked_as        of the same caller, after as many lookups
--     dir_refuses, dir_granted        write and search
--     room_few, room_crowded, room_met        room for a name
use Rattle.std.specs.Prelude.{◌≡◌, ℕ, nat_lt, nat_le, [], ◌∷◌, length, None, Result, Ok}
use Rattle.std.proofs.Common.{sym, ap, subst, ◌∙◌}
use Rattle.sector_disk.specs.Disk.{DiskState}
use Rattle.fs_cred.specs.declared.errno.Errno.TheVariants.{ENOSPC}
use Rattle.fs_cred.specs.declared.refusal.Need.TheVariants.{Perm}
use Rattle.fs_cred.specs.declared.refusal.Refusal.{Refusal}
use Rattle.fs_cred.specs.declared.rule.Rule.{Rule}
use Rattle.fs_cred.specs.Credentials.{Credential}
use Rattle.fs_cred.specs.Verdicts.{verdict}
use Rattle.fs_layout.specs.declared.inode.Inode.{Inode}
use Rattle.fs_layout.specs.declared.geometry.Geometry.{Geometry}
use Rattle.fs_layout.specs.Bytes.{SectorMap}
use Rattle.fs_layout.specs.Version.{max_names, max_directory_size}
use Rattle.fs_layout.specs.Images.{inode_at, free_sectors}
use Rattle.fs_model.specs.Births.{the_node}
use Rattle.fs_model.specs.Demands.{Demand, refuse, first_of, decided, permission_of, permission_on, write_and_search}
use Rattle.fs_model.specs.Limits.{least_free}
use Rattle.fs_model.specs.Nodes.{names_of_body}
use Rattle.fs_model.specs.Trees.{Tree, IsDirectoryAt}
use Rattle.path_walk.specs.Answers.{refused_or, IsAnswered}
use Rattle.path_walk.specs.HeldTrees.{HoldsTree}
use Rattle.call_parts.proofs.Calling.{met_ok, or_else-none, both_met}
use Rattle.call_parts.proofs.Followed.{accessed_is}
use Rattle.call_parts.proofs.Refuses.{Refuses, refuses_first, refuses_next}
use Rattle.call_parts.proofs.MakeAsked.{dir_access, names_are, names_full, size_as}
use Rattle.call_parts.specs.Makings.{room_asked}
use Rattle.call_parts.specs.Telling.{checked}

-- ---- write and search on a directory

-- permission on a directory, of the same caller after as many lookups
pub asked_as : {cred who : Credential} {step steps : ℕ} (t : Tree) (dir_ino walk : ℕ) (y : Inode) (r : Result Inode Refusal) (old new : DiskState) → cred ≡ who → step ≡ steps
    → IsAnswered old new (refused_or {A = Inode} (permission_on cred t dir_ino write_and_search walk step) (Ok y)) r
    → IsAnswered old new (refused_or {A = Inode} (permission_on who t dir_ino write_and_search walk steps) (Ok y)) r
asked_as {cred} {who} {step} {steps} t dir_ino walk y r old new same is h =
    subst (λ (k : ℕ). IsAnswered old new (refused_or {A = Inode} (permission_on who t dir_ino write_and_search walk k) (Ok y)) r) is
    (subst (λ (k : Credential). IsAnswered old new (refused_or {A = Inode} (permission_on k t dir_ino write_and_search walk step) (Ok y)) r) same h)

module _ {p : Geometry} {map : SectorMap} {t : Tree} (h : HoldsTree p map t) (dir_ino : ℕ) (d : IsDirectoryAt t dir_ino) (cred : Credential) (walk step : ℕ) where
  abbrev pub decision : Result Rule Refusal
  decision =
      refused_or {A = Rule} (decided walk step (Perm write_and_search) (verdict cred (dir_access h dir_ino d cred step).access write_and_search))
      (Ok (verdict cred (dir_access h dir_ino d cred step).access write_and_search).rule)

  asked_is : permission_on cred t dir_ino write_and_search walk step ≡ decided walk step (Perm write_and_search) (verdict cred (dir_access h dir_ino d cred step).access write_and_search)
  asked_is = ap (permission_of cred write_and_search walk step) (accessed_is t dir_ino (dir_access h dir_ino d cred step))

  pub dir_refuses : Refuses (decided walk step (Perm write_and_search) (verdict cred (dir_access h dir_ino d cred step).access write_and_search)) (permission_on cred t dir_ino write_and_search walk step)
  dir_refuses e is = asked_is ∙ is

  pub dir_granted : (rule : Rule) → decision ≡ Ok rule → permission_on cred t dir_ino write_and_search walk step ≡ None
  dir_granted rule is =
      asked_is
      ∙ (met_ok {A = Rule} (decided walk step (Perm write_and_search) (verdict cred (dir_access h dir_ino d cred step).access write_and_search))
      (verdict cred (dir_access h dir_ino d cred step).access write_and_search).rule rule is).0

-- ---- room for a name

module _ {p : Geometry} {map : SectorMap} {t : Tree} (h : HoldsTree p map t) (dir_ino : ℕ) (d : IsDirectoryAt t dir_ino) where
  abbrev sectors : Demand
  sectors = refuse ENOSPC (nat_lt (free_sectors p map) least_free)

  abbrev slots : Demand
  slots = refuse ENOSPC (nat_le (max_names p.version) (length (names_of_body (the_node t dir_ino).body)))

  pub room_few : Refuses (refuse ENOSPC (nat_lt (free_sectors p map) least_free)) (first_of (room_asked p map t dir_ino))
  room_few = refuses_first sectors (slots ∷ [])

  module _ (enough : checked (refuse ENOSPC (nat_lt (free_sectors p map) least_free)) ≡ Ok tt) {v : Inode} (is : v ≡ inode_at p map dir_ino) where
    enough_met : sectors ≡ None
    enough_met = (met_ok {A = Unit {0}} sectors tt tt enough).0

    pub room_crowded : Refuses (refuse ENOSPC (nat_le (max_directory_size p.version) v.size)) (first_of (room_asked p map t dir_ino))
    room_crowded = refuses_next sectors (slots ∷ []) enough_met (λ (e : Refusal) full. refuses_first slots [] e (names_full h dir_ino d is full))

    pub room_met : checked (refuse ENOSPC (nat_le (max_directory_size p.version) v.size)) ≡ Ok tt → checked (first_of (room_asked p map t dir_ino)) ≡ Ok tt
    room_met free =
        ap checked (both_met sectors (slots ∷ []) enough_met
        (or_else-none slots ∙ sym (names_are h dir_ino d) ∙ (met_ok {A = Unit {0}} (refuse ENOSPC (nat_le (max_directory_size p.version) (inode_at p map dir_ino).size)) tt tt (size_as (max_directory_size p.version) is free)).0))
