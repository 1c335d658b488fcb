-- What a trail finds: what is so of where it begins, and of all that its lookups reach.
use Rattle.std.specs.Prelude.{◌≡◌, ℕ, zero, suc, Bool, ◌&&◌, ◌||◌, List, [], ◌∷◌, ◌++◌, Option, None, Some}
use Rattle.std.proofs.Common.{subst}
use Rattle.fs_model.specs.Trees.{Tree, Room, node_at}
use Rattle.fs_model.specs.Parts.{Parts, parts_of, start_of, is_empty}
use Rattle.fs_model.specs.Trails.{Trail, Outcome, Faulty, Absent, Reaches, Through, GoesOn, looked_up, onward, through_if, lookups_from, trail_with}

module _ (room : Room) (t : Tree) (P : ℕ → Type 0) where
  abbrev pub ReachesSuch : Outcome → Type 0
  ReachesSuch (Reaches n) = P n
  ReachesSuch _ = Unit {0}

  abbrev pub FindsSuch : Trail → Type 0
  FindsSuch trail = (n : ℕ) → trail.found ≡ Some n → P n

  abbrev GoesSuch : Option GoesOn → Type 0
  GoesSuch None = Unit {0}
  GoesSuch (Some go_on) = (dir_ino : ℕ) (names : List (List ℕ)) (slash : Bool) → P dir_ino → FindsSuch (go_on dir_ino names slash)

  module _ (starts : (parts : Parts) (dir_ino : ℕ) → P dir_ino → P (start_of parts dir_ino)) (follow : Bool)
      (reaches : (is_last : Bool) (dir_ino : ℕ) (name : List ℕ) → P dir_ino → ReachesSuch (looked_up room t is_last follow dir_ino name (node_at t dir_ino))) where
    through_such : (behind : Option GoesOn) (dir_ino : ℕ) (name : List ℕ) (names : List (List ℕ)) (slash : Bool) (target : List ℕ)
        → GoesSuch behind → P dir_ino → FindsSuch (through_if behind dir_ino name names slash target)
    through_such None dir_ino name names slash target h at n e = absurd cc
    through_such (Some go_on) dir_ino name names slash target h at n e =
        h (start_of (parts_of target) dir_ino) ((parts_of target).names ++ names) (slash || (is_empty names && (parts_of target).slash_at_end)) (starts (parts_of target) dir_ino at) n e

    onward_such : (behind : Option GoesOn) (rest : ℕ → Trail) (dir_ino : ℕ) (name : List ℕ) (names : List (List ℕ)) (slash : Bool) (o : Outcome)
        → GoesSuch behind → P dir_ino → ReachesSuch o → ((n : ℕ) → P n → FindsSuch (rest n)) → FindsSuch (onward behind rest dir_ino name names slash o)
    onward_such behind rest dir_ino name names slash (Faulty f) h at r more n e = absurd cc
    onward_such behind rest dir_ino name names slash Absent h at r more n e = absurd cc
    onward_such behind rest dir_ino name names slash (Reaches k) h at r more n e = more k r n e
    onward_such behind rest dir_ino name names slash (Through target) h at r more n e = through_such behind dir_ino name names slash target h at n e

    names_such : (behind : Option GoesOn) (dir_ino : ℕ) (names : List (List ℕ)) (slash : Bool) → GoesSuch behind → P dir_ino → FindsSuch (lookups_from room t follow behind dir_ino names slash)
    names_such behind dir_ino [] slash h at n e = let same : dir_ino ≡ n = cc in subst P same at
    names_such behind dir_ino (name ∷ names) slash h at n e =
        onward_such behind (λ k. lookups_from room t follow behind k names slash) dir_ino name names slash
        (looked_up room t (is_empty names) follow dir_ino name (node_at t dir_ino)) h at
        (reaches (is_empty names) dir_ino name at)
        (λ k found. names_such behind k names slash h found) n e

    pub finds_such : (links dir_ino : ℕ) (names : List (List ℕ)) (slash : Bool) → P dir_ino → FindsSuch (trail_with room t follow links dir_ino names slash)
    finds_such zero dir_ino names slash at = names_such None dir_ino names slash tt at
    finds_such (suc links) dir_ino names slash at = names_such (Some (trail_with room t follow links)) dir_ino names slash (λ p ns s h. finds_such links p ns s h) at
