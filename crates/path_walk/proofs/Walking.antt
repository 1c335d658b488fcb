-- The whole of a walk.
use Rattle.std.specs.Prelude.{◌≡◌, ℕ, ◌+◌, ◌*◌, ◌^◌, ◌<◌, ◌≤◌, Bool, true, false, not, ◌&&◌, cond, List, length, Some, Ok, Err}
use Rattle.std.proofs.Common.{sym, ap, subst, arith, ◌∙◌, inl, inr}
use Rattle.sector_disk.specs.Disk.{DiskState, HasFailed}
use Rattle.fs_cred.specs.declared.errno.Errno.TheVariants.{EIO, ENOTDIR}
use Rattle.fs_cred.specs.declared.refusal.Refusal.{Refusal}
use Rattle.fs_cred.specs.declared.refusal.Refusal.TheVariants.{Failed}
use Rattle.fs_layout.specs.declared.geometry.Geometry.{Geometry}
use Rattle.fs_layout.specs.Bytes.{SectorMap}
use Rattle.fs_layout.specs.Geometry.{IsGeometry}
use Rattle.fs_model.specs.declared.walk.Form.{Form}
use Rattle.fs_model.specs.Demands.{refuse}
use Rattle.fs_model.specs.Limits.{root}
use Rattle.fs_model.specs.Parts.{Parts, start_of}
use Rattle.fs_model.specs.Trees.{Tree}
use Rattle.fs_model.specs.Rules.{is_directory_kind}
use Rattle.fs_model.specs.Walks.{is_parent_form}
use Rattle.path_walk.specs.declared.walker.Walker.{Walker}
use Rattle.path_walk.specs.Answers.{refused_or, IsCaused}
use Rattle.path_walk.specs.Rests.{found_at}
use Rattle.path_walk.specs.HeldTrees.{IsThere}
use Rattle.path_walk.specs.Stages.{StandsAt, IsStart, HasTaken, IsWay, HasRoom, bytes_ahead, arrival_of, last_done}

-- ---- the start
pub start_below : (parts : Parts) (p : Geometry) (cwd : ℕ) → IsGeometry p → cwd < p.inodes → start_of parts cwd < p.inodes
start_below parts p cwd geometry low = go parts.absolute
  where
    go : (b : Bool) → cond b root cwd < p.inodes
    go true = let least = geometry.least_inodes in omega (arith, least)
    go false = low

-- ---- the way ahead
pub start_room : (cwd : ℕ) (path : List ℕ) (number : ℕ) (w : Walker) → IsStart cwd path number w → length path ≤ 1023 → HasRoom w
start_room cwd path number w start short =
    let rest : length w.rest.items ≡ length path = ap length start.rest in
    let at = start.at in let links = start.links in let step = start.step in
    record { at = omega (arith, at); ahead = omega (arith, rest, links, short); steps = omega (arith, rest, links, step, short) }

-- the next component is taken, and looked up
pub room_after : (old mid new : Walker) → HasRoom old → HasTaken old mid → IsWay mid new → HasRoom new
room_after old mid new room taken way =
    let at = room.at in let ahead = room.ahead in let steps = room.steps in
    let later = taken.later in let inside = taken.inside in
    let rest : length mid.rest.items ≡ length old.rest.items = ap (λ (w : Walker). length w.rest.items) taken.is in
    let links : mid.links ≡ old.links = ap (λ (w : Walker). w.links) taken.is in
    let step : mid.step ≡ old.step = ap (λ (w : Walker). w.step) taken.is in
    let more = way.step in
    elim way.ahead [
      | inl same ↦ record {
        at = way.at;
        ahead = omega (arith, same, rest, links, ahead, later, inside);
        steps = omega (arith, same, rest, links, step, more, steps, later, inside);
      }
      | inr less ↦ record {
        at = way.at;
        ahead = omega (arith, less, rest, links, ahead, later, inside);
        steps = omega (arith, less, rest, links, step, more, steps, later, inside);
      }
    ]

pub goes_less : (old mid new : Walker) → HasRoom old → HasTaken old mid → IsWay mid new
    → bytes_ahead new + 21544 * new.links < bytes_ahead old + 21544 * old.links
goes_less old mid new room taken way =
    let ahead = room.ahead in let later = taken.later in let inside = taken.inside in
    let rest : length mid.rest.items ≡ length old.rest.items = ap (λ (w : Walker). length w.rest.items) taken.is in
    let links : mid.links ≡ old.links = ap (λ (w : Walker). w.links) taken.is in
    elim way.ahead [
      | inl same ↦ omega (arith, same, rest, links, ahead, later, inside)
      | inr less ↦ omega (arith, less, rest, links, ahead, later, inside)
    ]

pub steps_fit : (old mid : Walker) → HasRoom old → HasTaken old mid → mid.step + 1 < 2 ^ 64
steps_fit old mid room taken =
    let steps = room.steps in
    let step : mid.step ≡ old.step = ap (λ (w : Walker). w.step) taken.is in
    omega (arith, steps, step)

pub at_taken : (p : Geometry) (image : SectorMap) (old mid : Walker) → HasTaken old mid → StandsAt p image old → StandsAt p image mid
at_taken p image old mid taken at =
    subst (StandsAt p image) (sym taken.is) (record { below = at.below; inode = at.inode })

pub dir_taken : (old mid : Walker) → HasTaken old mid → mid.dir_ino ≡ mid.here
dir_taken old mid taken = ap (λ (w : Walker). w.dir_ino) taken.is ∙ sym (ap (λ (w : Walker). w.here) taken.is)

pub here_taken : (old mid : Walker) (t : Tree) → HasTaken old mid → IsThere t old.here → IsThere t mid.here
here_taken old mid t taken there = subst (IsThere t) (sym (ap (λ (w : Walker). w.here) taken.is)) there

-- the end of a walk refuses with ENOTDIR alone
pub end_caused : (old new : DiskState) (form : Form) (w : Walker) (e : Refusal) → arrival_of form w ≡ Err e → IsCaused old new e
end_caused old new form w e is eio = go (not (is_parent_form form) && w.slash && not (is_directory_kind w.inode.kind)) is
  where
    go : (b : Bool) → refused_or (refuse ENOTDIR b) (Ok (found_at w.step (last_done w) (Some w.here) w.slash)) ≡ Err e → HasFailed old new
    go true h = let both : Failed ENOTDIR ≡ Failed EIO = cc in absurd (cc)
    go false h = absurd (cc)
