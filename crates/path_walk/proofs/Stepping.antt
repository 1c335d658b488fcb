-- One lookup and where it leads, for a walker.
use Rattle.std.specs.Prelude.{◌≡◌, ◌≢◌, ℕ, ◌+◌, ◌-◌, ◌≤◌, Bool, true, false, cond, ◌||◌, ◌&&◌, List, ◌∷◌, ◌++◌, length, drop, None, Some, Ok}
use Rattle.std.proofs.Common.{refl, sym, ap, subst, arith, ◌∙◌, inr, length-append, length-drop}
use Rattle.fs_cred.specs.Credentials.{Credential}
use Rattle.fs_layout.specs.declared.inode.Kind.{Kind}
use Rattle.fs_layout.specs.declared.inode.Kind.TheVariants as kinds
use Rattle.fs_layout.specs.declared.geometry.Geometry.{Geometry}
use Rattle.fs_layout.specs.Bytes.{SectorMap}
use Rattle.fs_model.specs.Demands.{Demand, search_on}
use Rattle.fs_model.specs.Parts.{slash, parts_of, start_of, begins_with_slash, ends_with_slash}
use Rattle.fs_model.specs.Stands.{room_of}
use Rattle.fs_model.specs.Summaries.{is_link_kind}
use Rattle.fs_model.specs.Trails.{Outcome, Faulty, Absent, Reaches, Through}
use Rattle.fs_model.specs.Trees.{Tree, node_at}
use Rattle.fs_model.proofs.Finds.{Reached, lookup_reached}
use Rattle.path_walk.specs.declared.walker.Walker.{Walker}
use Rattle.path_walk.specs.Answers.{refused_or}
use Rattle.path_walk.specs.HeldTrees.{HoldsTree, IsThere}
use Rattle.path_walk.specs.Lookups.{looked_up_alone, found_as, lookup_of}
use Rattle.path_walk.specs.Stages.{IsBehind, IsWay}
use Rattle.fs_model.specs.Limits.{root}
use Rattle.path_walk.proofs.Kept.{answer, same_ok}

-- what a lookup finds is there
pub found_there : {p : Geometry} {image : SectorMap} {t : Tree} → HoldsTree p image t → (cred : Credential) (walk k dir_ino : ℕ) (name : List ℕ) (n : ℕ)
    → lookup_of (room_of p) t cred walk k dir_ino name ≡ Ok (Some n) → IsThere t n
found_there {p} {image} {t} h cred walk k dir_ino name n e =
    go (search_on cred t dir_ino walk k) (looked_up_alone (room_of p) t dir_ino name) (lookup_reached (room_of p) t h.tree true false dir_ino name (node_at t dir_ino) refl) e
  where
    go : (d : Demand) (o : Outcome) → Reached (room_of p) t h.tree o → refused_or d (found_as o) ≡ Ok (Some n) → IsThere t n
    go (Some f) o r e = absurd (cc)
    go None (Faulty f) r e = absurd (cc)
    go None Absent r e = absurd (cc)
    go None (Reaches j) r e = let same : j ≡ n = cc in subst (IsThere t) same r
    go None (Through target) r e = absurd (cc)

pub link_is : (k : Kind) → is_link_kind k ≡ true → k ≡ kinds.Link
link_is kinds.Free e = absurd (cc)
link_is kinds.File e = absurd (cc)
link_is kinds.Directory e = absurd (cc)
link_is kinds.Link e = refl

-- one link less, and its target more
pub behind_way : (w new : Walker) (target : List ℕ) (is_last : Bool) → IsBehind target is_last (record w { step = w.step + 1 }) new → length target ≤ 512
    → IsWay w new
behind_way w new target is_last b short =
    let from : new.at ≡ 0 = ap (λ (v : Walker). v.at) b.is in
    let rest : length new.rest.items ≡ length (target ++ (slash ∷ drop w.at w.rest.items)) = ap length b.rest in
    let whole : length (target ++ (slash ∷ drop w.at w.rest.items)) ≡ length target + length (slash ∷ drop w.at w.rest.items) =
    length-append target (slash ∷ drop w.at w.rest.items) in
    let left : length (drop w.at w.rest.items) ≡ length w.rest.items - w.at = length-drop w.at w.rest.items in
    record {
      number = ap (λ (v : Walker). v.number) b.is;
      step = ap (λ (v : Walker). v.step) b.is;
      at = omega (arith, from);
      ahead = inr (b.links, omega (arith, from, rest, whole, left, short));
    }

-- the target comes before the rest
behind_is : (w new : Walker) (target bytes slice : List ℕ) (is_last : Bool) → bytes ≡ target → slice ≡ drop w.at w.rest.items
    → new.rest.items ≡ bytes ++ (slash ∷ slice) → w.links ≢ 0 → new.slash ≡ (w.slash || (is_last && ends_with_slash bytes))
    → new.here ≡ start_of (parts_of bytes) w.here
    → new ≡ (record w { here = new.here; inode = new.inode; rest = new.rest; at = 0; slash = new.slash; links = w.links - 1 }) → IsBehind target is_last w new
behind_is w new target bytes slice is_last b s rest some at_end here is =
    let less : new.links ≡ w.links - 1 = ap (λ (v : Walker). v.links) is in
    record {
      here = here ∙ ap (λ (l : List ℕ). start_of (parts_of l) w.here) b;
      rest = rest ∙ ap (λ (l : List ℕ). l ++ (slash ∷ slice)) b ∙ ap (λ (l : List ℕ). target ++ (slash ∷ l)) s;
      links = omega (arith, less, some);
      slash_is = at_end ∙ ap (λ (l : List ℕ). w.slash || (is_last && ends_with_slash l)) b;
      is = is ∙ ap (λ (l : ℕ). record w { here = new.here; inode = new.inode; rest = new.rest; at = 0; slash = new.slash; links = l }) (sym less);
    }

-- what following a link comes to, where its target was read
pub followed : {w new : Walker} {read bytes slice : List ℕ} {is_last absolute : Bool} (P : List ℕ → Type 0) → bytes ≡ read → slice ≡ drop w.at w.rest.items
    → new.rest.items ≡ bytes ++ (slash ∷ slice) → w.links ≢ 0 → new.slash ≡ (w.slash || (is_last && ends_with_slash bytes)) → begins_with_slash bytes ≡ absolute
    → new.here ≡ cond absolute root w.here
    → new ≡ (record w { here = new.here; inode = new.inode; rest = new.rest; at = 0; slash = new.slash; links = w.links - 1 })
    → length read ≤ 512 → ((held : List ℕ) → P held → answer held ≡ answer read)
    → (target : List ℕ) × IsBehind target is_last w new × (length target ≤ 512) × ((held : List ℕ) → P held → target ≡ held)
followed {w} {new} {read} {bytes} {slice} {is_last} P b s rest some at_end way here is short each = (
  read,
  behind_is w new read bytes slice is_last b s rest some at_end (here ∙ ap (λ (a : Bool). cond a root w.here) (sym way)) is,
  short,
  λ held h. sym (same_ok _ _ (each held h)),
)
