-- What mkfs refuses, from its tests one by one.
use Rattle.std.proofs.Common.{◌≡◌, ℕ, ◌+◌, ◌<◌, ◌≤◌, Bool, true, false, cond, not, nat_lt, Option, Some, None, refl, sym, ap, ◌∙◌, arith}
use Rattle.std.specs.Prelude.{MatchResult, IfSome}
use Rattle.std.specs.Option.{ok_or}
use Rattle.std.proofs.lemmas.Bool.{le-leb}
use Rattle.std.proofs.lemmas.Bool.Decides.{nat_tests}
use Rattle.fs_layout.specs.declared.geometry.Geometry.{Geometry}
use Rattle.fs_layout.specs.declared.version.Version.{Version}
use Rattle.fs_layout.specs.Version.{max_sectors, max_inodes}
use Rattle.fs_layout.specs.Geometry.{allows_header, are_in_range, laid_out, new_header, geometry_in, the_geometry}
use Rattle.fs_layout.proofs.Places.{new_header_allowed, geometry_is_laid_out}
use Rattle.fs_images.specs.declared.faults.MkfsFault.TheVariants.{BadSize, BadInodes, TooSmall}
use Rattle.fs_images.specs.Making.{IsNewLayout, is_out_of, mkfs_refusal}

-- ---- one number
pub is_below : (least most n : ℕ) → n < least → is_out_of least most n ≡ true
is_below least most n lt = grind (arith, nat_tests)

pub is_above : (least most n : ℕ) → most < n → is_out_of least most n ≡ true
is_above least most n lt = grind (arith, nat_tests)

is_within : (least most n : ℕ) → least ≤ n → n ≤ most → is_out_of least most n ≡ false
is_within least most n ge le = grind (arith, nat_tests)

-- ---- the first refusal
pub bad_size : (version : Version) (sectors inodes : ℕ) → is_out_of 1024 (max_sectors version) sectors ≡ true
    → mkfs_refusal version sectors inodes ≡ Some BadSize
unfolding mkfs_refusal
bad_size version sectors inodes out = rw out refl

-- the disk's size is in its range
pub record IsSize (version : Version) (sectors : ℕ) : Type 0 where
  pub least : 1024 ≤ sectors
  pub most : sectors ≤ max_sectors version

pub bad_inodes : (version : Version) (sectors inodes : ℕ) → IsSize version sectors → is_out_of 16 (max_inodes version) inodes ≡ true
    → mkfs_refusal version sectors inodes ≡ Some BadInodes
unfolding mkfs_refusal
bad_inodes version sectors inodes size out = rw (is_within 1024 (max_sectors version) sectors size.least size.most, out) refl

-- both numbers are in their ranges
pub record AreInRange (version : Version) (sectors inodes : ℕ) : Type 0 where
  pub size : IsSize version sectors
  pub least : 16 ≤ inodes
  pub most : inodes ≤ max_inodes version

-- the data sectors that are left are too few
abbrev is_full : Version → ℕ → ℕ → Bool
is_full version sectors inodes = nat_lt sectors ((laid_out version sectors inodes).first_data + 64)

last_refusal : (version : Version) (sectors inodes : ℕ) → AreInRange version sectors inodes
    → mkfs_refusal version sectors inodes ≡ cond (is_full version sectors inodes) (Some TooSmall) None
unfolding mkfs_refusal
last_refusal version sectors inodes fit =
    rw (is_within 1024 (max_sectors version) sectors fit.size.least fit.size.most, is_within 16 (max_inodes version) inodes fit.least fit.most) refl

range_passed : (version : Version) (sectors inodes : ℕ) → AreInRange version sectors inodes → are_in_range version sectors inodes ≡ true
range_passed version sectors inodes fit =
    rw (
      le-leb 1024 sectors fit.size.least,
      le-leb sectors (max_sectors version) fit.size.most,
      le-leb 16 inodes fit.least,
      le-leb inodes (max_inodes version) fit.most,
    ) refl

last_test : (version : Version) (sectors inodes : ℕ) → AreInRange version sectors inodes
    → the_geometry version sectors inodes ≡ cond (is_full version sectors inodes) None (Some (laid_out version sectors inodes))
unfolding geometry_in
last_test version sectors inodes fit =
    let range = range_passed version sectors inodes fit in
    let allowed = new_header_allowed version sectors inodes range in
    ap (λ b. cond (not b) None (cond (not (allows_header version (new_header version sectors inodes) sectors inodes)) None
    (cond (is_full version sectors inodes) None (Some (laid_out version sectors inodes))))) range
    ∙ ap (λ b. cond (not b) None (cond (is_full version sectors inodes) None (Some (laid_out version sectors inodes)))) allowed

none_then : (b : Bool) (l : Geometry) → None ≡ cond b None (Some l) → cond b (Some TooSmall) None ≡ Some TooSmall
none_then true l e = refl
none_then false l e = absurd cc

some_then : (b : Bool) (l p : Geometry) → Some p ≡ cond b None (Some l) → cond b (Some TooSmall) None ≡ None
some_then true l p e = absurd cc
some_then false l p e = refl

-- there is a geometry, or no room for the data
pub geometry_or_too_small : (version : Version) (sectors inodes : ℕ) → AreInRange version sectors inodes → (o : Option Geometry)
    → o ≡ the_geometry version sectors inodes
    → MatchResult (ok_or o TooSmall) (λ p. (mkfs_refusal version sectors inodes ≡ None) × (the_geometry version sectors inodes ≡ Some p))
    (λ f. mkfs_refusal version sectors inodes ≡ Some f)
geometry_or_too_small version sectors inodes fit None e =
    last_refusal version sectors inodes fit
    ∙ none_then (is_full version sectors inodes) (laid_out version sectors inodes) (e ∙ last_test version sectors inodes fit)
geometry_or_too_small version sectors inodes fit (Some p) e = (
  last_refusal version sectors inodes fit
      ∙ some_then (is_full version sectors inodes) (laid_out version sectors inodes) p (e ∙ last_test version sectors inodes fit),
  sym e,
)

-- ---- layouts
-- a new disk has the layout that follows from its version and its numbers
pub layouts_are_new : (version : Version) (sectors inodes : ℕ) (layout : Option Geometry) → layout ≡ the_geometry version sectors inodes → IfSome layout IsNewLayout
layouts_are_new version sectors inodes None is = tt
layouts_are_new version sectors inodes (Some geometry) is =
    ap (λ (p : Geometry). the_geometry p.version p.sectors p.inodes) (geometry_is_laid_out sectors inodes (sym is)) ∙ sym is
