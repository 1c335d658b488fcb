-- Where lseek moves an offset.
--     moves_out, moves_to, below, not_below        one number added to another
--     lseek_by        its row
--     lseek_refused, lseek_lost, lseek_told        what it answers
use Rattle.call_parts.specs.BothTables.{Tables}
use Rattle.call_parts.specs.declared.reaching.OpenAt.{OpenAt}
use Rattle.call_parts.specs.declared.reaching.OpenAt.TheVariants.{Descriptor as AtDescriptor}
use Rattle.call_parts.specs.Callers.{ByProcess, ByCaller}
use Rattle.std.specs.Prelude.{◌≡◌, ◌≢◌, ℕ, ◌^◌, ◌<◌, ◌≤◌, nat_lt, Bool, true, false, not, cond, [], ◌∷◌, Option, None, Some, is_some, unwrap_or, Err, ℤ, pos, negsuc, ◌+ℤ◌, unsigned_abs}
use Rattle.std.proofs.Common.{refl, sym, ap, subst, arith, ◌∙◌}
use Rattle.std.proofs.lemmas.Bool.Decides.{nat_tests}
use Rattle.std.specs.Int.{FitsUnsigned, w64}
use Rattle.std.specs.Int.Signed.{le_z_yes, lt_z_yes}
use Rattle.std.proofs.Math.Dec.{le→leb, lt→ltb}
use Rattle.fs_cred.specs.declared.errno.Errno.TheVariants.{EISDIR, EINVAL}
use Rattle.fs_cred.specs.declared.refusal.Refusal.{Refusal}
use Rattle.fs_cred.specs.declared.refusal.Refusal.TheVariants.{Failed}
use Rattle.fs_layout.specs.declared.inode.Inode.{Inode}
use Rattle.fs_layout.specs.declared.inode.Kind.TheVariants as kinds
use Rattle.fs_layout.specs.declared.geometry.Geometry.{Geometry}
use Rattle.fs_layout.specs.Bytes.{SectorMap}
use Rattle.fs_layout.specs.Images.{inode_at}
use Rattle.fs_model.specs.declared.call.Call.TheVariants.{Lseek}
use Rattle.fs_model.specs.declared.call.Whence.{Whence}
use Rattle.fs_model.specs.declared.call.Whence.TheVariants.{Set, Cur, End}
use Rattle.fs_model.specs.declared.reply.Reply.TheVariants.{At}
use Rattle.fs_model.specs.Demands.{refuse, first_of}
use Rattle.fs_model.specs.Processes.{Descriptor, with_offset}
use Rattle.fs_model.specs.Rows.{row_of}
use Rattle.fs_model.specs.Rules.{is_directory_kind}
use Rattle.fs_model.specs.Scenes.{Scene, with_process}
use Rattle.fs_model.specs.States.{State}
use Rattle.fs_model.specs.DescriptorCalls.{seekable, seek_base, sought, lseek_row, lseek_demands, lseek_effect}
use Rattle.call_parts.specs.Performing.{IsStateOf}
use Rattle.call_parts.specs.declared.reaching.OpenFor.TheVariants.{Anything}
use Rattle.call_parts.specs.Reaching.{fd_of, ActsOn, IsOpened}
use Rattle.call_parts.specs.Telling.{checked}
use Rattle.call_parts.proofs.Calling.{first_refuses}
use Rattle.call_parts.proofs.ByDescriptor.{open_scene, the_opened, open_kind}
use Rattle.file_calls.proofs.HeldFiles.{open_file}

-- ---- one number added to another

out_is_none : (z : ℤ) → (FitsUnsigned w64 z → ⊥) → None ≡ seekable z
out_is_none (negsuc n) wide = refl
out_is_none (pos n) wide = go (nat_lt n (2 ^ 63)) refl
  where
    go : (b : Bool) → nat_lt n (2 ^ 63) ≡ b → None ≡ cond b (Some n) None
    go true e =
        let low : n < 2 ^ 63 = grind (arith, nat_tests) in
        let below : n < 2 ^ 64 = omega (arith, low) in
        absurd (wide (le_z_yes (le→leb 0 n (omega arith)), lt_z_yes (lt→ltb n (2 ^ 64) below)))
    go false e = refl

sum_is : (z : ℤ) (n : ℕ) → FitsUnsigned w64 z → n ≡ unsigned_abs z → (b : Bool) → nat_lt n (2 ^ 63) ≡ b → cond b (Some n) None ≡ seekable z
sum_is (negsuc m) n fits is b e = absurd (fits.0.le)
sum_is (pos m) n fits is b e =
    ap (λ (c : Bool). cond c (Some n) None) (sym e) ∙ ap (λ (k : ℕ). cond (nat_lt k (2 ^ 63)) (Some k) None) is

-- what doesn't fit 64 bits is no offset
pub moves_out : (base : ℕ) (by x : ℤ) → x ≡ by → (FitsUnsigned w64 (pos base +ℤ x) → ⊥) → None ≡ seekable (pos base +ℤ by)
moves_out base by x same wide = out_is_none (pos base +ℤ by) (subst (λ (y : ℤ). FitsUnsigned w64 (pos base +ℤ y) → ⊥) same wide)

pub below : (n : ℕ) → n < 2 ^ 63 → nat_lt n (2 ^ 63) ≡ true
below n low = grind (arith, nat_tests)

pub not_below : (n : ℕ) → 2 ^ 63 ≤ n → nat_lt n (2 ^ 63) ≡ false
not_below n high = grind (arith, nat_tests)

-- a sum that fits is one below 2^63
pub moves_to : (base : ℕ) (by x : ℤ) (n : ℕ) → x ≡ by → FitsUnsigned w64 (pos base +ℤ x) × (n ≡ unsigned_abs (pos base +ℤ x)) → (b : Bool) → nat_lt n (2 ^ 63) ≡ b
    → cond b (Some n) None ≡ seekable (pos base +ℤ by)
moves_to base by x n same sum b e =
    let is = subst (λ (y : ℤ). FitsUnsigned w64 (pos base +ℤ y) × (n ≡ unsigned_abs (pos base +ℤ y))) same sum in
    sum_is (pos base +ℤ by) n is.0 is.1 b e

-- ---- its row

lseek_is : (fd : ℕ) (whence : Whence) (by : ℤ) → row_of (Lseek fd whence by) ≡ lseek_row fd whence by
unfolding row_of
lseek_is fd whence by = refl

pub lseek_by : (pid fd : ℕ) (whence : Whence) (by : ℤ)
    → ActsOn (AtDescriptor pid fd) (ByCaller (ByProcess pid) (Lseek fd whence by)) Anything (lseek_demands fd whence by) (lseek_effect fd whence by)
lseek_by pid fd whence by = record { asked = refl; row = lseek_is fd whence by }

-- ---- what it answers

module _ {p : Geometry} {map : SectorMap} {tables : Tables} {place : OpenAt} {d : Descriptor} (o : IsOpened tables place d) (whence : Whence) (by : ℤ) (s : State) (at : IsStateOf p map tables s) where
  abbrev scene : Scene
  scene = open_scene s o.process

  pub lseek_refused : (v : Inode) → v ≡ inode_at p map d.ino → (e : Refusal) → checked (refuse EISDIR (is_directory_kind v.kind)) ≡ Err e
      → first_of (lseek_demands (fd_of place) whence by scene) ≡ Some e
  lseek_refused v is e refuses =
      ap (λ (b : Bool). first_of (refuse EISDIR b ∷ refuse EINVAL (not (is_some (sought scene (fd_of place) whence by))) ∷ [])) (open_kind o s at v is)
      ∙ first_refuses (refuse EISDIR (is_directory_kind v.kind)) (refuse EINVAL (not (is_some (sought scene (fd_of place) whence by))) ∷ []) e refuses

  module _ (v : Inode) (is : v ≡ inode_at p map d.ino) (no_directory : v.kind ≢ kinds.Directory) (base : ℕ) (start : whence ≡ Set → base ≡ 0)
      (present : whence ≡ Cur → base ≡ d.offset) (end : whence ≡ End → base ≡ v.size) where
    base_is : (w : Whence) → whence ≡ w → base ≡ seek_base scene (fd_of place) w
    base_is Set e = start e
    base_is Cur e = present e ∙ sym (ap (λ (x : Descriptor). x.offset) (the_opened o))
    base_is End e = end e ∙ (open_file o s at v is no_directory).holds.size

    sought_is : seekable (pos base +ℤ by) ≡ sought scene (fd_of place) whence by
    sought_is = ap (λ (n : ℕ). seekable (pos n +ℤ by)) (base_is whence refl)

    asked_is : (to : Option ℕ) → to ≡ seekable (pos base +ℤ by) → first_of (lseek_demands (fd_of place) whence by scene) ≡ first_of (refuse EINVAL (not (is_some to)) ∷ [])
    asked_is to e =
        ap (λ (b : Bool). first_of (refuse EISDIR b ∷ refuse EINVAL (not (is_some (sought scene (fd_of place) whence by))) ∷ [])) (open_file o s at v is no_directory).no_directory
        ∙ ap (λ (x : Option ℕ). first_of (refuse EINVAL (not (is_some x)) ∷ [])) (sym sought_is ∙ sym e)

    moved_by : (x : ℤ) → x ≡ by → (to : Option ℕ) → to ≡ seekable (pos base +ℤ x) → to ≡ seekable (pos base +ℤ by)
    moved_by x same to e = e ∙ ap (λ (y : ℤ). seekable (pos base +ℤ y)) same

    pub lseek_lost : (x : ℤ) → x ≡ by → None ≡ seekable (pos base +ℤ x) → first_of (lseek_demands (fd_of place) whence by scene) ≡ Some (Failed EINVAL)
    lseek_lost x same e = asked_is None (moved_by x same None e)

    pub lseek_told : (x : ℤ) → x ≡ by → (to : ℕ) → Some to ≡ seekable (pos base +ℤ x)
        → (first_of (lseek_demands (fd_of place) whence by scene) ≡ None) × (lseek_effect (fd_of place) whence by scene ≡ with_process (with_offset o.process (fd_of place) to) (At to))
    lseek_told x same to e = (
      asked_is (Some to) (moved_by x same (Some to) e),
      ap (λ (y : Option ℕ). with_process (with_offset o.process (fd_of place) (unwrap_or y 0)) (At (unwrap_or y 0))) (sym sought_is ∙ sym (moved_by x same (Some to) e)),
    )
