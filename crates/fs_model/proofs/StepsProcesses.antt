-- A process that fits a tree fits it with another descriptor, directory or umask, and so does a new one.
use Rattle.std.specs.Prelude.{◌≡◌, ℕ, ◌+◌, ◌%◌, ◌^◌, ◌<◌, ◌≤◌, ◌==◌, Bool, true, false, not, cond, List, [], ◌∷◌, length, Option, None, Some}
use Rattle.std.proofs.Common.{refl, sym, arith, ◌∙◌, subst}
use Rattle.std.specs.List.{filter}
use Rattle.std.specs.Ordering.{nat_cmp, eq_by_cmp, is_eq}
use Rattle.fs_cred.specs.Credentials.{Credential, IsCredential}
use Rattle.fs_layout.specs.Maps.{get, with_entry, without, IsMap}
use Rattle.fs_model.specs.Trees.{Tree, Room, IsTree, IsDirectoryAt}
use Rattle.fs_model.specs.Processes.{Process, Descriptor, new_process, descriptor, the_descriptor, with_descriptor, with_offset, least_unused}
use Rattle.fs_model.specs.States.{IsDescriptor, IsProcess}
use Rattle.fs_layout.proofs.FirstEntries.{tied}
use Rattle.fs_layout.proofs.MapLaws.{get-with_entry, with_entry-IsMap}
use Rattle.fs_model.proofs.Swept.{kept, get-filter, filter-IsMap}

-- ---- a map without a key

pub without-IsMap : {X : Type 0} (m : List (ℕ × X)) (k : ℕ) → IsMap nat_cmp m → IsMap nat_cmp (without nat_cmp m k)
without-IsMap m k h = filter-IsMap (λ e. not (eq_by_cmp nat_cmp k e.0)) m h

pub in_without : {X : Type 0} (m : List (ℕ × X)) (k q : ℕ) (x : X) → IsMap nat_cmp m → get nat_cmp (without nat_cmp m k) q ≡ Some x
    → get nat_cmp m q ≡ Some x
in_without {X} m k q x h at = go (get nat_cmp m q) (sym (get-filter (λ e. not (eq_by_cmp nat_cmp k e.0)) m h q) ∙ at)
  where
    go : (o : Option X) → kept (λ e. not (eq_by_cmp nat_cmp k e.0)) q o ≡ Some x → o ≡ Some x
    go None e = absurd cc
    go (Some y) e = passed (not (eq_by_cmp nat_cmp k q)) e
      where
        passed : (b : Bool) → cond b (Some y) None ≡ Some x → Some y ≡ Some x
        passed true i = i
        passed false i = absurd cc

length-kept : {X : Type 0} (f : X → Bool) (xs : List X) → length (filter f xs) ≤ length xs
length-kept f [] = omega arith
length-kept f (x ∷ xs) = go (f x) (length-kept f xs)
  where
    go : (b : Bool) → length (filter f xs) ≤ length xs → length (cond b (x ∷ filter f xs) (filter f xs)) ≤ length (x ∷ xs)
    go true le = omega arith
    go false le = omega arith

pub length-without : {X : Type 0} (m : List (ℕ × X)) (k : ℕ) → length (without nat_cmp m k) ≤ length m
length-without m k = length-kept (λ e. not (eq_by_cmp nat_cmp k e.0)) m

-- ---- an entry that is set

pub in_with_entry : {X : Type 0} (P : ℕ → X → Type 0) (m : List (ℕ × X)) (k : ℕ) (x : X) → P k x
    → ((q : ℕ) (y : X) → get nat_cmp m q ≡ Some y → P q y) → (q : ℕ) (y : X) → get nat_cmp (with_entry nat_cmp m k x) q ≡ Some y → P q y
in_with_entry {X} P m k x here others q y at = go (is_eq (nat_cmp q k)) refl (sym (get-with_entry m k x q) ∙ at)
  where
    go : (b : Bool) → is_eq (nat_cmp q k) ≡ b → cond b (Some x) (get nat_cmp m q) ≡ Some y → P q y
    go true e i =
        let same : x ≡ y = cc in
        subst (P q) same (subst (λ n. P n x) (sym (tied q k e)) here)
    go false e i = others q y i

-- ---- descriptors

-- the least unused number is at most the count of those that are used
pub least_is_low : {X : Type 0} (k : ℕ) (m : List (ℕ × X)) → least_unused k m ≤ k + length m
least_is_low k [] = omega arith
least_is_low k (e ∷ m) = go (e.0 == k) (least_is_low (k + 1) m)
  where
    go : (b : Bool) → least_unused (k + 1) m ≤ k + 1 + length m → cond b (least_unused (k + 1) m) k ≤ k + length (e ∷ m)
    go true le = omega arith
    go false le = omega arith

module _ (t : Tree) (p : Process) (x : IsProcess t p) where
  pub with_descriptor_fits : (fd : ℕ) (d : Descriptor) → IsDescriptor t fd d → IsProcess t (with_descriptor p fd d)
  with_descriptor_fits fd d fits = record {
    cred = x.cred;
    umask = x.umask;
    cwd = x.cwd;
    descriptors = with_entry-IsMap p.descriptors fd d x.descriptors;
    each = in_with_entry (λ q e. IsDescriptor t q e) p.descriptors fd d fits x.each;
  }

  pub with_offset_fits : (fd offset : ℕ) → descriptor p fd ≡ Some (the_descriptor p fd) → offset < 2 ^ 64
      → IsProcess t (with_offset p fd offset)
  with_offset_fits fd offset there small =
      let old = x.each fd (the_descriptor p fd) there in
      with_descriptor_fits fd (record (the_descriptor p fd) { offset = offset }) (record {
        below = old.below;
        offset = small;
        node = old.node;
        is_there = old.is_there;
        no_link = old.no_link;
        no_writes = old.no_writes;
      })

  pub without_descriptor_fits : (fd : ℕ) → IsProcess t (record p { descriptors = without nat_cmp p.descriptors fd })
  without_descriptor_fits fd = record {
    cred = x.cred;
    umask = x.umask;
    cwd = x.cwd;
    descriptors = without-IsMap p.descriptors fd x.descriptors;
    each = λ q d at. x.each q d (in_without p.descriptors fd q d x.descriptors at);
  }

  -- ---- where its walks start, and the umask

  pub with_cwd_fits : (directory : ℕ) → IsDirectoryAt t directory → IsProcess t (record p { cwd = directory })
  with_cwd_fits directory d = record {
    cred = x.cred;
    umask = x.umask;
    cwd = d;
    descriptors = x.descriptors;
    each = x.each;
  }

  pub with_umask_fits : (mask : ℕ) → IsProcess t (record p { umask = mask % 512 })
  with_umask_fits mask =
      record { cred = x.cred; umask = omega arith; cwd = x.cwd; descriptors = x.descriptors; each = x.each }

pub new_process_fits : (room : Room) (t : Tree) (cred : Credential) → IsTree room t → IsCredential cred → IsProcess t (new_process cred)
new_process_fits room t cred is valid = record {
  cred = valid;
  umask = omega arith;
  cwd = is.root_is_there;
  descriptors = refl;
  each = λ fd d at. absurd cc;
}
