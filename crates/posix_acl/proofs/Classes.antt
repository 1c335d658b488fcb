-- Other permissions for the three classes: three writes, at the first entry and at the last two.
use Rattle.std.proofs.Common.{◌≡◌, ℕ, ◌+◌, ◌-◌, List, [], ◌∷◌, ◌++◌, length, get_or, Option, Some, None, is_some, unwrap_or, cond, refl, sym, ap, ◌∙◌, subst, arith, append_assoc, length-append}
use Rattle.std.proofs.Math.ListN.{set}
use Rattle.std.proofs.Math.Seq.{set-append_seam, get_or-append_seam}
use Rattle.posix_acl.specs.declared.entry.Perms.{Perms}
use Rattle.posix_acl.specs.declared.entry.Entry.{Entry}
use Rattle.posix_acl.specs.declared.entry.Tag.TheVariants.{UserObj, Other}
use Rattle.posix_acl.specs.Entries.{entry}
use Rattle.posix_acl.specs.AccessList.{AccessList, IsAcl, entries_of, group_class, with_classes}
use Rattle.posix_acl.specs.Stored.{access_list, IsCanonical}
use Rattle.posix_acl.proofs.Canonical.{by_ends, middle_of, class_tag, kept}

-- an entry with other permissions
abbrev pub with_perms : Entry → Perms → Entry
with_perms e p = record e { perms = p }

write_seam : (xs : List Entry) (y : Entry) (ys : List Entry) (i : ℕ) (a : Entry) → i ≡ length xs → set (xs ++ y ∷ ys) i a ≡ xs ++ a ∷ ys
write_seam xs y ys i a at = rw at (set-append_seam xs y ys a)

read_seam : (xs : List Entry) (y : Entry) (ys : List Entry) (i : ℕ) (d : Entry) → i ≡ length xs → d ≡ get_or (xs ++ y ∷ ys) i d → d ≡ y
read_seam xs y ys i d at read = read ∙ rw at (get_or-append_seam xs y ys d)

pub three_writes : (front : List Entry) (first k last : Entry) (es : List Entry) (count : ℕ) (x y z : Entry) (owner group other : Perms)
    → es ≡ first ∷ (front ++ k ∷ last ∷ []) → count ≡ length es
    → x ≡ get_or es 0 x
    → y ≡ get_or (set es 0 (with_perms x owner)) (count - 2) y
    → z ≡ get_or (set (set es 0 (with_perms x owner)) (count - 2) (with_perms y group)) (count - 1) z
    → set (set (set es 0 (with_perms x owner)) (count - 2) (with_perms y group)) (count - 1) (with_perms z other)
    ≡ with_perms first owner ∷ (front ++ with_perms k group ∷ with_perms last other ∷ [])
three_writes front first k last es count x y z owner group other shape counted read_first read_class read_last =
    let size : count ≡ length front + 3 = omega (arith, counted, ap length shape, length-append front (k ∷ last ∷ [])) in
    let x_is : x ≡ first = read_first ∙ ap (λ l. get_or l 0 x) shape in
    let one : set es 0 (with_perms x owner) ≡ (with_perms first owner ∷ front) ++ k ∷ last ∷ [] =
    rw (shape, x_is) refl in
    let at_class : count - 2 ≡ length (with_perms first owner ∷ front) = omega arith in
    let y_is : y ≡ k =
    read_seam (with_perms first owner ∷ front) k (last ∷ []) (count - 2) y at_class (read_class ∙ ap (λ l. get_or l (count - 2) y) one) in
    let two : set (set es 0 (with_perms x owner)) (count - 2) (with_perms y group) ≡ ((with_perms first owner ∷ front) ++ with_perms k group ∷ []) ++ last ∷ [] =
    ap (λ l. set l (count - 2) (with_perms y group)) one
    ∙ write_seam (with_perms first owner ∷ front) k (last ∷ []) (count - 2) (with_perms y group) at_class
    ∙ ap (λ e. (with_perms first owner ∷ front) ++ with_perms e group ∷ last ∷ []) y_is
    ∙ sym (append_assoc (with_perms first owner ∷ front) (with_perms k group ∷ []) (last ∷ [])) in
    let at_last : count - 1 ≡ length ((with_perms first owner ∷ front) ++ with_perms k group ∷ []) =
    omega (arith, length-append (with_perms first owner ∷ front) (with_perms k group ∷ [])) in
    let z_is : z ≡ last =
    read_seam ((with_perms first owner ∷ front) ++ with_perms k group ∷ []) last [] (count - 1) z at_last (read_last ∙ ap (λ l. get_or l (count - 1) z) two) in
    ap (λ l. set l (count - 1) (with_perms z other)) two
    ∙ write_seam ((with_perms first owner ∷ front) ++ with_perms k group ∷ []) last [] (count - 1) (with_perms z other) at_last
    ∙ ap (λ e. ((with_perms first owner ∷ front) ++ with_perms k group ∷ []) ++ with_perms e other ∷ []) z_is
    ∙ append_assoc (with_perms first owner ∷ front) (with_perms k group ∷ []) (with_perms last other ∷ [])

same_variant : (mask : Option Perms) (p : Perms) → is_some (cond (is_some mask) (Some p) None) ≡ is_some mask
same_variant None p = refl
same_variant (Some q) p = refl

pub IsAcl-with_classes : (a : AccessList) (owner group other : Perms) → IsAcl a → IsAcl (with_classes a owner group other)
IsAcl-with_classes a owner group other valid = record {
  users = valid.users;
  user_ids = valid.user_ids;
  groups = valid.groups;
  group_ids = valid.group_ids;
  masked = λ h. same_variant a.mask group ∙ valid.masked h;
  few = rw (same_variant a.mask group) valid.few;
}

-- the entries of a list with other classes
by_ends_after : (a : AccessList) (owner group other : Perms) → IsAcl a
    → entries_of (with_classes a owner group other)
    ≡ entry UserObj 0 owner ∷ (middle_of a.users a.group a.groups a.mask ++ (entry (class_tag a.mask) 0 group ∷ entry Other 0 other ∷ []))
by_ends_after a owner group other valid =
    by_ends (with_classes a owner group other) (IsAcl-with_classes a owner group other valid)
    ∙ ap (λ es. entry UserObj 0 owner ∷ es) (parts a.mask)
  where
    parts : (mask : Option Perms)
        → middle_of a.users (cond (is_some mask) a.group group) a.groups (cond (is_some mask) (Some group) None)
        ++ (entry (class_tag (cond (is_some mask) (Some group) None)) 0 (unwrap_or (cond (is_some mask) (Some group) None) (cond (is_some mask) a.group group)) ∷ entry Other 0 other ∷ [])
        ≡ middle_of a.users a.group a.groups mask ++ (entry (class_tag mask) 0 group ∷ entry Other 0 other ∷ [])
    parts None = refl
    parts (Some p) = refl

pub classes_written : (es : List Entry) (a : AccessList) (count : ℕ) (x y z : Entry) (owner group other : Perms)
    → access_list es ≡ a → IsCanonical es → count ≡ length es
    → x ≡ get_or es 0 x
    → y ≡ get_or (set es 0 (with_perms x owner)) (count - 2) y
    → z ≡ get_or (set (set es 0 (with_perms x owner)) (count - 2) (with_perms y group)) (count - 1) z
    → let new = set (set (set es 0 (with_perms x owner)) (count - 2) (with_perms y group)) (count - 1) (with_perms z other) in
    IsCanonical new × (access_list new ≡ with_classes a owner group other)
classes_written es a count x y z owner group other view canonical counted read_first read_class read_last =
    let valid : IsAcl a = subst IsAcl view canonical.valid in
    let shape = canonical.canonical ∙ ap entries_of view ∙ by_ends a valid in
    kept _ (with_classes a owner group other)
    (three_writes _ _ _ _ es count x y z owner group other shape counted read_first read_class read_last
    ∙ sym (by_ends_after a owner group other valid))
    (IsAcl-with_classes a owner group other valid)

-- what the entry before the last gives, and what the last gives
pub class_read : (es : List Entry) (a : AccessList) (count : ℕ) (e : Entry) → access_list es ≡ a → IsCanonical es → count ≡ length es
    → e ≡ get_or es (count - 2) e → e.perms ≡ group_class a
class_read es a count e view canonical counted read =
    let front : List Entry = entry UserObj 0 a.owner ∷ middle_of a.users a.group a.groups a.mask in
    let class : Entry = entry (class_tag a.mask) 0 (group_class a) in
    let last : Entry = entry Other 0 a.other in
    let shape : es ≡ front ++ class ∷ last ∷ [] = canonical.canonical ∙ ap entries_of view ∙ by_ends a (subst IsAcl view canonical.valid) in
    let at : count - 2 ≡ length front = omega (arith, counted, ap length shape, length-append front (class ∷ last ∷ [])) in
    ap (λ x. x.perms) (read_seam front class (last ∷ []) (count - 2) e at (read ∙ ap (λ l. get_or l (count - 2) e) shape))

pub other_read : (es : List Entry) (a : AccessList) (count : ℕ) (e : Entry) → access_list es ≡ a → IsCanonical es → count ≡ length es
    → e ≡ get_or es (count - 1) e → e.perms ≡ a.other
other_read es a count e view canonical counted read =
    let front : List Entry = entry UserObj 0 a.owner ∷ middle_of a.users a.group a.groups a.mask in
    let class : Entry = entry (class_tag a.mask) 0 (group_class a) in
    let last : Entry = entry Other 0 a.other in
    let shape : es ≡ (front ++ class ∷ []) ++ last ∷ [] =
    canonical.canonical ∙ ap entries_of view ∙ by_ends a (subst IsAcl view canonical.valid) ∙ sym (append_assoc front (class ∷ []) (last ∷ [])) in
    let at : count - 1 ≡ length (front ++ class ∷ []) = omega (arith, counted, ap length shape, length-append (front ++ class ∷ []) (last ∷ [])) in
    ap (λ x. x.perms) (read_seam (front ++ class ∷ []) last [] (count - 1) e at (read ∙ ap (λ l. get_or l (count - 1) e) shape))
