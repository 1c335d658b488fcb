-- ACL entries one after the other.
use Rattle.std.proofs.Common.{◌≡◌, ℕ, zero, suc, ◌+◌, ◌*◌, ◌<◌, ◌≤◌, List, [], ◌∷◌, ◌++◌, length, get_or, take, drop, refl, sym, ap, ◌∙◌, append_assoc, arith, add-one}
use Rattle.std.specs.Prelude.{set, All}
use Rattle.std.specs.List.{flat_map}
use Rattle.std.proofs.lemmas.List.{append-nil, drop-drop, drop_at, take_more, take_more_set, length-take-le}
use Rattle.std.proofs.lemmas.List.Concat.{flat_map-append}
use Rattle.std.proofs.lemmas.List.Elements.{All-nil, All-cons, All-head, All-tail}
use Rattle.posix_acl.specs.declared.entry.EntryNumbers.{EntryNumbers}
use Rattle.fs_layout.specs.Bytes.{IsBytes, splice, le16, le32, u16_of, u32_of}
use Rattle.fs_layout.specs.AclSector.{FitsAclEntry, entry_bytes, entries_bytes, acl_entry_at, acl_entries_at}
use Rattle.fs_layout.proofs.Fields.{next_back, back16, back32, read16, read32}
use Rattle.fs_layout.proofs.Small.{u16_small, u32_small}
use Rattle.fs_layout.proofs.Writes.{put_step}
use native.Mathlib.Numerals.{unary_clauses}

entry_len : (e : EntryNumbers) → length (entry_bytes e) ≡ 8
unfolding le16 le32
entry_len e = refl

pub entries_len : (es : List EntryNumbers) → length (entries_bytes es) ≡ 8 * length es
unfolding entries_bytes le16 le32
entries_len [] = refl
entries_len (e ∷ es) = let h : length (entries_bytes es) ≡ 8 * length es = entries_len es in simp unary_clauses (omega (arith, h))

entries_more : (es : List EntryNumbers) (i : ℕ) (d : EntryNumbers) → i < length es
    → entries_bytes (take (i + 1) es) ≡ entries_bytes (take i es) ++ entry_bytes (get_or es i d)
unfolding entries_bytes
entries_more es i d h =
    ap entries_bytes (take_more es i d h) ∙ flat_map-append entry_bytes (take i es) (get_or es i d ∷ [])
    ∙ ap (λ (r : List ℕ). flat_map entry_bytes (take i es) ++ r) (append-nil (entry_bytes (get_or es i d)))

pub put_more : (s t u : List ℕ) (es : List EntryNumbers) (d : EntryNumbers) (at i : ℕ) → at + 8 * length es ≤ length s → i < length es
    → t ≡ splice s at (entries_bytes (take i es)) → u ≡ splice t (at + 8 * i) (entry_bytes (get_or es i d))
    → u ≡ splice s at (entries_bytes (take (i + 1) es))
put_more s t u es d at i fits lt e f =
    let len : length (entries_bytes (take i es)) ≡ 8 * i =
    entries_len (take i es) ∙ ap (λ (k : ℕ). 8 * k) (length-take-le i es (omega arith)) in
    put_step s t u (entries_bytes (take i es)) (entry_bytes (get_or es i d)) at (at + 8 * i) (omega (arith, len)) (omega (arith, len)) e f
    ∙ ap (splice s at) (sym (entries_more es i d lt))

entries_suc : (s : List ℕ) (at i : ℕ) → acl_entries_at s at (suc i) ≡ acl_entries_at s at i ++ acl_entry_at s (at + 8 * i) ∷ []
unfolding acl_entries_at
entries_suc s at zero = ap (λ (k : ℕ). acl_entry_at s k ∷ []) (omega arith)
entries_suc s at (suc i) =
    let ih : acl_entries_at s (at + 8) (suc i) ≡ acl_entries_at s (at + 8) i ++ acl_entry_at s (at + 8 + 8 * i) ∷ [] =
    entries_suc s (at + 8) i in
    let k : at + 8 + 8 * i ≡ at + 8 * suc i = simp unary_clauses (omega arith) in
    ap (λ (r : List EntryNumbers). acl_entry_at s at ∷ r) (ih ∙ ap (λ (k : ℕ). acl_entries_at s (at + 8) i ++ acl_entry_at s k ∷ []) k)

pub get_more : (s : List ℕ) (to : List EntryNumbers) (at i : ℕ) (x : EntryNumbers) → i < length to → take i to ≡ acl_entries_at s at i
    → x ≡ acl_entry_at s (at + 8 * i) → take (i + 1) (set to i x) ≡ acl_entries_at s at (i + 1)
get_more s to at i x lt e f =
    take_more_set to i x lt ∙ ap (λ (r : List EntryNumbers). r ++ x ∷ []) e ∙ ap (λ (k : EntryNumbers). acl_entries_at s at i ++ k ∷ []) f
    ∙ sym (rw add-one (entries_suc s at i))

pub none_read : (s : List ℕ) (at : ℕ) → [] ≡ acl_entries_at s at 0
unfolding acl_entries_at
none_read s at = refl

-- what is read of the entries is spelled so
entry_back : (s : List ℕ) (at : ℕ) → IsBytes s → at + 8 ≤ length s
    → drop at s ≡ entry_bytes (acl_entry_at s at) ++ drop (at + 8) s
entry_back s at fits room =
    let e0 : drop at s ≡ le16 (u16_of s at) ++ drop (at + 2) s = back16 s at fits (omega arith) in
    let e1 : drop (at + 2) s ≡ le16 (u16_of s (at + 2)) ++ drop (at + 2 + 2) s = back16 s (at + 2) fits (omega arith) in
    let e2 : drop (at + 4) s ≡ le32 (u32_of s (at + 4)) ++ drop (at + 4 + 4) s = back32 s (at + 4) fits (omega arith) in
    let at4 : drop (at + 2 + 2) s ≡ drop (at + 4) s = ap (λ (k : ℕ). drop k s) (omega arith) in
    let at8 : drop (at + 4 + 4) s ≡ drop (at + 8) s = ap (λ (k : ℕ). drop k s) (omega arith) in
    let tail : drop (at + 2) s ≡ (le16 (u16_of s (at + 2)) ++ le32 (u32_of s (at + 4))) ++ drop (at + 8) s =
    e1 ∙ ap (λ (r : List ℕ). le16 (u16_of s (at + 2)) ++ r) (at4 ∙ e2 ∙ ap (λ (r : List ℕ). le32 (u32_of s (at + 4)) ++ r) at8)
    ∙ sym (append_assoc (le16 (u16_of s (at + 2))) (le32 (u32_of s (at + 4))) (drop (at + 8) s)) in
    e0 ∙ ap (λ (r : List ℕ). le16 (u16_of s at) ++ r) tail
    ∙ sym (append_assoc (le16 (u16_of s at)) (le16 (u16_of s (at + 2)) ++ le32 (u32_of s (at + 4))) (drop (at + 8) s))

pub entries_back : (n : ℕ) (s : List ℕ) (at : ℕ) → IsBytes s → at + 8 * n ≤ length s
    → drop at s ≡ entries_bytes (acl_entries_at s at n) ++ drop (at + 8 * n) s
unfolding entries_bytes acl_entries_at
entries_back zero s at fits room = ap (λ (k : ℕ). drop k s) (omega arith)
entries_back (suc n) s at fits room = next_back 8 n s at _ _ (entry_back s at fits (omega arith)) (entries_back n s (at + 8) fits (omega arith))

-- what is spelled so is read
entry_read : (s : List ℕ) (at : ℕ) (e : EntryNumbers) (rest : List ℕ) → drop at s ≡ entry_bytes e ++ rest → FitsAclEntry e
    → acl_entry_at s at ≡ e
unfolding le16
entry_read s at e rest is f =
    let tag : u16_of s at ≡ e.tag = read16 s at e.tag (le16 e.perms ++ (le32 e.id ++ rest)) is f.tag in
    let after2 : drop (at + 2) s ≡ le16 e.perms ++ (le32 e.id ++ rest) = sym (drop-drop 2 at s) ∙ ap (drop 2) is in
    let perms : u16_of s (at + 2) ≡ e.perms = read16 s (at + 2) e.perms (le32 e.id ++ rest) after2 f.perms in
    let after4 : drop (at + 4) s ≡ le32 e.id ++ rest = sym (drop-drop 4 at s) ∙ ap (drop 4) is in
    let id : u32_of s (at + 4) ≡ e.id = read32 s (at + 4) e.id rest after4 f.id in
    rw (tag, perms, id) refl

pub entries_read : (es : List EntryNumbers) (s : List ℕ) (at : ℕ) (rest : List ℕ) → drop at s ≡ entries_bytes es ++ rest
    → All FitsAclEntry es → acl_entries_at s at (length es) ≡ es
unfolding entries_bytes acl_entries_at
entries_read [] s at rest is fits = refl
entries_read (e ∷ es) s at rest is fits =
    let here : drop at s ≡ entry_bytes e ++ (entries_bytes es ++ rest) = is ∙ append_assoc (entry_bytes e) (entries_bytes es) rest in
    let first : acl_entry_at s at ≡ e = entry_read s at e (entries_bytes es ++ rest) here (All-head FitsAclEntry e es fits) in
    let after : drop (at + 8) s ≡ entries_bytes es ++ rest =
    sym (drop-drop 8 at s) ∙ ap (drop 8) here ∙ drop_at (entry_bytes e) (entries_bytes es ++ rest) 8 (entry_len e) in
    let others : acl_entries_at s (at + 8) (length es) ≡ es = entries_read es s (at + 8) rest after (All-tail FitsAclEntry e es fits) in
    ap (λ (x : EntryNumbers). x ∷ acl_entries_at s (at + 8) (length es)) first ∙ ap (λ (r : List EntryNumbers). e ∷ r) others

-- what is read fits its fields
pub length-entries_of : (s : List ℕ) (at n : ℕ) → length (acl_entries_at s at n) ≡ n
unfolding acl_entries_at
length-entries_of s at zero = refl
length-entries_of s at (suc n) = ap suc (length-entries_of s (at + 8) n)

pub entries_fit : (n : ℕ) (s : List ℕ) (at : ℕ) → IsBytes s → All FitsAclEntry (acl_entries_at s at n)
unfolding acl_entries_at
entries_fit zero s at fits = All-nil FitsAclEntry
entries_fit (suc n) s at fits =
    All-cons FitsAclEntry (acl_entry_at s at) (acl_entries_at s (at + 8) n)
    (record { tag = u16_small s at fits; perms = u16_small s (at + 2) fits; id = u32_small s (at + 4) fits }) (entries_fit n s (at + 8) fits)

pub take-entries_of : (s : List ℕ) (at k n : ℕ) → k ≤ n → take k (acl_entries_at s at n) ≡ acl_entries_at s at k
unfolding acl_entries_at
take-entries_of s at zero n le = refl
take-entries_of s at (suc k) zero le = absurd (omega (arith, le))
take-entries_of s at (suc k) (suc n) le =
    ap (λ (r : List EntryNumbers). acl_entry_at s at ∷ r) (take-entries_of s (at + 8) k n (omega (arith, le)))
