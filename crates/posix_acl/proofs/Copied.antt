-- What a loop over entries has made, one entry at a time.
use Rattle.std.proofs.Common.{◌≡◌, ℕ, ◌+◌, ◌<◌, ◌≤◌, List, [], ◌∷◌, ◌++◌, length, get_or, take, refl, sym, ap, ◌∙◌, arith, append_assoc}
use Rattle.std.specs.List.{flat_map}
use Rattle.std.proofs.lemmas.List.{map-append, flat_map_more, take_all, take_more}
use Rattle.posix_acl.specs.declared.entry.Entry.{Entry}
use Rattle.posix_acl.specs.Entries.{plain, plain_entries}
use Rattle.posix_acl.specs.Text.{entry_text, short_text}
use Rattle.posix_acl.proofs.Ordering.{blank}

pub one_more_plain : (es old new : List Entry) (i : ℕ) (e : Entry) → i < length es
    → old ≡ plain_entries (take i es) → e ≡ plain (get_or es i blank)
    → new ≡ old ++ e ∷ [] → new ≡ plain_entries (take (i + 1) es)
one_more_plain es old new i e below so_far is pushed =
    pushed ∙ ap (λ x. old ++ x ∷ []) is ∙ ap (λ xs. xs ++ plain (get_or es i blank) ∷ []) so_far
    ∙ sym (map-append plain (take i es) (get_or es i blank ∷ []))
    ∙ ap plain_entries (sym (take_more es i blank below))

-- the text of an entry comes in two parts
pub one_more_text : (f : Entry → List ℕ) (es : List Entry) (i : ℕ) (front a b old mid new : List ℕ)
    → i < length es → f (get_or es i blank) ≡ a ++ b
    → old ≡ front ++ flat_map f (take i es) → mid ≡ old ++ a → new ≡ mid ++ b
    → new ≡ front ++ flat_map f (take (i + 1) es)
one_more_text f es i front a b old mid new below parts so_far first second =
    second ∙ ap (λ t. t ++ b) first ∙ append_assoc old a b ∙ ap (λ t. old ++ t) (sym parts)
    ∙ ap (λ t. t ++ f (get_or es i blank)) so_far
    ∙ flat_map_more f front (take i es) (get_or es i blank)
    ∙ ap (λ xs. front ++ flat_map f xs) (sym (take_more es i blank below))

pub short_end : (es others : List Entry) (e : Entry) (k : ℕ) (none begun text : List ℕ) → es ≡ e ∷ others
    → length others ≤ k → none ≡ []
    → begun ≡ none ++ entry_text e → text ≡ begun ++ flat_map (λ x. 44 ∷ entry_text x) (take k others)
    → text ≡ short_text es
short_end es others e k none begun text parts past empty first is =
    is ∙ ap (λ t. t ++ flat_map (λ x. 44 ∷ entry_text x) (take k others))
    (first ∙ ap (λ t. t ++ entry_text e) empty)
    ∙ ap (λ xs. entry_text e ++ flat_map (λ x. 44 ∷ entry_text x) xs) (take_all k others past)
    ∙ ap short_text (sym parts)

pub short_none : (es : List Entry) → length es ≡ 0 → [] ≡ short_text es
short_none [] none = refl
short_none (e ∷ es) none = absurd (omega arith)
