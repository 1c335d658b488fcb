-- Names of a listing, which are looked up.
--     still-fits        a name whose record had room has it then too
--     has-some, has-none, listing-kept        what was listed is kept
--     then-listed, then-unlisted        names that are kept, or why there are none, by work that ends so
--     length-told, records-more        how much longer it is with one record more, and which bytes it has
--     next-named        the name at a place of a listing
--     tells-next, tells-end        one name more is told, or there is none or no room for it
use Rattle.std.specs.Prelude.{◌≡◌, ℕ, ◌+◌, ◌-◌, ◌<◌, ◌≤◌, nat_le, Bool, true, false, cond, List, [], ◌∷◌, ◌++◌, length, get_or, drop, slice_get, Option, None, Some, is_some, unwrap_or, IsSome, Result, Ok, Err, OnOk, IfErr, if◌then◌else◌}
use Rattle.std.specs.Ordering.{nat_cmp}
use Rattle.std.proofs.Common.{⊎_elim, refl, sym, ap, subst, ◌∙◌, arith, append_assoc}
use Rattle.std.proofs.Math.ListN.{drop_of_length-le}
use Rattle.std.proofs.Math.Numerals.{add-one}
use Rattle.std.proofs.Math.Seq.{drop-cons}
use Rattle.std.proofs.lemmas.Bool.{cases_lt, leb-true, le-leb, lt-leb}
use Rattle.std.proofs.lemmas.List.{append-nil, length-append}
use Rattle.std.proofs.lemmas.Option.{slice_get-get_or, slice_get_within}
use Rattle.fs_layout.proofs.FirstEntries.{ties}
use Rattle.fs_layout.proofs.MapLaws.{get-with_entry}
use Rattle.fs_layout.specs.Maps.{get}
use Rattle.fs_model.specs.declared.event.Event.{Event}
use Rattle.fs_model.specs.declared.reply.Reply.{Reply}
use Rattle.fuse_protocol.specs.declared.entry.DirectoryRecord.{DirectoryRecord}
use Rattle.fuse_protocol.specs.declared.reply.FoundEntry.{FoundEntry}
use Rattle.fuse_protocol.specs.Bytes.{bytes_of_u32s, bytes_of_u64s}
use Rattle.fuse_protocol.specs.Entries.{directory_entry_bytes, directory_record_bytes, entry_size, found_bytes, record_size}
use Rattle.fuse_state.specs.declared.directory.OpenDirectory.{OpenDirectory}
use Rattle.fuse_state.specs.Servers.{Server, directory_of, listing_in, listing_of, listings_with, named_at, with_listing}
use Rattle.fuse_plans.specs.declared.request_error.RequestError.{RequestError}
use Rattle.fuse_plans.specs.declared.reply.ReplyBody.{ReplyBody}
use Rattle.fuse_plans.specs.declared.reply.ReplyBody.TheVariants as bodies
use Rattle.fuse_plans.specs.ListingPlans.{LookedUp, find_listed, look_up_names, names_within, records_bytes, record_entry, told_record}
use Rattle.fuse_plans.specs.ListingOrder.{offset_behind, with_offsets}
use Rattle.fuse_plans.specs.Works.{Work, attempt}
use Rattle.fuse_steps.proofs.Listings.{entry-length}
use Rattle.fuse_sessions.specs.declared.session.Session.{Session}
use Rattle.fuse_requests.specs.Listings.{Listed}
use Rattle.fuse_sessions.specs.Performing.{Did}
use Rattle.fuse_sessions.proofs.Doings.{gives, same-work, then-ok}

-- a name whose record had room has it after what left the server as it was
pub still-fits : (s t : Server) (handle at held most : ℕ) (e : List ℕ × ℕ) {b : Bool} → Some e ≡ named_at t handle at → t ≡ s
    → ((x : List ℕ × ℕ) → named_at s handle at ≡ Some x → b ≡ nat_le (held + record_size (length x.0)) most) → b ≡ true
    → held + record_size (length e.0) ≤ most
still-fits s t handle at held most e named same fits is =
    leb-true (held + record_size (length e.0)) most (sym (fits e (sym (named ∙ ap (λ (u : Server). named_at u handle at) same))) ∙ is)

pub has-some : {X : Type 0} (o : Option X) → IsSome o → (x : X) × (o ≡ Some x)
has-some None is = absurd (cc)
has-some (Some x) is = (x, refl)

pub has-none : {X : Type 0} (o : Option X) → is_some o ≡ false → o ≡ None
has-none None is = refl
has-none (Some x) is = absurd (cc)

pub listing-kept : (handle : ℕ) (names : List (List ℕ × ℕ)) (s : Server) → IsSome (directory_of s handle)
    → listing_of (with_listing handle names s) handle ≡ Some names
listing-kept handle names s known = go (directory_of s handle) known
  where
    go : (o : Option OpenDirectory) → IsSome o → listing_in (listings_with s.listings o names) o ≡ Some names
    go None is = absurd (cc)
    go (Some d) is =
        get-with_entry s.listings d.node names d.node
        ∙ ap (λ b. cond b (Some names) (get nat_cmp s.listings d.node)) (ties d.node d.node refl)

module _ {M : Type 0} {Serves : M → Event → Reply → M → Type 0} where
  pub then-listed : {Y : Type 0} {w v : Work (List (List ℕ × ℕ))} {old new : Session M} (handle : ℕ) (r : Result Y RequestError)
      → ((names : List (List ℕ × ℕ)) → Did Serves w old new (Ok names) → Did Serves v old new (Ok names))
      → OnOk r (Listed Serves w old new handle) → OnOk r (Listed Serves v old new handle)
  then-listed handle (Ok y) on is = record { names = is.names; did = on is.names is.did; kept = is.kept }
  then-listed handle (Err e) on is = tt

  pub then-unlisted : {Y : Type 0} {w v : Work (List (List ℕ × ℕ))} {old new : Session M} (r : Result Y RequestError)
      → ((e : RequestError) → Did Serves w old new (Err e) → Did Serves v old new (Err e))
      → IfErr r (λ e. Did Serves w old new (Err e)) → IfErr r (λ e. Did Serves v old new (Err e))
  then-unlisted (Ok y) on is = tt
  then-unlisted (Err e) on is = on e is

-- ---- records

found-length : (f : Option FoundEntry) → length (found_bytes f) ≡ 128
unfolding bytes_of_u32s bytes_of_u64s
found-length None = refl
found-length (Some f) = refl

told-name : (e : ℕ × (List ℕ × ℕ)) (found : Result ReplyBody RequestError) → (record_entry e found).name ≡ e.1.0
told-name e (Ok (bodies.Found node name_valid shown)) = refl
told-name e (Ok bodies.Nothing) = refl
told-name e (Ok (bodies.Absent valid)) = refl
told-name e (Ok (bodies.Shown shown)) = refl
told-name e (Ok (bodies.Opened handle flags)) = refl
told-name e (Ok (bodies.Created node name_valid shown handle flags)) = refl
told-name e (Ok (bodies.Bytes bytes)) = refl
told-name e (Ok (bodies.Wrote count)) = refl
told-name e (Ok (bodies.Acl acl)) = refl
told-name e (Ok (bodies.Size size)) = refl
told-name e (Ok (bodies.Space sectors free_sectors inodes free_inodes max_name)) = refl
told-name e (Ok (bodies.Agreed terms)) = refl
told-name e (Err error) = refl

record-length : (l : LookedUp) → length (directory_record_bytes (told_record l)) ≡ record_size (length l.0.1.0)
unfolding directory_record_bytes
record-length l =
    let r : DirectoryRecord = told_record l in
    length-append (found_bytes r.found) (directory_entry_bytes r.entry)
    ∙ ap (λ n. n + length (directory_entry_bytes r.entry)) (found-length r.found)
    ∙ ap (λ n. 128 + n) (entry-length r.entry ∙ ap (λ name. entry_size (length name)) (told-name l.0 l.1))

-- one record more makes it so much longer
pub length-told : (l : LookedUp) (before : List ℕ) {after : List ℕ} → after ≡ before ++ directory_record_bytes (told_record l)
    → length after ≡ length before + record_size (length l.0.1.0)
length-told l before {after} is =
    ap length is ∙ length-append before (directory_record_bytes (told_record l)) ∙ ap (λ (n : ℕ). length before + n) (record-length l)

pub records-more : (found : List LookedUp) (l : LookedUp) → records_bytes (found ++ (l ∷ [])) ≡ records_bytes found ++ directory_record_bytes (told_record l)
records-more [] l = append-nil (directory_record_bytes (told_record l))
records-more (first ∷ found) l =
    let one : List ℕ = directory_record_bytes (told_record first) in
    ap (λ rest. one ++ rest) (records-more found l) ∙ sym (append_assoc one (records_bytes found) (directory_record_bytes (told_record l)))

-- ---- one after another

nth : (names : List (List ℕ × ℕ)) (at : ℕ) → at < length names
    → (e : List ℕ × ℕ) × (slice_get names at ≡ Some e) × (drop at names ≡ e ∷ drop (at + 1) names)
nth names at lt =
    let e : List ℕ × ℕ = get_or names at ([], 0) in (
      e,
      slice_get-get_or names at ([], 0) lt,
      subst (λ (k : ℕ). drop at names ≡ e ∷ drop k names) (sym (add-one at)) (drop-cons names at ([], 0) lt),
    )

-- the name at a place of a listing is the next one there
pub next-named : (names : List (List ℕ × ℕ)) (at : ℕ) (e : List ℕ × ℕ) → slice_get names at ≡ Some e → drop at names ≡ e ∷ drop (at + 1) names
next-named names at e is =
    let n = nth names at (slice_get_within names at e is) in
    subst (λ x. drop at names ≡ x ∷ drop (at + 1) names) (ap (λ o. unwrap_or o e) (sym n.1 ∙ is)) n.2

module _ {M : Type 0} (Serves : M → Event → Reply → M → Type 0) (nobody : Bool) (place : Result ℕ RequestError) (most : ℕ) where
  pub tells-next : (held later : ℕ) (e : ℕ × (List ℕ × ℕ)) (es : List (ℕ × (List ℕ × ℕ))) {old mid new : Session M} {found : Result ReplyBody RequestError}
      {rest : List LookedUp}
      → held + record_size (length e.1.0) ≤ most → later ≡ held + record_size (length e.1.0)
      → Did Serves (attempt (find_listed nobody place e.1.0)) old mid (Ok found)
      → Did Serves (look_up_names nobody place (names_within (most - later) es)) mid new (Ok rest)
      → Did Serves (look_up_names nobody place (names_within (most - held) (e ∷ es))) old new (Ok ((e, found) ∷ rest))
  unfolding look_up_names
  tells-next held later e es {old} {mid} {new} {found} {rest} fits is did others =
      let needs : ℕ = record_size (length e.1.0) in
      let room : nat_le needs (most - held) ≡ true = le-leb needs (most - held) (omega (arith, fits)) in
      let left : most - later ≡ most - held - needs = omega (arith, is) in
      same-work (ap (λ (b : Bool). look_up_names nobody place (if b then e ∷ names_within (most - held - needs) es else [])) room)
      (then-ok _ did (then-ok _ (same-work (ap (λ (k : ℕ). look_up_names nobody place (names_within k es)) (sym left)) others) (gives _ _)))

  tells-crowded : (held : ℕ) (e : ℕ × (List ℕ × ℕ)) (es : List (ℕ × (List ℕ × ℕ))) (s : Session M) → held ≤ most
      → most < held + record_size (length e.1.0) → Did Serves (look_up_names nobody place (names_within (most - held) (e ∷ es))) s s (Ok [])
  unfolding look_up_names
  tells-crowded held e es s within crowds =
      let needs : ℕ = record_size (length e.1.0) in
      let full : nat_le needs (most - held) ≡ false = lt-leb needs (most - held) (omega (arith, within, crowds)) in
      same-work (ap (λ (b : Bool). look_up_names nobody place (if b then e ∷ names_within (most - held - needs) es else [])) full) (gives [] s)

  tells-none : (held before at : ℕ) (names : List (List ℕ × ℕ)) (s : Session M) → length names ≤ at
      → Did Serves (look_up_names nobody place (names_within (most - held) (with_offsets before (drop at names)))) s s (Ok [])
  unfolding look_up_names
  tells-none held before at names s behind =
      same-work (ap (λ (rest : List (List ℕ × ℕ)). look_up_names nobody place (names_within (most - held) (with_offsets before rest)))
      (drop_of_length-le names behind)) (gives [] s)

  -- there is no next name, or no room for it
  pub tells-end : (held before at : ℕ) (names : List (List ℕ × ℕ)) (s : Session M) → held ≤ most
      → ((e : List ℕ × ℕ) → slice_get names at ≡ Some e → most < held + record_size (length e.0))
      → Did Serves (look_up_names nobody place (names_within (most - held) (with_offsets before (drop at names)))) s s (Ok [])
  tells-end held before at names s within crowds =
      ⊎_elim (λ lt.
      let e = nth names at lt in
      same-work (ap (λ rest. look_up_names nobody place (names_within (most - held) (with_offsets before rest))) e.2)
      (tells-crowded held (offset_behind before e.0.0, e.0) _ s within (crowds e.0 e.1)))
      (λ behind. tells-none held before at names s behind) (cases_lt at (length names))
