-- Bytes that are written piece by piece: the first piece, and then the rest.
--     write-more, write-short, write-refused        writing
--     pieces-more, pieces-split, pieces-end        bytes as pieces
--     one-more, no-more        the pieces that are left
use Rattle.std.specs.Prelude.{◌≡◌, ℕ, zero, suc, ◌+◌, ◌-◌, ◌<◌, ◌≤◌, min, nat_lt, Bool, true, false, List, [], ◌∷◌, length, take, drop, Result, Ok, Err}
use Rattle.std.proofs.Common.{refl, sym, ap, ◌∙◌, arith}
use Rattle.std.proofs.lemmas.List.{take_min, drop_min}
use Rattle.fs_model.specs.declared.event.Event.{Event}
use Rattle.fs_model.specs.declared.reply.Reply.{Reply}
use Rattle.fuse_plans.specs.declared.request_error.RequestError.{RequestError}
use Rattle.fuse_plans.specs.Works.{of_result}
use Rattle.fuse_plans.specs.FilePlans.{write_piece, write_pieces, or_done, pieces_in}
use Rattle.fuse_steps.specs.Performing.{DidByMachine}
use Rattle.fuse_steps.proofs.Steps.{machine-ok, machine-err, machine-attempts, machine-result, machine-gives, machine-true, machine-false}

module _ {M : Type 0} {Serves : M → Event → Reply → M → Type 0} (handle offset : ℕ) where
  pub write-more : (done count : ℕ) (piece : List ℕ) (pieces : List (List ℕ)) {wrote : Result ℕ RequestError} {old mid new : M} {r : Result ℕ RequestError}
      → DidByMachine Serves (write_piece handle (offset + done) piece) old mid wrote → or_done done wrote ≡ of_result (Ok count)
      → nat_lt count (length piece) ≡ false → DidByMachine Serves (write_pieces handle offset (done + count) pieces) mid new r
      → DidByMachine Serves (write_pieces handle offset done (piece ∷ pieces)) old new r
  unfolding write_pieces
  write-more done count piece pieces first kept full rest =
      machine-ok _ (machine-attempts _ first) (machine-ok _ (machine-result kept) (machine-false _ _ full rest))

  pub write-short : (done count : ℕ) (piece : List ℕ) (pieces : List (List ℕ)) {wrote : Result ℕ RequestError} {old new : M}
      → DidByMachine Serves (write_piece handle (offset + done) piece) old new wrote → or_done done wrote ≡ of_result (Ok count)
      → nat_lt count (length piece) ≡ true → DidByMachine Serves (write_pieces handle offset done (piece ∷ pieces)) old new (Ok (done + count))
  unfolding write_pieces
  write-short done count piece pieces {wrote} {old} {new} first kept short =
      machine-ok _ (machine-attempts _ first) (machine-ok _ (machine-result kept) (machine-true _ _ short (machine-gives (done + count) new)))

  pub write-refused : (done : ℕ) (piece : List ℕ) (pieces : List (List ℕ)) {wrote : Result ℕ RequestError} {old new : M} {e : RequestError}
      → DidByMachine Serves (write_piece handle (offset + done) piece) old new wrote → or_done done wrote ≡ of_result (Err e)
      → DidByMachine Serves (write_pieces handle offset done (piece ∷ pieces)) old new (Err e)
  unfolding write_pieces
  write-refused done piece pieces first kept = machine-ok _ (machine-attempts _ first) (machine-err _ (machine-result kept))

-- ---- pieces

pub pieces-none : (most k : ℕ) → pieces_in most k [] ≡ []
pieces-none most zero = refl
pieces-none most (suc k) = refl

pub pieces-more : (most k : ℕ) (bytes : List ℕ) → 0 < length bytes → pieces_in most (suc k) bytes ≡ take most bytes ∷ pieces_in most k (drop most bytes)
pieces-more most k [] some = absurd (omega (arith, some))
pieces-more most k (b ∷ bs) some = refl

pub pieces-end : (most k : ℕ) (bytes : List ℕ) → length bytes ≡ 0 → pieces_in most k bytes ≡ []
pieces-end most k [] is = pieces-none most k
pieces-end most k (b ∷ bs) is = absurd (omega (arith, is))

pub pieces-split : (most k n : ℕ) (bytes : List ℕ) → n ≡ min (length bytes) most → 0 < n → pieces_in most (suc k) bytes ≡ take n bytes ∷ pieces_in most k (drop n bytes)
pieces-split most k n bytes is some =
    let other : min most (length bytes) ≡ n = omega (arith, is) in
    let first : take most bytes ≡ take n bytes = sym (take_min most bytes) ∙ ap (λ (i : ℕ). take i bytes) other in
    let rest : drop most bytes ≡ drop n bytes = sym (drop_min most bytes) ∙ ap (λ (i : ℕ). drop i bytes) other in
    pieces-more most k bytes (omega (arith, is, some))
    ∙ (ap (λ (p : List ℕ). p ∷ pieces_in most k (drop most bytes)) first ∙ ap (λ (p : List ℕ). take n bytes ∷ pieces_in most k p) rest)

-- ---- the pieces that are left

pub one-more : (most k i n : ℕ) (rest behind piece : List ℕ) → i < k → n ≡ min (length rest) most → 0 < n → piece ≡ take n rest → behind ≡ drop n rest
    → pieces_in most (k - i) rest ≡ piece ∷ pieces_in most (k - (i + 1)) behind
one-more most k i n rest behind piece within is some front back =
    let one : k - i ≡ suc (k - (i + 1)) = omega arith in
    ap (λ (j : ℕ). pieces_in most j rest) one
    ∙ (pieces-split most (k - (i + 1)) n rest is some
    ∙ (ap (λ (p : List ℕ). p ∷ pieces_in most (k - (i + 1)) (drop n rest)) (sym front)
    ∙ ap (λ (b : List ℕ). piece ∷ pieces_in most (k - (i + 1)) b) (sym back)))

pub no-more : (k i : ℕ) → k ≤ i → k - i ≡ 0
no-more k i le = omega arith
