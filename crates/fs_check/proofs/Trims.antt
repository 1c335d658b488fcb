-- What an inode holds goes with its size: its numbers do, and its last block.
use Rattle.std.specs.Prelude.{◌≡◌, ◌≢◌, ℕ, ◌+◌, ◌*◌, ◌/◌, ◌%◌, ◌<◌, ◌≤◌, Bool, true, false, List, length, get_or}
use Rattle.std.specs.Prelude.{take, IsTrue, ◌↔◌}
use Rattle.std.proofs.Common.{refl, sym, ap, arith, ◌∙◌, inl, inr}
use Rattle.std.proofs.lemmas.Bool.{cases_eq, cases_lt}
use Rattle.std.proofs.lemmas.List.{get_or-take, length-take-le}
use Rattle.fs_layout.specs.declared.inode.Kind.TheVariants as kinds
use Rattle.fs_layout.specs.declared.inode.Inode.{Inode}
use Rattle.fs_layout.specs.Bytes.{SectorMap}
use Rattle.fs_layout.specs.Images.{pointer, byte_in, byte_at}
use Rattle.fs_layout.proofs.Parts.{byte_in_is}
use Rattle.fs_model.specs.Rules.{IsLaidOut}
use Rattle.fs_check.specs.LastBlocks.{last_block, last_bytes, FitsSize, FitsLast}

-- ---- the last block

-- the bytes from n on are zero
module _ (v : Inode) (content : List ℕ) (n : ℕ) (at : n ≡ last_bytes v) (len : length content ≡ 512)
    (zero : (i : ℕ) → n ≤ i → i < 512 → get_or content i 0 ≡ 0) where
  few : n ≤ 512
  few = omega (arith, at)

  rest_of : (i : ℕ) → last_bytes v ≤ i → i < 512 → get_or content i 0 ≡ 0
  rest_of i ge lt = zero i (omega (arith, at, ge)) lt

  pub fits_no_link : (b : Bool) → v.kind ≢ kinds.Link → b ≡ true → IsTrue b ↔ FitsLast v content
  fits_no_link b other e = ((λ t. record { rest = rest_of; target = λ link. absurd (other link) }), (λ f. e))

  pub fits_link : (b : Bool) → v.kind ≡ kinds.Link → (IsTrue b ↔ ((i : ℕ) → i < length (take n content) → get_or (take n content) i 0 ≢ 0))
      → IsTrue b ↔ FitsLast v content
  fits_link b link test =
      let small = few in
      let room : length (take n content) ≡ n = length-take-le n content (omega (arith, small, len)) in (
        (λ t. record {
          rest = rest_of;
          target = λ l i lt e.
              let below : i < n = omega (arith, lt, at) in
              test.0 t i (omega (arith, below, room)) (get_or-take n content i 0 below ∙ e);
        }),
        (λ f. test.1 (λ i lt e.
            let below : i < n = omega (arith, lt, room) in
            f.target link i (omega (arith, below, at)) (sym (get_or-take n content i 0 below) ∙ e))),
      )

-- ---- the whole

module _ (m : SectorMap) (v : Inode) (fit : FitsSize m v) where
  -- a block past the size has no byte but zeros
  past_byte : (i : ℕ) → v.size ≤ 512 * (i / 512) → byte_at m v i ≡ 0
  unfolding byte_at
  past_byte i ge = ap (λ s. byte_in m s (i % 512)) (fit.trim 0 (i / 512) ge)

  -- the last block has no sector
  pub laid_out_hole : (s : ℕ) → s ≡ pointer m v (last_block v) → s ≡ 0 → IsTrue true ↔ IsLaidOut m v
  unfolding byte_at
  laid_out_hole s is none = (
    (λ t. record {
      trim = fit.trim;
      rest = λ i ge. elim (cases_lt (512 * (i / 512)) v.size) [
        | inl lt ↦
            let here : i / 512 ≡ last_block v = omega (arith, ge, lt) in
            ap (λ k. byte_in m (pointer m v k) (i % 512)) here ∙ ap (λ q. byte_in m q (i % 512)) (sym is ∙ none)
        | inr past ↦ past_byte i past
      ];
      whole = fit.whole;
      target = λ link i lt.
          let other : v.kind ≢ kinds.File = λ e. (let c : kinds.Link ≡ kinds.File = sym link ∙ e in cc) in
          absurd (fit.whole other (last_block v) (omega (arith, lt)) (sym is ∙ none));
    }),
    (λ out. refl),
  )

  -- the last block has a sector with this content
  module _ (s : ℕ) (content : List ℕ) (is : s ≡ pointer m v (last_block v)) (some : s ≢ 0) (read : m s ≡ content) where
    some_size : 0 < v.size
    some_size = elim (cases_eq v.size 0) [
      | inl none ↦ absurd (some (is ∙ fit.trim 0 (last_block v) (omega (arith, none))))
      | inr ne ↦ omega (arith, ne)
    ]

    last_byte : (i : ℕ) → i / 512 ≡ last_block v → byte_at m v i ≡ get_or content (i % 512) 0
    unfolding byte_at
    last_byte i at =
        ap (λ k. byte_in m (pointer m v k) (i % 512)) at ∙ ap (λ q. byte_in m q (i % 512)) (sym is)
        ∙ byte_in_is m s (i % 512) content read some

    pub laid_out_last : (b : Bool) → (v.kind ≡ kinds.Link → v.size ≤ 512) → (IsTrue b ↔ FitsLast v content) → IsTrue b ↔ IsLaidOut m v
    laid_out_last b short test =
        let size = some_size in (
          (λ t.
              let f = test.0 t in
              record {
                trim = fit.trim;
                rest = λ i ge. elim (cases_lt (512 * (i / 512)) v.size) [
                  | inl lt ↦
                      let here : i / 512 ≡ last_block v = omega (arith, ge, lt) in
                      last_byte i here ∙ f.rest (i % 512) (omega (arith, ge, lt, size)) (omega arith)
                  | inr past ↦ past_byte i past
                ];
                whole = fit.whole;
                target = λ link i lt e.
                    let few = short link in
                    let here : i / 512 ≡ last_block v = omega (arith, lt, few) in
                    f.target link (i % 512) (omega (arith, lt, few)) (sym (last_byte i here) ∙ e);
              }),
          (λ out. test.1 (record {
            rest = λ k ge lt.
                let i = 512 * last_block v + k in
                let here : i / 512 ≡ last_block v = omega (arith, lt) in
                let byte : i % 512 ≡ k = omega (arith, lt) in
                ap (λ q. get_or content q 0) (sym byte) ∙ sym (last_byte i here) ∙ out.rest i (omega (arith, ge, size));
            target = λ link k lt e.
                let few = short link in
                let first : last_block v ≡ 0 = omega (arith, few) in
                let below : k < v.size = omega (arith, lt, few, size) in
                let here : k / 512 ≡ last_block v = omega (arith, below, few, first) in
                let byte : k % 512 ≡ k = omega (arith, below, few) in
                out.target link k below (last_byte k here ∙ ap (λ q. get_or content q 0) byte ∙ e);
          })),
        )

-- the numbers don't go with the size
pub not_fit : (m : SectorMap) (v : Inode) (r : Bool) → r ≡ false → (IsTrue r ↔ FitsSize m v) → IsTrue false ↔ IsLaidOut m v
not_fit m v r bad test = (
  (λ f. absurd (let c : false ≡ true = f in cc)),
  (λ out. sym bad ∙ test.1 (record { trim = out.trim; whole = out.whole })),
)
