-- The sector that an inode has for an ACL comes, goes, is rewritten or stays: what the inode owns and holds then.
use Rattle.std.proofs.Common.{◌≡◌, ◌≢◌, ℕ, suc, ◌+◌, ◌<◌, ◌≤◌, List, Option, Some, None, refl, sym, ap, subst, ◌∙◌, arith, inl, inr}
use Rattle.fs_layout.specs.declared.inode.Inode.{Inode}
use Rattle.fs_layout.specs.declared.geometry.Geometry.{Geometry}
use Rattle.fs_layout.specs.Bytes.{SectorMap, IsSector}
use Rattle.fs_layout.specs.Geometry.{IsGeometry}
use Rattle.fs_layout.specs.Images.{HasWholeTables, number_on, Part, OnLevel, Block, part, Owns, free_sectors}
use Rattle.fs_layout.specs.InodeChanges.{Puts, Turns, IsOwnedApart, Takes, ChangesBlocks}
use Rattle.fs_layout.proofs.Parts.{KeepsPointers, HasNoPointers, pointers_kept, same_part_or_not}
use Rattle.fs_layout.proofs.Places.{after_map, before_data}
use Rattle.fs_layout.proofs.Blocks.{rewrites, rewrites_free_sectors, put_rewrites, pointers_apart, others_kept}
use Rattle.fs_layout.proofs.Gains.{gains, gains_free_sectors}
use Rattle.fs_layout.proofs.Marks.{takes, takes_keeps, releases_alone, marks_keeps}
use Rattle.fs_layout.proofs.Releases.{loses}
use Rattle.bit_alloc.specs.declared.bitmap.Bitmap.TheVariants.{Blocks}
use Rattle.bit_alloc.specs.Bitmaps.{TakesNumber, GivesNumber}
use Rattle.bit_alloc.specs.Inodes.{HoldsContent, KeepsBytes}
use Rattle.inode_table.specs.Storing.{Stores, takes_for}
use Rattle.inode_table.proofs.Saved.{same_blocks_keep_bytes}

-- each part stays where it was, where one turns into what it was
parts_stay : {old new : SectorMap} {v w : Inode} {at : Part} {x y : ℕ} → Turns old new v w at x y → y ≡ x → (a : Part) → part new w a ≡ part old v a
parts_stay {old} {new} {v} {w} {at} t e a = elim (same_part_or_not a at) [
  | inl is ↦ ap (part new w) is ∙ t.now ∙ e ∙ sym t.was ∙ ap (part old v) (sym is)
  | inr ne ↦ t.others a ne
]

-- what is true of each of the ways
pub record HasStored (p : Geometry) (v w : Inode) (at : Part) (taken : ℕ) (old new : SectorMap) : Type 0 where
  pub changes : ChangesBlocks p v w old new
  -- what the inode has for something else is the same
  pub others : (s : ℕ) → (o : Owns old v s) → o.at ≢ at → new s ≡ old s
  pub turns : (other : Part) → other ≢ at → part new w other ≡ part old v other
  pub low : (s : ℕ) → s < p.inode_bitmap → new s ≡ old s
  pub free : free_sectors p old ≤ free_sectors p new + taken

module _ {p : Geometry} {v w : Inode} {at : Part} {x : ℕ} {old new : SectorMap}
    (geometry : IsGeometry p) (tables : HasWholeTables p old) (apart : IsOwnedApart p old v) (was : part old v at ≡ x) where
  -- nothing changes
  stays : ((s : ℕ) → new s ≡ old s) → Turns old new v w at x x → HasStored p v w at 0 old new
  stays same t =
      let e : new ≡ old = λ i s. same s i in
      let r = λ (s : ℕ) (ban : Owns old v s → ⊥). same s in
      record {
        changes = rewrites geometry tables apart (parts_stay t refl) (record { whole = λ s o. subst IsSector (sym (same s)) (apart.whole s o); others = r });
        others = λ s o ne. same s;
        turns = t.others;
        low = λ s lt. same s;
        free = let f = ap (free_sectors p) e in omega (arith, f);
      }

  -- the sector is written
  rewritten : {content : List ℕ} → HasNoPointers at → x ≢ 0 → IsSector content → Puts x content old new → Turns old new v w at x x → HasStored p v w at 0 old new
  rewritten ne some whole put t =
      let r = put_rewrites (record { at = at; is = was; some = some }) apart.whole whole put in
      record {
        changes = rewrites geometry tables apart (parts_stay t refl) r;
        others = λ s o other. others_kept apart at was some put o other;
        turns = t.others;
        low = λ s lt. put.others s (λ e. let d = (apart.each x (record { at = at; is = was; some = some })).0 in let a = after_map geometry in let b = before_data geometry in omega (arith, d, a, b, lt, e));
        free = let f = rewrites_free_sectors geometry apart r in omega (arith, f);
      }

  -- the sector is given back
  given : x ≢ 0 → GivesNumber p Blocks x old new → Turns old new v w at x 0 → HasStored p v w at 0 old new
  given some g t =
      let owned : Owns old v x = record { at = at; is = was; some = some } in
      record {
        changes = loses geometry apart some t (releases_alone geometry apart g.mark g.clear);
        others = λ s o ne. marks_keeps geometry apart g.mark s o;
        turns = t.others;
        low = λ s lt. g.mark.others s (λ b. let l = b.0 in let a = after_map geometry in omega (arith, l, a, lt));
        free = let f = g.count (apart.each x owned).2 in omega (arith, f);
      }

  -- a sector is taken, and written
  fresh : {y : ℕ} {mid : SectorMap} {content : List ℕ} → TakesNumber p Blocks y old mid → Puts y content mid new → IsSector content
      → Turns old new v w at 0 y → HasStored p v w at 1 old new
  fresh {y} k put whole t =
      let a : Takes p v y old new = takes geometry apart k.free k.mark k.set put whole in
      record {
        changes = gains geometry apart t a;
        others = λ s o ne. takes_keeps geometry apart k.free k.mark put s o;
        turns = t.others;
        low = λ s lt.
            let from = after_map geometry in
            let to = before_data geometry in
            let d = k.free.0 in
            put.others s (λ e. omega (arith, d, from, to, lt, e)) ∙ k.mark.others s (λ b. let l = b.0 in omega (arith, l, from, lt));
        free = let f = gains_free_sectors geometry a in omega (arith, f);
      }

  more : {few most : ℕ} → few ≤ most → HasStored p v w at few old new → HasStored p v w at most old new
  more le h = record { changes = h.changes; others = h.others; turns = h.turns; low = h.low; free = let f = h.free in omega (arith, f, le) }

  -- in each of these ways the inode changes with what it owns
  pub stored : {y : ℕ} (content : Option (List ℕ)) → HasNoPointers at → ((c : List ℕ) → content ≡ Some c → IsSector c) → Stores p x y content old new
      → (KeepsPointers old new v → Turns old new v w at x y) → HasStored p v w at (takes_for x content) old new
  stored {y} None ne whole (gone, inl (none, same)) turns =
      stays same (subst (λ (k : ℕ). Turns old new v w at x k) (gone ∙ sym none) (turns (λ n i some. same (number_on old v (suc n) i))))
  stored {y} None ne whole (gone, inr (some, g)) turns =
      given some g (subst (λ (k : ℕ). Turns old new v w at x k) gone (turns (pointers_kept (marks_keeps geometry apart g.mark))))
  stored {y} (Some content) ne whole (inl (some, is, put)) turns =
      more (omega arith) (rewritten ne some (whole content refl) put
      (subst (λ (k : ℕ). Turns old new v w at x k) is (turns (pointers_apart apart at ne was some put))))
  stored {y} (Some content) ne whole (inr (none, (mid, k, put))) turns =
      let keeps = pointers_kept (takes_keeps geometry apart k.free k.mark put) in
      let one : takes_for x (Some content) ≡ 1 = ap (λ (s : ℕ). takes_for s (Some content)) none in
      more (omega (arith, one)) (fresh k put (whole content refl) (subst (λ (s : ℕ). Turns old new v w at s y) none (turns keeps)))

-- the content stands there
pub content_there : (p : Geometry) (x y : ℕ) (old new : SectorMap) → IsGeometry p → (content : Option (List ℕ)) → Stores p x y content old new → HoldsContent new y content
content_there p x y old new geometry None (gone, way) = gone
content_there p x y old new geometry (Some content) (inl (some, is, put)) = (λ e. some (sym is ∙ e), ap new is ∙ put.here)
content_there p x y old new geometry (Some content) (inr (none, (mid, k, put))) =
    let from = after_map geometry in
    let to = before_data geometry in
    let d = k.free.0 in
    (λ e. omega (arith, d, from, to, e), put.here)

-- the inode holds what it held
pub stored_keeps_bytes : {p : Geometry} {v w : Inode} {at : Part} {taken : ℕ} {old new : SectorMap} → HasStored p v w at taken old new
    → HasNoPointers at → ((k : ℕ) → Block k ≢ at) → w.size ≡ v.size → KeepsBytes old new v w
unfolding part
stored_keeps_bytes {v = v} {old = old} h ne none size =
    same_blocks_keep_bytes (record {
      pointers = λ k. h.turns (Block k) (none k);
      same = λ k some. h.others (part old v (Block k)) (record { at = Block k; is = refl; some = some }) (none k);
      size = size;
    }) (λ level i le gone. h.turns (OnLevel (suc level) i) (λ e. ne level i (sym e)) ∙ gone)
