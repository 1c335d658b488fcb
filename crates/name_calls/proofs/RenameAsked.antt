-- What rename asks, as the inodes say it.
--     kind_at, first_kind, first_other, second_other, second_directory        whether what was found is a directory
--     slashes_are, kinds_are        the demands on that
--     replaced_told        what is replaced
--     ends_refuse, first_absent, slashes_refuse, names_met        all that is asked of both names
use Rattle.std.specs.Prelude.{◌≡◌, ℕ, Bool, not, ◌&&◌, ◌||◌, [], ◌∷◌, Option, None, Some, is_some, unwrap_or, Ok}
use Rattle.std.proofs.Common.{refl, sym, ap, ◌∙◌}
use Rattle.fs_cred.specs.declared.errno.Errno.TheVariants.{ENOTDIR, EISDIR}
use Rattle.fs_layout.specs.declared.inode.Inode.{Inode}
use Rattle.fs_layout.specs.declared.geometry.Geometry.{Geometry}
use Rattle.fs_layout.specs.Bytes.{SectorMap}
use Rattle.fs_layout.specs.Images.{inode_at}
use Rattle.fs_model.specs.declared.walk.Found.{Found}
use Rattle.fs_model.specs.Births.{the_node}
use Rattle.fs_model.specs.Demands.{refuse, first_of}
use Rattle.fs_model.specs.Nodes.{Node, is_directory}
use Rattle.fs_model.specs.Rules.{is_directory_kind}
use Rattle.fs_model.specs.Scenes.{is_found, found_ino, must_be_there}
use Rattle.fs_model.specs.Trees.{Tree}
use Rattle.path_walk.specs.HeldTrees.{HoldsTree, IsThere}
use Rattle.call_parts.proofs.Calling.{or_else-none, both_met}
use Rattle.call_parts.proofs.Refuses.{Refuses, refuses_first, refuses_next, refuses_some, refuses_others, demand_met}
use Rattle.path_walk.proofs.HeldNodes.{stands, held_kind}
use Rattle.path_walk.proofs.Kept.{answer, kept_back, same_ok}
use Rattle.sector_txn.specs.Sectors.{TxnState, IsUnchanged}
use Rattle.call_parts.specs.Telling.{checked}
use Rattle.call_parts.specs.Reaching.{IsInodeFound}
use Rattle.call_parts.proofs.Ownership.{all_met}
use Rattle.call_parts.proofs.Shown.{the_node_is}
use Rattle.name_calls.specs.Renaming.{ends_asked, is_other, slash_asked, names_asked, kinds_asked, inode_there, other_kind, directory_kind, slash_told, replacing_asked}

module _ {p : Geometry} {map : SectorMap} {t : Tree} (h : HoldsTree p map t) where
  -- whether it is a directory
  pub kind_at : (m : ℕ) → IsThere t m → is_directory (the_node t m).body ≡ is_directory_kind (inode_at p map m).kind
  kind_at m there =
      let s = stands t m there in
      ap (λ (u : Node). is_directory u.body) (the_node_is t m s.node s.at) ∙ sym (held_kind h m s.node s.at)

  module _ (g : Found) (there : (m : ℕ) → g.ino ≡ Some m → IsThere t m) where
    -- whether the second path leads to something that is no directory
    pub second_other : is_other t g ≡ other_kind (inode_there p map g.ino)
    second_other = go g.ino refl
      where
        go : (o : Option ℕ) → g.ino ≡ o → is_other t g ≡ other_kind (inode_there p map g.ino)
        go None e =
            ap (λ (o : Option ℕ). is_some o && not (is_directory (the_node t (found_ino g)).body)) e
            ∙ sym (ap (λ (o : Option ℕ). other_kind (inode_there p map o)) e)
        go (Some m) e =
            ap (λ (o : Option ℕ). is_some o && not (is_directory (the_node t (unwrap_or o 0)).body)) e
            ∙ ap not (kind_at m (there m e)) ∙ sym (ap (λ (o : Option ℕ). other_kind (inode_there p map o)) e)

    -- whether it leads to a directory
    pub second_directory : (is_found g && is_directory (the_node t (found_ino g)).body) ≡ directory_kind (inode_there p map g.ino)
    second_directory = go g.ino refl
      where
        go : (o : Option ℕ) → g.ino ≡ o → (is_found g && is_directory (the_node t (found_ino g)).body) ≡ directory_kind (inode_there p map g.ino)
        go None e =
            ap (λ (o : Option ℕ). is_some o && is_directory (the_node t (found_ino g)).body) e
            ∙ sym (ap (λ (o : Option ℕ). directory_kind (inode_there p map o)) e)
        go (Some m) e =
            ap (λ (o : Option ℕ). is_some o && is_directory (the_node t (unwrap_or o 0)).body) e
            ∙ kind_at m (there m e) ∙ sym (ap (λ (o : Option ℕ). directory_kind (inode_there p map o)) e)

  module _ {f : Found} {n : ℕ} {v : Inode} (k : IsInodeFound p map f n v) (first : (m : ℕ) → f.ino ≡ Some m → IsThere t m) where
    pub first_kind : (is_found f && is_directory (the_node t (found_ino f)).body) ≡ is_directory_kind v.kind
    first_kind =
        ap (λ (o : Option ℕ). is_some o && is_directory (the_node t (unwrap_or o 0)).body) k.some
        ∙ kind_at n (first n k.some) ∙ ap (λ (w : Inode). is_directory_kind w.kind) (sym k.inode)

    first_other : is_other t f ≡ not (is_directory_kind v.kind)
    first_other =
        ap (λ (o : Option ℕ). is_some o && not (is_directory (the_node t (unwrap_or o 0)).body)) k.some
        ∙ ap not (kind_at n (first n k.some)) ∙ ap (λ (w : Inode). not (is_directory_kind w.kind)) (sym k.inode)

    module _ (g : Found) (second : (m : ℕ) → g.ino ≡ Some m → IsThere t m) {replaced : Option (ℕ × Inode)} (is : replaced ≡ inode_there p map g.ino) where
      pub slashes_are : slash_asked t f g ≡ slash_told f g v.kind replaced
      slashes_are =
          ap (λ (b : Bool). refuse ENOTDIR ((b && (f.slash || g.slash)) || (is_other t g && g.slash))) first_other
          ∙ ap (λ (b : Bool). refuse ENOTDIR ((not (is_directory_kind v.kind) && (f.slash || g.slash)) || (b && g.slash))) (second_other g second ∙ ap other_kind (sym is))

      -- what is replaced, and what replaces it
      pub kinds_are : kinds_asked t f g ≡ replacing_asked v.kind replaced
      kinds_are =
          ap (λ (b : Bool). refuse EISDIR (b && (is_found g && is_directory (the_node t (found_ino g)).body))
          ∷ refuse ENOTDIR ((is_found f && is_directory (the_node t (found_ino f)).body) && is_other t g) ∷ []) first_other
          ∙ ap (λ (b : Bool). refuse EISDIR (not (is_directory_kind v.kind) && b)
          ∷ refuse ENOTDIR ((is_found f && is_directory (the_node t (found_ino f)).body) && is_other t g) ∷ []) (second_directory g second ∙ ap directory_kind (sym is))
          ∙ ap (λ (b : Bool). refuse EISDIR (not (is_directory_kind v.kind) && directory_kind replaced) ∷ refuse ENOTDIR (b && is_other t g) ∷ []) first_kind
          ∙ ap (λ (b : Bool). refuse EISDIR (not (is_directory_kind v.kind) && directory_kind replaced) ∷ refuse ENOTDIR (is_directory_kind v.kind && b) ∷ [])
          (second_other g second ∙ ap other_kind (sym is))

-- what is replaced, as it was before a read
pub replaced_told : (p : Geometry) {old mid : TxnState} (o : Option ℕ) (there : Option (ℕ × Inode)) → IsUnchanged old mid
    → answer (inode_there p mid.sectors o) ≡ answer there → there ≡ inode_there p old.sectors o
replaced_told p {old} {mid} o there same is =
    kept_back (λ (m : SectorMap). there ≡ inode_there p m o) same (sym (same_ok (inode_there p mid.sectors o) there is))

-- ---- all that is asked of both names

module _ (t : Tree) (f g : Found) where
  pub ends_refuse : Refuses (first_of (ends_asked f g)) (first_of (names_asked t f g))
  ends_refuse = refuses_some (ends_asked f g) (must_be_there f ∷ slash_asked t f g ∷ [])

  module _ (ends : checked (first_of (ends_asked f g)) ≡ Ok tt) where
    pub first_absent : Refuses (must_be_there f) (first_of (names_asked t f g))
    first_absent =
        refuses_others (ends_asked f g) (must_be_there f ∷ slash_asked t f g ∷ []) (demand_met (first_of (ends_asked f g)) ends)
        (refuses_first (must_be_there f) (slash_asked t f g ∷ []))

    pub slashes_refuse : must_be_there f ≡ None → Refuses (slash_asked t f g) (first_of (names_asked t f g))
    slashes_refuse there =
        refuses_others (ends_asked f g) (must_be_there f ∷ slash_asked t f g ∷ []) (demand_met (first_of (ends_asked f g)) ends)
        (refuses_next (must_be_there f) (slash_asked t f g ∷ []) there (refuses_first (slash_asked t f g) []))

  pub names_met : checked (first_of (ends_asked f g)) ≡ Ok tt → must_be_there f ≡ None → checked (slash_asked t f g) ≡ Ok tt → first_of (names_asked t f g) ≡ None
  names_met ends there slash =
      all_met (ends_asked f g) (must_be_there f ∷ slash_asked t f g ∷ []) (demand_met (first_of (ends_asked f g)) ends)
      (both_met (must_be_there f) (slash_asked t f g ∷ []) there
      (or_else-none (slash_asked t f g) ∙ demand_met (slash_asked t f g) slash))
