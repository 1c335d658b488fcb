-- What an image holds where what is open changes at one number, as by close, or by the end of a process, descriptor after
-- descriptor. What has a name stays; a nameless file goes where it is open no more.
--     close_held, close_drop_held        the node stays, or goes
use Rattle.std.specs.Prelude.{◌≡◌, ◌≢◌, ℕ, ◌<◌, ◌==◌, Bool, true, false, not, ◌||◌, Option, None, Some}
use Rattle.std.proofs.Common.{refl, sym, ap, ◌∙◌, inl, inr}
use Rattle.std.proofs.lemmas.Bool.{cases_eq}
use Rattle.fs_layout.specs.declared.geometry.Geometry.{Geometry}
use Rattle.fs_layout.specs.Bytes.{SectorMap}
use Rattle.fs_layout.specs.InodeChanges.{ChangesInode}
use Rattle.fs_layout.specs.Inode.{free_inode}
use Rattle.fs_layout.specs.Images.{bit, inode_at}
use Rattle.fs_model.specs.Nodes.{Node, Body, File, Dir, Link}
use Rattle.fs_model.specs.Trees.{Tree, Room, node_at, names_of, IsTree}
use Rattle.fs_model.specs.Processes.{ProcessTable, is_open}
use Rattle.fs_model.specs.TreeChanges.{swept, lives_nameless}
use Rattle.fs_model.specs.Stands.{HoldsAll, placed}
use Rattle.fs_model.proofs.PlacedNodes.{same_placed, placing, placed_once, one_dropped, placed_none, placed_stays, placed_goes}
use Rattle.fs_model.proofs.StepsSwept.{tree_may_be_swept}
use Rattle.fs_model.proofs.Swept.{DropsNoNames, stays}

-- who has it open decides of files alone
same_lives : (was now : ProcessTable) (n : ℕ) (b : Body) → is_open now n ≡ is_open was n → lives_nameless now n b ≡ lives_nameless was n b
same_lives was now n (File a bytes) same = same
same_lives was now n (Dir a d) same = refl
same_lives was now n (Link target) same = refl

module _ (room : Room) (t : Tree) (is : IsTree room t) (was now : ProcessTable) (n : ℕ) (others : (m : ℕ) → m ≢ n → is_open now m ≡ is_open was m)
    (node : Node) (at : node_at t n ≡ Some node) (stood : stays t was (n, node) ≡ true) (p : Geometry) (old : SectorMap) (held : HoldsAll p old (placed (swept t was))) where
  gone : (processes : ProcessTable) → DropsNoNames (stays t processes) t t
  gone processes = (tree_may_be_swept room t processes is).gone

  same_others : (m : ℕ) → m ≢ n → placed (swept t now) m ≡ placed (swept t was) m
  same_others m ne = go (node_at t m) refl
    where
      go : (o : Option Node) → node_at t m ≡ o → placed (swept t now) m ≡ placed (swept t was) m
      go None e = placed_none t now is.numbers (gone now) m e ∙ sym (placed_none t was is.numbers (gone was) m e)
      go (Some x) e = by_stay (stays t was (m, x)) refl
        where
          same : stays t now (m, x) ≡ stays t was (m, x)
          same = ap (λ b. not (names_of t m == 0) || b) (same_lives was now m x.body (others m ne))

          by_stay : (b : Bool) → stays t was (m, x) ≡ b → placed (swept t now) m ≡ placed (swept t was) m
          by_stay true stay =
              placed_stays t now is.numbers (gone now) m x e (same ∙ stay) ∙ sym (placed_stays t was is.numbers (gone was) m x e stay)
          by_stay false goes =
              placed_goes t now is.numbers (gone now) m x e (same ∙ goes) ∙ sym (placed_goes t was is.numbers (gone was) m x e goes)

  -- the node stays
  pub close_held : stays t now (n, node) ≡ true → HoldsAll p old (placed (swept t now))
  close_held stay = same_placed p old (placed (swept t was)) (placed (swept t now)) held all
    where
      all : (m : ℕ) → placed (swept t now) m ≡ placed (swept t was) m
      all m = elim (cases_eq m n) [
        | inl e ↦
            ap (placed (swept t now)) e ∙ placed_stays t now is.numbers (gone now) n node at stay
            ∙ sym (ap (placed (swept t was)) e ∙ placed_stays t was is.numbers (gone was) n node at stood)
        | inr ne ↦ same_others m ne
      ]

  -- the node goes once it is closed
  pub close_drop_held : (new : SectorMap) → stays t now (n, node) ≡ false → n < p.inodes → ChangesInode p n old new → bit new p.inode_bitmap n ≡ false
      → inode_at p new n ≡ free_inode → HoldsAll p new (placed (swept t now))
  close_drop_held new goes below changes clear free =
      same_placed p new (placing n None (placed (swept t was))) (placed (swept t now))
      (one_dropped p n old new (placed (swept t was)) held below changes (is.each n node at).positive free clear)
      (placed_once (placed (swept t was)) (placed (swept t now)) n None (placed_goes t now is.numbers (gone now) n node at goes) same_others)
