-- The numbers of a tree are counts over the inodes of the image that stands for it.
use Rattle.std.specs.Prelude.{◌≡◌, ℕ, ◌<◌, ◌≤◌, ◌==◌, ◌&&◌, Bool, true, false, not, cond, [], ◌∷◌, length, Option, Some, None, count_by}
use Rattle.std.proofs.Common.{refl, sym, ap, arith, ◌∙◌}
use Rattle.std.specs.List.{range_with_len}
use Rattle.std.specs.Option.{option_map}
use Rattle.std.specs.Ordering.{nat_cmp}
use Rattle.std.proofs.lemmas.List.Sums.{sum_by-cons}
use Rattle.fs_layout.specs.declared.inode.Inode.{Inode}
use Rattle.fs_layout.specs.declared.version.Version.{Version}
use Rattle.fs_layout.specs.declared.geometry.Geometry.{Geometry}
use Rattle.fs_layout.specs.Bytes.{SectorMap}
use Rattle.fs_layout.specs.Inode.{free_inode}
use Rattle.fs_layout.specs.Images.{inode_at}
use Rattle.fs_layout.specs.Maps.{IsMap}
use Rattle.fs_model.specs.Nodes.{Node, Body, File, Dir, Link, is_directory, is_link}
use Rattle.fs_model.specs.Trees.{Tree, node_at, names_of, IsTree}
use Rattle.fs_model.specs.StoredNodes.{Placed, HoldsBody, HoldsNode, names_field}
use Rattle.fs_model.specs.Stands.{HoldsPlaced, HoldsAll, placed, room_of}
use Rattle.fs_model.specs.Rules.{is_directory_kind}
use Rattle.fs_model.specs.Summaries.{is_file_kind, is_link_kind, is_used, is_file_body, named_files, nameless_files, directories, links}
use Rattle.fs_model.proofs.ListedMaps.{sum-of_map, sum-same}
use Rattle.fs_layout.proofs.MapLaws.{summand}
use Rattle.fs_model.proofs.StoredTrees.{Stores}
use Rattle.fs_model.proofs.RulesFromTree.{stores, put}

-- a count over a map is one over the range of its numbers, where a test of numbers says the same
pub count_is : (f : ℕ × Node → Bool) (g : ℕ → Bool) (t : Tree) (n : ℕ) (past : (q : ℕ) → n ≤ q → node_at t q ≡ None)
    → IsMap nat_cmp t → ((q : ℕ) → q < n → summand (λ e. cond (f e) 1 0) q (node_at t q) ≡ cond (g q) 1 0)
    → count_by f t ≡ count_by g (range_with_len 0 n)
count_is f g t n past sorted same =
    sum-of_map (λ (e : ℕ × Node). cond (f e) 1 0) t n sorted past
    ∙ sum-same (λ k. summand (λ e. cond (f e) 1 0) k (node_at t k)) (λ k. cond (g k) 1 0) 0 n (λ k ge lt. same k (omega (arith, lt)))

pub length_is : (t : Tree) → length t ≡ count_by (λ (e : ℕ × Node). true) t
length_is [] = refl
length_is (e ∷ t) = let rest = length_is t in omega (arith, rest, sum_by-cons (λ (q : ℕ × Node). 1) e t)

body_is_file : (version : Version) (m : SectorMap) (v : Inode) (b : Body) → HoldsBody version m v b → is_file_body b ≡ is_file_kind v.kind
body_is_file version m v (File a bytes) h = sym (ap is_file_kind h.kind)
body_is_file version m v (Dir a d) h = sym (ap is_file_kind h.names.kind)
body_is_file version m v (Link target) h = sym (ap is_file_kind h.kind)

body_is_directory : (version : Version) (m : SectorMap) (v : Inode) (b : Body) → HoldsBody version m v b → is_directory b ≡ is_directory_kind v.kind
body_is_directory version m v (File a bytes) h = sym (ap is_directory_kind h.kind)
body_is_directory version m v (Dir a d) h = sym (ap is_directory_kind h.names.kind)
body_is_directory version m v (Link target) h = sym (ap is_directory_kind h.kind)

body_is_link : (version : Version) (m : SectorMap) (v : Inode) (b : Body) → HoldsBody version m v b → is_link b ≡ is_link_kind v.kind
body_is_link version m v (File a bytes) h = sym (ap is_link_kind h.kind)
body_is_link version m v (Dir a d) h = sym (ap is_link_kind h.names.kind)
body_is_link version m v (Link target) h = sym (ap is_link_kind h.kind)

body_is_used : (version : Version) (m : SectorMap) (v : Inode) (b : Body) → HoldsBody version m v b → true ≡ is_used v.kind
body_is_used version m v (File a bytes) h = sym (ap is_used h.kind)
body_is_used version m v (Dir a d) h = sym (ap is_used h.names.kind)
body_is_used version m v (Link target) h = sym (ap is_used h.kind)

-- of a file the names field is the number of its names
file_names : (version : Version) (m : SectorMap) (v : Inode) (x : Placed) (none : Bool → Bool) → HoldsNode version m v x
    → (is_file_body x.node.body && none (x.names == 0)) ≡ (is_file_kind v.kind && none (v.names == 0))
file_names version m v x none h = go x.node.body h.body h.names
  where
    go : (b : Body) → HoldsBody version m v b → v.names ≡ names_field b x.names
        → (is_file_body b && none (x.names == 0)) ≡ (is_file_kind v.kind && none (v.names == 0))
    go (File a bytes) h e = ap (λ (n : ℕ). none (n == 0)) (sym e) ∙ sym (ap (λ k. is_file_kind k && none (v.names == 0)) h.kind)
    go (Dir a d) h e = sym (ap (λ k. is_file_kind k && none (v.names == 0)) h.names.kind)
    go (Link target) h e = sym (ap (λ k. is_file_kind k && none (v.names == 0)) h.kind)

module _ (p : Geometry) (m : SectorMap) (t : Tree) (held : HoldsAll p m (placed t)) (is : IsTree (room_of p) t) where
  all : Stores p m t
  all = stores p m t held is

  -- a count of nodes, whose test an inode answers alike, and a free one denies
  by_inodes : (f : ℕ × Node → Bool) (g : Inode → Bool) → g free_inode ≡ false
      → ((n : ℕ) (node : Node) → HoldsNode p.version m (inode_at p m n) (put p m t held is n node) → f (n, node) ≡ g (inode_at p m n))
      → count_by f t ≡ count_by (λ n. g (inode_at p m n)) (range_with_len 0 p.inodes)
  by_inodes f g free same =
      count_is f (λ n. g (inode_at p m n)) t p.inodes all.past all.numbers (λ n lt. go n (node_at t n) (held.nodes n lt))
    where
      go : (n : ℕ) (o : Option Node) → HoldsPlaced p m n (option_map (put p m t held is n) o) → summand (λ (e : ℕ × Node). cond (f e) 1 0) n o ≡ cond (g (inode_at p m n)) 1 0
      go n None h = sym (ap (λ v. cond (g v) 1 0) h ∙ ap (λ b. cond b 1 0) free)
      go n (Some node) h = ap (λ b. cond b 1 0) (same n node h)

  pub files_counted : named_files t ≡ count_by (λ n. is_file_kind (inode_at p m n).kind && not ((inode_at p m n).names == 0)) (range_with_len 0 p.inodes)
  files_counted =
      by_inodes (λ e. is_file_body e.1.body && not (names_of t e.0 == 0)) (λ v. is_file_kind v.kind && not (v.names == 0)) refl
      (λ n node h. file_names p.version m (inode_at p m n) (put p m t held is n node) not h)

  pub nameless_counted : nameless_files t ≡ count_by (λ n. is_file_kind (inode_at p m n).kind && (inode_at p m n).names == 0) (range_with_len 0 p.inodes)
  nameless_counted =
      by_inodes (λ e. is_file_body e.1.body && names_of t e.0 == 0) (λ v. is_file_kind v.kind && v.names == 0) refl
      (λ n node h. file_names p.version m (inode_at p m n) (put p m t held is n node) (λ b. b) h)

  pub directories_counted : directories t ≡ count_by (λ n. is_directory_kind (inode_at p m n).kind) (range_with_len 0 p.inodes)
  directories_counted =
      by_inodes (λ e. is_directory e.1.body) (λ v. is_directory_kind v.kind) refl (λ n node h. body_is_directory p.version m (inode_at p m n) node.body h.body)

  pub links_counted : links t ≡ count_by (λ n. is_link_kind (inode_at p m n).kind) (range_with_len 0 p.inodes)
  links_counted = by_inodes (λ e. is_link e.1.body) (λ v. is_link_kind v.kind) refl (λ n node h. body_is_link p.version m (inode_at p m n) node.body h.body)

  pub nodes_counted : length t ≡ count_by (λ n. is_used (inode_at p m n).kind) (range_with_len 0 p.inodes)
  nodes_counted =
      length_is t ∙ by_inodes (λ e. true) (λ v. is_used v.kind) refl (λ n node h. body_is_used p.version m (inode_at p m n) node.body h.body)
