-- A change after which each node is of the type that it was: processes that fitted the tree fit it then.
use Rattle.std.specs.Prelude.{◌≡◌, ℕ, ◌^◌, ◌<◌, Bool, true, false, cond, Some}
use Rattle.std.proofs.Common.{refl, sym, ap, ◌∙◌}
use Rattle.std.specs.Ordering.{nat_cmp, is_eq}
use Rattle.fs_model.specs.Nodes.{Node, Body, File, Dir, Link, is_directory, is_link, names_of_body, type_of}
use Rattle.fs_model.specs.Trees.{Tree, Room, node_at, with_node, names_of, NamesFit, IsBody, IsTree, IsDirectoryAt, AreStamps}
use Rattle.fs_model.specs.Processes.{Process, Descriptor}
use Rattle.fs_model.specs.States.{IsDescriptor, IsProcess}
use Rattle.fs_layout.proofs.FirstEntries.{tied}
use Rattle.fs_layout.proofs.MapLaws.{get-with_entry}
use Rattle.fs_model.proofs.Rewrites.{rewritten_is_tree}

-- ---- what the type decides

pub same_directory : (b c : Body) → type_of b ≡ type_of c → is_directory b ≡ is_directory c
same_directory (File a s) (File b t) e = refl
same_directory (File a s) (Dir b d) e = absurd cc
same_directory (File a s) (Link t) e = refl
same_directory (Dir a d) (File b t) e = absurd cc
same_directory (Dir a d) (Dir b c) e = refl
same_directory (Dir a d) (Link t) e = absurd cc
same_directory (Link s) (File b t) e = refl
same_directory (Link s) (Dir b d) e = absurd cc
same_directory (Link s) (Link t) e = refl

same_link : (b c : Body) → type_of b ≡ type_of c → is_link b ≡ is_link c
same_link (File a s) (File b t) e = refl
same_link (File a s) (Dir b d) e = refl
same_link (File a s) (Link t) e = absurd cc
same_link (Dir a d) (File b t) e = refl
same_link (Dir a d) (Dir b c) e = refl
same_link (Dir a d) (Link t) e = absurd cc
same_link (Link s) (File b t) e = absurd cc
same_link (Link s) (Dir b d) e = absurd cc
same_link (Link s) (Link t) e = refl

pub same_fit : (room : Room) (n names : ℕ) (b c : Body) → type_of b ≡ type_of c → NamesFit room n c names → NamesFit room n b names
same_fit room n names (File a s) (File b t) e fits = fits
same_fit room n names (File a s) (Dir b d) e fits = absurd cc
same_fit room n names (File a s) (Link t) e fits = absurd cc
same_fit room n names (Dir a d) (File b t) e fits = absurd cc
same_fit room n names (Dir a d) (Dir b c) e fits = fits
same_fit room n names (Dir a d) (Link t) e fits = absurd cc
same_fit room n names (Link s) (File b t) e fits = absurd cc
same_fit room n names (Link s) (Dir b d) e fits = absurd cc
same_fit room n names (Link s) (Link t) e fits = fits

-- ---- all nodes

-- at n stands a node of the type
pub record StandsAs (u : Tree) (n : ℕ) (old : Node) : Type 0 where
  pub node : Node
  pub is_there : node_at u n ≡ Some node
  pub same : type_of node.body ≡ type_of old.body

abbrev pub KeepsTypes : Tree → Tree → Type 0
KeepsTypes t u = (n : ℕ) (node : Node) → node_at t n ≡ Some node → StandsAs u n node

pub types_stay : (t : Tree) → KeepsTypes t t
types_stay t n node at = record { node = node; is_there = at; same = refl }

module _ (t u : Tree) (keeps : KeepsTypes t u) where
  pub directory_moves : (n : ℕ) → IsDirectoryAt t n → IsDirectoryAt u n
  directory_moves n d =
      let now = keeps n d.node d.is_there in
      record {
        node = now.node;
        is_there = now.is_there;
        directory = same_directory now.node.body d.node.body now.same ∙ d.directory;
      }

  pub descriptor_moves : (fd : ℕ) (d : Descriptor) → IsDescriptor t fd d → IsDescriptor u fd d
  descriptor_moves fd d x =
      let now = keeps d.ino x.node x.is_there in
      record {
        below = x.below;
        offset = x.offset;
        node = now.node;
        is_there = now.is_there;
        no_link = same_link now.node.body x.node.body now.same ∙ x.no_link;
        no_writes = λ directory. x.no_writes (sym (same_directory now.node.body x.node.body now.same) ∙ directory);
      }

  pub process_moves : (p : Process) → IsProcess t p → IsProcess u p
  process_moves p x = record {
    cred = x.cred;
    umask = x.umask;
    cwd = directory_moves p.cwd x.cwd;
    descriptors = x.descriptors;
    each = λ fd d there. descriptor_moves fd d (x.each fd d there);
  }

-- ---- one node that is rewritten

-- what a node has to be to stand where another stood
pub record MayReplace (room : Room) (t : Tree) (old new : Node) : Type 0 where
  pub same : type_of new.body ≡ type_of old.body
  pub names : names_of_body new.body ≡ names_of_body old.body
  pub owner : new.owner < 2 ^ 32
  pub group : new.group < 2 ^ 32
  pub body : IsBody room t new.body
  pub stamps : AreStamps room.keeps_times new.stamps

pub replaced_is_tree : (room : Room) (t : Tree) (n : ℕ) (old new : Node) → IsTree room t → node_at t n ≡ Some old → MayReplace room t old new
    → IsTree room (with_node t n new)
replaced_is_tree room t n old new is was may =
    let stood = is.each n old was in
    rewritten_is_tree room t n old new is was (record {
      names = may.names;
      kind = same_directory new.body old.body may.same;
      fits_room = record { positive = stood.positive; below = stood.below; owner = may.owner; group = may.group; stamps = may.stamps };
      body = may.body;
      fits = same_fit room n (names_of t n) new.body old.body may.same stood.names;
    })

pub replaced_keeps_types : (t : Tree) (n : ℕ) (old new : Node) → node_at t n ≡ Some old → type_of new.body ≡ type_of old.body
    → KeepsTypes t (with_node t n new)
replaced_keeps_types t n old new was same m node at = go (is_eq (nat_cmp m n)) refl
  where
    go : (b : Bool) → is_eq (nat_cmp m n) ≡ b → StandsAs (with_node t n new) m node
    go true e =
        let here : m ≡ n = tied m n e in
        let stood : node_at t m ≡ Some old = ap (node_at t) here ∙ was in
        let is : old ≡ node = cc in
        record {
          node = new;
          is_there = get-with_entry t n new m ∙ ap (λ b. cond b (Some new) (node_at t m)) e;
          same = same ∙ ap (λ v. type_of v.body) is;
        }
    go false e = record {
      node = node;
      is_there = get-with_entry t n new m ∙ ap (λ b. cond b (Some new) (node_at t m)) e ∙ at;
      same = refl;
    }
