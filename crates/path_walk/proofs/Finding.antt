-- What one lookup answers, by what the directory's inode says.
use Rattle.std.specs.Prelude.{◌≡◌, ℕ, nat_lt, Bool, true, false, not, List, length, if◌then◌else◌, Option, None, Some, Result, Ok, Err}
use Rattle.std.proofs.Common.{refl, sym, ap, subst, ◌∙◌}
use Rattle.std.specs.Option.{option_and_then}
use Rattle.fs_cred.specs.Credentials.{Credential}
use Rattle.fs_cred.specs.Decisions.{is_file}
use Rattle.fs_cred.specs.declared.errno.Errno.TheVariants.{ENOTDIR, ENAMETOOLONG}
use Rattle.fs_cred.specs.declared.node.Node.{Node as AccessNode}
use Rattle.fs_cred.specs.declared.node.NodeKind.TheVariants as nodes
use Rattle.fs_cred.specs.declared.refusal.Need.TheVariants.{Search}
use Rattle.fs_cred.specs.declared.refusal.Refusal.{Refusal}
use Rattle.fs_cred.specs.declared.refusal.Refusal.TheVariants.{Failed}
use Rattle.fs_cred.specs.Verdicts.{verdict}
use Rattle.fs_layout.specs.declared.inode.Inode.{Inode}
use Rattle.fs_layout.specs.declared.geometry.Geometry.{Geometry}
use Rattle.fs_layout.specs.Bytes.{SectorMap}
use Rattle.fs_layout.specs.Images.{inode_at}
use Rattle.fs_layout.specs.Maps.{name_cmp, get}
use Rattle.fs_layout.specs.Version.{max_name}
use Rattle.fs_model.specs.Demands.{Demand, accessed_at, decided, search_of, search_on, search_only}
use Rattle.fs_model.specs.Nodes.{Node, Body, File, Dir, Link, is_directory, names_of_body, accessed, accessed_body}
use Rattle.fs_model.specs.Rules.{is_directory_kind}
use Rattle.fs_model.specs.Stands.{room_of}
use Rattle.fs_model.specs.Trails.{Faulty, arrival, is_dot, is_dot_dot, looked_up, named_inode}
use Rattle.fs_model.specs.Trees.{Tree, node_at, parent, IsDirectoryAt}
use Rattle.path_walk.specs.Answers.{refused_or}
use Rattle.path_walk.specs.HeldTrees.{HoldsTree, IsThere, HasAccess}
use Rattle.path_walk.specs.Lookups.{found_as, lookup_of}
use Rattle.path_walk.proofs.HeldNodes.{Stands, stands, held_kind, held_access}
use Rattle.path_walk.proofs.Onward.{alone_reaches}

-- ---- names
pub dot_is : (t : Tree) (dir_ino : ℕ) (names : List (List ℕ × ℕ)) (name : List ℕ) → is_dot name ≡ true → named_inode t dir_ino names name ≡ Some dir_ino
dot_is t dir_ino names name e = ap (λ (b : Bool). if b then Some dir_ino else (if is_dot_dot name then Some (parent t dir_ino) else get name_cmp names name)) e

other_is : (t : Tree) (dir_ino : ℕ) (names : List (List ℕ × ℕ)) (name : List ℕ) → is_dot name ≡ false
    → named_inode t dir_ino names name ≡ (if is_dot_dot name then Some (parent t dir_ino) else get name_cmp names name)
other_is t dir_ino names name e = ap (λ (b : Bool). if b then Some dir_ino else (if is_dot_dot name then Some (parent t dir_ino) else get name_cmp names name)) e

pub dots_are : (t : Tree) (dir_ino : ℕ) (names : List (List ℕ × ℕ)) (name : List ℕ) → is_dot name ≡ false → is_dot_dot name ≡ true
    → named_inode t dir_ino names name ≡ Some (parent t dir_ino)
dots_are t dir_ino names name e f = other_is t dir_ino names name e ∙ ap (λ (b : Bool). if b then Some (parent t dir_ino) else get name_cmp names name) f

pub name_is : (t : Tree) (dir_ino : ℕ) (names : List (List ℕ × ℕ)) (name : List ℕ) → is_dot name ≡ false → is_dot_dot name ≡ false
    → named_inode t dir_ino names name ≡ get name_cmp names name
name_is t dir_ino names name e f = other_is t dir_ino names name e ∙ ap (λ (b : Bool). if b then Some (parent t dir_ino) else get name_cmp names name) f

-- ---- a lookup
found_alone : (t : Tree) (o : Option ℕ) → found_as (arrival t true false o) ≡ Ok o
found_alone t None = refl
found_alone t (Some n) = ap found_as (alone_reaches n (node_at t n))

-- no search is asked of what is no directory
not_searched : (cred : Credential) (walk k owner group : ℕ) (b : Body) → is_directory b ≡ false → search_of cred walk k (accessed_body owner group b) ≡ None
not_searched cred walk k owner group (File a bytes) e = refl
not_searched cred walk k owner group (Dir a d) e = absurd (cc)
not_searched cred walk k owner group (Link target) e = refl

-- what is asked of a directory
pub record IsSearched (image : SectorMap) (t : Tree) (n : ℕ) (v : Inode) : Type 0 where
  pub stands : IsDirectoryAt t n
  pub node : AccessNode
  pub at : accessed_at t n ≡ Some node
  pub kind : is_file node.kind ≡ false
  pub has : HasAccess image v node

record IsAccessed (owner group : ℕ) (b : Body) : Type 0 where
  node : AccessNode
  is : accessed_body owner group b ≡ Some node
  kind : is_file node.kind ≡ false

directory_accessed : (owner group : ℕ) (b : Body) → is_directory b ≡ true → IsAccessed owner group b
directory_accessed owner group (File a bytes) e = absurd (cc)
directory_accessed owner group (Dir a d) e =
    record { node = record { kind = nodes.Directory; owner = owner; group = group; acl = a }; is = refl; kind = refl }
directory_accessed owner group (Link target) e = absurd (cc)

pub refused_on : {A : Type 0} (d : Demand) (e : Refusal) (r : Result A Refusal) → refused_or {A = Unit {0}} d (Ok tt) ≡ Err e → refused_or d r ≡ Err e
refused_on None e r h = absurd (cc)
refused_on (Some f) e r h = let same : f ≡ e = cc in ap (λ (x : Refusal). Err x) same

pub not_refused : (d : Demand) → refused_or {A = Unit {0}} d (Ok tt) ≡ Ok tt → d ≡ None
not_refused None h = refl
not_refused (Some f) h = absurd (cc)

module _ {p : Geometry} {image : SectorMap} {t : Tree} (h : HoldsTree p image t) (n : ℕ) (there : IsThere t n) (v : Inode) (is : v ≡ inode_at p image n) where
  pub s : Stands t n
  s = stands t n there

  pub kind_is : is_directory_kind v.kind ≡ is_directory s.node.body
  kind_is = ap (λ (u : Inode). is_directory_kind u.kind) is ∙ held_kind h n s.node s.at

  abbrev pub directory_at : is_directory_kind v.kind ≡ true → IsDirectoryAt t n
  directory_at e = record { node = s.node; is_there = s.at; directory = sym kind_is ∙ e }

  pub searched : is_directory_kind v.kind ≡ true → IsSearched image t n v
  searched e =
      let a = directory_accessed s.node.owner s.node.group s.node.body (sym kind_is ∙ e) in
      let at : accessed_at t n ≡ Some a.node = ap (option_and_then accessed) s.at ∙ a.is in record {
        stands = directory_at e;
        node = a.node;
        at = at;
        kind = a.kind;
        has = subst (λ (u : Inode). HasAccess image u a.node) (sym is) (held_access h n a.node at);
      }

  module _ (cred : Credential) (walk k : ℕ) (name : List ℕ) where
    search_is : (x : IsSearched image t n v) → search_on cred t n walk k ≡ decided walk k Search (verdict cred x.node search_only)
    search_is x =
        ap (search_of cred walk k) x.at
        ∙ ap (λ (b : Bool). if b then None else decided walk k Search (verdict cred x.node search_only)) x.kind

    lookup_as : lookup_of (room_of p) t cred walk k n name ≡ refused_or (search_on cred t n walk k) (found_as (looked_up (room_of p) t true false n name (Some s.node)))
    lookup_as = ap (λ (o : Option Node). refused_or (search_on cred t n walk k) (found_as (looked_up (room_of p) t true false n name o))) s.at

    pub no_directory : is_directory_kind v.kind ≡ false → lookup_of (room_of p) t cred walk k n name ≡ Err (Failed ENOTDIR)
    no_directory e =
        let none : search_on cred t n walk k ≡ None =
        ap (λ (o : Option Node). search_of cred walk k (option_and_then accessed o)) s.at
        ∙ not_searched cred walk k s.node.owner s.node.group s.node.body (sym kind_is ∙ e) in
        lookup_as ∙ ap (λ (d : Demand). refused_or d (found_as (looked_up (room_of p) t true false n name (Some s.node)))) none
        ∙ ap (λ (b : Bool). found_as (if not b then Faulty ENOTDIR
        else (if nat_lt (max_name p.version) (length name) then Faulty ENAMETOOLONG else arrival t true false (named_inode t n (names_of_body s.node.body) name)))) (sym kind_is ∙ e)

    -- search is refused
    pub search_refused : (x : IsSearched image t n v) (e : Refusal)
        → refused_or {A = Unit {0}} (decided walk k Search (verdict cred x.node search_only)) (Ok tt) ≡ Err e → lookup_of (room_of p) t cred walk k n name ≡ Err e
    search_refused x e r =
        refused_on (search_on cred t n walk k) e (found_as (looked_up (room_of p) t true false n name (node_at t n)))
        (ap (λ (d : Demand). refused_or {A = Unit {0}} d (Ok tt)) (search_is x) ∙ r)

    -- or it isn't
    module _ (e : is_directory_kind v.kind ≡ true) (x : IsSearched image t n v)
        (r : refused_or {A = Unit {0}} (decided walk k Search (verdict cred x.node search_only)) (Ok tt) ≡ Ok tt) where
      past_search : lookup_of (room_of p) t cred walk k n name
          ≡ found_as (if nat_lt (max_name p.version) (length name) then Faulty ENAMETOOLONG else arrival t true false (named_inode t n (names_of_body s.node.body) name))
      past_search =
          let none : search_on cred t n walk k ≡ None = search_is x ∙ not_refused (decided walk k Search (verdict cred x.node search_only)) r in
          lookup_as ∙ ap (λ (d : Demand). refused_or d (found_as (looked_up (room_of p) t true false n name (Some s.node)))) none
          ∙ ap (λ (b : Bool). found_as (if not b then Faulty ENOTDIR
          else (if nat_lt (max_name p.version) (length name) then Faulty ENAMETOOLONG else arrival t true false (named_inode t n (names_of_body s.node.body) name)))) (sym kind_is ∙ e)

      pub too_long : nat_lt (max_name p.version) (length name) ≡ true → lookup_of (room_of p) t cred walk k n name ≡ Err (Failed ENAMETOOLONG)
      too_long l =
          past_search ∙ ap (λ (b : Bool). found_as (if b then Faulty ENAMETOOLONG else arrival t true false (named_inode t n (names_of_body s.node.body) name))) l

      pub is_named : nat_lt (max_name p.version) (length name) ≡ false → (o : Option ℕ) → named_inode t n (names_of_body s.node.body) name ≡ o → lookup_of (room_of p) t cred walk k n name ≡ Ok o
      is_named l o named =
          past_search ∙ ap (λ (b : Bool). found_as (if b then Faulty ENAMETOOLONG else arrival t true false (named_inode t n (names_of_body s.node.body) name))) l
          ∙ found_alone t (named_inode t n (names_of_body s.node.body) name) ∙ ap (λ (q : Option ℕ). Ok q) named
