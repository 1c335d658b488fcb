-- Calls that move an offset or close a descriptor are confined.
use Rattle.std.specs.Prelude.{◌≡◌, ℕ, ◌+◌, ◌==◌, min, Bool, true, false, not, ◌||◌, ◌&&◌, cond, List, [], ◌∷◌, length, take, drop, Option, None, Some, unwrap_or, ℤ}
use Rattle.std.proofs.Common.{refl, ap, ◌∙◌, arith}
use Rattle.std.proofs.lemmas.Bool.{not-false}
use Rattle.std.proofs.lemmas.Bool.Decides.{nat_tests}
use Rattle.std.specs.List.{filter, list_any}
use Rattle.std.specs.declared.cmp.Ordering.{Ordering}
use Rattle.std.specs.declared.cmp.Ordering.TheVariants.{Less, Equal, Greater}
use Rattle.std.specs.Ordering.{nat_cmp, eq_by_cmp}
use Rattle.std.specs.FinMap.Entries.{by_order}
use Rattle.fs_cred.specs.declared.errno.Errno.TheVariants.{EBADF}
use Rattle.fs_model.specs.declared.call.Whence.{Whence}
use Rattle.fs_model.specs.declared.call.Call.TheVariants.{Lseek, Close}
use Rattle.fs_model.specs.declared.reply.Reply.TheVariants.{Data, At}
use Rattle.fs_layout.specs.Maps.{get, with_entry, without}
use Rattle.fs_model.specs.Nodes.{Node, bytes_in, accessed}
use Rattle.fs_model.specs.Processes.{Process, Descriptor, no_descriptor, descriptor, the_descriptor, with_offset}
use Rattle.fs_model.specs.Births.{the_node}
use Rattle.fs_model.specs.Alike.{sees_into, may_read, seen_by}
use Rattle.fs_model.specs.DescriptorCalls.{read_within}
use Rattle.fs_model.specs.Rows.{row_of}
use Rattle.fs_model.proofs.Veils.{veiled}
use Rattle.fs_model.proofs.VeiledDemands.{sought-veil}
use Rattle.fs_model.proofs.StepsDemands.{unrefused, is_read_here}
use Rattle.fs_model.proofs.SeenTrees.{the_node-seen, tree_seen-less, sees_no_more}
use Rattle.fs_model.proofs.ConfinedSteps.{Confines, ConfinesRow}
use Rattle.fs_model.proofs.ConfinedLooks.{look_at}

module _ (f : Descriptor → Bool) where
  abbrev pub any : List (ℕ × Descriptor) → Bool
  any ds = list_any (λ d. f d.1) ds

  third : (a b x : Bool) → (a || x) ≡ true → (a || (b || x)) ≡ true
  third true b x h = refl
  third false true x h = refl
  third false false x h = h

  under : (a b x y : Bool) → (x ≡ true → (a || y) ≡ true) → (b || x) ≡ true → (a || (b || y)) ≡ true
  under true b x y k h = refl
  under false true x y k h = refl
  under false false x y k h = k h

  pub any-put : (ds : List (ℕ × Descriptor)) (fd : ℕ) (d : Descriptor) → any (with_entry nat_cmp ds fd d) ≡ true → (f d || any ds) ≡ true
  any-put [] fd d h = h
  any-put (e ∷ ds) fd d h = go (nat_cmp fd e.0) (any-put ds fd d) h
    where
      go : (o : Ordering) → (any (with_entry nat_cmp ds fd d) ≡ true → (f d || any ds) ≡ true) → any (by_order o ((fd, d) ∷ e ∷ ds) ((e.0, d) ∷ ds) (e ∷ with_entry nat_cmp ds fd d)) ≡ true → (f d || any (e ∷ ds)) ≡ true
      go Less ih h = h
      go Equal ih h = third (f d) (f e.1) (any ds) h
      go Greater ih h = under (f d) (f e.1) (any (with_entry nat_cmp ds fd d)) (any ds) ih h

  any-get : (ds : List (ℕ × Descriptor)) (fd : ℕ) (d : Descriptor) → get nat_cmp ds fd ≡ Some d → f d ≡ true → any ds ≡ true
  any-get [] fd d e h = absurd cc
  any-get (x ∷ ds) fd d e h = go (eq_by_cmp nat_cmp fd x.0) (λ e. any-get ds fd d e h) e
    where
      late_ : (b : Bool) → any ds ≡ true → (b || any ds) ≡ true
      late_ true h = refl
      late_ false h = h

      go : (b : Bool) → (get nat_cmp ds fd ≡ Some d → any ds ≡ true) → cond b (Some x.1) (get nat_cmp ds fd) ≡ Some d → any (x ∷ ds) ≡ true
      go true ih e = let k : f x.1 ≡ true = (let same : x.1 ≡ d = cc in ap f same ∙ h) in ap (λ b. b || any ds) k
      go false ih e = late_ (f x.1) (ih e)

  any-filter : (keeps : ℕ × Descriptor → Bool) (ds : List (ℕ × Descriptor)) → any (filter keeps ds) ≡ true → any ds ≡ true
  any-filter keeps [] h = h
  any-filter keeps (e ∷ ds) h = go (keeps e) (any-filter keeps ds) h
    where
      go2 : (b : Bool) → (b || true) ≡ true
      go2 true = refl
      go2 false = refl

      more : (a x y : Bool) → (x ≡ true → y ≡ true) → (a || x) ≡ true → (a || y) ≡ true
      more true x y k h = refl
      more false x y k h = k h

      go : (b : Bool) → (any (filter keeps ds) ≡ true → any ds ≡ true) → any (cond b (e ∷ filter keeps ds) (filter keeps ds)) ≡ true → any (e ∷ ds) ≡ true
      go true ih h = more (f e.1) (any (filter keeps ds)) (any ds) ih h
      go false ih h = more (f e.1) true (any ds) (λ _. ih h) (go2 (f e.1))

abbrev pub is_for : ℕ → Descriptor → Bool
is_for n d = d.ino == n && d.read

pub less_by : (a b x y : Bool) → (x ≡ true → y ≡ true) → (a || b || x) ≡ true → (a || b || y) ≡ true
less_by true b x y k h = refl
less_by false true x y k h = refl
less_by false false x y k h = k h

pub either : (a b : Bool) → (a || b) ≡ true → (a ≡ true → b ≡ true) → b ≡ true
either true b h k = k refl
either false b h k = h

-- with another offset a process sees what it saw
pub offset_less : (p : Process) (fd to n : ℕ) (node : Node) → sees_into (with_offset p fd to) n node ≡ true → sees_into p n node ≡ true
offset_less p fd to n node =
    less_by (node.owner == p.cred.uid) (may_read p (accessed node))
    (list_any (λ d. d.1.ino == n && d.1.read) (with_offset p fd to).descriptors) (list_any (λ d. d.1.ino == n && d.1.read) p.descriptors)
    (λ h. either (is_for n (the_descriptor p fd)) (any (is_for n) p.descriptors)
    (any-put (is_for n) p.descriptors fd (record (the_descriptor p fd) { offset = to }) h) (λ k. go (descriptor p fd) refl k))
  where
    go : (o : Option Descriptor) → descriptor p fd ≡ o → is_for n (unwrap_or o no_descriptor) ≡ true → any (is_for n) p.descriptors ≡ true
    go None e k = absurd (nothing (0 == n) k)
      where
        nothing : (b : Bool) → (b && false) ≡ true → ⊥
        nothing true k = absurd cc
        nothing false k = absurd cc
    go (Some d) e k = any-get (is_for n) p.descriptors fd d e k

pub closed_less : (p : Process) (fd n : ℕ) (node : Node) → sees_into (record p { descriptors = without nat_cmp p.descriptors fd }) n node ≡ true → sees_into p n node ≡ true
closed_less p fd n node =
    less_by (node.owner == p.cred.uid) (may_read p (accessed node))
    (list_any (λ d. d.1.ino == n && d.1.read) (without nat_cmp p.descriptors fd)) (list_any (λ d. d.1.ino == n && d.1.read) p.descriptors)
    (any-filter (is_for n) (λ e. not (eq_by_cmp nat_cmp fd e.0)) p.descriptors)

pub lseek_confined : (fd : ℕ) (whence : Whence) (by : ℤ) → Confines (Lseek fd whence by)
unfolding row_of
lseek_confined fd whence by = look_at (Lseek fd whence by) (λ new. record {
  change = λ c. refl;
  process = λ c. ap (λ o. with_offset c.process fd (unwrap_or o 0)) (sought-veil c fd whence by);
  reply = λ c. ap (λ o. At (unwrap_or o 0)) (sought-veil c fd whence by);
  less = λ c n node. offset_less c.process fd _ n node;
})

pub close_confined : (fd : ℕ) → Confines (Close fd)
unfolding row_of
close_confined fd = look_at (Close fd) (λ new. record { change = λ c. refl; process = λ c. refl; reply = λ c. refl; less = λ c n node. closed_less c.process fd n node })

-- what is open for reading is seen into
pub open_sees : (p : Process) (fd : ℕ) (node : Node) → (the_descriptor p fd).read ≡ true → sees_into p (the_descriptor p fd).ino node ≡ true
open_sees p fd node r =
    let n = (the_descriptor p fd).ino in
    let same : (n == n) ≡ true = grind (arith, nat_tests) in
    let here : is_for n (the_descriptor p fd) ≡ true = ap (λ b. b && (the_descriptor p fd).read) same ∙ r in
    last (node.owner == p.cred.uid) (may_read p (accessed node)) _ (any-get (is_for n) p.descriptors fd (the_descriptor p fd) (is_read_here p fd r) here)
  where
    last : (a b x : Bool) → x ≡ true → (a || b || x) ≡ true
    last true b x h = refl
    last false true x h = refl
    last false false x h = h

pub read_confined : (most fd len : ℕ) → ConfinesRow (read_within most fd len)
read_confined most fd len c new is confined asked met =
    let u = c.state in
    let p = c.process in
    let n = (the_descriptor p fd).ino in
    let r : (the_descriptor p fd).read ≡ true = not-false _ (unrefused EBADF (not (the_descriptor p fd).read) asked.0) in
    let node = the_node u.tree n in
    let same : the_node (seen_by (Some p) u).tree n ≡ node = the_node-seen p u.tree n ∙ ap (λ b. cond b node (veiled node)) (open_sees p fd node r) in
    let offset = (the_descriptor p fd).offset in
    record {
      process = ap (λ x. with_offset p fd (offset + length (take (min len most) (drop offset (bytes_in x.body))))) same;
      reply = ap (λ x. Data (take (min len most) (drop offset (bytes_in x.body)))) same;
      moved = refl;
      tree =
          let to = offset + length (take (min len most) (drop offset (bytes_in node.body))) in
          tree_seen-less p (with_offset p fd to) u.tree (sees_no_more p (with_offset p fd to) (λ m x. offset_less p fd to m x) u.tree);
    }
