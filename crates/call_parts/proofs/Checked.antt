-- What a check of some demands answers.
--     checked_first, checked_second, checked_third, checked_all        some demands, then others, then one more
--     link_says        the kind of an inode says whether it is a link
--     refused_as        a refusal, whatever would be answered else
use Rattle.std.specs.Prelude.{◌≡◌, List, [], ◌∷◌, ◌++◌, None, Ok, Err, IsErr, IsErrAnd}
use Rattle.std.proofs.Common.{sym, ap, ◌∙◌, inl, inr}
use Rattle.fs_cred.specs.declared.refusal.Refusal.{Refusal}
use Rattle.sector_disk.specs.Disk.{DiskState}
use Rattle.fs_layout.specs.declared.inode.Inode.{Inode}
use Rattle.fs_layout.specs.declared.version.Version.{Version}
use Rattle.fs_layout.specs.Bytes.{SectorMap}
use Rattle.fs_model.specs.Demands.{Demand, or_else, first_of}
use Rattle.fs_model.specs.Nodes.{Body, File, Dir, Link, is_link}
use Rattle.fs_model.specs.StoredNodes.{HoldsBody}
use Rattle.fs_model.specs.Summaries.{is_link_kind}
use Rattle.call_parts.specs.Telling.{Checked, checked}
use Rattle.path_walk.specs.Answers.{refused_or, IsAnswered}
use Rattle.call_parts.proofs.Calling.{first_of-append, refused_err, met_ok, or_else-none}
use Rattle.path_walk.proofs.Kept.{is_err}

-- ---- some demands, then others, then one more

module _ (a b : List Demand) (d : Demand) where
  three : first_of ((a ++ b) ++ (d ∷ [])) ≡ or_else (or_else (first_of a) (first_of b)) d
  three = first_of-append (a ++ b) (d ∷ []) ∙ ap (or_else (first_of (a ++ b))) (or_else-none d) ∙ ap (λ x. or_else x d) (first_of-append a b)

  pub checked_first : (r : Checked) (e : Refusal) → IsErr r → IsErrAnd r (λ y. y ≡ e) → checked (first_of a) ≡ Err e
      → r ≡ checked (first_of ((a ++ b) ++ (d ∷ [])))
  checked_first r e err and is =
      is_err r e err and
      ∙ sym (ap checked (three ∙ ap (λ x. or_else (or_else x (first_of b)) d) (refused_err {A = Unit {0}} (first_of a) tt e is)))

  module _ (first : checked (first_of a) ≡ Ok tt) where
    first_none : first_of a ≡ None
    first_none = (met_ok {A = Unit {0}} (first_of a) tt tt first).0

    pub checked_second : (r : Checked) (e : Refusal) → IsErr r → IsErrAnd r (λ y. y ≡ e) → checked (first_of b) ≡ Err e
        → r ≡ checked (first_of ((a ++ b) ++ (d ∷ [])))
    checked_second r e err and is =
        is_err r e err and
        ∙ sym (ap checked (three ∙ ap (λ x. or_else (or_else x (first_of b)) d) first_none ∙ ap (λ x. or_else x d) (refused_err {A = Unit {0}} (first_of b) tt e is)))

    module _ (second : checked (first_of b) ≡ Ok tt) where
      last_left : first_of ((a ++ b) ++ (d ∷ [])) ≡ d
      last_left =
          three ∙ ap (λ x. or_else (or_else x (first_of b)) d) first_none
          ∙ ap (λ x. or_else x d) (met_ok {A = Unit {0}} (first_of b) tt tt second).0

      pub checked_third : (r : Checked) (e : Refusal) → IsErr r → IsErrAnd r (λ y. y ≡ e) → checked d ≡ Err e
          → r ≡ checked (first_of ((a ++ b) ++ (d ∷ [])))
      checked_third r e err and is = is_err r e err and ∙ sym (ap checked last_left ∙ is)

      pub checked_all : checked d ≡ Ok tt → Ok tt ≡ checked (first_of ((a ++ b) ++ (d ∷ [])))
      checked_all is = sym (ap checked last_left ∙ is)

-- ---- what an inode says

-- the kind of an inode says whether it is a link
pub link_says : (version : Version) (image : SectorMap) (v : Inode) (b : Body) → HoldsBody version image v b → is_link_kind v.kind ≡ is_link b
link_says version image v (File a bytes) h = ap is_link_kind h.kind
link_says version image v (Dir a d) h = ap is_link_kind h.names.kind
link_says version image v (Link target) h = ap is_link_kind h.kind

pub refused_as : {A B : Type 0} (d : Demand) (y : B) (x : A) (e : Refusal) (old new : DiskState) → IsAnswered old new (refused_or d (Ok y)) (Err e)
    → IsAnswered old new (refused_or d (Ok x)) (Err e)
refused_as {A} d y x e old new h = elim h [
  | inl is ↦ inl (ap (λ (o : Demand). refused_or {A = A} o (Ok x)) (refused_err d y e is))
  | inr way ↦ inr way
]
