use Rattle.std.specs.Prelude.{Result, Ok}
use Rattle.std.proofs.Common.{rules, ◌≡◌, ◌&&◌, Bool, true, false, length, ap, inl, inr, ◌∙◌}
use Rattle.fs_cred.specs.declared.errno.Errno.TheVariants.{EINVAL}
use Rattle.fs_cred.specs.declared.refusal.Refusal.{Refusal}
use Rattle.bit_alloc.proofs.Transactions.{unchanged_nothing}
use Rattle.fs_model.specs.Demands.{refuse}
use Rattle.fs_model.specs.Rules.{is_directory_kind}
use Rattle.fs_model.specs.Trees.{is_within}
use Rattle.path_walk.specs.Answers.{refused_or}
use Rattle.path_walk.proofs.Kept.{same_ok}
use Rattle.call_parts.proofs.Refuses.{broken}
use Rattle.name_calls.proofs.renaming.check_below.Goals as goal

-- the answer, as both tests say it
abbrev told : Bool → Bool → Result (Unit {0}) Refusal
told directory below = refused_or (refuse EINVAL (directory && below)) (Ok tt)

pub returns-then-ne : goal.returns-then-ne
returns-then-ne g c =
    let other : is_directory_kind c.args.kind ≡ false = search rules in
    record { each = λ t h d. ap (λ (b : Bool). told b (is_within (length t) t c.args.ino c.args.dir_ino)) other; same = unchanged_nothing }

pub returns-in_err-below : goal.returns-in_err-below
returns-in_err-below g c = record {
  each = λ t h d.
      broken (g.S.Sectors.state c.args.s.now).disk (g.S.Sectors.state c.is_below.new.s).disk _ _ _ c.from_residual.ensures (inr c.in_err-below.ensures.fault);
  same = c.in_err-below.ensures.told.same;
}

pub returns-then-below : goal.returns-then-below
returns-then-below g c =
    let kind : is_directory_kind c.args.kind ≡ true = search rules in
    record {
      each = λ t h d.
          inl
          (ap (λ (b : Bool). told b (is_within (length t) t c.args.ino c.args.dir_ino)) kind
          ∙ ap (told true) (same_ok _ _ (c.in_ok-below.ensures.told.each t h d) ∙ c.if-below.true));
      same = c.in_ok-below.ensures.told.same;
    }

pub returns : goal.returns
returns g c =
    let kind : is_directory_kind c.args.kind ≡ true = search rules in
    record {
      each = λ t h d.
          ap (λ (b : Bool). told b (is_within (length t) t c.args.ino c.args.dir_ino)) kind
          ∙ ap (told true) (same_ok _ _ (c.in_ok-below.ensures.told.each t h d) ∙ c.if-below.false);
      same = c.in_ok-below.ensures.told.same;
    }
