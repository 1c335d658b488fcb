use Rattle.std.proofs.Common.{◌≡◌, ◌+◌, ◌∙◌, ℕ, List, drop, sym, ap, subst, arith, rules}
use Rattle.fuse_serving.specs.Status.{HasLine, SaysNumber}
use Rattle.fuse_serving.proofs.status.last_id_of.Goals as goal

pub returns : goal.returns
returns c =
    let h = c.in_ok-word.ensures.cases in
    let text = c.in_ok-rest.rest.now in
    let same : text ≡ c.in_ok-line_of.field-0.now = search rules in
    let behind : h.1 ≡ h.0 + 1 = h.2.1.ends in
    let word : c.as_bytes.result.now ≡ drop (h.0 + 1) text = c.as_bytes.ensures.value ∙ h.4 ∙ ap (λ j. drop j text) behind in
    record {
      rest = text;
      line = subst (λ (rest : List ℕ). HasLine c.args.text.now (drop 1 c.args.start.now) rest) (sym same) c.in_ok-line_of.ensures;
      at = h.0;
      is_tab = h.2.1.byte (omega arith);
      number = subst (λ (w : List ℕ). SaysNumber 32 10 w c.in_ok-id.id) word c.in_ok-id.ensures;
    }
