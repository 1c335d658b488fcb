use Rattle.std.proofs.Common.{◌≡◌, ◌≤◌, ◌++◌, [], length, drop, codes, string_bytes, refl, sym, ap, ◌∙◌, rules, arith, append-nil, append_assoc}
use Rattle.std.proofs.lemmas.List.{drop_all, length-map}
use Rattle.fs_cred.specs.Capabilities.{named_caps}
use Rattle.fs_lines.specs.Texts.{caps_text}
use Rattle.fs_lines.proofs.Capabilities.{caps_text_with, caps_text_without, caps_text_end}
use Rattle.fs_lines.proofs.Names.{is_text}
use Rattle.fs_lines.proofs.text.push_caps.Goals as goal
use Rattle.fs_lines.proofs.text.push_caps.Goals.{then-contains+in_ok-push_str-2+in_ok-push_str-3, else-contains}

pub loop-flag-preserved : goal.loop-flag-preserved
loop-flag-preserved c = elim c.if-contains.branch [
  | then-contains+in_ok-push_str-2+in_ok-push_str-3 w ↦
      rw (w.text-is, w.before-is) (
        is_text (codes ",") refl,
        caps_text_with (λ f. (f.name.now, f.value.0)) c.flags-flag-items.result.now named_caps c.loop-flag.flag-index _ c.loop-flag.before.now c.args.caps.0
            (c.flags-flag-items.ensures _) c.loop-flag-test.true (string_bytes c.loop-flag.text) (string_bytes w.push_str-then-contains.new.self) _
            (sym (w.if-contains.ensures _)) (search rules) (w.in_ok-push_str-3.ensures.bytes ∙ ap (λ name. string_bytes w.push_str-then-contains.new.self ++ name) w.name.ensures)
            ∙ c.loop-flag.invariant.1,
      )
  | else-contains w ↦
      rw (w.text-is, w.before-is) (
        c.loop-flag.invariant.0,
        ap (λ rest. string_bytes c.loop-flag.text ++ rest)
            (caps_text_without (λ f. (f.name.now, f.value.0)) c.flags-flag-items.result.now named_caps c.loop-flag.flag-index _ c.loop-flag.before.now c.args.caps.0
            (c.flags-flag-items.ensures _) c.loop-flag-test.true (sym (w.if-contains.ensures _)))
            ∙ c.loop-flag.invariant.1,
      )
]

pub returns : goal.returns
returns c =
    let size : length named_caps ≡ length c.flags-flag-items.result.now =
    ap length (sym (c.flags-flag-items.ensures _)) ∙ length-map c.flags-flag-items.result.now _ in
    let done : length named_caps ≤ c.loop-flag.flag-index = omega arith in
    let nothing : caps_text c.loop-flag.before.now c.args.caps.0 (drop c.loop-flag.flag-index named_caps) ≡ [] =
    ap (caps_text c.loop-flag.before.now c.args.caps.0) (drop_all c.loop-flag.flag-index named_caps done) ∙ caps_text_end _ _ in
    sym (append-nil (string_bytes c.loop-flag.text)) ∙ ap (λ rest. string_bytes c.loop-flag.text ++ rest) (sym nothing) ∙ c.loop-flag.invariant.1
    ∙ ap (λ front. front ++ caps_text (codes ":") c.args.caps.0 named_caps) c.in_ok-push_str.ensures.bytes
    ∙ append_assoc (string_bytes c.args.text.now) (codes "cap") (caps_text (codes ":") c.args.caps.0 named_caps)
