use Rattle.std.proofs.Common.{◌≡◌, Ok, rules}
use Rattle.fs_lines.specs.Lines.{unescaped, word_bytes}
use Rattle.fs_lines.proofs.Escapes.{says_all}
use Rattle.fs_lines.proofs.words.Word.read.Goals as goal

pub returns-then-is_none : goal.returns-then-is_none
unfolding word_bytes
returns-then-is_none c =
    let same : unescaped c.args.text.now ≡ Ok c.args.text.now = says_all _ c.memchr2.result c.memchr2.ensures c.if-is_none.ensures in
    search rules
