use Rattle.std.proofs.Common.{◌≡◌, ◌+◌, drop, take, arith, ap, ◌∙◌}
use Rattle.std.proofs.lemmas.List.{length-drop}
use Rattle.json_lines.specs.Lines.{line_len}
use Rattle.json_lines.proofs.Cuts.{line_len_le}
use Rattle.line_blocks.specs.Blocks.{has_whole_lines}
use Rattle.line_blocks.proofs.Endings.{cut_whole}
use Rattle.line_blocks.proofs.blocks.cut_at.Goals as goal

pub overflow_add-end : goal.overflow_add-end
overflow_add-end c =
    let within = line_len_le c.split_at.result.1.now in
    let size = length-drop c.min-at.result c.args.lines.now in
    omega (arith, c.line_end.ensures, c.min-at.ensures, within, size)

pub returns-then-end-lines-clause-block : goal.returns-then-end-lines-clause-block
returns-then-end-lines-clause-block c =
    let at = c.min-at.result in
    let lines = c.args.lines.now in
    let end : c.line_end.result ≡ line_len (drop at lines) = c.line_end.ensures ∙ ap line_len c.split_at.ensures.back in
    ap (λ n. has_whole_lines (take (at + n + 1) lines)) end
    ∙ cut_whole lines at c.requires.whole (omega (arith, c.min-at.ensures, c.requires.some))
