use Rattle.std.proofs.Common.{◌∙◌, ◌+◌, ◌++◌, ℕ, List, drop, sym, ap, append_assoc, arith}
use Rattle.std.specs.Prelude.{string_bytes}
use Rattle.std.specs.List.{flat_map}
use Rattle.trace_lines.specs.Values.{EntryValue}
use Rattle.runs.proofs.WalkLemmas.{drop_at, there_is}
use Rattle.follow.specs.Handing.{unaudited_line}
use Rattle.follow.proofs.handing.push_unaudited.Goals as goal

pub loop-i-preserved : goal.loop-i-preserved
loop-i-preserved c =
    let es = c.args.trace.now.entries in
    let i = c.loop-i.i in
    let turn = c.loop-i-test.true in
    let all = c.len-i-end.ensures.count in
    let own = there_is es i (omega (arith, turn, all)) in
    let rest = flat_map (unaudited_line c.args.known es) (drop (i + 1) es) in
    ap (λ (l : List ℕ). l ++ rest) (c.in_ok-push_if_unaudited.ensures own.0 own.1)
    ∙ append_assoc (string_bytes c.loop-i.text) (unaudited_line c.args.known es own.0) rest
    ∙ ap (λ (xs : List EntryValue). string_bytes c.loop-i.text ++ flat_map (unaudited_line c.args.known es) xs)
    (sym (drop_at es i own.0 own.1))
    ∙ c.loop-i.invariant
