use borrow.Rule.Slice.PartMut.{post_of}
use Rattle.std.proofs.Common.{◌≡◌, ◌+◌, ◌-◌, drop, ◌≤◌, ◌∙◌, ◌++◌, ap, append_assoc, arith, length, rules, sym, take}
use Rattle.std.proofs.lemmas.Grind.{common_steps}
use Rattle.line_blocks.proofs.Behind.{read_behind}
use Rattle.line_blocks.proofs.reading.refill.Goals as goal

pub returns-in-Ok-clause-came : goal.returns-in-Ok-clause-came
returns-in-Ok-clause-came g c = λ before is.
    let old = c.args.bytes.now.items in
    let was = c.deref_mut.result.now in
    let had = c.len-had.result in
    let more = take c.in-Ok.count c.give.new.buf in
    let given : g.R.Source.given c.give.new.self ≡ g.R.Source.given c.args.reader.now ++ more = c.in-Ok.ensures.gives in
    let few : c.in-Ok.count ≤ length c.give.new.buf = c.in-Ok.ensures.bound.0 in
    let within : had ≤ length was = search rules in
    let room : had + c.in-Ok.count ≤ c.resize.new.self.len = search rules in
    let kept : take had was ≡ old = grind (arith, common_steps) in
    let both : c.truncate.new.self.items ≡ old ++ more =
    c.truncate.ensures.items
    ∙ read_behind was c.give.new.buf (post_of had (length was - had) was) (drop (length (take had was
    ++ (c.give.new.buf ++ post_of had (length was - had) was))) c.resize.new.self.items) had c.in-Ok.count c.resize.new.self.len within few room
    ∙ ap (λ xs. xs ++ more) kept in
    given ∙ ap (λ xs. xs ++ more) is ∙ append_assoc before old more ∙ ap (λ xs. before ++ xs) (sym both)
