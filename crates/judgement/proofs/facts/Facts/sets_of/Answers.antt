use Rattle.std.proofs.Common.{◌∙◌, length, map, ap, sym, rules}
use Rattle.tuple_text.specs.Tuples.{FactValue}
use Rattle.marks.proofs.PlacedLemmas.{newest_first-through}
use Rattle.judgement.specs.Facts.{is_of_user, sets_before}
use Rattle.judgement.proofs.facts.Facts.sets_of.Goals as goal

pub invariant_of-result : goal.invariant_of-result
invariant_of-result g c = (length c.args.self.now, search rules, c.newest_of.ensures)

pub returns : goal.returns
returns g c =
    let facts = c.args.self.now in
    ap (sets_before c.args.user facts) c.newest_of.ensures
    ∙ ap (map (λ (f : FactValue). f.set)) (sym (newest_first-through (is_of_user c.args.user) (is_of_user c.args.user) (λ x h. h) facts (length facts)))
