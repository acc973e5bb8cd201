use Rattle.wide_rules.proofs.AskedLemmas.{tells_noted}
use Rattle.wide_rules.proofs.asking.Parts.ask_once.Goals as goal

pub returns-clause-tells : goal.returns-clause-tells
returns-clause-tells g c =
    rw c.in_ok-note.ensures
    (tells_noted c.args.fact.now c.args.self.now.questions c.args.answers.now
    (record { part = c.args.part; is_cover = c.args.is_cover; is_given = c.args.is_given; answer = c.in_ok-answer.answer }) c.in_ok-answer.ensures.does)
