use Rattle.findings.proofs.WrongReplies.{named_are_wrong}
use Rattle.findings.proofs.laws.wrong_replies_are_wrong.Goals as goal

pub returns : goal.returns
returns c = λ evidence. named_are_wrong c.args.trace.now evidence c.valid_strata.ensures c.entries_rise.ensures
