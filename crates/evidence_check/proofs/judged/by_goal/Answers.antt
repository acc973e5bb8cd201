use Rattle.std.proofs.Common.{sym, ◌∙◌}
use Rattle.tuple_text.specs.FactRefs.{fact_value}
use Rattle.evidence_check.proofs.JudgedLemmas.{among_by, by_yes, by_no, by_none}
use Rattle.evidence_check.proofs.judged.by_goal.Goals as goal

pub returns-then-yes : goal.returns-then-yes
returns-then-yes c =
    let yes_is = among_by c.args.known.now.yes (fact_value c.args.goal) c.yes.result (rw (c.set.ensures.parts, c.user.ensures.value) at c.yes.ensures) in
    c.by_reply.ensures ∙ sym (by_yes c.args.known.now (fact_value c.args.goal) c.args.reply (sym yes_is ∙ c.if-yes.true))

pub returns-then-no : goal.returns-then-no
returns-then-no c =
    let yes_is = among_by c.args.known.now.yes (fact_value c.args.goal) c.yes.result (rw (c.set.ensures.parts, c.user.ensures.value) at c.yes.ensures) in
    let no_is = among_by c.args.known.now.no (fact_value c.args.goal) c.no.result (rw (c.set-else-yes.ensures.parts, c.user-else-yes.ensures.value) at c.no.ensures) in
    c.by_reply-then-no.ensures ∙ sym (by_no c.args.known.now (fact_value c.args.goal) c.args.reply (sym yes_is ∙ c.if-yes.false) (sym no_is ∙ c.if-no.true))

pub returns-else-no : goal.returns-else-no
returns-else-no c =
    let yes_is = among_by c.args.known.now.yes (fact_value c.args.goal) c.yes.result (rw (c.set.ensures.parts, c.user.ensures.value) at c.yes.ensures) in
    let no_is = among_by c.args.known.now.no (fact_value c.args.goal) c.no.result (rw (c.set-else-yes.ensures.parts, c.user-else-yes.ensures.value) at c.no.ensures) in
    sym (by_none c.args.known.now (fact_value c.args.goal) c.args.reply (sym yes_is ∙ c.if-yes.false) (sym no_is ∙ c.if-no.false))
