use Rattle.std.proofs.Common.{◌∙◌, subst, sym}
use Rattle.tuple_text.specs.Grammar.{IsHead}
use Rattle.version_chains.proofs.TextLemmas.{goes_on-further, set-kept, span-kept}
use Rattle.trace_lines.proofs.entries.push_texts.Goals as goal

pub returns-in_err-label-clause-goes_on : goal.returns-in_err-label-clause-goes_on
returns-in_err-label-clause-goes_on c = goes_on-further _ _ _ c.push_set.ensures.goes_on c.push_label.ensures.goes_on

pub returns-clause-goes_on : goal.returns-clause-goes_on
returns-clause-goes_on c = goes_on-further _ _ _ c.push_set.ensures.goes_on c.push_label.ensures.goes_on

pub returns-clause-is : goal.returns-clause-is
returns-clause-is c =
    let on = c.push_label.ensures.goes_on in
    let goal = c.in_ok-goal.goal in
    let stands = set-kept _ _ on goal c.in_ok-goal.ensures.span ∙ c.in_ok-goal.ensures.set ∙ c.set.ensures.parts in
    record {
      goal = span-kept _ _ on goal c.in_ok-goal.ensures.span;
      head = subst IsHead (sym stands) c.set.ensures.form;
      label = c.in_ok-label.ensures.span;
    }
