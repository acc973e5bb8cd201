use Rattle.std.proofs.Common.{◌≡◌, ◌∙◌, Some, sym, subst}
use Rattle.trace_lines.specs.EntryViews.{entry_value}
use Rattle.evidence_maker.specs.Made.{IsOutOfReach}
use Rattle.evidence_maker.proofs.maker.Maker.make_after.Goals as goal

pub returns-clause-gave_up : goal.returns-clause-gave_up
returns-clause-gave_up c = λ gave e at.
    let value = rw (c.trace.ensures ∙ c.self.view_is) at c.entry-entry.ensures.value in
    let same : entry_value c.entry-entry.result ≡ e =
    (let p : Some (entry_value c.entry-entry.result) ≡ Some e = sym value ∙ at in cc) in
    let gave_up = rw c.self.view_is at c.made_for.ensures.gave_up in
    subst (IsOutOfReach c.args.self.now) same (gave_up gave)
