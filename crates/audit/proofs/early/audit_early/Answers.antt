use Rattle.std.proofs.Common.{inl, inr, ap, rules}
use Rattle.devices.specs.Given.{OfWhole}
use Rattle.audit.specs.Audit.{IsOfBytes}
use Rattle.audit.specs.Early.{TellsEarly, state_of}
use Rattle.audit.specs.declared.early.Tellers.{Tellers}
use Rattle.audit.proofs.EarlyLemmas.{given_back}
use Rattle.audit.proofs.early.audit_early.Goals as goal

pub returns-clause-early : goal.returns-clause-early
returns-clause-early g c =
    given_back c.args.early.now c.audit_with.new.finder.early.now _
    (λ e. OfWhole g.A.Source.given g.A.Source.ends c.args.trace.now c.audit_with.new.trace
    (λ a. OfWhole g.B.Source.given g.B.Source.ends c.args.evidence.now c.audit_with.new.evidence (λ b.
    IsOfBytes a b
    (λ t given. TellsEarly t given
    (state_of g.E.Sink.taken g.E.Sink.failures g.E.Sink.idle g.E.Sink.since c.args.early.now)
    (state_of g.E.Sink.taken g.E.Sink.failures g.E.Sink.idle g.E.Sink.since e)))))
    (search rules)
    (elim c.audit_with.ensures.tells [
      | inl same ↦ inl (ap (λ (f : Tellers g.row.R.Denot g.row.E.Denot). f.early.now) same)
      | inr told ↦ inr told
    ])
