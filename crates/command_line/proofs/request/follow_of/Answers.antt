use Rattle.std.proofs.Common.{◌≡◌, ◌∙◌, ap, sym, option_map, Some}
use Rattle.clap.specs.Words.{Text}
use Rattle.command_line.specs.Asked.{follows}
use Rattle.command_line.proofs.request.follow_of.Goals as goal

pub returns-in-Some-clause-asked : goal.returns-in-Some-clause-asked
returns-in-Some-clause-asked c t from carry oldest versions heartbeat f =
    let same : Some c.in-Some.trace.now ≡ Some t =
    sym (ap (option_map (λ s. s.now)) c.in-Some.is) ∙ c.text.ensures ∙ f.trace in
    rw (
      c.text-from.ensures ∙ f.from_given,
      c.text-carry.ensures ∙ f.carry_given,
      c.number-oldest.ensures.option oldest f.oldest_given,
      c.number-versions.ensures.option versions f.versions_given,
      c.has-heartbeat.ensures.whole heartbeat f.heartbeat_given,
    )
    (ap (option_map (λ (x : Text). follows x from carry oldest versions heartbeat)) same)
