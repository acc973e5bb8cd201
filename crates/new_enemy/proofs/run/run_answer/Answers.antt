use Rattle.std.proofs.Common.{ℕ, List, ap, arith, ◌++◌, ◌∙◌}
use Rattle.audit.specs.Devices.{reader, writer, writes}
use Rattle.new_enemy.proofs.RunLemmas.{says_of_help, says_of_nothing, says_of_stopped}
use Rattle.new_enemy.proofs.run.run_answer.Goals as goal

pub returns-in-Ok-clause-says : goal.returns-in-Ok-clause-says
returns-in-Ok-clause-says g c =
    says_of_help
    (reader g.R.Source.given g.R.Source.ends g.R.Source.failures g.R.Read.remaining c.args.input.now)
    (writes g.W.Sink.taken g.W.Sink.flushes g.W.Sink.failures g.W.Sink.idle g.W.Write.contents c.args.out.now
    c.send.new.out) c.in-Shows.text
    (c.in-Ok.ensures.all ∙ ap (λ (l : List ℕ). g.W.Sink.taken c.args.out.now ++ l) c.as_bytes.ensures.value)
    c.in-Ok.ensures.flushed c.in-Ok.ensures.kept c.send.ensures.held

pub returns-in-Err-clause-says : goal.returns-in-Err-clause-says
returns-in-Err-clause-says g c =
    says_of_stopped
    (reader g.R.Source.given g.R.Source.ends g.R.Source.failures g.R.Read.remaining c.args.input.now) c.nothing.result
    (writes g.W.Sink.taken g.W.Sink.flushes g.W.Sink.failures g.W.Sink.idle g.W.Write.contents c.args.out.now
    c.send.new.out) c.nothing.ensures c.send.ensures.held

pub returns-in-Refuses-clause-says : goal.returns-in-Refuses-clause-says
returns-in-Refuses-clause-says g c =
    says_of_nothing
    (reader g.R.Source.given g.R.Source.ends g.R.Source.failures g.R.Read.remaining c.args.input.now)
    c.nothing-in-Refuses.result 3
    (writer g.W.Sink.taken g.W.Sink.flushes g.W.Sink.failures g.W.Sink.idle g.W.Write.contents c.args.out.now)
    c.nothing-in-Refuses.ensures (omega arith) (omega arith)
