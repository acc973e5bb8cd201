use Rattle.std.proofs.Common.{◌≡◌, ap, arith, map, string_bytes}
use Rattle.audit.specs.Devices.{reader, writer}
use Rattle.command_line.specs.Asked.{asked_in}
use Rattle.command_line.specs.declared.request.Answer.TheVariants.{Asks}
use Rattle.command_line.specs.declared.request.Request.TheVariants.{Joined}
use Rattle.new_enemy.proofs.RunLemmas.{joined_has_no_words, joined_runs, says_of_nothing, words_asked}
use Rattle.new_enemy.proofs.run.run_words.Goals as goal

pub returns-in-Ok-clause-joined : goal.returns-in-Ok-clause-joined
returns-in-Ok-clause-joined g c =
    let old = g.W.Sink.taken c.args.out.now in
    let new = g.W.Sink.taken c.run_answer.new.out in
    let done = c.run_answer.ensures in (
      λ is. joined_has_no_words old new c.run_answer.result.status c.run_answer.result.read (asked_in c.in-Ok.answer) done.asked
          done.none string_bytes c.args.words.now c.in-Ok.ensures.first is,
      λ none.
          let same : c.in-Ok.answer ≡ Asks Joined = cc (c.in-Ok.ensures.none none) in
          joined_runs old new c.run_answer.result.status c.run_answer.result.read (asked_in c.in-Ok.answer) done.asked done.none
          (ap asked_in same),
    )

pub returns-in-Ok-clause-asked : goal.returns-in-Ok-clause-asked
returns-in-Ok-clause-asked g c =
    let done = c.run_answer.ensures in
    words_asked (g.W.Sink.taken c.args.out.now) (g.W.Sink.taken c.run_answer.new.out) c.run_answer.result.status
    c.run_answer.result.read (asked_in c.in-Ok.answer) done.asked done.none (map string_bytes c.args.words.now)
    c.in-Ok.ensures.audit c.in-Ok.ensures.audit_made c.in-Ok.ensures.make c.in-Ok.ensures.history c.in-Ok.ensures.follow c.in-Ok.ensures.follow_input c.in-Ok.ensures.taken
    (λ is. c.in-Ok.ensures.shown (done.shown is)) c.in-Ok.ensures.first
    c.in-Ok.ensures.asked done.command

pub returns-in-Err-clause-says : goal.returns-in-Err-clause-says
returns-in-Err-clause-says g c =
    says_of_nothing
    (reader g.R.Source.given g.R.Source.ends g.R.Source.failures g.R.Read.remaining c.args.input.now) c.nothing.result 4
    (writer g.W.Sink.taken g.W.Sink.flushes g.W.Sink.failures g.W.Sink.idle g.W.Write.contents c.args.out.now)
    c.nothing.ensures (omega arith) (omega arith)
