use Rattle.std.proofs.Common.{rules}
use Rattle.std.proofs.lemmas.List.{take_rest}
use Rattle.devices.specs.Given.{StandBehind}
use Rattle.devices.proofs.Given.{by_take_some, by_finish, behind-trans}
use Rattle.devices.proofs.Sent.{sent_more}
use Rattle.devices.proofs.sending.send.Given.{Over}
use Rattle.devices.proofs.sending.send.Goals.{After-take_some, After-finish}
use Rattle.devices.proofs.sending.send.Goals as goal

-- what is held after each kind of call
after_some : (g : Over) (c : After-take_some g) → StandBehind g.W.Sink.taken g.W.Write.contents c.args.out.now c.take_some.new.self
after_some g c =
    behind-trans g.W.Sink.taken g.W.Write.contents c.args.out.now c.loop-turn.out c.take_some.new.self c.loop-turn.invariant.held
    (by_take_some g.W.Sink.taken g.W.Write.contents c.loop-turn.out c.take_some.new.self c.take_some.result _ c.take_some.ensures.takes c.take_some.ensures.bytes)

after_finish : (g : Over) (c : After-finish g) → StandBehind g.W.Sink.taken g.W.Write.contents c.args.out.now c.finish.new.self
after_finish g c =
    behind-trans g.W.Sink.taken g.W.Write.contents c.args.out.now c.loop-turn.out c.finish.new.self c.loop-turn.invariant.held
    (by_finish g.W.Sink.taken g.W.Write.contents c.loop-turn.out c.finish.new.self c.finish.ensures.takes c.finish.ensures.bytes)

pub loop-turn-preserved : goal.loop-turn-preserved
loop-turn-preserved g c = record {
  sent = sent_more _ _ _ c.args.bytes.now c.loop-turn.written c.in-Ok.n c.loop-turn.invariant.sent (rw (take_rest c.args.bytes.now c.loop-turn.written) at c.in-Ok.ensures.takes);
  within = search rules;
  turns = search rules;
  kept = search rules;
  busy = search rules;
  held = after_some g (goal.at.loop-turn-preserved g c).After-take_some;
  flushed = search rules;
}

pub returns-in-Ok-eq0-clause-held : goal.returns-in-Ok-eq0-clause-held
returns-in-Ok-eq0-clause-held g c = after_some g (goal.at.returns-in-Ok-eq0-clause-held g c).After-take_some

pub returns-in-Err-clause-held : goal.returns-in-Err-clause-held
returns-in-Err-clause-held g c = after_some g (goal.at.returns-in-Err-clause-held g c).After-take_some

pub returns-in-Err-finish-clause-held : goal.returns-in-Err-finish-clause-held
returns-in-Err-finish-clause-held g c = after_finish g (goal.at.returns-in-Err-finish-clause-held g c).After-finish

pub returns-in-Ok-finish-clause-held : goal.returns-in-Ok-finish-clause-held
returns-in-Ok-finish-clause-held g c = after_finish g (goal.at.returns-in-Ok-finish-clause-held g c).After-finish
