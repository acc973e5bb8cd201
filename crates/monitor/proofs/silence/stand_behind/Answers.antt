use Rattle.monitor.proofs.silence.stand_behind.Goals as goal

pub tell_further-requires-clause-stands : goal.tell_further-requires-clause-stands
tell_further-requires-clause-stands c = c.new-monitor.ensures.stands c.args.trace.now
