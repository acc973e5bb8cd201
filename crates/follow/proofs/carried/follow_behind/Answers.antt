use Rattle.std.proofs.Common.{Ok, Err, refl}
use Rattle.audit.specs.Devices.{reads, writes}
use Rattle.follow.proofs.CarriedLemmas.{behind_ran, behind_refused}
use Rattle.follow.proofs.carried.follow_behind.Goals as goal

pub returns-in-Err : goal.returns-in-Err
returns-in-Err g c =
    behind_refused (λ r. (r.log, r.known)) (reads g.C.Source.given g.C.Source.ends g.C.Source.failures g.C.Read.remaining c.args.carry.now c.begin_with.new.carry)
    (reads g.A.Source.given g.A.Source.ends g.A.Source.failures g.A.Read.remaining c.args.trace.now c.args.trace.now)
    (writes g.W.Sink.taken g.W.Sink.flushes g.W.Sink.failures g.W.Sink.idle g.W.Write.contents c.args.out.now c.args.out.now)
    c.in-Err.refusal c.in-Err.ensures.read refl refl

pub returns-in-Ok-follow_run : goal.returns-in-Ok-follow_run
returns-in-Ok-follow_run g c =
    behind_ran (λ r. (r.log, r.known))
    (reads g.C.Source.given g.C.Source.ends g.C.Source.failures g.C.Read.remaining c.args.carry.now c.begin_with.new.carry)
    (reads g.A.Source.given g.A.Source.ends g.A.Source.failures g.A.Read.remaining c.args.trace.now c.follow_run.new.trace)
    (writes g.W.Sink.taken g.W.Sink.flushes g.W.Sink.failures g.W.Sink.idle g.W.Write.contents c.args.out.now c.follow_run.new.out)
    c.in-Ok.begun c.in-Ok.ensures.read (Ok c.in-Ok-follow_run.end) c.in-Ok-follow_run.ensures.run tt

pub returns : goal.returns
returns g c =
    behind_ran (λ r. (r.log, r.known))
    (reads g.C.Source.given g.C.Source.ends g.C.Source.failures g.C.Read.remaining c.args.carry.now c.begin_with.new.carry)
    (reads g.A.Source.given g.A.Source.ends g.A.Source.failures g.A.Read.remaining c.args.trace.now c.follow_run.new.trace)
    (writes g.W.Sink.taken g.W.Sink.flushes g.W.Sink.failures g.W.Sink.idle g.W.Write.contents c.args.out.now c.follow_run.new.out)
    c.in-Ok.begun c.in-Ok.ensures.read (Err c.in-Err-follow_run.fault) c.in-Err-follow_run.ensures.run
    c.in-Err-follow_run.ensures.kinds
