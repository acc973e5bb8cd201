use Rattle.std.proofs.Common.{rules}
use Rattle.audit.specs.Devices.{reads}
use Rattle.follow.proofs.CarriedLemmas.{read_failed, read_no_memory, read_too_long}
use Rattle.follow.proofs.carried.begin_with.Goals as goal

pub returns-in-Err-Read-clause-read : goal.returns-in-Err-Read-clause-read
returns-in-Err-Read-clause-read g c =
    let e = c.read_up_to.ensures in
    read_failed (λ r. (r.log, r.known))
    (reads g.C.Source.given g.C.Source.ends g.C.Source.failures g.C.Read.remaining c.args.carry.now c.read_up_to.new.reader)
    e.few e.known (e.failed (search rules))

pub returns-in-Err-TooLong-clause-read : goal.returns-in-Err-TooLong-clause-read
returns-in-Err-TooLong-clause-read g c =
    let e = c.read_up_to.ensures in
    read_too_long (λ r. (r.log, r.known))
    (reads g.C.Source.given g.C.Source.ends g.C.Source.failures g.C.Read.remaining c.args.carry.now c.read_up_to.new.reader)
    e.few e.known (c.in-Err-TooLong.ensures.kept (λ is. cc)) (e.long (search rules))

pub returns-in-Err-OutOfMemory-clause-read : goal.returns-in-Err-OutOfMemory-clause-read
returns-in-Err-OutOfMemory-clause-read g c =
    let e = c.read_up_to.ensures in
    read_no_memory (λ r. (r.log, r.known))
    (reads g.C.Source.given g.C.Source.ends g.C.Source.failures g.C.Read.remaining c.args.carry.now c.read_up_to.new.reader)
    e.few e.known (c.in-Err-OutOfMemory.ensures.kept (λ is. cc))

pub returns-clause-read : goal.returns-clause-read
returns-clause-read g c =
    let e = c.read_up_to.ensures in
    read_no_memory (λ r. (r.log, r.known))
    (reads g.C.Source.given g.C.Source.ends g.C.Source.failures g.C.Read.remaining c.args.carry.now c.read_up_to.new.reader)
    e.few e.known (c.in-Ok.ensures.kept (λ is. cc))
