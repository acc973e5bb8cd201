use Rattle.std.proofs.Common.{◌≡◌, Ok, true, false, ap}
use Rattle.follow.proofs.ReadLemmas.{line_refused, log_came}
use Rattle.follow.proofs.reading.take_line.Goals as goal

pub returns-in-Ok : goal.returns-in-Ok
returns-in-Ok g c = record {
  goes = λ is. c.in-Ok.ensures.goes (ap Ok (let same : c.in-Ok.more ≡ true = cc (is) in same));
  next = λ is. c.in-Ok.ensures.next (ap Ok (let same : c.in-Ok.more ≡ true = cc (is) in same));
  room = λ is. c.in-Ok.ensures.room (ap Ok (let same : c.in-Ok.more ≡ true = cc (is) in same));
  read = λ ended first start so_far says means.
      log_came g.R.Source.given g.R.Source.ends g.R.Source.failures g.R.Read.remaining first c.take_next.new.reader
      start c.take_next.new.value says means c.in-Ok.more (c.in-Ok.ensures.read (λ is.
      let same : c.in-Ok.more ≡ true = cc (is) in ended (ap Ok same)) first start so_far);
  counted = λ is. c.in-Ok.ensures.last (ap Ok (let same : c.in-Ok.more ≡ false = cc (is) in same));
  known = c.in-Ok.ensures.known;
}

pub returns-in-Err : goal.returns-in-Err
returns-in-Err g c = record {
  goes = λ is. absurd (cc (is));
  next = λ is. absurd (cc (is));
  room = λ is. absurd (cc (is));
  read = λ ended first start so_far says means.
      line_refused g.R.Source.given g.R.Source.ends g.R.Source.failures g.R.Read.remaining first c.take_next.new.reader
      start c.take_next.new.value says means c.in-Err.fault _ c.cause.ensures c.in-Err.ensures.told
      (c.in-Err.ensures.read (λ no. cc) first start so_far) _ c.from.ensures;
  counted = λ is. absurd (cc (is));
  known = c.in-Err.ensures.known;
}
