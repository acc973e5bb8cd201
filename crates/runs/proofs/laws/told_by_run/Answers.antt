use Rattle.runs.specs.Handed.{known_by}
use Rattle.runs.proofs.AlikeLemmas.{come_alike}
use Rattle.runs.proofs.KeptReadLemmas.{goes_behind}
use Rattle.runs.proofs.laws.told_by_run.Goals as goal

pub returns : goal.returns
returns c t u y carry a is low below one two first whole begun grown evidence own same =
    let alike = come_alike carry.lines t u is.log y a is.stands.declarations low one two in
    c.told_alike.ensures (known_by carry) carry.lines is.first t u is.log y
    (record { goes = alike.0; first = first; whole = whole })
    (record {
      goes = goes_behind (record { lines = carry.lines; log = is.log }) below a y two;
      first = begun;
      whole = grown;
    }) is.stands is.behind alike.1 evidence own same
