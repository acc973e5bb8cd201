use Rattle.std.proofs.Common.{◌≡◌, arith, length, rules}
use Rattle.std.proofs.lemmas.Grind.{common_steps}
use Rattle.std.proofs.lemmas.List.{nil_from_length}
use Rattle.follow.proofs.ReportLemmas.{incomplete}
use Rattle.follow.proofs.handing.push_run_report.Goals as goal

pub returns : goal.returns
returns c =
    let none : length c.args.told.now ≡ 0 = grind (arith, common_steps, c.is_empty.ensures, c.if-not-is_empty.false) in
    rw (incomplete c.args.whole c.args.told.now c.args.entries (search rules) (nil_from_length c.args.told.now none))
    c.push_count.ensures
