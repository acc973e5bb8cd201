use Rattle.std.proofs.Common.{List, sym, subst}
use Rattle.std.proofs.lemmas.Result.{on_ok_weaker}
use Rattle.findings.specs.declared.finding.Finding.{Finding}
use Rattle.follow_laws.specs.Begun.{IsOfBytes}
use Rattle.monitor.specs.SoFar.{IsTold}
use Rattle.monitor.proofs.RunLemmas.{told_all, told_first}
use Rattle.monitor.proofs.whole.tell_all.Goals as goal

pub returns : goal.returns
returns g c =
    let t = c.args.trace.now in
    let placed = c.stand_in_order.ensures in
    let rising = c.entries_rise.ensures in
    let good : IsOfBytes t = record {
      rising = record { commits = placed.commits; entries = rising };
      formed = record { lines = rising; versions = c.versions_issued_once.ensures; strata = c.valid_strata.ensures };
    } in
    let start = c.args.told.now.items in
    let more = c.in_ok-tell_further.ensures.told in
    let told = subst (λ (fs : List Finding). IsTold g.J.Judge.allows 0 t c.tell_further.new.monitor start fs) (sym more.behind)
    (more.told 0 start start (told_first t placed rising g.J.Judge.allows c.new-monitor.result c.new-monitor.ensures.entries
    c.new-monitor.ensures.commits start)) in
    on_ok_weaker c.end.result (λ last.
    told_all t placed rising g.J.Judge.allows c.tell_further.new.monitor start c.tell_further.new.told.items
    c.end.new.told.items good told c.in_ok-tell_further.ensures.all last) c.end.ensures.told
