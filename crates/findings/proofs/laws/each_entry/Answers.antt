use Rattle.findings.proofs.EachEntryLemmas.{speaks_of_each}
use Rattle.findings.proofs.laws.each_entry.Goals as goal

pub returns : goal.returns
returns c = speaks_of_each c.args.trace.now (record {
  lines = c.entries_rise.ensures;
  versions = c.versions_issued_once.ensures;
  strata = c.valid_strata.ensures;
})
