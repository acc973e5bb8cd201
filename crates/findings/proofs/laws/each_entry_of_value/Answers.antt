use Rattle.findings.proofs.EachEntryLemmas.{speaks_of_each}
use Rattle.findings.proofs.laws.each_entry_of_value.Goals as goal

pub returns : goal.returns
returns c = speaks_of_each
