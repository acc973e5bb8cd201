use Rattle.findings.proofs.EachEntryLemmas.{formed_by_bytes}
use Rattle.findings.proofs.laws.well_formed_of_bytes.Goals as goal

pub returns : goal.returns
returns c = formed_by_bytes
