use Rattle.std.specs.Prelude.{◌≡◌, true}
use Rattle.std.proofs.lemmas.List.Elements.{recursion_from_All}
use Rattle.audit.specs.declared.plain.Verdict.TheVariants.{Clean}
use Rattle.run_laws.specs.Runs.{Ran}
use Rattle.run_laws.proofs.TogetherLemmas.{clean_together_law}
use Rattle.run_laws.proofs.laws.clean_together.Goals as goal

pub returns : goal.returns
returns c rs runs w says clean n settled =
    clean_together_law rs runs w says (recursion_from_All (λ (r : Ran). (r.end.verdict ≡ Clean) × (r.end.whole ≡ true)) rs clean) n settled
